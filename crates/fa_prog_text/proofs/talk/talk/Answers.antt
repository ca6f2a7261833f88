use Rattle.fa_prog_text.proofs.TalkLemmas.{Talks-of}
use Rattle.fa_prog_text.proofs.talk.talk.Goals as goal

pub returns-in-Ok-talk_text-clause-talks : goal.returns-in-Ok-talk_text-clause-talks
returns-in-Ok-talk_text-clause-talks g c =
    Talks-of c.args.size _ c.args.text.now _ c.in_ok-bytes.bytes.items c.as_slice-reader.result.now c.serve_stream-end.new.reader.now
    c.new-written.result.items c.serve_stream-end.new.writer.items c.deref.result.now c.in-Ok.store c.serve_stream-end.new.blocks c.serve_stream-end.result
    c.in_ok-bytes.ensures.bytes c.in-Ok.ensures c.as_slice-reader.ensures.value c.new-written.ensures.items c.deref.ensures.value c.serve_stream-end.ensures c.in-Ok-talk_text.ensures
