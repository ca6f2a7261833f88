use Rattle.std.proofs.Common.{sym}
use Rattle.fa_nego.proofs.Replies.{told_is}
use Rattle.fa_nego.proofs.reply.information.Goals as goal

pub returns : goal.returns
returns g c asked are =
    let name = c.in_ok-push_if_asked.ensures asked are in
    let sizes = c.in_ok-push_if_asked-2.ensures asked are in
    rw (c.in_ok-push_reply-2.ensures, sizes, name, c.in_ok-push_reply.ensures, c.new-said.ensures.items, c.kind_bytes.ensures, c.size_and_flags.ensures, c.block_sizes.ensures)
    (sym (told_is c.args.export.now c.args.size c.args.option asked))
