use Rattle.std.proofs.Common.{subst}
use Rattle.std.proofs.lemmas.Result.{on_ok_weaker}
use Rattle.serde.specs.Event.{Logs, text}
use Rattle.fa_prog_images.specs.Documents.{place_data}
use Rattle.fa_prog_images.proofs.Sends.{sends_mapped}
use Rattle.fa_prog_images.proofs.document.PageRowSerialize.serialize.Goals as goal

pub returns : goal.returns
returns g c =
    let w = g.S.Serializer.written in
    on_ok_weaker c.end_map.result (λ ended. (
      w c.begin_map.new.self,
      c.in_ok-begin_map.ensures,
      (
        c.in_ok-write_member.ensures.0,
        w c.write_member.new.out,
        c.in_ok-write_member.ensures.1,
        c.in_ok-write_member.ensures.2,
        (
          c.in_ok-write_member-2.ensures.0,
          w c.write_member-2.new.out,
          c.in_ok-write_member-2.ensures.1,
          c.in_ok-write_member-2.ensures.2,
          (
            c.in_ok-write_member-3.ensures.0,
            w c.write_member-3.new.out,
            c.in_ok-write_member-3.ensures.1,
            subst (λ word. Logs c.in_ok-write_member-3.ensures.0 (w c.write_member-3.new.out) (text word)) c.kind_word.ensures c.in_ok-write_member-3.ensures.2,
            (
              c.in_ok-write_member-4.ensures.0,
              w c.write_member-4.new.out,
              c.in_ok-write_member-4.ensures.1,
              sends_mapped place_data (λ copy. (copy.die, copy.slot)) c.args.self.now.copies.items _ _ c.in_ok-write_member-4.ensures.2,
              ended,
            ),
          ),
        ),
      ),
    )) c.end_map.ensures
