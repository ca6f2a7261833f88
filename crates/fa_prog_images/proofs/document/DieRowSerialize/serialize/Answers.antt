use Rattle.std.proofs.lemmas.Result.{on_ok_weaker}
use Rattle.serde_json.specs.Data.{boolean, string}
use Rattle.fa_prog_images.specs.Documents.{whole}
use Rattle.fa_prog_images.proofs.Sends.{sends_known, sends_option}
use Rattle.fa_prog_images.proofs.document.DieRowSerialize.serialize.Goals as goal

pub returns : goal.returns
returns g c =
    let w = g.S.Serializer.written in
    on_ok_weaker c.end_map.result (λ ended. (
      w c.begin_map.new.self,
      c.in_ok-begin_map.ensures,
      (
        c.in_ok-write_member.ensures.0,
        w c.write_member.new.out,
        c.in_ok-write_member.ensures.1,
        c.in_ok-write_member.ensures.2,
        (
          c.in_ok-write_member-2.ensures.0,
          w c.write_member-2.new.out,
          c.in_ok-write_member-2.ensures.1,
          sends_option _ (λ path. string path.now) (λ x old new h. h) c.args.self.now.path _ _ c.in_ok-write_member-2.ensures.2,
          (
            c.in_ok-write_member-3.ensures.0,
            w c.write_member-3.new.out,
            c.in_ok-write_member-3.ensures.1,
            c.in_ok-write_member-3.ensures.2,
            (
              c.in_ok-write_member-4.ensures.0,
              w c.write_member-4.new.out,
              c.in_ok-write_member-4.ensures.1,
              sends_known _ whole (λ x old new h. h) c.epoch.result _ c.epoch.ensures _ _ c.in_ok-write_member-4.ensures.2,
              (
                c.in_ok-write_member-5.ensures.0,
                w c.write_member-5.new.out,
                c.in_ok-write_member-5.ensures.1,
                sends_known _ boolean (λ x old new h. h) c.clean.result _ c.clean.ensures _ _ c.in_ok-write_member-5.ensures.2,
                (
                  c.in_ok-write_member-6.ensures.0,
                  w c.write_member-6.new.out,
                  c.in_ok-write_member-6.ensures.1,
                  sends_known _ whole (λ x old new h. h) c.erased.result _ c.erased.ensures _ _ c.in_ok-write_member-6.ensures.2,
                  (
                    c.in_ok-write_member-7.ensures.0,
                    w c.write_member-7.new.out,
                    c.in_ok-write_member-7.ensures.1,
                    sends_known _ whole (λ x old new h. h) c.current.result _ c.current.ensures _ _ c.in_ok-write_member-7.ensures.2,
                    (
                      c.in_ok-write_member-8.ensures.0,
                      w c.write_member-8.new.out,
                      c.in_ok-write_member-8.ensures.1,
                      sends_known _ whole (λ x old new h. h) c.stale.result _ c.stale.ensures _ _ c.in_ok-write_member-8.ensures.2,
                      ended,
                    ),
                  ),
                ),
              ),
            ),
          ),
        ),
      ),
    )) c.end_map.ensures
