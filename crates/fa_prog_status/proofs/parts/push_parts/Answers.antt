use Rattle.std.proofs.Common.{◌++◌, [], ap, ◌∙◌, sym, string_bytes, take, get_or}
use Rattle.std.proofs.lemmas.List.{flat_map_more, take_more}
use Rattle.std.specs.List.{flat_map}
use Rattle.fa_prog_status.proofs.parts.push_parts.Goals as goal

pub loop-part-preserved : goal.loop-part-preserved
loop-part-preserved c =
    let parts = c.args.parts.now in
    let index = c.loop-part.part-index in
    let before = string_bytes c.args.out.now in
    let added = get_or parts index record { ref_ptr = (0, 0); now = [] } in
    c.in_ok-push_str.ensures.bytes ∙ ap (λ text. text ++ added.now) c.loop-part.invariant
    ∙ flat_map_more (λ part. part.now) before (take index parts) added
    ∙ ap (λ some. before ++ flat_map (λ part. part.now) some) (sym (take_more parts index record { ref_ptr = (0, 0); now = [] } c.loop-part-test.true))
