use Rattle.fa_core_batches.proofs.Handed.{handed_more}
use Rattle.fa_types.specs.declared.numbers.Page.{Page}
use Rattle.std.proofs.Common.{arith}
use Rattle.fa_core_batches.proofs.lists.hand_out.Goals as goal

pub hand_out_page-requires : goal.hand_out_page-requires
hand_out_page-requires g c =
    let few = c.loop-page.invariant.few in
    let room = c.loop-page.invariant.room in
    let enough = c.requires.room in
    omega (arith, few, room, enough)

pub loop-page-preserved : goal.loop-page-preserved
loop-page-preserved g c =
    let z : Page = record { 0 = 0 } in
    handed_more c.args.batch.0 c.args.list.now c.loop-page.page-index z (omega arith) c.requires.distinct _ _ _ _ _ _ c.loop-page.invariant
    c.hand_out_page.ensures.answers c.hand_out_page.ensures.room c.hand_out_page.ensures.few c.hand_out_page.ensures.left
