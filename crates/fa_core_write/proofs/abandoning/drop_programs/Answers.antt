use Rattle.std.proofs.Common.{refl, ap, sym, ◌∙◌}
use Rattle.fa_core_tables.proofs.Filters.{filter_all}
use Rattle.fa_core_write.proofs.Abandoned.{others_next}
use Rattle.std.specs.Prelude.{filter}
use Rattle.fa_core_write.proofs.abandoning.drop_programs.Goals as goal

pub loop-index-init : goal.loop-index-init
loop-index-init g c = (sym (filter_all _), refl)

pub loop-index-preserved : goal.loop-index-preserved
loop-index-preserved g c = (
  c.drop_place.ensures.waiting ∙ ap (filter _) c.loop-index.invariant.0
      ∙ others_next c.args.slots.now c.loop-index.index _ _ c.loop-index-test.true,
  c.drop_place.ensures.dies ∙ c.loop-index.invariant.1,
)
