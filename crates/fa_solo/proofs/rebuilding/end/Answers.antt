use Rattle.std.proofs.Common.{refl, sym, ◌∙◌}
use Rattle.std.proofs.lemmas.Bool.{false≢true}
use Rattle.fa_solo.proofs.rebuilding.end.Goals as goal

pub returns : goal.returns
returns g c = record { step = c.in-Some.ensures.some; left = c.end_batch.ensures.rest; images = refl; dies = refl }

pub unreachable-requires : goal.unreachable-requires
unreachable-requires g c = false≢true (sym c.in_default.ensures.none.0 ∙ c.requires)
