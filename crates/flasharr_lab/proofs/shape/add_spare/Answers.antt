use Rattle.fa_set.specs.Members.{members}
use Rattle.flasharr_lab.proofs.Few.{one_apart, one_more}
use Rattle.flasharr_lab.specs.Apart.{AreApart}
use Rattle.fa_machine.specs.Maps.{Numbers}
use Rattle.std.proofs.Common.{subst, sym, ◌+◌, ◌≤◌, ◌∙◌}
use Rattle.std.specs.FinMap.{len}
use Rattle.flasharr_lab.proofs.shape.add_spare.Goals as goal

pub returns-then-not-is_live-clause-apart : goal.returns-then-not-is_live-clause-apart
returns-then-not-is_live-clause-apart g c =
    let m = g.M.Map.view c.args.page_map.now in
    let Apart : Numbers → Type 0 = λ spares. AreApart m spares in
    subst Apart (sym c.insert.ensures.members)
    (one_apart m (members c.args.spares.now) c.args.die.0 (sym c.is_live.ensures ∙ c.if-not-is_live.true) c.requires.apart)

pub returns-then-not-is_live-clause-few : goal.returns-then-not-is_live-clause-few
returns-then-not-is_live-clause-few g c =
    let Few : Numbers → Type 0 = λ spares. len spares ≤ len (members c.args.spares.now) + 1 in
    subst Few (sym c.insert.ensures.members) (one_more (members c.args.spares.now) c.args.die.0)
