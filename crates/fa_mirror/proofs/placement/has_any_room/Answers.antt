use Rattle.fa_machine.specs.Placement.{room}
use Rattle.fa_machine.specs.State.{is_live}
use Rattle.fa_types.specs.declared.geometry.Geometry.{Geometry}
use Rattle.std.proofs.Common.{ap, arith, inl, inr, sym, ◌<◌, ◌≡◌}
use Rattle.std.proofs.lemmas.Bool.{and_left, cases_lt, false_from_ne_true}
use Rattle.std.specs.Prelude.{nat_lt}
use Rattle.fa_mirror.proofs.placement.has_any_room.Goals as goal

pub returns-clause-none : goal.returns-clause-none
returns-clause-none g c = λ is die.
    let m = g.M.Map.view c.args.map.now in
    let dies = ap (λ (k : Geometry). k.dies) c.geometry-die-end.ensures in
    let all = c.loop-die-test.false in
    elim (cases_lt die m.geometry.dies) [
      | inl low ↦ c.loop-die.invariant die (omega (arith, low, dies, all))
      | inr high ↦ and_left (is_live m die) (nat_lt 0 (room m die))
          (false_from_ne_true (is_live m die) (λ on. let low = (g.met.M.Map.whole c.args.map.now).live die on in omega (arith, low, high)))
    ]
