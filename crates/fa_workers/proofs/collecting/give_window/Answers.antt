use Rattle.std.proofs.Common.{◌≡◌, ◌∙◌, ◌<◌, ◌≤◌, Bool, Ok, Err, ℕ, Result, ap, false, is_ok, refl, sym}
use Rattle.std.proofs.lemmas.Bool.{and_from, both_ways, le-leb, lt-ltb}
use Rattle.std.specs.Prelude.{◌&&◌, nat_le}
use Rattle.fa_machine.specs.Looks.{wants_window}
use Rattle.fa_machine.specs.State.{Core}
use Rattle.fa_machine.specs.Step.{Step, Window, is_die}
use Rattle.fa_machine.specs.declared.refusals.WindowRefused.{WindowRefused}
use Rattle.fa_types.specs.declared.numbers.Round.{Round}
use Rattle.fa_workers.specs.Windows.{Given, GivesWindow, NoWindow, Refused, Wants}
use Rattle.fa_workers.proofs.collecting.give_window.Goals as goal

answered : (rounds : ℕ) (old : Core) (die : ℕ) (answer : Result Round WindowRefused) (given : Bool) (new : Core)
    → Step old (Window die rounds answer) new → given ≡ is_ok answer → GivesWindow rounds old die given new
answered rounds old die (Ok first) given new step e = Given first step e
answered rounds old die (Err refused) given new step e = Refused refused step e

-- a die of the array is given no window where none has so many rounds
no_window : (core : Core) (die rounds : ℕ) → die < core.page_map.geometry.dies
    → (is_die core die && nat_le 1 rounds && nat_le rounds 64) ≡ false → (1 ≤ rounds) × (rounds ≤ 64) → ⊥
no_window core die rounds inside none may =
    both_ways (is_die core die && nat_le 1 rounds && nat_le rounds 64) none
    (and_from (is_die core die && nat_le 1 rounds) (nat_le rounds 64)
    (and_from (is_die core die) (nat_le 1 rounds) (lt-ltb die core.page_map.geometry.dies inside) (le-leb 1 rounds may.0))
    (le-leb rounds 64 may.1))

pub returns-in-Some-clause-gives : goal.returns-in-Some-clause-gives
returns-in-Some-clause-gives g c = answered _ _ _ c.in-Some.answer _ _ c.in-Some.ensures.some c.is_ok.ensures.value

pub returns-then-not-wants_window-clause-gives : goal.returns-then-not-wants_window-clause-gives
returns-then-not-wants_window-clause-gives g c =
    Wants (ap (λ (core : Core). wants_window core.page_map c.args.die.0) (sym c.array.ensures.state) ∙ sym c.wants_window.ensures
    ∙ c.if-not-wants_window.true) refl refl

pub returns-in-None-clause-gives : goal.returns-in-None-clause-gives
returns-in-None-clause-gives g c =
    NoWindow (no_window c.args.locked.now.core c.args.die.0 c.args.rounds c.requires c.in-None.ensures.none.0) c.in-None.ensures.none.1 refl
