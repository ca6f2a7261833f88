-- Runs in which a page is not written.
use Rattle.std.specs.Prelude.{◌≡◌, ℕ, List, [], ◌∷◌, Ok}
use Rattle.fa_machine.specs.Run.{Happening, Event, Happens}
use Rattle.fa_machine.specs.Step.{Commit}
use Rattle.fa_machine.specs.World.{World}
use Rattle.fa_machine.specs.Writing.{claimed_page}

-- no number is given to the page
abbrev pub LeavesPage : ℕ → World → Happening → Type 0
LeavesPage page before (Event (Commit claim seat (Ok seq))) = claimed_page before.core claim ≡ page → ⊥
LeavesPage page before happening = Unit {0}

abbrev pub RunLeaving : ℕ → World → List Happening → World → Type 0
RunLeaving page before [] after = after ≡ before
RunLeaving page before (happening ∷ happenings) after =
    (middle : World) × Happens before happening middle × LeavesPage page before happening × RunLeaving page middle happenings after
