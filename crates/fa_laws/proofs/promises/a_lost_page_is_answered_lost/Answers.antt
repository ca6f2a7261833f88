use Rattle.fa_laws.specs.Reading.{IsAnsweredLost}
use Rattle.fa_machine.specs.Copies.{is_lost}
use Rattle.fa_machine.specs.Reading.{Admits, Admitted}
use Rattle.fa_machine.specs.State.{Core, MapState}
use Rattle.fa_machine.specs.declared.refusals.AdmitRefused.{AdmitRefused}
use Rattle.fa_machine.specs.declared.refusals.AdmitRefused.TheVariants.{CalendarFull, Lost, NoMemory as AdmitNoMemory}
use Rattle.fa_machine.specs.declared.refusals.AdmitRefused.TheVariants.{Spent as AdmitSpent}
use Rattle.std.proofs.Common.{List, None, Some, [], ap, cond, inl, inr, refl, sym, true, ℕ, ◌||◌, ◌∙◌, ◌∷◌, ◌≡◌}
use Rattle.std.proofs.lemmas.Bool.{cases_Bool, false≢true}
use Rattle.std.proofs.lemmas.Option.{none-some}
use Rattle.std.specs.List.{list_any}
use Rattle.std.specs.Prelude.{Err, Ok, Result, find}
use Rattle.fa_laws.proofs.promises.a_lost_page_is_answered_lost.Goals as goal

nothing_lost : (m : MapState) (pages : List ℕ) → find (is_lost m) pages ≡ None → list_any (is_lost m) pages ≡ true → ⊥
nothing_lost m [] e lost = false≢true lost
nothing_lost m (p ∷ ps) e lost =
    elim (cases_Bool (is_lost m p)) [
      | inl here ↦ none-some p (sym e ∙ ap (λ b. cond b (Some p) (find (is_lost m) ps)) here)
      | inr away ↦ nothing_lost m ps (sym (ap (λ b. cond b (Some p) (find (is_lost m) ps)) away) ∙ e)
          (sym (ap (λ b. b || list_any (is_lost m) ps) away) ∙ lost)
    ]

answered_lost : (old new : Core) (pages : List ℕ) (answer : Result Admitted AdmitRefused) → Admits old pages answer new
    → list_any (is_lost old.page_map) pages ≡ true → IsAnsweredLost old pages answer
answered_lost old new pages (Ok admitted) d lost = absurd (nothing_lost old.page_map pages d.0.0 lost)
answered_lost old new pages (Err (Lost page)) d lost = (page, d.0, refl)
answered_lost old new pages (Err CalendarFull) d lost = absurd (nothing_lost old.page_map pages d.0.0 lost)
answered_lost old new pages (Err AdmitSpent) d lost = absurd (nothing_lost old.page_map pages d.0.0 lost)
answered_lost old new pages (Err AdmitNoMemory) d lost = absurd (nothing_lost old.page_map pages d.0.0 lost)

pub returns : goal.returns
returns c w after pages answer happens lost = answered_lost w.core after.core pages answer happens.step.does lost
