-- The first copy of a page on a die from one on.
use Rattle.std.proofs.Common.{◌≡◌, ℕ, Bool, true, List, [], ◌∷◌, Option, Some, None, cond, ap, inl, inr, refl, sym, subst, ◌∙◌}
use Rattle.std.proofs.lemmas.Bool.{cases_Bool, false≢true}
use Rattle.std.proofs.lemmas.Option.{none-some, same_Some}
use Rattle.std.specs.Prelude.{IfSome, find, is_some, option_map}
use Rattle.fa_types.specs.declared.numbers.Die.{Die}
use Rattle.fa_types.specs.declared.numbers.Slot.{Slot}
use Rattle.fa_machine.specs.declared.places.Used.{Used}
use Rattle.fa_machine.specs.Copies.{copy_on}
use Rattle.fa_machine.specs.State.{MapState}
use Rattle.fa_map_calls.specs.Plain.{holds}
use Rattle.fa_map_calls.specs.Slots.{first_holder}

-- the first copy, by the numbers of its die and slot
abbrev pub IsFirstCopy : MapState → ℕ → ℕ → Option (ℕ × ℕ) → Type 0
IsFirstCopy m page from next =
    (option_map (λ (p : ℕ × ℕ). p.0) next ≡ first_holder m page from) × IfSome next (λ p. copy_on m page p.0 ≡ Some p.1)

abbrev pub numbers_of : Die × Slot → ℕ × ℕ
numbers_of copy = (copy.0.0, copy.1.0)

-- as the calls tell it
pub first_told : (m : MapState) (page from : ℕ) (copy : Option (Die × Slot)) (next : Option (ℕ × ℕ)) → option_map numbers_of copy ≡ next
    → IsFirstCopy m page from next
    → (option_map (λ (c : Die × Slot). c.0.0) copy ≡ first_holder m page from) × IfSome copy (λ c. copy_on m page c.0.0 ≡ Some c.1.0)
first_told m page from None next e is = subst (IsFirstCopy m page from) (sym e) is
first_told m page from (Some c) next e is = subst (IsFirstCopy m page from) (sym e) is

-- what is found passes
pub found_passes : (test : ℕ → Bool) (xs : List ℕ) (k : ℕ) → find test xs ≡ Some k → test k ≡ true
found_passes test [] k e = absurd (none-some k e)
found_passes test (x ∷ xs) k e =
    elim (cases_Bool (test x)) [
      | inl passes ↦ ap test (sym (same_Some x k (sym (ap (λ b. cond b (Some x) (find test xs)) passes) ∙ e))) ∙ passes
      | inr fails ↦ found_passes test xs k (sym (ap (λ b. cond b (Some x) (find test xs)) fails) ∙ e)
    ]

pub held_some : (page : ℕ) (used : Option Used) → holds page used ≡ true → is_some used ≡ true
held_some page None e = absurd (false≢true e)
held_some page (Some used) e = refl
