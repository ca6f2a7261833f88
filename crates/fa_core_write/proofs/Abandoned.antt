-- Programs that go with their slots, one slot after the other, and slots of live dies.
use Rattle.fa_machine.specs.State.{WaitingProgram}
use Rattle.fa_machine.specs.declared.places.Target.{Target}
use Rattle.fa_core_write.proofs.Placed.{take_more}
use Rattle.std.proofs.Common.{Bool, List, [], ap, cond, false, get_or, inl, inr, length, refl, sym, take, true, ℕ, ◌+◌, ◌<◌}
use Rattle.std.proofs.Common.{◌∙◌, ◌∷◌, ◌≡◌}
use Rattle.std.proofs.lemmas.Bool.{cases_Bool}
use Rattle.std.proofs.lemmas.List.Folds.{list_any-append}
use Rattle.std.specs.List.{list_any}
use Rattle.std.specs.Prelude.{filter, not, ◌&&◌, ◌==◌, ◌||◌}

-- what is left of two tests, one after the other
filter_twice : {X : Type 0} (p q : X → Bool) (xs : List X) → filter p (filter q xs) ≡ filter (λ x. q x && p x) xs
filter_twice p q [] = refl
filter_twice p q (x ∷ xs) =
    elim (cases_Bool (q x)) [
      | inl kept ↦
          ap (λ b. filter p (cond b (x ∷ filter q xs) (filter q xs))) kept
          ∙ ap (cond (p x) (x ∷ filter p (filter q xs))) (filter_twice p q xs)
          ∙ ap (λ ys. cond (p x) (x ∷ ys) (filter (λ y. q y && p y) xs)) (filter_twice p q xs)
          ∙ sym (ap (λ b. cond (b && p x) (x ∷ filter (λ y. q y && p y) xs) (filter (λ y. q y && p y) xs)) kept)
      | inr gone ↦
          ap (λ b. filter p (cond b (x ∷ filter q xs) (filter q xs))) gone ∙ filter_twice p q xs
          ∙ sym (ap (λ b. cond (b && p x) (x ∷ filter (λ y. q y && p y) xs) (filter (λ y. q y && p y) xs)) gone)
    ]

-- tests that agree leave the same
filter_alike : {X : Type 0} (p q : X → Bool) → ((x : X) → p x ≡ q x) → (xs : List X) → filter p xs ≡ filter q xs
filter_alike p q same [] = refl
filter_alike p q same (x ∷ xs) = λ i. cond (same x i) (x ∷ filter_alike p q same xs i) (filter_alike p q same xs i)

-- whether a program is in the slot of a target, and whether it is in one of some
abbrev pub is_its : Target → WaitingProgram → Bool
is_its t p = t.die.0 == p.die && t.slot.0 == p.slot

abbrev pub others_of : List Target → List WaitingProgram → List WaitingProgram
others_of ts ps = filter (λ (p : WaitingProgram). not (list_any (λ (t : Target). t.die.0 == p.die && t.slot.0 == p.slot) ts)) ps

neither : (a b : Bool) → (not a && not b) ≡ not (a || (b || false))
neither true b = refl
neither false true = refl
neither false false = refl

-- one slot more
pub others_next : (ts : List Target) (n : ℕ) (d : Target) (ps : List WaitingProgram) → n < length ts
    → filter (λ (p : WaitingProgram). not ((get_or ts n d).die.0 == p.die && (get_or ts n d).slot.0 == p.slot)) (others_of (take n ts) ps)
    ≡ others_of (take (n + 1) ts) ps
others_next ts n d ps low =
    filter_twice _ _ ps
    ∙ filter_alike _ _ (λ p. neither (list_any (λ t. is_its t p) (take n ts)) (is_its (get_or ts n d) p)
    ∙ ap not (sym (list_any-append (λ t. is_its t p) (take n ts) (get_or ts n d ∷ [])))
    ∙ ap (λ xs. not (list_any (λ t. is_its t p) xs)) (sym (take_more ts n d low))) ps
