-- The holders of a page along its chain of copies.
use Rattle.fa_machine.specs.Copies.{holds_page}
use Rattle.fa_machine.specs.State.{MapState}
use Rattle.fa_map_calls.specs.Slots.{first_holder}
use Rattle.fa_types.specs.declared.numbers.Die.{Die}
use Rattle.fa_types.specs.declared.numbers.Slot.{Slot}
use Rattle.std.proofs.Common.{Bool, List, None, Option, Some, [], ap, arith, cond, false, refl, suc, sym, true, zero, ℕ, ◌+◌, ◌-◌, ◌<◌, ◌≤◌}
use Rattle.std.proofs.Common.{◌∙◌, ◌∷◌, ◌≡◌}
use Rattle.std.proofs.lemmas.Option.{none-some, same_Some}
use Rattle.std.specs.List.{range_with_len}
use Rattle.std.proofs.lemmas.List.{append_assoc, map-append}
use Rattle.std.specs.Prelude.{filter, find, length, map, option_map, ◌++◌}

module _ (p : ℕ → Bool) where
  pub none_left : (first n : ℕ) → find p (range_with_len first n) ≡ None → filter p (range_with_len first n) ≡ []
  none_left first zero none = refl
  none_left first (suc n) none = go (p first) none (none_left (first + 1) n)
    where
      go : (b : Bool) → cond b (Some first) (find p (range_with_len (first + 1) n)) ≡ None
          → (find p (range_with_len (first + 1) n) ≡ None → filter p (range_with_len (first + 1) n) ≡ [])
          → cond b (first ∷ filter p (range_with_len (first + 1) n)) (filter p (range_with_len (first + 1) n)) ≡ []
      go true none later = absurd (none-some first (sym none))
      go false none later = later none

  pub record Next (first n k : ℕ) : Type 0 where
    pub from : first ≤ k
    pub below : k < first + n
    pub rest : filter p (range_with_len first n) ≡ k ∷ filter p (range_with_len (k + 1) (first + n - (k + 1)))

  pub next_left : (first n k : ℕ) → find p (range_with_len first n) ≡ Some k → Next first n k
  next_left first zero k found = absurd (none-some k found)
  next_left first (suc n) k found = go (p first) refl found (next_left (first + 1) n k)
    where
      go : (b : Bool) → p first ≡ b → cond b (Some first) (find p (range_with_len (first + 1) n)) ≡ Some k
          → (find p (range_with_len (first + 1) n) ≡ Some k → Next (first + 1) n k) → Next first (suc n) k
      go true is found later =
          let same : first ≡ k = same_Some first k found in
          record {
            from = omega (arith, same);
            below = omega (arith, same);
            rest = ap (λ b. cond b (first ∷ filter p (range_with_len (first + 1) n)) (filter p (range_with_len (first + 1) n))) is
                ∙ (λ i. same i ∷ filter p (range_with_len (same i + 1) n))
                ∙ ap (λ m. k ∷ filter p (range_with_len (k + 1) m)) (omega (arith, same));
          }
      go false is found later =
          let next = later found in let from = next.from in let below = next.below in
          record {
            from = omega (arith, from);
            below = omega (arith, below);
            rest = ap (λ b. cond b (first ∷ filter p (range_with_len (first + 1) n)) (filter p (range_with_len (first + 1) n))) is
                ∙ next.rest
                ∙ ap (λ m. k ∷ filter p (range_with_len (k + 1) m)) (omega (arith, from));
          }

-- the dies of the copies from one on, along the chain
abbrev pub dies_left : MapState → ℕ → Option (Die × Slot) → List ℕ
dies_left m page None = []
dies_left m page (Some copy) =
    copy.0.0 ∷ filter (holds_page m page) (range_with_len (copy.0.0 + 1) (m.geometry.dies - (copy.0.0 + 1)))

pub left_from : (m : MapState) (page first : ℕ) (copy : Option (Die × Slot))
    → option_map (λ (c : Die × Slot). c.0.0) copy ≡ first_holder m page first
    → dies_left m page copy ≡ filter (holds_page m page) (range_with_len first (m.geometry.dies - first))
left_from m page first None at = sym (none_left (holds_page m page) first (m.geometry.dies - first) (sym at))
left_from m page first (Some c) at =
    let next = next_left (holds_page m page) first (m.geometry.dies - first) c.0.0 (sym at) in
    let from = next.from in let below = next.below in
    sym (next.rest ∙ ap (λ n. c.0.0 ∷ filter (holds_page m page) (range_with_len (c.0.0 + 1) n)) (omega (arith, from, below)))

-- one copy more was taken
module _ (m : MapState) (page : ℕ) (die : Die) (slot : Slot) (next : Option (Die × Slot))
    (at : option_map (λ (c : Die × Slot). c.0.0) next ≡ first_holder m page (die.0 + 1)) where
  pub fewer_left : length (dies_left m page next) < length (dies_left m page (Some (die, slot)))
  fewer_left = let same = ap length (left_from m page (die.0 + 1) next at) in omega (arith, same)

  pub one_taken : (dies : List Die) (whole : List ℕ) → map (λ (d : Die). d.0) dies ++ dies_left m page (Some (die, slot)) ≡ whole
      → map (λ (d : Die). d.0) (dies ++ die ∷ []) ++ dies_left m page next ≡ whole
  one_taken dies whole is =
      ap (λ ds. ds ++ dies_left m page next) (map-append (λ (d : Die). d.0) dies (die ∷ []))
      ∙ append_assoc (map (λ (d : Die). d.0) dies) (die.0 ∷ []) (dies_left m page next)
      ∙ ap (λ ds. map (λ (d : Die). d.0) dies ++ die.0 ∷ ds) (left_from m page (die.0 + 1) next at)
      ∙ is
