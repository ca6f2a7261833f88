-- The dies that are marked in a table, one by one, and the open places that they have.
use Rattle.std.proofs.Common.{◌≡◌, ℕ, zero, suc, ◌+◌, ◌≤◌, Bool, true, false, List, [], ◌∷◌, get_or, refl, ap, ◌∙◌, arith, add-one}
use Rattle.std.proofs.lemmas.List.Sums.{sum_by-cons}
use Rattle.std.proofs.lemmas.Bool.{cond-true, cond-false}
use Rattle.fa_types.specs.Open.{open_among}
use Rattle.fa_batch_terms.specs.Certificate.{open_places}
use Rattle.fa_cert_places.specs.OpenCounts.{marked}

pub marked-none : (marks : List Bool) → marked marks 0 ≡ []
unfolding marked
marked-none marks = refl

pub marked-yes : (marks : List Bool) (n : ℕ) → get_or marks n false ≡ true → marked marks (n + 1) ≡ n ∷ marked marks n
unfolding marked
marked-yes marks n h = ap (λ k. marked marks k) (add-one n) ∙ cond-true (get_or marks n false) (n ∷ marked marks n) (marked marks n) h

pub marked-no : (marks : List Bool) (n : ℕ) → get_or marks n false ≡ false → marked marks (n + 1) ≡ marked marks n
unfolding marked
marked-no marks n h = ap (λ k. marked marks k) (add-one n) ∙ cond-false (get_or marks n false) (n ∷ marked marks n) (marked marks n) h

module _ (current : ℕ) (closed : ℕ → ℕ → Bool) (marks : List Bool) (rounds : ℕ) where
  -- one die more
  pub places-yes : (n : ℕ) → get_or marks n false ≡ true
      → open_places current closed (marked marks (n + 1)) rounds ≡ open_among current closed n rounds + open_places current closed (marked marks n) rounds
  places-yes n h = ap (λ ds. open_places current closed ds rounds) (marked-yes marks n h) ∙ sum_by-cons (λ die. open_among current closed die rounds) n (marked marks n)

  pub places-no : (n : ℕ) → get_or marks n false ≡ false → open_places current closed (marked marks (n + 1)) rounds ≡ open_places current closed (marked marks n) rounds
  places-no n h = ap (λ ds. open_places current closed ds rounds) (marked-no marks n h)

  -- more dies have no fewer places
  pub places-grow : (i k : ℕ) → open_places current closed (marked marks i) rounds ≤ open_places current closed (marked marks (i + k)) rounds
  places-grow i zero = let e : i + 0 ≡ i = omega arith in let s = ap (λ n. open_places current closed (marked marks n) rounds) e in omega (arith, s)
  places-grow i (suc k) =
      let so_far = places-grow i k in
      let e : i + suc k ≡ (i + k) + 1 = omega arith in
      let s = ap (λ n. open_places current closed (marked marks n) rounds) e in
      let at : (b : Bool) → get_or marks (i + k) false ≡ b → open_places current closed (marked marks (i + k)) rounds ≤ open_places current closed (marked marks ((i + k) + 1)) rounds =
      λ b. elim b as (λ v. get_or marks (i + k) false ≡ v → open_places current closed (marked marks (i + k)) rounds ≤ open_places current closed (marked marks ((i + k) + 1)) rounds) [
        | true ↦ λ h. (let y = places-yes (i + k) h in omega (arith, y))
        | false ↦ λ h. (let y = places-no (i + k) h in omega (arith, y))
      ] in
      let step = at (get_or marks (i + k) false) refl in
      omega (arith, so_far, s, step)
