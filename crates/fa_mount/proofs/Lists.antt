-- One element of a list changed.
use Rattle.std.proofs.Common.{ℕ, ◌≡◌, ◌∙◌, List, Some, length, get_or, set, ap, sym, arith, inl, inr, slice_get}
use Rattle.std.proofs.Common.{get_or-set_other, get_or-set_same, length-set}
use Rattle.std.proofs.lemmas.Bool.{cases_lt}
use Rattle.std.proofs.lemmas.Option.{slice_get-get_or, slice_get_past, slice_get_within}

module _ {A : Type 0} where
  pub got_same : (xs : List A) (i : ℕ) (x y : A) → slice_get xs i ≡ Some x → slice_get (set xs i y) i ≡ Some y
  got_same xs i x y at =
      let low = slice_get_within xs i x at in
      slice_get-get_or (set xs i y) i x (omega (arith, low, length-set xs i y)) ∙ ap Some (get_or-set_same xs i y x low)

  pub got_other : (xs : List A) (i j : ℕ) (d y : A) → (j ≡ i → ⊥) → slice_get (set xs i y) j ≡ slice_get xs j
  got_other xs i j d y apart =
      elim (cases_lt j (length xs)) [
        | inl low ↦
            slice_get-get_or (set xs i y) j d (omega (arith, low, length-set xs i y))
            ∙ ap Some (get_or-set_other xs i j y d apart) ∙ sym (slice_get-get_or xs j d low)
        | inr past ↦
            slice_get_past (set xs i y) j (omega (arith, past, length-set xs i y)) ∙ sym (slice_get_past xs j past)
      ]

  -- a list of as many elements has one there too
  pub got_between : (xs ys : List A) (i : ℕ) (x : A) → length ys ≡ length xs → slice_get xs i ≡ Some x → slice_get ys i ≡ Some (get_or ys i x)
  got_between xs ys i x long at = let low = slice_get_within xs i x at in slice_get-get_or ys i x (omega (arith, low, long))
