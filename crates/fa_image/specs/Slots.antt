-- What stands in the slots after some of them were written.
use Rattle.std.proofs.Common.{◌≡◌, ℕ, ◌+◌, ◌-◌, ◌<◌, ◌≤◌, ◌⊎◌, inl, inr, List, [], ◌++◌, length, take, drop, slice_index_or, ap, ◌∙◌}
use Rattle.std.proofs.Common.{arith, length-append, length-take}
use Rattle.std.proofs.lemmas.List.{get_or_append_left, get_or-append_right, get_or-take, get_or-drop}
use Rattle.fa_image.specs.Image.{ImageState, slot_at, with_written}

module _ (image : ImageState) (at : ℕ) (written : List (List ℕ)) (fits : at + length written ≤ length image.slots) where
  front : List (List ℕ)
  front = take at image.slots

  both : length (front ++ written) ≡ at + length written
  unfolding front
  both = length-append front written ∙ omega (arith, length-take at image.slots)

  -- a slot that was written has what was written
  pub inside : (i : ℕ) → i < length written → slot_at (at + i) (with_written at written image) ≡ slice_index_or written i []
  unfolding front
  inside i below =
      get_or_append_left (front ++ written) (drop (at + length written) image.slots) [] (at + i) (omega (arith, both))
      ∙ get_or-append_right front written at (at + i) [] (length-take at image.slots ∙ omega arith) (omega arith)
      ∙ ap (λ (n : ℕ). slice_index_or written n []) (omega arith)

  -- any other has what it had
  pub outside : (i : ℕ) → (i < at) ⊎ (at + length written ≤ i) → slot_at i (with_written at written image) ≡ slot_at i image
  unfolding front
  outside i (inl before) =
      get_or_append_left (front ++ written) (drop (at + length written) image.slots) [] i (omega (arith, both))
      ∙ get_or_append_left front written [] i (omega (arith, length-take at image.slots))
      ∙ get_or-take at image.slots i [] before
  outside i (inr behind) =
      get_or-append_right (front ++ written) (drop (at + length written) image.slots) (at + length written) i [] both behind
      ∙ get_or-drop (at + length written) image.slots (i - (at + length written)) []
      ∙ ap (λ (n : ℕ). slot_at n image) (omega arith)
