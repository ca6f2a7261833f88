-- An image that lies: one read of a slot, counted from when it was armed, gives each byte inverted. The image behind makes that
-- read too. From then on the image does not say of itself that its reads gave what stands there.
use Rattle.std.specs.Prelude.{◌≡◌, ◌==◌, ◌-◌, ◌&&◌, ◌||◌, ℕ, Bool, not, List, map, if◌then◌else◌}
use Rattle.fa_image.specs.Image.{ImageState, ImageCall, ReadingSlot, ImageAnswer, Gave}
use Rattle.fa_image.specs.declared.wrong_image.WrongImage.{WrongImage}

-- each byte inverted
abbrev pub inverted : List ℕ → List ℕ
inverted bytes = map (λ byte. 0xff - byte) bytes

-- what a call answers where the image behind gives this and so many reads are left
abbrev pub wrong_answer : ImageCall → ℕ → ImageAnswer → ImageAnswer
wrong_answer (ReadingSlot slot) left (Gave bytes) = if left == 1 then Gave (inverted bytes) else Gave bytes
wrong_answer call left told = told

-- how many reads are left after a call
abbrev pub left_after : ImageCall → ℕ → ℕ
left_after (ReadingSlot slot) left = left - 1
left_after call left = left

-- whether the image has lied after a call
abbrev pub lied_after : ImageCall → ℕ → ImageAnswer → Bool → Bool
lied_after (ReadingSlot slot) left (Gave bytes) lied = lied || (left == 1)
lied_after call left told lied = lied

module _ {I : Type 0} where
  -- the image behind
  abbrev pub inner_of : WrongImage I → I
  inner_of image = image.inner

  -- how many reads of slots there are up to the wrong one; 0 where none is
  abbrev pub reads_left : WrongImage I → ℕ
  reads_left image = image.reads_left

  -- whether a read gave wrong bytes
  abbrev pub has_lied : WrongImage I → Bool
  has_lied image = image.has_lied

  -- what is seen of the image behind
  abbrev pub wrong_view : (I → ImageState) → WrongImage I → ImageState
  wrong_view view image = view image.inner

  -- it is honest where the image behind is, and it has not lied
  abbrev pub wrong_honest : (I → Bool) → WrongImage I → Bool
  wrong_honest honest image = honest image.inner && not image.has_lied

  -- One call: one of the image behind it, which told `told`.
  pub record WrongMade (made : I → ImageCall → ImageAnswer → I → Type 0)
      (before : WrongImage I) (call : ImageCall) (answer : ImageAnswer) (after : WrongImage I) : Type 0 where
    pub told : ImageAnswer
    pub passed : made (inner_of before) call told (inner_of after)
    pub answers : answer ≡ wrong_answer call (reads_left before) told
    pub counts : reads_left after ≡ left_after call (reads_left before)
    pub lied : has_lied after ≡ lied_after call (reads_left before) told (has_lied before)
