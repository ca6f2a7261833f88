-- What the headers of dies tell behind a crash: an epoch, and which dies were live in it.
use Rattle.std.specs.Prelude.{◌≡◌, ℕ, ◌<◌, ◌≤◌, Bool, true, ◌==◌, Option, None, unwrap_or}
use Rattle.std.specs.Int.{bit_at}
use Rattle.fa_crash.specs.Flushed.{is_of_array}
use Rattle.fa_machine.specs.State.{is_live}
use Rattle.fa_machine.specs.World.{HeaderTells, World}

-- the mask has the bit of the die
abbrev pub names : (mask die : ℕ) → Bool
names mask die = bit_at mask die == 1

-- what the header of a die tells: that of a job which wrote it, or what it told as the array was mounted
abbrev pub tells : (ℕ → HeaderTells) → (ℕ → Option HeaderTells) → ℕ → HeaderTells
tells told heads die = unwrap_or (heads die) (told die)

-- What headers told as the array was mounted: no job had written one, each epoch is below that of the array, and a live die is in the
-- mask of each header that is no older than its own.
pub record AreFirstHeaders (first : World) (told : ℕ → HeaderTells) : Type 0 where
  pub unwritten : (die : ℕ) → (first.images die).header ≡ None
  pub older : (die : ℕ) → (told die).epoch < first.core.epoch
  pub named : (die other : ℕ) → is_live first.core.page_map die ≡ true → (told die).epoch ≤ (told other).epoch
      → names (told other).live die ≡ true

-- What the next life mounted of the headers that a crash left: those of its live dies that the mask of a header of the greatest epoch
-- names. A die whose header no job of the life before wrote is among them only if it was live in that one too: else its header is of a
-- time as it was a spare or gone, and a later one that does not name it may be there.
pub record AreMountedAgain (first next : World) (told : ℕ → HeaderTells) (heads : ℕ → Option HeaderTells) : Type 0 where
  pub unwritten : (die : ℕ) → (next.images die).header ≡ None
  pub older : (die : ℕ) → (tells told heads die).epoch < next.core.epoch
  pub top : ℕ
  pub greatest : (die : ℕ) → (tells told heads die).epoch ≤ (tells told heads top).epoch
  pub ours : (die : ℕ) → is_live next.core.page_map die ≡ true → names (tells told heads top).live die ≡ true
  pub unheard : (die : ℕ) → is_live next.core.page_map die ≡ true → heads die ≡ None → is_live first.core.page_map die ≡ true

-- no header has a greater epoch than that of this die
abbrev pub IsNewest : (ℕ → HeaderTells) → ℕ → Type 0
IsNewest told top = (other : ℕ) → (told other).epoch ≤ (told top).epoch

-- the newest headers name no dies but those of the array as it was mounted
abbrev pub NameOurs : World → (ℕ → HeaderTells) → Type 0
NameOurs first told = (top die : ℕ) → IsNewest told top → names (told top).live die ≡ true → is_of_array first die ≡ true

-- what headers told of one epoch as the array was mounted, they told alike
abbrev pub AreToldAlike : (ℕ → HeaderTells) → Type 0
AreToldAlike told = (die other : ℕ) → (told die).epoch ≡ (told other).epoch → (told die).live ≡ (told other).live
