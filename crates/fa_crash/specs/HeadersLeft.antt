-- The headers of images behind a crash.
use Rattle.std.specs.Prelude.{◌≡◌, ℕ, true, false, List, Option, Some}
use Rattle.fa_crash.specs.Headers.{tells}
use Rattle.fa_machine.specs.Among.{Among}
use Rattle.fa_machine.specs.State.{is_live}
use Rattle.fa_machine.specs.World.{HeaderTells, World}
use Rattle.fa_mount_headers.specs.declared.seen.Seen.{Seen}
use Rattle.fa_tag.specs.declared.header.Header.{Header}

-- A header that a cut left: it has the epoch and the mask that its die's header tells. One that a job wrote has no mark of a spare and none
-- of a clean close, and a die that was live as the array was mounted has no mark of a spare.
pub record IsHeaderLeft (first : World) (told : ℕ → HeaderTells) (heads : ℕ → Option HeaderTells) (header : Header) : Type 0 where
  pub epoch : header.epoch ≡ (tells told heads header.die.0).epoch
  pub mask : header.mask ≡ (tells told heads header.die.0).live
  pub written : (h : HeaderTells) → heads header.die.0 ≡ Some h → (header.spare ≡ false) × (header.clean ≡ false)
  pub used : is_live first.core.page_map header.die.0 ≡ true → header.spare ≡ false

-- the same of each image that has a header
abbrev pub AreHeadersLeft : World → (ℕ → HeaderTells) → (ℕ → Option HeaderTells) → List Seen → Type 0
AreHeadersLeft first told heads seen = (x : Seen) → Among x seen → IsHeaderLeft first told heads x.header
