-- The 112 bytes at the front of an image: which array and which die of it the image is, and which dies
-- were live when it was written, with a digest over all before it. They are written in format 2, and read
-- in format 1 as well; the number of the format is all that differs. Numbers are big-endian.
use Rattle.std.specs.Prelude.{◌≡◌, ℕ, ◌+◌, ◌^◌, ◌<◌, ◌≤◌, Bool, ◌⊎◌, List, ◌++◌, length, if◌then◌else◌, MatchBool}
use Rattle.std.specs.Int.{bit_at}
use Rattle.byteorder.specs.Endian.{big_bytes}
use Rattle.fa_tag.specs.SlotGrammar.{with_digest}
use Rattle.fa_tag.specs.declared.header.Header.{Header}

-- A spare has epoch 0 and no live dies. Any other die has an epoch of 1 to 2^62, and is live itself.
abbrev pub HasRole : Header → Type 0
HasRole header = MatchBool header.spare
    ((header.epoch ≡ 0) × (header.mask ≡ 0))
    ((1 ≤ header.epoch) × (header.epoch ≤ 2 ^ 62) × (bit_at header.mask header.die.0 ≡ 1))

-- The die is one of the array's. So is each live die: no bit of the mask stands at or above the number of
-- dies. The number of the array has 16 bytes. The limits of the geometry are its own.
pub record IsHeader (header : Header) : Type 0 where
  pub die : header.die.0 < header.geometry.dies
  pub live_dies : header.mask < 2 ^ header.geometry.dies
  pub role : HasRole header
  pub array : length header.array ≡ 16

-- the marks as one number: bit 0 clean, bit 1 spare
abbrev pub marks_number : Bool → Bool → ℕ
marks_number clean spare = (if clean then 1 else 0) + (if spare then 2 else 0)

-- the first 48 bytes: the letters FLSHARR1, the format, the die, the array's numbers and the marks
abbrev pub shape_fields : ℕ → Header → List ℕ
shape_fields format h =
    big_bytes 8 0x464c534841525231 ++ big_bytes 4 format ++ big_bytes 4 h.die.0 ++ big_bytes 4 h.geometry.dies
    ++ big_bytes 4 h.geometry.spares ++ big_bytes 4 h.geometry.blocks ++ big_bytes 4 h.geometry.slots
    ++ big_bytes 4 h.geometry.page_bytes ++ big_bytes 4 (marks_number h.clean h.spare) ++ big_bytes 8 h.geometry.pages

-- the next 32: the epoch, the live dies, and the number of the array
abbrev pub state_fields : Header → List ℕ
state_fields h = big_bytes 8 h.epoch ++ big_bytes 8 h.mask ++ h.array

-- the 112 bytes of a header in a format
abbrev pub header_bytes : ℕ → Header → List ℕ
header_bytes format h = with_digest (shape_fields format h ++ state_fields h)

-- the bytes are those of this header, in format 2 or in format 1
abbrev pub SpellsHeader : Header → List ℕ → Type 0
SpellsHeader header bytes = IsHeader header × ((bytes ≡ header_bytes 2 header) ⊎ (bytes ≡ header_bytes 1 header))
