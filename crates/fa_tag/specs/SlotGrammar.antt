-- The bytes of a slot: a payload, and behind it 64 bytes that say which page it is, which write of that
-- page, whether it is data or a hole, and where the slot lies, with a digest over all before it. They are
-- written in version 2, and read in version 1 as well, which has data alone. Numbers are big-endian.
use Rattle.std.specs.Prelude.{◌≡◌, ℕ, ◌+◌, ◌-◌, ◌*◌, ◌^◌, ◌<◌, ◌≤◌, ◌⊎◌, List, ◌++◌, length, take, All}
use Rattle.byteorder.specs.Endian.{big_bytes}
use Rattle.sha2.specs.Sha256.{sha256}
use Rattle.fa_types.specs.declared.kind.Kind.{Kind}
use Rattle.fa_types.specs.declared.kind.Kind.TheVariants.{Data, Hole}
use Rattle.fa_tag.specs.declared.tag.Tag.{Tag}
use Rattle.fa_tag.specs.declared.tag.Opened.{Opened}
use Rattle.fa_tag.specs.declared.tag.Opened.TheVariants.{Erased, Good, Bad}

-- a page below 1,048,576, a number of 1 to 2^62 - 1, a die below 64, a slot below 1,048,576
pub record IsTag (tag : Tag) : Type 0 where
  pub page_fits : tag.page.0 < 1048576
  pub seq_from_one : 1 ≤ tag.seq.0
  pub seq_fits : tag.seq.0 < 2 ^ 62
  pub die_fits : tag.die.0 < 64
  pub slot_fits : tag.slot.0 < 1048576

-- a payload of this kind: any for data, zeros for a hole
abbrev pub IsPayloadOf : Kind → List ℕ → Type 0
IsPayloadOf Data payload = Unit {0}
IsPayloadOf Hole payload = All (λ byte. byte ≡ 0) payload

-- a kind as a number
abbrev pub kind_number : Kind → ℕ
kind_number Data = 0
kind_number Hole = 1

-- a die and a slot of it as one number
abbrev pub place_number : ℕ → ℕ → ℕ
place_number die slot = die * 2 ^ 32 + slot

-- the 32 bytes between payload and digest, for a version's letters and the number after them
abbrev pub tag_bytes : ℕ → ℕ → Tag → List ℕ
tag_bytes letters number tag =
    big_bytes 4 letters ++ big_bytes 4 number ++ big_bytes 8 tag.page.0 ++ big_bytes 8 tag.seq.0
    ++ big_bytes 8 (place_number tag.die.0 tag.slot.0)

-- those of version 1: the letters SLT1, and four zero bytes
abbrev pub fields_1 : Tag → List ℕ
fields_1 tag = tag_bytes 0x534c5431 0 tag

-- those of version 2: the letters SLT2, and the kind
abbrev pub fields_2 : Tag → List ℕ
fields_2 tag = tag_bytes 0x534c5432 (kind_number tag.kind) tag

-- bytes, and their digest of 32 bytes behind them (FIPS 180-4, SHA-256)
abbrev pub with_digest : List ℕ → List ℕ
with_digest bytes = bytes ++ sha256 bytes

-- a slot in version 1
abbrev pub slot_1 : Tag → List ℕ → List ℕ
slot_1 tag payload = with_digest (payload ++ fields_1 tag)

-- a slot in version 2
abbrev pub slot_2 : Tag → List ℕ → List ℕ
slot_2 tag payload = with_digest (payload ++ fields_2 tag)

-- the bytes are a slot with this tag and payload: in version 2, or, where it is data, in version 1
abbrev pub IsSlot : Tag → List ℕ → List ℕ → Type 0
IsSlot tag payload bytes = IsTag tag × IsPayloadOf tag.kind payload
    × ((bytes ≡ slot_2 tag payload) ⊎ ((tag.kind ≡ Data) × (bytes ≡ slot_1 tag payload)))

-- the 32 bytes are the fields of this tag, in the same two versions
abbrev pub AreFields : Tag → List ℕ → Type 0
AreFields tag bytes = (bytes ≡ fields_2 tag) ⊎ ((tag.kind ≡ Data) × (bytes ≡ fields_1 tag))

-- every byte is ff
abbrev pub IsErased : List ℕ → Type 0
IsErased bytes = All (λ byte. byte ≡ 0xff) bytes

-- all bytes but the last 64
abbrev pub payload_of : List ℕ → List ℕ
payload_of bytes = take (length bytes - 64) bytes

-- all bytes but the last 32: those of which a slot's digest is
abbrev pub sealed_part : List ℕ → List ℕ
sealed_part bytes = take (length bytes - 32) bytes

-- what bytes are: erased, a slot with the tag, or neither
abbrev pub IsOpened : List ℕ → Opened → Type 0
IsOpened bytes Erased = IsErased bytes
IsOpened bytes (Good tag) = IsSlot tag (payload_of bytes) bytes
IsOpened bytes Bad = (¬ (IsErased bytes)) × ((tag : Tag) (payload : List ℕ) → ¬ (IsSlot tag payload bytes))
