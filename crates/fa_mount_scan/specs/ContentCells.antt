-- The bytes of a slot as the array's machine sees them.
use Rattle.std.specs.Prelude.{ℕ, List}
use Rattle.fa_machine.specs.declared.places.Version.{Version}
use Rattle.fa_machine.specs.Cells.{Cell, Empty, Sealed, Broken}
use Rattle.fa_tag.specs.declared.tag.Tag.{Tag}
use Rattle.fa_tag.specs.SlotGrammar.{IsErased, IsSlot}

-- a tag with these numbers
abbrev pub tag_of : ℕ → Version → ℕ → ℕ → Tag
tag_of page version die slot = record {
  page = record { 0 = page };
  seq = version.seq;
  kind = version.kind;
  die = record { 0 = die };
  slot = record { 0 = slot };
}

-- Erased bytes are an empty cell, a slot with its tag a sealed one, and all else is broken.
abbrev pub IsCellOf : List ℕ → Cell → Type 0
IsCellOf bytes Empty = IsErased bytes
IsCellOf bytes (Sealed page version die slot payload) = IsSlot (tag_of page version die slot) payload bytes
IsCellOf bytes Broken = (¬ (IsErased bytes)) × ((tag : Tag) (payload : List ℕ) → ¬ (IsSlot tag payload bytes))
