-- Which jobs fit a die: what its image can be asked to do.
use Rattle.std.specs.Prelude.{◌≡◌, ℕ, ◌*◌, ◌<◌, List, false, length}
use Rattle.fa_machine.specs.Taking.{Handed}
use Rattle.fa_machine.specs.declared.jobs.Flight.{Flight}
use Rattle.fa_machine.specs.declared.jobs.Flight.TheVariants.{Header as HeaderJob, Move, Erase, Read, Program, Sync}
use Rattle.fa_machine.specs.declared.places.Version.{Version}
use Rattle.fa_tag.specs.HeaderGrammar.{IsHeader}
use Rattle.fa_tag.specs.SlotGrammar.{IsPayloadOf, IsTag}
use Rattle.fa_tag.specs.declared.header.Header.{Header}
use Rattle.fa_tag.specs.declared.tag.Tag.{Tag}
use Rattle.fa_types.specs.declared.geometry.Geometry.{Geometry}

-- a tag with these numbers
abbrev pub tag_of : ℕ → Version → ℕ → ℕ → Tag
tag_of page version die slot = record {
  page = record { 0 = page };
  seq = version.seq;
  kind = version.kind;
  die = record { 0 = die };
  slot = record { 0 = slot };
}

-- the header of a live die of the array with this number, with no clean mark
abbrev pub header_of : Geometry → List ℕ → ℕ → ℕ → ℕ → Header
header_of geometry array die epoch live = record {
  die = record { 0 = die };
  geometry = geometry;
  clean = false;
  spare = false;
  epoch = epoch;
  mask = live;
  array = array;
}

-- A page's bytes with a tag for a slot of the die.
pub record IsSlotFor (geometry : Geometry) (page : ℕ) (version : Version) (die slot : ℕ) (payload : List ℕ) : Type 0 where
  pub tag : IsTag (tag_of page version die slot)
  pub inside : slot < geometry.blocks * geometry.slots
  pub sized : length payload ≡ geometry.page_bytes
  pub kind : IsPayloadOf version.kind payload

-- The calls of such a job can be made of an image of this geometry: its slots and its block are the die's, and what it writes is a
-- slot or a header.
abbrev pub IsFlightFor : Geometry → List ℕ → ℕ → List ℕ → Flight → Type 0
IsFlightFor geometry array die payload (HeaderJob epoch live) = IsHeader (header_of geometry array die epoch live)
IsFlightFor geometry array die payload (Move page version from to) =
    IsTag (tag_of page.0 version die to.0) × (from.0 < geometry.blocks * geometry.slots) × (to.0 < geometry.blocks * geometry.slots)
IsFlightFor geometry array die payload (Erase block) = block.0 < geometry.blocks
IsFlightFor geometry array die payload (Read batch page version slot) = slot.0 < geometry.blocks * geometry.slots
IsFlightFor geometry array die payload (Program page version slot) = IsSlotFor geometry page.0 version die slot.0 payload
IsFlightFor geometry array die payload (Sync flushes) = Unit {0}

abbrev pub IsJobFor : Geometry → List ℕ → ℕ → Handed → Type 0
IsJobFor geometry array die job = IsFlightFor geometry array die job.payload job.flight
