-- An array of three dies, no spare, each of 16 blocks of 8 slots, with 64 pages that are to have two copies. Pages 0 to 7
-- were written in turn, and the array was mounted since: nothing is under way, and each live header is behind.
use Rattle.std.specs.Prelude.{◌≡◌, ℕ, suc, ◌+◌, ◌++◌, List, [], ◌∷◌, map, replicate, slice_index_or, Option, Some, None}
use Rattle.std.specs.FinMap.{from_sorted}
use Rattle.fa_types.specs.declared.geometry.Geometry.{Geometry}
use Rattle.fa_types.specs.declared.kind.Kind.TheVariants.{Data}
use Rattle.fa_machine.specs.declared.places.Used.{Used}
use Rattle.fa_machine.specs.declared.places.Used.TheVariants.{Held}
use Rattle.fa_machine.specs.declared.places.Version.{Version}
use Rattle.fa_laws.specs.Formatted.{new_core}
use Rattle.fa_machine.specs.Cells.{Cell, Empty, Sealed, Broken}
use Rattle.fa_machine.specs.State.{MapState, used_at}
use Rattle.fa_machine.specs.World.{World}

pub record HasThreeDies (geometry : Geometry) : Type 0 where
  pub dies : geometry.dies ≡ 3
  pub spares : geometry.spares ≡ 0
  pub blocks : geometry.blocks ≡ 16
  pub slots : geometry.slots ≡ 8
  pub pages : geometry.pages ≡ 64

abbrev pub eight : List ℕ
eight = 0 ∷ 1 ∷ 2 ∷ 3 ∷ 4 ∷ 5 ∷ 6 ∷ 7 ∷ []

-- the pages that each die holds, from its slot 0 on: the pairs are 0 1, 1 2, 2 0, 0 2, 1 0, 2 1, 0 1, 1 2
abbrev pub pages_on : ℕ → List ℕ
pages_on die = slice_index_or ((0 ∷ 2 ∷ 3 ∷ 4 ∷ 6 ∷ []) ∷ (0 ∷ 1 ∷ 4 ∷ 5 ∷ 6 ∷ 7 ∷ []) ∷ (1 ∷ 2 ∷ 3 ∷ 5 ∷ 7 ∷ []) ∷ []) die []

-- the write of a page: as they were written in turn, page p has the number p + 1
abbrev pub write_of : ℕ → Version
write_of page = record { seq = record { 0 = page + 1 }; kind = Data }

abbrev pub held_from : ℕ → ℕ → List ℕ → List ((ℕ × ℕ) × Used)
held_from die slot [] = []
held_from die slot (page ∷ pages) = ((die, slot), Held (record { 0 = page }) (write_of page)) ∷ held_from die (suc slot) pages

abbrev pub held_slots : List ((ℕ × ℕ) × Used)
held_slots = held_from 0 0 (pages_on 0) ++ held_from 1 0 (pages_on 1) ++ held_from 2 0 (pages_on 2)

abbrev pub eight_written : Geometry → MapState
eight_written geometry = record {
  geometry = geometry;
  live = from_sorted ((0, tt) ∷ (1, tt) ∷ (2, tt) ∷ []);
  versions = from_sorted (map (λ page. (page, write_of page)) eight);
  used = from_sorted held_slots;
}

-- a slot of which the map says that it holds a page has it, and the others are erased
abbrev pub cell_in : (ℕ → List ℕ) → ℕ → ℕ → Option Used → Cell
cell_in bytes die slot None = Empty
cell_in bytes die slot (Some (Held page version)) = Sealed page.0 version die slot (bytes page.0)
cell_in bytes die slot (Some used) = Broken

-- The array, of which pages 0 to 7 have these bytes. The others were never written.
abbrev pub written_in_turn : Geometry → (ℕ → List ℕ) → World
written_in_turn geometry bytes = record {
  core = new_core 8 (eight_written geometry) (from_sorted (map (λ page. (page, page + 1)) eight));
  images = λ die. record { seen = λ slot. cell_in bytes die slot (used_at (eight_written geometry) die slot); header = None };
  works = λ die. None;
  plain = map bytes eight ++ replicate 56 (replicate geometry.page_bytes 0);
  payloads = λ page seq. bytes page;
  due = λ die. record { bytes = []; since = 0 };
  values = λ batch page. record { bytes = []; since = 0 };
  told = [];
  moment = 0;
  admitted = λ batch. 0;
}
