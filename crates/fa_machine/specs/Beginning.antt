-- The array as it is mounted: what its images hold, and nothing under way.
use Rattle.std.specs.Prelude.{◌≡◌, ℕ, ◌-◌, ◌*◌, ◌^◌, ◌<◌, ◌≤◌, ◌⊎◌, true, false, ◌||◌, [], length, Option, Some, None, is_some, option_map}
use Rattle.std.specs.FinMap.{empty, get, contains_key}
use Rattle.fa_types.specs.Plain.{HasPages}
use Rattle.fa_types.specs.declared.kind.Kind.TheVariants.{Hole}
use Rattle.fa_machine.specs.declared.places.Used.{Used}
use Rattle.fa_machine.specs.declared.places.Used.TheVariants.{Reserved, Held, Stale}
use Rattle.fa_machine.specs.declared.places.Version.{Version}
use Rattle.fa_machine.specs.Cells.{Empty, Sealed}
use Rattle.fa_machine.specs.Copies.{is_current}
use Rattle.fa_machine.specs.Reading.{zeros}
use Rattle.fa_machine.specs.State.{Core, is_live, used_at}
use Rattle.fa_machine.specs.World.{World, plain_page}

-- the state with no program that waits, job, copy, claim or batch, and the one with no flush
abbrev pub with_nothing_open : Core → Core
with_nothing_open core = record core { waiting = []; jobs = empty; copying = None; claims = empty; batches = empty }

abbrev pub with_no_flush : Core → Core
with_no_flush core = record core { flushes = 0; asked = empty; synced = empty }

-- The state over what the images hold, with nothing under way: round 1, each live header behind, an empty history. What the
-- images give is left as it is: the page map, the epoch, the spares, the last number, and the numbers where the history begins.
abbrev pub mounted : Core → Core
mounted core = record (with_nothing_open (with_no_flush core)) {
  calendar = record { round = 1; bookings = empty; windows = empty };
  behind = core.page_map.live;
  stepped = empty;
  base = record (core.base) { commits = 0; starts = 0 };
  history = [];
}

-- what the plain array has of a page that was never written, or of a hole, is zeros
abbrev pub IsPlainOf : World → ℕ → Option Version → Type 0
IsPlainOf w page None = plain_page w page ≡ zeros w.core.page_map
IsPlainOf w page (Some version) =
    (w.payloads page version.seq.0 ≡ plain_page w page) × (version.kind ≡ Hole → plain_page w page ≡ zeros w.core.page_map)
    × (1 ≤ version.seq.0) × (version.seq.0 ≤ w.core.last)

-- What stands in a slot in such a state: in one that holds a page, the plain array's page with its number.
abbrev pub StandsAt : World → ℕ → ℕ → Option Used → Type 0
StandsAt w die slot None = (w.images die).seen slot ≡ Empty
StandsAt w die slot (Some Reserved) = ⊥
StandsAt w die slot (Some (Held page version)) =
    (get w.core.page_map.versions page.0 ≡ Some version) × ((w.images die).seen slot ≡ Sealed page.0 version die slot (plain_page w page.0))
StandsAt w die slot (Some Stale) = Unit {0}

-- A world that was just mounted. A page that was written and has no copy is lost, and what the plain array has of it is
-- settled by nothing.
pub record IsBeginning (w : World) : Type 0 where
  pub fresh : w.core ≡ mounted w.core
  pub copies : (w.core.copies ≡ 2) ⊎ (w.core.copies ≡ 3)
  -- so that the homes of a page are as many dies
  pub enough : w.core.copies ≤ w.core.page_map.geometry.dies - w.core.page_map.geometry.spares
  pub based : (page : ℕ) → get w.core.base.numbers page ≡ option_map (λ version. version.seq.0) (get w.core.page_map.versions page)
  pub last : w.core.last < 2 ^ 62
  -- live dies and spares are dies of the array, and no die is both
  pub live : (die : ℕ) → is_live w.core.page_map die ≡ true → die < w.core.page_map.geometry.dies
  pub spares : (die : ℕ) → contains_key w.core.spares die ≡ true
      → (die < w.core.page_map.geometry.dies) × (is_live w.core.page_map die ≡ false)
  -- only slots of live dies are used
  pub used : (die slot : ℕ) → is_some (used_at w.core.page_map die slot) ≡ true
      → (is_live w.core.page_map die ≡ true) × (slot < w.core.page_map.geometry.blocks * w.core.page_map.geometry.slots)
  -- a live die holds each page once, with its number; and what is not used of it, or of a spare, is erased
  pub stands : (die slot : ℕ) → (is_live w.core.page_map die || contains_key w.core.spares die) ≡ true
      → slot < w.core.page_map.geometry.blocks * w.core.page_map.geometry.slots
      → StandsAt w die slot (used_at w.core.page_map die slot)
  pub once : (page die slot other : ℕ) → is_current w.core.page_map page die slot ≡ true
      → is_current w.core.page_map page die other ≡ true → slot ≡ other
  pub written : (page : ℕ) → is_some (get w.core.page_map.versions page) ≡ true → page < w.core.page_map.geometry.pages
  pub plain : (page : ℕ) → page < w.core.page_map.geometry.pages → IsPlainOf w page (get w.core.page_map.versions page)
  pub pages : (length w.plain ≡ w.core.page_map.geometry.pages) × HasPages w.core.page_map.geometry.page_bytes w.plain
  pub idle : (die : ℕ) → w.works die ≡ None
  pub told : w.told ≡ []
