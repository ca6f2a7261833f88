-- Pages that were flushed, and the cells of a beginning.
use Rattle.std.specs.Prelude.{◌≡◌, ◌⊎◌, ℕ, ◌*◌, ◌<◌, ◌≤◌, ◌||◌, Bool, true, List, ◌∷◌, ◌++◌, Ok}
use Rattle.std.specs.FinMap.{contains_key}
use Rattle.fa_machine.specs.declared.answers.Flush.{Flush}
use Rattle.fa_machine.specs.declared.answers.FlushState.TheVariants.{Synced}
use Rattle.fa_machine.specs.declared.places.Version.{Version}
use Rattle.fa_machine.specs.Beginning.{IsBeginning}
use Rattle.fa_machine.specs.Cells.{Sealed}
use Rattle.fa_machine.specs.Run.{Happening, Event}
use Rattle.fa_machine.specs.State.{Core, is_live}
use Rattle.fa_machine.specs.Step.{FlushBegin, FlushState}
use Rattle.fa_machine.specs.World.{World}
use Rattle.fa_crash.specs.Unsynced.{Unsynced, number_of, nothing_unsynced}
use Rattle.fa_crash.specs.Whole.{RunWhole}

-- the dies of an array as it was mounted: those that were live, and the spares
abbrev pub is_of_array : World → ℕ → Bool
is_of_array first die = is_live first.core.page_map die || contains_key first.core.spares die

-- how many slots a die has
abbrev pub slots_of : Core → ℕ
slots_of core = core.page_map.geometry.blocks * core.page_map.geometry.slots

-- A good cell on a die of the array is of the page's last write, with its bytes, or of an older one.
abbrev pub AreOfLast : World → Type 0
AreOfLast first = (page die slot : ℕ) (version : Version) (payload : List ℕ) → page < first.core.page_map.geometry.pages
    → slot < slots_of first.core → is_of_array first die ≡ true → (first.images die).seen slot ≡ Sealed page version die slot payload
    → (version.seq.0 ≤ number_of first.core page)
    × (version.seq.0 ≡ number_of first.core page → payload ≡ first.payloads page version.seq.0)

-- A run from a beginning with nothing unsynced, in which a flush was answered as synced. As the flush began the page had this number.
pub record IsFlushed (first : World) (page number : ℕ) (last : World) (u : Unsynced) : Type 0 where
  pub before : List Happening
  pub at : World
  pub at_unsynced : Unsynced
  pub led : RunWhole first (nothing_unsynced first) before at at_unsynced
  pub numbered : number_of at.core page ≡ number
  pub flush : Flush
  pub during : List Happening
  pub behind : List Happening
  pub leads : RunWhole at at_unsynced (Event (FlushBegin (Ok flush)) ∷ during ++ Event (FlushState flush Synced) ∷ behind) last u

-- Such a run, where the page had this number as the array was mounted.
pub record IsMounted (first : World) (page number : ℕ) (last : World) (u : Unsynced) : Type 0 where
  pub happenings : List Happening
  pub run : RunWhole first (nothing_unsynced first) happenings last u
  pub numbered : number_of first.core page ≡ number

-- Promised: the page was written, and with this number it was mounted or flushed, in a run from a beginning with nothing unsynced.
pub record IsPromised (first : World) (page number : ℕ) (last : World) (u : Unsynced) : Type 0 where
  pub beginning : IsBeginning first
  pub cells : AreOfLast first
  pub written : 1 ≤ number
  pub kept : IsFlushed first page number last u ⊎ IsMounted first page number last u
