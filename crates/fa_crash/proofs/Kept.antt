-- What holds of each world of a run and of what is unsynced in it.
use Rattle.fa_crash.proofs.Trusted.{HeldOn, IsCurrentOwner, Trusted}
use Rattle.fa_crash.specs.Unsynced.{Unsynced, number_of}
use Rattle.fa_laws.specs.Reached.{IsReached}
use Rattle.fa_machine.specs.Among.{Among}
use Rattle.fa_machine.specs.Cells.{Cell, Sealed}
use Rattle.fa_machine.specs.State.{Core, WaitingProgram, is_live}
use Rattle.fa_machine.specs.World.{Accepted, Gave, GaveCell, Work, World}
use Rattle.fa_machine.specs.declared.jobs.Flight.{Flight}
use Rattle.fa_machine.specs.declared.jobs.Flight.TheVariants.{Erase, Move, Program}
use Rattle.fa_machine.specs.declared.places.Version.{Version}
use Rattle.fa_sound.specs.Owners.{TargetAt, owned_of}
use Rattle.fa_sound.specs.Sound.{IsSound}
use Rattle.fa_types.specs.declared.numbers.Page.{Page}
use Rattle.fa_types.specs.declared.numbers.Slot.{Slot}
use Rattle.std.proofs.Common.{Bool, List, None, Some, [], false, true, ℕ, ◌*◌, ◌/◌, ◌<◌, ◌∷◌, ◌≡◌, ◌≤◌, ◌⊎◌}
use Rattle.std.specs.FinMap.{contains_key, get}
use Rattle.std.specs.Prelude.{◌||◌, ◌==◌}

abbrev pub is_sealed : Cell → Bool
is_sealed (Sealed page version die slot payload) = true
is_sealed cell = false

abbrev pub slots_total : Core → ℕ
slots_total core = core.page_map.geometry.blocks * core.page_map.geometry.slots

-- A durable copy of a page stands on a die: in a slot with nothing unsynced, with no older number than the page had at the last sync.
pub record Backed (w : World) (u : Unsynced) (die page : ℕ) : Type 0 where
  pub slot : ℕ
  pub inside : slot < slots_total w.core
  pub version : Version
  pub payload : List ℕ
  pub settled : u.since die slot ≡ []
  pub stands : (w.images die).seen slot ≡ Sealed page version die slot payload
  pub kept : u.kept die page ≤ version.seq.0

-- an erase that was synced before, of a block that holds no sealed slot once it was erased
pub record IsErased (slots : ℕ) (since : ℕ → List Cell) (seen : ℕ → Cell) (block : ℕ) (all : Bool) : Type 0 where
  pub settled : (slot : ℕ) → (slot / slots == block) ≡ false → since slot ≡ []
  pub erased : (slot : ℕ) → all ≡ true → (slot / slots == block) ≡ true → is_sealed (seen slot) ≡ false

-- What the calls of a job have left on its die.
abbrev pub WorkKept : ℕ → (ℕ → List Cell) → (ℕ → Cell) → Flight → Bool → List Gave → Type 0
WorkKept slots since seen (Erase block) lasting (Accepted ∷ []) = IsErased slots since seen block.0 false
WorkKept slots since seen (Erase block) lasting (Accepted ∷ Accepted ∷ []) = IsErased slots since seen block.0 true
WorkKept slots since seen (Program page version slot) lasting [] = is_sealed (seen slot.0) ≡ false
WorkKept slots since seen (Program page version slot) true (Accepted ∷ Accepted ∷ []) = (slot : ℕ) → since slot ≡ []
WorkKept slots since seen (Move page version from to) lasting [] = is_sealed (seen to.0) ≡ false
WorkKept slots since seen (Move page version from to) lasting (GaveCell cell ∷ []) = is_sealed (seen to.0) ≡ false
WorkKept slots since seen flight lasting gave = Unit {0}

-- a slot whose program is not to be synced: its page was never written, or the die holds it
abbrev pub IsSpared : Core → ℕ → ℕ → Type 0
IsSpared core die slot =
    (a : TargetAt (owned_of core.copying core.claims) die slot) → IsCurrentOwner core.page_map.versions a.owner a.owned
    → (get core.page_map.versions a.owned.page ≡ None) ⊎ HeldOn core die a.owned.page

-- live dies and spares
abbrev pub is_there : Core → ℕ → Bool
is_there core die = is_live core.page_map die || contains_key core.spares die

pub record IsKept (w : World) (u : Unsynced) : Type 0 where
  pub reached : IsReached w
  pub sound : IsSound w.core
  -- what was kept is no newer than the page
  pub below : (die page : ℕ) → u.kept die page ≤ number_of w.core page
  -- a die that is trusted with a page has a durable copy of it, if the page had a number at its last sync
  pub backed : (die page : ℕ) → Trusted w.core die page → 1 ≤ u.kept die page → Backed w u die page
  pub works : (die : ℕ) (work : Work) → w.works die ≡ Some work
      → WorkKept w.core.page_map.geometry.slots (u.since die) ((w.images die).seen) work.job.flight work.job.lasting work.gave
  pub spared : (die : ℕ) (work : Work) (page : Page) (version : Version) (slot : Slot) → w.works die ≡ Some work
      → work.job.flight ≡ Program page version slot → work.job.lasting ≡ false → IsSpared w.core die slot.0
  -- an erased slot, and one for which a program waits, is not sealed
  pub erased : (die slot : ℕ) → is_there w.core die ≡ true → slot < slots_total w.core → get w.core.page_map.used (die, slot) ≡ None
      → is_sealed ((w.images die).seen slot) ≡ false
  pub waiting : (p : WaitingProgram) → Among p w.core.waiting → is_sealed ((w.images p.die).seen p.slot) ≡ false
