-- What the array's parts have to do with one another, told over plain functions: a scene is what of a world bears on which
-- bytes stand where, and a scene is sound where each of them is the bytes that were reserved.
use Rattle.fa_machine.specs.Among.{Among, tally}
use Rattle.fa_machine.specs.Cells.{Cell, moved_payload, payload_of}
use Rattle.fa_machine.specs.Copies.{is_held_slot}
use Rattle.fa_machine.specs.State.{WaitingProgram}
use Rattle.fa_machine.specs.World.{Accepted, Gave, GaveCell, Work}
use Rattle.fa_machine.specs.declared.jobs.Flight.{Flight}
use Rattle.fa_machine.specs.declared.jobs.Flight.TheVariants.{Erase, Header, Move, Program, Read, Sync}
use Rattle.fa_types.specs.declared.kind.Kind.TheVariants.{Hole}
use Rattle.fa_machine.specs.declared.places.Target.{Target}
use Rattle.fa_machine.specs.declared.places.Used.{Used}
use Rattle.fa_machine.specs.declared.places.Used.TheVariants.{Held, Reserved, Stale}
use Rattle.fa_machine.specs.declared.places.Version.{Version}
use Rattle.fa_types.specs.declared.numbers.Page.{Page}
use Rattle.std.proofs.Common.{Bool, List, None, Option, Some, [], false, true, ℕ, ◌+◌, ◌<◌, ◌∷◌, ◌≡◌, ◌≤◌}
use Rattle.std.specs.Prelude.{if◌then◌else◌, ◌&&◌, ◌==◌}

-- what is reserved under a claim, or under the copy under way
pub record Owned : Type 0 where
  pub page : ℕ
  pub version : Version
  pub targets : List Target

pub record Bytes : Type 0 where
  -- what stands in each slot, by die and slot
  pub seen : ℕ → ℕ → Cell
  -- what was reserved for a page with a number
  pub payloads : ℕ → ℕ → List ℕ
  pub last : ℕ
  pub zero_page : List ℕ
  pub pages : ℕ

pub record Places : Type 0 where
  -- the state of each slot, by die and slot
  pub used : ℕ → ℕ → Option Used
  pub live : ℕ → Bool
  pub spare : ℕ → Bool
  -- what is reserved under each claim, and under the copy under way
  pub own : Option ℕ → Option Owned

pub record Scene : Type 0 where
  pub bytes : Bytes
  pub places : Places
  pub waiting : List WaitingProgram
  pub works : ℕ → Option Work
  -- the bytes that are due to the read in flight of a die
  pub due : ℕ → List ℕ
  pub number : ℕ → Option Version
  pub plain : ℕ → List ℕ
  pub in_block : ℕ → ℕ → Bool

-- whether the slot holds a copy, or one that is stale
abbrev pub is_settled : Option Used → Bool
is_settled (Some (Held page version)) = true
is_settled (Some Stale) = true
is_settled used = false

abbrev pub program_is_at : ℕ → ℕ → WaitingProgram → Bool
program_is_at die slot p = p.die == die && p.slot == slot

-- 1 where a job is to program the slot
abbrev pub flight_writes : Flight → ℕ → ℕ
flight_writes (Program page version s) slot = if s.0 == slot then 1 else 0
flight_writes (Move page version from to) slot = if to.0 == slot then 1 else 0
flight_writes flight slot = 0

abbrev pub writes : Option Work → ℕ → ℕ
writes None slot = 0
writes (Some work) slot = flight_writes work.job.flight slot

-- how many programs are to come to a slot
abbrev pub programs_at : List WaitingProgram → (ℕ → Option Work) → ℕ → ℕ → ℕ
programs_at waiting works die slot = tally (program_is_at die slot) waiting + writes (works die) slot

-- the bytes of a page with a number stand in the slot
abbrev pub Stands : Bytes → ℕ → Version → ℕ → ℕ → Type 0
Stands b page version die slot = moved_payload page version die slot (b.seen die slot) ≡ Some (b.payloads page version.seq.0)

pub record IsNumbered (b : Bytes) (plain : ℕ → List ℕ) (page : ℕ) (v : Version) : Type 0 where
  pub right : b.payloads page v.seq.0 ≡ plain page
  pub hole : v.kind ≡ Hole → b.payloads page v.seq.0 ≡ b.zero_page
  pub below : v.seq.0 ≤ b.last

pub record IsHeld (b : Bytes) (die slot page : ℕ) (version : Version) : Type 0 where
  pub cell : Stands b page version die slot
  pub below : version.seq.0 ≤ b.last

pub record IsTarget (b : Bytes) (p : Places) (x : Owned) (t : Target) : Type 0 where
  pub fresh : p.spare t.die.0 ≡ false
  pub kept : p.live t.die.0 ≡ true → p.used t.die.0 t.slot.0 ≡ Some Reserved
  pub done : p.live t.die.0 ≡ true → t.programmed ≡ true → Stands b x.page x.version t.die.0 t.slot.0

pub record IsRight (b : Bytes) (x : Owned) : Type 0 where
  pub inside : x.page < b.pages
  pub hole : x.version.kind ≡ Hole → b.payloads x.page x.version.seq.0 ≡ b.zero_page
  pub below : x.version.seq.0 ≤ b.last

pub record IsOwned (b : Bytes) (p : Places) (x : Owned) : Type 0 where
  pub right : IsRight b x
  pub targets : (t : Target) → Among t x.targets → IsTarget b p x t

-- a target of something reserved that lies in a slot
pub record IsTargetAt (own : Option ℕ → Option Owned) (die slot : ℕ) (q : Option ℕ) (x : Owned) (t : Target) : Type 0 where
  pub owns : own q ≡ Some x
  pub among : Among t x.targets
  pub on_die : t.die.0 ≡ die
  pub at_slot : t.slot.0 ≡ slot

-- a slot that is to be programmed with a page
pub record IsToCome (p : Places) (die slot page : ℕ) (version : Version) : Type 0 where
  pub kept : p.used die slot ≡ Some Reserved
  pub target : (q : Option ℕ) (x : Owned) (t : Target) → IsTargetAt p.own die slot q x t
      → (t.programmed ≡ false) × (x.page ≡ page) × (x.version ≡ version)

pub record IsWaiting (b : Bytes) (p : Places) (w : WaitingProgram) : Type 0 where
  pub payload : w.payload ≡ b.payloads w.page w.version.seq.0
  pub below : w.version.seq.0 ≤ b.last
  pub place : IsToCome p w.die w.slot w.page w.version

pub record IsReading (b : Bytes) (due : List ℕ) (die page : ℕ) (version : Version) (slot : ℕ) : Type 0 where
  pub cell : payload_of page version die slot (b.seen die slot) ≡ Some due
  pub right : due ≡ b.payloads page version.seq.0
  pub below : version.seq.0 ≤ b.last

pub record IsWriting (b : Bytes) (p : Places) (die page : ℕ) (version : Version) (slot : ℕ) (payload : List ℕ) : Type 0 where
  pub bytes : payload ≡ b.payloads page version.seq.0
  pub below : version.seq.0 ≤ b.last
  pub place : IsToCome p die slot page version

pub record IsMoving (b : Bytes) (p : Places) (die page : ℕ) (version : Version) (from to : ℕ) : Type 0 where
  pub cell : Stands b page version die from
  pub below : version.seq.0 ≤ b.last
  pub settled : is_settled (p.used die from) ≡ true
  pub kept : p.used die to ≡ Some Reserved
  pub alone : (q : Option ℕ) (x : Owned) (t : Target) → IsTargetAt p.own die to q x t → ⊥

pub record IsErasing (in_block : ℕ → ℕ → Bool) (p : Places) (die block : ℕ) : Type 0 where
  pub none_held : (slot : ℕ) → in_block block slot ≡ true → is_held_slot (p.used die slot) ≡ false
  pub none_done : (slot : ℕ) (q : Option ℕ) (x : Owned) (t : Target) → IsTargetAt p.own die slot q x t → in_block block slot ≡ true
      → t.programmed ≡ false

abbrev pub JobFits : Bytes → Places → (ℕ → ℕ → Bool) → List ℕ → ℕ → Flight → List ℕ → Type 0
JobFits b p in_block due die (Header epoch live) payload = Unit {0}
JobFits b p in_block due die (Move page version from to) payload = IsMoving b p die page.0 version from.0 to.0
JobFits b p in_block due die (Erase block) payload = IsErasing in_block p die block.0
JobFits b p in_block due die (Read batch page version slot) payload = IsReading b due die page.0 version slot.0
JobFits b p in_block due die (Program page version slot) payload = IsWriting b p die page.0 version slot.0 payload
JobFits b p in_block due die (Sync flushes) payload = Unit {0}

-- what the calls of a job gave so far
abbrev pub GaveFits : Bytes → ℕ → Flight → List Gave → Type 0
GaveFits b die (Read batch page version slot) (GaveCell cell ∷ []) = cell ≡ b.seen die slot.0
GaveFits b die (Program page version slot) (Accepted ∷ gave) = Stands b page.0 version die slot.0
GaveFits b die (Move page version from to) (GaveCell cell ∷ []) =
    moved_payload page.0 version die from.0 cell ≡ Some (b.payloads page.0 version.seq.0)
GaveFits b die (Move page version from to) (GaveCell cell ∷ Accepted ∷ []) = Stands b page.0 version die to.0
GaveFits b die flight gave = Unit {0}

pub record WorkFits (b : Bytes) (p : Places) (in_block : ℕ → ℕ → Bool) (due : List ℕ) (die : ℕ) (work : Work) : Type 0 where
  pub job : JobFits b p in_block due die work.job.flight work.job.payload
  pub gave : GaveFits b die work.job.flight work.gave

-- two things that are reserved have no slot of a live die in common
abbrev pub AreApart : Places → Type 0
AreApart p = (die slot : ℕ) (q : Option ℕ) (x : Owned) (t : Target) (r : Option ℕ) (y : Owned) (u : Target)
    → IsTargetAt p.own die slot q x t → IsTargetAt p.own die slot r y u → p.live die ≡ true → q ≡ r

pub record Sound (s : Scene) : Type 0 where
  pub numbered : (page : ℕ) (v : Version) → s.number page ≡ Some v → IsNumbered s.bytes s.plain page v
  pub held : (die slot : ℕ) (page : Page) (version : Version) → s.places.used die slot ≡ Some (Held page version)
      → IsHeld s.bytes die slot page.0 version
  pub owned : (q : Option ℕ) (x : Owned) → s.places.own q ≡ Some x → IsOwned s.bytes s.places x
  pub apart : AreApart s.places
  pub waits : (w : WaitingProgram) → Among w s.waiting → IsWaiting s.bytes s.places w
  pub once : (die slot : ℕ) → programs_at s.waiting s.works die slot ≤ 1
  pub works : (die : ℕ) (work : Work) → s.works die ≡ Some work → WorkFits s.bytes s.places s.in_block (s.due die) die work
  pub spares : (die : ℕ) → s.places.spare die ≡ true → s.places.live die ≡ false
