-- Which dies are trusted with a page: those that hold it, and those whose copy of a write of it was programmed and is to become current.
use Rattle.fa_machine.specs.Among.{Among}
use Rattle.fa_machine.specs.Cells.{DidProgram}
use Rattle.fa_machine.specs.Maps.{place_cmp}
use Rattle.fa_machine.specs.State.{Core, WaitingProgram, is_live}
use Rattle.fa_machine.specs.Step.{Act, Done}
use Rattle.fa_machine.specs.Turning.{has_number}
use Rattle.fa_machine.specs.declared.jobs.Flight.TheVariants.{Program}
use Rattle.fa_machine.specs.declared.places.Target.{Target}
use Rattle.fa_machine.specs.declared.places.Used.{Used}
use Rattle.fa_machine.specs.declared.places.Used.TheVariants.{Held}
use Rattle.fa_machine.specs.declared.places.Version.{Version}
use Rattle.fa_sound.specs.Owners.{Owned, owned_of}
use Rattle.fa_types.specs.declared.numbers.Page.{Page}
use Rattle.fa_types.specs.declared.numbers.Slot.{Slot}
use Rattle.std.proofs.Common.{List, None, Option, Some, false, inl, refl, true, ℕ, ◌≡◌, ◌⊎◌}
use Rattle.std.specs.FinMap.{FinMap, get}
use Rattle.std.specs.Ordering.{nat_cmp}

-- a slot of the die holds the page
pub record HeldOn (core : Core) (die page : ℕ) : Type 0 where
  pub slot : ℕ
  pub tag : Page
  pub version : Version
  pub held : get core.page_map.used (die, slot) ≡ Some (Held tag version)
  pub page_is : tag.0 ≡ page

-- a write under a claim, or a copy of the page's last write
abbrev pub IsCurrentOwner : FinMap nat_cmp Version → Option ℕ → Owned → Type 0
IsCurrentOwner versions None x = has_number x.version.seq.0 (get versions x.page) ≡ true
IsCurrentOwner versions (Some id) x = Unit {0}

-- such a write of the page was programmed on the die, which is live
pub record DoneOn (core : Core) (die page : ℕ) : Type 0 where
  pub owner : Option ℕ
  pub owned : Owned
  pub target : Target
  pub owns : owned_of core.copying core.claims owner ≡ Some owned
  pub among : Among target owned.targets
  pub on_die : target.die.0 ≡ die
  pub done : target.programmed ≡ true
  pub alive : is_live core.page_map die ≡ true
  pub of_page : owned.page ≡ page
  pub current : IsCurrentOwner core.page_map.versions owner owned

abbrev pub Trusted : Core → ℕ → ℕ → Type 0
Trusted core die page = HeldOn core die page ⊎ DoneOn core die page

-- a target whose slot was programmed by the job that ends
abbrev pub IsMarked : Core → Act → Target → Type 0
IsMarked old (Done die DidProgram) t =
    (page : Page) × (version : Version) × (slot : Slot) × (get old.jobs die ≡ Some (Program page version slot)) × (t.die.0 ≡ die) × (t.slot.0 ≡ slot.0)
IsMarked old act t = ⊥

-- an erased slot of a live die
abbrev pub IsErasedAt : Core → ℕ → ℕ → Type 0
IsErasedAt old die slot = (get old.page_map.used (die, slot) ≡ None) × (is_live old.page_map die ≡ true)

-- a target was one before an event, and was programmed then or is by the event
pub record WasTarget (old : Core) (act : Act) (before : Owned) (t : Target) : Type 0 where
  pub was : Target
  pub among : Among was before.targets
  pub on_die : was.die.0 ≡ t.die.0
  pub at_slot : was.slot.0 ≡ t.slot.0
  pub done : t.programmed ≡ true → (was.programmed ≡ true) ⊎ IsMarked old act t

-- a write was reserved before an event
pub record WasOwned (old : Core) (act : Act) (q : Option ℕ) (x : Owned) : Type 0 where
  pub before : Owned
  pub owns : owned_of old.copying old.claims q ≡ Some before
  pub page_is : before.page ≡ x.page
  pub version_is : before.version ≡ x.version
  pub targets : (t : Target) → Among t x.targets → WasTarget old act before t

-- a write that is reserved now, in erased slots
abbrev pub IsFresh : Core → Owned → Type 0
IsFresh old x = (t : Target) → Among t x.targets → (t.programmed ≡ false) × IsErasedAt old t.die.0 t.slot.0

-- What an event leaves of what is reserved, held and to be programmed.
pub record FollowsTo (old : Core) (act : Act) (own : Option ℕ → Option Owned) (used : FinMap place_cmp Used) (waiting : List WaitingProgram)
    : Type 0 where
  pub owned : (q : Option ℕ) (x : Owned) → own q ≡ Some x → WasOwned old act q x ⊎ IsFresh old x
  pub held : (die slot : ℕ) (page : Page) (version : Version) → get used (die, slot) ≡ Some (Held page version) → Trusted old die page.0
  pub waits : (p : WaitingProgram) → Among p waiting → Among p old.waiting ⊎ IsErasedAt old p.die p.slot

abbrev pub Follows : Core → Act → Core → Type 0
Follows old act new = FollowsTo old act (owned_of new.copying new.claims) new.page_map.used new.waiting

module _ (old : Core) (act : Act) where
  pub was_same : (q : Option ℕ) (x : Owned) → owned_of old.copying old.claims q ≡ Some x → WasOwned old act q x
  was_same q x e = record {
    before = x;
    owns = e;
    page_is = refl;
    version_is = refl;
    targets = λ t i. record { was = t; among = i; on_die = refl; at_slot = refl; done = λ p. inl p };
  }

  pub held_same : (die slot : ℕ) (page : Page) (version : Version) → get old.page_map.used (die, slot) ≡ Some (Held page version)
      → Trusted old die page.0
  held_same die slot page version e = inl (record { slot = slot; tag = page; version = version; held = e; page_is = refl })

  -- nothing of it changes
  pub quiet : Follows old act old
  quiet = record { owned = λ q x e. inl (was_same q x e); held = held_same; waits = λ p i. inl i }
