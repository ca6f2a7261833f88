-- What is true of the array's state at any time. It is told of a view of the state, whose parts are plain functions.
use Rattle.std.specs.Prelude.{◌≡◌, ℕ, ◌*◌, ◌/◌, ◌-◌, ◌<◌, ◌≤◌, Bool, true, false, ◌==◌, Option, Some, None, is_some, option_map}
use Rattle.std.specs.FinMap.{get, contains_key}
use Rattle.fa_types.specs.declared.numbers.Page.{Page}
use Rattle.fa_machine.specs.Among.{Among, tally}
use Rattle.fa_machine.specs.Copies.{is_held_slot}
use Rattle.fa_machine.specs.State.{Core, OpenClaim}
use Rattle.fa_machine.specs.declared.jobs.Flight.{Flight}
use Rattle.fa_machine.specs.declared.jobs.Flight.TheVariants.{Move, Erase}
use Rattle.fa_machine.specs.declared.places.Target.{Target}
use Rattle.fa_machine.specs.declared.places.Used.{Used}
use Rattle.fa_machine.specs.declared.places.Used.TheVariants.{Reserved, Held, Stale}
use Rattle.fa_machine.specs.declared.places.Version.{Version}
use Rattle.fa_sound.specs.Owners.{Owned, TargetAt, owned_of}

pub record View : Type 0 where
  -- how many copies a page is to have
  pub copies : ℕ
  pub pages : ℕ
  pub dies : ℕ
  -- dies that writes go to while none is out
  pub homes : ℕ
  -- the slots of a block, and those of a die
  pub slots : ℕ
  pub total : ℕ
  -- the last number given
  pub last : ℕ
  -- the last write of each page
  pub number : ℕ → Option Version
  -- the state of each slot, by die and slot
  pub used : ℕ → ℕ → Option Used
  pub live : ℕ → Bool
  pub spare : ℕ → Bool
  -- the page of each claim
  pub claim : ℕ → Option ℕ
  pub own : Option ℕ → Option Owned
  pub job : ℕ → Option Flight

abbrev pub view_of : Core → View
view_of core = record {
  copies = core.copies;
  pages = core.page_map.geometry.pages;
  dies = core.page_map.geometry.dies;
  homes = core.page_map.geometry.dies - core.page_map.geometry.spares;
  slots = core.page_map.geometry.slots;
  total = core.page_map.geometry.blocks * core.page_map.geometry.slots;
  last = core.last;
  number = λ page. get core.page_map.versions page;
  used = λ die slot. get core.page_map.used (die, slot);
  live = λ die. contains_key core.page_map.live die;
  spare = λ die. contains_key core.spares die;
  claim = λ id. option_map {T = OpenClaim} (λ c. c.page) (get core.claims id);
  own = owned_of core.copying core.claims;
  job = λ die. get core.jobs die;
}

-- the number of a page
pub record IsNumber (pages last page : ℕ) (version : Version) : Type 0 where
  pub inside : page < pages
  pub given : 1 ≤ version.seq.0
  pub below : version.seq.0 ≤ last

abbrev pub NumbersFit : ℕ → ℕ → (ℕ → Option Version) → Type 0
NumbersFit pages last number = (page : ℕ) (version : Version) → number page ≡ Some version → IsNumber pages last page version

-- a used slot is one of a live die
pub record IsUsed (live : ℕ → Bool) (total die slot : ℕ) : Type 0 where
  pub on_live : live die ≡ true
  pub inside : slot < total

abbrev pub UsedFit : ℕ → (ℕ → Bool) → (ℕ → ℕ → Option Used) → Type 0
UsedFit total live used = (die slot : ℕ) (u : Used) → used die slot ≡ Some u → IsUsed live total die slot

-- what a slot holds is the last write of its page
abbrev pub HeldFit : (ℕ → Option Version) → (ℕ → ℕ → Option Used) → Type 0
HeldFit number used =
    (die slot : ℕ) (page : Page) (version : Version) → used die slot ≡ Some (Held page version) → number page.0 ≡ Some version

-- a die holds a page once
abbrev pub OnceFit : (ℕ → ℕ → Option Used) → Type 0
OnceFit used = (die slot other : ℕ) (page : Page) (version second : Version) → used die slot ≡ Some (Held page version)
    → used die other ≡ Some (Held page second) → slot ≡ other

-- a target is on no spare, and on a live die it is a reserved slot
pub record IsTarget (live spare : ℕ → Bool) (used : ℕ → ℕ → Option Used) (die slot : ℕ) : Type 0 where
  pub fresh : spare die ≡ false
  pub kept : live die ≡ true → used die slot ≡ Some Reserved

abbrev pub TargetsFit : (ℕ → Bool) → (ℕ → Bool) → (ℕ → ℕ → Option Used) → (Option ℕ → Option Owned) → Type 0
TargetsFit live spare used own = (die slot : ℕ) → TargetAt own die slot → IsTarget live spare used die slot

-- a slot of a live die is a target of one owner only
abbrev pub ApartFit : (ℕ → Bool) → (Option ℕ → Option Owned) → Type 0
ApartFit live own = (die slot : ℕ) (a b : TargetAt own die slot) → live die ≡ true → a.owner ≡ b.owner

-- an owner's targets are on different dies
abbrev pub SpreadFit : (Option ℕ → Option Owned) → Type 0
SpreadFit own = (owner : Option ℕ) (x : Owned) → own owner ≡ Some x → (die : ℕ) → tally (λ (t : Target). t.die.0 == die) x.targets ≤ 1

-- what is reserved under a claim is newer than the page's number, and not above the last number given
pub record IsNew (last : ℕ) (number : ℕ → Option Version) (claim : ℕ → Option ℕ) (id : ℕ) (x : Owned) : Type 0 where
  pub claimed : claim id ≡ Some x.page
  pub given : 1 ≤ x.version.seq.0
  pub below : x.version.seq.0 ≤ last
  pub newer : (version : Version) → number x.page ≡ Some version → version.seq.0 < x.version.seq.0

abbrev pub NewFit : ℕ → (ℕ → Option Version) → (ℕ → Option ℕ) → (Option ℕ → Option Owned) → Type 0
NewFit last number claim own = (id : ℕ) (x : Owned) → own (Some id) ≡ Some x → IsNew last number claim id x

-- what is copied is the page's last write, or one before it
pub record IsOld (number : ℕ → Option Version) (x : Owned) : Type 0 where
  pub written : is_some (number x.page) ≡ true
  pub older : (version : Version) → number x.page ≡ Some version → x.version.seq.0 ≤ version.seq.0
  pub same : (version : Version) → number x.page ≡ Some version → version.seq.0 ≡ x.version.seq.0 → version ≡ x.version

abbrev pub OldFit : (ℕ → Option Version) → (Option ℕ → Option Owned) → Type 0
OldFit number own = (x : Owned) → own None ≡ Some x → IsOld number x

-- the die that a copy goes to does not hold that write
abbrev pub AwayFit : (ℕ → ℕ → Option Used) → (Option ℕ → Option Owned) → Type 0
AwayFit used own = (x : Owned) → own None ≡ Some x → (t : Target) → Among t x.targets → (slot : ℕ) (page : Page) (version : Version)
    → used t.die.0 slot ≡ Some (Held page version) → page.0 ≡ x.page → version.seq.0 ≡ x.version.seq.0 → ⊥

-- whether the slot holds a copy, or one that is stale
abbrev pub is_settled : Option Used → Bool
is_settled (Some (Held page version)) = true
is_settled (Some Stale) = true
is_settled used = false

-- a move goes from a slot that holds the write, or is stale now, to a reserved slot that is nobody's target
pub record IsMoving (used : ℕ → Option Used) (own : Option ℕ → Option Owned) (die : ℕ)
    (page : Page) (version : Version) (from to : ℕ) : Type 0 where
  pub settled : is_settled (used from) ≡ true
  pub page_is : (p : Page) (v : Version) → used from ≡ Some (Held p v) → p ≡ page
  pub version_is : (p : Page) (v : Version) → used from ≡ Some (Held p v) → v ≡ version
  pub kept : used to ≡ Some Reserved
  pub alone : TargetAt own die to → ⊥

-- a block that is erased holds nothing, and no target of it is programmed
pub record IsErasing (slots : ℕ) (used : ℕ → Option Used) (own : Option ℕ → Option Owned) (die block : ℕ) : Type 0 where
  pub none_held : (slot : ℕ) → (slot / slots == block) ≡ true → is_held_slot (used slot) ≡ false
  pub none_done : (slot : ℕ) → (slot / slots == block) ≡ true → (a : TargetAt own die slot) → a.target.programmed ≡ false

abbrev pub JobFits : ℕ → (ℕ → Option Used) → (Option ℕ → Option Owned) → ℕ → Flight → Type 0
JobFits slots used own die (Move page version from to) = IsMoving used own die page version from.0 to.0
JobFits slots used own die (Erase block) = IsErasing slots used own die block.0
JobFits slots used own die flight = Unit {0}

-- only live dies are at a job
pub record IsJob (slots : ℕ) (live : ℕ → Bool) (used : ℕ → Option Used) (own : Option ℕ → Option Owned)
    (die : ℕ) (flight : Flight) : Type 0 where
  pub on_live : live die ≡ true
  pub fits : JobFits slots used own die flight

abbrev pub JobsFit : ℕ → (ℕ → Bool) → (ℕ → ℕ → Option Used) → (Option ℕ → Option Owned) → (ℕ → Option Flight) → Type 0
JobsFit slots live used own job = (die : ℕ) (flight : Flight) → job die ≡ Some flight → IsJob slots live (used die) own die flight

-- live dies and spares are dies of the array, and no die is both
pub record DiesFit (dies : ℕ) (live spare : ℕ → Bool) : Type 0 where
  pub live_inside : (die : ℕ) → live die ≡ true → die < dies
  pub spare_inside : (die : ℕ) → spare die ≡ true → die < dies
  pub apart : (die : ℕ) → spare die ≡ true → live die ≡ false

-- claims are of pages of the array, and no two have one page
pub record ClaimsFit (pages : ℕ) (claim : ℕ → Option ℕ) : Type 0 where
  pub inside : (id page : ℕ) → claim id ≡ Some page → page < pages
  pub once : (id other page : ℕ) → claim id ≡ Some page → claim other ≡ Some page → id ≡ other

-- a page's homes are as many dies
pub record CopiesFit (copies homes : ℕ) : Type 0 where
  pub least : 2 ≤ copies
  pub most : copies ≤ 3
  pub enough : copies ≤ homes

pub record IsSoundView (v : View) : Type 0 where
  pub copies : CopiesFit v.copies v.homes
  pub numbers : NumbersFit v.pages v.last v.number
  pub slots : UsedFit v.total v.live v.used
  pub held : HeldFit v.number v.used
  pub once : OnceFit v.used
  pub targets : TargetsFit v.live v.spare v.used v.own
  pub apart : ApartFit v.live v.own
  pub spread : SpreadFit v.own
  pub new : NewFit v.last v.number v.claim v.own
  pub old : OldFit v.number v.own
  pub away : AwayFit v.used v.own
  pub jobs : JobsFit v.slots v.live v.used v.own v.job
  pub dies : DiesFit v.dies v.live v.spare
  pub claims : ClaimsFit v.pages v.claim

abbrev pub IsSound : Core → Type 0
IsSound core = IsSoundView (view_of core)
