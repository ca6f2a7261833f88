-- The events of writers: Claim, Reserve, Commit, Abandon.
use Rattle.std.specs.Prelude.{◌≡◌, ℕ, ◌+◌, ◌-◌, ◌^◌, Bool, true, false, not, ◌==◌, ◌&&◌, nat_lt, if◌then◌else◌, List, [], ◌∷◌, ◌++◌}
use Rattle.std.specs.Prelude.{Option, Some, None, unwrap_or, option_map, Result, Ok, Err, length, map, filter}
use Rattle.std.specs.List.{list_any}
use Rattle.std.specs.FinMap.{insert, contains_key, get, values}
use Rattle.fa_types.specs.declared.numbers.Seq.{Seq}
use Rattle.fa_machine.specs.declared.answers.HistoryEntry.TheVariants.{Commit as CommitEntry}
use Rattle.fa_machine.specs.declared.ids.ClaimId.{ClaimId}
use Rattle.fa_machine.specs.declared.jobs.Flight.{Flight}
use Rattle.fa_machine.specs.declared.jobs.Flight.TheVariants.{Program}
use Rattle.fa_types.specs.declared.kind.Kind.{Kind}
use Rattle.fa_machine.specs.declared.places.Target.{Target}
use Rattle.fa_machine.specs.declared.places.Used.{Used}
use Rattle.fa_machine.specs.declared.places.Used.TheVariants.{Reserved, Held, Stale}
use Rattle.fa_machine.specs.declared.places.Version.{Version}
use Rattle.fa_machine.specs.declared.refusals.AbandonRefused.{AbandonRefused}
use Rattle.fa_machine.specs.declared.refusals.AbandonRefused.TheVariants.{Pending as AbandonPending, Programmed}
use Rattle.fa_machine.specs.declared.refusals.ClaimRefused.{ClaimRefused}
use Rattle.fa_machine.specs.declared.refusals.ClaimRefused.TheVariants.{Claimed, NoMemory as ClaimNoMemory}
use Rattle.fa_machine.specs.declared.refusals.CommitRefused.{CommitRefused}
use Rattle.fa_machine.specs.declared.refusals.CommitRefused.TheVariants.{Pending as CommitPending, Failed}
use Rattle.fa_machine.specs.declared.refusals.ReserveRefused.{ReserveRefused}
use Rattle.fa_machine.specs.declared.refusals.ReserveRefused.TheVariants.{NoRoom, NoDie, Spent, NoMemory}
use Rattle.fa_machine.specs.Conditions.{first_that, Refuses}
use Rattle.fa_machine.specs.Maps.{change, insert_all}
use Rattle.fa_machine.specs.Placement.{copies_asked, lowest_erased, targets}
use Rattle.fa_machine.specs.State.{Core, MapState, Reservation, WaitingProgram, is_live}

abbrev pub is_claimed : Core → ℕ → Bool
is_claimed core page = list_any (λ c. c.page == page) (values core.claims)

-- Claim: the page is the caller's to write, under an id that none has that is open.
abbrev pub Claims : Core → ℕ → Result ClaimId ClaimRefused → Core → Type 0
Claims old page (Ok id) new =
    (is_claimed old page ≡ false) × (contains_key old.claims id.0 ≡ false)
    × (new ≡ record old { claims = insert old.claims id.0 (record { page = page; reserved = None }) })
Claims old page (Err Claimed) new = (is_claimed old page ≡ true) × (new ≡ old)
Claims old page (Err ClaimNoMemory) new = (is_claimed old page ≡ false) × (new ≡ old)

-- the page of a claim that is open
abbrev pub claimed_page : Core → ℕ → ℕ
claimed_page core claim = unwrap_or (option_map (λ c. c.page) (get core.claims claim)) 0

-- the slot that a copy takes on a die that has room
abbrev pub target_on : MapState → ℕ → Target
target_on m die = record { die = record { 0 = die }; slot = record { 0 = unwrap_or (lowest_erased m die) 0 }; programmed = false }

-- these slots in one state
abbrev pub with_targets : Used → List Target → MapState → MapState
with_targets used places m = record m { used = insert_all (map (λ t. (t.die.0, t.slot.0)) places) used m.used }

abbrev pub program_at : ℕ → Version → List ℕ → Target → WaitingProgram
program_at page version payload t = record { die = t.die.0; slot = t.slot.0; page = page; version = version; payload = payload }

-- the claim with something reserved under it, or nothing
abbrev pub with_reserved : ℕ → Option Reservation → Core → Core
with_reserved claim reserved core =
    record core { claims = insert core.claims claim (record { page = claimed_page core claim; reserved = reserved }) }

-- the state in which the next number and a slot on each target are reserved under the claim
abbrev pub reserved : ℕ → Kind → List ℕ → Core → Core
reserved claim kind payload core =
    let page = claimed_page core claim in let version : Version = record { seq = record { 0 = core.last + 1 }; kind = kind } in
    let places = map (target_on core.page_map) (targets core.copies core.page_map page) in
    with_reserved claim (Some (record { version = version; targets = places })) (record core {
      page_map = with_targets Reserved places core.page_map;
      last = core.last + 1;
      waiting = core.waiting ++ map (program_at page version payload) places;
    })

-- Why a number and slots are refused to a write that wants so many targets at least: too few live dies have room, no
-- die is live, or 2^62 - 1 was given.
abbrev pub reserve_refusal : Core → ℕ → ℕ → Option ReserveRefused
reserve_refusal core page least = first_that ((nat_lt (length (targets core.copies core.page_map page)) least, NoRoom)
    ∷ (copies_asked core.copies core.page_map == 0, NoDie)
    ∷ (core.last == 2 ^ 62 - 1, Spent) ∷ [])

-- Reserve, for a write that wants so many targets at least: the next number, a slot on each target, and a program for each.
abbrev pub Reserves : Core → ℕ → ℕ → Kind → List ℕ → Result Seq ReserveRefused → Core → Type 0
Reserves old claim least kind payload (Ok seq) new =
    (reserve_refusal old (claimed_page old claim) least ≡ None) × (seq.0 ≡ old.last + 1) × (new ≡ reserved claim kind payload old)
Reserves old claim least kind payload (Err refused) new =
    Refuses (reserve_refusal old (claimed_page old claim) least) NoMemory refused × (new ≡ old)

-- those of some reserved slots whose die is live
abbrev pub live_targets : Core → List Target → List Target
live_targets core places = filter (λ t. is_live core.page_map t.die.0) places

abbrev pub commit_refusal : Core → List Target → Option CommitRefused
commit_refusal core places = first_that ((list_any (λ t. not t.programmed) (live_targets core places), CommitPending)
    ∷ (not (list_any (λ t. t.programmed) (live_targets core places)), Failed) ∷ [])

-- a slot that holds the page is stale now
abbrev pub without_page : ℕ → Used → Used
without_page page (Held p version) = if p.0 == page then Stale else Held p version
without_page page used = used

-- The state after a commit: each copy that the page had is stale, and those that were programmed on dies that are
-- live are current, with the new number.
abbrev pub committed : ℕ → ℕ → Reservation → Core → Core
committed claim seat r core =
    let page = claimed_page core claim in let staled = change (λ place used. without_page page used) core.page_map.used in
    with_reserved claim None (record core {
      page_map = with_targets (Held (record { 0 = page }) r.version) (live_targets core r.targets)
          (record (core.page_map) { versions = insert core.page_map.versions page r.version; used = staled });
      history = core.history ++ CommitEntry seat (record { 0 = page }) r.version.seq ∷ [];
    })

-- Commit: what is reserved under the claim becomes the page's last write.
abbrev pub Commits : Core → ℕ → ℕ → Option Reservation → Result Seq CommitRefused → Core → Type 0
Commits old claim seat None answer new = ⊥
Commits old claim seat (Some r) (Ok seq) new =
    (commit_refusal old r.targets ≡ None) × (seq ≡ r.version.seq) × (new ≡ committed claim seat r old)
Commits old claim seat (Some r) (Err refused) new = (commit_refusal old r.targets ≡ Some refused) × (new ≡ old)

-- whether a program of a slot is what the die is at
abbrev pub is_programming : Option Flight → ℕ → Bool
is_programming (Some (Program page version s)) slot = s.0 == slot
is_programming flight slot = false

abbrev pub abandon_refusal : Core → List Target → Option AbandonRefused
abandon_refusal core places = first_that ((list_any (λ t. is_programming (get core.jobs t.die.0) t.slot.0) places, AbandonPending)
    ∷ (list_any (λ t. t.programmed) (live_targets core places), Programmed) ∷ [])

-- Abandon: what is reserved under the claim is given up, and its slots are stale.
abbrev pub Abandons : Core → ℕ → Option Reservation → Result (Unit {0}) AbandonRefused → Core → Type 0
Abandons old claim None answer new = ⊥
Abandons old claim (Some r) (Ok done) new =
    (abandon_refusal old r.targets ≡ None) × (new ≡ with_reserved claim None (record old {
      page_map = with_targets Stale (live_targets old r.targets) old.page_map;
      waiting = filter (λ p. not (list_any (λ t. t.die.0 == p.die && t.slot.0 == p.slot) r.targets)) old.waiting;
    }))
Abandons old claim (Some r) (Err refused) new = (abandon_refusal old r.targets ≡ Some refused) × (new ≡ old)
