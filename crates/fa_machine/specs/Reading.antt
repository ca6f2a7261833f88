-- The events of readers: Admit, Replan, EndBatch; and how a batch stands.
use Rattle.std.specs.Option.{option_map_or}
use Rattle.std.specs.Prelude.{◌≡◌, ℕ, ◌-◌, ◌^◌, Bool, true, false, not, ◌==◌, ◌&&◌, ◌||◌, nat_lt, if◌then◌else◌, List, []}
use Rattle.std.specs.Prelude.{Option, Some, None, option_map, unwrap_or, Result, Ok, Err}
use Rattle.std.specs.Prelude.{map, filter, fold, find, filter_map, replicate}
use Rattle.std.specs.List.{list_any, list_all}
use Rattle.std.specs.FinMap.{empty, insert, remove, contains_key, get, values}
use Rattle.fa_types.specs.Open.{FewClosed}
use Rattle.fa_types.specs.Windows.{IsFull}
use Rattle.fa_types.specs.declared.numbers.Page.{Page}
use Rattle.fa_batch_terms.specs.Batch.{Entry}
use Rattle.fa_batch_terms.specs.Certificate.{IsCertificate}
use Rattle.fa_batch_terms.specs.Plan.{AreFirstRounds}
use Rattle.fa_batch_terms.specs.declared.place.Place.{Place}
use Rattle.fa_machine.specs.declared.answers.ReadState.{ReadState}
use Rattle.fa_machine.specs.declared.answers.ReadState.TheVariants.{Waiting, Torn, Ready}
use Rattle.fa_machine.specs.declared.ids.BatchId.{BatchId}
use Rattle.fa_machine.specs.declared.jobs.Flight.{Flight}
use Rattle.fa_machine.specs.declared.jobs.Flight.TheVariants.{Read}
use Rattle.fa_types.specs.declared.kind.Kind.{Kind}
use Rattle.fa_types.specs.declared.kind.Kind.TheVariants.{Data, Hole}
use Rattle.fa_machine.specs.declared.places.Version.{Version}
use Rattle.fa_machine.specs.declared.refusals.AdmitRefused.{AdmitRefused}
use Rattle.fa_machine.specs.declared.refusals.AdmitRefused.TheVariants.{Lost, CalendarFull, Spent, NoMemory}
use Rattle.fa_machine.specs.Copies.{holders, is_lost}
use Rattle.fa_machine.specs.Maps.{keep, insert_all}
use Rattle.fa_machine.specs.Rounds.{is_closed, is_taken_with}
use Rattle.fa_machine.specs.State.{MapState, CalendarState, Core, OpenBatch}

-- a plan with what shows that it is least
pub record Planned : Type 0 where
  pub rounds : ℕ
  pub places : List Place
  pub shortage : List Page

pub record Admitted : Type 0 where
  pub batch : BatchId
  pub planned : Planned

abbrev pub is_data : Kind → Bool
is_data Data = true
is_data Hole = false

-- whether a page has bytes on its dies: it was written, and not as a hole
abbrev pub has_data : Option Version → Bool
has_data version = option_map_or (λ v. is_data v.kind) version false

-- the pages that are to be read, each with its holders
abbrev pub entries_for : MapState → List ℕ → List Entry
entries_for m pages = map (λ page. record { page = record { 0 = page }; holders = map (λ die. record { 0 = die }) (holders m page) }) pages

-- A plan of these pages against a calendar that is least, as its shortage shows.
pub record IsPlanned (m : MapState) (calendar : CalendarState) (pages : List ℕ) (planned : Planned) : Type 0 where
  pub certificate : IsCertificate (entries_for m pages) calendar.round (is_closed m calendar) planned.rounds planned.places planned.shortage
  pub first : AreFirstRounds calendar.round (is_closed m calendar) planned.places

-- whether so few rounds are left that nothing is planned
abbrev pub is_late : CalendarState → Bool
is_late calendar = nat_lt (2 ^ 56 - 2 ^ 24) calendar.round

-- What planning may answer for a list of pages, of which some are to be read. A spent counter and want of memory come
-- before a full calendar, which is answered only where some least plan would take a die past its most entries.
abbrev pub Plans : MapState → CalendarState → List ℕ → List ℕ → Result Planned AdmitRefused → Type 0
Plans m calendar asked pages (Ok planned) =
    (find (is_lost m) asked ≡ None) × (is_late calendar ≡ false) × IsPlanned m calendar pages planned
    × FewClosed calendar.round (is_taken_with calendar planned.places)
Plans m calendar asked pages (Err (Lost page)) = find (is_lost m) asked ≡ Some page.0
Plans m calendar asked pages (Err CalendarFull) =
    (find (is_lost m) asked ≡ None) × (is_late calendar ≡ false) × ((planned : Planned) × IsPlanned m calendar pages planned
    × ((die : ℕ) × IsFull calendar.round (is_taken_with calendar planned.places die) 0))
Plans m calendar asked pages (Err Spent) = (find (is_lost m) asked ≡ None) × (is_late calendar ≡ true)
Plans m calendar asked pages (Err NoMemory) = (find (is_lost m) asked ≡ None) × (is_late calendar ≡ false)

-- the calendar with the places of a plan booked for a batch
abbrev pub booked : BatchId → List Place → CalendarState → CalendarState
booked batch places calendar = record calendar {
  bookings = fold (λ bookings x. insert bookings (x.die.0, x.round.0) (record { batch = batch; page = x.page; started = false }))
      calendar.bookings places;
}

-- the calendar without a batch's bookings that were not started
abbrev pub released : ℕ → CalendarState → CalendarState
released batch calendar =
    record calendar { bookings = keep (λ place booking. booking.started || not (booking.batch.0 == batch)) calendar.bookings }

-- whether a job is the read of a page for a batch
abbrev pub is_read_for : ℕ → ℕ → Flight → Bool
is_read_for batch page (Read b p version slot) = b.0 == batch && p.0 == page
is_read_for batch page flight = false

abbrev pub names_batch : ℕ → Flight → Bool
names_batch batch (Read b p version slot) = b.0 == batch
names_batch batch flight = false

-- An id for a new batch: none that is open, and none that a booking or a read in flight names, which may outlive its batch.
abbrev pub is_fresh : Core → ℕ → Bool
is_fresh core batch =
    not (contains_key core.batches batch || list_any (λ b. b.batch.0 == batch) (values core.calendar.bookings)
    || list_any (names_batch batch) (values core.jobs))

-- the bytes of a page of zeros
abbrev pub zeros : MapState → List ℕ
zeros m = replicate m.geometry.page_bytes 0

-- of some pages those that are read, and those that are answered with zeros at once
abbrev pub to_read : MapState → List ℕ → List ℕ
to_read m pages = filter (λ page. has_data (get m.versions page)) pages

abbrev pub at_once : MapState → List ℕ → List ℕ
at_once m pages = filter (λ page. not (has_data (get m.versions page))) pages

-- Admit: a new batch, with a booking for each page that has bytes. Pages never written and holes are answered here.
abbrev pub Admits : Core → List ℕ → Result Admitted AdmitRefused → Core → Type 0
Admits old pages (Ok admitted) new =
    Plans old.page_map old.calendar pages (to_read old.page_map pages) (Ok admitted.planned) × (is_fresh old admitted.batch.0 ≡ true)
    × (new ≡ record old {
      calendar = booked admitted.batch admitted.planned.places old.calendar;
      batches = insert old.batches admitted.batch.0
          (record { pages = pages; answers = insert_all (at_once old.page_map pages) (zeros old.page_map) empty });
    })
Admits old pages (Err refused) new = Plans old.page_map old.calendar pages (to_read old.page_map pages) (Err refused) × (new ≡ old)

abbrev pub batch_at : Core → ℕ → OpenBatch
batch_at core batch = unwrap_or (get core.batches batch) (record { pages = []; answers = empty })

-- the pages of a batch that have no answer and no read in flight
abbrev pub left_of : Core → ℕ → List ℕ
left_of core batch =
    filter (λ page. not (contains_key (batch_at core batch).answers page || list_any (is_read_for batch page) (values core.jobs)))
    (batch_at core batch).pages

-- Replan: the batch's bookings that were not started are released, and what is left of it is planned anew.
abbrev pub Replans : Core → ℕ → Result Planned AdmitRefused → Core → Type 0
Replans old batch (Ok planned) new =
    Plans old.page_map (released batch old.calendar) (left_of old batch) (left_of old batch) (Ok planned)
    × (new ≡ record old { calendar = booked (record { 0 = batch }) planned.places (released batch old.calendar) })
Replans old batch (Err refused) new =
    Plans old.page_map (released batch old.calendar) (left_of old batch) (left_of old batch) (Err refused) × (new ≡ old)

-- the pages that have an answer, in the list's order
abbrev pub answered : OpenBatch → List (ℕ × List ℕ)
answered b = filter_map (λ page. option_map (λ bytes. (page, bytes)) (get b.answers page)) b.pages

-- EndBatch: the answers are handed out, and the bookings that were not started are released.
abbrev pub EndsBatch : Core → ℕ → List (ℕ × List ℕ) → Core → Type 0
EndsBatch old batch answer new =
    (answer ≡ answered (batch_at old batch))
    × (new ≡ record old { calendar = released batch old.calendar; batches = remove old.batches batch })

-- whether a read of the page is booked that was not started
abbrev pub is_booked : Core → ℕ → ℕ → Bool
is_booked core batch page = list_any (λ b. b.batch.0 == batch && b.page.0 == page && not b.started) (values core.calendar.bookings)

-- How a batch stands.
abbrev pub results : Core → ℕ → ReadState
results core batch =
    if not (contains_key core.batches batch) || list_any (λ page. not (is_booked core batch page)) (left_of core batch) then Torn
    else (if list_all (λ page. contains_key (batch_at core batch).answers page) (batch_at core batch).pages then Ready else Waiting)
