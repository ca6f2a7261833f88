-- The events of dies: Take hands out the first job that applies, Done ends the job in flight.
use Rattle.std.specs.Prelude.{◌≡◌, ℕ, ◌+◌, ◌/◌, ◌^◌, Bool, true, false, not, ◌==◌, ◌&&◌, ◌||◌, nat_lt, if◌then◌else◌, List, [], ◌∷◌, ◌++◌}
use Rattle.std.specs.Prelude.{Option, Some, None, is_some, unwrap_or, option_and_then, option_map, map, find, filter, fold}
use Rattle.std.specs.List.{before_first, after_first}
use Rattle.std.specs.Option.{option_map_or, option_or}
use Rattle.std.specs.FinMap.{FinMap, insert, remove, contains_key, get}
use Rattle.fa_machine.specs.declared.answers.HistoryEntry.TheVariants.{Start}
use Rattle.fa_machine.specs.declared.jobs.CollectorStep.{CollectorStep}
use Rattle.fa_machine.specs.declared.jobs.CollectorStep.TheVariants.{MoveSlot, EraseBlock, Nothing}
use Rattle.fa_machine.specs.declared.jobs.Flight.{Flight}
use Rattle.fa_machine.specs.declared.jobs.Flight.TheVariants.{Header, Move, Erase, Read, Program, Sync}
use Rattle.fa_machine.specs.declared.places.Booking.{Booking}
use Rattle.fa_machine.specs.declared.places.Copying.{Copying}
use Rattle.fa_machine.specs.declared.places.Target.{Target}
use Rattle.fa_machine.specs.declared.places.Used.{Used}
use Rattle.fa_machine.specs.declared.places.Used.TheVariants.{Reserved, Held, Stale}
use Rattle.fa_machine.specs.declared.places.Version.{Version}
use Rattle.fa_machine.specs.Cells.{Outcome, DidRead, DidProgram, DidMove, DidErase, DidWriteHeader, DidSync, Fault, Wrong, payload_of}
use Rattle.fa_machine.specs.Collecting.{is_in_block, next_step, move_place}
use Rattle.fa_machine.specs.Conditions.{drop_die}
use Rattle.fa_machine.specs.Copies.{copy_on, holds_page, is_current, is_reserved_slot}
use Rattle.fa_machine.specs.Maps.{place_cmp, keep, change}
use Rattle.fa_types.specs.Windows.{is_in_window}
use Rattle.fa_machine.specs.State.{Core, MapState, dies_of, OpenBatch, OpenClaim, Reservation, WaitingProgram, is_live, used_at}

-- a job as it is handed out, with the payload of a program, and whether that program is lasting: synced before the job ends
pub record Handed : Type 0 where
  pub flight : Flight
  pub payload : List ℕ
  pub lasting : Bool

abbrev pub handed : Flight → Handed
handed flight = record { flight = flight; payload = []; lasting = false }

-- the live dies as a header tells them: bit d stands for die d
abbrev pub mask_of : MapState → ℕ
mask_of m = fold (λ mask die. mask + 2 ^ die) 0 (filter (is_live m) (dies_of m))

-- a header that is behind: it is to tell this epoch and these live dies
abbrev pub header_job : Core → ℕ → Option Flight
header_job core die = if contains_key core.behind die then Some (Header core.epoch (mask_of core.page_map)) else None

-- a move of what the slot holds, to the lowest erased slot outside its block
abbrev pub move_from : MapState → ℕ → ℕ → Option Used → Option Flight
move_from m die from (Some (Held page version)) =
    option_map (λ to. Move page version (record { 0 = from }) (record { 0 = to })) (move_place m die (from / m.geometry.slots))
move_from m die from used = None

abbrev pub flight_of : MapState → ℕ → CollectorStep → Option Flight
flight_of m die (MoveSlot from) = move_from m die from.0 (used_at m die from.0)
flight_of m die (EraseBlock block) = Some (Erase block)
flight_of m die Nothing = None

-- the collector's next step, in a round of the die's window in which none was done
abbrev pub step_job : Core → ℕ → Option Flight
step_job core die =
    if is_in_window (get core.calendar.windows die) core.calendar.round && not (contains_key core.stepped die)
    then flight_of core.page_map die (next_step core.page_map die) else None

abbrev pub read_from : Booking → Option Version → Option ℕ → Option Flight
read_from b (Some version) (Some slot) = Some (Read b.batch b.page version (record { 0 = slot }))
read_from b version slot = None

-- the read of a booking that was not started, from the slot that holds the page at this moment
abbrev pub read_of : MapState → ℕ → Booking → Option Flight
read_of m die b = if b.started then None else read_from b (get m.versions b.page.0) (copy_on m b.page.0 die)

abbrev pub read_job : Core → ℕ → Option Flight
read_job core die = option_and_then (read_of core.page_map die) (get core.calendar.bookings (die, core.calendar.round))

-- A program is lasting where its page was written before and its die holds no current copy of it at this moment: so a die comes to
-- hold a page that others hold with a copy only that was synced.
abbrev pub is_lasting : MapState → (page die : ℕ) → Bool
is_lasting m page die = is_some (get m.versions page) && not (holds_page m page die)

-- a program that waited, as it is handed out
abbrev pub program_of : MapState → WaitingProgram → Handed
program_of m p = record {
  flight = Program (record { 0 = p.page }) p.version (record { 0 = p.slot });
  payload = p.payload;
  lasting = is_lasting m p.page p.die;
}

abbrev pub is_for : ℕ → WaitingProgram → Bool
is_for die p = p.die == die

-- a sync, where a flush asked for one that was not taken since
abbrev pub sync_job : Core → ℕ → Option Flight
sync_job core die = if nat_lt (unwrap_or (get core.synced die) 0) (unwrap_or (get core.asked die) 0) then Some (Sync core.flushes) else None

-- the jobs before and behind the drop of a booking that cannot be read
abbrev pub urgent_job : Core → ℕ → Option Flight
urgent_job core die = option_or (header_job core die) (option_or (step_job core die) (read_job core die))

abbrev pub other_job : Core → ℕ → Option Handed
other_job core die = option_or (option_map (program_of core.page_map) (find (is_for die) core.waiting)) (option_map handed (sync_job core die))

-- the state with other slots in use, and with other bookings
abbrev pub with_used : FinMap place_cmp Used → Core → Core
with_used used core = record core { page_map = record (core.page_map) { used = used } }

abbrev pub with_bookings : FinMap place_cmp Booking → Core → Core
with_bookings bookings core = record core { calendar = record (core.calendar) { bookings = bookings } }

-- What a job changes as it is handed out: a move reserves its new slot, a read has started and is in the history, a
-- program no longer waits.
abbrev pub entered : ℕ → ℕ → Flight → Core → Core
entered die seat (Move page version from to) core = with_used (insert core.page_map.used (die, to.0) Reserved) core
entered die seat (Read batch page version slot) core =
    let bookings = insert core.calendar.bookings (die, core.calendar.round) (record { batch = batch; page = page; started = true }) in
    record (with_bookings bookings core) { history = core.history ++ Start seat page version.seq ∷ [] }
entered die seat (Program page version slot) core =
    record core { waiting = before_first (is_for die) core.waiting ++ after_first (is_for die) core.waiting }
entered die seat flight core = core

-- the state in which a job is in flight
abbrev pub begun : ℕ → ℕ → Flight → Core → Core
begun die seat flight core = record (entered die seat flight core) { jobs = insert core.jobs die flight }

-- The state without the booking of this round, where it was not started: its die holds no current copy of its page,
-- and its batch is torn.
abbrev pub without_stale_booking : ℕ → Core → Core
without_stale_booking die core =
    with_bookings (keep (λ place b. not (place.0 == die && place.1 == core.calendar.round) || b.started) core.calendar.bookings) core

-- A job that is handed out, or none, with the state after.
abbrev pub begins : ℕ → ℕ → Core → Option Handed → Option Handed × Core
begins die seat core job = (job, option_map_or (λ j. begun die seat j.flight core) job core)

abbrev pub after_urgent : ℕ → ℕ → Core → Option Flight → Option Handed × Core
after_urgent die seat core (Some flight) = begins die seat core (Some (handed flight))
after_urgent die seat core None = let left = without_stale_booking die core in begins die seat left (other_job left die)

abbrev pub is_idle : Core → ℕ → Bool
is_idle core die = is_live core.page_map die && not (contains_key core.jobs die)

-- Take: the header where it is behind, else the collector's step, else the booked read, else the oldest program, else
-- a sync, else nothing. A booking that cannot be read is dropped on the way, also where nothing is handed out.
abbrev pub taken : Core → ℕ → ℕ → Option Handed × Core
taken core die seat = if is_idle core die then after_urgent die seat core (urgent_job core die) else (None, core)

abbrev pub Takes : Core → ℕ → ℕ → Option Handed → Core → Type 0
Takes old die seat answer new = (answer, new) ≡ taken old die seat

abbrev pub with_answer : ℕ → ℕ → List ℕ → Option OpenBatch → Core → Core
with_answer batch page payload None core = core
with_answer batch page payload (Some b) core =
    record core { batches = insert core.batches batch (record b { answers = insert b.answers page payload }) }

-- A read that gave the page answers its batch, where that is open still. One that gave anything else takes the die out.
abbrev pub read_ends : ℕ → ℕ → ℕ → Option (List ℕ) → Core → Core
read_ends die batch page None core = drop_die die core
read_ends die batch page (Some payload) core = with_answer batch page payload (get core.batches batch) core

abbrev pub mark : ℕ → ℕ → Target → Target
mark die slot t = if t.die.0 == die && t.slot.0 == slot then record t { programmed = true } else t

abbrev pub mark_claim : ℕ → ℕ → OpenClaim → OpenClaim
mark_claim die slot c =
    record c { reserved = option_map {T = Reservation} (λ r. record r { targets = map (mark die slot) r.targets }) c.reserved }

-- the reservation of the page to which a slot belongs has its copy there
abbrev pub program_ends : ℕ → ℕ → ℕ → Core → Core
program_ends page die slot core = record core {
  claims = change (λ id c. if c.page == page then mark_claim die slot c else c) core.claims;
  copying = option_map {T = Copying} (λ c. record c { target = mark die slot c.target }) core.copying;
}

abbrev pub stepped_on : ℕ → Core → Core
stepped_on die core = record core { stepped = insert core.stepped die tt }

-- The new slot is current and the old one stale where the copy still has the page's number, else both are stale.
abbrev pub move_ends : ℕ → ℕ → Version → ℕ → ℕ → Core → Core
move_ends die page version from to core =
    let moved = if is_current core.page_map page die from then Held (record { 0 = page }) version else Stale in
    with_used (insert (insert core.page_map.used (die, from) Stale) (die, to) moved) core

-- the slots of the block are erased, save those that were reserved while it was erased, which are programmed later
abbrev pub stays : MapState → ℕ → ℕ → ℕ × ℕ → Used → Bool
stays m die block place used = not (place.0 == die && is_in_block m block place.1) || is_reserved_slot (Some used)

abbrev pub erase_ends : ℕ → ℕ → Core → Core
erase_ends die block core = with_used (keep (stays core.page_map die block) core.page_map.used) core

-- Done: the job of a die has ended. A header is not behind any more where its epoch is still the current one. A fault takes
-- the die out, and so does a slot that is not the one asked for.
abbrev pub finished : ℕ → Flight → Outcome → Core → Core
finished die (Read batch page version slot) (DidRead cell) core =
    read_ends die batch.0 page.0 (payload_of page.0 version die slot.0 cell) core
finished die (Program page version slot) DidProgram core = program_ends page.0 die slot.0 core
finished die (Move page version from to) DidMove core = stepped_on die (move_ends die page.0 version from.0 to.0 core)
finished die (Erase block) DidErase core = stepped_on die (erase_ends die block.0 core)
finished die (Header epoch live) DidWriteHeader core = if epoch == core.epoch then record core { behind = remove core.behind die } else core
finished die (Sync flushes) DidSync core = record core { synced = insert core.synced die flushes }
finished die flight (Fault call) core = drop_die die core
finished die flight Wrong core = drop_die die core
finished die flight outcome core = core

abbrev pub EndsJob : Core → ℕ → Option Flight → Outcome → Core → Type 0
EndsJob old die None outcome new = ⊥
EndsJob old die (Some flight) outcome new = new ≡ finished die flight outcome (record old { jobs = remove old.jobs die })
