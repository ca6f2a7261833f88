-- The code of the array's state under its lock, by which a proof tells two of them apart: each record is stored as its parts.
use Rattle.std.specs.Prelude.{ℕ, Bool, List, Option, refl}
use Rattle.std.specs.Coded.{Coded, code_by, coded×, coded_ℕ, coded_bool, coded_list, coded_option}
use Rattle.std.specs.FinMap.{FinMap, code}
use Rattle.std.specs.Ordering.{nat_cmp}
use Rattle.fa_machine.specs.Maps.{Numbers, place_cmp}
use Rattle.fa_machine.specs.State.{CalendarState, Core, MapState, OpenBatch, OpenClaim, Reservation, WaitingProgram, Base}
use Rattle.fa_machine.specs.contracts.answers.HistoryEntry as HistoryEntryContract
use Rattle.fa_machine.specs.contracts.jobs.Flight as FlightContract
use Rattle.fa_machine.specs.contracts.places.Booking as BookingContract
use Rattle.fa_machine.specs.contracts.places.Copying as CopyingContract
use Rattle.fa_machine.specs.contracts.places.Target as TargetContract
use Rattle.fa_machine.specs.contracts.places.Version as VersionContract
use Rattle.fa_machine.specs.declared.answers.HistoryEntry.{HistoryEntry}
use Rattle.fa_machine.specs.declared.jobs.Flight.{Flight}
use Rattle.fa_machine.specs.declared.places.Booking.{Booking}
use Rattle.fa_machine.specs.declared.places.Copying.{Copying}
use Rattle.fa_machine.specs.declared.places.Target.{Target}
use Rattle.fa_machine.specs.declared.places.Version.{Version}
use Rattle.fa_map_calls.specs.Codes.{map_state_code}
use Rattle.fa_core_tables.specs.Codes.{base_code, waiting_code}
use Rattle.fa_shared_lock.specs.Locked.{LockedState}
use Rattle.fa_types.specs.contracts.window.Window as WindowContract
use Rattle.fa_types.specs.declared.window.Window.{Window}
use base.Stored.{coded_unit}

-- a set of numbers, and a number by number
numbers_code : Coded Numbers
numbers_code = code coded_ℕ coded_unit

by_number_code : Coded (FinMap nat_cmp ℕ)
by_number_code = code coded_ℕ coded_ℕ

abbrev CalendarParts : Type 0
CalendarParts = ℕ × (FinMap place_cmp Booking × FinMap nat_cmp Window)

calendar_code : Coded CalendarState
calendar_code = code_by CalendarParts
    (coded× coded_ℕ (coded× (code (coded× coded_ℕ coded_ℕ) (BookingContract.the_row).coded) (code coded_ℕ (WindowContract.the_row).coded)))
    (λ c. (c.round, (c.bookings, c.windows))) (λ p. record { round = p.0; bookings = p.1.0; windows = p.1.1 }) (λ _. refl)

reservation_code : Coded Reservation
reservation_code = code_by (Version × List Target)
    (coded× (VersionContract.the_row).coded (coded_list (TargetContract.the_row).coded))
    (λ r. (r.version, r.targets)) (λ p. record { version = p.0; targets = p.1 }) (λ _. refl)

claim_code : Coded OpenClaim
claim_code = code_by (ℕ × Option Reservation) (coded× coded_ℕ (coded_option reservation_code))
    (λ c. (c.page, c.reserved)) (λ p. record { page = p.0; reserved = p.1 }) (λ _. refl)

batch_code : Coded OpenBatch
batch_code = code_by (List ℕ × FinMap nat_cmp (List ℕ)) (coded× (coded_list coded_ℕ) (code coded_ℕ (coded_list coded_ℕ)))
    (λ b. (b.pages, b.answers)) (λ p. record { pages = p.0; answers = p.1 }) (λ _. refl)

-- what the dies are, what is written, and what is read and told
abbrev DieParts : Type 0
DieParts = ℕ × (MapState × (CalendarState × (ℕ × (Numbers × (Numbers × Numbers)))))

abbrev WriteParts : Type 0
WriteParts = ℕ × (List WaitingProgram × (FinMap nat_cmp Flight × (Option Copying × FinMap nat_cmp OpenClaim)))

abbrev ReadParts : Type 0
ReadParts = FinMap nat_cmp OpenBatch × (ℕ × (FinMap nat_cmp ℕ × (FinMap nat_cmp ℕ × (Base × List HistoryEntry))))

die_parts_code : Coded DieParts
die_parts_code =
    coded× coded_ℕ (coded× map_state_code (coded× calendar_code (coded× coded_ℕ (coded× numbers_code (coded× numbers_code numbers_code)))))

write_parts_code : Coded WriteParts
write_parts_code =
    coded× coded_ℕ (coded× waiting_code (coded× (code coded_ℕ (FlightContract.the_row).coded)
    (coded× (coded_option (CopyingContract.the_row).coded) (code coded_ℕ claim_code))))

read_parts_code : Coded ReadParts
read_parts_code =
    coded× (code coded_ℕ batch_code) (coded× coded_ℕ (coded× by_number_code (coded× by_number_code
    (coded× base_code (coded_list (HistoryEntryContract.the_row).coded)))))

core_code : Coded Core
core_code = code_by (DieParts × (WriteParts × ReadParts)) (coded× die_parts_code (coded× write_parts_code read_parts_code))
    (λ c. (
      (c.copies, (c.page_map, (c.calendar, (c.epoch, (c.behind, (c.spares, c.stepped)))))),
      (
        (c.last, (c.waiting, (c.jobs, (c.copying, c.claims)))),
        (c.batches, (c.flushes, (c.asked, (c.synced, (c.base, c.history))))),
      ),
    ))
    (λ p. record {
      copies = p.0.0;
      page_map = p.0.1.0;
      calendar = p.0.1.1.0;
      epoch = p.0.1.1.1.0;
      behind = p.0.1.1.1.1.0;
      spares = p.0.1.1.1.1.1.0;
      stepped = p.0.1.1.1.1.1.1;
      last = p.1.0.0;
      waiting = p.1.0.1.0;
      jobs = p.1.0.1.1.0;
      copying = p.1.0.1.1.1.0;
      claims = p.1.0.1.1.1.1;
      batches = p.1.1.0;
      flushes = p.1.1.1.0;
      asked = p.1.1.1.1.0;
      synced = p.1.1.1.1.1.0;
      base = p.1.1.1.1.1.1.0;
      history = p.1.1.1.1.1.1.1;
    })
    (λ _. refl)

abbrev LockedParts : Type 0
LockedParts = Core × (List ℕ × (ℕ × (ℕ × (ℕ × Bool))))

pub locked_code : Coded LockedState
locked_code = code_by LockedParts
    (coded× core_code (coded× (coded_list coded_ℕ) (coded× coded_ℕ (coded× coded_ℕ (coded× coded_ℕ coded_bool)))))
    (λ l. (l.core, (l.number, (l.book, (l.out, (l.gathered, l.stopping))))))
    (λ p. record { core = p.0; number = p.1.0; book = p.1.1.0; out = p.1.1.1.0; gathered = p.1.1.1.1.0; stopping = p.1.1.1.1.1 })
    (λ _. refl)
