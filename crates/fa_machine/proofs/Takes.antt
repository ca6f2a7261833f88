-- What a Take comes to, case by case.
use Rattle.std.specs.Option.{option_or}
use Rattle.fa_machine.specs.Collecting.{move_place, next_step}
use Rattle.fa_machine.specs.Copies.{copy_on}
use Rattle.fa_machine.specs.State.{Core, WaitingProgram, used_at}
use Rattle.fa_machine.specs.Taking.{Handed, after_urgent, begins, begun, flight_of, handed, header_job, is_for, is_idle, move_from}
use Rattle.fa_machine.specs.Taking.{other_job, program_of, read_from, read_job, read_of, step_job, sync_job, taken}
use Rattle.fa_machine.specs.Taking.{urgent_job, without_stale_booking}
use Rattle.fa_machine.specs.declared.jobs.CollectorStep.{CollectorStep}
use Rattle.fa_machine.specs.declared.jobs.CollectorStep.TheVariants.{EraseBlock, MoveSlot, Nothing}
use Rattle.fa_machine.specs.declared.jobs.Flight.{Flight}
use Rattle.fa_machine.specs.declared.jobs.Flight.TheVariants.{Erase, Header, Move, Read, Sync}
use Rattle.fa_machine.specs.declared.places.Booking.{Booking}
use Rattle.fa_machine.specs.declared.places.Used.{Used}
use Rattle.fa_machine.specs.declared.places.Used.TheVariants.{Held, Reserved, Stale}
use Rattle.fa_machine.specs.declared.places.Version.{Version}
use Rattle.std.proofs.Common.{Bool, None, Option, Some, ap, false, inl, inr, refl, subst, sym, true, ℕ, ◌/◌, ◌∙◌, ◌≡◌, ◌⊎◌}
use Rattle.std.proofs.lemmas.Option.{none-some, same_Some}
use Rattle.std.specs.Prelude.{option_and_then}
use Rattle.std.specs.FinMap.{get}
use Rattle.std.specs.Prelude.{find, if◌then◌else◌, option_map}

-- a booked read as it is handed out
pub record IsBookedRead (core : Core) (die batch page : ℕ) (version : Version) (slot : ℕ) : Type 0 where
  pub booking : Booking
  pub booked : get core.calendar.bookings (die, core.calendar.round) ≡ Some booking
  pub waits : booking.started ≡ false
  pub batch_is : booking.batch.0 ≡ batch
  pub page_is : booking.page.0 ≡ page
  pub number : get core.page_map.versions page ≡ Some version
  pub copy : copy_on core.page_map page die ≡ Some slot

-- a header, a collector's step or a booked read
abbrev pub IsUrgent : Core → ℕ → Flight → Type 0
IsUrgent core die (Header epoch live) = Unit {0}
IsUrgent core die (Move page version from to) =
    (used_at core.page_map die from.0 ≡ Some (Held page version)) × (move_place core.page_map die (from.0 / core.page_map.geometry.slots) ≡ Some to.0)
IsUrgent core die (Erase block) = next_step core.page_map die ≡ EraseBlock block
IsUrgent core die (Read batch page version slot) = IsBookedRead core die batch.0 page.0 version slot.0
IsUrgent core die flight = ⊥

-- the oldest program of the die, a sync, or nothing
abbrev pub IsOther : Core → ℕ → Option Handed → Type 0
IsOther core die None = Unit {0}
IsOther core die (Some job) =
    ((p : WaitingProgram) × (find (is_for die) core.waiting ≡ Some p) × (job ≡ program_of core.page_map p)) ⊎ ((flushes : ℕ) × (job ≡ handed (Sync flushes)))

one_of_two : {A : Type 0} (a b : Option A) (x : A) → option_or a b ≡ Some x → (a ≡ Some x) ⊎ (b ≡ Some x)
one_of_two None b x e = inr e
one_of_two (Some a) b x e = inl e

-- what an `if` without an else gave
if_some : {A : Type 0} (b : Bool) (o : Option A) (x : A) → (if b then o else None) ≡ Some x → (b ≡ true) × (o ≡ Some x)
if_some true o x e = (refl, e)
if_some false o x e = absurd (none-some x e)

if_none : {A : Type 0} (b : Bool) (o : Option A) (x : A) → (if b then None else o) ≡ Some x → (b ≡ false) × (o ≡ Some x)
if_none true o x e = absurd (none-some x e)
if_none false o x e = (refl, e)

a_move : (core : Core) (die from : ℕ) (used : Option Used) (to : Option ℕ) (flight : Flight) → used_at core.page_map die from ≡ used
    → move_place core.page_map die (from / core.page_map.geometry.slots) ≡ to → move_from core.page_map die from used ≡ Some flight
    → IsUrgent core die flight
a_move core die from None to flight is place e = absurd (none-some flight e)
a_move core die from (Some Reserved) to flight is place e = absurd (none-some flight e)
a_move core die from (Some Stale) to flight is place e = absurd (none-some flight e)
a_move core die from (Some (Held page version)) None flight is place e =
    absurd (none-some flight (sym (ap (option_map (λ t. Move page version (record { 0 = from }) (record { 0 = t }))) place) ∙ e))
a_move core die from (Some (Held page version)) (Some to) flight is place e =
    subst (IsUrgent core die)
    (same_Some _ flight (sym (ap (option_map (λ t. Move page version (record { 0 = from }) (record { 0 = t }))) place) ∙ e)) (is, place)

a_step : (core : Core) (die : ℕ) (s : CollectorStep) (flight : Flight) → next_step core.page_map die ≡ s
    → flight_of core.page_map die s ≡ Some flight → IsUrgent core die flight
a_step core die (MoveSlot from) flight is e = a_move core die from.0 (used_at core.page_map die from.0) _ flight refl refl e
a_step core die (EraseBlock block) flight is e = subst (IsUrgent core die) (same_Some _ flight e) is
a_step core die Nothing flight is e = absurd (none-some flight e)

a_read_from : (core : Core) (die : ℕ) (b : Booking) (v : Option Version) (s : Option ℕ) (flight : Flight)
    → get core.calendar.bookings (die, core.calendar.round) ≡ Some b → b.started ≡ false → get core.page_map.versions b.page.0 ≡ v
    → copy_on core.page_map b.page.0 die ≡ s → read_from b v s ≡ Some flight → IsUrgent core die flight
a_read_from core die b None s flight booked waits number copy e = absurd (none-some flight e)
a_read_from core die b (Some version) None flight booked waits number copy e = absurd (none-some flight e)
a_read_from core die b (Some version) (Some slot) flight booked waits number copy e =
    subst (IsUrgent core die) (same_Some _ flight e)
    (record { booking = b; booked = booked; waits = waits; batch_is = refl; page_is = refl; number = number; copy = copy })

a_read : (core : Core) (die : ℕ) (booking : Option Booking) (flight : Flight) → get core.calendar.bookings (die, core.calendar.round) ≡ booking
    → option_and_then (read_of core.page_map die) booking ≡ Some flight → IsUrgent core die flight
a_read core die None flight booked e = absurd (none-some flight e)
a_read core die (Some b) flight booked e =
    let found = if_none b.started _ flight e in
    a_read_from core die b _ _ flight booked found.0 refl refl found.1

urgent_is : (core : Core) (die : ℕ) (flight : Flight) → urgent_job core die ≡ Some flight → IsUrgent core die flight
urgent_is core die flight e =
    elim (one_of_two (header_job core die) (option_or (step_job core die) (read_job core die)) flight e) [
      | inl header ↦ subst (IsUrgent core die) (same_Some _ flight (if_some _ _ flight header).1) tt
      | inr later ↦ elim (one_of_two (step_job core die) (read_job core die) flight later) [
        | inl step ↦ a_step core die _ flight refl (if_some _ _ flight step).1
        | inr read ↦ a_read core die _ flight refl read
      ]
    ]

sync_is : (core : Core) (die : ℕ) (job : Handed) (flight : Option Flight) → sync_job core die ≡ flight → option_map handed flight ≡ Some job
    → job ≡ handed (Sync core.flushes)
sync_is core die job None is e = absurd (none-some job e)
sync_is core die job (Some flight) is e = sym (same_Some _ job e) ∙ ap handed (sym (same_Some _ flight (if_some _ _ flight is).1))

other_is : (core : Core) (die : ℕ) (found : Option WaitingProgram) (job : Option Handed) → find (is_for die) core.waiting ≡ found
    → option_or (option_map (program_of core.page_map) found) (option_map handed (sync_job core die)) ≡ job → IsOther core die job
other_is core die found None is e = tt
other_is core die (Some p) (Some job) is e = inl (p, is, sym (same_Some _ job e))
other_is core die None (Some job) is e = inr (core.flushes, sync_is core die job (sync_job core die) refl e)

-- What holds of each way in which a Take may go holds of it.
pub take_cases : (core : Core) (die seat : ℕ) (P : Option Handed × Core → Type 0) → P (None, core)
    → ((flight : Flight) → is_idle core die ≡ true → IsUrgent core die flight → P (Some (handed flight), begun die seat flight core))
    → ((job : Option Handed) → is_idle core die ≡ true → IsOther (without_stale_booking die core) die job
    → P (begins die seat (without_stale_booking die core) job))
    → P (taken core die seat)
take_cases core die seat P none urgent other =
    elim (is_idle core die) as (λ b. is_idle core die ≡ b → P (if b then after_urgent die seat core (urgent_job core die) else (None, core))) [
      | false ↦ λ busy. none
      | true ↦ λ idle. at_urgent idle (urgent_job core die) refl
    ] refl
  where
    at_urgent : is_idle core die ≡ true → (job : Option Flight) → urgent_job core die ≡ job → P (after_urgent die seat core job)
    at_urgent idle None is = other (other_job (without_stale_booking die core) die) idle (other_is (without_stale_booking die core) die _ _ refl refl)
    at_urgent idle (Some flight) is = urgent flight idle (urgent_is core die flight is)
