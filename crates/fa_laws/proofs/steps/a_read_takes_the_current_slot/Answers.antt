use Rattle.std.proofs.Common.{◌≡◌, ℕ, true, false, cond, Option, Some, None, refl, sym, ap, ◌∙◌}
use Rattle.std.specs.Prelude.{option_and_then}
use Rattle.std.specs.FinMap.{get}
use Rattle.std.proofs.lemmas.Option.{none-some, same_Some}
use Rattle.fa_machine.specs.declared.jobs.Flight.{Flight}
use Rattle.fa_machine.specs.declared.jobs.Flight.TheVariants.{Read}
use Rattle.fa_machine.specs.declared.places.Booking.{Booking}
use Rattle.fa_machine.specs.declared.places.Version.{Version}
use Rattle.fa_machine.specs.Copies.{copy_on, is_current}
use Rattle.fa_machine.specs.State.{MapState, slots_of}
use Rattle.fa_machine.specs.Taking.{read_from, read_of}
use Rattle.fa_machine.proofs.Lists.{found_passes}
use Rattle.fa_laws.proofs.steps.a_read_takes_the_current_slot.Goals as goal

abbrev slot_of : Flight → ℕ
slot_of (Read batch page version slot) = slot.0
slot_of flight = 0

abbrev page_of : Flight → ℕ
page_of (Read batch page version slot) = page.0
page_of flight = 0

from_booking : (m : MapState) (die : ℕ) (b : Booking) (v : Option Version) (s : Option ℕ) → copy_on m b.page.0 die ≡ s → (flight : Flight)
    → read_from b v s ≡ Some flight → is_current m (page_of flight) die (slot_of flight) ≡ true
from_booking m die b None s is flight e = absurd (none-some flight e)
from_booking m die b (Some version) None is flight e = absurd (none-some flight e)
from_booking m die b (Some version) (Some slot) is flight e =
    let same = same_Some _ flight e in
    ap (λ (f : Flight). is_current m (page_of f) die (slot_of f)) (sym same) ∙ (found_passes (is_current m b.page.0 die) (slots_of m) slot is).0

current : (m : MapState) (die : ℕ) (booking : Option Booking) (flight : Flight) → option_and_then (read_of m die) booking ≡ Some flight
    → is_current m (page_of flight) die (slot_of flight) ≡ true
current m die None flight e = absurd (none-some flight e)
current m die (Some b) flight e =
    elim b.started as (λ started. cond started None (read_from b (get m.versions b.page.0) (copy_on m b.page.0 die)) ≡ Some flight
    → is_current m (page_of flight) die (slot_of flight) ≡ true) [
      | true ↦ λ same. absurd (none-some flight same)
      | false ↦ λ same. from_booking m die b (get m.versions b.page.0) (copy_on m b.page.0 die) refl flight same
    ] e

pub returns : goal.returns
returns c core die batch page version slot e =
    current core.page_map die (get core.calendar.bookings (die, core.calendar.round)) (Read batch page version slot) e
