-- What a table of booked rounds and a calendar stand for.
use Rattle.std.specs.Prelude.{◌≡◌, ℕ, ◌==◌, ◌&&◌, Bool, List, Option, is_some, filter_map, option_map}
use Rattle.std.specs.FinMap.{FinMap, from_entries}
use Rattle.std.specs.Map.{lookup}
use Rattle.std.specs.Ordering.{nat_cmp}
use Rattle.fa_machine.specs.Maps.{below}
use Rattle.fa_machine.specs.declared.places.Booking.{Booking}
use Rattle.fa_types.specs.declared.window.Window.{Window}

abbrev pub Entries : Type 0
Entries = List ((ℕ × ℕ) × Booking)

-- the booking of a round of a die
abbrev pub booking_at : Entries → ℕ → ℕ → Option Booking
booking_at entries die round = lookup (λ place. die == place.0 && round == place.1) entries

-- the calendar and the table have the same rounds
abbrev pub AreBooked : (ℕ → ℕ → Bool) → Entries → Type 0
AreBooked is_booked entries = (die round : ℕ) → is_booked die round ≡ is_some (booking_at entries die round)

-- the windows of the dies, of which there are 256 at most
abbrev pub windows_in : (ℕ → Option Window) → FinMap nat_cmp Window
windows_in window_of = from_entries (filter_map (λ die. option_map (λ window. (die, window)) (window_of die)) (below 256))
