-- What those ask next who rely on the reads: what a lost page is answered, and what a round waits for.
use Rattle.std.specs.Prelude.{◌≡◌, ℕ, List, true, false, Result, Err, Some, find}
use Rattle.std.specs.FinMap.{get}
use Rattle.fa_types.specs.declared.numbers.Page.{Page}
use Rattle.fa_machine.specs.declared.places.Booking.{Booking}
use Rattle.fa_machine.specs.declared.refusals.AdmitRefused.{AdmitRefused}
use Rattle.fa_machine.specs.declared.refusals.AdmitRefused.TheVariants.{Lost}
use Rattle.fa_machine.specs.Copies.{is_lost}
use Rattle.fa_machine.specs.Reading.{Admitted}
use Rattle.fa_machine.specs.State.{Core}
use Rattle.fa_machine.specs.Turning.{is_reading}

-- the answer names the first page of the list that is lost
abbrev pub IsAnsweredLost : Core → List ℕ → Result Admitted AdmitRefused → Type 0
IsAnsweredLost core pages answer = (page : Page) × (find (is_lost core.page_map) pages ≡ Some page.0) × (answer ≡ Err (Lost page))

-- the read of a booking was started, and no read is in flight on its die
abbrev pub HasEnded : Core → ℕ → Booking → Type 0
HasEnded core die booking = (booking.started ≡ true) × (is_reading (get core.jobs die) ≡ false)
