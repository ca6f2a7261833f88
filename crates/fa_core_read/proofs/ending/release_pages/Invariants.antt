use Rattle.fa_core_batches.specs.Batches.{state_of}
use Rattle.fa_core_bookings.specs.Bookings.{calendar_of}
use Rattle.fa_core_bookings.specs.Places.{without_places}
use Rattle.fa_core_read.proofs.ending.release_pages.Given as goal
use Rattle.fa_core_read_pages.specs.Left.{places_among}
use Rattle.fa_types.specs.declared.numbers.Page.{Page}
use Rattle.std.proofs.Common.{map, ◌≡◌}
use Rattle.std.specs.Prelude.{take}

abbrev pub invariant-loop-page : goal.invariant-loop-page
invariant-loop-page g l =
    calendar_of l.bookings ≡ without_places
    (places_among (state_of l.batches l.batch.0) (map (λ (page : Page). page.0) (take l.page-index l.pages))) (calendar_of l.fn.bookings)
