-- How the pages of a batch stand as it is opened, and once a plan of it is booked.
use Rattle.std.specs.Prelude.{ℕ, ◌==◌, List, Option, Some, None, fold, if◌then◌else◌}
use Rattle.std.specs.FinMap.{empty, get}
use Rattle.fa_batch_terms.specs.declared.place.Place.{Place}
use Rattle.fa_core_batches.specs.declared.page.PageState.{PageState}
use Rattle.fa_core_batches.specs.declared.page.PageState.TheVariants.{Answered, Booked, Torn}
use Rattle.fa_machine.specs.Maps.{insert_all, is_one_of}
use Rattle.fa_machine.specs.Reading.{at_once, has_data, zeros}
use Rattle.fa_machine.specs.State.{MapState, OpenBatch}

-- a batch of these pages as it is opened
abbrev pub new_batch : MapState → List ℕ → OpenBatch
new_batch m pages = record { pages = pages; answers = insert_all (at_once m pages) (zeros m) empty }

-- a page of a batch of these pages: it is answered where it has no bytes on its dies
abbrev pub opened_state : MapState → List ℕ → ℕ → Option PageState
opened_state m pages page =
    if is_one_of pages page then Some (if has_data (get m.versions page) then Torn else Answered) else None

-- a page that stood so, once these places are booked, one after the other
abbrev pub placed_state : List Place → ℕ → Option PageState → Option PageState
placed_state places page before = fold (λ found x. if x.page.0 == page then Some (Booked x.die x.round) else found) before places
