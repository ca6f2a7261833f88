-- Which pages of a batch are left to be read, and which of its places are booked, by how its pages stand.
use Rattle.std.specs.Prelude.{ℕ, Bool, true, false, List, Option, Some, None, filter, filter_map}
use Rattle.fa_batch_terms.specs.declared.place.Place.{Place}
use Rattle.fa_core_batches.specs.declared.page.PageState.{PageState}
use Rattle.fa_core_batches.specs.declared.page.PageState.TheVariants.{Booked, Torn}

-- whether a page that stands so has no answer and no read in flight
abbrev pub is_left : Option PageState → Bool
is_left (Some (Booked die round)) = true
is_left (Some Torn) = true
is_left state = false

abbrev pub place_in : ℕ → Option PageState → Option Place
place_in page (Some (Booked die round)) = Some (record { page = record { 0 = page }; die = die; round = round })
place_in page state = None

-- those of some pages that are left, where each stands as this function says, and the places that are booked for them
abbrev pub left_among : (ℕ → Option PageState) → List ℕ → List ℕ
left_among state pages = filter (λ page. is_left (state page)) pages

abbrev pub places_among : (ℕ → Option PageState) → List ℕ → List Place
places_among state pages = filter_map (λ page. place_in page (state page)) pages
