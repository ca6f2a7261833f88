-- The pages that are left of a batch, by how they stand.
use Rattle.fa_core_batches.specs.Batches.{batches_of, state_of}
use Rattle.fa_core_batches.specs.Pages.{is_answered}
use Rattle.fa_core_batches.specs.declared.batches.Batches.{Batches}
use Rattle.fa_core_batches.specs.declared.page.PageState.{PageState}
use Rattle.fa_core_batches.specs.declared.page.PageState.TheVariants.{Answered, Booked, InFlight, Torn}
use Rattle.fa_machine.proofs.Lists.{among-filter, among-filter-intro}
use Rattle.fa_machine.proofs.Maps.{nat_same}
use Rattle.fa_machine.proofs.Values.{any_value, some_value}
use Rattle.fa_machine.specs.Among.{Among}
use Rattle.fa_machine.specs.Maps.{is_one_of, place_cmp}
use Rattle.fa_machine.specs.Reading.{is_read_for}
use Rattle.fa_machine.specs.declared.jobs.Flight.{Flight}
use Rattle.fa_machine.specs.declared.jobs.Flight.TheVariants.{Erase, Header, Move, Program, Read, Sync}
use Rattle.fa_machine.specs.declared.places.Booking.{Booking}
use Rattle.fa_core_read.proofs.Newly.{among_one, one_among}
use Rattle.fa_core_read.proofs.Placed.{left_there}
use Rattle.fa_core_read_pages.specs.Left.{is_left, left_among}
use Rattle.fa_core_state.specs.Tracked.{AreTracked, is_at_read}
use Rattle.fa_types.specs.declared.numbers.Die.{Die}
use Rattle.std.proofs.Common.{Bool, List, None, Option, Some, [], ap, cond, false, inl, inr, refl, sym, true, ℕ, ◌∙◌, ◌∷◌, ◌≡◌}
use Rattle.std.proofs.lemmas.Bool.{and_parts, eqb-true, false_from_ne_true, false≢true}
use Rattle.std.proofs.lemmas.Cmp.{tied_itself}
use Rattle.std.specs.Cmp.{nat_cmp_total}
use Rattle.std.specs.FinMap.{FinMap, contains_key, get, values}
use Rattle.std.specs.List.{list_any}
use Rattle.std.specs.Option.{option_map_or}
use Rattle.std.specs.Ordering.{nat_cmp}
use Rattle.std.specs.Prelude.{filter, is_some, not, ◌==◌, ◌||◌}

filter_alike : {X : Type 0} (p q : X → Bool) (xs : List X) → ((x : X) → Among x xs → p x ≡ q x) → filter p xs ≡ filter q xs
filter_alike p q [] same = refl
filter_alike p q (x ∷ xs) same =
    let rest = filter_alike p q xs (λ y among. same y (inr among)) in
    λ i. cond (same x (inl refl) i) (x ∷ rest i) (rest i)

abbrev is_flying : PageState → Bool
is_flying (InFlight die) = true
is_flying state = false

module _ {A : Type 0} (batches : Batches A) (bookings : FinMap place_cmp Booking) (jobs : FinMap nat_cmp Flight)
    (tracked : AreTracked bookings jobs batches) (batch : ℕ) (there : contains_key (batches_of batches) batch ≡ true) where
  abbrev state : ℕ → Option PageState
  state = state_of batches batch

  abbrev is_read : ℕ → Bool
  is_read page = list_any (is_read_for batch page) (values jobs)

  -- the page of a read for the batch is in flight
  read_flies : (die page : ℕ) (flight : Flight) → get jobs die ≡ Some flight → is_read_for batch page flight ≡ true
      → state page ≡ Some (InFlight (record { 0 = die }))
  read_flies die page (Read b p version slot) is passes =
      let parts = and_parts (b.0 == batch) (p.0 == page) passes in
      let batch_is = eqb-true b.0 batch parts.0 in let page_is = eqb-true p.0 page parts.1 in
      (λ i. state_of batches (sym batch_is i) (sym page_is i))
      ∙ tracked.flying die b p version slot is (ap (contains_key (batches_of batches)) batch_is ∙ there)
  read_flies die page (Header epoch live) is passes = absurd (false≢true passes)
  read_flies die page (Move p version from to) is passes = absurd (false≢true passes)
  read_flies die page (Erase block) is passes = absurd (false≢true passes)
  read_flies die page (Program p version slot) is passes = absurd (false≢true passes)
  read_flies die page (Sync flushes) is passes = absurd (false≢true passes)

  -- a page that is not in flight has no read
  no_read : (page : ℕ) → option_map_or is_flying (state page) false ≡ false → is_read page ≡ false
  no_read page grounded =
      false_from_ne_true (is_read page) (λ some.
      let found = some_value nat_cmp_total nat_same (tied_itself nat_cmp_total) (is_read_for batch page) jobs some in
      false≢true (sym grounded ∙ ap (λ o. option_map_or is_flying o false) (read_flies found.0 page found.1 found.2 found.3)))

  -- a page that is in flight has a read
  some_read : (page : ℕ) (die : Die) → state page ≡ Some (InFlight die) → is_read page ≡ true
  some_read page die is = go (get jobs die.0) refl (tracked.reading batch page die is)
    where
      go : (o : Option Flight) → get jobs die.0 ≡ o → is_at_read batch page o ≡ true → is_read page ≡ true
      go None at reads = absurd (false≢true reads)
      go (Some flight) at reads = any_value (is_read_for batch page) jobs die.0 flight at reads

  module _ (pages : List ℕ) (answers : FinMap nat_cmp (List ℕ))
      (whole : (p : ℕ) → is_one_of pages p ≡ is_some (state p))
      (answered : (p : ℕ) → contains_key answers p ≡ option_map_or is_answered (state p) false) where
    left_is : (page : ℕ) → Among page pages → is_left (state page) ≡ not (contains_key answers page || is_read page)
    left_is page among = go (state page) refl (sym (whole page) ∙ among_one pages page among) (answered page)
      where
        go : (o : Option PageState) → state page ≡ o → is_some o ≡ true → contains_key answers page ≡ option_map_or is_answered o false
            → is_left o ≡ not (contains_key answers page || is_read page)
        go None is some answer = absurd (false≢true some)
        go (Some Answered) is some answer = sym (ap (λ b. not (b || is_read page)) answer)
        go (Some (InFlight die)) is some answer = λ i. not (sym answer i || sym (some_read page die is) i)
        go (Some (Booked die round)) is some answer =
            λ i. not (sym answer i || sym (no_read page (ap (λ o. option_map_or is_flying o false) is)) i)
        go (Some Torn) is some answer =
            λ i. not (sym answer i || sym (no_read page (ap (λ o. option_map_or is_flying o false) is)) i)

    -- those that are left as they stand are those that have no answer and no read
    pub left_same : left_among state pages ≡ filter (λ page. not (contains_key answers page || is_read page)) pages
    left_same = filter_alike (λ page. is_left (state page)) (λ page. not (contains_key answers page || is_read page)) pages left_is

-- the pages that are left
module _ (state : ℕ → Option PageState) (pages : List ℕ) where
  pub among_left : (page : ℕ) → Among page (left_among state pages) → is_left (state page) ≡ true
  among_left page among = (among-filter (λ page. is_left (state page)) page pages among).1

  pub left_among_them : ((p : ℕ) → is_one_of pages p ≡ is_some (state p)) → (page : ℕ) → is_left (state page) ≡ true
      → Among page (left_among state pages)
  left_among_them whole page left =
      among-filter-intro (λ page. is_left (state page)) page pages (one_among pages page (whole page ∙ left_there (state page) left)) left
