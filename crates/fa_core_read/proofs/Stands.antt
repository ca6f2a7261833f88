-- How an open batch stands, by how its pages stand.
use Rattle.fa_core_batches.specs.Batches.{batches_of, state_of}
use Rattle.fa_core_batches.proofs.Opened.{answered_at, listed_at}
use Rattle.fa_core_batches.specs.Pages.{is_answered, is_torn, opened}
use Rattle.fa_core_batches.specs.declared.batches.Batches.{Batches}
use Rattle.fa_core_batches.specs.declared.page.PageState.{PageState}
use Rattle.fa_core_batches.specs.declared.page.PageState.TheVariants.{Answered, Booked, InFlight, Torn}
use Rattle.fa_machine.proofs.Maps.{place_cmp_total, place_itself, place_same}
use Rattle.fa_machine.proofs.Values.{any_value, some_value}
use Rattle.fa_machine.specs.Maps.{is_one_of, place_cmp}
use Rattle.fa_core_bookings.specs.Bookings.{calendar_of}
use Rattle.fa_machine.specs.Reading.{is_booked, is_read_for, left_of}
use Rattle.fa_machine.specs.State.{MapState}
use Rattle.fa_core_tables.specs.Dies.{by_die}
use Rattle.fa_core_state.specs.Core.{core_of}
use Rattle.fa_core_state.specs.Fitted.{IsFitted}
use Rattle.fa_core_state.specs.declared.state.State.{State}
use Rattle.fa_machine.specs.declared.jobs.Flight.{Flight}
use Rattle.fa_machine.specs.declared.places.Booking.{Booking}
use Rattle.fa_core_read.proofs.LeftOf.{left_same}
use Rattle.fa_core_read_pages.specs.Left.{is_left}
use Rattle.fa_core_state.specs.Tracked.{AreTracked, unstarted}
use Rattle.fa_types.specs.declared.numbers.Die.{Die}
use Rattle.fa_types.specs.declared.numbers.Round.{Round}
use Rattle.std.proofs.Common.{Bool, List, None, Option, Some, [], ap, cond, eq-eqb, false, refl, sym, true, ℕ, ◌∙◌, ◌∷◌, ◌≡◌}
use Rattle.std.proofs.lemmas.Bool.{and_parts, eqb-true, false_from_ne_true, false≢true}
use Rattle.std.specs.Cmp.Derive.{both_true}
use Rattle.std.specs.FinMap.{FinMap, contains_key, values}
use Rattle.std.specs.List.{list_any}
use Rattle.std.specs.Option.{option_map_or}
use Rattle.std.specs.Ordering.{nat_cmp}
use Rattle.std.specs.Prelude.{filter, is_some, not, ◌&&◌, ◌==◌, ◌||◌}

-- a test of those that pass another, as one test of all
filtered_any : (p q r : ℕ → Bool) (xs : List ℕ) → ((x : ℕ) → (p x && q x) ≡ r x) → list_any q (filter p xs) ≡ list_any r xs
filtered_any p q r [] same = refl
filtered_any p q r (x ∷ xs) same = go (p x) refl (filtered_any p q r xs same)
  where
    go : (t : Bool) → p x ≡ t → list_any q (filter p xs) ≡ list_any r xs
        → list_any q (cond t (x ∷ filter p xs) (filter p xs)) ≡ (r x || list_any r xs)
    go true passes rest = λ i. (ap (λ t. t && q x) (sym passes) ∙ same x) i || rest i
    go false passes rest = rest ∙ ap (λ t. t || list_any r xs) (ap (λ t. t && q x) (sym passes) ∙ same x)

-- whether a booking is of a page of a batch, and was not started
abbrev pub is_booking_for : ℕ → ℕ → Booking → Bool
is_booking_for batch page b = b.batch.0 == batch && b.page.0 == page && not b.started

abbrev has_place : PageState → Bool
has_place (Booked die round) = true
has_place state = false

module _ {A : Type 0} (batches : Batches A) (bookings : FinMap place_cmp Booking) (jobs : FinMap nat_cmp Flight)
    (tracked : AreTracked bookings jobs batches) (batch : ℕ) (there : contains_key (batches_of batches) batch ≡ true) where
  abbrev has_booking : ℕ → Bool
  has_booking page = list_any (is_booking_for batch page) (values bookings)

  -- such a booking is known
  booking_is : (page : ℕ) (b : Booking) → is_booking_for batch page b ≡ true → b ≡ unstarted batch page
  booking_is page b is =
      let two = and_parts (b.batch.0 == batch && b.page.0 == page) (not b.started) is in
      let one = and_parts (b.batch.0 == batch) (b.page.0 == page) two.0 in
      let started = not_started b.started two.1 in let batch_is = eqb-true b.batch.0 batch one.0 in
      let page_is = eqb-true b.page.0 page one.1 in
      λ i. record { batch = record { 0 = batch_is i }; page = record { 0 = page_is i }; started = started i }
    where
      not_started : (t : Bool) → not t ≡ true → t ≡ false
      not_started true is = absurd (false≢true is)
      not_started false is = refl

  some_booking : (page : ℕ) (die : Die) (round : Round) → state_of batches batch page ≡ Some (Booked die round) → has_booking page ≡ true
  some_booking page die round is =
      any_value (is_booking_for batch page) bookings (die.0, round.0) (unstarted batch page) (tracked.known batch page die round is)
      (ap (λ t. t && not false) (both_true (eq-eqb batch batch refl) (eq-eqb page page refl)))

  no_booking : (page : ℕ) → option_map_or has_place (state_of batches batch page) false ≡ false → has_booking page ≡ false
  no_booking page none =
      false_from_ne_true (has_booking page) (λ some.
      let found = some_value place_cmp_total place_same place_itself (is_booking_for batch page) bookings some in
      false≢true (sym none ∙ ap (λ o. option_map_or has_place o false)
      (tracked.booked found.0.0 found.0.1 batch page (found.2 ∙ ap Some (booking_is page found.1 found.3)))))

  -- a page that is left and is not booked is torn
  torn_is : (page : ℕ) → (is_left (state_of batches batch page) && not (has_booking page))
      ≡ option_map_or is_torn (state_of batches batch page) false
  torn_is page = go (state_of batches batch page) refl
    where
      go : (o : Option PageState) → state_of batches batch page ≡ o → (is_left o && not (has_booking page)) ≡ option_map_or is_torn o false
      go None is = refl
      go (Some Answered) is = refl
      go (Some (InFlight die)) is = refl
      go (Some (Booked die round)) is = ap not (some_booking page die round is)
      go (Some Torn) is = ap not (no_booking page (ap (λ o. option_map_or has_place o false) is))

  module _ (pages : List ℕ) (answers : FinMap nat_cmp (List ℕ))
      (whole : (p : ℕ) → is_one_of pages p ≡ is_some (state_of batches batch p))
      (answered : (p : ℕ) → contains_key answers p ≡ option_map_or is_answered (state_of batches batch p) false) where
    pub torn_same : list_any (λ page. not (has_booking page))
        (filter (λ page. not (contains_key answers page || list_any (is_read_for batch page) (values jobs))) pages)
        ≡ list_any (λ page. option_map_or is_torn (state_of batches batch page) false) pages
    torn_same =
        ap (list_any (λ page. not (has_booking page)))
        (sym (left_same batches bookings jobs tracked batch there pages answers whole answered))
        ∙ filtered_any (λ page. is_left (state_of batches batch page)) (λ page. not (has_booking page))
        (λ page. option_map_or is_torn (state_of batches batch page) false) pages torn_is

-- a page of an open batch is left and not booked where one stands torn
module _ {M A : Type 0} (view : M → MapState) (state : State M A) (fitted : IsFitted view state) (batch : ℕ)
    (there : contains_key (batches_of state.batches) batch ≡ true) where
  pub torn_in : list_any (λ page. not (is_booked (core_of view state) batch page)) (left_of (core_of view state) batch)
      ≡ list_any (λ page. option_map_or is_torn (state_of state.batches batch page) false) (opened (batches_of state.batches) batch).pages
  torn_in =
      torn_same state.batches (calendar_of state.bookings).bookings (by_die state.jobs) fitted.tracked batch there
      (opened (batches_of state.batches) batch).pages (opened (batches_of state.batches) batch).answers
      (λ p. listed_at _ _ _ _ state.batches.whole batch p there) (λ p. answered_at _ _ _ _ state.batches.whole batch p)
