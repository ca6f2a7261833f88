-- A plan that is booked for a batch, in place of what was booked for it: bookings, jobs and batches agree as before.
use Rattle.fa_batch_terms.proofs.Counting.{count-from-none}
use Rattle.fa_batch_terms.specs.Plan.{AreApart, ArePlacedOnce, times_placed}
use Rattle.fa_batch_terms.specs.declared.place.Place.{Place}
use Rattle.fa_core_batches.specs.Batches.{batches_of, next_of, state_of}
use Rattle.fa_core_batches.specs.declared.batches.Batches.{Batches}
use Rattle.fa_core_batches.specs.declared.page.PageState.{PageState}
use Rattle.fa_core_batches.specs.declared.page.PageState.TheVariants.{Answered, Booked, InFlight, Torn}
use Rattle.fa_core_bookings.proofs.Placed.{here_is}
use Rattle.fa_core_bookings.specs.Places.{booked_over, booking_of}
use Rattle.fa_calendar.specs.Dies.{is_at, is_one}
use Rattle.fa_machine.proofs.Lists.{any_some}
use Rattle.fa_machine.proofs.Maps.{passed}
use Rattle.fa_machine.specs.Among.{Among}
use Rattle.fa_machine.specs.Maps.{is_one_of, place_cmp}
use Rattle.fa_machine.specs.declared.ids.BatchId.{BatchId}
use Rattle.fa_machine.specs.declared.jobs.Flight.{Flight}
use Rattle.fa_machine.specs.declared.places.Booking.{Booking}
use Rattle.fa_core_read.proofs.Last.{Found, NotFound, last_of, only_one}
use Rattle.fa_core_read_pages.specs.Left.{is_left, place_in, places_among}
use Rattle.fa_core_read.specs.Opened.{placed_state}
use Rattle.fa_core_state.specs.Tracked.{AreTracked, unstarted}
use Rattle.fa_types.specs.declared.numbers.Die.{Die}
use Rattle.fa_types.specs.declared.numbers.Round.{Round}
use Rattle.std.proofs.Common.{Bool, List, None, Option, Some, [], ap, arith, cond, eq-eqb, false, inl, inr, refl, subst, sym, true, ℕ}
use Rattle.std.proofs.Common.{◌<◌, ◌∙◌, ◌∷◌, ◌≡◌, ◌⊎◌}
use Rattle.std.proofs.lemmas.Bool.{cases_Bool, eqb-true, false≢true, or_cases, or_right}
use Rattle.std.proofs.lemmas.Option.{none-some, same_Some}
use Rattle.std.specs.Cmp.Derive.{both_true}
use Rattle.std.specs.FinMap.{FinMap, contains_key, get}
use Rattle.std.specs.List.{cons_option}
use Rattle.std.specs.Option.{option_map_or}
use Rattle.std.specs.Ordering.{nat_cmp}
use Rattle.std.specs.Prelude.{if◌then◌else◌, is_some, not, ◌==◌, ◌&&◌, ◌||◌}

abbrev is_flying : PageState → Bool
is_flying (InFlight die) = true
is_flying state = false

abbrev die_in : PageState → Die
die_in (Booked die round) = die
die_in state = record { 0 = 0 }

abbrev round_in : PageState → Round
round_in (Booked die round) = round
round_in state = record { 0 = 0 }

-- the places that are booked for some pages, each as its page stands
module _ (state : ℕ → Option PageState) where
  pub record BookedAt (d r : ℕ) : Type 0 where
    pub page : ℕ
    pub is : state page ≡ Some (Booked (record { 0 = d }) (record { 0 = r }))

  pub booked_at : (pages : List ℕ) (d r : ℕ) → is_at (places_among state pages) d r ≡ true → BookedAt d r
  booked_at [] d r is = absurd (false≢true is)
  booked_at (p ∷ pages) d r at = go (state p) refl at (booked_at pages d r)
    where
      go : (o : Option PageState) → state p ≡ o → is_at (cons_option (place_in p o) (places_among state pages)) d r ≡ true
          → (is_at (places_among state pages) d r ≡ true → BookedAt d r) → BookedAt d r
      go None is at later = later at
      go (Some Answered) is at later = later at
      go (Some (InFlight die)) is at later = later at
      go (Some Torn) is at later = later at
      go (Some (Booked die round)) is at later =
          elim (or_cases (die.0 == d && round.0 == r) (is_at (places_among state pages) d r) at) [
            | inl here ↦
                let same = here_is (record { page = record { 0 = p }; die = die; round = round }) d r here in
                record { page = p; is = is ∙ (λ i. Some (Booked (record { 0 = same.0 i }) (record { 0 = same.1 i }))) }
            | inr others ↦ later others
          ]

  after : (o : Option Place) (places : List Place) (d r : ℕ) → is_at places d r ≡ true → is_at (cons_option o places) d r ≡ true
  after None places d r is = is
  after (Some x) places d r is = or_right (is_one x d r) (is_at places d r) is

  pub at_booked : (pages : List ℕ) (p : ℕ) (die : Die) (round : Round) → is_one_of pages p ≡ true → state p ≡ Some (Booked die round)
      → is_at (places_among state pages) die.0 round.0 ≡ true
  at_booked [] p die round among is = absurd (false≢true among)
  at_booked (q ∷ pages) p die round among is =
      elim (or_cases (q == p) (is_one_of pages p) among) [
        | inl same ↦
            ap (λ o. is_at (cons_option (place_in q o) (places_among state pages)) die.0 round.0) (ap state (eqb-true q p same) ∙ is)
            ∙ ap (λ b. b || is_at (places_among state pages) die.0 round.0) (both_true (eq-eqb die.0 die.0 refl)
            (eq-eqb round.0 round.0 refl))
        | inr others ↦ after (place_in q (state q)) (places_among state pages) die.0 round.0 (at_booked pages p die round others is)
      ]

-- what is found of bookings without some places
kept_is : (old : List Place) (o : Option Booking) (d r : ℕ) (x : Booking) → passed (λ booking. not (is_at old d r)) o ≡ Some x
    → (is_at old d r ≡ false) × (o ≡ Some x)
kept_is old None d r x is = absurd (none-some x is)
kept_is old (Some b) d r x is = go (is_at old d r) refl is
  where
    go : (t : Bool) → is_at old d r ≡ t → cond (not t) (Some b) None ≡ Some x → (is_at old d r ≡ false) × (Some b ≡ Some x)
    go true at is = absurd (none-some x is)
    go false at is = (at, is)

module _ {A : Type 0} (before after : Batches A) (bookings now : FinMap place_cmp Booking) (jobs : FinMap nat_cmp Flight)
    (tracked : AreTracked bookings jobs before) (batch : BatchId) (pages : List ℕ) (new : List Place)
    (older : batch.0 < next_of before)
    (whole : (p : ℕ) → is_one_of pages p ≡ is_some (state_of before batch.0 p))
    (apart : AreApart new) (once : ArePlacedOnce new)
    (left : (x : Place) → Among x new → is_left (state_of before batch.0 x.page.0) ≡ true)
    (all : (page : ℕ) → is_left (state_of before batch.0 page) ≡ true → 0 < times_placed new page)
    (free : (x : Place) → Among x new → is_some (get bookings (x.die.0, x.round.0)) ≡ true
    → is_at (places_among (state_of before batch.0) pages) x.die.0 x.round.0 ≡ true)
    (found : (d r : ℕ) → get now (d, r)
    ≡ booked_over batch new d r (passed (λ booking. not (is_at (places_among (state_of before batch.0) pages) d r)) (get bookings
    (d, r))))
    (batches : batches_of after ≡ batches_of before)
    (states : (b p : ℕ) → state_of after b p
    ≡ (if b == batch.0 then placed_state new p (state_of before b p) else state_of before b p))
    (number : next_of after ≡ next_of before) where
  abbrev old : List Place
  old = places_among (state_of before batch.0) pages

  abbrev left_over : ℕ → ℕ → Option Booking
  left_over d r = passed (λ booking. not (is_at old d r)) (get bookings (d, r))

  abbrev on_page : ℕ → Place → Bool
  on_page p x = x.page.0 == p

  abbrev state_in : Place → PageState
  state_in x = Booked x.die x.round

  there : (x : Place) → is_one x x.die.0 x.round.0 ≡ true
  there x = both_true (eq-eqb x.die.0 x.die.0 refl) (eq-eqb x.round.0 x.round.0 refl)

  -- a page of the batch stands as its place says, and others as before
  stands_in : (p : ℕ) → state_of after batch.0 p ≡ placed_state new p (state_of before batch.0 p)
  stands_in p =
      states batch.0 p ∙ ap (λ b. if b then placed_state new p (state_of before batch.0 p)
      else state_of before batch.0 p) (eq-eqb batch.0 batch.0 refl)

  stands_out : (b p : ℕ) → (b == batch.0) ≡ false → state_of after b p ≡ state_of before b p
  stands_out b p apart = states b p ∙ ap (λ t. if t then placed_state new p (state_of before b p) else state_of before b p) apart

  stands_at : (x : Place) → Among x new → state_of after batch.0 x.page.0 ≡ Some (Booked x.die x.round)
  stands_at x among = stands_in x.page.0 ∙ go (last_of (on_page x.page.0) state_in new (state_of before batch.0 x.page.0))
    where
      go : Found (on_page x.page.0) state_in new (state_of before batch.0 x.page.0)
          ⊎ NotFound (on_page x.page.0) state_in new (state_of before batch.0 x.page.0)
          → placed_state new x.page.0 (state_of before batch.0 x.page.0) ≡ Some (Booked x.die x.round)
      go (inl y) =
          y.is ∙ ap (λ (z : Place). Some (Booked z.die z.round))
          (only_one (on_page x.page.0) new y.place x (once x.page.0) y.among y.passes among (eq-eqb x.page.0 x.page.0 refl))
      go (inr none) = absurd (false≢true (sym none.fails ∙ any_some (on_page x.page.0) new x among (eq-eqb x.page.0 x.page.0 refl)))

  booked_new : (d r b p : ℕ) → get now (d, r) ≡ Some (unstarted b p)
      → state_of after b p ≡ Some (Booked (record { 0 = d }) (record { 0 = r }))
  booked_new d r b p is = go (last_of (λ x. is_one x d r) (booking_of batch) new (left_over d r))
    where
      go : Found (λ x. is_one x d r) (booking_of batch) new (left_over d r) ⊎ NotFound (λ x. is_one x d r) (booking_of batch) new
          (left_over d r)
          → state_of after b p ≡ Some (Booked (record { 0 = d }) (record { 0 = r }))
      go (inl x) =
          let same = same_Some _ _ (sym is ∙ found d r ∙ x.is) in
          let place = here_is x.place d r x.passes in
          (λ i. state_of after (same i).batch.0 (same i).page.0) ∙ stands_at x.place x.among
          ∙ (λ i. Some (Booked (record { 0 = place.0 i }) (record { 0 = place.1 i })))
      go (inr none) =
          let kept = kept_is old (get bookings (d, r)) d r (unstarted b p) (sym none.is ∙ sym (found d r) ∙ is) in
          let was = tracked.booked d r b p kept.1 in
          elim (cases_Bool (b == batch.0)) [
            | inl same ↦
                let mine : state_of before batch.0 p ≡ Some (Booked (record { 0 = d }) (record { 0 = r })) =
                ap (λ k. state_of before k p) (sym (eqb-true b batch.0 same)) ∙ was in
                absurd (false≢true (sym kept.0
                ∙ at_booked (state_of before batch.0) pages p (record { 0 = d }) (record { 0 = r }) (whole p ∙ ap is_some mine) mine))
            | inr other ↦ stands_out b p other ∙ was
          ]

  -- what was booked for the batch names it
  theirs : (d r : ℕ) → is_at old d r ≡ true → (p : ℕ) × (get bookings (d, r) ≡ Some (unstarted batch.0 p))
  theirs d r at =
      let mine = booked_at (state_of before batch.0) pages d r at in
      (mine.page, tracked.known batch.0 mine.page (record { 0 = d }) (record { 0 = r }) mine.is)

  other_stays : (b p : ℕ) (die : Die) (round : Round) → (b == batch.0) ≡ false → get bookings (die.0, round.0) ≡ Some (unstarted b p)
      → is_at old die.0 round.0 ≡ false
  other_stays b p die round other is = go (is_at old die.0 round.0) refl
    where
      go : (t : Bool) → is_at old die.0 round.0 ≡ t → t ≡ false
      go false at = refl
      go true at =
          let mine = theirs die.0 round.0 at in
          let same = same_Some _ _ (sym is ∙ mine.1) in
          absurd (false≢true (sym other ∙ eq-eqb b batch.0 (ap (λ (x : Booking). x.batch.0) same)))

  known_new : (b p : ℕ) (die : Die) (round : Round) → state_of after b p ≡ Some (Booked die round)
      → get now (die.0, round.0) ≡ Some (unstarted b p)
  known_new b p die round is = elim (cases_Bool (b == batch.0)) [
    | inl same ↦ mine (eqb-true b batch.0 same)
    | inr other ↦ others other (tracked.known b p die round (sym (stands_out b p other) ∙ is))
  ]
    where
      here : (x : Place) → Among x new → get now (x.die.0, x.round.0) ≡ Some (booking_of batch x)
      here x among = found x.die.0 x.round.0
          ∙ go (last_of (λ y. is_one y x.die.0 x.round.0) (booking_of batch) new (left_over x.die.0 x.round.0))
        where
          go : Found (λ y. is_one y x.die.0 x.round.0) (booking_of batch) new (left_over x.die.0 x.round.0)
              ⊎ NotFound (λ y. is_one y x.die.0 x.round.0) (booking_of batch) new (left_over x.die.0 x.round.0)
              → booked_over batch new x.die.0 x.round.0 (left_over x.die.0 x.round.0) ≡ Some (booking_of batch x)
          go (inl y) =
              y.is ∙ ap (λ z. Some (booking_of batch z))
              (only_one (λ y. is_one y x.die.0 x.round.0) new y.place x (apart x.die.0 x.round.0) y.among y.passes among (there x))
          go (inr none) = absurd (false≢true (sym none.fails ∙ any_some (λ y. is_one y x.die.0 x.round.0) new x among (there x)))

      mine : b ≡ batch.0 → get now (die.0, round.0) ≡ Some (unstarted b p)
      mine same = go (last_of (on_page p) state_in new (state_of before batch.0 p))
        where
          placed : placed_state new p (state_of before batch.0 p) ≡ Some (Booked die round)
          placed = sym (stands_in p) ∙ ap (λ k. state_of after k p) (sym same) ∙ is

          go : Found (on_page p) state_in new (state_of before batch.0 p) ⊎ NotFound (on_page p) state_in new (state_of before batch.0 p)
              → get now (die.0, round.0) ≡ Some (unstarted b p)
          go (inl x) =
              let at = same_Some _ _ (sym placed ∙ x.is) in let back = sym same in
              (λ i. get now ((die_in (at i)).0, (round_in (at i)).0)) ∙ here x.place x.among
              ∙ (λ i. Some (unstarted (back i) (eqb-true x.place.page.0 p x.passes i)))
          go (inr none) =
              let open_before : is_left (state_of before batch.0 p) ≡ true = ap is_left (sym none.is ∙ placed) in
              let some = all p open_before in
              let zeros = count-from-none (on_page p) new none.fails in
              absurd (omega (arith, some, zeros))

      others : (b == batch.0) ≡ false → get bookings (die.0, round.0) ≡ Some (unstarted b p) → get now (die.0, round.0)
          ≡ Some (unstarted b p)
      others other was = found die.0 round.0 ∙ go (last_of (λ x. is_one x die.0 round.0) (booking_of batch) new (left_over die.0 round.0))
        where
          stays : is_at old die.0 round.0 ≡ false
          stays = other_stays b p die round other was

          go : Found (λ x. is_one x die.0 round.0) (booking_of batch) new (left_over die.0 round.0)
              ⊎ NotFound (λ x. is_one x die.0 round.0) (booking_of batch) new (left_over die.0 round.0)
              → booked_over batch new die.0 round.0 (left_over die.0 round.0) ≡ Some (unstarted b p)
          go (inl x) =
              let place = here_is x.place die.0 round.0 x.passes in
              let taken : is_some (get bookings (x.place.die.0, x.place.round.0)) ≡ true =
              (λ i. is_some (get bookings (place.0 i, place.1 i))) ∙ ap is_some was in
              let die_back = sym place.0 in let round_back = sym place.1 in
              absurd (false≢true (sym stays ∙ (λ i. is_at old (die_back i) (round_back i)) ∙ free x.place x.among taken))
          go (inr none) =
              none.is ∙ ap (λ o. passed (λ booking. not (is_at old die.0 round.0)) o) was
              ∙ ap (λ t. cond (not t) (Some (unstarted b p)) None) stays

  -- a page of the batch that is not left stands as before
  not_left : (p : ℕ) → is_left (state_of before batch.0 p) ≡ false → state_of after batch.0 p ≡ state_of before batch.0 p
  not_left p other = stands_in p ∙ go (last_of (on_page p) state_in new (state_of before batch.0 p))
    where
      go : Found (on_page p) state_in new (state_of before batch.0 p) ⊎ NotFound (on_page p) state_in new (state_of before batch.0 p)
          → placed_state new p (state_of before batch.0 p) ≡ state_of before batch.0 p
      go (inl x) =
          absurd (false≢true (sym other ∙ ap (λ k. is_left (state_of before batch.0 k)) (sym (eqb-true x.place.page.0 p x.passes))
          ∙ left x.place x.among))
      go (inr none) = none.is

  flying_new : (b p : ℕ) (die : Die) → state_of before b p ≡ Some (InFlight die) → state_of after b p ≡ Some (InFlight die)
  flying_new b p die is = elim (cases_Bool (b == batch.0)) [
    | inl same ↦
        let here = eqb-true b batch.0 same in
        let mine : state_of before batch.0 p ≡ Some (InFlight die) = ap (λ k. state_of before k p) (sym here) ∙ is in
        ap (λ k. state_of after k p) here ∙ not_left p (ap is_left mine) ∙ mine
    | inr other ↦ stands_out b p other ∙ is
  ]

  reading_new : (b p : ℕ) (die : Die) → state_of after b p ≡ Some (InFlight die) → state_of before b p ≡ Some (InFlight die)
  reading_new b p die is = elim (cases_Bool (b == batch.0)) [
    | inl same ↦
        let here = eqb-true b batch.0 same in
        ap (λ k. state_of before k p) here
        ∙ go (last_of (on_page p) state_in new (state_of before batch.0 p)) (sym (stands_in p)
        ∙ ap (λ k. state_of after k p) (sym here) ∙ is)
    | inr other ↦ sym (stands_out b p other) ∙ is
  ]
    where
      go : Found (on_page p) state_in new (state_of before batch.0 p) ⊎ NotFound (on_page p) state_in new (state_of before batch.0 p)
          → placed_state new p (state_of before batch.0 p) ≡ Some (InFlight die) → state_of before batch.0 p ≡ Some (InFlight die)
      go (inl x) placed = absurd (false≢true (ap (λ o. option_map_or is_flying o false) (sym x.is ∙ placed)))
      go (inr none) placed = sym none.is ∙ placed

  older_new : (d r : ℕ) (b : Booking) → get now (d, r) ≡ Some b → b.batch.0 < next_of after
  older_new d r b is = subst (λ n. b.batch.0 < n) (sym number) (go (last_of (λ x. is_one x d r) (booking_of batch) new (left_over d r)))
    where
      go : Found (λ x. is_one x d r) (booking_of batch) new (left_over d r) ⊎ NotFound (λ x. is_one x d r) (booking_of batch) new
          (left_over d r)
          → b.batch.0 < next_of before
      go (inl x) = subst (λ (y : Booking). y.batch.0 < next_of before) (same_Some _ _ (sym x.is ∙ sym (found d r) ∙ is)) older
      go (inr none) = tracked.older_booked d r b (kept_is old (get bookings (d, r)) d r b (sym none.is ∙ sym (found d r) ∙ is)).1

  pub tracked_after : AreTracked now jobs after
  tracked_after = record {
    booked = booked_new;
    known = known_new;
    flying = λ die b p version slot is there.
        flying_new b.0 p.0 (record { 0 = die }) (tracked.flying die b p version slot is (ap (λ m. contains_key m b.0) (sym batches)
        ∙ there));
    reading = λ b p die is. tracked.reading b p die (reading_new b p die is);
    older_booked = older_new;
    older_read = λ die b p version slot is. subst (λ n. b.0 < n) (sym number) (tracked.older_read die b p version slot is);
  }
