-- Bookings, jobs and batches agree still as a job begins and as a booking is dropped.
use Rattle.fa_core_batches.specs.Batches.{batches_of, next_of, state_of}
use Rattle.fa_core_batches.specs.declared.batches.Batches.{Batches}
use Rattle.fa_core_batches.specs.declared.page.PageState.{PageState}
use Rattle.fa_core_batches.specs.declared.page.PageState.TheVariants.{Booked, InFlight}
use Rattle.fa_machine.proofs.Maps.{get-insert_cases, get-insert_other, get-insert_same}
use Rattle.fa_machine.specs.Maps.{place_cmp}
use Rattle.fa_machine.specs.declared.ids.BatchId.{BatchId}
use Rattle.fa_machine.specs.declared.jobs.Flight.{Flight}
use Rattle.fa_machine.specs.declared.jobs.Flight.TheVariants.{Read}
use Rattle.fa_machine.specs.declared.places.Booking.{Booking}
use Rattle.fa_machine.specs.declared.places.Version.{Version}
use Rattle.fa_core_state.specs.Tracked.{AreTracked, is_at_read, unstarted}
use Rattle.fa_core_dispatch.specs.Begins.{is_read}
use Rattle.fa_types.specs.declared.numbers.Die.{Die}
use Rattle.fa_types.specs.declared.numbers.Page.{Page}
use Rattle.fa_types.specs.declared.numbers.Round.{Round}
use Rattle.fa_types.specs.declared.numbers.Slot.{Slot}
use Rattle.std.proofs.Common.{Bool, None, Some, ap, eq-eqb, eqb-true, false, inl, inr, refl, subst, sym, true, ℕ, ◌<◌, ◌∙◌, ◌≡◌, ◌⊎◌}
use Rattle.std.proofs.lemmas.Bool.{and_parts, cases_Bool, cases_eq, false≢true}
use Rattle.std.proofs.lemmas.Option.{same_Some}
use Rattle.std.specs.Cmp.Derive.{both_true}
use Rattle.std.specs.FinMap.{FinMap, contains_key, get, insert}
use Rattle.std.specs.Ordering.{nat_cmp}
use Rattle.std.specs.Prelude.{if◌then◌else◌, is_some, ◌&&◌, ◌==◌}

abbrev die_in : PageState → ℕ
die_in (Booked die round) = die.0
die_in (InFlight die) = die.0
die_in state = 0

abbrev round_in : PageState → ℕ
round_in (Booked die round) = round.0
round_in state = 0

abbrev is_booked : PageState → Bool
is_booked (Booked die round) = true
is_booked state = false

abbrev is_flying : PageState → Bool
is_flying (InFlight die) = true
is_flying state = false

abbrev batch_in : Flight → ℕ
batch_in (Read batch page version slot) = batch.0
batch_in flight = 0

abbrev page_in : Flight → ℕ
page_in (Read batch page version slot) = page.0
page_in flight = 0

-- a die at a read is at something
busy : (jobs : FinMap nat_cmp Flight) (die d batch page : ℕ) → get jobs die ≡ None → is_at_read batch page (get jobs d) ≡ true → d ≡ die → ⊥
busy jobs die d batch page idle reads same = false≢true (sym (ap (is_at_read batch page) (ap (get jobs) same ∙ idle)) ∙ reads)

-- another job than a read begins
pub tracked_other : {A : Type 0} (bookings : FinMap place_cmp Booking) (jobs : FinMap nat_cmp Flight) (batches : Batches A) (die : ℕ)
    (flight : Flight) → get jobs die ≡ None → is_read flight ≡ false → AreTracked bookings jobs batches
    → AreTracked bookings (insert jobs die flight) batches
tracked_other bookings jobs batches die flight idle other t = record {
  booked = t.booked;
  known = t.known;
  flying = λ d batch page version slot is there. t.flying d batch page version slot (before d batch page version slot is) there;
  reading = λ batch page d is.
      let reads = t.reading batch page d is in
      ap (is_at_read batch page) (get-insert_other jobs die flight d.0 (busy jobs die d.0 batch page idle reads)) ∙ reads;
  older_booked = t.older_booked;
  older_read = λ d batch page version slot is. t.older_read d batch page version slot (before d batch page version slot is);
}
  where
    before : (d : ℕ) (batch : BatchId) (page : Page) (version : Version) (slot : Slot)
        → get (insert jobs die flight) d ≡ Some (Read batch page version slot) → get jobs d ≡ Some (Read batch page version slot)
    before d batch page version slot is = elim (get-insert_cases jobs die flight d (Read batch page version slot) is) [
      | inl here ↦ absurd (false≢true (sym other ∙ ap is_read here.1))
      | inr there ↦ there.0
    ]

-- The page of a booking that was not started stands otherwise, and the booking is started or gone.
module _ {A : Type 0} (before after : Batches A) (bookings now : FinMap place_cmp Booking) (jobs : FinMap nat_cmp Flight)
    (tracked : AreTracked bookings jobs before) (die round : ℕ) (batch : BatchId) (page : Page) (stands : PageState)
    (booked : get bookings (die, round) ≡ Some (unstarted batch.0 page.0))
    (fresh : is_booked stands ≡ false)
    (began : (b : Booking) → get now (die, round) ≡ Some b → (b.batch.0 ≡ batch.0) × (b.started ≡ true))
    (others : (d r : ℕ) → (d ≡ die → r ≡ round → ⊥) → get now (d, r) ≡ get bookings (d, r))
    (batches : batches_of after ≡ batches_of before)
    (states : (b p : ℕ) → state_of after b p ≡ (if b == batch.0 && p == page.0 then Some stands else state_of before b p))
    (number : next_of after ≡ next_of before) where
  -- how the page stood, and stands
  record IsHere (b p : ℕ) : Type 0 where
    at_batch : b ≡ batch.0
    at_page : p ≡ page.0
    stood : state_of before b p ≡ Some (Booked (record { 0 = die }) (record { 0 = round }))
    is : state_of after b p ≡ Some stands

  record IsAway (b p : ℕ) : Type 0 where
    other : b ≡ batch.0 → p ≡ page.0 → ⊥
    same : state_of after b p ≡ state_of before b p

  where_is : (b p : ℕ) → IsHere b p ⊎ IsAway b p
  where_is b p = elim (cases_Bool (b == batch.0 && p == page.0)) [
    | inl here ↦
        let parts = and_parts (b == batch.0) (p == page.0) here in
        let at_batch = eqb-true b batch.0 parts.0 in let at_page = eqb-true p page.0 parts.1 in
        inl (record {
          at_batch = at_batch;
          at_page = at_page;
          stood = (λ i. state_of before (at_batch i) (at_page i)) ∙ tracked.booked die round batch.0 page.0 booked;
          is = states b p ∙ ap (λ t. if t then Some stands else state_of before b p) here;
        })
    | inr away ↦ inr (record {
      other = λ at_batch at_page. false≢true (sym away ∙ both_true (eq-eqb b batch.0 at_batch) (eq-eqb p page.0 at_page));
      same = states b p ∙ ap (λ t. if t then Some stands else state_of before b p) away;
    })
  ]

  -- a round of a die is this one, or another
  which : (d r : ℕ) → ((d ≡ die) × (r ≡ round)) ⊎ (d ≡ die → r ≡ round → ⊥)
  which d r = elim (cases_eq d die) [
    | inr apart ↦ inr (λ same _. apart same)
    | inl die_is ↦ elim (cases_eq r round) [
      | inr apart ↦ inr (λ _ same. apart same)
      | inl round_is ↦ inl (die_is, round_is)
    ]
  ]

  -- where nothing is booked in another round, nothing was
  pub was_booked : (d r : ℕ) → contains_key now (d, r) ≡ true → contains_key bookings (d, r) ≡ true
  was_booked d r is = elim (which d r) [
    | inl here ↦ (λ i. contains_key bookings (here.0 i, here.1 i)) ∙ ap is_some booked
    | inr away ↦ ap is_some (sym (others d r away)) ∙ is
  ]

  booked_new : (d r b p : ℕ) → get now (d, r) ≡ Some (unstarted b p)
      → state_of after b p ≡ Some (Booked (record { 0 = d }) (record { 0 = r }))
  booked_new d r b p is = elim (which d r) [
    | inl here ↦
        let die_is = here.0 in let round_is = here.1 in
        absurd (false≢true (began (unstarted b p) ((λ i. get now (sym die_is i, sym round_is i)) ∙ is)).1)
    | inr away ↦
        let stood = tracked.booked d r b p (sym (others d r away) ∙ is) in
        elim (where_is b p) [
          | inl page_is ↦
              let same = same_Some _ _ (sym stood ∙ page_is.stood) in
              absurd (away (ap die_in same) (ap round_in same))
          | inr other ↦ other.same ∙ stood
        ]
  ]

  known_new : (b p : ℕ) (d : Die) (r : Round) → state_of after b p ≡ Some (Booked d r) → get now (d.0, r.0) ≡ Some (unstarted b p)
  known_new b p d r is = elim (where_is b p) [
    | inl here ↦ absurd (false≢true (sym fresh ∙ ap is_booked (same_Some _ _ (sym here.is ∙ is))))
    | inr away ↦
        let known = tracked.known b p d r (sym away.same ∙ is) in
        others d.0 r.0 (λ die_is round_is.
        let same = same_Some _ _ (sym known ∙ (λ i. get bookings (die_is i, round_is i)) ∙ booked) in
        away.other (ap (λ (x : Booking). x.batch.0) same) (ap (λ (x : Booking). x.page.0) same))
        ∙ known
  ]

  flying_new : (b p d : ℕ) → state_of before b p ≡ Some (InFlight (record { 0 = d }))
      → state_of after b p ≡ Some (InFlight (record { 0 = d }))
  flying_new b p d is = elim (where_is b p) [
    | inl here ↦ absurd (false≢true (ap is_booked (same_Some _ _ (sym is ∙ here.stood))))
    | inr away ↦ away.same ∙ is
  ]

  older_new : (d r : ℕ) (b : Booking) → get now (d, r) ≡ Some b → b.batch.0 < next_of after
  older_new d r b is = subst (λ n. b.batch.0 < n) (sym number) (elim (which d r) [
    | inl here ↦
        let die_is = here.0 in let round_is = here.1 in
        subst (λ n. n < next_of before) (sym (began b ((λ i. get now (sym die_is i, sym round_is i)) ∙ is)).0)
        (tracked.older_booked die round (unstarted batch.0 page.0) booked)
    | inr away ↦ tracked.older_booked d r b (sym (others d r away) ∙ is)
  ])

  -- the booking is gone
  pub tracked_dropped : is_flying stands ≡ false → AreTracked now jobs after
  tracked_dropped ends = record {
    booked = booked_new;
    known = known_new;
    flying = λ d b p version slot is there.
        flying_new b.0 p.0 d (tracked.flying d b p version slot is (ap (λ m. contains_key m b.0) (sym batches) ∙ there));
    reading = λ b p d is. elim (where_is b p) [
      | inl here ↦ absurd (false≢true (sym ends ∙ ap is_flying (same_Some _ _ (sym here.is ∙ is))))
      | inr away ↦ tracked.reading b p d (sym away.same ∙ is)
    ];
    older_booked = older_new;
    older_read = λ d b p version slot is. subst (λ n. b.0 < n) (sym number) (tracked.older_read d b p version slot is);
  }

  -- its read is in flight
  pub tracked_read : (version : Version) (slot : Slot) → stands ≡ InFlight (record { 0 = die }) → get jobs die ≡ None
      → AreTracked now (insert jobs die (Read batch page version slot)) after
  tracked_read version slot flies idle = record {
    booked = booked_new;
    known = known_new;
    flying = flying_read;
    reading = reading_read;
    older_booked = older_new;
    older_read = λ d b p v s is. subst (λ n. b.0 < n) (sym number) (older d b p v s is);
  }
    where
      flight : Flight
      flight = Read batch page version slot

      here_now : state_of after batch.0 page.0 ≡ Some (InFlight (record { 0 = die }))
      here_now =
          states batch.0 page.0
          ∙ ap (λ t. if t then Some stands else state_of before batch.0 page.0)
          (both_true (eq-eqb batch.0 batch.0 refl) (eq-eqb page.0 page.0 refl))
          ∙ ap Some flies

      flying_read : (d : ℕ) (b : BatchId) (p : Page) (v : Version) (s : Slot)
          → get (insert jobs die (Read batch page version slot)) d ≡ Some (Read b p v s) → contains_key (batches_of after) b.0 ≡ true
          → state_of after b.0 p.0 ≡ Some (InFlight (record { 0 = d }))
      flying_read d b p v s is there = elim (get-insert_cases jobs die (Read batch page version slot) d (Read b p v s) is) [
        | inl here ↦
            let same = here.1 in let at_die = here.0 in
            sym (λ i. state_of after (batch_in (same i)) (page_in (same i))) ∙ here_now
            ∙ ap (λ k. Some (InFlight (record { 0 = k }))) (sym at_die)
        | inr away ↦
            flying_new b.0 p.0 d (tracked.flying d b p v s away.0 (ap (λ m. contains_key m b.0) (sym batches) ∙ there))
      ]

      reading_read : (b p : ℕ) (d : Die) → state_of after b p ≡ Some (InFlight d)
          → is_at_read b p (get (insert jobs die (Read batch page version slot)) d.0) ≡ true
      reading_read b p d is = elim (where_is b p) [
        | inl here ↦
            let at_die : d.0 ≡ die = ap die_in (same_Some _ _ (sym is ∙ here.is) ∙ flies) in
            ap (is_at_read b p) (ap (get (insert jobs die (Read batch page version slot))) at_die
            ∙ get-insert_same jobs die (Read batch page version slot))
            ∙ both_true (eq-eqb batch.0 b (sym here.at_batch)) (eq-eqb page.0 p (sym here.at_page))
        | inr away ↦
            let reads = tracked.reading b p d (sym away.same ∙ is) in
            ap (is_at_read b p) (get-insert_other jobs die (Read batch page version slot) d.0 (busy jobs die d.0 b p idle reads)) ∙ reads
      ]

      older : (d : ℕ) (b : BatchId) (p : Page) (v : Version) (s : Slot)
          → get (insert jobs die (Read batch page version slot)) d ≡ Some (Read b p v s) → b.0 < next_of before
      older d b p v s is = elim (get-insert_cases jobs die (Read batch page version slot) d (Read b p v s) is) [
        | inl here ↦
            subst (λ n. n < next_of before) (ap batch_in here.1)
            (tracked.older_booked die round (unstarted batch.0 page.0) booked)
        | inr away ↦ tracked.older_read d b p v s away.0
      ]
