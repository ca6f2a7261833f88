-- Bookings, jobs and batches agree still where a job is over or a die is out.
use Rattle.fa_core_batches.specs.Batches.{batches_of, next_of, state_of}
use Rattle.fa_core_batches.specs.Pages.{without_die}
use Rattle.fa_core_batches.specs.declared.batches.Batches.{Batches}
use Rattle.fa_core_batches.specs.declared.page.PageState.{PageState}
use Rattle.fa_core_batches.specs.declared.page.PageState.TheVariants.{Answered, Booked, InFlight, Torn}
use Rattle.fa_machine.proofs.Maps.{get-keep, get-remove_other, get-remove_some, has_some, passed, place_cmp_total, place_same}
use Rattle.fa_machine.specs.Maps.{keep, place_cmp}
use Rattle.fa_machine.specs.declared.ids.BatchId.{BatchId}
use Rattle.fa_machine.specs.declared.jobs.Flight.{Flight}
use Rattle.fa_machine.specs.declared.jobs.Flight.TheVariants.{Read}
use Rattle.fa_machine.specs.declared.places.Booking.{Booking}
use Rattle.fa_machine.specs.declared.places.Version.{Version}
use Rattle.fa_core_state.specs.Tracked.{AreTracked, is_at_read, unstarted}
use Rattle.fa_types.specs.declared.numbers.Die.{Die}
use Rattle.fa_types.specs.declared.numbers.Page.{Page}
use Rattle.fa_types.specs.declared.numbers.Round.{Round}
use Rattle.fa_types.specs.declared.numbers.Slot.{Slot}
use Rattle.std.proofs.Common.{Bool, None, Option, Some, ap, eq-eqb, eqb-true, false, inl, inr, not, refl, subst, sym, true, ℕ}
use Rattle.std.proofs.Common.{◌<◌, ◌∙◌, ◌≡◌}
use Rattle.std.proofs.lemmas.Bool.{and_parts, cases_eq, false≢true, ne_eqb}
use Rattle.std.proofs.lemmas.Option.{none-some, same_Some}
use Rattle.std.specs.FinMap.{FinMap, contains_key, get, remove}
use Rattle.std.specs.Ordering.{nat_cmp}
use Rattle.std.specs.Prelude.{if◌then◌else◌, is_some, option_map, ◌&&◌, ◌==◌}

-- the die that a page's read is booked or in flight at
abbrev die_in : PageState → ℕ
die_in (Booked die round) = die.0
die_in (InFlight die) = die.0
die_in state = 0

-- a page that has a booking once a die is out had it, on another die
without_booked : (die : ℕ) (o : Option PageState) (d : Die) (r : Round) → option_map (without_die die) o ≡ Some (Booked d r)
    → (o ≡ Some (Booked d r)) × ((d.0 == die) ≡ false)
without_booked die None d r is = absurd (none-some (Booked d r) is)
without_booked die (Some Answered) d r is = cc
without_booked die (Some Torn) d r is = cc
without_booked die (Some (InFlight e)) d r is = go (e.0 == die) is
  where
    go : (t : Bool) → Some (if t then Torn else InFlight e) ≡ Some (Booked d r)
        → (Some (InFlight e) ≡ Some (Booked d r)) × ((d.0 == die) ≡ false)
    go true is = cc
    go false is = cc
without_booked die (Some (Booked e q)) d r is = go (e.0 == die) refl is
  where
    go : (t : Bool) → (e.0 == die) ≡ t → Some (if t then Torn else Booked e q) ≡ Some (Booked d r)
        → (Some (Booked e q) ≡ Some (Booked d r)) × ((d.0 == die) ≡ false)
    go true at is = cc
    go false at is = (is, ap (λ s. die_in s == die) (sym (same_Some _ _ is)) ∙ at)

-- a page that has a read in flight once a die is out had it, on another die
without_flying : (die : ℕ) (o : Option PageState) (d : Die) → option_map (without_die die) o ≡ Some (InFlight d)
    → (o ≡ Some (InFlight d)) × ((d.0 == die) ≡ false)
without_flying die None d is = absurd (none-some (InFlight d) is)
without_flying die (Some Answered) d is = cc
without_flying die (Some Torn) d is = cc
without_flying die (Some (Booked e q)) d is = go (e.0 == die) is
  where
    go : (t : Bool) → Some (if t then Torn else Booked e q) ≡ Some (InFlight d)
        → (Some (Booked e q) ≡ Some (InFlight d)) × ((d.0 == die) ≡ false)
    go true is = cc
    go false is = cc
without_flying die (Some (InFlight e)) d is = go (e.0 == die) refl is
  where
    go : (t : Bool) → (e.0 == die) ≡ t → Some (if t then Torn else InFlight e) ≡ Some (InFlight d)
        → (Some (InFlight e) ≡ Some (InFlight d)) × ((d.0 == die) ≡ false)
    go true at is = cc
    go false at is = (is, ap (λ s. die_in s == die) (sym (same_Some _ _ is)) ∙ at)

-- the bookings that are left once a die is out
module _ (bookings : FinMap place_cmp Booking) (die : ℕ) where
  abbrev pub left : FinMap place_cmp Booking
  left = keep (λ place booking. not (place.0 == die)) bookings

  left_is : (d r : ℕ) → get left (d, r) ≡ passed (λ (booking : Booking). not (d == die)) (get bookings (d, r))
  left_is d r = get-keep place_cmp_total place_same (λ place booking. not (place.0 == die)) bookings (d, r)

  left_was : (d r : ℕ) (x : Booking) → get left (d, r) ≡ Some x → (get bookings (d, r) ≡ Some x) × ((d == die) ≡ false)
  left_was d r x is = go (get bookings (d, r)) (d == die) refl (sym (left_is d r) ∙ is)
    where
      go : (o : Option Booking) (t : Bool) → (d == die) ≡ t → passed (λ (booking : Booking). not t) o ≡ Some x
          → (o ≡ Some x) × ((d == die) ≡ false)
      go None t at is = absurd (none-some x is)
      go (Some y) true at is = absurd (none-some x is)
      go (Some y) false at is = (is, at)

  -- they were there before
  pub left_there : (d r : ℕ) → contains_key left (d, r) ≡ true → contains_key bookings (d, r) ≡ true
  left_there d r is = let some = has_some (get left (d, r)) is in ap is_some (left_was d r some.0 some.1).0

module _ {A : Type 0} where
  -- a job that was no read is over
  pub tracked_over : (bookings : FinMap place_cmp Booking) (jobs : FinMap nat_cmp Flight) (batches : Batches A) (die : ℕ)
      → ((batch page : ℕ) → is_at_read batch page (get jobs die) ≡ false) → AreTracked bookings jobs batches
      → AreTracked bookings (remove jobs die) batches
  tracked_over bookings jobs batches die other t = record {
    booked = t.booked;
    known = t.known;
    flying = λ d b p v s is there. t.flying d b p v s (get-remove_some jobs die d (Read b p v s) is).0 there;
    reading = λ b p d is. elim (cases_eq d.0 die) [
      | inl same ↦
          absurd (false≢true (sym (other b p) ∙ ap (λ n. is_at_read b p (get jobs n)) (sym same) ∙ t.reading b p d is))
      | inr apart ↦ ap (is_at_read b p) (get-remove_other jobs die d.0 apart) ∙ t.reading b p d is
    ];
    older_booked = t.older_booked;
    older_read = λ d b p v s is. t.older_read d b p v s (get-remove_some jobs die d (Read b p v s) is).0;
  }

  -- a die is out
  pub tracked_out : (bookings : FinMap place_cmp Booking) (jobs : FinMap nat_cmp Flight) (before after : Batches A) (die : ℕ)
      → AreTracked bookings jobs before → batches_of after ≡ batches_of before
      → ((b p : ℕ) → state_of after b p ≡ option_map (without_die die) (state_of before b p)) → next_of after ≡ next_of before
      → AreTracked (keep (λ place booking. not (place.0 == die)) bookings) (remove jobs die) after
  tracked_out bookings jobs before after die t batches states number = record {
    booked = λ d r b p is.
        let was = left_was bookings die d r (unstarted b p) is in
        states b p ∙ ap (option_map (without_die die)) (t.booked d r b p was.0)
        ∙ ap (λ out. Some (if out then Torn else Booked (record { 0 = d }) (record { 0 = r }))) was.1;
    known = λ b p d r is.
        let was = without_booked die (state_of before b p) d r (sym (states b p) ∙ is) in
        left_is bookings die d.0 r.0 ∙ ap (passed (λ (booking : Booking). not (d.0 == die))) (t.known b p d r was.0)
        ∙ ap (λ out. if not out then Some (unstarted b p) else None) was.1;
    flying = λ d b p v s is there.
        let was = get-remove_some jobs die d (Read b p v s) is in
        states b.0 p.0
        ∙ ap (option_map (without_die die)) (t.flying d b p v s was.0 (ap (λ m. contains_key m b.0) (sym batches) ∙ there))
        ∙ ap (λ out. Some (if out then Torn else InFlight (record { 0 = d }))) (ne_eqb d die was.1);
    reading = λ b p d is.
        let was = without_flying die (state_of before b p) d (sym (states b p) ∙ is) in
        ap (is_at_read b p) (get-remove_other jobs die d.0 (λ same. false≢true (sym was.1 ∙ eq-eqb d.0 die same)))
        ∙ t.reading b p d was.0;
    older_booked = λ d r b is. subst (λ n. b.batch.0 < n) (sym number) (t.older_booked d r b (left_was bookings die d r b is).0);
    older_read = λ d b p v s is.
        subst (λ n. b.0 < n) (sym number) (t.older_read d b p v s (get-remove_some jobs die d (Read b p v s) is).0);
  }

-- a die's read is over
module _ {A : Type 0} (bookings : FinMap place_cmp Booking) (jobs : FinMap nat_cmp Flight) (before : Batches A) (die : ℕ)
    (batch : BatchId) (page : Page) (version : Version) (slot : Slot) (t : AreTracked bookings jobs before)
    (job : get jobs die ≡ Some (Read batch page version slot)) where
  -- whose page it is
  read_of : (b p : ℕ) → is_at_read b p (get jobs die) ≡ true → (b ≡ batch.0) × (p ≡ page.0)
  read_of b p at =
      let parts = and_parts (batch.0 == b) (page.0 == p) (sym (ap (is_at_read b p) job) ∙ at) in
      (sym (eqb-true batch.0 b parts.0), sym (eqb-true page.0 p parts.1))

  -- the batch is open no more
  pub tracked_late : state_of before batch.0 page.0 ≡ None → AreTracked bookings (remove jobs die) before
  tracked_late none = record {
    booked = t.booked;
    known = t.known;
    flying = λ d b p v s is there. t.flying d b p v s (get-remove_some jobs die d (Read b p v s) is).0 there;
    reading = λ b p d is. elim (cases_eq d.0 die) [
      | inl same ↦
          let mine = read_of b p (ap (λ n. is_at_read b p (get jobs n)) (sym same) ∙ t.reading b p d is) in
          absurd (none-some (InFlight d) (sym ((λ i. state_of before (mine.0 i) (mine.1 i)) ∙ none) ∙ is))
      | inr apart ↦ ap (is_at_read b p) (get-remove_other jobs die d.0 apart) ∙ t.reading b p d is
    ];
    older_booked = t.older_booked;
    older_read = λ d b p v s is. t.older_read d b p v s (get-remove_some jobs die d (Read b p v s) is).0;
  }

  -- such a batch is not open
  pub late_closed : state_of before batch.0 page.0 ≡ None → contains_key (batches_of before) batch.0 ≡ true → ⊥
  late_closed none there = none-some (InFlight (record { 0 = die })) (sym none ∙ t.flying die batch page version slot job there)

  -- its batch is open, and has the answer
  module _ (after : Batches A) (there : contains_key (batches_of before) batch.0 ≡ true)
      (fewer : (b : ℕ) → contains_key (batches_of after) b ≡ true → contains_key (batches_of before) b ≡ true)
      (states : (b p : ℕ) → state_of after b p
      ≡ (if b == batch.0 && p == page.0 then Some Answered else state_of before b p))
      (number : next_of after ≡ next_of before) where
    was : (b p : ℕ) (s : PageState) → state_of after b p ≡ Some s → (Answered ≡ s → ⊥)
        → (state_of before b p ≡ Some s) × ((b == batch.0 && p == page.0) ≡ false)
    was b p s is other = go (b == batch.0 && p == page.0) refl (sym (states b p) ∙ is)
      where
        go : (at : Bool) → (b == batch.0 && p == page.0) ≡ at → (if at then Some Answered else state_of before b p) ≡ Some s
            → (state_of before b p ≡ Some s) × ((b == batch.0 && p == page.0) ≡ false)
        go true at e = absurd (other (same_Some _ _ e))
        go false at e = (e, at)

    stays : (b p : ℕ) (s : PageState) → state_of before b p ≡ Some s → (s ≡ InFlight (record { 0 = die }) → ⊥)
        → state_of after b p ≡ Some s
    stays b p s is other = states b p ∙ go (b == batch.0 && p == page.0) refl
      where
        go : (at : Bool) → (b == batch.0 && p == page.0) ≡ at → (if at then Some Answered else state_of before b p) ≡ Some s
        go true at =
            let parts = and_parts (b == batch.0) (p == page.0) at in
            absurd (other (same_Some _ _ (sym is
            ∙ (λ i. state_of before (eqb-true b batch.0 parts.0 i) (eqb-true p page.0 parts.1 i))
            ∙ t.flying die batch page version slot job there)))
        go false at = is

    here : (b p : ℕ) → (b ≡ batch.0) × (p ≡ page.0) → (b == batch.0 && p == page.0) ≡ true
    here b p mine = (λ i. eq-eqb b batch.0 mine.0 i && eq-eqb p page.0 mine.1 i)

    pub tracked_answered : AreTracked bookings (remove jobs die) after
    tracked_answered = record {
      booked = λ d r b p is. stays b p (Booked (record { 0 = d }) (record { 0 = r })) (t.booked d r b p is) (λ e. cc);
      known = λ b p d r is. t.known b p d r (was b p (Booked d r) is (λ e. cc)).0;
      flying = λ d b p v s is open_after.
          let job_was = get-remove_some jobs die d (Read b p v s) is in
          stays b.0 p.0 (InFlight (record { 0 = d })) (t.flying d b p v s job_was.0 (fewer b.0 open_after))
          (λ e. job_was.1 (ap die_in e));
      reading = λ b p d is.
          let state_was = was b p (InFlight d) is (λ e. cc) in
          let at = t.reading b p d state_was.0 in
          elim (cases_eq d.0 die) [
            | inl same ↦
                absurd (false≢true (sym state_was.1
                ∙ here b p (read_of b p (ap (λ n. is_at_read b p (get jobs n)) (sym same) ∙ at))))
            | inr apart ↦ ap (is_at_read b p) (get-remove_other jobs die d.0 apart) ∙ at
          ];
      older_booked = λ d r b is. subst (λ n. b.batch.0 < n) (sym number) (t.older_booked d r b is);
      older_read = λ d b p v s is.
          subst (λ n. b.0 < n) (sym number) (t.older_read d b p v s (get-remove_some jobs die d (Read b p v s) is).0);
    }
