-- What is left of the bookings as a round passes.
use Rattle.fa_core_bookings.proofs.Closed.{late}
use Rattle.fa_core_bookings.specs.Bookings.{calendar_of}
use Rattle.fa_core_bookings.specs.Found.{booked_is}
use Rattle.fa_machine.proofs.Lists.{among-range, any_none}
use Rattle.fa_machine.proofs.Maps.{get-keep, has_some, passed, place_cmp_total, place_same}
use Rattle.fa_machine.specs.Maps.{keep, place_cmp}
use Rattle.fa_machine.specs.State.{Core, MapState, dies_of}
use Rattle.fa_machine.specs.Turning.{advance_refusal, is_read_pending, is_reading, is_round_pending, is_step_pending}
use Rattle.fa_machine.specs.declared.places.Booking.{Booking}
use Rattle.fa_machine.specs.declared.refusals.AdvanceRefused.TheVariants.{Idle, Pending, Spent}
use Rattle.fa_core_tables.specs.Dies.{bound_of, by_die}
use Rattle.fa_core_state.specs.Core.{core_of}
use Rattle.fa_core_state.specs.Fitted.{IsFitted}
use Rattle.fa_core_state.specs.Tracked.{AreTracked, unstarted}
use Rattle.fa_core_state.specs.declared.state.State.{State}
use Rattle.std.proofs.Common.{Bool, None, Option, Some, ap, arith, cond, eq-eqb, false, inl, inr, refl, sym, true, ℕ, ◌<◌, ◌∙◌, ◌≡◌}
use Rattle.std.proofs.Common.{◌≤◌}
use Rattle.std.proofs.lemmas.Bool.{cases_eq, false≢true, lt-ltb}
use Rattle.std.proofs.lemmas.Option.{none-some}
use Rattle.std.specs.FinMap.{FinMap, contains_key, get, len}
use Rattle.std.specs.List.{list_any}
use Rattle.std.specs.Prelude.{if◌then◌else◌, is_some, nat_lt, not, ◌^◌, ◌&&◌, ◌||◌, ◌==◌}

-- what a test has left was there before
was_there : {X : Type 0} (test : X → Bool) (o : Option X) (x : X) → passed test o ≡ Some x → o ≡ Some x
was_there test None x is = is
was_there test (Some y) x is = go (test y) is
  where
    go : (b : Bool) → (if b then Some y else None) ≡ Some x → Some y ≡ Some x
    go true is = is
    go false is = absurd (none-some x is)

-- none of three refusals applies
none_applies : {R : Type 0} (a b c : Bool) (r s t : R) → cond a (Some r) (cond b (Some s) (cond c (Some t) None)) ≡ None
    → (a ≡ false) × (b ≡ false) × (c ≡ false)
none_applies true b c r s t is = absurd (none-some r (sym is))
none_applies false true c r s t is = absurd (none-some s (sym is))
none_applies false false true r s t is = absurd (none-some t (sym is))
none_applies false false false r s t is = (refl, refl, refl)

-- a round that may pass has nothing pending, and is not the last
pub may_pass : (core : Core) → advance_refusal core ≡ None
    → (list_any (is_round_pending core) (dies_of core.page_map) ≡ false) × ((core.calendar.round == 2 ^ 56) ≡ false)
may_pass core is =
    let all = none_applies (list_any (is_round_pending core) (dies_of core.page_map))
    (len core.calendar.bookings == 0 && len core.calendar.windows == 0) (core.calendar.round == 2 ^ 56) Pending Idle Spent is in
    (all.0, all.2)

-- a number that is not at its end is below it
pub below_end : (n end : ℕ) → n ≤ end → (n == end) ≡ false → n < end
below_end n end most apart =
    elim (cases_eq n end) [
      | inl same ↦ absurd (false≢true (sym apart ∙ eq-eqb n end same))
      | inr other ↦ omega (arith, most, other)
    ]

module _ {M A : Type 0} (view : M → MapState) (state : State M A) (fit : IsFitted view state)
    (ended : list_any (is_round_pending (core_of view state)) (dies_of (view state.page_map)) ≡ false) where
  abbrev round : ℕ
  round = (calendar_of state.bookings).round

  abbrev booked : FinMap place_cmp Booking
  booked = (calendar_of state.bookings).bookings

  abbrev pub left : FinMap place_cmp Booking
  left = keep (λ place b. nat_lt round place.1) booked

  get_left : (die r : ℕ) → get left (die, r) ≡ passed (λ b. nat_lt round r) (get booked (die, r))
  get_left die r = get-keep place_cmp_total place_same (λ place b. nat_lt round place.1) booked (die, r)

  left_there : (die r : ℕ) (b : Booking) → get left (die, r) ≡ Some b → get booked (die, r) ≡ Some b
  left_there die r b is = was_there (λ b. nat_lt round r) (get booked (die, r)) b (sym (get_left die r) ∙ is)

  -- a read that was not started is booked in a later round, since none of this one is pending
  later : (die r : ℕ) (b : Booking) → get booked (die, r) ≡ Some b → b.started ≡ false → round < r
  later die r b is waits =
      let from : round ≤ r = late state.bookings.calendar die r (booked_is state.bookings die r ∙ ap is_some is) in
      let inside = fit.inside die r (ap is_some is) in
      let dies = fit.jobs in
      let flight = get (by_die state.jobs) die in
      let step = is_step_pending (core_of view state) die in
      elim (cases_eq r round) [
        | inl same ↦
            let core = core_of view state in
            let settled = any_none (is_round_pending core) (dies_of (view state.page_map)) ended die
            (among-range 0 (view state.page_map).geometry.dies die (omega arith) (omega (arith, inside, dies))) in
            let pending : is_round_pending core die ≡ true =
            ap (λ o. is_read_pending flight o || step) (ap (λ k. get booked (die, k)) (sym same) ∙ is)
            ∙ ap (λ s. (not s || is_reading flight) || step) waits in
            absurd (false≢true (sym settled ∙ pending))
        | inr apart ↦ omega (arith, from, apart)
      ]

  pub tracked_left : AreTracked left (by_die state.jobs) state.batches
  tracked_left = record {
    booked = λ die r batch page is. fit.tracked.booked die r batch page (left_there die r (unstarted batch page) is);
    known = λ batch page die r is.
        let before = fit.tracked.known batch page die r is in
        get_left die.0 r.0 ∙ ap (passed (λ b. nat_lt round r.0)) before
        ∙ ap (λ t. if t then Some (unstarted batch page) else None)
        (lt-ltb round r.0 (later die.0 r.0 (unstarted batch page) before refl));
    flying = fit.tracked.flying;
    reading = fit.tracked.reading;
    older_booked = λ die r b is. fit.tracked.older_booked die r b (left_there die r b is);
    older_read = fit.tracked.older_read;
  }

  pub inside_left : (die r : ℕ) → contains_key left (die, r) ≡ true → die < bound_of state.jobs
  inside_left die r is =
      let found = has_some (get left (die, r)) is in
      fit.inside die r (ap is_some (left_there die r found.0 found.1))
