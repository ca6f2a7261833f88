-- A batch that is ended: bookings, jobs and batches agree as before, once its bookings that were not started are released.
use Rattle.fa_core_batches.specs.Batches.{batches_of, bytes_of, next_of, state_of}
use Rattle.fa_core_batches.specs.Pages.{opened}
use Rattle.fa_core_batches.specs.declared.batches.Batches.{Batches}
use Rattle.fa_core_batches.specs.declared.page.PageState.{PageState}
use Rattle.fa_core_batches.specs.declared.page.PageState.TheVariants.{Booked, InFlight}
use Rattle.fa_core_bookings.specs.Bookings.{calendar_of}
use Rattle.fa_core_bookings.specs.declared.bookings.Bookings.{Bookings}
use Rattle.fa_machine.proofs.Maps.{get-keep, passed, place_cmp_total, place_same}
use Rattle.fa_machine.specs.Reading.{released}
use Rattle.fa_machine.specs.State.{CalendarState, MapState}
use Rattle.fa_machine.specs.declared.jobs.Flight.{Flight}
use Rattle.fa_machine.specs.declared.places.Booking.{Booking}
use Rattle.fa_core_tables.specs.Dies.{bound_of, by_die}
use Rattle.fa_core_read.proofs.Others.{AreInside, each_removed, open_still}
use Rattle.fa_core_state.specs.Fitted.{IsFitted}
use Rattle.fa_core_state.specs.Tracked.{AreTracked, unstarted}
use Rattle.fa_core_state.specs.declared.state.State.{State}
use Rattle.std.proofs.Common.{Bool, None, Option, Some, ap, arith, cond, false, length, refl, subst, sym, true, ℕ, ◌<◌}
use Rattle.std.proofs.Common.{◌∙◌, ◌≡◌, ◌≤◌}
use Rattle.std.proofs.lemmas.Bool.{false≢true}
use Rattle.std.proofs.lemmas.Option.{none-some, same_Some}
use Rattle.std.specs.FinMap.{FinMap, contains_key, get, remove}
use Rattle.std.specs.Ordering.{nat_cmp}
use Rattle.std.specs.Prelude.{if◌then◌else◌, is_some, not, ◌==◌, ◌^◌, ◌||◌}

module _ (batch : ℕ) (calendar : CalendarState) where
  abbrev stays : Booking → Bool
  stays b = b.started || not (b.batch.0 == batch)

  found : (d r : ℕ) → get (released batch calendar).bookings (d, r) ≡ passed stays (get calendar.bookings (d, r))
  found d r =
      get-keep place_cmp_total place_same (λ place booking. booking.started || not (booking.batch.0 == batch)) calendar.bookings (d, r)

  -- what is booked still was booked before, and is another batch's or was started
  record Stays (d r : ℕ) (b : Booking) : Type 0 where
    was : get calendar.bookings (d, r) ≡ Some b
    kept : stays b ≡ true

  stays_at : (d r : ℕ) (b : Booking) → get (released batch calendar).bookings (d, r) ≡ Some b → Stays d r b
  stays_at d r b is = go (get calendar.bookings (d, r)) refl (sym (found d r) ∙ is)
    where
      go : (o : Option Booking) → get calendar.bookings (d, r) ≡ o → passed stays o ≡ Some b → Stays d r b
      go None at left = absurd (none-some b left)
      go (Some x) at left = here (stays x) refl left
        where
          here : (t : Bool) → stays x ≡ t → cond t (Some x) None ≡ Some b → Stays d r b
          here true kept same = record {
            was = at ∙ same;
            kept = ap stays (sym (same_Some x b same)) ∙ kept;
          }
          here false kept same = absurd (none-some b same)

  is_other : (t : Bool) → not t ≡ true → t ≡ false
  is_other true is = absurd (false≢true is)
  is_other false is = refl

  module _ {A : Type 0} (before after : Batches A) (jobs : FinMap nat_cmp Flight) (tracked : AreTracked calendar.bookings jobs before)
      (states : (b p : ℕ) → state_of after b p ≡ (if b == batch then None else state_of before b p))
      (ended : batches_of after ≡ remove (batches_of before) batch) (number : next_of after ≡ next_of before) where
    others : (b p : ℕ) → (b == batch) ≡ false → state_of after b p ≡ state_of before b p
    others b p other = states b p ∙ ap (λ t. if t then None else state_of before b p) other

    -- a page that stands somehow is another batch's
    standing : (b p : ℕ) (s : PageState) → state_of after b p ≡ Some s → (b == batch) ≡ false
    standing b p s is = go (b == batch) (sym (states b p) ∙ is)
      where
        go : (t : Bool) → (if t then None else state_of before b p) ≡ Some s → t ≡ false
        go true is = absurd (none-some s is)
        go false is = refl

    stood : (b p : ℕ) (s : PageState) → state_of after b p ≡ Some s → state_of before b p ≡ Some s
    stood b p s is = sym (others b p (standing b p s is)) ∙ is

    pub tracked_ended : AreTracked (released batch calendar).bookings jobs after
    tracked_ended = record {
      booked = λ d r b p is.
          let left = stays_at d r (unstarted b p) is in
          others b p (is_other (b == batch) left.kept) ∙ tracked.booked d r b p left.was;
      known = λ b p die round is.
          found die.0 round.0 ∙ ap (passed stays) (tracked.known b p die round (stood b p (Booked die round) is))
          ∙ ap (λ t. cond (not t) (Some (unstarted b p)) None) (standing b p (Booked die round) is);
      flying = λ die b p version slot is there.
          let still = open_still (batches_of before) batch b.0 (ap (λ m. contains_key m b.0) (sym ended) ∙ there) in
          others b.0 p.0 still.0 ∙ tracked.flying die b p version slot is still.1;
      reading = λ b p die is. tracked.reading b p die (stood b p (InFlight die) is);
      older_booked = λ d r b is. subst (λ n. b.batch.0 < n) (sym number) (tracked.older_booked d r b (stays_at d r b is).was);
      older_read = λ die b p version slot is. subst (λ n. b.0 < n) (sym number) (tracked.older_read die b p version slot is);
    }

  pub still_inside : (bound : ℕ) → ((d r : ℕ) → contains_key calendar.bookings (d, r) ≡ true → d < bound)
      → (d r : ℕ) → contains_key (released batch calendar).bookings (d, r) ≡ true → d < bound
  still_inside bound inside d r some = inside d r (go (get calendar.bookings (d, r)) (sym (ap is_some (found d r)) ∙ some))
    where
      go : (o : Option Booking) → is_some (passed stays o) ≡ true → is_some o ≡ true
      go None is = absurd (false≢true is)
      go (Some b) is = refl

-- a state stays fitted
module _ {M A : Type 0} (view : M → MapState) (state : State M A) (fitted : IsFitted view state) (bookings : Bookings A) (after : Batches A)
    (batch : ℕ) (is : calendar_of bookings ≡ released batch (calendar_of state.bookings))
    (states : (b p : ℕ) → state_of after b p ≡ (if b == batch then None else state_of state.batches b p))
    (ended : batches_of after ≡ remove (batches_of state.batches) batch) (number : next_of after ≡ next_of state.batches)
    (bytes : bytes_of after ≡ bytes_of state.batches) where
  pub fitted_ended : IsFitted view (record state { bookings = bookings; batches = after })
  fitted_ended = record {
    behind = fitted.behind;
    spares = fitted.spares;
    stepped = fitted.stepped;
    waiting = fitted.waiting;
    jobs = fitted.jobs;
    asked = fitted.asked;
    synced = fitted.synced;
    last = fitted.last;
    epoch = fitted.epoch;
    flushes = fitted.flushes;
    round = subst (λ (k : CalendarState). k.round ≤ 2 ^ 56) (sym is) fitted.round;
    buffers = bytes ∙ fitted.buffers;
    tracked = subst (λ (k : CalendarState). AreTracked k.bookings (by_die state.jobs) after) (sym is)
        (tracked_ended batch (calendar_of state.bookings) state.batches after (by_die state.jobs) fitted.tracked states ended number);
    listed = λ b. subst (λ k. AreInside (view state.page_map).geometry.pages (opened k b).pages) (sym ended)
        (each_removed (AreInside (view state.page_map).geometry.pages) (batches_of state.batches) batch fitted.listed
        (λ page is. absurd (false≢true is)) b);
    few = λ b. subst (λ k. length (opened k b).pages ≤ 1024) (sym ended)
        (each_removed (λ ps. length ps ≤ 1024) (batches_of state.batches) batch fitted.few (omega arith) b);
    inside = subst (λ (k : CalendarState). (die round : ℕ) → contains_key k.bookings (die, round) ≡ true → die < bound_of state.jobs)
        (sym is) (still_inside batch (calendar_of state.bookings) (bound_of state.jobs) fitted.inside);
  }
