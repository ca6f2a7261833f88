-- Bookings lie ahead, and each read in flight has one in the current round.
use Rattle.fa_laws.proofs.Finishing.{passed_some}
use Rattle.fa_machine.proofs.Maps.{get-insert_cases, get-keep, get-place_other, get-place_same, get-remove_some, passed, place_cmp_total}
use Rattle.fa_machine.proofs.Maps.{place_same}
use Rattle.fa_laws.specs.Counted.{is_read}
use Rattle.fa_machine.specs.Maps.{keep, place_cmp}
use Rattle.fa_machine.specs.State.{Core}
use Rattle.fa_machine.specs.Turning.{is_read_pending}
use Rattle.fa_machine.specs.declared.ids.BatchId.{BatchId}
use Rattle.fa_machine.specs.declared.jobs.Flight.{Flight}
use Rattle.fa_machine.specs.declared.jobs.Flight.TheVariants.{Read}
use Rattle.fa_machine.specs.declared.places.Booking.{Booking}
use Rattle.fa_machine.specs.declared.places.Version.{Version}
use Rattle.fa_types.specs.declared.numbers.Page.{Page}
use Rattle.fa_types.specs.declared.numbers.Slot.{Slot}
use Rattle.std.proofs.Common.{Bool, None, Option, Some, ap, arith, false, inl, inr, nat_lt, not, refl, subst, sym, true, ℕ, ◌+◌, ◌<◌}
use Rattle.std.proofs.Common.{◌∙◌, ◌≡◌, ◌≤◌, ◌⊎◌}
use Rattle.std.proofs.lemmas.Bool.{cases_eq, false≢true, ltb-true, ne_eqb, not_from_false, or_right}
use Rattle.std.proofs.lemmas.Option.{none-some, same_Some}
use Rattle.std.specs.FinMap.{FinMap, get, insert, remove}
use Rattle.std.specs.Ordering.{nat_cmp}
use Rattle.std.specs.Prelude.{if◌then◌else◌, ◌==◌}

pub record Timely (bookings : FinMap place_cmp Booking) (round : ℕ) (jobs : FinMap nat_cmp Flight) (dies : ℕ) : Type 0 where
  pub ahead : (d r : ℕ) (b : Booking) → get bookings (d, r) ≡ Some b → round ≤ r
  pub begun_now : (d r : ℕ) (b : Booking) → get bookings (d, r) ≡ Some b → b.started ≡ true → r ≤ round
  pub reads : (d : ℕ) (batch : BatchId) (page : Page) (version : Version) (slot : Slot) → get jobs d ≡ Some (Read batch page version slot)
      → (b : Booking) × (get bookings (d, round) ≡ Some b) × (b.batch ≡ batch) × (b.started ≡ true)
  pub within : (d : ℕ) (flight : Flight) → get jobs d ≡ Some flight → d < dies

abbrev pub TimelyCore : Core → Type 0
TimelyCore core = Timely core.calendar.bookings core.calendar.round core.jobs core.page_map.geometry.dies

-- some bookings are dropped, but none that was started
pub kept_timely : (bookings : FinMap place_cmp Booking) (round : ℕ) (jobs : FinMap nat_cmp Flight) (dies : ℕ) (test : ℕ × ℕ → Booking → Bool)
    → ((place : ℕ × ℕ) (b : Booking) → b.started ≡ true → test place b ≡ true)
    → Timely bookings round jobs dies → Timely (keep test bookings) round jobs dies
kept_timely bookings round jobs dies test keeps t = record {
  ahead = λ d r b e. t.ahead d r b (was d r b e);
  begun_now = λ d r b e s. t.begun_now d r b (was d r b e) s;
  reads = λ d batch page version slot e.
      let found = t.reads d batch page version slot e in
      (found.0, kept d round found.0 found.1 found.3, found.2, found.3);
  within = t.within;
}
  where
    at : (d r : ℕ) → get (keep test bookings) (d, r) ≡ passed (test (d, r)) (get bookings (d, r))
    at d r = get-keep place_cmp_total place_same test bookings (d, r)

    was : (d r : ℕ) (b : Booking) → get (keep test bookings) (d, r) ≡ Some b → get bookings (d, r) ≡ Some b
    was d r b e = passed_some (test (d, r)) (get bookings (d, r)) b (sym (at d r) ∙ e)

    kept : (d r : ℕ) (b : Booking) → get bookings (d, r) ≡ Some b → b.started ≡ true → get (keep test bookings) (d, r) ≡ Some b
    kept d r b e s = at d r ∙ ap (passed (test (d, r))) e ∙ ap (λ t. if t then Some b else None) (keeps (d, r) b s)

-- fewer jobs
pub ended_timely : (bookings : FinMap place_cmp Booking) (round : ℕ) (jobs : FinMap nat_cmp Flight) (dies die : ℕ)
    → Timely bookings round jobs dies → Timely bookings round (remove jobs die) dies
ended_timely bookings round jobs dies die t = record {
  ahead = t.ahead;
  begun_now = t.begun_now;
  reads = λ d batch page version slot e. t.reads d batch page version slot (get-remove_some jobs die d _ e).0;
  within = λ d flight e. t.within d flight (get-remove_some jobs die d flight e).0;
}

-- the bookings of a die that goes out
pub dropped_timely : (bookings : FinMap place_cmp Booking) (round : ℕ) (jobs : FinMap nat_cmp Flight) (dies die : ℕ)
    → Timely bookings round jobs dies → Timely (keep (λ place b. not (place.0 == die)) bookings) round (remove jobs die) dies
dropped_timely bookings round jobs dies die t = record {
  ahead = λ d r b e. t.ahead d r b (was d r b e);
  begun_now = λ d r b e s. t.begun_now d r b (was d r b e) s;
  reads = λ d batch page version slot e.
      let left = get-remove_some jobs die d _ e in
      let found = t.reads d batch page version slot left.0 in (
        found.0,
        at d round ∙ ap (passed (λ b. not (d == die))) found.1
            ∙ ap (λ t. if t then Some found.0 else None) (not_from_false (d == die) (ne_eqb d die left.1)),
        found.2,
        found.3,
      );
  within = λ d flight e. t.within d flight (get-remove_some jobs die d flight e).0;
}
  where
    at : (d r : ℕ) → get (keep (λ place b. not (place.0 == die)) bookings) (d, r) ≡ passed (λ b. not (d == die)) (get bookings (d, r))
    at d r = get-keep place_cmp_total place_same (λ place b. not (place.0 == die)) bookings (d, r)

    was : (d r : ℕ) (b : Booking) → get (keep (λ place b. not (place.0 == die)) bookings) (d, r) ≡ Some b → get bookings (d, r) ≡ Some b
    was d r b e = passed_some (λ b. not (d == die)) (get bookings (d, r)) b (sym (at d r) ∙ e)

-- a job that is no read begins
pub begun_timely : (bookings : FinMap place_cmp Booking) (round : ℕ) (jobs : FinMap nat_cmp Flight) (dies die : ℕ) (flight : Flight)
    → is_read flight ≡ false → die < dies → Timely bookings round jobs dies → Timely bookings round (insert jobs die flight) dies
begun_timely bookings round jobs dies die flight no_read low t = record {
  ahead = t.ahead;
  begun_now = t.begun_now;
  reads = λ d batch page version slot e. elim (get-insert_cases jobs die flight d (Read batch page version slot) e) [
    | inl made ↦ absurd (false≢true (sym no_read ∙ ap is_read made.1))
    | inr was ↦ t.reads d batch page version slot was.0
  ];
  within = λ d f e. elim (get-insert_cases jobs die flight d f e) [
    | inl made ↦ subst (λ (n : ℕ). n < dies) (sym made.0) low
    | inr was ↦ t.within d f was.0
  ];
}

place_cases : (d r die round : ℕ) → ((d ≡ die) × (r ≡ round)) ⊎ (d ≡ die → r ≡ round → ⊥)
place_cases d r die round =
    elim (cases_eq d die) [
      | inr away ↦ inr (λ e f. away e)
      | inl same ↦ elim (cases_eq r round) [
        | inl here ↦ inl (same, here)
        | inr away ↦ inr (λ e f. away f)
      ]
    ]

-- what is found after a booking at a place
pub booked_cases : (bookings : FinMap place_cmp Booking) (die round : ℕ) (x : Booking) (d r : ℕ) (b : Booking) → get (insert bookings (die, round) x) (d, r) ≡ Some b
    → ((d ≡ die) × (r ≡ round) × (x ≡ b)) ⊎ (get bookings (d, r) ≡ Some b)
booked_cases bookings die round x d r b e =
    elim (place_cases d r die round) [
      | inl here ↦ inl (here.0, here.1, same_Some x b (sym (get-place_same bookings die round x) ∙ sym (λ i. get (insert bookings (die, round) x) (here.0 i, here.1 i)) ∙ e))
      | inr away ↦ inr (sym (get-place_other bookings die round x d r away) ∙ e)
    ]

-- a booked read begins
pub read_timely : (bookings : FinMap place_cmp Booking) (round : ℕ) (jobs : FinMap nat_cmp Flight) (dies die : ℕ) (batch : BatchId) (page : Page)
    (version : Version) (slot : Slot) → die < dies → Timely bookings round jobs dies
    → Timely (insert bookings (die, round) (record { batch = batch; page = page; started = true })) round
    (insert jobs die (Read batch page version slot)) dies
read_timely bookings round jobs dies die batch page version slot low t = record {
  ahead = λ d r b e. elim (booked_cases bookings die round started_one d r b e) [
    | inl here ↦ let n = here.1 in omega (arith, n)
    | inr was ↦ t.ahead d r b was
  ];
  begun_now = λ d r b e s. elim (booked_cases bookings die round started_one d r b e) [
    | inl here ↦ let n = here.1 in omega (arith, n)
    | inr was ↦ t.begun_now d r b was s
  ];
  reads = λ d bt p v k e. elim (get-insert_cases jobs die (Read batch page version slot) d (Read bt p v k) e) [
    | inl made ↦ (
      started_one,
      (ap (λ (n : ℕ). get (insert bookings (die, round) started_one) (n, round)) made.0 ∙ get-place_same bookings die round started_one),
      batch_of batch bt page p version v slot k made.1,
      refl,
    )
    | inr was ↦
        let found = t.reads d bt p v k was.0 in
        (found.0, get-place_other bookings die round started_one d round (λ same here. was.1 same) ∙ found.1, found.2, found.3)
  ];
  within = λ d f e. elim (get-insert_cases jobs die (Read batch page version slot) d f e) [
    | inl made ↦ subst (λ (n : ℕ). n < dies) (sym made.0) low
    | inr was ↦ t.within d f was.0
  ];
}
  where
    started_one : Booking
    started_one = record { batch = batch; page = page; started = true }

    read_batch : BatchId → Flight → BatchId
    read_batch other (Read b p v k) = b
    read_batch other flight = other

    batch_of : (b b' : BatchId) (p p' : Page) (v v' : Version) (k k' : Slot) → Read b p v k ≡ Read b' p' v' k' → b ≡ b'
    batch_of b b' p p' v v' k k' e = ap (read_batch b) e

-- the round passes
pub advanced_timely : (bookings : FinMap place_cmp Booking) (round : ℕ) (jobs : FinMap nat_cmp Flight) (dies : ℕ)
    → ((d : ℕ) → d < dies → is_read_pending (get jobs d) (get bookings (d, round)) ≡ false)
    → Timely bookings round jobs dies → Timely (keep (λ place b. nat_lt round place.1) bookings) (round + 1) jobs dies
advanced_timely bookings round jobs dies none t = record {
  ahead = λ d r b e. let n = later_round d r b e in omega (arith, n);
  begun_now = λ d r b e s. let n = later_round d r b e in let m = t.begun_now d r b (was d r b e) s in omega (arith, n, m);
  reads = λ d batch page version slot e.
      let found = t.reads d batch page version slot e in
      absurd (false≢true (sym (none d (t.within d _ e)) ∙ (λ i. is_read_pending (e i) (found.1 i)) ∙ or_right (not found.0.started) true refl));
  within = t.within;
}
  where
    at : (d r : ℕ) → get (keep (λ place b. nat_lt round place.1) bookings) (d, r) ≡ passed (λ b. nat_lt round r) (get bookings (d, r))
    at d r = get-keep place_cmp_total place_same (λ place b. nat_lt round place.1) bookings (d, r)

    was : (d r : ℕ) (b : Booking) → get (keep (λ place b. nat_lt round place.1) bookings) (d, r) ≡ Some b → get bookings (d, r) ≡ Some b
    was d r b e = passed_some (λ b. nat_lt round r) (get bookings (d, r)) b (sym (at d r) ∙ e)

    test_of : (t : Bool) (o : Option Booking) (b : Booking) → passed (λ b. t) o ≡ Some b → t ≡ true
    test_of true o b e = refl
    test_of false None b e = absurd (none-some b e)
    test_of false (Some c) b e = absurd (none-some b e)

    later_round : (d r : ℕ) (b : Booking) → get (keep (λ place b. nat_lt round place.1) bookings) (d, r) ≡ Some b → round < r
    later_round d r b e = ltb-true round r (test_of (nat_lt round r) (get bookings (d, r)) b (sym (at d r) ∙ e))
