-- What each event does to the bookings, and that a batch has its answers once its bookings have passed.
use Rattle.fa_batch_terms.specs.Plan.{rounds_of}
use Rattle.fa_batch_terms.specs.declared.place.Place.{Place}
use Rattle.fa_laws.proofs.Finishing.{passed_some}
use Rattle.fa_machine.proofs.Maps.{get-keep, get-place_other, place_cmp_total, place_same}
use Rattle.fa_machine.specs.Among.{Among}
use Rattle.fa_machine.proofs.Takes.{IsOther, IsUrgent, take_cases}
use Rattle.fa_laws.proofs.Timely.{Timely, TimelyCore, begun_timely, booked_cases, dropped_timely, ended_timely, kept_timely}
use Rattle.fa_laws.proofs.Timely.{read_timely}
use Rattle.fa_machine.specs.Conditions.{drop_die}
use Rattle.fa_machine.specs.Maps.{keep, place_cmp}
use Rattle.fa_machine.specs.Placement.{free}
use Rattle.fa_machine.specs.Reading.{IsPlanned, Planned, released}
use Rattle.fa_machine.specs.Rounds.{is_closed}
use Rattle.fa_machine.specs.State.{CalendarState, Core, MapState, is_live}
use Rattle.fa_machine.specs.Step.{Act, Admit, Replan}
use Rattle.fa_machine.specs.Taking.{Handed, Takes, begins, begun, program_of, without_stale_booking}
use Rattle.fa_machine.specs.declared.ids.BatchId.{BatchId}
use Rattle.fa_machine.specs.declared.jobs.Flight.{Flight}
use Rattle.fa_machine.specs.declared.jobs.Flight.TheVariants.{Erase, Header, Move, Program, Read, Sync}
use Rattle.fa_machine.specs.declared.places.Booking.{Booking}
use Rattle.fa_types.specs.Open.{IsOpen}
use Rattle.fa_types.specs.Windows.{is_in_window}
use Rattle.std.proofs.Common.{Bool, List, None, Option, Some, [], ap, arith, false, inl, inr, not, refl, subst, sym, true, ℕ, ◌+◌, ◌-◌}
use Rattle.std.proofs.Common.{◌<◌, ◌||◌, ◌∙◌, ◌∷◌, ◌≡◌, ◌≤◌, ◌⊎◌}
use Rattle.std.proofs.lemmas.Bool.{false≢true, not-false, or_left, or_parts, or_right}
use Rattle.std.proofs.lemmas.List.Elements.{recursion_from_All}
use Rattle.std.specs.FinMap.{FinMap, contains_key, get, insert, remove}
use Rattle.std.specs.List.{AllByRecursion}
use Rattle.std.specs.Ordering.{nat_cmp}
use Rattle.std.specs.Prelude.{Ok, fold, is_some, ◌==◌, ◌&&◌}

abbrev pub booking_of : BatchId → Place → Booking
booking_of batch x = record { batch = batch; page = x.page; started = false }

abbrev pub with_places : BatchId → List Place → FinMap place_cmp Booking → FinMap place_cmp Booking
with_places batch places bookings = fold (λ m x. insert m (x.die.0, x.round.0) (booking_of batch x)) bookings places

booked_found : (batch : BatchId) (places : List Place) (bookings : FinMap place_cmp Booking) (d r : ℕ) (b : Booking)
    → get (with_places batch places bookings) (d, r) ≡ Some b
    → (get bookings (d, r) ≡ Some b) ⊎ ((x : Place) × Among x places × (x.die.0 ≡ d) × (x.round.0 ≡ r) × (booking_of batch x ≡ b))
booked_found batch [] bookings d r b e = inl e
booked_found batch (x ∷ xs) bookings d r b e =
    elim (booked_found batch xs (insert bookings (x.die.0, x.round.0) (booking_of batch x)) d r b e) [
      | inr found ↦ inr (found.0, inr found.1, found.2, found.3, found.4)
      | inl was ↦ elim (booked_cases bookings x.die.0 x.round.0 (booking_of batch x) d r b was) [
        | inl here ↦ inr (x, inl refl, sym here.0, sym here.1, here.2)
        | inr before ↦ inl before
      ]
    ]

pub booked_kept : (batch : BatchId) (places : List Place) (bookings : FinMap place_cmp Booking) (d r : ℕ) (b : Booking)
    → ((x : Place) → Among x places → x.die.0 ≡ d → x.round.0 ≡ r → ⊥) → get bookings (d, r) ≡ Some b
    → get (with_places batch places bookings) (d, r) ≡ Some b
booked_kept batch [] bookings d r b free e = e
booked_kept batch (x ∷ xs) bookings d r b free e =
    booked_kept batch xs (insert bookings (x.die.0, x.round.0) (booking_of batch x)) d r b (λ y i. free y (inr i))
    (get-place_other bookings x.die.0 x.round.0 (booking_of batch x) d r (λ f g. free x (inl refl) (sym f) (sym g)) ∙ e)

all_among : {X : Type 0} (P : X → Type 0) (xs : List X) → AllByRecursion P xs → (x : X) → Among x xs → P x
all_among P [] all x i = absurd i
all_among P (y ∷ ys) all x (inl same) = subst P same all.0
all_among P (y ∷ ys) all x (inr rest) = all_among P ys all.1 x rest

-- the places of a plan are open
pub opened_at : (m : MapState) (calendar : CalendarState) (pages : List ℕ) (planned : Planned) → IsPlanned m calendar pages planned
    → (x : Place) → Among x planned.places
    → (calendar.round ≤ x.round.0) × (contains_key calendar.bookings (x.die.0, x.round.0) ≡ false)
opened_at m calendar pages planned is x among =
    let opened = all_among (λ x. IsOpen calendar.round (is_closed m calendar) x.die.0 x.round.0) planned.places
    (recursion_from_All (λ x. IsOpen calendar.round (is_closed m calendar) x.die.0 x.round.0) planned.places is.certificate.plan.opens) x among in (
      opened.0,
      (or_parts (contains_key calendar.bookings (x.die.0, x.round.0)) _
          (or_parts (not (is_live m x.die.0)) _ opened.1).1).0,
    )

-- and their dies are live
pub opened_live : (m : MapState) (calendar : CalendarState) (pages : List ℕ) (planned : Planned) → IsPlanned m calendar pages planned
    → (x : Place) → Among x planned.places → is_live m x.die.0 ≡ true
opened_live m calendar pages planned is x among =
    let opened = all_among (λ x. IsOpen calendar.round (is_closed m calendar) x.die.0 x.round.0) planned.places
    (recursion_from_All (λ x. IsOpen calendar.round (is_closed m calendar) x.die.0 x.round.0) planned.places is.certificate.plan.opens) x among in
    not-false (is_live m x.die.0) (or_parts (not (is_live m x.die.0)) _ opened.1).0

-- and their rounds are in no window
pub opened_outside : (m : MapState) (calendar : CalendarState) (pages : List ℕ) (planned : Planned) → IsPlanned m calendar pages planned
    → (x : Place) → Among x planned.places → is_in_window (get calendar.windows x.die.0) x.round.0 ≡ false
opened_outside m calendar pages planned is x among =
    let opened = all_among (λ x. IsOpen calendar.round (is_closed m calendar) x.die.0 x.round.0) planned.places
    (recursion_from_All (λ x. IsOpen calendar.round (is_closed m calendar) x.die.0 x.round.0) planned.places is.certificate.plan.opens) x among in
    (or_parts (contains_key calendar.bookings (x.die.0, x.round.0)) _ (or_parts (not (is_live m x.die.0)) _ opened.1).1).1

rounds_among : (current : ℕ) (places : List Place) (x : Place) → Among x places → x.round.0 + 1 - current ≤ rounds_of current places
rounds_among current [] x i = absurd i
rounds_among current (y ∷ ys) x (inl same) = let e = ap (λ (z : Place). z.round.0) same in omega (arith, e)
rounds_among current (y ∷ ys) x (inr rest) = let h = rounds_among current ys x rest in omega (arith, h)

-- the last round of a plan
pub planned_before : (m : MapState) (calendar : CalendarState) (pages : List ℕ) (planned : Planned) → IsPlanned m calendar pages planned
    → (x : Place) → Among x planned.places → x.round.0 < calendar.round + planned.rounds
planned_before m calendar pages planned is x among =
    let low = (opened_at m calendar pages planned is x among).0 in
    let high = rounds_among calendar.round planned.places x among in
    let e = is.certificate.length_is in
    omega (arith, low, high, e)

pub planned_timely : (m : MapState) (calendar : CalendarState) (pages : List ℕ) (planned : Planned) (batch : BatchId) (jobs : FinMap nat_cmp Flight) (dies : ℕ)
    → IsPlanned m calendar pages planned → Timely calendar.bookings calendar.round jobs dies
    → Timely (with_places batch planned.places calendar.bookings) calendar.round jobs dies
planned_timely m calendar pages planned batch jobs dies is t = record {
  ahead = λ d r b e. elim (booked_found batch planned.places calendar.bookings d r b e) [
    | inl was ↦ t.ahead d r b was
    | inr new ↦ let n = (opened_at m calendar pages planned is new.0 new.1).0 in let f = new.3 in omega (arith, n, f)
  ];
  begun_now = λ d r b e s. elim (booked_found batch planned.places calendar.bookings d r b e) [
    | inl was ↦ t.begun_now d r b was s
    | inr new ↦ absurd (false≢true (ap (λ (k : Booking). k.started) new.4 ∙ s))
  ];
  reads = λ d bt page version slot e.
      let found = t.reads d bt page version slot e in (
        found.0,
        booked_kept batch planned.places calendar.bookings d calendar.round found.0
            (λ x i f g. false≢true (sym (opened_at m calendar pages planned is x i).1
            ∙ ap is_some ((λ i. get calendar.bookings (f i, g i)) ∙ found.1))) found.1,
        found.2,
        found.3,
      );
  within = t.within;
}

-- the bookings of a state, each of which is as K has it
pub record Good (K : ℕ → ℕ → BatchId → Type 0) (core : Core) : Type 0 where
  pub timely : TimelyCore core
  pub all : (d r : ℕ) (b : Booking) → get core.calendar.bookings (d, r) ≡ Some b → K d r b.batch

abbrev pub MayPlan : (ℕ → ℕ → BatchId → Type 0) → Act → Type 0
MayPlan K (Admit pages (Ok admitted)) = (x : Place) → Among x admitted.planned.places → K x.die.0 x.round.0 admitted.batch
MayPlan K (Replan b (Ok planned)) = (x : Place) → Among x planned.places → K x.die.0 x.round.0 (record { 0 = b })
MayPlan K act = Unit {0}

module _ (K : ℕ → ℕ → BatchId → Type 0) where
  pub to_good : (core x : Core) → core ≡ x → Good K x → Good K core
  to_good core x e g = subst (Good K) (sym e) g

  pub kept_all : (bookings : FinMap place_cmp Booking) (test : ℕ × ℕ → Booking → Bool) → ((d r : ℕ) (b : Booking) → get bookings (d, r) ≡ Some b → K d r b.batch)
      → (d r : ℕ) (b : Booking) → get (keep test bookings) (d, r) ≡ Some b → K d r b.batch
  kept_all bookings test all d r b e =
      all d r b (passed_some (test (d, r)) (get bookings (d, r)) b (sym (get-keep place_cmp_total place_same test bookings (d, r)) ∙ e))

  -- what is as it was, where calendar, jobs and geometry are
  pub good_same : (core : Core) → Good K core → (x : Core) → x.calendar.bookings ≡ core.calendar.bookings → x.calendar.round ≡ core.calendar.round
      → x.jobs ≡ core.jobs → x.page_map.geometry ≡ core.page_map.geometry → Good K x
  good_same core g x a b c d =
      let path : ◌≡◌ {A = FinMap place_cmp Booking × ℕ × FinMap nat_cmp Flight × ℕ}
      (core.calendar.bookings, core.calendar.round, core.jobs, core.page_map.geometry.dies)
      (x.calendar.bookings, x.calendar.round, x.jobs, x.page_map.geometry.dies) =
      λ i. (sym a i, sym b i, sym c i, (sym d i).dies) in
      record {
        timely = subst (λ t. Timely t.0 t.1 t.2 t.3) path g.timely;
        all = subst (λ m. (d r : ℕ) (b : Booking) → get m (d, r) ≡ Some b → K d r b.batch) (sym a) g.all;
      }

  pub same_after : (old core x : Core) → core ≡ x → Good K old → x.calendar.bookings ≡ old.calendar.bookings → x.calendar.round ≡ old.calendar.round
      → x.jobs ≡ old.jobs → x.page_map.geometry ≡ old.page_map.geometry → Good K core
  same_after old core x e g a b c d = to_good core x e (good_same old g x a b c d)

  pub planned_all : (m : MapState) (calendar : CalendarState) (batch : BatchId) (places : List Place)
      → ((d r : ℕ) (b : Booking) → get calendar.bookings (d, r) ≡ Some b → K d r b.batch)
      → ((x : Place) → Among x places → K x.die.0 x.round.0 batch)
      → (d r : ℕ) (b : Booking) → get (with_places batch places calendar.bookings) (d, r) ≡ Some b → K d r b.batch
  planned_all m calendar batch places all may d r b e =
      elim (booked_found batch places calendar.bookings d r b e) [
        | inl was ↦ all d r b was
        | inr new ↦ subst (λ (t : ℕ × ℕ × Booking). K t.0 t.1 t.2.batch) {x = (new.0.die.0, new.0.round.0, booking_of batch new.0)} {y = (d, r, b)}
            (λ i. (new.2 i, new.3 i, new.4 i)) (may new.0 new.1)
      ]

  pub released_good : (core : Core) → Good K core → (batch : ℕ) → Good K (record core { calendar = released batch core.calendar })
  released_good core g batch = record {
    timely = kept_timely core.calendar.bookings core.calendar.round core.jobs core.page_map.geometry.dies
        (λ place booking. booking.started || not (booking.batch.0 == batch)) (λ place b s. or_left b.started _ s) g.timely;
    all = kept_all core.calendar.bookings (λ place booking. booking.started || not (booking.batch.0 == batch)) g.all;
  }

  begun_good : (core : Core) → Good K core → (die seat : ℕ) (flight : Flight) → die < core.page_map.geometry.dies → IsUrgent core die flight
      → Good K (begun die seat flight core)
  begun_good core g die seat (Header epoch live) low u =
      record { timely = begun_timely _ _ core.jobs core.page_map.geometry.dies die (Header epoch live) refl low g.timely; all = g.all }
  begun_good core g die seat (Move page version from to) low u =
      record { timely = begun_timely _ _ core.jobs core.page_map.geometry.dies die (Move page version from to) refl low g.timely; all = g.all }
  begun_good core g die seat (Erase block) low u =
      record { timely = begun_timely _ _ core.jobs core.page_map.geometry.dies die (Erase block) refl low g.timely; all = g.all }
  begun_good core g die seat (Read batch page version slot) low u = record {
    timely = read_timely core.calendar.bookings core.calendar.round core.jobs core.page_map.geometry.dies die batch page version slot low g.timely;
    all = λ d r b e. elim (booked_cases core.calendar.bookings die core.calendar.round (record { batch = batch; page = page; started = true }) d r b e) [
      | inr was ↦ g.all d r b was
      | inl here ↦
          let before : K die core.calendar.round u.booking.batch = g.all die core.calendar.round u.booking u.booked in
          subst (λ (t : ℕ × ℕ × BatchId). K t.0 t.1 t.2) {x = (die, core.calendar.round, u.booking.batch)} {y = (d, r, b.batch)}
          (λ i. (sym here.0 i, sym here.1 i, ((λ j. record { 0 = u.batch_is j }) ∙ ap (λ (k : Booking). k.batch) here.2) i)) before
    ];
  }
  begun_good core g die seat (Program page version slot) low u = absurd u
  begun_good core g die seat (Sync flushes) low u = absurd u

  stale_good : (core : Core) → Good K core → (die : ℕ) → Good K (without_stale_booking die core)
  stale_good core g die = record {
    timely = kept_timely core.calendar.bookings core.calendar.round core.jobs core.page_map.geometry.dies
        (λ place b. not (place.0 == die && place.1 == core.calendar.round) || b.started) (λ place b s. or_right (not (place.0 == die && place.1 == core.calendar.round)) b.started s) g.timely;
    all = kept_all core.calendar.bookings (λ place b. not (place.0 == die && place.1 == core.calendar.round) || b.started) g.all;
  }

  other_good : (core : Core) → Good K core → (die seat : ℕ) (job : Option Handed) → die < core.page_map.geometry.dies → IsOther core die job
      → Good K (begins die seat core job).1
  other_good core g die seat None low u = g
  other_good core g die seat (Some job) low u =
      elim u [
        | inl p ↦ subst (λ j. Good K (begins die seat core (Some j)).1) (sym p.2)
            (record { timely = begun_timely _ _ core.jobs core.page_map.geometry.dies die (program_of core.page_map p.0).flight refl low g.timely; all = g.all })
        | inr f ↦ subst (λ j. Good K (begins die seat core (Some j)).1) (sym f.1)
            (record { timely = begun_timely _ _ core.jobs core.page_map.geometry.dies die (Sync f.0) refl low g.timely; all = g.all })
      ]

  pub take_good : (core : Core) → Good K core → (die seat : ℕ) (answer : Option Handed) (new : Core) → die < core.page_map.geometry.dies → Takes core die seat answer new
      → Good K new
  take_good core g die seat answer new low e =
      subst (λ (pair : Option Handed × Core). Good K pair.1) (sym e)
      (take_cases core die seat (λ (pair : Option Handed × Core). Good K pair.1) g (λ flight idle u. begun_good core g die seat flight low u)
      (λ job idle u. other_good (without_stale_booking die core) (stale_good core g die) die seat job low u))

  pub ended_good : (core : Core) → Good K core → (die : ℕ) → Good K (record core { jobs = remove core.jobs die })
  ended_good core g die = record {
    timely = ended_timely core.calendar.bookings core.calendar.round core.jobs core.page_map.geometry.dies die g.timely;
    all = g.all;
  }

  pub dropped_good : (core : Core) → Good K core → (die : ℕ) → Good K (drop_die die core)
  dropped_good core g die = record {
    timely = dropped_timely core.calendar.bookings core.calendar.round core.jobs core.page_map.geometry.dies die g.timely;
    all = kept_all core.calendar.bookings (λ place b. not (place.0 == die)) g.all;
  }
