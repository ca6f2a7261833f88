-- Where one batch alone is opened or ended: bookings, jobs and batches agree as before.
use Rattle.fa_core_batches.specs.Batches.{batches_of, bytes_of, next_of, state_of}
use Rattle.fa_core_batches.specs.Pages.{opened}
use Rattle.fa_core_batches.specs.declared.batches.Batches.{Batches}
use Rattle.fa_core_bookings.specs.Bookings.{calendar_of}
use Rattle.fa_machine.proofs.Maps.{get-insert_other, get-remove_other, get-remove_same, nat_same, place_cmp_total, place_itself, place_same}
use Rattle.fa_machine.proofs.Lists.{all_from_among, among-map, among-map-intro}
use Rattle.fa_machine.proofs.Values.{some_value}
use Rattle.fa_machine.specs.Maps.{is_one_of, place_cmp}
use Rattle.fa_machine.specs.Reading.{is_fresh, names_batch}
use Rattle.fa_machine.specs.State.{Core, MapState, OpenBatch}
use Rattle.fa_machine.specs.declared.ids.BatchId.{BatchId}
use Rattle.fa_machine.specs.declared.jobs.Flight.{Flight}
use Rattle.fa_machine.specs.declared.jobs.Flight.TheVariants.{Erase, Header, Move, Program, Read, Sync}
use Rattle.fa_machine.specs.declared.places.Booking.{Booking}
use Rattle.fa_machine.specs.declared.places.Version.{Version}
use Rattle.fa_core_tables.specs.Dies.{by_die}
use Rattle.fa_core_read.proofs.Exchanged.{among_all}
use Rattle.fa_core_read.proofs.Newly.{among_one, is_placed_in, one_among}
use Rattle.fa_core_read.proofs.Opening.{opened_inserted, remove_inserted, remove_none}
use Rattle.fa_core_state.specs.Fitted.{IsFitted}
use Rattle.fa_core_state.specs.Tracked.{AreTracked, unstarted}
use Rattle.fa_core_state.specs.declared.state.State.{State}
use Rattle.fa_types.specs.declared.numbers.Page.{Page}
use Rattle.fa_types.specs.declared.numbers.Slot.{Slot}
use Rattle.std.proofs.Common.{Bool, List, None, Option, Some, [], ap, arith, eq-eqb, false, inl, inr, map, refl, subst, sym, true, ℕ}
use Rattle.std.proofs.Common.{◌<◌, ◌≤◌, ◌∙◌, ◌≡◌}
use Rattle.std.proofs.lemmas.Bool.{cases_Bool, eqb-true, false_from_ne_true, false≢true}
use Rattle.std.proofs.lemmas.List.{length-map}
use Rattle.std.proofs.lemmas.List.Elements.{All-from_recursion, recursion_from_All}
use Rattle.std.proofs.lemmas.Cmp.{tied_itself}
use Rattle.std.specs.Cmp.{nat_cmp_total}
use Rattle.std.specs.FinMap.{FinMap, contains_key, empty, get, insert, remove, values}
use Rattle.std.specs.List.{All, list_any}
use Rattle.std.specs.Ordering.{nat_cmp}
use Rattle.std.specs.Prelude.{is_some, length, not, unwrap_or, ◌==◌, ◌||◌}

apart : (a b : ℕ) → (a ≡ b → ⊥) → (a == b) ≡ false
apart a b differ = false_from_ne_true (a == b) (λ same. differ (eqb-true a b same))

module _ {A : Type 0} (before after : Batches A) (bookings : FinMap place_cmp Booking) (jobs : FinMap nat_cmp Flight)
    (tracked : AreTracked bookings jobs before) (batch : ℕ)
    (others : (b p : ℕ) → (b == batch) ≡ false → state_of after b p ≡ state_of before b p)
    (nothing : (p : ℕ) → is_placed_in (state_of after batch p) ≡ false)
    (unbooked : (d r p : ℕ) → get bookings (d, r) ≡ Some (unstarted batch p) → ⊥)
    (reads : (die : ℕ) (b : BatchId) (page : Page) (version : Version) (slot : Slot) → get jobs die ≡ Some (Read b page version slot)
    → contains_key (batches_of after) b.0 ≡ true → ((b.0 == batch) ≡ false) × (contains_key (batches_of before) b.0 ≡ true))
    (later : next_of before ≤ next_of after) where
  booked_other : (d r b p : ℕ) → get bookings (d, r) ≡ Some (unstarted b p) → (b == batch) ≡ false
  booked_other d r b p is =
      apart b batch (λ same. unbooked d r p (is ∙ ap (λ n. Some (unstarted n p)) same))

  placed_other : (b p : ℕ) → is_placed_in (state_of after b p) ≡ true → (b == batch) ≡ false
  placed_other b p is =
      apart b batch (λ same. false≢true (sym (nothing p) ∙ ap (λ n. is_placed_in (state_of after n p)) (sym same) ∙ is))

  pub tracked_others : AreTracked bookings jobs after
  tracked_others = record {
    booked = λ d r b p is. others b p (booked_other d r b p is) ∙ tracked.booked d r b p is;
    known = λ b p die round is. tracked.known b p die round (sym (others b p (placed_other b p (ap is_placed_in is))) ∙ is);
    flying = λ die b p version slot is there.
        let other = reads die b p version slot is there in
        others b.0 p.0 other.0 ∙ tracked.flying die b p version slot is other.1;
    reading = λ b p die is. tracked.reading b p die (sym (others b p (placed_other b p (ap is_placed_in is))) ∙ is);
    older_booked = λ d r b is. let older = tracked.older_booked d r b is in omega (arith, older, later);
    older_read = λ die b p version slot is. let older = tracked.older_read die b p version slot is in omega (arith, older, later);
  }

-- where all stands as before
module _ {A : Type 0} (before after : Batches A) (bookings : FinMap place_cmp Booking) (jobs : FinMap nat_cmp Flight)
    (tracked : AreTracked bookings jobs before)
    (states : (b p : ℕ) → state_of after b p ≡ state_of before b p)
    (batches : batches_of after ≡ batches_of before)
    (later : next_of before ≤ next_of after) where
  pub tracked_again : AreTracked bookings jobs after
  tracked_again = record {
    booked = λ d r b p is. states b p ∙ tracked.booked d r b p is;
    known = λ b p die round is. tracked.known b p die round (sym (states b p) ∙ is);
    flying = λ die b p version slot is there.
        states b.0 p.0 ∙ tracked.flying die b p version slot is (ap (λ m. contains_key m b.0) (sym batches) ∙ there);
    reading = λ b p die is. tracked.reading b p die (sym (states b p) ∙ is);
    older_booked = λ d r b is. let older = tracked.older_booked d r b is in omega (arith, older, later);
    older_read = λ die b p version slot is. let older = tracked.older_read die b p version slot is in omega (arith, older, later);
  }

-- no booking and no read names a batch that is not older than the next one
module _ {A : Type 0} (batches : Batches A) (bookings : FinMap place_cmp Booking) (jobs : FinMap nat_cmp Flight)
    (tracked : AreTracked bookings jobs batches) where
  pub none_booked : (d r p : ℕ) → get bookings (d, r) ≡ Some (unstarted (next_of batches) p) → ⊥
  none_booked d r p is = let older = tracked.older_booked d r (unstarted (next_of batches) p) is in omega (arith, older)

  pub none_read : (die : ℕ) (b : BatchId) (page : Page) (version : Version) (slot : Slot) → get jobs die ≡ Some (Read b page version slot)
      → (b.0 == next_of batches) ≡ false
  none_read die b page version slot is =
      let older = tracked.older_read die b page version slot is in apart b.0 (next_of batches) (λ same. omega (arith, older, same))

  not_named : (flight : Flight) (die : ℕ) → get jobs die ≡ Some flight → names_batch (next_of batches) flight ≡ false
  not_named (Read b page version slot) die is = none_read die b page version slot is
  not_named (Header epoch live) die is = refl
  not_named (Move page version from to) die is = refl
  not_named (Erase block) die is = refl
  not_named (Program page version slot) die is = refl
  not_named (Sync flushes) die is = refl

  none_of : (x y z : Bool) → x ≡ false → y ≡ false → z ≡ false → not (x || y || z) ≡ true
  none_of x y z a b c = λ i. not (a i || b i || c i)

  pub next_fresh : (core : Core) → core.calendar.bookings ≡ bookings → core.jobs ≡ jobs → core.batches ≡ batches_of batches
      → contains_key (batches_of batches) (next_of batches) ≡ false → is_fresh core (next_of batches) ≡ true
  next_fresh core same_bookings same_jobs same_batches new =
      none_of _ _ _ (ap (λ m. contains_key m (next_of batches)) same_batches ∙ new)
      (ap (λ m. list_any (λ b. b.batch.0 == next_of batches) (values m)) same_bookings ∙ false_from_ne_true _ (λ some.
      let found = some_value place_cmp_total place_same place_itself (λ (b : Booking). b.batch.0 == next_of batches) bookings some in
      let older = tracked.older_booked found.0.0 found.0.1 found.1 found.2 in
      let same = eqb-true found.1.batch.0 (next_of batches) found.3 in
      omega (arith, older, same)))
      (ap (λ m. list_any (names_batch (next_of batches)) (values m)) same_jobs ∙ false_from_ne_true _ (λ some.
      let found = some_value nat_cmp_total nat_same (tied_itself nat_cmp_total) (names_batch (next_of batches)) jobs some in
      false≢true (sym (not_named found.1 found.0 found.2) ∙ found.3)))

-- pages are of the array
abbrev pub AreInside : ℕ → List ℕ → Type 0
AreInside bound pages = (page : ℕ) → is_one_of pages page ≡ true → page < bound

-- a state with other batches
module _ {M A : Type 0} (view : M → MapState) (state : State M A) (fitted : IsFitted view state) (after : Batches A) where
  pub fitted_with : bytes_of after ≡ bytes_of state.batches → AreTracked (calendar_of state.bookings).bookings (by_die state.jobs) after
      → ((batch : ℕ) → AreInside (view state.page_map).geometry.pages (opened (batches_of after) batch).pages)
      → ((batch : ℕ) → length (opened (batches_of after) batch).pages ≤ 1024)
      → IsFitted view (record state { batches = after })
  fitted_with bytes tracked listed few = record {
    behind = fitted.behind;
    spares = fitted.spares;
    stepped = fitted.stepped;
    waiting = fitted.waiting;
    jobs = fitted.jobs;
    asked = fitted.asked;
    synced = fitted.synced;
    last = fitted.last;
    epoch = fitted.epoch;
    flushes = fitted.flushes;
    round = fitted.round;
    buffers = bytes ∙ fitted.buffers;
    tracked = tracked;
    listed = listed;
    few = few;
    inside = fitted.inside;
  }

opened_other : (m n : FinMap nat_cmp OpenBatch) (b : ℕ) → get m b ≡ get n b → opened m b ≡ opened n b
opened_other m n b same = ap (λ o. unwrap_or o (record { pages = []; answers = empty })) same

opened_none : (m : FinMap nat_cmp OpenBatch) (b : ℕ) → get m b ≡ None → opened m b ≡ record { pages = []; answers = empty }
opened_none m b none = ap (λ o. unwrap_or o (record { pages = []; answers = empty })) none

-- what holds of the pages of each batch, where one is new or gone
module _ (P : List ℕ → Type 0) (batches : FinMap nat_cmp OpenBatch) (batch : ℕ) (each : (b : ℕ) → P (opened batches b).pages) where
  pub each_inserted : (x : OpenBatch) → P x.pages → (b : ℕ) → P (opened (insert batches batch x) b).pages
  each_inserted x is b = elim (cases_Bool (b == batch)) [
    | inl same ↦
        subst (λ (o : OpenBatch). P o.pages) (sym (ap (opened (insert batches batch x)) (eqb-true b batch same)
        ∙ opened_inserted batches batch x)) is
    | inr other ↦
        subst (λ (o : OpenBatch). P o.pages) (sym (opened_other (insert batches batch x) batches b
        (get-insert_other batches batch x b (λ same. false≢true (sym other ∙ eq-eqb b batch same))))) (each b)
  ]

  pub each_removed : P [] → (b : ℕ) → P (opened (remove batches batch) b).pages
  each_removed none b = elim (cases_Bool (b == batch)) [
    | inl same ↦
        subst (λ (o : OpenBatch). P o.pages)
        (sym (ap (opened (remove batches batch)) (eqb-true b batch same) ∙ opened_none (remove batches batch) batch (get-remove_same batches
        batch))) none
    | inr other ↦
        subst (λ (o : OpenBatch). P o.pages) (sym (opened_other (remove batches batch) batches b
        (get-remove_other batches batch b (λ same. false≢true (sym other ∙ eq-eqb b batch same))))) (each b)
  ]

pub listed_inside : (bound : ℕ) (pages : List Page) → All (λ (page : Page). page.0 < bound) pages
    → AreInside bound (map (λ (page : Page). page.0) pages)
listed_inside bound pages low page one =
    let found = among-map (λ (page : Page). page.0) page pages (one_among (map (λ (page : Page). page.0) pages) page one) in
    subst (λ n. n < bound) found.2 (among_all (λ (page : Page). page.0 < bound) pages (recursion_from_All _ pages low) found.0 found.1)

-- so are those of a list whose pages are
pub pages_inside : (bound : ℕ) (pages : List Page) → AreInside bound (map (λ (page : Page). page.0) pages)
    → All (λ (page : Page). page.0 < bound) pages
pages_inside bound pages low =
    All-from_recursion (λ (page : Page). page.0 < bound) pages (all_from_among (λ (page : Page). page.0 < bound) pages (λ page among.
    low page.0 (among_one (map (λ (page : Page). page.0) pages) page.0 (among-map-intro (λ (page : Page). page.0) page pages among))))

pub listed_few : (pages : List Page) → length pages ≤ 1024 → length (map (λ (page : Page). page.0) pages) ≤ 1024
listed_few pages few = subst (λ n. n ≤ 1024) (sym (length-map pages (λ (page : Page). page.0))) few

-- what is open still once a batch is ended
pub open_still : (batches : FinMap nat_cmp OpenBatch) (batch b : ℕ) → contains_key (remove batches batch) b ≡ true
    → ((b == batch) ≡ false) × (contains_key batches b ≡ true)
open_still batches batch b there =
    let other = apart b batch (λ same. false≢true (sym (ap is_some (ap (get (remove batches batch)) same ∙ get-remove_same batches batch))
    ∙ there)) in
    (other, ap is_some (sym (get-remove_other batches batch b (λ same. false≢true (sym other ∙ eq-eqb b batch same)))) ∙ there)

-- a batch of a fresh number, opened and ended
pub gone_again : (core : Core) (batch : ℕ) (x : OpenBatch) → is_fresh core batch ≡ true → remove (insert core.batches batch x) batch
    ≡ core.batches
gone_again core batch x fresh =
    remove_inserted core.batches batch x ∙ remove_none core.batches batch (none_of_get (get core.batches batch) (first _ _ _ fresh))
  where
    first : (a b c : Bool) → not (a || b || c) ≡ true → a ≡ false
    first true b c is = absurd (false≢true is)
    first false b c is = refl

    none_of_get : (o : Option OpenBatch) → is_some o ≡ false → o ≡ None
    none_of_get None is = refl
    none_of_get (Some b) is = absurd (false≢true (sym is))
