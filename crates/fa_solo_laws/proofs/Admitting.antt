-- A batch is admitted where none is open: each of its pages is answered or booked, and it takes no more rounds than any plan.
use Rattle.fa_batch_terms.proofs.Counting.{any-from-count}
use Rattle.fa_batch_terms.specs.Batch.{Entry, holds, is_among}
use Rattle.fa_batch_terms.specs.Certificate.{IsCertificate, IsLeast}
use Rattle.fa_batch_terms.specs.Plan.{ArePlaced, IsPlan, pages_at, rounds_of, times_placed}
use Rattle.fa_batch_terms.specs.declared.place.Place.{Place}
use Rattle.fa_laws.proofs.Booked.{booked_kept, booking_of, with_places}
use Rattle.fa_laws.proofs.InTimes.{planned_until}
use Rattle.fa_machine.proofs.Lists.{among-filter, among-filter-intro, among-map, among-map-intro, among_low, counted_none}
use Rattle.fa_machine.proofs.Maps.{get-insert_other, get-insert_same, get-place_same, has_some, if_equal, nat_same}
use Rattle.fa_machine.proofs.Values.{get-insert_all_among}
use Rattle.fa_machine.specs.Among.{Among}
use Rattle.fa_machine.specs.Copies.{holders, holds_page}
use Rattle.fa_machine.specs.Maps.{insert_all, place_cmp}
use Rattle.fa_machine.specs.Reading.{Admitted, IsPlanned, Planned, at_once, entries_for, has_data, to_read, zeros}
use Rattle.fa_machine.specs.Rounds.{is_closed}
use Rattle.fa_machine.specs.State.{CalendarState, Core, MapState, OpenBatch, dies_of, is_live}
use Rattle.fa_machine.specs.Step.{Admit, Step}
use Rattle.fa_machine.specs.declared.ids.BatchId.{BatchId}
use Rattle.fa_machine.specs.declared.places.Booking.{Booking}
use Rattle.fa_machine.specs.declared.places.Version.{Version}
use Rattle.fa_solo_laws.proofs.Changing.{IsFree}
use Rattle.fa_solo_laws.proofs.ClosedRounds.{IsQuiet, Keeps, still_calm}
use Rattle.fa_solo_laws.proofs.Waiting.{IsPlaced, IsRead}
use Rattle.fa_types.specs.Open.{IsOpen}
use Rattle.fa_types.specs.Windows.{is_in_window}
use Rattle.fa_types.specs.declared.numbers.Die.{Die}
use Rattle.fa_types.specs.declared.numbers.Page.{Page}
use Rattle.fa_types.specs.declared.window.Window.{Window}
use Rattle.std.proofs.Common.{Bool, List, None, Option, Some, [], ap, arith, cond, eq-eqb, eqb-true, false, inl, inr, map, not, refl}
use Rattle.std.proofs.Common.{subst, sym, true, ℕ}
use Rattle.std.proofs.Common.{◌+◌, ◌==◌, ◌∙◌, ◌∷◌, ◌<◌, ◌≡◌, ◌≤◌}
use Rattle.std.proofs.lemmas.Bool.{and_from, and_parts, cases_Bool, cases_eq, false_from_ne_true, false≢true, not_from_false, or_cases}
use Rattle.std.proofs.lemmas.Bool.{or_from}
use Rattle.std.proofs.lemmas.Bool.{or_parts, true≢false}
use Rattle.std.proofs.lemmas.List.Elements.{All-from_recursion, recursion_from_All}
use Rattle.std.proofs.lemmas.List.Sums.{sum_by-cons}
use Rattle.std.specs.Cmp.{nat_cmp_total, unsigned_tied}
use Rattle.std.specs.FinMap.{FinMap, contains_key, empty, get, insert}
use Rattle.std.specs.List.{AllByRecursion, list_any}
use Rattle.std.specs.Ordering.{nat_cmp}
use Rattle.std.specs.Prelude.{IsTrue, Ok, count_by, is_some, ◌&&◌}
use Rattle.std.specs.declared.cmp.Ordering.TheVariants.{Equal}

any_found : {X : Type 0} (p : X → Bool) (xs : List X) → list_any p xs ≡ true → (x : X) × Among x xs × (p x ≡ true)
any_found p [] e = absurd (false≢true e)
any_found p (x ∷ xs) e =
    elim (or_cases (p x) (list_any p xs) e) [
      | inl here ↦ (x, inl refl, here)
      | inr later ↦ let found = any_found p xs later in (found.0, inr found.1, found.2)
    ]

each_among : {X : Type 0} (P : X → Type 0) (xs : List X) → AllByRecursion P xs → (x : X) → Among x xs → P x
each_among P [] all x among = absurd among
each_among P (y ∷ ys) all x (inl same) = subst P same all.0
each_among P (y ∷ ys) all x (inr rest) = each_among P ys all.1 x rest

-- of places of which no two are the same each is booked
booked_here : (batch : BatchId) (places : List Place) (bookings : FinMap place_cmp Booking) → ((d r : ℕ) → pages_at places d r ≤ 1) →
    (x : Place)
    → Among x places → get (with_places batch places bookings) (x.die.0, x.round.0) ≡ Some (booking_of batch x)
booked_here batch [] bookings apart x among = absurd among
booked_here batch (y ∷ ys) bookings apart x (inl same) =
    subst (λ (z : Place). get (with_places batch (y ∷ ys) bookings) (z.die.0, z.round.0) ≡ Some (booking_of batch z)) same
    (booked_kept batch ys _ y.die.0 y.round.0 (booking_of batch y) free
    (get-place_same bookings y.die.0 y.round.0 (booking_of batch y)))
  where
    at : Place → Bool
    at z = z.die.0 == y.die.0 && z.round.0 == y.round.0

    free : (z : Place) → Among z ys → z.die.0 ≡ y.die.0 → z.round.0 ≡ y.round.0 → ⊥
    free z among_rest same_die same_round =
        let sum = sum_by-cons {X = Place} (λ z. cond (z.die.0 == y.die.0 && z.round.0 == y.round.0) 1 0) y ys in
        let own : ◌≡◌ {A = ℕ} (cond (y.die.0 == y.die.0 && y.round.0 == y.round.0) 1 0) 1 =
        ap {B = ℕ} (λ b. cond b 1 0) (and_from (y.die.0 == y.die.0) (y.round.0 == y.round.0) (eq-eqb y.die.0 y.die.0 refl)
        (eq-eqb y.round.0 y.round.0 refl)) in
        let few = apart y.die.0 y.round.0 in
        let none : count_by (λ (z : Place). z.die.0 == y.die.0 && z.round.0 == y.round.0) ys ≡ 0 = omega (arith, sum, own, few) in
        false≢true (sym (counted_none (λ (z : Place). z.die.0 == y.die.0 && z.round.0 == y.round.0) ys none z among_rest)
        ∙ and_from (z.die.0 == y.die.0) (z.round.0 == y.round.0) (eq-eqb z.die.0 y.die.0 same_die) (eq-eqb z.round.0 y.round.0 same_round))
booked_here batch (y ∷ ys) bookings apart x (inr rest) =
    booked_here batch ys _ (λ d r. let sum = sum_by-cons {X = Place} (λ z. cond (z.die.0 == d && z.round.0 == r) 1 0) y ys in
    let few = apart d r in omega (arith, sum, few)) x rest

-- a page with its holders, as it is planned
abbrev entry_at : MapState → ℕ → Entry
entry_at m page = record { page = record { 0 = page }; holders = map (λ die. record { 0 = die }) (holders m page) }

-- a page that is planned has a place
placed_some : (m : MapState) (pages : List ℕ) (places : List Place) → ArePlaced (entries_for m pages) places → (page : ℕ) → Among page pages
    → (x : Place) × Among x places × (x.page.0 ≡ page)
placed_some m pages places are page among =
    let among_entry = among-map-intro (entry_at m) page pages among in
    let some = each_among (λ e. 1 ≤ times_placed places e.page.0) (entries_for m pages)
    (recursion_from_All (λ e. 1 ≤ times_placed places e.page.0) (entries_for m pages) are) _ among_entry in
    let found = any_found (λ (x : Place). x.page.0 == page) places (any-from-count (λ (x : Place). x.page.0 == page) places some) in
    (found.0, found.1, eqb-true found.0.page.0 page found.2)

-- a die that holds a page among these is a die of the array with a copy of it
held_copy : (m : MapState) (pages : List ℕ) (page die : ℕ) → holds (entries_for m pages) page die ≡ true
    → (die < m.geometry.dies) × (holds_page m page die ≡ true)
held_copy m pages page die e =
    let entry = any_found (λ (e : Entry). e.page.0 == page && is_among e.holders die) (entries_for m pages) e in
    let made = among-map (entry_at m) entry.0 pages entry.1 in
    let parts = and_parts (entry.0.page.0 == page) (is_among entry.0.holders die) entry.2 in
    let same : ◌≡◌ {A = ℕ} made.0 page = ap (λ (e : Entry). e.page.0) made.2 ∙ eqb-true entry.0.page.0 page parts.0 in
    let among : is_among (map (λ die. record { 0 = die }) (holders m page)) die ≡ true =
    ap (λ (n : ℕ). is_among (entry_at m n).holders die) (sym same) ∙ ap (λ (e : Entry). is_among e.holders die) made.2 ∙ parts.1 in
    let found = any_found (λ (d : Die). d.0 == die) (map (λ die. record { 0 = die }) (holders m page)) among in
    let holder = among-map (λ die. let d : Die = record { 0 = die } in d) found.0 (holders m page) found.1 in
    let is : ◌≡◌ {A = ℕ} holder.0 die = ap (λ (d : Die). d.0) holder.2 ∙ eqb-true found.0.0 die found.2 in
    let kept = among-filter (holds_page m page) holder.0 (dies_of m) holder.1 in
    let low = among_low 0 m.geometry.dies holder.0 kept.0 in
    ((omega (arith, low, is)), ap (holds_page m page) (sym is) ∙ kept.1)

version_of : (o : Option Version) → has_data o ≡ true → (version : Version) × (o ≡ Some version)
version_of None e = absurd (false≢true e)
version_of (Some version) e = (version, refl)

-- each page that has bytes is booked
placed_page : (m : MapState) (calendar : CalendarState) (pages : List ℕ) (planned : Planned) (batch : BatchId)
    → IsPlanned m calendar (to_read m pages) planned → (page : ℕ) → Among page pages → has_data (get m.versions page) ≡ true
    → IsPlaced m (with_places batch planned.places calendar.bookings) batch.0 page
placed_page m calendar pages planned batch is page among bytes =
    let reads = among-filter-intro (λ page. has_data (get m.versions page)) page pages among bytes in
    let plan = is.certificate.plan in
    let at = placed_some m (to_read m pages) planned.places plan.each page reads in
    let holder = each_among (λ (x : Place). IsTrue (holds (entries_for m (to_read m pages)) x.page.0 x.die.0)) planned.places
    (recursion_from_All (λ (x : Place). IsTrue (holds (entries_for m
    (to_read m pages)) x.page.0 x.die.0)) planned.places plan.held) at.0 at.1 in
    let held = held_copy m (to_read m pages) at.0.page.0 at.0.die.0 holder in
    let slot = has_some _ (sym (ap (λ (n : ℕ). holds_page m n at.0.die.0) at.2) ∙ held.1) in
    let version = version_of (get m.versions page) bytes in
    record {
      die = at.0.die.0;
      round = at.0.round.0;
      booking = booking_of batch at.0;
      is = booked_here batch planned.places calendar.bookings plan.apart at.0 at.1;
      of_batch = refl;
      of_page = at.2;
      waits = refl;
      low = held.0;
      version = version.0;
      number = version.1;
      slot = slot.0;
      copy = slot.1;
    }

nat_itself : (n : ℕ) → nat_cmp n n ≡ Equal
nat_itself n = if_equal (nat_cmp n n) (unsigned_tied n n ∙ eq-eqb n n refl)

-- a batch as it is admitted
abbrev new_batch : MapState → List ℕ → OpenBatch
new_batch m pages = record { pages = pages; answers = insert_all (at_once m pages) (zeros m) empty }

-- A batch is admitted where none is open.
admit_here : (copies : ℕ) (old new : Core) (pages : List ℕ) (admitted : Admitted) (in_time : ℕ → Type 0) → IsQuiet old.page_map copies old
    → Step old (Admit pages (Ok admitted)) new → in_time (old.calendar.round + admitted.planned.rounds)
    → IsRead old.page_map copies admitted.batch.0 in_time new
admit_here copies old new pages admitted in_time quiet step low =
    let e = step.does.2 in
    let plan = step.does.0.2 in
    let batch : ℕ = admitted.batch.0 in record {
      map = ap (λ (c : Core). c.page_map) e;
      copies_are = ap (λ (c : Core). c.copies) e ∙ quiet.copies_are;
      free = subst (λ (c : Core). IsFree c) (sym e) quiet.free;
      calm = still_calm old new (ap (λ (c : Core). c.page_map) e)
          (λ die has. sym (ap (λ (c : Core). contains_key c.calendar.windows die) e) ∙ has) quiet.calm;
      until = old.calendar.round + admitted.planned.rounds;
      is_in_time = low;
      good = planned_until old new (Admit pages (Ok admitted)) batch (old.calendar.round + admitted.planned.rounds) step.does step.allows
          quiet.good.timely (refl, refl);
      round = let same = ap (λ (c : Core). c.calendar.round) e in omega (arith, same);
      state = new_batch old.page_map pages;
      is_state = ap (λ (c : Core). get c.batches batch) e ∙ get-insert_same old.batches batch (new_batch old.page_map pages);
      only = λ n has. only n (sym (ap (λ (c : Core). contains_key c.batches n) e) ∙ has);
      covers = λ page among unanswered.
          subst (λ (c : Core). IsPlaced old.page_map c.calendar.bookings batch page) (sym e)
          (placed_page old.page_map old.calendar pages admitted.planned admitted.batch plan page among (data_of page among unanswered));
    }
  where
    only : (n : ℕ) → contains_key (insert old.batches admitted.batch.0 (new_batch old.page_map pages)) n ≡ true → n ≡ admitted.batch.0
    only n has =
        elim (cases_eq n admitted.batch.0) [
          | inl same ↦ same
          | inr apart ↦ absurd (false≢true (sym (ap is_some (get-insert_other old.batches admitted.batch.0
              (new_batch old.page_map pages) n apart ∙ quiet.closed n)) ∙ has))
        ]

    data_of : (page : ℕ) → Among page pages → contains_key (new_batch old.page_map pages).answers page ≡ false → has_data
        (get old.page_map.versions page) ≡ true
    data_of page among unanswered =
        elim (cases_Bool (has_data (get old.page_map.versions page))) [
          | inl has ↦ has
          | inr none ↦ absurd (true≢false (sym (ap is_some (get-insert_all_among nat_cmp_total nat_same (at_once old.page_map pages)
              (zeros old.page_map) empty page
              (nat_itself page)
              (among-filter-intro (λ page. not (has_data (get old.page_map.versions page))) page pages among (not_from_false _ none))))
              ∙ unanswered))
        ]

pub admit_read : (m : MapState) (copies : ℕ) (old new : Core) (pages : List ℕ) (admitted : Admitted) (in_time : ℕ → Type 0)
    → IsQuiet m copies old
    → Step old (Admit pages (Ok admitted)) new → in_time (old.calendar.round + admitted.planned.rounds)
    → IsRead m copies admitted.batch.0 in_time new
admit_read m copies old new pages admitted in_time quiet step low =
    subst (λ (k : MapState). IsRead k copies admitted.batch.0 in_time new) quiet.map
    (admit_here copies old new pages admitted in_time (record {
      map = refl;
      copies_are = quiet.copies_are;
      good = quiet.good;
      free = quiet.free;
      calm = quiet.calm;
      closed = quiet.closed;
    }) step low)

-- what was open stays so
stays_open : (m : MapState) (first core : Core) → Keeps first core → (die round : ℕ) → is_closed m first.calendar die round ≡ false
    → is_closed m core.calendar die round ≡ false
stays_open m first core keeps die round e =
    let parts = or_parts (not (is_live m die)) _ e in
    let inner = or_parts (contains_key first.calendar.bookings (die, round))
    (is_in_window (get first.calendar.windows die) round) parts.1 in
    or_from (not (is_live m die)) _ parts.0
    (or_from (contains_key core.calendar.bookings (die, round)) _
    (false_from_ne_true (contains_key core.calendar.bookings (die, round)) (λ has. false≢true (sym inner.0 ∙ keeps.fewer die round has)))
    (ap (λ (w : FinMap nat_cmp Window). is_in_window (get w die) round) keeps.windows ∙ inner.1))

-- what `certificate_is_least` says
abbrev pub CertificateLaw : Type 0
CertificateLaw = (batch : List Entry) (current : ℕ) (closed : ℕ → ℕ → Bool) (rounds : ℕ) (places : List Place) (pages : List Page)
    → IsCertificate batch current closed rounds places pages → IsLeast batch current closed rounds

-- A plan that is least against a calendar in which no more is booked has no more rounds than any.
pub no_more_rounds : CertificateLaw → (m : MapState) (first core : Core) → core.page_map ≡ m → Keeps first core → (pages : List ℕ)
    (places : List Place) → IsPlan (entries_for m (to_read m pages)) first.calendar.round (is_closed m first.calendar) places
    → (planned : Planned) → IsPlanned core.page_map core.calendar (to_read core.page_map pages) planned
    → planned.rounds ≤ rounds_of first.calendar.round places
no_more_rounds law m first core map keeps pages places old planned plan =
    let here : IsPlanned m core.calendar (to_read m pages) planned =
    subst (λ (k : MapState). IsPlanned k core.calendar (to_read k pages) planned) map plan in
    let batch : List Entry = entries_for m (to_read m pages) in
    let round : ℕ = first.calendar.round in
    let opened : AllByRecursion (λ (x : Place). IsOpen round (is_closed m first.calendar) x.die.0 x.round.0) places =
    recursion_from_All (λ (x : Place). IsOpen round (is_closed m first.calendar) x.die.0 x.round.0) places old.opens in
    let moved : IsPlan batch core.calendar.round (is_closed m core.calendar) places =
    subst (λ (r : ℕ). IsPlan batch r (is_closed m core.calendar) places) (sym keeps.round)
    (record {
      each = old.each;
      once = old.once;
      held = old.held;
      opens = All-from_recursion (λ (x : Place). IsOpen round (is_closed m core.calendar) x.die.0 x.round.0) places (still_open places opened);
      apart = old.apart;
    }) in
    let fewest = (law batch core.calendar.round
    (is_closed m core.calendar) planned.rounds planned.places planned.shortage here.certificate).fewest places moved in
    let same : ◌≡◌ {A = ℕ} (rounds_of core.calendar.round places) (rounds_of first.calendar.round places) =
    ap (λ (r : ℕ). rounds_of r places) keeps.round in
    omega (arith, fewest, same)
  where
    still_open : (places : List Place) → AllByRecursion (λ (x : Place). IsOpen first.calendar.round
        (is_closed m first.calendar) x.die.0 x.round.0) places
        → AllByRecursion (λ (x : Place). IsOpen first.calendar.round (is_closed m core.calendar) x.die.0 x.round.0) places
    still_open [] all = tt
    still_open (x ∷ xs) all =
        ((all.0.0, stays_open m first core keeps x.die.0 x.round.0 all.0.1), still_open xs all.1)
