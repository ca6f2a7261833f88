-- Admission, planning anew and the end of a batch, of states that are told by lists.
use Rattle.fa_batch_terms.specs.Batch.{Entry}
use Rattle.fa_batch_terms.specs.Certificate.{IsCertificate}
use Rattle.fa_batch_terms.specs.Plan.{AreFirstRounds}
use Rattle.fa_batch_terms.specs.declared.place.Place.{Place}
use Rattle.fa_laws.proofs.Listed.{empty_listed, insert_listed, inserts_listed, keep_listed, remove_listed}
use Rattle.fa_machine.proofs.Maps.{nat_same, place_cmp_total, place_same}
use Rattle.fa_laws.proofs.Table.{Ordered, Table, core_of, in_order, is_ordered}
use Rattle.fa_laws.proofs.Tabled.{at, at_number, with_number, without_number}
use Rattle.fa_machine.specs.Copies.{copy_on, holders, holds_last, is_lost}
use Rattle.fa_machine.specs.Maps.{below, insert_all, place_cmp}
use Rattle.fa_machine.specs.Reading.{Planned, Plans, answered, at_once, booked, entries_for, has_data}
use Rattle.fa_machine.specs.Reading.{is_booked, is_late, is_read_for, left_of, names_batch, released, results, to_read}
use Rattle.fa_laws.proofs.Rounds.{places_rounds, rounds_or, taken_rounds}
use Rattle.fa_machine.specs.Rounds.{is_closed, is_taken_with}
use Rattle.fa_types.specs.Windows.{is_in_window, window_rounds}
use Rattle.fa_machine.specs.Run.{HappensEvent}
use Rattle.fa_machine.specs.State.{CalendarState, Core, MapState, dies_of, slots_of, OpenBatch}
use Rattle.fa_machine.specs.Step.{Admit, EndBatch, Replan, allowed}
use Rattle.fa_machine.specs.World.{Told, World, plain_page, with_value, with_value_at}
use Rattle.fa_machine.specs.declared.answers.ReadState.{ReadState}
use Rattle.fa_machine.specs.declared.answers.ReadState.TheVariants.{Ready, Torn, Waiting}
use Rattle.fa_machine.specs.declared.ids.BatchId.{BatchId}
use Rattle.fa_machine.specs.declared.places.Booking.{Booking}
use Rattle.fa_machine.specs.declared.places.Version.{Version}
use Rattle.fa_types.specs.declared.window.Window.{Window as WindowOf}
use Rattle.fa_types.specs.Open.{max_closed, rounds_that}
use Rattle.fa_types.specs.declared.geometry.Geometry.{Geometry}
use Rattle.fa_types.specs.declared.numbers.Page.{Page}
use Rattle.std.proofs.Common.{Bool, List, None, Option, Some, [], ap, arith, cond, false, length, map, not, refl, subst, suc, sym, true, ℕ, ◌+◌, ◌++◌, ◌∙◌, ◌∷◌, ◌≡◌, ◌≤◌}
use Rattle.std.proofs.lemmas.Bool.{and_parts, leb-true}
use Rattle.std.specs.Cmp.{nat_cmp_total}
use Rattle.std.specs.FinMap.{empty, entries-from_sorted, find as find_entry, from_sorted, get, get-from_sorted, insert, is_sorted, put, values}
use Rattle.std.specs.List.{fold, list_all, list_any}
use Rattle.std.specs.Ordering.{eq_by_cmp, nat_cmp}
use Rattle.std.specs.Prelude.{T, filter, filter_map, find, if◌then◌else◌, is_some, nat_le, option_map, replicate, unwrap_or, Ok, ◌&&◌, ◌||◌, ◌*◌, ◌==◌}

-- no window has more than 64 rounds that have not passed
abbrev pub are_short : ℕ → List (ℕ × WindowOf) → Bool
are_short round windows = list_all (λ e. nat_le (window_rounds round (Some e.1)) 64) windows

short_window : (round die : ℕ) (windows : List (ℕ × WindowOf)) → are_short round windows ≡ true → window_rounds round (at_number die windows) ≤ 64
short_window round die [] e = omega arith
short_window round die (x ∷ xs) e =
    let parts = and_parts (nat_le (window_rounds round (Some x.1)) 64) (are_short round xs) e in
    branch (eq_by_cmp nat_cmp die x.0) (leb-true (window_rounds round (Some x.1)) 64 parts.0) (short_window round die xs parts.1)
  where
    branch : (b : Bool) → window_rounds round (Some x.1) ≤ 64 → window_rounds round (at_number die xs) ≤ 64
        → window_rounds round (cond b (Some x.1) (at_number die xs)) ≤ 64
    branch true here rest = here
    branch false here rest = rest

module _ (g : Geometry) where
  -- the slot of the copy of a page on a die, and the dies that hold a page
  abbrev pub copy_in : Table → ℕ → ℕ → Option ℕ
  copy_in t page die = find (λ slot. is_some (at_number die t.live) && holds_last page (at_number page t.versions) (find_entry place_cmp (die, slot) t.used))
      (below (g.blocks * g.slots))

  abbrev pub holders_in : Table → ℕ → List ℕ
  holders_in t page = filter (λ die. is_some (copy_in t page die)) (below g.dies)

  abbrev pub lost_in : Table → ℕ → Bool
  lost_in t page = is_some (at_number page t.versions) && length (holders_in t page) == 0

  abbrev pub entries_in : Table → List ℕ → List Entry
  entries_in t pages = map (λ page. record { page = record { 0 = page }; holders = map (λ die. record { 0 = die }) (holders_in t page) }) pages

  -- the closed rounds, where these are booked
  abbrev pub closed_in : Table → List ((ℕ × ℕ) × Booking) → ℕ → ℕ → Bool
  closed_in t bookings die round =
      not (is_some (at_number die t.live)) || (is_some (find_entry place_cmp (die, round) bookings) || is_in_window (at_number die t.windows) round)

  abbrev pub read_in : Table → List ℕ → List ℕ
  read_in t pages = filter (λ page. has_data (at_number page t.versions)) pages

  abbrev pub zeros_in : Table → List ℕ → List ℕ
  zeros_in t pages = filter (λ page. not (has_data (at_number page t.versions))) pages

  module _ (t : Table) (o : Ordered t) where
    abbrev m : MapState
    m = (core_of g t).page_map

    pub copies_same : (page die : ℕ) → copy_on m page die ≡ copy_in t page die
    copies_same page die = λ i. find (λ slot. is_some (get-from_sorted nat_cmp t.live die o.live i)
        && holds_last page (get-from_sorted nat_cmp t.versions page o.versions i) (get-from_sorted place_cmp t.used (die, slot) o.used i)) (slots_of m)

    pub holders_same : (page : ℕ) → holders m page ≡ holders_in t page
    holders_same page = λ i. filter (λ die. is_some (copies_same page die i)) (dies_of m)

    lost_same : (page : ℕ) → is_lost m page ≡ lost_in t page
    lost_same page = λ i. is_some (get-from_sorted nat_cmp t.versions page o.versions i) && length (holders_same page i) == 0

    entries_same : (pages : List ℕ) → entries_for m pages ≡ entries_in t pages
    entries_same pages = λ i. map (λ page. record { page = record { 0 = page }; holders = map (λ die. record { 0 = die }) (holders_same page i) }) pages

    pub closed_same : (bookings : List ((ℕ × ℕ) × Booking)) → T (is_sorted place_cmp bookings)
        → is_closed m (record ((core_of g t).calendar) { bookings = from_sorted bookings }) ≡ closed_in t bookings
    closed_same bookings ordered = λ i die round. not (is_some (get-from_sorted nat_cmp t.live die o.live i))
        || (is_some (get-from_sorted place_cmp bookings (die, round) ordered i) || is_in_window (get-from_sorted nat_cmp t.windows die o.windows i) round)

    pub read_same : (pages : List ℕ) → to_read m pages ≡ read_in t pages
    read_same pages = λ i. filter (λ page. has_data (get-from_sorted nat_cmp t.versions page o.versions i)) pages

    pub zeros_same : (pages : List ℕ) → at_once m pages ≡ zeros_in t pages
    zeros_same pages = λ i. filter (λ page. not (has_data (get-from_sorted nat_cmp t.versions page o.versions i))) pages

    pub certified : (bookings : List ((ℕ × ℕ) × Booking)) → T (is_sorted place_cmp bookings) → (pages : List ℕ) (rounds : ℕ) (places : List Place)
        (shortage : List Page) → IsCertificate (entries_in t pages) t.round (closed_in t bookings) rounds places shortage
        → IsCertificate (entries_for m pages) t.round (is_closed m (record ((core_of g t).calendar) { bookings = from_sorted bookings }))
        rounds places shortage
    certified bookings ordered pages rounds places shortage certificate =
        subst (λ (x : List Entry × (ℕ → ℕ → Bool)). IsCertificate x.0 t.round x.1 rounds places shortage)
        (sym (λ i. (entries_same pages i, closed_same bookings ordered i))) certificate

    -- what planning owes, told over the lists
    pub plans_in : (bookings : List ((ℕ × ℕ) × Booking)) → T (is_sorted place_cmp bookings) → (asked pages : List ℕ) (planned : Planned)
        → find (lost_in t) asked ≡ None → is_late (core_of g t).calendar ≡ false
        → IsCertificate (entries_in t pages) t.round (closed_in t bookings) planned.rounds planned.places planned.shortage
        → AreFirstRounds t.round (closed_in t bookings) planned.places
        → are_short t.round t.windows ≡ true → nat_le (length bookings + length planned.places + 64) max_closed ≡ true
        → Plans m (record ((core_of g t).calendar) { bookings = from_sorted bookings }) asked pages (Ok planned)
    plans_in bookings ordered asked pages planned found early certificate first short few = (
      (λ i. find (λ page. lost_same page i) asked) ∙ found,
      early,
      record {
        certificate = certified bookings ordered pages planned.rounds planned.places planned.shortage certificate;
        first = subst (λ (closed : ℕ → ℕ → Bool). AreFirstRounds t.round closed planned.places) (sym (closed_same bookings ordered)) first;
      },
      (λ die n.
          let same : rounds_that (is_taken_with (record ((core_of g t).calendar) { bookings = from_sorted bookings }) planned.places die) t.round n
          ≡ rounds_that (λ r. (is_some (find_entry place_cmp (die, r) bookings) || is_in_window (at_number die t.windows) r)
          || list_any (λ (x : Place). x.die.0 == die && x.round.0 == r) planned.places) t.round n =
          λ i. rounds_that (λ r. (is_some (get-from_sorted place_cmp bookings (die, r) ordered i) || is_in_window (get-from_sorted nat_cmp t.windows die o.windows i) r)
          || list_any (λ (x : Place). x.die.0 == die && x.round.0 == r) planned.places) t.round n in
          let parts = rounds_or (λ r. is_some (find_entry place_cmp (die, r) bookings) || is_in_window (at_number die t.windows) r)
          (λ r. list_any (λ (x : Place). x.die.0 == die && x.round.0 == r) planned.places) t.round n in
          let a = taken_rounds bookings (at_number die t.windows) die t.round n in
          let b = places_rounds planned.places die t.round n in
          let w = short_window t.round die t.windows short in
          let f = leb-true _ _ few in
          omega (arith, same, parts, a, b, w, f)),
    )

  abbrev pub booked_in : BatchId → List Place → List ((ℕ × ℕ) × Booking) → List ((ℕ × ℕ) × Booking)
  booked_in batch places bookings =
      fold (λ es x. put place_cmp (x.die.0, x.round.0) (record { batch = batch; page = x.page; started = false }) es) bookings places

  abbrev pub released_in : ℕ → List ((ℕ × ℕ) × Booking) → List ((ℕ × ℕ) × Booking)
  released_in batch bookings = filter (λ e. e.1.started || not (e.1.batch.0 == batch)) bookings

  abbrev pub zero_page : List ℕ
  zero_page = replicate g.page_bytes 0

  abbrev pub admitted_in : BatchId → Planned → List ℕ → Table → Table
  admitted_in batch planned pages t = record t {
    bookings = booked_in batch planned.places t.bookings;
    batches = with_number batch.0
        (record { pages = pages; answers = from_sorted (fold (λ es page. with_number page zero_page es) [] (zeros_in t pages)) }) t.batches;
  }

  abbrev pub told_in : Table → List ℕ → List Told
  told_in t pages = filter_map (λ page. option_map {T = Version} (λ v. record { page = page; seq = v.seq.0; bytes = zero_page }) (at_number page t.versions))
      (zeros_in t pages)

  -- what the world keeps beside the state, as a batch is admitted
  abbrev pub admits_beside : ℕ → List ℕ → Table → World → World
  admits_beside batch pages t v = record v {
    values = fold (λ values page. with_value_at batch page (record { bytes = plain_page v page; since = v.moment }) values) v.values (zeros_in t pages);
    told = v.told ++ told_in t pages;
    admitted = with_value batch v.moment v.admitted;
    moment = suc v.moment;
  }

  abbrev pub fresh_in : Table → ℕ → Bool
  fresh_in t batch = not (is_some (at_number batch t.batches) || list_any (λ (b : Booking). b.batch.0 == batch) (map (λ e. e.1) t.bookings)
      || list_any (names_batch batch) (map (λ e. e.1) t.jobs))

  booked_same : (t : Table) (batch : BatchId) (places : List Place) (bookings : List ((ℕ × ℕ) × Booking)) → T (is_sorted place_cmp bookings)
      → booked batch places (record ((core_of g t).calendar) { bookings = from_sorted bookings })
      ≡ record ((core_of g t).calendar) { bookings = from_sorted (booked_in batch places bookings) }
  booked_same t batch places bookings ordered = λ i. record ((core_of g t).calendar) {
    bookings = inserts_listed place_cmp_total place_same (λ (x : Place). (x.die.0, x.round.0)) (λ x. record { batch = batch; page = x.page; started = false })
        places bookings ordered i;
  }

  answers_same : (t : Table) (o : Ordered t) (pages : List ℕ)
      → insert_all {R = nat_cmp} (at_once (core_of g t).page_map pages) zero_page empty
      ≡ from_sorted (fold (λ es page. with_number page zero_page es) [] (zeros_in t pages))
  answers_same t o pages =
      (λ i. insert_all (zeros_same t o pages i) zero_page (sym (empty_listed nat_cmp_total nat_same) i))
      ∙ inserts_listed nat_cmp_total nat_same (λ (page : ℕ). page) (λ page. zero_page) (zeros_in t pages) [] tt

  pub admits : (t : Table) (v : World) (pages : List ℕ) (batch : BatchId) (planned : Planned) → T (is_ordered t)
      → allowed (core_of g t) (Admit pages (Ok (record { batch = batch; planned = planned }))) ≡ true
      → find (lost_in t) pages ≡ None → is_late (core_of g t).calendar ≡ false
      → IsCertificate (entries_in t (read_in t pages)) t.round (closed_in t t.bookings) planned.rounds planned.places planned.shortage
      → AreFirstRounds t.round (closed_in t t.bookings) planned.places
      → are_short t.round t.windows ≡ true → nat_le (length t.bookings + length planned.places + 64) max_closed ≡ true → fresh_in t batch.0 ≡ true
      → HappensEvent (at g t v) (Admit pages (Ok (record { batch = batch; planned = planned })))
      (at g (admitted_in batch planned pages t) (admits_beside batch.0 pages t v))
  admits t v pages batch planned ordered may found early certificate first none few fresh =
      let o = in_order t ordered in
      let core : Core = core_of g t in
      record {
        step = record {
          allows = may;
          does = (
            subst (λ (ps : List ℕ). Plans core.page_map core.calendar pages ps (Ok planned)) (sym (read_same t o pages))
                (plans_in t o t.bookings o.bookings pages (read_in t pages) planned found early certificate first none few),
            (λ i. not (is_some (get-from_sorted nat_cmp t.batches batch.0 o.batches i)
                || list_any (λ (b : Booking). b.batch.0 == batch.0) (map (λ e. e.1) (entries-from_sorted place_cmp t.bookings o.bookings i))
                || list_any (names_batch batch.0) (map (λ e. e.1) (entries-from_sorted nat_cmp t.jobs o.jobs i)))) ∙ fresh,
            (λ i. record core {
              calendar = sym (booked_same t batch planned.places t.bookings o.bookings) i;
              batches = sym (insert_listed nat_cmp_total nat_same t.batches batch.0 (record {
                pages = pages;
                answers = from_sorted (fold (λ es page. with_number page zero_page es) [] (zeros_in t pages));
              }) o.batches) i;
            }) ∙ (λ i. record core {
              calendar = booked batch planned.places core.calendar;
              batches = insert core.batches batch.0 (record { pages = pages; answers = sym (answers_same t o pages) i });
            }),
          );
        };
        told = tt;
        follows = λ i. record v {
          core = core_of g (admitted_in batch planned pages t);
          values = fold (λ values page. with_value_at batch.0 page (record { bytes = plain_page v page; since = v.moment }) values) v.values (sym (zeros_same t o pages) i);
          told = v.told ++ filter_map (λ page. option_map {T = Version} (λ (x : Version). record { page = page; seq = x.seq.0; bytes = zero_page })
              (sym (get-from_sorted nat_cmp t.versions page o.versions) i)) (sym (zeros_same t o pages) i);
          admitted = with_value batch.0 v.moment v.admitted;
          moment = suc v.moment;
        };
      }

  -- what is left of a batch with these pages and answers
  abbrev pub left_in : Table → ℕ → List ℕ → List (ℕ × List ℕ) → List ℕ
  left_in t batch pages answers =
      filter (λ page. not (is_some (at_number page answers) || list_any (is_read_for batch page) (map (λ e. e.1) t.jobs))) pages

  -- what a batch that is not open is looked at as
  abbrev nothing : OpenBatch
  nothing = record { pages = []; answers = empty }

  abbrev pub booked_read : Table → ℕ → ℕ → Bool
  booked_read t batch page =
      list_any (λ (b : Booking). b.batch.0 == batch && b.page.0 == page && not b.started) (map (λ e. e.1) t.bookings)

  abbrev pub results_in : Table → ℕ → List ℕ → List (ℕ × List ℕ) → ReadState
  results_in t batch pages answers =
      if list_any (λ page. not (booked_read t batch page)) (left_in t batch pages answers) then Torn
      else (if list_all (λ page. is_some (at_number page answers)) pages then Ready else Waiting)

  abbrev pub answered_in : List ℕ → List (ℕ × List ℕ) → List (ℕ × List ℕ)
  answered_in pages answers = filter_map (λ page. option_map (λ bytes. (page, bytes)) (at_number page answers)) pages

  abbrev pub replanned_in : ℕ → Planned → Table → Table
  replanned_in batch planned t = record t { bookings = booked_in (record { 0 = batch }) planned.places (released_in batch t.bookings) }

  abbrev pub batch_ended : ℕ → Table → Table
  batch_ended batch t = record t { bookings = released_in batch t.bookings; batches = without_number batch t.batches }

  module _ (t : Table) (o : Ordered t) (batch : ℕ) (pages : List ℕ) (answers : List (ℕ × List ℕ)) (sorted : T (is_sorted nat_cmp answers))
      (there : at_number batch t.batches ≡ Some (record { pages = pages; answers = from_sorted answers })) where
    found_batch : get (core_of g t).batches batch ≡ Some (record { pages = pages; answers = from_sorted answers })
    found_batch = get-from_sorted nat_cmp t.batches batch o.batches ∙ there

    left_same : left_of (core_of g t) batch ≡ left_in t batch pages answers
    left_same =
        ap (λ x. let b = unwrap_or x nothing in
        filter (λ page. not (is_some (get b.answers page) || list_any (is_read_for batch page) (values (core_of g t).jobs))) b.pages) found_batch
        ∙ (λ i. filter (λ page. not (is_some (get-from_sorted nat_cmp answers page sorted i)
        || list_any (is_read_for batch page) (map (λ e. e.1) (entries-from_sorted nat_cmp t.jobs o.jobs i)))) pages)

    pub results_same : results (core_of g t) batch ≡ results_in t batch pages answers
    results_same =
        ap (λ x. if not (is_some x) || list_any (λ page. not (is_booked (core_of g t) batch page)) (left_of (core_of g t) batch) then Torn
        else (if list_all (λ page. is_some (get (unwrap_or x nothing).answers page)) (unwrap_or x nothing).pages then Ready else Waiting)) found_batch
        ∙ (λ i. if list_any (λ page. not (list_any (λ (b : Booking). b.batch.0 == batch && b.page.0 == page && not b.started)
        (map (λ e. e.1) (entries-from_sorted place_cmp t.bookings o.bookings i)))) (left_same i) then Torn
        else (if list_all (λ page. is_some (get-from_sorted nat_cmp answers page sorted i)) pages then Ready else Waiting))

    pub released_same : T (is_sorted place_cmp (released_in batch t.bookings))
        → released batch (core_of g t).calendar ≡ record ((core_of g t).calendar) { bookings = from_sorted (released_in batch t.bookings) }
    released_same left = λ i. record ((core_of g t).calendar) {
      bookings = keep_listed place_cmp_total place_same (λ place booking. booking.started || not (booking.batch.0 == batch)) t.bookings o.bookings left i;
    }

    pub replans : (v : World) (planned : Planned) → T (is_sorted place_cmp (released_in batch t.bookings))
        → find (lost_in t) (left_in t batch pages answers) ≡ None → is_late (core_of g t).calendar ≡ false
        → IsCertificate (entries_in t (left_in t batch pages answers)) t.round (closed_in t (released_in batch t.bookings))
        planned.rounds planned.places planned.shortage
        → AreFirstRounds t.round (closed_in t (released_in batch t.bookings)) planned.places
        → are_short t.round t.windows ≡ true → nat_le (length (released_in batch t.bookings) + length planned.places + 64) max_closed ≡ true
        → HappensEvent (at g t v) (Replan batch (Ok planned)) (at g (replanned_in batch planned t) (record v { moment = suc v.moment }))
    replans v planned left found early certificate first none few =
        let core : Core = core_of g t in
        record {
          step = record {
            allows = ap is_some found_batch;
            does = (
              subst (λ (x : CalendarState × List ℕ). Plans core.page_map x.0 x.1 x.1 (Ok planned))
                  (sym (λ i. (released_same left i, left_same i)))
                  (plans_in t o (released_in batch t.bookings) left (left_in t batch pages answers) (left_in t batch pages answers) planned
                  found early certificate first none few),
              (λ i. record core { calendar = sym (booked_same t (record { 0 = batch }) planned.places (released_in batch t.bookings) left) i })
                  ∙ (λ i. record core { calendar = booked (record { 0 = batch }) planned.places (sym (released_same left) i) }),
            );
          };
          told = tt;
          follows = refl;
        }

    pub ends_batch : (v : World) (answer : List (ℕ × List ℕ)) → T (is_sorted place_cmp (released_in batch t.bookings))
        → answer ≡ answered_in pages answers
        → HappensEvent (at g t v) (EndBatch batch answer) (at g (batch_ended batch t) (record v { moment = suc v.moment }))
    ends_batch v answer left is =
        let core : Core = core_of g t in
        record {
          step = record {
            allows = ap is_some found_batch;
            does = (
              is ∙ sym (ap (λ x. answered (unwrap_or x nothing)) found_batch
                  ∙ (λ i. filter_map (λ page. option_map (λ bytes. (page, bytes)) (get-from_sorted nat_cmp answers page sorted i)) pages)),
              (λ i. record core {
                calendar = sym (released_same left) i;
                batches = sym (remove_listed nat_cmp_total nat_same t.batches batch o.batches) i;
              }),
            );
          };
          told = tt;
          follows = refl;
        }
