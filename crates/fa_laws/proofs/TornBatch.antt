-- The batch of eight pages until die 1 is out, worked: each state by its lists.
use Rattle.fa_batch_terms.specs.Batch.{Entry}
use Rattle.fa_batch_terms.specs.Certificate.{AreTheHolders, IsCertificate}
use Rattle.fa_batch_terms.specs.Plan.{AreFirstRounds}
use Rattle.fa_laws.proofs.Certified.{three_holders, worked_first, worked_plan, worked_shortage}
use Rattle.fa_laws.proofs.Listed.{empty_listed}
use Rattle.fa_laws.proofs.Making.{called}
use Rattle.fa_machine.proofs.Maps.{nat_same, place_cmp_total, place_same}
use Rattle.fa_laws.proofs.Planning.{admits, admits_beside, admitted_in, closed_in, copies_same, entries_in, read_in}
use Rattle.fa_laws.proofs.Table.{Table, core_of, in_order}
use Rattle.fa_laws.proofs.Tabled.{advanced, advances, at, did, did_read, dropped, ends_faulty, ends_header, ends_read, fresh, gives_cell, head_done, headed}
use Rattle.fa_laws.proofs.Tabled.{head_taken, read_done, read_taken, refuses_read, takes_header, takes_read, took, writes_header}
use Rattle.fa_laws.specs.EightPages.{cell_in, eight, held_slots, write_of, written_in_turn}
use Rattle.fa_laws.specs.FailingDie.{admission, failure, first_plan}
use Rattle.fa_laws.specs.Telling.{read_of_page}
use Rattle.fa_machine.specs.Cells.{Cell, DidWriteHeader, Fault, Sealed}
use Rattle.fa_machine.specs.Maps.{place_cmp}
use Rattle.fa_machine.specs.Run.{Run}
use Rattle.fa_machine.specs.Taking.{handed}
use Rattle.fa_machine.specs.World.{Accepted, GaveCell, Refused, World}
use Rattle.fa_machine.specs.declared.jobs.Flight.TheVariants.{Header}
use Rattle.fa_types.specs.Geometry.{IsGeometry}
use Rattle.fa_types.specs.declared.geometry.Geometry.{Geometry}
use Rattle.std.proofs.Common.{Bool, List, None, Option, Some, [], ap, cond, eq-eqb, false, length, map, refl, subst, suc, sym, true, ℕ, ◌+◌, ◌∙◌, ◌∷◌, ◌≡◌}
use Rattle.std.specs.Cmp.{nat_cmp_total}
use Rattle.std.specs.FinMap.{find as find_entry, get-from_sorted}
use Rattle.std.specs.Prelude.{is_some, ◌||◌, ◌==◌}
use Rattle.fa_laws.proofs.Planning.{certified, holders_same, results_same}
use Rattle.fa_machine.specs.Copies.{holders}
use Rattle.fa_machine.specs.Reading.{entries_for, results}
use Rattle.fa_machine.specs.Rounds.{is_closed}
use Rattle.fa_machine.specs.State.{is_live}
use Rattle.fa_machine.specs.declared.answers.ReadState.TheVariants.{Torn}
use Rattle.std.specs.Cmp.{unsigned_tied}
use Rattle.std.specs.Ordering.{eq_by_cmp, nat_cmp}

module _ (size : ℕ) (within : IsGeometry 3 0 16 8 size 64) (bytes : ℕ → List ℕ) (sized : (page : ℕ) → length (bytes page) ≡ size) where
  abbrev pub g : Geometry
  g = record { dies = 3; spares = 0; blocks = 16; slots = 8; page_bytes = size; pages = 64; within = within }

  abbrev pub t0 : Table
  t0 = record {
    copies = 2;
    spares = [];
    copying = None;
    commits = 0;
    starts = 0;
    live = (0, tt) ∷ (1, tt) ∷ (2, tt) ∷ [];
    versions = map (λ page. (page, write_of page)) eight;
    used = held_slots;
    round = 1;
    bookings = [];
    windows = [];
    epoch = 1;
    behind = (0, tt) ∷ (1, tt) ∷ (2, tt) ∷ [];
    stepped = [];
    last = 8;
    waiting = [];
    jobs = [];
    claims = [];
    batches = [];
    flushes = 0;
    asked = [];
    synced = [];
    based = map (λ page. (page, page + 1)) eight;
    history = [];
  }

  abbrev pub v0 : World
  v0 = written_in_turn g bytes

  -- a map with no entry is the empty one
  pub as_listed : v0 ≡ at g t0 v0
  as_listed = λ i. record v0 {
    core = record (core_of g t0) {
      calendar = record ((core_of g t0).calendar) {
        bookings = sym (empty_listed place_cmp_total place_same) i;
        windows = sym (empty_listed nat_cmp_total nat_same) i;
      };
      stepped = sym (empty_listed nat_cmp_total nat_same) i;
      spares = sym (empty_listed nat_cmp_total nat_same) i;
      jobs = sym (empty_listed nat_cmp_total nat_same) i;
      claims = sym (empty_listed nat_cmp_total nat_same) i;
      batches = sym (empty_listed nat_cmp_total nat_same) i;
      asked = sym (empty_listed nat_cmp_total nat_same) i;
      synced = sym (empty_listed nat_cmp_total nat_same) i;
    };
  }

  -- what stands in the slot of a page, and that its image has it
  abbrev pub cell : ℕ → ℕ → ℕ → Cell
  cell die page slot = Sealed page (write_of page) die slot (bytes page)

  pub there : (die slot : ℕ) → cell_in bytes die slot (find_entry place_cmp (die, slot) held_slots) ≡ (v0.images die).seen slot
  there die slot = ap (cell_in bytes die slot) (sym (get-from_sorted place_cmp held_slots (die, slot) tt))

  pub right : (page : ℕ) → (length (bytes page) == size) ≡ true
  right page = eq-eqb _ _ (sized page)

  abbrev pub answers_of : List ℕ → List (ℕ × List ℕ)
  answers_of pages = map (λ page. (page, bytes page)) pages

  abbrev first_entries : List Entry
  first_entries = entries_in g t0 (read_in g t0 eight)

  first_holders : AreTheHolders first_entries first_plan.shortage (0 ∷ 1 ∷ 2 ∷ [])
  first_holders = three_holders first_entries first_plan.shortage (0 ∷ 1 ∷ 2 ∷ []) refl refl refl refl refl

  pub first_certificate : IsCertificate first_entries 1 (closed_in g t0 []) 3 first_plan.places first_plan.shortage
  first_certificate = record {
    plan = worked_plan first_entries 1 (closed_in g t0 []) first_plan.places refl;
    length_is = refl;
    least = worked_shortage first_entries 1 (closed_in g t0 []) first_plan.places 2 first_plan.shortage (0 ∷ 1 ∷ 2 ∷ []) first_holders refl;
  }

  first_rounds : AreFirstRounds 1 (closed_in g t0 []) first_plan.places
  first_rounds = worked_first first_entries 1 (closed_in g t0 []) first_plan.places refl

  abbrev pub t1 : Table
  t1 = head_taken 0 7 t0

  abbrev pub v1 : World
  v1 = took 0 (handed (Header 1 7)) v0

  abbrev pub v2 : World
  v2 = called 0 Accepted (headed 1 7 (v1.images 0)) (fresh g (handed (Header 1 7))) v1

  abbrev pub t3 : Table
  t3 = head_done 0 t1

  abbrev pub v3 : World
  v3 = did 0 (Header 1 7) DidWriteHeader v2

  abbrev pub t4 : Table
  t4 = head_taken 1 7 t3

  abbrev pub v4 : World
  v4 = took 1 (handed (Header 1 7)) v3

  abbrev pub v5 : World
  v5 = called 1 Accepted (headed 1 7 (v4.images 1)) (fresh g (handed (Header 1 7))) v4

  abbrev pub t6 : Table
  t6 = head_done 1 t4

  abbrev pub v6 : World
  v6 = did 1 (Header 1 7) DidWriteHeader v5

  abbrev pub t7 : Table
  t7 = head_taken 2 7 t6

  abbrev pub v7 : World
  v7 = took 2 (handed (Header 1 7)) v6

  abbrev pub v8 : World
  v8 = called 2 Accepted (headed 1 7 (v7.images 2)) (fresh g (handed (Header 1 7))) v7

  abbrev pub t9 : Table
  t9 = head_done 2 t7

  abbrev pub v9 : World
  v9 = did 2 (Header 1 7) DidWriteHeader v8

  abbrev pub t10 : Table
  t10 = admitted_in g (record { 0 = 0 }) first_plan eight t9

  abbrev pub v10 : World
  v10 = admits_beside g 0 eight t9 v9

  pub admitting : Run (at g t0 v0) (admission) (at g t10 v10)
  admitting = (
    at g t1 v1,
    takes_header g t0 v0 0 0 7 tt refl refl refl refl,
    (
      at g t1 v2,
      writes_header g t1 v1 0 1 7 refl,
      (
        at g t3 v3,
        ends_header g t1 v2 0 1 7 tt refl refl refl,
        (
          at g t4 v4,
          takes_header g t3 v3 1 0 7 tt refl refl refl refl,
          (
            at g t4 v5,
            writes_header g t4 v4 1 1 7 refl,
            (
              at g t6 v6,
              ends_header g t4 v5 1 1 7 tt refl refl refl,
              (
                at g t7 v7,
                takes_header g t6 v6 2 0 7 tt refl refl refl refl,
                (
                  at g t7 v8,
                  writes_header g t7 v7 2 1 7 refl,
                  (
                    at g t9 v9,
                    ends_header g t7 v8 2 1 7 tt refl refl refl,
                    (
                      at g t10 v10,
                      admits g t9 v9 eight (record { 0 = 0 }) first_plan tt refl refl refl first_certificate first_rounds refl refl refl,
                      (
                          refl),
                    ),
                  ),
                ),
              ),
            ),
          ),
        ),
      ),
    ),
  )

  abbrev pub t11 : Table
  t11 = read_taken 0 0 (record { 0 = 0 }) (record { 0 = 0 }) (write_of 0) 0 t10

  abbrev pub v11 : World
  v11 = took 0 (read_of_page 0 0) v10

  abbrev pub t12 : Table
  t12 = read_taken 1 0 (record { 0 = 0 }) (record { 0 = 1 }) (write_of 1) 1 t11

  abbrev pub v12 : World
  v12 = took 1 (read_of_page 1 1) v11

  abbrev pub t13 : Table
  t13 = read_taken 2 0 (record { 0 = 0 }) (record { 0 = 2 }) (write_of 2) 1 t12

  abbrev pub v13 : World
  v13 = took 2 (read_of_page 2 1) v12

  abbrev pub v14 : World
  v14 = called 0 (GaveCell (cell 0 0 0)) (v13.images 0) (fresh g (read_of_page 0 0)) v13

  abbrev pub t15 : Table
  t15 = read_done 0 0 0 (bytes 0) eight (answers_of ([])) t13

  abbrev pub v15 : World
  v15 = did_read 0 (record { 0 = 0 }) (record { 0 = 0 }) (write_of 0) (bytes 0) v14

  abbrev pub v16 : World
  v16 = called 1 (GaveCell (cell 1 1 1)) (v15.images 1) (fresh g (read_of_page 1 1)) v15

  abbrev pub t17 : Table
  t17 = read_done 1 0 1 (bytes 1) eight (answers_of (0 ∷ [])) t15

  abbrev pub v17 : World
  v17 = did_read 1 (record { 0 = 0 }) (record { 0 = 1 }) (write_of 1) (bytes 1) v16

  abbrev pub v18 : World
  v18 = called 2 (GaveCell (cell 2 2 1)) (v17.images 2) (fresh g (read_of_page 2 1)) v17

  abbrev pub t19 : Table
  t19 = read_done 2 0 2 (bytes 2) eight (answers_of (0 ∷ 1 ∷ [])) t17

  abbrev pub v19 : World
  v19 = did_read 2 (record { 0 = 0 }) (record { 0 = 2 }) (write_of 2) (bytes 2) v18

  abbrev pub t20 : Table
  t20 = advanced t19

  abbrev pub v20 : World
  v20 = record v19 { moment = suc v19.moment }

  abbrev pub t21 : Table
  t21 = read_taken 0 0 (record { 0 = 0 }) (record { 0 = 3 }) (write_of 3) 2 t20

  abbrev pub v21 : World
  v21 = took 0 (read_of_page 3 2) v20

  abbrev pub t22 : Table
  t22 = read_taken 1 0 (record { 0 = 0 }) (record { 0 = 4 }) (write_of 4) 2 t21

  abbrev pub v22 : World
  v22 = took 1 (read_of_page 4 2) v21

  abbrev pub t23 : Table
  t23 = read_taken 2 0 (record { 0 = 0 }) (record { 0 = 5 }) (write_of 5) 3 t22

  abbrev pub v23 : World
  v23 = took 2 (read_of_page 5 3) v22

  abbrev pub v24 : World
  v24 = called 0 (GaveCell (cell 0 3 2)) (v23.images 0) (fresh g (read_of_page 3 2)) v23

  abbrev pub t25 : Table
  t25 = read_done 0 0 3 (bytes 3) eight (answers_of (0 ∷ 1 ∷ 2 ∷ [])) t23

  abbrev pub v25 : World
  v25 = did_read 0 (record { 0 = 0 }) (record { 0 = 3 }) (write_of 3) (bytes 3) v24

  abbrev pub v26 : World
  v26 = called 2 (GaveCell (cell 2 5 3)) (v25.images 2) (fresh g (read_of_page 5 3)) v25

  abbrev pub t27 : Table
  t27 = read_done 2 0 5 (bytes 5) eight (answers_of (0 ∷ 1 ∷ 2 ∷ 3 ∷ [])) t25

  abbrev pub v27 : World
  v27 = did_read 2 (record { 0 = 0 }) (record { 0 = 5 }) (write_of 5) (bytes 5) v26

  abbrev pub v28 : World
  v28 = called 1 Refused (v27.images 1) (fresh g (read_of_page 4 2)) v27

  abbrev pub t29 : Table
  t29 = dropped 1 t27

  abbrev pub v29 : World
  v29 = did 1 ((read_of_page 4 2).flight) (Fault 1) v28

  pub failing : Run (at g t10 v10) (failure bytes) (at g t29 v29)
  failing = (
    at g t11 v11,
    takes_read g t10 v10 0 0 (record { 0 = 0 }) (record { 0 = 0 }) (write_of 0) 0 tt refl refl refl refl refl refl (copies_same g t10 (in_order t10 tt) 0 0),
    (
      at g t12 v12,
      takes_read g t11 v11 1 0 (record { 0 = 0 }) (record { 0 = 1 }) (write_of 1) 1 tt refl refl refl refl refl refl (copies_same g t11 (in_order t11 tt) 1 1),
      (
        at g t13 v13,
        takes_read g t12 v12 2 0 (record { 0 = 0 }) (record { 0 = 2 }) (write_of 2) 1 tt refl refl refl refl refl refl (copies_same g t12 (in_order t12 tt) 2 2),
        (
          at g t13 v14,
          gives_cell g t13 v13 0 (record { 0 = 0 }) (record { 0 = 0 }) (write_of 0) (record { 0 = 0 }) (cell 0 0 0) refl (there 0 0),
          (
            at g t15 v15,
            ends_read g t13 v14 0 (record { 0 = 0 }) (record { 0 = 0 }) (write_of 0) (record { 0 = 0 }) (cell 0 0 0) (bytes 0) eight (answers_of ([])) tt tt refl refl refl (right 0) refl,
            (
              at g t15 v16,
              gives_cell g t15 v15 1 (record { 0 = 0 }) (record { 0 = 1 }) (write_of 1) (record { 0 = 1 }) (cell 1 1 1) refl (there 1 1),
              (
                at g t17 v17,
                ends_read g t15 v16 1 (record { 0 = 0 }) (record { 0 = 1 }) (write_of 1) (record { 0 = 1 }) (cell 1 1 1) (bytes 1) eight (answers_of (0 ∷ [])) tt tt refl refl refl (right 1) refl,
                (
                  at g t17 v18,
                  gives_cell g t17 v17 2 (record { 0 = 0 }) (record { 0 = 2 }) (write_of 2) (record { 0 = 1 }) (cell 2 2 1) refl (there 2 1),
                  (
                    at g t19 v19,
                    ends_read g t17 v18 2 (record { 0 = 0 }) (record { 0 = 2 }) (write_of 2) (record { 0 = 1 }) (cell 2 2 1) (bytes 2) eight (answers_of (0 ∷ 1 ∷ [])) tt tt refl refl refl (right 2) refl,
                    (
                      at g t20 v20,
                      advances g t19 v19 (record { 0 = 2 }) tt tt refl refl refl refl,
                      (
                        at g t21 v21,
                        takes_read g t20 v20 0 0 (record { 0 = 0 }) (record { 0 = 3 }) (write_of 3) 2 tt refl refl refl refl refl refl (copies_same g t20 (in_order t20 tt) 3 0),
                        (
                          at g t22 v22,
                          takes_read g t21 v21 1 0 (record { 0 = 0 }) (record { 0 = 4 }) (write_of 4) 2 tt refl refl refl refl refl refl (copies_same g t21 (in_order t21 tt) 4 1),
                          (
                            at g t23 v23,
                            takes_read g t22 v22 2 0 (record { 0 = 0 }) (record { 0 = 5 }) (write_of 5) 3 tt refl refl refl refl refl refl (copies_same g t22 (in_order t22 tt) 5 2),
                            (
                              at g t23 v24,
                              gives_cell g t23 v23 0 (record { 0 = 0 }) (record { 0 = 3 }) (write_of 3) (record { 0 = 2 }) (cell 0 3 2) refl (there 0 2),
                              (
                                at g t25 v25,
                                ends_read g t23 v24 0 (record { 0 = 0 }) (record { 0 = 3 }) (write_of 3) (record { 0 = 2 }) (cell 0 3 2) (bytes 3) eight (answers_of (0 ∷ 1 ∷ 2 ∷ [])) tt tt refl refl refl (right 3) refl,
                                (
                                  at g t25 v26,
                                  gives_cell g t25 v25 2 (record { 0 = 0 }) (record { 0 = 5 }) (write_of 5) (record { 0 = 3 }) (cell 2 5 3) refl (there 2 3),
                                  (
                                    at g t27 v27,
                                    ends_read g t25 v26 2 (record { 0 = 0 }) (record { 0 = 5 }) (write_of 5) (record { 0 = 3 }) (cell 2 5 3) (bytes 5) eight (answers_of (0 ∷ 1 ∷ 2 ∷ 3 ∷ [])) tt tt refl refl refl (right 5) refl,
                                    (
                                      at g t27 v28,
                                      refuses_read g t27 v27 1 (record { 0 = 0 }) (record { 0 = 4 }) (write_of 4) (record { 0 = 2 }) refl,
                                      (
                                        at g t29 v29,
                                        ends_faulty g t27 v28 1 (record { 0 = 0 }) (record { 0 = 4 }) (write_of 4) (record { 0 = 2 }) 1 tt tt refl refl,
                                        (
                                            refl),
                                      ),
                                    ),
                                  ),
                                ),
                              ),
                            ),
                          ),
                        ),
                      ),
                    ),
                  ),
                ),
              ),
            ),
          ),
        ),
      ),
    ),
  )

  pub is_torn_there : results (core_of g t29) 0 ≡ Torn
  is_torn_there = results_same g t29 (in_order t29 tt) 0 eight (answers_of (0 ∷ 1 ∷ 2 ∷ 3 ∷ 5 ∷ [])) tt refl

  pub least_first : IsCertificate (entries_for v0.core.page_map eight) 1 (is_closed v0.core.page_map v0.core.calendar) 3 first_plan.places first_plan.shortage
  least_first = subst (λ (w : World). IsCertificate (entries_for w.core.page_map eight) 1 (is_closed w.core.page_map w.core.calendar) 3
      first_plan.places first_plan.shortage) (sym as_listed)
      (certified g t0 (in_order t0 tt) [] tt eight 3 first_plan.places first_plan.shortage first_certificate)

  pub live_left : (die : ℕ) → is_live (core_of g t29).page_map die ≡ (die == 0 || die == 2)
  live_left die =
      ap is_some (get-from_sorted nat_cmp t29.live die tt) ∙ either (eq_by_cmp nat_cmp die 0) (eq_by_cmp nat_cmp die 2)
      ∙ (λ i. unsigned_tied die 0 i || unsigned_tied die 2 i)
    where
      either : (a b : Bool) → is_some (cond {A = Option (Unit {0})} a (Some tt) (cond b (Some tt) None)) ≡ (a || b)
      either true b = refl
      either false true = refl
      either false false = refl

  pub first_pairs : map (holders v0.core.page_map) eight
      ≡ (0 ∷ 1 ∷ []) ∷ (1 ∷ 2 ∷ []) ∷ (0 ∷ 2 ∷ []) ∷ (0 ∷ 2 ∷ []) ∷ (0 ∷ 1 ∷ []) ∷ (1 ∷ 2 ∷ []) ∷ (0 ∷ 1 ∷ []) ∷ (1 ∷ 2 ∷ []) ∷ []
  first_pairs = λ i. map (λ page. holders_same g t0 (in_order t0 tt) page i) eight
