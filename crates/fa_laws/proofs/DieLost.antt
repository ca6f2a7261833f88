-- On five dies, one of them a spare, a page is written, and a die that has a copy of it is lost, worked: each state by its lists.
use Rattle.fa_batch_terms.specs.Batch.{Entry}
use Rattle.fa_batch_terms.specs.Certificate.{IsCertificate}
use Rattle.fa_batch_terms.specs.Plan.{AreFirstRounds}
use Rattle.fa_laws.proofs.Certified.{three_holders, worked_first, worked_plan, worked_shortage}
use Rattle.fa_laws.proofs.Listed.{empty_listed}
use Rattle.fa_laws.proofs.Making.{called}
use Rattle.fa_laws.proofs.Planning.{admits, admits_beside, admitted_in, closed_in, copies_same, entries_in, holders_same, read_in, results_same}
use Rattle.fa_laws.proofs.Table.{Table, core_of, in_order}
use Rattle.fa_laws.proofs.Tabled.{at, did, dropped, ends_faulty, ends_header, fresh, head_done, headed}
use Rattle.fa_laws.proofs.Tabled.{head_taken, read_taken, refuses_read, takes_header, takes_read, took, writes_header}
use Rattle.fa_laws.proofs.Writes.{claimed_in, claims_page, commits, commits_beside, committed_in, ends_program, keeps_payload, program_done, program_taken}
use Rattle.fa_laws.proofs.Writes.{released_claim, releases, reserved_in, reserves, takes_cell, takes_program}
use Rattle.fa_laws.specs.EightPages.{write_of}
use Rattle.fa_laws.specs.SpareComesIn.{losing, read_on, with_a_spare, writing_thrice}
use Rattle.fa_laws.specs.Telling.{pages_of, program_of_page, read_of_page}
use Rattle.fa_machine.proofs.Maps.{nat_same, place_cmp_total, place_same}
use Rattle.fa_machine.specs.Cells.{Cell, DidProgram, DidWriteHeader, Fault, Sealed}
use Rattle.fa_machine.specs.Copies.{holders}
use Rattle.fa_machine.specs.Reading.{results}
use Rattle.fa_machine.specs.Run.{Run}
use Rattle.fa_machine.specs.State.{Reservation}
use Rattle.fa_machine.specs.Taking.{handed}
use Rattle.fa_machine.specs.World.{Accepted, Refused, World, with_cell}
use Rattle.fa_machine.specs.declared.answers.ReadState.TheVariants.{Torn}
use Rattle.fa_machine.specs.declared.jobs.Flight.TheVariants.{Header}
use Rattle.fa_machine.specs.declared.places.Target.{Target}
use Rattle.fa_types.specs.declared.kind.Kind.TheVariants.{Data}
use Rattle.fa_types.specs.Geometry.{IsGeometry}
use Rattle.fa_types.specs.declared.geometry.Geometry.{Geometry}
use Rattle.std.proofs.Common.{Bool, List, None, [], eq-eqb, length, false, refl, suc, sym, true, ℕ, ◌∷◌, ◌≡◌}
use Rattle.std.specs.Cmp.{nat_cmp_total}
use Rattle.std.specs.Prelude.{◌==◌}

module _ (size : ℕ) (within : IsGeometry 5 1 4 4 size 8) (bytes : ℕ → List ℕ) (sized : (page : ℕ) → length (bytes page) ≡ size) where
  abbrev pub g : Geometry
  g = record { dies = 5; spares = 1; blocks = 4; slots = 4; page_bytes = size; pages = 8; within = within }

  abbrev pub t0 : Table
  t0 = record {
    copies = 3;
    live = (0, tt) ∷ (1, tt) ∷ (2, tt) ∷ (3, tt) ∷ [];
    versions = [];
    used = [];
    round = 1;
    bookings = [];
    windows = [];
    epoch = 1;
    behind = (0, tt) ∷ (1, tt) ∷ (2, tt) ∷ (3, tt) ∷ [];
    spares = (4, tt) ∷ [];
    stepped = [];
    last = 0;
    waiting = [];
    jobs = [];
    copying = None;
    claims = [];
    batches = [];
    flushes = 0;
    asked = [];
    synced = [];
    based = [];
    commits = 0;
    starts = 0;
    history = [];
  }

  abbrev pub v0 : World
  v0 = with_a_spare g

  -- a map with no entry is the empty one
  pub as_listed : v0 ≡ at g t0 v0
  as_listed = λ i. record v0 {
    core = record (core_of g t0) {
      page_map = record ((core_of g t0).page_map) {
        versions = sym (empty_listed nat_cmp_total nat_same) i;
        used = sym (empty_listed place_cmp_total place_same) i;
      };
      calendar = record ((core_of g t0).calendar) {
        bookings = sym (empty_listed place_cmp_total place_same) i;
        windows = sym (empty_listed nat_cmp_total nat_same) i;
      };
      stepped = sym (empty_listed nat_cmp_total nat_same) i;
      jobs = sym (empty_listed nat_cmp_total nat_same) i;
      claims = sym (empty_listed nat_cmp_total nat_same) i;
      batches = sym (empty_listed nat_cmp_total nat_same) i;
      asked = sym (empty_listed nat_cmp_total nat_same) i;
      synced = sym (empty_listed nat_cmp_total nat_same) i;
      base = record { numbers = sym (empty_listed nat_cmp_total nat_same) i; commits = 0; starts = 0 };
    };
  }

  pub right : (page : ℕ) → (length (bytes page) == size) ≡ true
  right page = eq-eqb _ _ (sized page)

  abbrev pub cell : ℕ → ℕ → ℕ → Cell
  cell die page slot = Sealed page (write_of page) die slot (bytes page)

  abbrev pub target : ℕ → ℕ → Bool → Target
  target die slot programmed = record { die = record { 0 = die }; slot = record { 0 = slot }; programmed = programmed }

  -- what was reserved for page 0, as it is programmed
  abbrev reservation : Reservation
  reservation = record { version = write_of 0; targets = target 0 0 true ∷ target 1 0 true ∷ target 2 0 true ∷ [] }

  abbrev pub t1 : Table
  t1 = head_taken 0 15 t0

  abbrev pub v1 : World
  v1 = took 0 (handed (Header 1 15)) v0

  abbrev pub v2 : World
  v2 = called 0 Accepted (headed 1 15 (v1.images 0)) (fresh g (handed (Header 1 15))) v1

  abbrev pub t3 : Table
  t3 = head_done 0 t1

  abbrev pub v3 : World
  v3 = did 0 (Header 1 15) DidWriteHeader v2

  abbrev pub t4 : Table
  t4 = head_taken 1 15 t3

  abbrev pub v4 : World
  v4 = took 1 (handed (Header 1 15)) v3

  abbrev pub v5 : World
  v5 = called 1 Accepted (headed 1 15 (v4.images 1)) (fresh g (handed (Header 1 15))) v4

  abbrev pub t6 : Table
  t6 = head_done 1 t4

  abbrev pub v6 : World
  v6 = did 1 (Header 1 15) DidWriteHeader v5

  abbrev pub t7 : Table
  t7 = head_taken 2 15 t6

  abbrev pub v7 : World
  v7 = took 2 (handed (Header 1 15)) v6

  abbrev pub v8 : World
  v8 = called 2 Accepted (headed 1 15 (v7.images 2)) (fresh g (handed (Header 1 15))) v7

  abbrev pub t9 : Table
  t9 = head_done 2 t7

  abbrev pub v9 : World
  v9 = did 2 (Header 1 15) DidWriteHeader v8

  abbrev pub t10 : Table
  t10 = head_taken 3 15 t9

  abbrev pub v10 : World
  v10 = took 3 (handed (Header 1 15)) v9

  abbrev pub v11 : World
  v11 = called 3 Accepted (headed 1 15 (v10.images 3)) (fresh g (handed (Header 1 15))) v10

  abbrev pub t12 : Table
  t12 = head_done 3 t10

  abbrev pub v12 : World
  v12 = did 3 (Header 1 15) DidWriteHeader v11

  abbrev pub t13 : Table
  t13 = claimed_in 0 0 t12

  abbrev pub v13 : World
  v13 = record v12 { moment = suc v12.moment }

  abbrev pub t14 : Table
  t14 = reserved_in g 0 0 Data (bytes 0) t13

  abbrev pub v14 : World
  v14 = keeps_payload 0 1 (bytes 0) v13

  abbrev pub t15 : Table
  t15 = program_taken 0 (program_of_page 0 0 (write_of 0) (bytes 0)) t14

  abbrev pub v15 : World
  v15 = took 0 (program_of_page 0 0 (write_of 0) (bytes 0)) v14

  abbrev pub v16 : World
  v16 = called 0 Accepted (with_cell 0 (cell 0 0 0) (v15.images 0)) (fresh g (program_of_page 0 0 (write_of 0) (bytes 0))) v15

  abbrev pub t17 : Table
  t17 = program_done 0 0 0 t15

  abbrev pub v17 : World
  v17 = did 0 (program_of_page 0 0 (write_of 0) (bytes 0)).flight DidProgram v16

  abbrev pub t18 : Table
  t18 = program_taken 1 (program_of_page 0 0 (write_of 0) (bytes 0)) t17

  abbrev pub v18 : World
  v18 = took 1 (program_of_page 0 0 (write_of 0) (bytes 0)) v17

  abbrev pub v19 : World
  v19 = called 1 Accepted (with_cell 0 (cell 1 0 0) (v18.images 1)) (fresh g (program_of_page 0 0 (write_of 0) (bytes 0))) v18

  abbrev pub t20 : Table
  t20 = program_done 0 1 0 t18

  abbrev pub v20 : World
  v20 = did 1 (program_of_page 0 0 (write_of 0) (bytes 0)).flight DidProgram v19

  abbrev pub t21 : Table
  t21 = program_taken 2 (program_of_page 0 0 (write_of 0) (bytes 0)) t20

  abbrev pub v21 : World
  v21 = took 2 (program_of_page 0 0 (write_of 0) (bytes 0)) v20

  abbrev pub v22 : World
  v22 = called 2 Accepted (with_cell 0 (cell 2 0 0) (v21.images 2)) (fresh g (program_of_page 0 0 (write_of 0) (bytes 0))) v21

  abbrev pub t23 : Table
  t23 = program_done 0 2 0 t21

  abbrev pub v23 : World
  v23 = did 2 (program_of_page 0 0 (write_of 0) (bytes 0)).flight DidProgram v22

  abbrev pub t24 : Table
  t24 = committed_in 0 0 0 reservation t23

  abbrev pub v24 : World
  v24 = commits_beside 0 1 v23

  abbrev pub t25 : Table
  t25 = released_claim 0 t24

  abbrev pub v25 : World
  v25 = record v24 { moment = suc v24.moment }

  pub writing_it : Run (at g t0 v0) (writing_thrice bytes) (at g t25 v25)
  writing_it = (
    at g t1 v1,
    takes_header g t0 v0 0 0 15 tt refl refl refl refl,
    (
      at g t1 v2,
      writes_header g t1 v1 0 1 15 refl,
      (
        at g t3 v3,
        ends_header g t1 v2 0 1 15 tt refl refl refl,
        (
          at g t4 v4,
          takes_header g t3 v3 1 0 15 tt refl refl refl refl,
          (
            at g t4 v5,
            writes_header g t4 v4 1 1 15 refl,
            (
              at g t6 v6,
              ends_header g t4 v5 1 1 15 tt refl refl refl,
              (
                at g t7 v7,
                takes_header g t6 v6 2 0 15 tt refl refl refl refl,
                (
                  at g t7 v8,
                  writes_header g t7 v7 2 1 15 refl,
                  (
                    at g t9 v9,
                    ends_header g t7 v8 2 1 15 tt refl refl refl,
                    (
                      at g t10 v10,
                      takes_header g t9 v9 3 0 15 tt refl refl refl refl,
                      (
                        at g t10 v11,
                        writes_header g t10 v10 3 1 15 refl,
                        (
                          at g t12 v12,
                          ends_header g t10 v11 3 1 15 tt refl refl refl,
                          (
                            at g t13 v13,
                            claims_page g t12 v12 0 (record { 0 = 0 }) tt refl refl refl,
                            (
                              at g t14 v14,
                              reserves g t13 v13 0 0 (bytes 0) (record { 0 = 1 }) tt refl refl refl (right 0),
                              (
                                at g t15 v15,
                                takes_program g t14 v14 0 0 (record { 0 = 0 }) (write_of 0) (record { 0 = 0 }) (bytes 0) false tt tt refl refl refl refl,
                                (
                                  at g t15 v16,
                                  takes_cell g t15 v15 0 (record { 0 = 0 }) (write_of 0) (record { 0 = 0 }) (bytes 0) false refl,
                                  (
                                    at g t17 v17,
                                    ends_program g t15 v16 0 (record { 0 = 0 }) (write_of 0) (record { 0 = 0 }) tt tt refl refl,
                                    (
                                      at g t18 v18,
                                      takes_program g t17 v17 1 0 (record { 0 = 0 }) (write_of 0) (record { 0 = 0 }) (bytes 0) false tt tt refl refl refl refl,
                                      (
                                        at g t18 v19,
                                        takes_cell g t18 v18 1 (record { 0 = 0 }) (write_of 0) (record { 0 = 0 }) (bytes 0) false refl,
                                        (
                                          at g t20 v20,
                                          ends_program g t18 v19 1 (record { 0 = 0 }) (write_of 0) (record { 0 = 0 }) tt tt refl refl,
                                          (
                                            at g t21 v21,
                                            takes_program g t20 v20 2 0 (record { 0 = 0 }) (write_of 0) (record { 0 = 0 }) (bytes 0) false tt tt refl refl refl refl,
                                            (
                                              at g t21 v22,
                                              takes_cell g t21 v21 2 (record { 0 = 0 }) (write_of 0) (record { 0 = 0 }) (bytes 0) false refl,
                                              (
                                                at g t23 v23,
                                                ends_program g t21 v22 2 (record { 0 = 0 }) (write_of 0) (record { 0 = 0 }) tt tt refl refl,
                                                (
                                                  at g t24 v24,
                                                  commits g t23 (in_order t23 tt) 0 0 0 reservation refl v23 (record { 0 = 1 }) tt refl refl refl,
                                                  (
                                                    at g t25 v25,
                                                    releases g t24 v24 0 0 tt refl,
                                                    refl,
                                                  ),
                                                ),
                                              ),
                                            ),
                                          ),
                                        ),
                                      ),
                                    ),
                                  ),
                                ),
                              ),
                            ),
                          ),
                        ),
                      ),
                    ),
                  ),
                ),
              ),
            ),
          ),
        ),
      ),
    ),
  )

  pub three : holders (core_of g t25).page_map 0 ≡ 0 ∷ 1 ∷ 2 ∷ []
  three = holders_same g t25 (in_order t25 tt) 0

  abbrev first_entries : List Entry
  first_entries = entries_in g t25 (read_in g t25 (0 ∷ []))

  first_certificate : IsCertificate first_entries 1 (closed_in g t25 t25.bookings) 1 (read_on 0 1).places (read_on 0 1).shortage
  first_certificate = record {
    plan = worked_plan first_entries 1 (closed_in g t25 t25.bookings) (read_on 0 1).places refl;
    length_is = refl;
    least = worked_shortage first_entries 1 (closed_in g t25 t25.bookings) (read_on 0 1).places 0 (read_on 0 1).shortage (0 ∷ 1 ∷ 2 ∷ []) (three_holders first_entries (pages_of (0 ∷ [])) (0 ∷ 1 ∷ 2 ∷ []) refl refl refl refl refl) refl;
  }

  first_rounds : AreFirstRounds 1 (closed_in g t25 t25.bookings) (read_on 0 1).places
  first_rounds = worked_first first_entries 1 (closed_in g t25 t25.bookings) (read_on 0 1).places refl

  abbrev pub t26 : Table
  t26 = admitted_in g (record { 0 = 0 }) (read_on 0 1) (0 ∷ []) t25

  abbrev pub v26 : World
  v26 = admits_beside g 0 (0 ∷ []) t25 v25

  abbrev pub t27 : Table
  t27 = read_taken 0 0 (record { 0 = 0 }) (record { 0 = 0 }) (write_of 0) 0 t26

  abbrev pub v27 : World
  v27 = took 0 (read_of_page 0 0) v26

  abbrev pub v28 : World
  v28 = called 0 Refused (v27.images 0) (fresh g (read_of_page 0 0)) v27

  abbrev pub t29 : Table
  t29 = dropped 0 t27

  abbrev pub v29 : World
  v29 = did 0 (read_of_page 0 0).flight (Fault 1) v28

  pub losing_it : Run (at g t25 v25) losing (at g t29 v29)
  losing_it = (
    at g t26 v26,
    admits g t25 v25 (0 ∷ []) (record { 0 = 0 }) (read_on 0 1) tt refl refl refl first_certificate first_rounds refl refl refl,
    (
      at g t27 v27,
      takes_read g t26 v26 0 0 (record { 0 = 0 }) (record { 0 = 0 }) (write_of 0) 0 tt refl refl refl refl refl refl (copies_same g t26 (in_order t26 tt) 0 0),
      (
        at g t27 v28,
        refuses_read g t27 v27 0 (record { 0 = 0 }) (record { 0 = 0 }) (write_of 0) (record { 0 = 0 }) refl,
        (
          at g t29 v29,
          ends_faulty g t27 v28 0 (record { 0 = 0 }) (record { 0 = 0 }) (write_of 0) (record { 0 = 0 }) 1 tt tt refl refl,
          refl,
        ),
      ),
    ),
  )

  pub two : holders (core_of g t29).page_map 0 ≡ 1 ∷ 2 ∷ []
  two = holders_same g t29 (in_order t29 tt) 0

  pub is_torn : results (core_of g t29) 0 ≡ Torn
  is_torn = results_same g t29 (in_order t29 tt) 0 (0 ∷ []) [] tt refl
