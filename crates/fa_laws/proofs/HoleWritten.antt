-- On a formatted array of two dies three pages are written, and page 0 is made a hole: each state by its lists.
use Rattle.fa_laws.proofs.Listed.{empty_listed, insert_listed}
use Rattle.fa_laws.proofs.Making.{called}
use Rattle.fa_machine.proofs.Maps.{nat_same, place_cmp_total, place_same}
use Rattle.fa_laws.proofs.Table.{Table, core_of, in_order}
use Rattle.fa_laws.proofs.Tabled.{at, did, ends_header, fresh, head_done, headed}
use Rattle.fa_laws.proofs.Tabled.{head_taken, takes_header, took, writes_header}
use Rattle.fa_laws.proofs.Writes.{claimed_in, claims_page, commits, commits_beside, committed_in, ends_program, keeps_payload, program_done, program_taken}
use Rattle.fa_laws.proofs.Writes.{released_claim, releases, reserved_in, reserves, reserves_hole, takes_cell, takes_program, zero_bytes}
use Rattle.fa_laws.specs.EightPages.{write_of}
use Rattle.fa_laws.specs.Formatted.{formatted}
use Rattle.fa_laws.specs.HoleAndMove.{making_a_hole, the_hole, writing}
use Rattle.fa_laws.specs.Telling.{program_of_page}
use Rattle.fa_machine.specs.Cells.{DidProgram, DidWriteHeader, Sealed}
use Rattle.fa_machine.specs.Run.{Run}
use Rattle.fa_machine.specs.State.{Reservation}
use Rattle.fa_machine.specs.Taking.{handed}
use Rattle.fa_machine.specs.World.{Accepted, World, with_cell}
use Rattle.fa_machine.specs.declared.jobs.Flight.TheVariants.{Header}
use Rattle.fa_types.specs.declared.kind.Kind.TheVariants.{Data, Hole}
use Rattle.fa_machine.specs.declared.places.Version.{Version}
use Rattle.fa_types.specs.Geometry.{IsGeometry}
use Rattle.fa_types.specs.declared.geometry.Geometry.{Geometry}
use Rattle.std.proofs.Common.{List, None, Some, [], ap, eq-eqb, length, false, refl, suc, sym, true, ℕ, ◌∙◌, ◌∷◌, ◌≡◌}
use Rattle.std.specs.Cmp.{nat_cmp_total}
use Rattle.std.specs.FinMap.{empty, from_sorted, get, get-from_sorted, insert}
use Rattle.std.specs.Ordering.{nat_cmp}
use Rattle.std.specs.Prelude.{◌==◌}

module _ (size : ℕ) (within : IsGeometry 2 0 4 4 size 8) (bytes : ℕ → List ℕ) (sized : (page : ℕ) → length (bytes page) ≡ size) where
  abbrev pub g : Geometry
  g = record { dies = 2; spares = 0; blocks = 4; slots = 4; page_bytes = size; pages = 8; within = within }

  abbrev pub t0 : Table
  t0 = record {
    copies = 2;
    spares = [];
    copying = None;
    commits = 0;
    starts = 0;
    live = (0, tt) ∷ (1, tt) ∷ [];
    versions = [];
    used = [];
    round = 1;
    bookings = [];
    windows = [];
    epoch = 1;
    behind = (0, tt) ∷ (1, tt) ∷ [];
    stepped = [];
    last = 0;
    waiting = [];
    jobs = [];
    claims = [];
    batches = [];
    flushes = 0;
    asked = [];
    synced = [];
    based = [];
    history = [];
  }

  abbrev pub v0 : World
  v0 = formatted g

  two_live : insert (insert (empty {X = Unit {0}} {R = nat_cmp}) 0 tt) 1 tt ≡ from_sorted ((0, tt) ∷ (1, tt) ∷ [])
  two_live =
      (λ i. insert (insert (sym (empty_listed nat_cmp_total nat_same) i) 0 tt) 1 tt)
      ∙ ap (λ m. insert m 1 tt) (insert_listed nat_cmp_total nat_same [] 0 tt tt) ∙ insert_listed nat_cmp_total nat_same ((0, tt) ∷ []) 1 tt tt

  -- a map with no entry is the empty one
  pub as_listed : v0 ≡ at g t0 v0
  as_listed = λ i. record v0 {
    core = record (core_of g t0) {
      page_map = record {
        geometry = g;
        live = two_live i;
        versions = sym (empty_listed nat_cmp_total nat_same) i;
        used = sym (empty_listed place_cmp_total place_same) i;
      };
      calendar = record ((core_of g t0).calendar) {
        bookings = sym (empty_listed place_cmp_total place_same) i;
        windows = sym (empty_listed nat_cmp_total nat_same) i;
      };
      behind = two_live i;
      stepped = sym (empty_listed nat_cmp_total nat_same) i;
      spares = sym (empty_listed nat_cmp_total nat_same) i;
      jobs = sym (empty_listed nat_cmp_total nat_same) i;
      claims = sym (empty_listed nat_cmp_total nat_same) i;
      batches = sym (empty_listed nat_cmp_total nat_same) i;
      asked = sym (empty_listed nat_cmp_total nat_same) i;
      synced = sym (empty_listed nat_cmp_total nat_same) i;
      base = record { numbers = sym (empty_listed nat_cmp_total nat_same) i; commits = 0; starts = 0 };
    };
  }

  pub right : (page : ℕ) → (length (bytes page) == size) ≡ true
  right page = eq-eqb _ _ (sized page)

  -- what was reserved, as it is programmed on both dies
  abbrev reservation : Version → ℕ → ℕ → ℕ → Reservation
  reservation version one two slot = record {
    version = version;
    targets = record { die = record { 0 = one }; slot = record { 0 = slot }; programmed = true }
        ∷ record { die = record { 0 = two }; slot = record { 0 = slot }; programmed = true } ∷ [];
  }

  abbrev pub t1 : Table
  t1 = head_taken 0 3 t0

  abbrev pub v1 : World
  v1 = took 0 (handed (Header 1 3)) v0

  abbrev pub v2 : World
  v2 = called 0 Accepted (headed 1 3 (v1.images 0)) (fresh g (handed (Header 1 3))) v1

  abbrev pub t3 : Table
  t3 = head_done 0 t1

  abbrev pub v3 : World
  v3 = did 0 (Header 1 3) DidWriteHeader v2

  abbrev pub t4 : Table
  t4 = head_taken 1 3 t3

  abbrev pub v4 : World
  v4 = took 1 (handed (Header 1 3)) v3

  abbrev pub v5 : World
  v5 = called 1 Accepted (headed 1 3 (v4.images 1)) (fresh g (handed (Header 1 3))) v4

  abbrev pub t6 : Table
  t6 = head_done 1 t4

  abbrev pub v6 : World
  v6 = did 1 (Header 1 3) DidWriteHeader v5

  abbrev pub t7 : Table
  t7 = claimed_in 0 0 t6

  abbrev pub v7 : World
  v7 = record v6 { moment = suc v6.moment }

  abbrev pub t8 : Table
  t8 = reserved_in g 0 0 Data (bytes 0) t7

  abbrev pub v8 : World
  v8 = keeps_payload 0 1 (bytes 0) v7

  abbrev pub t9 : Table
  t9 = program_taken 0 (program_of_page 0 0 (write_of 0) (bytes 0)) t8

  abbrev pub v9 : World
  v9 = took 0 (program_of_page 0 0 (write_of 0) (bytes 0)) v8

  abbrev pub v10 : World
  v10 = called 0 Accepted (with_cell 0 (Sealed 0 (write_of 0) 0 0 (bytes 0)) (v9.images 0)) (fresh g (program_of_page 0 0 (write_of 0) (bytes 0))) v9

  abbrev pub t11 : Table
  t11 = program_done 0 0 0 t9

  abbrev pub v11 : World
  v11 = did 0 (program_of_page 0 0 (write_of 0) (bytes 0)).flight DidProgram v10

  abbrev pub t12 : Table
  t12 = program_taken 1 (program_of_page 0 0 (write_of 0) (bytes 0)) t11

  abbrev pub v12 : World
  v12 = took 1 (program_of_page 0 0 (write_of 0) (bytes 0)) v11

  abbrev pub v13 : World
  v13 = called 1 Accepted (with_cell 0 (Sealed 0 (write_of 0) 1 0 (bytes 0)) (v12.images 1)) (fresh g (program_of_page 0 0 (write_of 0) (bytes 0))) v12

  abbrev pub t14 : Table
  t14 = program_done 0 1 0 t12

  abbrev pub v14 : World
  v14 = did 1 (program_of_page 0 0 (write_of 0) (bytes 0)).flight DidProgram v13

  abbrev pub t15 : Table
  t15 = committed_in 0 0 0 (reservation (write_of 0) 0 1 0) t14

  abbrev pub v15 : World
  v15 = commits_beside 0 1 v14

  abbrev pub t16 : Table
  t16 = released_claim 0 t15

  abbrev pub v16 : World
  v16 = record v15 { moment = suc v15.moment }

  abbrev pub t17 : Table
  t17 = claimed_in 0 1 t16

  abbrev pub v17 : World
  v17 = record v16 { moment = suc v16.moment }

  abbrev pub t18 : Table
  t18 = reserved_in g 0 1 Data (bytes 1) t17

  abbrev pub v18 : World
  v18 = keeps_payload 1 2 (bytes 1) v17

  abbrev pub t19 : Table
  t19 = program_taken 0 (program_of_page 1 1 (write_of 1) (bytes 1)) t18

  abbrev pub v19 : World
  v19 = took 0 (program_of_page 1 1 (write_of 1) (bytes 1)) v18

  abbrev pub v20 : World
  v20 = called 0 Accepted (with_cell 1 (Sealed 1 (write_of 1) 0 1 (bytes 1)) (v19.images 0)) (fresh g (program_of_page 1 1 (write_of 1) (bytes 1))) v19

  abbrev pub t21 : Table
  t21 = program_done 1 0 1 t19

  abbrev pub v21 : World
  v21 = did 0 (program_of_page 1 1 (write_of 1) (bytes 1)).flight DidProgram v20

  abbrev pub t22 : Table
  t22 = program_taken 1 (program_of_page 1 1 (write_of 1) (bytes 1)) t21

  abbrev pub v22 : World
  v22 = took 1 (program_of_page 1 1 (write_of 1) (bytes 1)) v21

  abbrev pub v23 : World
  v23 = called 1 Accepted (with_cell 1 (Sealed 1 (write_of 1) 1 1 (bytes 1)) (v22.images 1)) (fresh g (program_of_page 1 1 (write_of 1) (bytes 1))) v22

  abbrev pub t24 : Table
  t24 = program_done 1 1 1 t22

  abbrev pub v24 : World
  v24 = did 1 (program_of_page 1 1 (write_of 1) (bytes 1)).flight DidProgram v23

  abbrev pub t25 : Table
  t25 = committed_in 0 0 1 (reservation (write_of 1) 1 0 1) t24

  abbrev pub v25 : World
  v25 = commits_beside 1 2 v24

  abbrev pub t26 : Table
  t26 = released_claim 0 t25

  abbrev pub v26 : World
  v26 = record v25 { moment = suc v25.moment }

  abbrev pub t27 : Table
  t27 = claimed_in 0 2 t26

  abbrev pub v27 : World
  v27 = record v26 { moment = suc v26.moment }

  abbrev pub t28 : Table
  t28 = reserved_in g 0 2 Data (bytes 2) t27

  abbrev pub v28 : World
  v28 = keeps_payload 2 3 (bytes 2) v27

  abbrev pub t29 : Table
  t29 = program_taken 0 (program_of_page 2 2 (write_of 2) (bytes 2)) t28

  abbrev pub v29 : World
  v29 = took 0 (program_of_page 2 2 (write_of 2) (bytes 2)) v28

  abbrev pub v30 : World
  v30 = called 0 Accepted (with_cell 2 (Sealed 2 (write_of 2) 0 2 (bytes 2)) (v29.images 0)) (fresh g (program_of_page 2 2 (write_of 2) (bytes 2))) v29

  abbrev pub t31 : Table
  t31 = program_done 2 0 2 t29

  abbrev pub v31 : World
  v31 = did 0 (program_of_page 2 2 (write_of 2) (bytes 2)).flight DidProgram v30

  abbrev pub t32 : Table
  t32 = program_taken 1 (program_of_page 2 2 (write_of 2) (bytes 2)) t31

  abbrev pub v32 : World
  v32 = took 1 (program_of_page 2 2 (write_of 2) (bytes 2)) v31

  abbrev pub v33 : World
  v33 = called 1 Accepted (with_cell 2 (Sealed 2 (write_of 2) 1 2 (bytes 2)) (v32.images 1)) (fresh g (program_of_page 2 2 (write_of 2) (bytes 2))) v32

  abbrev pub t34 : Table
  t34 = program_done 2 1 2 t32

  abbrev pub v34 : World
  v34 = did 1 (program_of_page 2 2 (write_of 2) (bytes 2)).flight DidProgram v33

  abbrev pub t35 : Table
  t35 = committed_in 0 0 2 (reservation (write_of 2) 0 1 2) t34

  abbrev pub v35 : World
  v35 = commits_beside 2 3 v34

  abbrev pub t36 : Table
  t36 = released_claim 0 t35

  abbrev pub v36 : World
  v36 = record v35 { moment = suc v35.moment }

  pub writing_three : Run (at g t0 v0) (writing bytes) (at g t36 v36)
  writing_three = (
    at g t1 v1,
    takes_header g t0 v0 0 0 3 tt refl refl refl refl,
    (
      at g t1 v2,
      writes_header g t1 v1 0 1 3 refl,
      (
        at g t3 v3,
        ends_header g t1 v2 0 1 3 tt refl refl refl,
        (
          at g t4 v4,
          takes_header g t3 v3 1 0 3 tt refl refl refl refl,
          (
            at g t4 v5,
            writes_header g t4 v4 1 1 3 refl,
            (
              at g t6 v6,
              ends_header g t4 v5 1 1 3 tt refl refl refl,
              (
                at g t7 v7,
                claims_page g t6 v6 0 (record { 0 = 0 }) tt refl refl refl,
                (
                  at g t8 v8,
                  reserves g t7 v7 0 0 (bytes 0) (write_of 0).seq tt refl refl refl (right 0),
                  (
                    at g t9 v9,
                    takes_program g t8 v8 0 0 (record { 0 = 0 }) (write_of 0) (record { 0 = 0 }) (bytes 0) false tt tt refl refl refl refl,
                    (
                      at g t9 v10,
                      takes_cell g t9 v9 0 (record { 0 = 0 }) (write_of 0) (record { 0 = 0 }) (bytes 0) false refl,
                      (
                        at g t11 v11,
                        ends_program g t9 v10 0 (record { 0 = 0 }) (write_of 0) (record { 0 = 0 }) tt tt refl refl,
                        (
                          at g t12 v12,
                          takes_program g t11 v11 1 0 (record { 0 = 0 }) (write_of 0) (record { 0 = 0 }) (bytes 0) false tt tt refl refl refl refl,
                          (
                            at g t12 v13,
                            takes_cell g t12 v12 1 (record { 0 = 0 }) (write_of 0) (record { 0 = 0 }) (bytes 0) false refl,
                            (
                              at g t14 v14,
                              ends_program g t12 v13 1 (record { 0 = 0 }) (write_of 0) (record { 0 = 0 }) tt tt refl refl,
                              (
                                at g t15 v15,
                                commits g t14 (in_order t14 tt) 0 0 0 (reservation (write_of 0) 0 1 0) refl v14 (record { 0 = 1 }) tt refl refl refl,
                                (
                                  at g t16 v16,
                                  releases g t15 v15 0 0 tt refl,
                                  (
                                    at g t17 v17,
                                    claims_page g t16 v16 1 (record { 0 = 0 }) tt refl refl refl,
                                    (
                                      at g t18 v18,
                                      reserves g t17 v17 0 1 (bytes 1) (write_of 1).seq tt refl refl refl (right 1),
                                      (
                                        at g t19 v19,
                                        takes_program g t18 v18 0 0 (record { 0 = 1 }) (write_of 1) (record { 0 = 1 }) (bytes 1) false tt tt refl refl refl refl,
                                        (
                                          at g t19 v20,
                                          takes_cell g t19 v19 0 (record { 0 = 1 }) (write_of 1) (record { 0 = 1 }) (bytes 1) false refl,
                                          (
                                            at g t21 v21,
                                            ends_program g t19 v20 0 (record { 0 = 1 }) (write_of 1) (record { 0 = 1 }) tt tt refl refl,
                                            (
                                              at g t22 v22,
                                              takes_program g t21 v21 1 0 (record { 0 = 1 }) (write_of 1) (record { 0 = 1 }) (bytes 1) false tt tt refl refl refl refl,
                                              (
                                                at g t22 v23,
                                                takes_cell g t22 v22 1 (record { 0 = 1 }) (write_of 1) (record { 0 = 1 }) (bytes 1) false refl,
                                                (
                                                  at g t24 v24,
                                                  ends_program g t22 v23 1 (record { 0 = 1 }) (write_of 1) (record { 0 = 1 }) tt tt refl refl,
                                                  (
                                                    at g t25 v25,
                                                    commits g t24 (in_order t24 tt) 0 0 1 (reservation (write_of 1) 1 0 1) refl v24 (record { 0 = 2 }) tt refl refl refl,
                                                    (
                                                      at g t26 v26,
                                                      releases g t25 v25 0 1 tt refl,
                                                      (
                                                        at g t27 v27,
                                                        claims_page g t26 v26 2 (record { 0 = 0 }) tt refl refl refl,
                                                        (
                                                          at g t28 v28,
                                                          reserves g t27 v27 0 2 (bytes 2) (write_of 2).seq tt refl refl refl (right 2),
                                                          (
                                                            at g t29 v29,
                                                            takes_program g t28 v28 0 0 (record { 0 = 2 }) (write_of 2) (record { 0 = 2 }) (bytes 2) false tt tt refl refl refl refl,
                                                            (
                                                              at g t29 v30,
                                                              takes_cell g t29 v29 0 (record { 0 = 2 }) (write_of 2) (record { 0 = 2 }) (bytes 2) false refl,
                                                              (
                                                                at g t31 v31,
                                                                ends_program g t29 v30 0 (record { 0 = 2 }) (write_of 2) (record { 0 = 2 }) tt tt refl refl,
                                                                (
                                                                  at g t32 v32,
                                                                  takes_program g t31 v31 1 0 (record { 0 = 2 }) (write_of 2) (record { 0 = 2 }) (bytes 2) false tt tt refl refl refl refl,
                                                                  (
                                                                    at g t32 v33,
                                                                    takes_cell g t32 v32 1 (record { 0 = 2 }) (write_of 2) (record { 0 = 2 }) (bytes 2) false refl,
                                                                    (
                                                                      at g t34 v34,
                                                                      ends_program g t32 v33 1 (record { 0 = 2 }) (write_of 2) (record { 0 = 2 }) tt tt refl refl,
                                                                      (
                                                                        at g t35 v35,
                                                                        commits g t34 (in_order t34 tt) 0 0 2 (reservation (write_of 2) 0 1 2) refl v34 (record { 0 = 3 }) tt refl refl refl,
                                                                        (
                                                                          at g t36 v36,
                                                                          releases g t35 v35 0 2 tt refl,
                                                                          (
                                                                              refl),
                                                                        ),
                                                                      ),
                                                                    ),
                                                                  ),
                                                                ),
                                                              ),
                                                            ),
                                                          ),
                                                        ),
                                                      ),
                                                    ),
                                                  ),
                                                ),
                                              ),
                                            ),
                                          ),
                                        ),
                                      ),
                                    ),
                                  ),
                                ),
                              ),
                            ),
                          ),
                        ),
                      ),
                    ),
                  ),
                ),
              ),
            ),
          ),
        ),
      ),
    ),
  )

  abbrev pub t37 : Table
  t37 = claimed_in 0 0 t36

  abbrev pub v37 : World
  v37 = record v36 { moment = suc v36.moment }

  abbrev pub t38 : Table
  t38 = reserved_in g 0 0 Hole (zero_bytes g) t37

  abbrev pub v38 : World
  v38 = keeps_payload 0 4 (zero_bytes g) v37

  abbrev pub t39 : Table
  t39 = program_taken 0 (program_of_page 0 3 the_hole (zero_bytes g)) t38

  abbrev pub v39 : World
  v39 = took 0 (program_of_page 0 3 the_hole (zero_bytes g)) v38

  abbrev pub v40 : World
  v40 = called 0 Accepted (with_cell 3 (Sealed 0 the_hole 0 3 (zero_bytes g)) (v39.images 0)) (fresh g (program_of_page 0 3 the_hole (zero_bytes g))) v39

  abbrev pub t41 : Table
  t41 = program_done 0 0 3 t39

  abbrev pub v41 : World
  v41 = did 0 (program_of_page 0 3 the_hole (zero_bytes g)).flight DidProgram v40

  abbrev pub t42 : Table
  t42 = program_taken 1 (program_of_page 0 3 the_hole (zero_bytes g)) t41

  abbrev pub v42 : World
  v42 = took 1 (program_of_page 0 3 the_hole (zero_bytes g)) v41

  abbrev pub v43 : World
  v43 = called 1 Accepted (with_cell 3 (Sealed 0 the_hole 1 3 (zero_bytes g)) (v42.images 1)) (fresh g (program_of_page 0 3 the_hole (zero_bytes g))) v42

  abbrev pub t44 : Table
  t44 = program_done 0 1 3 t42

  abbrev pub v44 : World
  v44 = did 1 (program_of_page 0 3 the_hole (zero_bytes g)).flight DidProgram v43

  abbrev pub t45 : Table
  t45 = committed_in 0 0 0 (reservation the_hole 0 1 3) t44

  abbrev pub v45 : World
  v45 = commits_beside 0 4 v44

  abbrev pub t46 : Table
  t46 = released_claim 0 t45

  abbrev pub v46 : World
  v46 = record v45 { moment = suc v45.moment }

  pub making_it : Run (at g t36 v36) (making_a_hole g) (at g t46 v46)
  making_it = (
    at g t37 v37,
    claims_page g t36 v36 0 (record { 0 = 0 }) tt refl refl refl,
    (
      at g t38 v38,
      reserves_hole g t37 v37 0 0 the_hole.seq tt refl refl refl,
      (
        at g t39 v39,
        takes_program g t38 v38 0 0 (record { 0 = 0 }) the_hole (record { 0 = 3 }) (zero_bytes g) false tt tt refl refl refl refl,
        (
          at g t39 v40,
          takes_cell g t39 v39 0 (record { 0 = 0 }) the_hole (record { 0 = 3 }) (zero_bytes g) false refl,
          (
            at g t41 v41,
            ends_program g t39 v40 0 (record { 0 = 0 }) the_hole (record { 0 = 3 }) tt tt refl refl,
            (
              at g t42 v42,
              takes_program g t41 v41 1 0 (record { 0 = 0 }) the_hole (record { 0 = 3 }) (zero_bytes g) false tt tt refl refl refl refl,
              (
                at g t42 v43,
                takes_cell g t42 v42 1 (record { 0 = 0 }) the_hole (record { 0 = 3 }) (zero_bytes g) false refl,
                (
                  at g t44 v44,
                  ends_program g t42 v43 1 (record { 0 = 0 }) the_hole (record { 0 = 3 }) tt tt refl refl,
                  (
                    at g t45 v45,
                    commits g t44 (in_order t44 tt) 0 0 0 (reservation the_hole 0 1 3) refl v44 (record { 0 = 4 }) tt refl refl refl,
                    (
                      at g t46 v46,
                      releases g t45 v45 0 0 tt refl,
                      (
                          refl),
                    ),
                  ),
                ),
              ),
            ),
          ),
        ),
      ),
    ),
  )

  pub is_a_hole : get (core_of g t46).page_map.versions 0 ≡ Some the_hole
  is_a_hole = get-from_sorted nat_cmp t46.versions 0 tt
