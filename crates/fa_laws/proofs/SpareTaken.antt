-- A spare takes the copy of the lost die, a write is given up, and the page is read from the spare, worked: each state by its lists.
use Rattle.fa_laws.proofs.DieLost as lost
use Rattle.fa_batch_terms.specs.Batch.{Entry}
use Rattle.fa_batch_terms.specs.Certificate.{AreTheHolders, IsCertificate}
use Rattle.fa_batch_terms.specs.Plan.{AreFirstRounds}
use Rattle.fa_laws.proofs.Certified.{three_holders, worked_first, worked_plan, worked_shortage}
use Rattle.fa_laws.proofs.Collects.{takes_window, windowed}
use Rattle.fa_laws.proofs.Making.{called, calls}
use Rattle.fa_laws.proofs.Mending.{abandoned_in, abandons, brings_in, brought, commits_copy, copy_committed, copy_reserved, ends_erase, erase_done, erase_taken}
use Rattle.fa_laws.proofs.Mending.{folded_in, folds, reserves_copy, takes_erase}
use Rattle.fa_laws.proofs.Planning.{admits, admits_beside, admitted_in, batch_ended, closed_in, copies_same, ends_batch, entries_in, holders_same, left_in, read_in}
use Rattle.fa_laws.proofs.Planning.{released_in, replanned_in, replans}
use Rattle.fa_laws.proofs.Table.{Table, core_of, in_order}
use Rattle.fa_laws.proofs.Tabled.{advanced, advances, at, did, did_read, ends_header, ends_read, fresh, gives_cell, head_done, headed}
use Rattle.fa_laws.proofs.Tabled.{head_taken, read_done, read_taken, takes_header, takes_read, took, writes_header}
use Rattle.fa_laws.proofs.Writes.{claimed_in, claims_page, ends_program, keeps_payload, program_done, program_taken}
use Rattle.fa_laws.proofs.Writes.{released_claim, releases, reserved_in, reserves, takes_cell, takes_program}
use Rattle.fa_laws.specs.EightPages.{write_of}
use Rattle.fa_laws.specs.SpareComesIn.{answering, copying, erasing, giving_up, mending, read_on, reading_again, the_erase}
use Rattle.fa_laws.specs.Telling.{lasting_program_of_page, pages_of, read_of_page}
use Rattle.fa_machine.specs.Cells.{Cell, DidErase, DidProgram, DidWriteHeader, Empty}
use Rattle.fa_machine.specs.Collecting.{is_in_block}
use Rattle.fa_machine.specs.Copies.{holders}
use Rattle.fa_machine.specs.Maps.{place_cmp}
use Rattle.fa_machine.specs.Run.{HappensEvent, Run}
use Rattle.fa_machine.specs.State.{Reservation, used_at}
use Rattle.fa_machine.specs.Step.{Fold}
use Rattle.fa_machine.specs.Taking.{Handed, handed}
use Rattle.fa_machine.specs.World.{Accepted, DieImage, ErasesBlock, GaveCell, Syncs, Work, World, with_cell}
use Rattle.fa_machine.specs.declared.jobs.Flight.TheVariants.{Header}
use Rattle.fa_machine.specs.declared.places.Copying.{Copying}
use Rattle.fa_machine.specs.declared.places.Target.{Target}
use Rattle.fa_machine.specs.declared.places.Used.TheVariants.{Stale}
use Rattle.fa_types.specs.declared.kind.Kind.TheVariants.{Data}
use Rattle.fa_types.specs.Geometry.{IsGeometry}
use Rattle.fa_types.specs.declared.geometry.Geometry.{Geometry}
use Rattle.std.proofs.Common.{Bool, List, None, Some, [], arith, eqb-true, false, length, refl, suc, sym, true, ℕ, ◌∙◌, ◌∷◌, ◌≡◌}
use Rattle.std.proofs.lemmas.Bool.{and_parts, false_from_ne_true, true≢false}
use Rattle.std.specs.FinMap.{get-from_sorted}
use Rattle.std.specs.Prelude.{count_by, if◌then◌else◌, ◌&&◌, ◌||◌, ◌==◌}

one_of : (x y z : Bool) → (x && y) ≡ false → (x && z) ≡ false → (y && z) ≡ false
    → ◌≡◌ {A = ℕ} (count_by (λ (b : Bool). b) (x ∷ y ∷ z ∷ [])) (if ((x || (y || (z || false))) || false) || false then 1 else 0)
one_of true true z a b c = absurd (true≢false a)
one_of true false true a b c = absurd (true≢false b)
one_of true false false a b c = refl
one_of false true true a b c = absurd (true≢false c)
one_of false true false a b c = refl
one_of false false true a b c = refl
one_of false false false a b c = refl

not_both : (a b die : ℕ) → (a ≡ b → ⊥) → (a == die && b == die) ≡ false
not_both a b die apart = false_from_ne_true (a == die && b == die) (λ e.
    let parts = and_parts (a == die) (b == die) e in apart (eqb-true a die parts.0 ∙ sym (eqb-true b die parts.1)))

-- the holders of a page that is asked alone
lone_holders : (a b c : ℕ) → (a ≡ b → ⊥) → (a ≡ c → ⊥) → (b ≡ c → ⊥)
    → AreTheHolders (record { page = record { 0 = 0 }; holders = record { 0 = a } ∷ record { 0 = b } ∷ record { 0 = c } ∷ [] } ∷ []) (pages_of (0 ∷ []))
    (a ∷ b ∷ c ∷ [])
lone_holders a b c ab ac bc die = one_of (a == die) (b == die) (c == die) (not_both a b die ab) (not_both a c die ac) (not_both b c die bc)

module _ (size : ℕ) (within : IsGeometry 5 1 4 4 size 8) (bytes : ℕ → List ℕ) (sized : (page : ℕ) → length (bytes page) ≡ size) where
  abbrev g : Geometry
  g = lost.g size within bytes sized

  abbrev t0 : Table
  t0 = lost.t0 size within bytes sized

  abbrev t29 : Table
  t29 = lost.t29 size within bytes sized

  abbrev v29 : World
  v29 = lost.v29 size within bytes sized

  right : (page : ℕ) → (length (bytes page) == size) ≡ true
  right = lost.right size within bytes sized

  abbrev cell : ℕ → ℕ → ℕ → Cell
  cell = lost.cell size within bytes sized

  abbrev target : ℕ → ℕ → Bool → Target
  target = lost.target size within bytes sized

  -- what was reserved for page 3, as it is given up
  abbrev the_write : Reservation
  the_write = record {
    version = record { seq = record { 0 = 2 }; kind = Data };
    targets = target 3 0 false ∷ target 1 1 false ∷ target 4 1 false ∷ [];
  }

  abbrev the_copy : Copying
  the_copy = record { page = record { 0 = 0 }; version = write_of 0; target = target 4 0 true }

  -- a job whose first call was accepted
  abbrev half_done : Handed → Work
  half_done job = record { job = job; gave = Accepted ∷ [] }

  -- an image whose block 0 is erased
  abbrev emptied : DieImage → DieImage
  emptied image = record image { seen = λ slot. if is_in_block (core_of g t0).page_map 0 slot then Empty else image.seen slot }

  abbrev pub t30 : Table
  t30 = brought 4 t29

  abbrev pub v30 : World
  v30 = record v29 { moment = suc v29.moment }

  abbrev pub t31 : Table
  t31 = head_taken 1 30 t30

  abbrev pub v31 : World
  v31 = took 1 (handed (Header 3 30)) v30

  abbrev pub v32 : World
  v32 = called 1 Accepted (headed 3 30 (v31.images 1)) (fresh g (handed (Header 3 30))) v31

  abbrev pub t33 : Table
  t33 = head_done 1 t31

  abbrev pub v33 : World
  v33 = did 1 (Header 3 30) DidWriteHeader v32

  abbrev pub t34 : Table
  t34 = head_taken 2 30 t33

  abbrev pub v34 : World
  v34 = took 2 (handed (Header 3 30)) v33

  abbrev pub v35 : World
  v35 = called 2 Accepted (headed 3 30 (v34.images 2)) (fresh g (handed (Header 3 30))) v34

  abbrev pub t36 : Table
  t36 = head_done 2 t34

  abbrev pub v36 : World
  v36 = did 2 (Header 3 30) DidWriteHeader v35

  abbrev pub t37 : Table
  t37 = head_taken 3 30 t36

  abbrev pub v37 : World
  v37 = took 3 (handed (Header 3 30)) v36

  abbrev pub v38 : World
  v38 = called 3 Accepted (headed 3 30 (v37.images 3)) (fresh g (handed (Header 3 30))) v37

  abbrev pub t39 : Table
  t39 = head_done 3 t37

  abbrev pub v39 : World
  v39 = did 3 (Header 3 30) DidWriteHeader v38

  abbrev pub t40 : Table
  t40 = head_taken 4 30 t39

  abbrev pub v40 : World
  v40 = took 4 (handed (Header 3 30)) v39

  abbrev pub v41 : World
  v41 = called 4 Accepted (headed 3 30 (v40.images 4)) (fresh g (handed (Header 3 30))) v40

  abbrev pub t42 : Table
  t42 = head_done 4 t40

  abbrev pub v42 : World
  v42 = did 4 (Header 3 30) DidWriteHeader v41

  pub mending_it : Run (at g t29 v29) mending (at g t42 v42)
  mending_it = (
    at g t30 v30,
    brings_in g t29 v29 4 tt tt refl refl,
    (
      at g t31 v31,
      takes_header g t30 v30 1 0 30 tt refl refl refl refl,
      (
        at g t31 v32,
        writes_header g t31 v31 1 3 30 refl,
        (
          at g t33 v33,
          ends_header g t31 v32 1 3 30 tt refl refl refl,
          (
            at g t34 v34,
            takes_header g t33 v33 2 0 30 tt refl refl refl refl,
            (
              at g t34 v35,
              writes_header g t34 v34 2 3 30 refl,
              (
                at g t36 v36,
                ends_header g t34 v35 2 3 30 tt refl refl refl,
                (
                  at g t37 v37,
                  takes_header g t36 v36 3 0 30 tt refl refl refl refl,
                  (
                    at g t37 v38,
                    writes_header g t37 v37 3 3 30 refl,
                    (
                      at g t39 v39,
                      ends_header g t37 v38 3 3 30 tt refl refl refl,
                      (
                        at g t40 v40,
                        takes_header g t39 v39 4 0 30 tt refl refl refl refl,
                        (
                          at g t40 v41,
                          writes_header g t40 v40 4 3 30 refl,
                          (
                            at g t42 v42,
                            ends_header g t40 v41 4 3 30 tt refl refl refl,
                            refl,
                          ),
                        ),
                      ),
                    ),
                  ),
                ),
              ),
            ),
          ),
        ),
      ),
    ),
  )

  abbrev second_entries : List Entry
  second_entries = entries_in g t42 (left_in g t42 0 (0 ∷ []) [])

  second_certificate : IsCertificate second_entries 1 (closed_in g t42 (released_in g 0 t42.bookings)) 1 (read_on 1 1).places (read_on 1 1).shortage
  second_certificate = record {
    plan = worked_plan second_entries 1 (closed_in g t42 (released_in g 0 t42.bookings)) (read_on 1 1).places refl;
    length_is = refl;
    least = worked_shortage second_entries 1 (closed_in g t42 (released_in g 0 t42.bookings)) (read_on 1 1).places 0 (read_on 1 1).shortage (1 ∷ 2 ∷ []) (three_holders second_entries (pages_of (0 ∷ [])) (1 ∷ 2 ∷ []) refl refl refl refl refl) refl;
  }

  second_rounds : AreFirstRounds 1 (closed_in g t42 (released_in g 0 t42.bookings)) (read_on 1 1).places
  second_rounds = worked_first second_entries 1 (closed_in g t42 (released_in g 0 t42.bookings)) (read_on 1 1).places refl

  abbrev pub t43 : Table
  t43 = replanned_in g 0 (read_on 1 1) t42

  abbrev pub v43 : World
  v43 = record v42 { moment = suc v42.moment }

  abbrev pub t44 : Table
  t44 = read_taken 1 0 (record { 0 = 0 }) (record { 0 = 0 }) (write_of 0) 0 t43

  abbrev pub v44 : World
  v44 = took 1 (read_of_page 0 0) v43

  abbrev pub v45 : World
  v45 = called 1 (GaveCell (cell 1 0 0)) (v44.images 1) (fresh g (read_of_page 0 0)) v44

  abbrev pub t46 : Table
  t46 = read_done 1 0 0 (bytes 0) (0 ∷ []) [] t44

  abbrev pub v46 : World
  v46 = did_read 1 (record { 0 = 0 }) (record { 0 = 0 }) (write_of 0) (bytes 0) v45

  abbrev pub t47 : Table
  t47 = batch_ended g 0 t46

  abbrev pub v47 : World
  v47 = record v46 { moment = suc v46.moment }

  pub answering_it : Run (at g t42 v42) (answering bytes) (at g t47 v47)
  answering_it = (
    at g t43 v43,
    replans g t42 (in_order t42 tt) 0 (0 ∷ []) [] tt refl v42 (read_on 1 1) tt refl refl second_certificate second_rounds refl refl,
    (
      at g t44 v44,
      takes_read g t43 v43 1 0 (record { 0 = 0 }) (record { 0 = 0 }) (write_of 0) 0 tt refl refl refl refl refl refl (copies_same g t43 (in_order t43 tt) 0 1),
      (
        at g t44 v45,
        gives_cell g t44 v44 1 (record { 0 = 0 }) (record { 0 = 0 }) (write_of 0) (record { 0 = 0 }) (cell 1 0 0) refl refl,
        (
          at g t46 v46,
          ends_read g t44 v45 1 (record { 0 = 0 }) (record { 0 = 0 }) (write_of 0) (record { 0 = 0 }) (cell 1 0 0) (bytes 0) (0 ∷ []) [] tt tt refl refl refl (right 0) refl,
          (
            at g t47 v47,
            ends_batch g t46 (in_order t46 tt) 0 (0 ∷ []) ((0, bytes 0) ∷ []) tt refl v46 ((0, bytes 0) ∷ []) tt refl,
            refl,
          ),
        ),
      ),
    ),
  )

  abbrev pub t48 : Table
  t48 = copy_reserved g 0 (bytes 0) (write_of 0) 4 t47

  abbrev pub v48 : World
  v48 = record v47 { moment = suc v47.moment }

  abbrev pub t49 : Table
  t49 = program_taken 4 (lasting_program_of_page 0 0 (write_of 0) (bytes 0)) t48

  abbrev pub v49 : World
  v49 = took 4 (lasting_program_of_page 0 0 (write_of 0) (bytes 0)) v48

  abbrev pub v50 : World
  v50 = called 4 Accepted (with_cell 0 (cell 4 0 0) (v49.images 4)) (fresh g (lasting_program_of_page 0 0 (write_of 0) (bytes 0))) v49

  abbrev pub v50_synced : World
  v50_synced = called 4 Accepted (v50.images 4) (half_done (lasting_program_of_page 0 0 (write_of 0) (bytes 0))) v50

  abbrev pub t51 : Table
  t51 = program_done 0 4 0 t49

  abbrev pub v51 : World
  v51 = did 4 (lasting_program_of_page 0 0 (write_of 0) (bytes 0)).flight DidProgram v50_synced

  abbrev pub t52 : Table
  t52 = copy_committed the_copy t51

  abbrev pub v52 : World
  v52 = record v51 { moment = suc v51.moment }

  pub copying_it : Run (at g t47 v47) (copying bytes) (at g t52 v52)
  copying_it = (
    at g t48 v48,
    reserves_copy g t47 (in_order t47 tt) v47 0 1 (bytes 0) (write_of 0) 4 refl (right 0) refl refl refl (0, omega arith, refl),
    (
      at g t49 v49,
      takes_program g t48 v48 4 0 (record { 0 = 0 }) (write_of 0) (record { 0 = 0 }) (bytes 0) true tt tt refl refl refl refl,
      (
        at g t49 v50,
        takes_cell g t49 v49 4 (record { 0 = 0 }) (write_of 0) (record { 0 = 0 }) (bytes 0) true refl,
        (
          at g t49 v50_synced,
          calls (at g t49 v50) 4 Accepted (v50.images 4) (half_done (lasting_program_of_page 0 0 (write_of 0) (bytes 0))) Syncs refl refl refl,
          (
            at g t51 v51,
            ends_program g t49 v50_synced 4 (record { 0 = 0 }) (write_of 0) (record { 0 = 0 }) tt tt refl refl,
            (
              at g t52 v52,
              commits_copy g t51 (in_order t51 tt) v51 the_copy refl refl refl refl,
              refl,
            ),
          ),
        ),
      ),
    ),
  )

  pub again : holders (core_of g t52).page_map 0 ≡ 1 ∷ 2 ∷ 4 ∷ []
  again = holders_same g t52 (in_order t52 tt) 0

  abbrev pub t53 : Table
  t53 = claimed_in 0 3 t52

  abbrev pub v53 : World
  v53 = record v52 { moment = suc v52.moment }

  abbrev pub t54 : Table
  t54 = reserved_in g 0 3 Data (bytes 3) t53

  abbrev pub v54 : World
  v54 = keeps_payload 3 2 (bytes 3) v53

  abbrev pub t55 : Table
  t55 = abandoned_in 0 3 the_write t54

  abbrev pub v55 : World
  v55 = record v54 { moment = suc v54.moment }

  abbrev pub t56 : Table
  t56 = released_claim 0 t55

  abbrev pub v56 : World
  v56 = record v55 { moment = suc v55.moment }

  pub giving_it_up : Run (at g t52 v52) (giving_up bytes) (at g t56 v56)
  giving_it_up = (
    at g t53 v53,
    claims_page g t52 v52 3 (record { 0 = 0 }) tt refl refl refl,
    (
      at g t54 v54,
      reserves g t53 v53 0 3 (bytes 3) (record { 0 = 2 }) tt refl refl refl (right 3),
      (
        at g t55 v55,
        abandons g t54 (in_order t54 tt) 0 3 the_write refl v54 refl,
        (
          at g t56 v56,
          releases g t55 v55 0 3 tt refl,
          refl,
        ),
      ),
    ),
  )

  pub stale : used_at (core_of g t56).page_map 3 0 ≡ Some Stale
  stale = get-from_sorted place_cmp t56.used (3, 0) tt

  abbrev pub t57 : Table
  t57 = windowed 3 (record { 0 = 2 }) (record { 0 = 2 }) t56

  abbrev pub v57 : World
  v57 = record v56 { moment = suc v56.moment }

  abbrev pub t58 : Table
  t58 = advanced t57

  abbrev pub v58 : World
  v58 = record v57 { moment = suc v57.moment }

  abbrev pub t59 : Table
  t59 = erase_taken 3 (record { 0 = 0 }) t58

  abbrev pub v59 : World
  v59 = took 3 the_erase v58

  abbrev pub v59_synced : World
  v59_synced = called 3 Accepted (v59.images 3) (fresh g the_erase) v59

  abbrev pub v60 : World
  v60 = called 3 Accepted (emptied (v59_synced.images 3)) (half_done the_erase) v59_synced

  abbrev pub t61 : Table
  t61 = erase_done g 3 (record { 0 = 0 }) t59

  abbrev pub v61 : World
  v61 = did 3 the_erase.flight DidErase v60

  pub erasing_it : Run (at g t56 v56) erasing (at g t61 v61)
  erasing_it = (
    at g t57 v57,
    takes_window g t56 (in_order t56 tt) 3 v56 1 (record { 0 = 2 }) (record { 0 = 2 }) refl refl refl refl refl refl,
    (
      at g t58 v58,
      advances g t57 v57 (record { 0 = 2 }) tt tt refl refl refl refl,
      (
        at g t59 v59,
        takes_erase g t58 (in_order t58 tt) 3 v58 0 (record { 0 = 0 }) refl refl refl refl refl,
        (
          at g t59 v59_synced,
          calls (at g t59 v59) 3 Accepted (v59.images 3) (fresh g the_erase) Syncs refl refl refl,
          (
            at g t59 v60,
            calls (at g t59 v59_synced) 3 Accepted (emptied (v59_synced.images 3)) (half_done the_erase) (ErasesBlock 0) refl refl refl,
            (
              at g t61 v61,
              ends_erase g t59 v60 3 (record { 0 = 0 }) tt tt refl refl,
              refl,
            ),
          ),
        ),
      ),
    ),
  )

  pub is_erased : used_at (core_of g t61).page_map 3 0 ≡ None
  is_erased = get-from_sorted place_cmp t61.used (3, 0) tt

  abbrev pub t62 : Table
  t62 = folded_in t61

  abbrev pub v62 : World
  v62 = record v61 { moment = suc v61.moment }

  pub folding_it : HappensEvent (at g t61 v61) Fold (at g t62 v62)
  folding_it = folds g t61 v61 tt

  abbrev third_entries : List Entry
  third_entries = entries_in g t62 (read_in g t62 (0 ∷ []))

  third_certificate : IsCertificate third_entries 2 (closed_in g t62 t62.bookings) 1 (read_on 4 2).places (read_on 4 2).shortage
  third_certificate = record {
    plan = worked_plan third_entries 2 (closed_in g t62 t62.bookings) (read_on 4 2).places refl;
    length_is = refl;
    least = worked_shortage third_entries 2 (closed_in g t62 t62.bookings) (read_on 4 2).places 0 (read_on 4 2).shortage (1 ∷ 2 ∷ 4 ∷ []) (lone_holders 1 2 4 (λ e. omega (arith, e)) (λ e. omega (arith, e)) (λ e. omega (arith, e))) refl;
  }

  third_rounds : AreFirstRounds 2 (closed_in g t62 t62.bookings) (read_on 4 2).places
  third_rounds = worked_first third_entries 2 (closed_in g t62 t62.bookings) (read_on 4 2).places refl

  abbrev pub t63 : Table
  t63 = admitted_in g (record { 0 = 0 }) (read_on 4 2) (0 ∷ []) t62

  abbrev pub v63 : World
  v63 = admits_beside g 0 (0 ∷ []) t62 v62

  abbrev pub t64 : Table
  t64 = read_taken 4 0 (record { 0 = 0 }) (record { 0 = 0 }) (write_of 0) 0 t63

  abbrev pub v64 : World
  v64 = took 4 (read_of_page 0 0) v63

  abbrev pub v65 : World
  v65 = called 4 (GaveCell (cell 4 0 0)) (v64.images 4) (fresh g (read_of_page 0 0)) v64

  abbrev pub t66 : Table
  t66 = read_done 4 0 0 (bytes 0) (0 ∷ []) [] t64

  abbrev pub v66 : World
  v66 = did_read 4 (record { 0 = 0 }) (record { 0 = 0 }) (write_of 0) (bytes 0) v65

  abbrev pub t67 : Table
  t67 = batch_ended g 0 t66

  abbrev pub v67 : World
  v67 = record v66 { moment = suc v66.moment }

  pub reading_it : Run (at g t62 v62) (reading_again bytes) (at g t67 v67)
  reading_it = (
    at g t63 v63,
    admits g t62 v62 (0 ∷ []) (record { 0 = 0 }) (read_on 4 2) tt refl refl refl third_certificate third_rounds refl refl refl,
    (
      at g t64 v64,
      takes_read g t63 v63 4 0 (record { 0 = 0 }) (record { 0 = 0 }) (write_of 0) 0 tt refl refl refl refl refl refl (copies_same g t63 (in_order t63 tt) 0 4),
      (
        at g t64 v65,
        gives_cell g t64 v64 4 (record { 0 = 0 }) (record { 0 = 0 }) (write_of 0) (record { 0 = 0 }) (cell 4 0 0) refl refl,
        (
          at g t66 v66,
          ends_read g t64 v65 4 (record { 0 = 0 }) (record { 0 = 0 }) (write_of 0) (record { 0 = 0 }) (cell 4 0 0) (bytes 0) (0 ∷ []) [] tt tt refl refl refl (right 0) refl,
          (
            at g t67 v67,
            ends_batch g t66 (in_order t66 tt) 0 (0 ∷ []) ((0, bytes 0) ∷ []) tt refl v66 ((0, bytes 0) ∷ []) tt refl,
            refl,
          ),
        ),
      ),
    ),
  )
