-- The torn batch is planned anew and answered, worked: each state by its lists.
use Rattle.fa_laws.proofs.TornBatch as torn
use Rattle.fa_batch_terms.specs.Batch.{Entry}
use Rattle.fa_batch_terms.specs.Certificate.{IsCertificate}
use Rattle.fa_batch_terms.specs.Plan.{AreFirstRounds}
use Rattle.fa_laws.proofs.Certified.{three_holders, worked_first, worked_plan, worked_shortage}
use Rattle.fa_laws.proofs.Making.{called}
use Rattle.fa_laws.proofs.Planning.{closed_in, copies_same, entries_in, left_in, released_in, replanned_in, replans}
use Rattle.fa_laws.proofs.Table.{Table, core_of, in_order}
use Rattle.fa_laws.proofs.Tabled.{advanced, advances, at, did, did_read, ends_header, ends_read, fresh, gives_cell, head_done, headed}
use Rattle.fa_laws.proofs.Tabled.{head_taken, read_done, read_taken, takes_header, takes_read, took, writes_header}
use Rattle.fa_laws.specs.EightPages.{cell_in, eight, held_slots, write_of, written_in_turn}
use Rattle.fa_laws.specs.FailingDie.{planning_anew, reading_on, second_plan}
use Rattle.fa_laws.specs.Telling.{read_of_page}
use Rattle.fa_machine.specs.Cells.{Cell, DidWriteHeader}
use Rattle.fa_machine.specs.Maps.{place_cmp}
use Rattle.fa_machine.specs.Run.{Run}
use Rattle.fa_machine.specs.Taking.{handed}
use Rattle.fa_machine.specs.World.{Accepted, GaveCell, World}
use Rattle.fa_machine.specs.declared.jobs.Flight.TheVariants.{Header}
use Rattle.fa_types.specs.Geometry.{IsGeometry}
use Rattle.fa_types.specs.declared.geometry.Geometry.{Geometry}
use Rattle.std.proofs.Common.{Bool, List, Some, [], ap, length, map, refl, subst, suc, sym, true, ℕ, ◌∷◌, ◌≡◌}
use Rattle.std.specs.FinMap.{find as find_entry, get-from_sorted}
use Rattle.std.specs.Prelude.{option_and_then, option_map, ◌==◌}
use Rattle.fa_laws.proofs.Placing.{targets_same}
use Rattle.fa_laws.proofs.Planning.{batch_ended, certified, ends_batch, released_same, results_same}
use Rattle.fa_laws.proofs.Writes.{claimed_in, claims_page, keeps_payload, reserved_in, reserves}
use Rattle.fa_laws.specs.FailingDie.{later_write}
use Rattle.fa_machine.specs.Conditions.{reserved_under}
use Rattle.fa_machine.specs.Placement.{targets}
use Rattle.fa_machine.specs.Reading.{entries_for, released, results}
use Rattle.fa_machine.specs.Rounds.{is_closed}
use Rattle.fa_machine.specs.Run.{HappensEvent}
use Rattle.fa_machine.specs.State.{CalendarState, OpenClaim, Reservation}
use Rattle.fa_machine.specs.Step.{EndBatch}
use Rattle.fa_machine.specs.declared.answers.ReadState.TheVariants.{Ready}
use Rattle.fa_types.specs.declared.kind.Kind.TheVariants.{Data}
use Rattle.std.specs.Ordering.{nat_cmp}

module _ (size : ℕ) (within : IsGeometry 3 0 16 8 size 64) (bytes : ℕ → List ℕ) (sized : (page : ℕ) → length (bytes page) ≡ size) where
  abbrev pub g : Geometry
  g = torn.g size within bytes sized

  abbrev pub t29 : Table
  t29 = torn.t29 size within bytes sized

  abbrev pub v29 : World
  v29 = torn.v29 size within bytes sized

  abbrev cell : ℕ → ℕ → ℕ → Cell
  cell = torn.cell size within bytes sized

  abbrev answers_of : List ℕ → List (ℕ × List ℕ)
  answers_of = torn.answers_of size within bytes sized

  there : (die slot : ℕ) → cell_in bytes die slot (find_entry place_cmp (die, slot) held_slots) ≡ ((written_in_turn g bytes).images die).seen slot
  there = torn.there size within bytes sized

  right : (page : ℕ) → (length (bytes page) == size) ≡ true
  right = torn.right size within bytes sized

  abbrev pub t30 : Table
  t30 = head_taken 0 5 t29

  abbrev pub v30 : World
  v30 = took 0 (handed (Header 2 5)) v29

  abbrev pub v31 : World
  v31 = called 0 Accepted (headed 2 5 (v30.images 0)) (fresh g (handed (Header 2 5))) v30

  abbrev pub t32 : Table
  t32 = head_done 0 t30

  abbrev pub v32 : World
  v32 = did 0 (Header 2 5) DidWriteHeader v31

  abbrev pub t33 : Table
  t33 = head_taken 2 5 t32

  abbrev pub v33 : World
  v33 = took 2 (handed (Header 2 5)) v32

  abbrev pub v34 : World
  v34 = called 2 Accepted (headed 2 5 (v33.images 2)) (fresh g (handed (Header 2 5))) v33

  abbrev pub t35 : Table
  t35 = head_done 2 t33

  abbrev pub v35 : World
  v35 = did 2 (Header 2 5) DidWriteHeader v34

  abbrev pub t36 : Table
  t36 = replanned_in g 0 second_plan t35

  abbrev pub v36 : World
  v36 = record v35 { moment = suc v35.moment }

  abbrev second_left : List ℕ
  second_left = left_in g t35 0 eight (answers_of (0 ∷ 1 ∷ 2 ∷ 3 ∷ 5 ∷ []))

  abbrev second_entries : List Entry
  second_entries = entries_in g t35 second_left

  abbrev second_closed : ℕ → ℕ → Bool
  second_closed = closed_in g t35 (released_in g 0 t35.bookings)

  pub second_certificate : IsCertificate second_entries 2 second_closed 3 second_plan.places second_plan.shortage
  second_certificate = record {
    plan = worked_plan second_entries 2 second_closed second_plan.places refl;
    length_is = refl;
    least = worked_shortage second_entries 2 second_closed second_plan.places 2 second_plan.shortage (0 ∷ [])
        (three_holders second_entries second_plan.shortage (0 ∷ []) refl refl refl refl refl) refl;
  }

  second_rounds : AreFirstRounds 2 second_closed second_plan.places
  second_rounds = worked_first second_entries 2 second_closed second_plan.places refl

  pub planning : Run (at g t29 v29) (planning_anew) (at g t36 v36)
  planning = (
    at g t30 v30,
    takes_header g t29 v29 0 0 5 tt refl refl refl refl,
    (
      at g t30 v31,
      writes_header g t30 v30 0 2 5 refl,
      (
        at g t32 v32,
        ends_header g t30 v31 0 2 5 tt refl refl refl,
        (
          at g t33 v33,
          takes_header g t32 v32 2 0 5 tt refl refl refl refl,
          (
            at g t33 v34,
            writes_header g t33 v33 2 2 5 refl,
            (
              at g t35 v35,
              ends_header g t33 v34 2 2 5 tt refl refl refl,
              (
                at g t36 v36,
                replans g t35 (in_order t35 tt) 0 eight (answers_of (0 ∷ 1 ∷ 2 ∷ 3 ∷ 5 ∷ [])) tt refl v35 second_plan tt refl refl second_certificate second_rounds refl refl,
                (
                    refl),
              ),
            ),
          ),
        ),
      ),
    ),
  )

  abbrev pub t37 : Table
  t37 = advanced t36

  abbrev pub v37 : World
  v37 = record v36 { moment = suc v36.moment }

  abbrev pub t38 : Table
  t38 = read_taken 0 0 (record { 0 = 0 }) (record { 0 = 4 }) (write_of 4) 3 t37

  abbrev pub v38 : World
  v38 = took 0 (read_of_page 4 3) v37

  abbrev pub t39 : Table
  t39 = read_taken 2 0 (record { 0 = 0 }) (record { 0 = 7 }) (write_of 7) 4 t38

  abbrev pub v39 : World
  v39 = took 2 (read_of_page 7 4) v38

  abbrev pub v40 : World
  v40 = called 0 (GaveCell (cell 0 4 3)) (v39.images 0) (fresh g (read_of_page 4 3)) v39

  abbrev pub t41 : Table
  t41 = read_done 0 0 4 (bytes 4) eight (answers_of (0 ∷ 1 ∷ 2 ∷ 3 ∷ 5 ∷ [])) t39

  abbrev pub v41 : World
  v41 = did_read 0 (record { 0 = 0 }) (record { 0 = 4 }) (write_of 4) (bytes 4) v40

  abbrev pub v42 : World
  v42 = called 2 (GaveCell (cell 2 7 4)) (v41.images 2) (fresh g (read_of_page 7 4)) v41

  abbrev pub t43 : Table
  t43 = read_done 2 0 7 (bytes 7) eight (answers_of (0 ∷ 1 ∷ 2 ∷ 3 ∷ 4 ∷ 5 ∷ [])) t41

  abbrev pub v43 : World
  v43 = did_read 2 (record { 0 = 0 }) (record { 0 = 7 }) (write_of 7) (bytes 7) v42

  abbrev pub t44 : Table
  t44 = advanced t43

  abbrev pub v44 : World
  v44 = record v43 { moment = suc v43.moment }

  abbrev pub t45 : Table
  t45 = read_taken 0 0 (record { 0 = 0 }) (record { 0 = 6 }) (write_of 6) 4 t44

  abbrev pub v45 : World
  v45 = took 0 (read_of_page 6 4) v44

  abbrev pub v46 : World
  v46 = called 0 (GaveCell (cell 0 6 4)) (v45.images 0) (fresh g (read_of_page 6 4)) v45

  abbrev pub t47 : Table
  t47 = read_done 0 0 6 (bytes 6) eight (answers_of (0 ∷ 1 ∷ 2 ∷ 3 ∷ 4 ∷ 5 ∷ 7 ∷ [])) t45

  abbrev pub v47 : World
  v47 = did_read 0 (record { 0 = 0 }) (record { 0 = 6 }) (write_of 6) (bytes 6) v46

  pub reading : Run (at g t36 v36) (reading_on bytes) (at g t47 v47)
  reading = (
    at g t37 v37,
    advances g t36 v36 (record { 0 = 3 }) tt tt refl refl refl refl,
    (
      at g t38 v38,
      takes_read g t37 v37 0 0 (record { 0 = 0 }) (record { 0 = 4 }) (write_of 4) 3 tt refl refl refl refl refl refl (copies_same g t37 (in_order t37 tt) 4 0),
      (
        at g t39 v39,
        takes_read g t38 v38 2 0 (record { 0 = 0 }) (record { 0 = 7 }) (write_of 7) 4 tt refl refl refl refl refl refl (copies_same g t38 (in_order t38 tt) 7 2),
        (
          at g t39 v40,
          gives_cell g t39 v39 0 (record { 0 = 0 }) (record { 0 = 4 }) (write_of 4) (record { 0 = 3 }) (cell 0 4 3) refl (there 0 3),
          (
            at g t41 v41,
            ends_read g t39 v40 0 (record { 0 = 0 }) (record { 0 = 4 }) (write_of 4) (record { 0 = 3 }) (cell 0 4 3) (bytes 4) eight (answers_of (0 ∷ 1 ∷ 2 ∷ 3 ∷ 5 ∷ [])) tt tt refl refl refl (right 4) refl,
            (
              at g t41 v42,
              gives_cell g t41 v41 2 (record { 0 = 0 }) (record { 0 = 7 }) (write_of 7) (record { 0 = 4 }) (cell 2 7 4) refl (there 2 4),
              (
                at g t43 v43,
                ends_read g t41 v42 2 (record { 0 = 0 }) (record { 0 = 7 }) (write_of 7) (record { 0 = 4 }) (cell 2 7 4) (bytes 7) eight (answers_of (0 ∷ 1 ∷ 2 ∷ 3 ∷ 4 ∷ 5 ∷ [])) tt tt refl refl refl (right 7) refl,
                (
                  at g t44 v44,
                  advances g t43 v43 (record { 0 = 4 }) tt tt refl refl refl refl,
                  (
                    at g t45 v45,
                    takes_read g t44 v44 0 0 (record { 0 = 0 }) (record { 0 = 6 }) (write_of 6) 4 tt refl refl refl refl refl refl (copies_same g t44 (in_order t44 tt) 6 0),
                    (
                      at g t45 v46,
                      gives_cell g t45 v45 0 (record { 0 = 0 }) (record { 0 = 6 }) (write_of 6) (record { 0 = 4 }) (cell 0 6 4) refl (there 0 4),
                      (
                        at g t47 v47,
                        ends_read g t45 v46 0 (record { 0 = 0 }) (record { 0 = 6 }) (write_of 6) (record { 0 = 4 }) (cell 0 6 4) (bytes 6) eight (answers_of (0 ∷ 1 ∷ 2 ∷ 3 ∷ 4 ∷ 5 ∷ 7 ∷ [])) tt tt refl refl refl (right 6) refl,
                        (
                            refl),
                      ),
                    ),
                  ),
                ),
              ),
            ),
          ),
        ),
      ),
    ),
  )

  abbrev pub t48 : Table
  t48 = batch_ended g 0 t47

  abbrev pub v48 : World
  v48 = record v47 { moment = suc v47.moment }

  pub ending : HappensEvent (at g t47 v47) (EndBatch 0 (answers_of eight)) (at g t48 v48)
  ending = ends_batch g t47 (in_order t47 tt) 0 eight (answers_of eight) tt refl v47 (answers_of eight) tt refl

  pub is_ready_there : results (core_of g t47) 0 ≡ Ready
  is_ready_there = results_same g t47 (in_order t47 tt) 0 eight (answers_of eight) tt refl

  pub least_second : IsCertificate (entries_for (core_of g t29).page_map (4 ∷ 6 ∷ 7 ∷ [])) 2
      (is_closed (core_of g t29).page_map (released 0 (core_of g t29).calendar)) 3 second_plan.places second_plan.shortage
  least_second = subst (λ (calendar : CalendarState). IsCertificate (entries_for (core_of g t29).page_map (4 ∷ 6 ∷ 7 ∷ [])) 2
      (is_closed (core_of g t29).page_map calendar) 3 second_plan.places second_plan.shortage)
      (sym (released_same g t29 (in_order t29 tt) 0 eight (answers_of (0 ∷ 1 ∷ 2 ∷ 3 ∷ 5 ∷ [])) tt refl tt))
      (certified g t29 (in_order t29 tt) (released_in g 0 t29.bookings) tt (4 ∷ 6 ∷ 7 ∷ []) 3 second_plan.places second_plan.shortage second_certificate)

  pub later_targets : targets (core_of g t48).copies (core_of g t48).page_map 1 ≡ 2 ∷ 0 ∷ []
  later_targets = targets_same g t48 (in_order t48 tt) 1

  abbrev pub t49 : Table
  t49 = claimed_in 0 1 t48

  abbrev pub v49 : World
  v49 = record v48 { moment = suc v48.moment }

  abbrev pub t50 : Table
  t50 = reserved_in g 0 1 Data (bytes 1) t49

  abbrev pub v50 : World
  v50 = keeps_payload 1 9 (bytes 1) v49

  pub rewriting : Run (at g t48 v48) (later_write bytes) (at g t50 v50)
  rewriting = (
    at g t49 v49,
    claims_page g t48 v48 1 (record { 0 = 0 }) tt refl refl refl,
    (
      at g t50 v50,
      reserves g t49 v49 0 1 (bytes 1) (record { 0 = 9 }) tt refl refl refl (right 1),
      (
          refl),
    ),
  )

  pub reserved_there : option_map {T = Reservation} (λ r. map (λ t. t.die.0) r.targets) (reserved_under (core_of g t50) 0) ≡ Some (2 ∷ 0 ∷ [])
  reserved_there = ap (λ x. option_map {T = Reservation} (λ r. map (λ t. t.die.0) r.targets) (option_and_then (λ (c : OpenClaim). c.reserved) x))
      (get-from_sorted nat_cmp t50.claims 0 tt)
