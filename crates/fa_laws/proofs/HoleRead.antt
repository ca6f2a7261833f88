-- A batch with a hole, a read whose page is moved before it is taken, and a flush: each state by its lists.
use Rattle.fa_laws.proofs.HoleWritten as written
use Rattle.fa_batch_terms.specs.Batch.{Entry}
use Rattle.fa_batch_terms.specs.Certificate.{IsCertificate}
use Rattle.fa_batch_terms.specs.Plan.{AreFirstRounds}
use Rattle.fa_laws.proofs.Certified.{three_holders, worked_first, worked_plan, worked_shortage}
use Rattle.fa_laws.proofs.Collects.{begins_flush, ends_move, ends_sync, flush_begun, looks_at_flush, move_done, move_taken, sync_done, takes_move}
use Rattle.fa_laws.proofs.Collects.{takes_window, windowed}
use Rattle.fa_laws.proofs.Making.{called, calls}
use Rattle.fa_laws.proofs.Planning.{admits, admits_beside, admitted_in, batch_ended, closed_in, copies_same, ends_batch, entries_in, read_in}
use Rattle.fa_laws.proofs.Table.{Table, core_of, in_order}
use Rattle.fa_laws.proofs.Tabled.{advanced, advances, at, did, did_read, ends_read, fresh, gives_cell}
use Rattle.fa_laws.proofs.Tabled.{read_done, read_taken, takes_read, took}
use Rattle.fa_laws.proofs.Writes.{sync_taken, takes_sync, zero_bytes}
use Rattle.fa_laws.specs.EightPages.{write_of}
use Rattle.fa_laws.specs.HoleAndMove.{admits_three, flushing, moving, opening_a_window, reading, the_flush, the_move, two_rounds}
use Rattle.fa_laws.specs.Telling.{read_of_page}
use Rattle.fa_machine.specs.Cells.{Cell, DidMove, DidSync, Sealed}
use Rattle.fa_machine.specs.Copies.{copy_on}
use Rattle.fa_machine.specs.Maps.{place_cmp}
use Rattle.fa_machine.specs.Reading.{batch_at}
use Rattle.fa_machine.specs.Run.{HappensEvent, Run}
use Rattle.fa_machine.specs.State.{OpenBatch}
use Rattle.fa_machine.specs.Step.{EndBatch}
use Rattle.fa_machine.specs.Taking.{handed}
use Rattle.fa_machine.specs.World.{Accepted, GaveCell, ProgramsSlot, ReadsSlot, Syncs, World, with_cell}
use Rattle.fa_machine.specs.declared.answers.FlushState.TheVariants.{Synced, Waiting}
use Rattle.fa_machine.specs.declared.jobs.Flight.TheVariants.{Sync}
use Rattle.fa_types.specs.Geometry.{IsGeometry}
use Rattle.fa_types.specs.declared.geometry.Geometry.{Geometry}
use Rattle.std.proofs.Common.{List, Some, [], ap, false, length, refl, suc, true, ℕ, ◌∙◌, ◌∷◌, ◌≡◌}
use Rattle.std.specs.FinMap.{empty, get, get-from_sorted}
use Rattle.std.specs.Ordering.{nat_cmp}
use Rattle.std.specs.Prelude.{unwrap_or, ◌==◌}

module _ (size : ℕ) (within : IsGeometry 2 0 4 4 size 8) (bytes : ℕ → List ℕ) (sized : (page : ℕ) → length (bytes page) ≡ size) where
  abbrev pub g : Geometry
  g = written.g size within bytes sized

  abbrev pub t46 : Table
  t46 = written.t46 size within bytes sized

  abbrev pub v46 : World
  v46 = written.v46 size within bytes sized

  right : (page : ℕ) → (length (bytes page) == size) ≡ true
  right = written.right size within bytes sized

  abbrev cell : ℕ → ℕ → ℕ → Cell
  cell die page slot = Sealed page (write_of page) die slot (bytes page)

  abbrev pub t47 : Table
  t47 = windowed 0 (record { 0 = 2 }) (record { 0 = 2 }) t46

  abbrev pub v47 : World
  v47 = record v46 { moment = suc v46.moment }

  abbrev pub t48 : Table
  t48 = advanced t47

  abbrev pub v48 : World
  v48 = record v47 { moment = suc v47.moment }

  pub opening : Run (at g t46 v46) (opening_a_window) (at g t48 v48)
  opening = (
    at g t47 v47,
    takes_window g t46 (in_order t46 tt) 0 v46 1 (record { 0 = 2 }) (record { 0 = 2 }) refl refl refl refl refl refl,
    (
      at g t48 v48,
      advances g t47 v47 (record { 0 = 2 }) tt tt refl refl refl refl,
      (
          refl),
    ),
  )

  abbrev pub t49 : Table
  t49 = admitted_in g (record { 0 = 0 }) two_rounds (0 ∷ 1 ∷ 2 ∷ []) t48

  abbrev pub v49 : World
  v49 = admits_beside g 0 (0 ∷ 1 ∷ 2 ∷ []) t48 v48

  abbrev entries : List Entry
  entries = entries_in g t48 (read_in g t48 (0 ∷ 1 ∷ 2 ∷ []))

  certificate : IsCertificate entries 2 (closed_in g t48 t48.bookings) 2 two_rounds.places two_rounds.shortage
  certificate = record {
    plan = worked_plan entries 2 (closed_in g t48 t48.bookings) two_rounds.places refl;
    length_is = refl;
    least = worked_shortage entries 2 (closed_in g t48 t48.bookings) two_rounds.places 1 two_rounds.shortage (0 ∷ 1 ∷ [])
        (three_holders entries two_rounds.shortage (0 ∷ 1 ∷ []) refl refl refl refl refl) refl;
  }

  first_rounds : AreFirstRounds 2 (closed_in g t48 t48.bookings) two_rounds.places
  first_rounds = worked_first entries 2 (closed_in g t48 t48.bookings) two_rounds.places refl

  pub admitting : HappensEvent (at g t48 v48) admits_three (at g t49 v49)
  admitting = admits g t48 v48 (0 ∷ 1 ∷ 2 ∷ []) (record { 0 = 0 }) two_rounds tt refl refl refl certificate first_rounds refl refl refl

  abbrev pub t50 : Table
  t50 = move_taken 0 (record { 0 = 1 }) (write_of 1) (record { 0 = 1 }) (record { 0 = 4 }) t49

  abbrev pub v50 : World
  v50 = took 0 the_move v49

  abbrev pub v51 : World
  v51 = called 0 (GaveCell (cell 0 1 1)) (v50.images 0) (fresh g the_move) v50

  abbrev pub v52 : World
  v52 = called 0 Accepted (with_cell 4 (cell 0 1 4) (v51.images 0)) (record { job = the_move; gave = GaveCell (cell 0 1 1) ∷ [] }) v51

  abbrev pub t53 : Table
  t53 = move_done 0 (record { 0 = 1 }) (write_of 1) (record { 0 = 1 }) (record { 0 = 4 }) t50

  abbrev pub v53 : World
  v53 = did 0 the_move.flight DidMove v52

  pub moving_it : Run (at g t49 v49) (moving bytes) (at g t53 v53)
  moving_it = (
    at g t50 v50,
    takes_move g t49 (in_order t49 tt) 0 v49 0 (record { 0 = 1 }) (write_of 1) (record { 0 = 1 }) (record { 0 = 4 }) refl refl refl refl refl,
    (
      at g t50 v51,
      calls (at g t50 v50) 0 (GaveCell (cell 0 1 1)) (v50.images 0) (fresh g the_move) (ReadsSlot 1) refl refl (refl, refl),
      (
        at g t50 v52,
        calls (at g t50 v51) 0 Accepted (with_cell 4 (cell 0 1 4) (v51.images 0)) (record { job = the_move; gave = GaveCell (cell 0 1 1) ∷ [] }) (ProgramsSlot 4 (cell 0 1 4)) refl refl refl,
        (
          at g t53 v53,
          ends_move g t50 (in_order t50 tt) 0 v52 (record { 0 = 1 }) (write_of 1) (record { 0 = 1 }) (record { 0 = 4 }) refl refl refl,
          (
              refl),
        ),
      ),
    ),
  )

  abbrev pub t54 : Table
  t54 = read_taken 1 0 (record { 0 = 0 }) (record { 0 = 2 }) (write_of 2) 2 t53

  abbrev pub v54 : World
  v54 = took 1 (read_of_page 2 2) v53

  abbrev pub v55 : World
  v55 = called 1 (GaveCell (cell 1 2 2)) (v54.images 1) (fresh g (read_of_page 2 2)) v54

  abbrev pub t56 : Table
  t56 = read_done 1 0 2 (bytes 2) (0 ∷ 1 ∷ 2 ∷ []) ((0, zero_bytes g) ∷ []) t54

  abbrev pub v56 : World
  v56 = did_read 1 (record { 0 = 0 }) (record { 0 = 2 }) (write_of 2) (bytes 2) v55

  abbrev pub t57 : Table
  t57 = advanced t56

  abbrev pub v57 : World
  v57 = record v56 { moment = suc v56.moment }

  abbrev pub t58 : Table
  t58 = read_taken 0 0 (record { 0 = 0 }) (record { 0 = 1 }) (write_of 1) 4 t57

  abbrev pub v58 : World
  v58 = took 0 (read_of_page 1 4) v57

  abbrev pub v59 : World
  v59 = called 0 (GaveCell (cell 0 1 4)) (v58.images 0) (fresh g (read_of_page 1 4)) v58

  abbrev pub t60 : Table
  t60 = read_done 0 0 1 (bytes 1) (0 ∷ 1 ∷ 2 ∷ []) ((0, zero_bytes g) ∷ (2, bytes 2) ∷ []) t58

  abbrev pub v60 : World
  v60 = did_read 0 (record { 0 = 0 }) (record { 0 = 1 }) (write_of 1) (bytes 1) v59

  pub reading_both : Run (at g t53 v53) (reading bytes) (at g t60 v60)
  reading_both = (
    at g t54 v54,
    takes_read g t53 v53 1 0 (record { 0 = 0 }) (record { 0 = 2 }) (write_of 2) 2 tt refl refl refl refl refl refl (copies_same g t53 (in_order t53 tt) 2 1),
    (
      at g t54 v55,
      gives_cell g t54 v54 1 (record { 0 = 0 }) (record { 0 = 2 }) (write_of 2) (record { 0 = 2 }) (cell 1 2 2) refl refl,
      (
        at g t56 v56,
        ends_read g t54 v55 1 (record { 0 = 0 }) (record { 0 = 2 }) (write_of 2) (record { 0 = 2 }) (cell 1 2 2) (bytes 2) (0 ∷ 1 ∷ 2 ∷ []) ((0, zero_bytes g) ∷ []) tt tt refl refl refl (right 2) refl,
        (
          at g t57 v57,
          advances g t56 v56 (record { 0 = 3 }) tt tt refl refl refl refl,
          (
            at g t58 v58,
            takes_read g t57 v57 0 0 (record { 0 = 0 }) (record { 0 = 1 }) (write_of 1) 4 tt refl refl refl refl refl refl (copies_same g t57 (in_order t57 tt) 1 0),
            (
              at g t58 v59,
              gives_cell g t58 v58 0 (record { 0 = 0 }) (record { 0 = 1 }) (write_of 1) (record { 0 = 4 }) (cell 0 1 4) refl refl,
              (
                at g t60 v60,
                ends_read g t58 v59 0 (record { 0 = 0 }) (record { 0 = 1 }) (write_of 1) (record { 0 = 4 }) (cell 0 1 4) (bytes 1) (0 ∷ 1 ∷ 2 ∷ []) ((0, zero_bytes g) ∷ (2, bytes 2) ∷ []) tt tt refl refl refl (right 1) refl,
                (
                    refl),
              ),
            ),
          ),
        ),
      ),
    ),
  )

  abbrev pub t61 : Table
  t61 = batch_ended g 0 t60

  abbrev pub v61 : World
  v61 = record v60 { moment = suc v60.moment }

  pub ending : HappensEvent (at g t60 v60) (EndBatch 0 ((0, zero_bytes g) ∷ (1, bytes 1) ∷ (2, bytes 2) ∷ [])) (at g t61 v61)
  ending = ends_batch g t60 (in_order t60 tt) 0 (0 ∷ 1 ∷ 2 ∷ []) ((0, zero_bytes g) ∷ (1, bytes 1) ∷ (2, bytes 2) ∷ []) tt refl v60 ((0, zero_bytes g) ∷ (1, bytes 1) ∷ (2, bytes 2) ∷ []) tt refl

  abbrev pub t62 : Table
  t62 = flush_begun t61

  abbrev pub v62 : World
  v62 = record v61 { moment = suc v61.moment }

  abbrev pub v63 : World
  v63 = record v62 { moment = suc v62.moment }

  abbrev pub t64 : Table
  t64 = sync_taken g 0 1 t62

  abbrev pub v64 : World
  v64 = took 0 (handed (Sync 1)) v63

  abbrev pub v65 : World
  v65 = called 0 Accepted (v64.images 0) (fresh g (handed (Sync 1))) v64

  abbrev pub t66 : Table
  t66 = sync_done 0 1 t64

  abbrev pub v66 : World
  v66 = did 0 (Sync 1) DidSync v65

  abbrev pub v67 : World
  v67 = record v66 { moment = suc v66.moment }

  abbrev pub t68 : Table
  t68 = sync_taken g 1 1 t66

  abbrev pub v68 : World
  v68 = took 1 (handed (Sync 1)) v67

  abbrev pub v69 : World
  v69 = called 1 Accepted (v68.images 1) (fresh g (handed (Sync 1))) v68

  abbrev pub t70 : Table
  t70 = sync_done 1 1 t68

  abbrev pub v70 : World
  v70 = did 1 (Sync 1) DidSync v69

  abbrev pub v71 : World
  v71 = record v70 { moment = suc v70.moment }

  pub flushing_both : Run (at g t61 v61) (flushing) (at g t70 v71)
  flushing_both = (
    at g t62 v62,
    begins_flush g t61 v61 the_flush tt refl refl refl,
    (
      at g t62 v63,
      looks_at_flush g t62 v62 the_flush Waiting tt refl,
      (
        at g t64 v64,
        takes_sync g t62 v63 0 0 1 tt tt refl refl refl refl,
        (
          at g t64 v65,
          calls (at g t64 v64) 0 Accepted (v64.images 0) (fresh g (handed (Sync 1))) Syncs refl refl refl,
          (
            at g t66 v66,
            ends_sync g t64 (in_order t64 tt) 0 v65 1 refl refl,
            (
              at g t66 v67,
              looks_at_flush g t66 v66 the_flush Waiting tt refl,
              (
                at g t68 v68,
                takes_sync g t66 v67 1 0 1 tt tt refl refl refl refl,
                (
                  at g t68 v69,
                  calls (at g t68 v68) 1 Accepted (v68.images 1) (fresh g (handed (Sync 1))) Syncs refl refl refl,
                  (
                    at g t70 v70,
                    ends_sync g t68 (in_order t68 tt) 1 v69 1 refl refl,
                    (
                      at g t70 v71,
                      looks_at_flush g t70 v70 the_flush Synced tt refl,
                      (
                          refl),
                    ),
                  ),
                ),
              ),
            ),
          ),
        ),
      ),
    ),
  )

  pub at_once : get (batch_at (core_of g t49) 0).answers 0 ≡ Some (zero_bytes g)
  at_once = ap (λ x. let b : OpenBatch = unwrap_or x (record { pages = []; answers = empty }) in get b.answers 0) (get-from_sorted nat_cmp t49.batches 0 tt)
      ∙ get-from_sorted nat_cmp ((0, zero_bytes g) ∷ []) 0 tt

  pub booked : get (core_of g t49).calendar.bookings (0, 3)
      ≡ Some (record { batch = record { 0 = 0 }; page = record { 0 = 1 }; started = false })
  booked = get-from_sorted place_cmp t49.bookings (0, 3) tt

  pub before : copy_on (core_of g t49).page_map 1 0 ≡ Some 1
  before = copies_same g t49 (in_order t49 tt) 1 0

  pub after : copy_on (core_of g t53).page_map 1 0 ≡ Some 4
  after = copies_same g t53 (in_order t53 tt) 1 0
