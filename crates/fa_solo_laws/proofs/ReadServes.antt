-- A read serves, from its beginning to its end.
use Rattle.fa_solo_laws.proofs.Going.{Laws, goes_first}
use Rattle.fa_solo_laws.proofs.Gone.{gone_lost}
use Rattle.fa_solo_laws.proofs.RangePages.{IsOf, met_page, of_back, upto_first}
use Rattle.fa_solo_laws.proofs.ReadStages.{Fits, IsReading, MayRead, ReadsAt, reads_on}
use Rattle.fa_solo_laws.proofs.Sized.{page_some, reached_sized}
use Rattle.fa_solo_laws.specs.Asked.{Asked, Moment, Turn}
use Rattle.fa_solo_laws.specs.Begun.{HasBegun}
use Rattle.fa_solo_laws.specs.Shown.{store_of}
use Rattle.fa_laws.proofs.Answering.{reached_holds}
use Rattle.fa_machine.specs.World.{World}
use Rattle.fa_shared_steps.specs.Ranges.{first_page}
use Rattle.fa_shared_steps.specs.Tasks.{task_of}
use Rattle.fa_shared_steps.specs.declared.request.Request.TheVariants.{Read}
use Rattle.fa_shared_steps.specs.declared.request.Task.{Task}
use Rattle.fa_shared_steps.specs.declared.stage.Purpose.TheVariants.{Answer}
use Rattle.fa_shared_steps.specs.declared.stage.Stage.{Stage}
use Rattle.fa_shared_steps.specs.declared.stage.Stage.TheVariants.{Ended, Listing}
use Rattle.fa_types.specs.Plain.{export}
use Rattle.fa_types.specs.Store.{Gave, HasCause, IsMet, IsUnwritten, Reading, Refused, Serves, bytes_at}
use Rattle.fa_types.specs.declared.blocks.BlockFault.{BlockFault}
use Rattle.std.proofs.Common.{Bool, List, None, Some, [], ap, arith, drop, eqb-true, false, refl, subst, sym, take, true, ℕ, ◌*◌, ◌+◌, ◌-◌, ◌/◌, ◌<◌, ◌∙◌, ◌≡◌, ◌≤◌}
use Rattle.std.proofs.Math.Nat.{div-mul-le_self, lt-div-mul-add}
use Rattle.std.proofs.lemmas.Bool.{eqb-false, true≢false}
use Rattle.std.specs.Prelude.{if◌then◌else◌, slice_index, ◌==◌}

module _ (A : Type 0) (laws : Laws) (offset count : ℕ) (before : Moment A) (h : HasBegun (Read offset count) before) where
  abbrev first : World
  first = before.world

  abbrev task : Task
  task = task_of first.core.page_map.geometry.page_bytes (Read offset count)

  pub read_fits : Fits first task.range
  read_fits = record {
    same = refl;
    inside = record { some_bytes = page_some first.core.page_map.geometry; ordered = omega arith; inside = h.inside };
    sized = reached_sized laws.geometry first h.reached;
    many = (reached_holds first h.reached).plain;
  }

  count_is : task.range.to - task.range.from ≡ count
  count_is = omega arith

  begins_reading : (seat : ℕ) (bytes : List ℕ) → IsReading A laws task seat bytes first read_fits before
  begins_reading seat bytes = record {
    goes = goes_first laws first h.reached h.calm;
    at = subst (ReadsAt task.range first first before.stage) (sym h.answer)
        (subst (λ (s : Stage A). ReadsAt task.range first first s []) (sym h.stage) (by_count (task.range.from == task.range.to) refl));
  }
    where
      by_count : (b : Bool) → (task.range.from == task.range.to) ≡ b
          → ReadsAt task.range first {A = A} first (if b then Ended None else Listing (Answer (first_page task.range))) []
      by_count true none =
          let same = eqb-true task.range.from task.range.to none in (
            ap (λ n. take n (drop offset (export first.plain))) (let zero_is : 0 ≡ task.range.to - task.range.from = omega (arith, same) in zero_is),
            λ page of_range. absurd (let some = of_range.some in omega (arith, some, same)),
          )
      by_count false some =
          let size : ℕ = task.range.page_bytes in
          let apart = eqb-false task.range.from task.range.to some in
          let more : 0 < size = let n = page_some first.core.page_map.geometry in omega (arith, n) in
          let down : task.range.from / size * size ≤ task.range.from = div-mul-le_self task.range.from size in
          let up : task.range.from < task.range.from / size * size + size = lt-div-mul-add more in
          let order : task.range.from ≤ task.range.to = omega arith in
          let here : IsOf task.range (first_page task.range) =
          record { begins = omega (arith, down, order, apart); ends = up; some = omega (arith, order, apart) } in
          record {
            from = omega arith;
            past = of_back first.core.page_map.geometry.pages task.range read_fits.inside (first_page task.range) here;
            has = ap (λ n. take n (drop offset (export first.plain)))
                (sym (upto_first first.core.page_map.geometry.pages task.range read_fits.inside));
            there = λ page from to. absurd (omega (arith, from, to));
          }

  module _ (seat : ℕ) (bytes : List ℕ) (turns : List Turn) (after : Moment A) (asked : Asked task seat bytes before turns after) where
    pub read_on_end : IsReading A laws task seat bytes first read_fits after
    read_on_end = reads_on A laws task seat bytes first read_fits before turns after (begins_reading seat bytes) asked

    pub unwritten : IsUnwritten (store_of first) (store_of after.world)
    unwritten = record {
      content = λ i low lost. ap (λ (plain : List (List ℕ)). slice_index (export plain) i) read_on_end.goes.plain;
      lost = λ page lost. gone_lost page after.world.core (read_on_end.goes.gone page lost);
    }

    pub read_gives : after.stage ≡ Ended None → Serves (store_of first) (Reading offset count) (Gave after.answer) (store_of after.world)
    read_gives ended =
        let at = subst (λ (s : Stage A). ReadsAt task.range first after.world s after.answer) ended read_on_end.at in (
          at.0 ∙ ap (λ n. bytes_at offset n (export first.plain)) count_is,
          λ page lost met. true≢false (sym lost ∙ at.1 page
              (met_page first.core.page_map.geometry.pages task.range read_fits.inside page
              (subst (λ n. IsMet task.range.page_bytes offset n page) (sym count_is) met))),
          unwritten,
        )

    pub read_may : (fault : BlockFault) → after.stage ≡ Ended (Some fault) → MayRead fault
    read_may fault ended = (subst (λ (s : Stage A). ReadsAt task.range first after.world s after.answer) ended read_on_end.at).1

    pub read_refused : (fault : BlockFault) → after.stage ≡ Ended (Some fault)
        → Serves (store_of first) (Reading offset count) (Refused fault) (store_of after.world)
    read_refused fault ended = (
      subst (λ n. HasCause (store_of after.world) offset n fault) count_is
          (subst (λ (s : Stage A). ReadsAt task.range first after.world s after.answer) ended read_on_end.at).0,
      unwritten,
    )
