use Rattle.std.proofs.Common.{◌≡◌, ◌==◌, ◌+◌, length, take, get_or, true, false, not, arith, refl, subst, sym, ap, ◌∙◌}
use Rattle.std.proofs.Math.Seq.{take-length}
use Rattle.std.proofs.lemmas.Bool.{and_parts, not-true}
use Rattle.std.proofs.lemmas.List.{length-set}
use Rattle.std.specs.List.{list_any}
use Rattle.fa_batch_terms.specs.declared.place.Place.{Place}
use Rattle.fa_cert.specs.Marks.{AreMarks}
use Rattle.fa_batch_terms.specs.Plan.{ArePlacedOnce, AreHeld}
use Rattle.fa_batch.proofs.Batches.{unnamed_holds}
use Rattle.fa_cert.proofs.Entries.{holds_there, mark_is, mark_more, mark_none, no_entry, not_named}
use Rattle.fa_batch_terms.proofs.Counting.{get_or-replicate_default}
use Rattle.fa_cert.proofs.Placed.{held_more, no_place, page_once_more}
use Rattle.fa_cert.proofs.checker.see_pages.Goals as goal
use Rattle.fa_cert.proofs.checker.see_pages.Goals.{in-Some, in-None}

pub loop-index-init : goal.loop-index-init
loop-index-init g c = record {
  long = refl;
  placed = λ index e below. get_or-replicate_default 1024 index false;
  once = λ _ page. omega arith;
  held = (λ _ k d below. absurd (omega arith), λ _. refl);
}

pub loop-index-preserved : goal.loop-index-preserved
loop-index-preserved g c =
    let batch = c.args.batch.now in
    let places = c.args.places.now in
    let i = c.loop-index.index in
    let so_far = c.loop-index.invariant in
    let once = c.requires.fine.once in
    let page = (get_or places i no_place).page.0 in
    elim c.match-index_of.branch [
      | in-Some w ↦
          (let at = sym w.in-Some.ensures in
          let here = holds_there batch page w.in-Some.entry (once page) at (get_or places i no_place).die.0 w.holds_at-held.result w.holds_at-held.ensures in
          let held = held_more places i no_place (omega arith) batch c.loop-index.held w.holds_at-held.result so_far.held here in
          record {
            long = ap (λ v. length v) w.placed-is ∙ length-set c.loop-index.placed w.in-Some.entry true ∙ so_far.long;
            placed = subst (λ v. AreMarks batch (λ n. list_any (λ (x : Place). x.page.0 == n) (take (i + 1) places)) v) (sym w.placed-is)
                (mark_more (λ x. x.page.0) batch once places i no_place (omega arith) c.loop-index.placed so_far.placed w.in-Some.entry at (omega (arith, so_far.long, c.requires.few)));
            once = λ yes.
                let parts = and_parts c.loop-index.once (not (get_or c.loop-index.placed w.in-Some.entry false)) (sym w.once-is ∙ yes) in
                let unmet = sym (mark_is (λ x. x.page.0) batch once places i no_place (omega arith) c.loop-index.placed so_far.placed w.in-Some.entry at no_entry) ∙ not-true (get_or c.loop-index.placed w.in-Some.entry false) parts.1 in
                page_once_more places i no_place (omega arith) unmet (so_far.once parts.0);
            held = (λ yes. held.0 (sym w.held-is ∙ yes), λ all. w.held-is ∙ held.1 all);
          })
      | in-None w ↦
          (let none = sym w.in-None.ensures in
          let here = sym (unnamed_holds page (get_or places i no_place).die.0 batch (not_named batch page none)) in
          let held = held_more places i no_place (omega arith) batch c.loop-index.held false so_far.held here in
          record {
            long = ap (λ v. length v) w.placed-is ∙ so_far.long;
            placed = subst (λ v. AreMarks batch (λ n. list_any (λ (x : Place). x.page.0 == n) (take (i + 1) places)) v) (sym w.placed-is)
                (mark_none (λ x. x.page.0) batch once places i no_place (omega arith) c.loop-index.placed so_far.placed none);
            once = λ yes. let no : false ≡ true = sym w.once-is ∙ yes in cc;
            held = (λ yes. let no : false ≡ true = sym w.held-is ∙ yes in cc, λ all. let parts = and_parts c.loop-index.held false (held.1 all) in let no : false ≡ true = parts.1 in cc);
          })
    ]

pub returns-clause-placed : goal.returns-clause-placed
returns-clause-placed g c =
    let end : c.loop-index.index ≡ length c.args.places.now = omega arith in
    let whole = ap (λ n. take n c.args.places.now) end ∙ take-length c.args.places.now in
    subst (λ xs. AreMarks c.args.batch.now (λ n. list_any (λ (x : Place). x.page.0 == n) xs) c.loop-index.placed) whole c.loop-index.invariant.placed

pub returns-clause-once : goal.returns-clause-once
returns-clause-once g c = λ yes.
    let end : c.loop-index.index ≡ length c.args.places.now = omega arith in
    let whole = ap (λ n. take n c.args.places.now) end ∙ take-length c.args.places.now in
    subst ArePlacedOnce whole (c.loop-index.invariant.once yes)

pub returns-clause-held : goal.returns-clause-held
returns-clause-held g c =
    let end : c.loop-index.index ≡ length c.args.places.now = omega arith in
    let whole = ap (λ n. take n c.args.places.now) end ∙ take-length c.args.places.now in (
      λ yes. subst (λ xs. AreHeld c.args.batch.now xs) whole (c.loop-index.invariant.held.0 yes),
      λ all. c.loop-index.invariant.held.1 (subst (λ xs. AreHeld c.args.batch.now xs) (sym whole) all),
    )
