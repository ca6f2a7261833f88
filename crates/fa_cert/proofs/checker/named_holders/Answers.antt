use Rattle.std.proofs.Common.{◌==◌, ◌||◌, take, get_or, true, false, arith, refl, sym, ap, ◌∙◌}
use Rattle.std.proofs.lemmas.List.{length-set}
use Rattle.std.proofs.lemmas.List.Folds.{list_any_more}
use Rattle.fa_types.specs.declared.numbers.Page.{Page}
use Rattle.fa_batch_terms.specs.Batch.{Entry, holds, is_among}
use Rattle.fa_batch_terms.specs.Certificate.{holds_any}
use Rattle.fa_batch_terms.proofs.Counting.{count-from-none}
use Rattle.fa_cert.proofs.Entries.{holders_there, index_below, index_counts, mark_is, mark_more, no_entry, not_named}
use Rattle.fa_batch_terms.proofs.Counting.{get_or-replicate_default}
use Rattle.fa_cert.proofs.Placed.{known_at, named_more, not_twice}
use Rattle.fa_cert.proofs.checker.named_holders.Goals as goal

abbrev no_page : Page
no_page = record { 0 = 0 }

pub loop-page-init : goal.loop-page-init
loop-page-init g c = record {
  long = refl;
  marked = λ index e below. get_or-replicate_default 1024 index false;
  named = record { known = λ k d below. absurd (omega arith); once = λ page. omega arith };
  dies_long = refl;
  holders = λ die. get_or-replicate_default 256 die false;
  near = omega arith;
}

pub returns-in_default : goal.returns-in_default
returns-in_default g c = λ all.
    let page = (get_or c.args.pages.now c.loop-page.page-index no_page).0 in
    let none = count-from-none (λ (e : Entry). e.page.0 == page) c.args.batch.now (not_named c.args.batch.now page (sym c.index_of.ensures ∙ c.in_default.is)) in
    let some = known_at c.args.batch.now c.args.pages.now c.loop-page.page-index no_page (omega arith) all in
    omega (arith, none, some)

pub returns-then-named-entry : goal.returns-then-named-entry
returns-then-named-entry g c = λ all.
    let met = mark_is (λ p. p.0) c.args.batch.now c.requires.fine.once c.args.pages.now c.loop-page.page-index no_page (omega arith) c.loop-page.named
    c.loop-page.invariant.marked c.in-Some.entry (sym c.in-Some.ensures) no_entry in
    not_twice c.args.batch.now c.args.pages.now c.loop-page.page-index no_page (omega arith) all (sym met ∙ c.if-named-entry.true)

pub loop-page-preserved : goal.loop-page-preserved
loop-page-preserved g c =
    let batch = c.args.batch.now in
    let pages = c.args.pages.now in
    let i = c.loop-page.page-index in
    let so_far = c.loop-page.invariant in
    let once = c.requires.fine.once in
    let page = (get_or pages i no_page).0 in
    let at = sym c.in-Some.ensures in
    let entry = c.in-Some.entry in
    let there = index_below batch page entry at in
    let unmet = sym (mark_is (λ p. p.0) batch once pages i no_page (omega arith) c.loop-page.named so_far.marked entry at no_entry) ∙ c.if-named-entry.false in
    record {
      long = length-set c.loop-page.named entry true ∙ so_far.long;
      marked = mark_more (λ p. p.0) batch once pages i no_page (omega arith) c.loop-page.named so_far.marked entry at (omega (arith, so_far.long, c.requires.few));
      named = named_more batch pages i no_page (omega arith) so_far.named (index_counts batch page entry at) unmet;
      dies_long = c.mark.array_long;
      holders = λ die.
          c.mark.ensures die ∙ ap (λ b. b || is_among c.holders_at.result.now die) (so_far.holders die)
          ∙ ap (λ b. holds_any batch (take i pages) die || b) (holders_there batch page entry (once page) at c.holders_at.result.now c.holders_at.ensures die)
          ∙ sym (list_any_more (λ (p : Page). holds batch p.0 die) pages i no_page (omega arith));
      near = omega (arith, there);
    }
