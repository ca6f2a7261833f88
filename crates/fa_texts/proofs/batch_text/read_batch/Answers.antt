use Rattle.std.proofs.Common.{◌+◌, ◌-◌, ◌<◌, ◌++◌, ◌∷◌, [], length, sym, ap, ◌∙◌, subst, arith, eqb-true}
use Rattle.std.proofs.lemmas.Bool.{eqb-false, false≢true}
use Rattle.std.proofs.lemmas.List.{nil_from_length}
use Rattle.std.proofs.lemmas.List.Elements.{recursion_from_All}
use Rattle.fa_types.specs.Open.{max_closed}
use Rattle.fa_closed.specs.declared.closed.Run.{Run}
use Rattle.fa_texts.specs.BatchText.{SaysOfBatch, IsBatchText, StartsWithBatch}
use Rattle.fa_texts.specs.Text.{words_of}
use Rattle.fa_texts.proofs.BatchTexts.{begins, closed_more, ends, none_begins, not_first, not_next, not_none, not_whole, page_more, page_no_next, run_no_next, runs_end_soon, starts}
use Rattle.fa_closed.proofs.Covered.{few_soon}
use Rattle.fa_texts.proofs.Reading.{HasRead, nothing_read, read_more, wrong_end, wrong_next}
use Rattle.fa_texts.proofs.batch_text.read_batch.Goals as goal
use Rattle.fa_texts.proofs.batch_text.read_batch.Goals.{then-not-is_empty-via-then-not-is_empty, then-not-is_empty-via-else-not-is_empty+then-len-ge-MAX_PAGES, in-Page+else-not-is_empty+else-len-ge-MAX_PAGES+in_ok-push-in-Page, in-Closed+else-len-ge-MAX_RUNS+in_ok-push-in-Closed}

pub returns-in_default-clause-fault : goal.returns-in_default-clause-fault
returns-in_default-clause-fault g c = wrong_end StartsWithBatch (nothing_read 1 c.args.input.now) none_begins c.in_default.ensures.lines not_none

pub returns-then-not-is_only_word-clause-fault : goal.returns-then-not-is_only_word-clause-fault
returns-then-not-is_only_word-clause-fault g c =
    wrong_next StartsWithBatch (nothing_read 1 c.args.input.now) none_begins c.in-Some.ensures.lines (not_first (λ is. false≢true (c.if-not-is_only_word.ensures.1 is)))

pub loop-text-init : goal.loop-text-init
loop-text-init g c =
    let less = c.in-Some.ensures.less in (
      omega (arith, less),
      read_more (nothing_read 1 c.args.input.now) c.in-Some.ensures.lines (starts c.new-batch.ensures c.new-runs.ensures.items (c.is_only_word.ensures.0 c.if-not-is_only_word.false)),
    )

pub returns-then-not-is_empty-clause-fault : goal.returns-then-not-is_empty-clause-fault
returns-then-not-is_empty-clause-fault g c =
    let read = c.loop-text.invariant.1 in
    let says = subst (λ v. SaysOfBatch (words_of c.in-Some-cut_line.text.now) v) c.in-Page.is c.in_ok-page.ensures in
    wrong_next StartsWithBatch read (begins read.fine) c.in-Some-cut_line.ensures.lines (not_next read.fine (page_no_next c.loop-text.batch c.loop-text.runs.items _ says.0 (λ none room.
    elim c.then-not-is_empty.branch [
      | then-not-is_empty-via-then-not-is_empty w ↦
          (let some = eqb-false c.loop-text.runs.len 0 (sym c.is_empty.ensures ∙ w.if-not-is_empty.true) in
          let no = ap (λ v. length v) none in
          let size = c.loop-text.runs.ok.0 in
          omega (arith, some, no, size))
      | then-not-is_empty-via-else-not-is_empty+then-len-ge-MAX_PAGES w ↦ (let full = w.if-len-ge-MAX_PAGES.true in let size = w.len.ensures in omega (arith, full, size, room))
    ])))

pub returns-then-len-ge-MAX_RUNS-clause-fault : goal.returns-then-len-ge-MAX_RUNS-clause-fault
returns-then-len-ge-MAX_RUNS-clause-fault g c =
    let read = c.loop-text.invariant.1 in
    let says = subst (λ v. SaysOfBatch (words_of c.in-Some-cut_line.text.now) v) c.in-Closed.is c.in_ok-page.ensures in
    wrong_next StartsWithBatch read (begins read.fine) c.in-Some-cut_line.ensures.lines (not_next read.fine (run_no_next c.loop-text.batch c.loop-text.runs.items _ says.0 (λ room.
    (let full = c.if-len-ge-MAX_RUNS.true in let size = c.len-in-Closed.ensures in omega (arith, full, size, room)))))

pub new-requires : goal.new-requires
new-requires g c =
    let so_far = c.loop-text.invariant.1.fine in
    few_soon max_closed 1 c.loop-text.runs.items (recursion_from_All (λ (run : Run). run.last.0 - 1 < max_closed) c.loop-text.runs.items (runs_end_soon c.loop-text.runs.items so_far.closed))

pub returns-in-End-clause-read : goal.returns-in-End-clause-read
returns-in-End-clause-read g c =
    let says = subst (λ v. SaysOfBatch (words_of c.in-Some-cut_line.text.now) v) c.in-End.is c.in_ok-page.ensures in
    let read : HasRead 1 c.args.input.now c.in-Some-cut_line.after.now (c.loop-text.line + 1) (λ lines. IsBatchText lines c.loop-text.batch c.loop-text.runs.items) =
    read_more c.loop-text.invariant.1 c.in-Some-cut_line.ensures.lines (ends c.loop-text.invariant.1.fine says) in
    record {
      text = read.before;
      runs = c.loop-text.runs.items;
      parts = read.parts;
      is = read.fine;
      current = c.in_ok-closed-in-End.ensures.current;
      closes = c.in_ok-closed-in-End.ensures.closed;
      number = read.number;
    }

pub returns-in-Other-clause-fault : goal.returns-in-Other-clause-fault
returns-in-Other-clause-fault g c =
    let read = c.loop-text.invariant.1 in
    let says = subst (λ v. SaysOfBatch (words_of c.in-Some-cut_line.text.now) v) c.in-Other.is c.in_ok-page.ensures in
    wrong_next StartsWithBatch read (begins read.fine) c.in-Some-cut_line.ensures.lines
    (not_next read.fine (record { no_page = λ e fine is none room. says.0 e fine is; no_run = λ run fine is room. says.1 run fine is; no_end = says.2 }))

pub loop-text-preserved : goal.loop-text-preserved
loop-text-preserved g c =
    let read = c.loop-text.invariant.1 in
    let early = c.loop-text.invariant.0 in
    let less = c.in-Some-cut_line.ensures.less in (
      omega (arith, early, less),
      read_more read c.in-Some-cut_line.ensures.lines (elim c.match-branch-2.branch [
        | in-Page+else-not-is_empty+else-len-ge-MAX_PAGES+in_ok-push-in-Page w ↦
            (let says = subst (λ v. SaysOfBatch (words_of c.in-Some-cut_line.text.now) v) w.in-Page.is c.in_ok-page.ensures in
            let none = nil_from_length c.loop-text.runs.items (let zero = eqb-true c.loop-text.runs.len 0 (sym w.is_empty.ensures ∙ w.if-not-is_empty.false) in let size = c.loop-text.runs.ok.0 in omega (arith, zero, size)) in
            let room : length c.loop-text.batch < 1024 = (let not_full = w.if-len-ge-MAX_PAGES.false in let size = w.len.ensures in omega (arith, not_full, size)) in
            page_more read.fine none room says.0 says.1 (w.batch-is ∙ w.in_ok-push-in-Page.ensures.ok ∙ ap (λ dies. c.loop-text.batch ++ record { page = w.in-Page.page; holders = dies } ∷ []) w.as_slice.ensures.value) (ap (λ v. v.items) w.runs-is))
        | in-Closed+else-len-ge-MAX_RUNS+in_ok-push-in-Closed w ↦
            (let says = subst (λ v. SaysOfBatch (words_of c.in-Some-cut_line.text.now) v) w.in-Closed.is c.in_ok-page.ensures in
            let room : length c.loop-text.runs.items < 4096 = (let not_full = w.if-len-ge-MAX_RUNS.false in let size = w.len-in-Closed.ensures in omega (arith, not_full, size)) in
            closed_more read.fine room says.0 says.1 w.batch-is (ap (λ v. v.items) w.runs-is ∙ w.in_ok-push-in-Closed.ensures.items))
      ]),
    )

pub returns-clause-fault : goal.returns-clause-fault
returns-clause-fault g c =
    let read = c.loop-text.invariant.1 in
    wrong_end StartsWithBatch read (begins read.fine) c.in_default-cut_line.ensures.lines (not_whole read.fine)
