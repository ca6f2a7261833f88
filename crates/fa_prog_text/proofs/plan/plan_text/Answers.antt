use Rattle.std.proofs.Common.{length, ◌∙◌, sym, subst, eqb-true, string_bytes}
use Rattle.std.proofs.lemmas.Bool.{eqb-false}
use Rattle.fa_texts.specs.BatchText.{StartsWithBatch}
use Rattle.fa_texts.specs.CertificateText.{IsPrinted}
use Rattle.fa_texts.specs.Text.{IsFirstWrongLine, IsTextError, words_by_line}
use Rattle.fa_prog_text.specs.Plan.{IsSomeBatch}
use Rattle.fa_prog_text.proofs.PlanLemmas.{input_fault, nothing_left, planned, rest_is_wrong}
use Rattle.fa_prog_text.proofs.plan.plan_text.Goals as goal

pub returns-in-Err-Line-clause-fault : goal.returns-in-Err-Line-clause-fault
returns-in-Err-Line-clause-fault g c =
    let lines = words_by_line c.args.text.now in
    subst (λ n. IsFirstWrongLine IsSomeBatch 1 lines n) (sym c.in-Err-Line.line-is)
    (input_fault lines c.in-Err-Line.line (subst (λ e. IsTextError StartsWithBatch 1 lines e) c.in-Err-Line.field-0-is c.in-Err-Line.ensures.fault))

pub returns-then-not-is_empty-clause-fault : goal.returns-then-not-is_empty-clause-fault
returns-then-not-is_empty-clause-fault g c =
    rest_is_wrong c.args.text.now c.in-Ok.found c.in-Ok.ensures.read (eqb-false (length c.in-Ok.found.rest.now) 0 (sym c.is_empty.ensures ∙ c.if-not-is_empty.true))

pub returns-clause-text : goal.returns-clause-text
returns-clause-text g c =
    let plan = c.in_ok-planned.planned in
    planned c.args.text.now c.in-Ok.found c.in-Ok.ensures.read (nothing_left c.in-Ok.found.rest.now (eqb-true (length c.in-Ok.found.rest.now) 0 (sym c.is_empty.ensures ∙ c.if-not-is_empty.false)))
    c.in_default.ensures plan.rounds plan.plan.places plan.shortage (string_bytes c.in_ok-out.out) c.in_ok-planned.ensures.certificate c.in_ok-planned.ensures.first
    (subst (λ n. IsPrinted n plan.plan.places plan.shortage (string_bytes c.in_ok-out.out)) c.in_ok-planned.ensures.rounds c.in_ok-out.ensures)
