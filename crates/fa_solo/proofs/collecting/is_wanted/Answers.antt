use Rattle.std.proofs.Common.{ap, sym, ◌∙◌}
use Rattle.std.proofs.lemmas.Bool.{false≢true}
use Rattle.fa_machine.specs.Looks.{wants_window}
use Rattle.fa_machine.specs.State.{Core}
use Rattle.fa_machine.specs.Step.{is_die}
use Rattle.fa_solo.proofs.collecting.is_wanted.Goals as goal

pub returns-then-not-is_die-clause-unwanted : goal.returns-then-not-is_die-clause-unwanted
returns-then-not-is_die-clause-unwanted g c = λ not every one_of.
    absurd (false≢true (sym c.if-not-is_die.true ∙ c.is_die.ensures ∙ ap (λ (k : Core). is_die k c.args.die.0) c.array-array.ensures.state ∙ one_of))

pub returns-clause-die : goal.returns-clause-die
returns-clause-die g c = λ is.
    ap (λ (k : Core). is_die k c.args.die.0) (sym c.array-array.ensures.state) ∙ sym c.is_die.ensures ∙ c.if-not-is_die.false

pub returns-clause-wanted : goal.returns-clause-wanted
returns-clause-wanted g c = λ is.
    ap (λ (k : Core). wants_window k.page_map c.args.die.0) (sym c.array-array.ensures.state) ∙ sym c.wants_window.ensures ∙ is

pub returns-clause-unwanted : goal.returns-clause-unwanted
returns-clause-unwanted g c = λ not every one_of.
    ap (λ (k : Core). wants_window k.page_map c.args.die.0) (sym c.array-array.ensures.state) ∙ sym c.wants_window.ensures ∙ not
