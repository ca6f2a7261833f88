use Rattle.std.proofs.Common.{sym, ◌≡◌, ◌∙◌}
use Rattle.fa_machine.specs.declared.answers.ReadState.TheVariants.{Ready, Torn, Waiting}
use Rattle.fa_solo.proofs.Awaited.{not_waiting}
use Rattle.fa_solo_job.specs.Deeds.{ForReads}
use Rattle.fa_solo.proofs.jobs.is_read.Goals as goal

pub returns-in-Waiting-clause-yes : goal.returns-in-Waiting-clause-yes
returns-in-Waiting-clause-yes g c = λ is. ForReads c.in-Some.batch.0 (sym c.results.ensures ∙ c.in-Waiting.is)

pub returns-in-Ready-clause-no : goal.returns-in-Ready-clause-no
returns-in-Ready-clause-no g c = λ not.
    not_waiting c.args.batch c.in-Some.batch (g.E.Looks.core c.args.array.now) Ready c.in-Some.is (sym c.in-Ready.is ∙ c.results.ensures)
    (λ waits. let e : Ready ≡ Waiting = waits in cc)

pub returns-in-Torn-clause-no : goal.returns-in-Torn-clause-no
returns-in-Torn-clause-no g c = λ not.
    not_waiting c.args.batch c.in-Some.batch (g.E.Looks.core c.args.array.now) Torn c.in-Some.is (sym c.in-Torn.is ∙ c.results.ensures)
    (λ waits. let e : Torn ≡ Waiting = waits in cc)
