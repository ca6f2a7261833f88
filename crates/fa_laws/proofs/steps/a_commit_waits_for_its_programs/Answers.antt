use Rattle.fa_machine.proofs.Lists.{no_refusal}
use Rattle.fa_machine.specs.Writing.{Commits, live_targets}
use Rattle.fa_machine.specs.declared.refusals.CommitRefused.TheVariants.{Failed, Pending}
use Rattle.std.proofs.Common.{Some, not, subst}
use Rattle.std.proofs.lemmas.Bool.{not-false}
use Rattle.std.specs.List.{list_any}
use Rattle.std.specs.Prelude.{Ok}
use Rattle.fa_laws.proofs.steps.a_commit_waits_for_its_programs.Goals as goal

pub returns : goal.returns
returns c old new claim seat seq r does is =
    let commits : Commits old claim seat (Some r) (Ok seq) new = subst (λ o. Commits old claim seat o (Ok seq) new) is does in
    let programmed = no_refusal (list_any (λ t. not t.programmed) (live_targets old r.targets))
    (not (list_any (λ t. t.programmed) (live_targets old r.targets))) Pending Failed commits.0 in
    (programmed.0, not-false (list_any (λ t. t.programmed) (live_targets old r.targets)) programmed.1)
