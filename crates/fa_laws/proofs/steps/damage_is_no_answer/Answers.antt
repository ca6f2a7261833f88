use Rattle.fa_machine.proofs.Maps.{get-remove_same}
use Rattle.fa_machine.specs.Cells.{DidRead}
use Rattle.fa_machine.specs.State.{Core, is_live}
use Rattle.fa_machine.specs.Taking.{EndsJob, read_ends}
use Rattle.fa_machine.specs.declared.jobs.Flight.TheVariants.{Read}
use Rattle.std.proofs.Common.{Some, ap, subst, ◌∙◌}
use Rattle.std.specs.FinMap.{remove}
use Rattle.std.specs.Prelude.{is_some}
use Rattle.fa_laws.proofs.steps.damage_is_no_answer.Goals as goal

pub returns : goal.returns
returns c old new die batch page version slot cell job wrong does =
    let ends : EndsJob old die (Some (Read batch page version slot)) (DidRead cell) new =
    subst (λ o. EndsJob old die o (DidRead cell) new) job does in
    let out = ends ∙ ap (λ o. read_ends die batch.0 page.0 o (record old { jobs = remove old.jobs die })) wrong in (
      ap (λ (k : Core). k.batches) out,
      ap (λ (k : Core). is_live k.page_map die) out ∙ ap is_some (get-remove_same old.page_map.live die),
    )
