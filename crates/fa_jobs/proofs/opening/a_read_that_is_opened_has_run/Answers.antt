use Rattle.fa_jobs.proofs.Openings.{opened_ran}
use Rattle.fa_jobs.proofs.opening.a_read_that_is_opened_has_run.Goals as goal

pub returns : goal.returns
returns g c geometry array die job batch page version slot bytes handed outcome before after is link sized opens =
    opened_ran g.I.Image.made geometry array die job batch page version slot bytes handed geometry.page_bytes outcome before after is link sized opens
