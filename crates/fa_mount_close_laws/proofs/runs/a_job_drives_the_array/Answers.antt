use Rattle.fa_mount_close_laws.proofs.DrivenRuns.{job_drives}
use Rattle.fa_mount_close_laws.proofs.runs.a_job_drives_the_array.Goals as goal

pub returns : goal.returns
returns g c old array die job = job_drives g.I.Image.made array die job old
