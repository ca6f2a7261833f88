use Rattle.fa_mount_close_laws.proofs.JobCalls.{job_runs}
use Rattle.fa_mount_close_laws.proofs.runs.a_job_makes_the_worlds_calls.Goals as goal

pub returns : goal.returns
returns g c w array die job = job_runs g.I.Image.view g.I.Image.honest g.I.Image.made g.met.I.Image.whole g.met.I.Image.meets array die job w
