use Rattle.fa_prog_host.proofs.Faults.{has_fault}
use Rattle.fa_prog_host.proofs.settings_file.faulty.Goals as goal

pub returns-in_default : goal.returns-in_default
returns-in_default g c = (c.args.text.now, has_fault c.args.text.now c.args.fault c.requires c.in_default.not-NoMemory)
