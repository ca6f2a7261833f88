use Rattle.fa_mount_close_laws.proofs.WrongDrives.{not_untaken, too_early, told_so}
use Rattle.fa_mount_close_laws.proofs.runs.wrong_drives_are_none.Goals as goal

pub returns-clause-told : goal.returns-clause-told
returns-clause-told g c old new die = told_so old new die

pub returns-clause-early : goal.returns-clause-early
returns-clause-early g c old new die = too_early old new die

pub returns-clause-untaken : goal.returns-clause-untaken
returns-clause-untaken g c old new array die = not_untaken old new die g.I.Image.made array
