use Rattle.fa_mount_headers.proofs.NewArray.{accepted, judged_new}
use Rattle.fa_mount_headers.proofs.laws.a_new_array_is_clean.Goals as goal

pub returns-clause-accepted : goal.returns-clause-accepted
returns-clause-accepted g c = accepted

pub returns-clause-judged : goal.returns-clause-judged
returns-clause-judged g c = λ geometry array judged is. judged_new geometry array judged is
