use Rattle.std.proofs.Common.{◌-◌, length}
use Rattle.fa_prog_text.proofs.logged_plans.LoggedPlans.read_next.Given as goal

abbrev pub decreases-loop-ends : goal.decreases-loop-ends
decreases-loop-ends g l = 4194304 - length l.self.text.items
