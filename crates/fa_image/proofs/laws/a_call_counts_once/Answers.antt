use Rattle.fa_image.specs.Counted.{call_counted}
use Rattle.fa_image.proofs.laws.a_call_counts_once.Goals as goal

pub returns : goal.returns
returns c = call_counted
