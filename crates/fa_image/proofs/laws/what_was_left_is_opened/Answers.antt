use Rattle.fa_image.specs.Opened.{reopened}
use Rattle.fa_image.proofs.laws.what_was_left_is_opened.Goals as goal

pub returns : goal.returns
returns c = reopened
