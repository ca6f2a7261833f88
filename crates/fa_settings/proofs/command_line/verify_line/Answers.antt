use Rattle.std.proofs.Common.{refl}
use Rattle.fa_settings.proofs.command_line.verify_line.Goals as goal

pub returns : goal.returns
returns c = c.with_argument.ensures _ _ c.plain_line.ensures c.text_option-log.ensures refl
