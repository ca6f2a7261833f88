use Rattle.std.proofs.Common.{refl}
use Rattle.fa_settings.proofs.command_line.format_line.Goals as goal

pub returns : goal.returns
returns c = c.with_argument.ensures _ _ c.settings_line-line.ensures c.die_argument.ensures refl
