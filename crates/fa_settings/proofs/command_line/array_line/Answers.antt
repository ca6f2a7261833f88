use Rattle.std.proofs.Common.{refl}
use Rattle.fa_settings.proofs.command_line.array_line.Goals as goal

pub returns : goal.returns
returns c =
    let one = c.with_argument-line.ensures _ _ c.settings_line-line.ensures c.flag.ensures refl in
    let two = c.with_argument-line-2.ensures _ _ one c.flag-2.ensures refl in
    c.with_argument.ensures _ _ two c.flag-3.ensures refl
