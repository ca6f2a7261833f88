use Rattle.std.proofs.Common.{refl}
use Rattle.fa_settings.proofs.command_line.status_line.Goals as goal

pub returns : goal.returns
returns c =
    let one = c.with_argument-line.ensures _ _ c.plain_line.ensures c.required_argument-address.ensures refl in
    c.with_argument.ensures _ _ one c.flag.ensures refl
