use Rattle.std.proofs.Common.{refl}
use Rattle.fa_settings.proofs.command_line.serve_line.Goals as goal

pub returns : goal.returns
returns c =
    let one = c.with_argument-line.ensures _ _ c.array_line-line.ensures c.text_option-status.ensures refl in
    let two = c.with_argument-line-2.ensures _ _ one c.text_option-plans.ensures refl in
    c.with_argument.ensures _ _ two c.every_argument.ensures refl
