use Rattle.std.proofs.Common.{refl}
use Rattle.fa_settings.proofs.command_line.talk_line.Goals as goal

pub returns : goal.returns
returns c =
    let one = c.with_argument-line.ensures _ _ c.plain_line.ensures c.text_option-array.ensures refl in
    let two = c.with_argument-line-2.ensures _ _ one c.flag.ensures refl in
    c.with_argument.ensures _ _ two c.flag-2.ensures refl
