use Rattle.std.proofs.Common.{refl}
use Rattle.fa_settings.proofs.command_line.command_line.Goals as goal

pub returns : goal.returns
returns c =
    let one = c.with_command-program.ensures _ _ c.program.ensures c.format_line.ensures refl in
    let two = c.with_command-program-2.ensures _ _ one c.array_line-check.ensures refl in
    let three = c.with_command-program-3.ensures _ _ two c.array_line-dump.ensures refl in
    let four = c.with_command-program-4.ensures _ _ three c.serve_line.ensures refl in
    let five = c.with_command-program-5.ensures _ _ four c.status_line.ensures refl in
    let six = c.with_command-program-6.ensures _ _ five c.plain_line.ensures refl in
    let seven = c.with_command-program-7.ensures _ _ six c.talk_line.ensures refl in
    c.with_command.ensures _ _ seven c.verify_line.ensures refl
