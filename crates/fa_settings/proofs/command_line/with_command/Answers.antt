use Rattle.std.proofs.Common.{◌≡◌, ap, ap₂, ◌∙◌}
use Rattle.std.proofs.lemmas.Result.{IfOk-weaker}
use Rattle.clap.specs.Simple.{App, app_of, with_subcommand}
use Rattle.fa_settings.proofs.Commands.{is_local}
use Rattle.fa_settings.proofs.command_line.with_command.Goals as goal

pub returns : goal.returns
returns c before added of_program of_command plain =
    let program : app_of c.in-Ok.program ≡ before = rw c.in-Ok.is at of_program in
    let command : app_of c.in-Ok-command.command ≡ added = rw c.in-Ok-command.is at of_command in
    IfOk-weaker c.subcommand.result _ _
    (λ r adds. adds.shape (is_local c.in-Ok-command.command added command plain)
    ∙ ap₂ with_subcommand program (ap (λ (a : App). a.top) command)) c.subcommand.ensures
