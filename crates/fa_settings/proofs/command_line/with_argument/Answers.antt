use Rattle.std.proofs.Common.{◌≡◌, ap₂, ◌∙◌}
use Rattle.std.proofs.lemmas.Result.{IfOk-weaker}
use Rattle.clap.specs.Simple.{app_of, with_rule}
use Rattle.fa_settings.proofs.Commands.{is_own}
use Rattle.fa_settings.proofs.command_line.with_argument.Goals as goal

pub returns : goal.returns
returns c before rule of_command is simple =
    let command : app_of c.in-Ok.command ≡ before = rw c.in-Ok.is at of_command in
    IfOk-weaker c.arg.result _ _ (λ r adds. adds.shape (is_own c.args.argument rule is simple) ∙ ap₂ with_rule command is) c.arg.ensures
