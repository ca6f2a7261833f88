use Rattle.std.proofs.Common.{◌≡◌, true, map, string_bytes, refl, ap, ◌∙◌, subst}
use Rattle.std.proofs.lemmas.Result.{IfOk-weaker}
use Rattle.clap.proofs.OnLiterals.{clap_on_literals}
use Rattle.clap.specs.Faults.{fault_of, is_simple_and_free}
use Rattle.clap.specs.Kinds.{FailsBy}
use Rattle.clap.specs.Simple.{is_simple, subcommand_of}
use Rattle.fa_settings.specs.CommandLine.{command_line, found_instead}
use Rattle.fa_settings.proofs.command_line.matches_of.Goals as goal

-- clap's theorems hold of this command line
is_free : is_simple_and_free command_line ≡ true
unfolding clap_on_literals
is_free = refl

is_plain : is_simple command_line ≡ true
unfolding clap_on_literals
is_plain = refl

pub returns-clause-rows : goal.returns-clause-rows
returns-clause-rows g c =
    let is = c.in_ok-command_line.ensures in
    let words = map string_bytes c.args.arguments.now in
    IfOk-weaker c.try_get_matches_from.result _ _ (λ m has. (has (ap is_simple is ∙ is_plain)).1 ∙ ap (λ a. subcommand_of a words) is)
    c.try_get_matches_from.ensures.matches

pub returns-clause-fault : goal.returns-clause-fault
unfolding found_instead
returns-clause-fault g c =
    let is = c.in_ok-command_line.ensures in
    let words = map string_bytes c.args.arguments.now in
    subst (λ a. FailsBy (fault_of a words) c.try_get_matches_from.result) is (c.try_get_matches_from.ensures.kinds (ap is_simple_and_free is ∙ is_free))
