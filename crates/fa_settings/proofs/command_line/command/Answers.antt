use Rattle.std.proofs.Common.{option_and_then, subst}
use Rattle.std.proofs.lemmas.Result.{err_from_is_err_and}
use Rattle.fa_settings.specs.CommandLine.{wanted_in, wanted_by, IsWanted}
use Rattle.fa_settings.proofs.command_line.command.Goals as goal

pub returns-in_err-matches-clause-instead : goal.returns-in_err-matches-clause-instead
returns-in_err-matches-clause-instead g c =
    let passed = err_from_is_err_and c.from_residual.result c.from_residual.ensures.1 in
    rw (passed.1, passed.2) c.in_err-matches.ensures.fault

pub returns-clause-command : goal.returns-clause-command
unfolding wanted_in
returns-clause-command g c =
    subst (λ o. IsWanted c.asked.result (option_and_then (λ p. wanted_by p.0 p.1) o)) c.in_ok-matches.ensures.rows c.asked.ensures
