use Rattle.std.proofs.Common.{rules}
use Rattle.fa_session.proofs.exchange.perform.Goals as goal

pub returns-in_err-give-in-Read-clause-answered : goal.returns-in_err-give-in-Read-clause-answered
returns-in_err-give-in-Read-clause-answered g c = search rules

pub returns-in_err-change-in_default : goal.returns-in_err-change-in_default
returns-in_err-change-in_default g c = search rules

pub returns-in_ok-give-in-Read-clause-answered : goal.returns-in_ok-give-in-Read-clause-answered
returns-in_ok-give-in-Read-clause-answered g c = search rules

pub returns-in-Write-clause-answered : goal.returns-in-Write-clause-answered
returns-in-Write-clause-answered g c = search rules

pub returns-in_ok-change-in_default : goal.returns-in_ok-change-in_default
returns-in_ok-change-in_default g c = search rules
