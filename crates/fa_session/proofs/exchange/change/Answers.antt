use Rattle.fa_types.specs.Store.{Done, Refused}
use Rattle.fa_session.specs.Exchanges.{Asked}
use Rattle.fa_session.proofs.exchange.change.Goals as goal

pub returns-in-Ok-clause-asks : goal.returns-in-Ok-clause-asks
returns-in-Ok-clause-asks g c = record {
  outcome = Asked c.in-Ok.ensures.done.0 Done;
  right = (c.requires.decided, c.in-Ok.ensures.done.1);
  asked = c.in-Ok.ensures.done.2;
  replied = c.reply.ensures.sent;
}

pub returns-in-Err-clause-asks : goal.returns-in-Err-clause-asks
returns-in-Err-clause-asks g c = record {
  outcome = Asked c.in-Err.ensures.refused.0 (Refused c.in-Err.fault);
  right = (c.requires.decided, c.in-Err.ensures.refused.1);
  asked = c.in-Err.ensures.refused.2;
  replied = rw c.code_of.ensures at c.reply-in-Err.ensures.sent;
}
