use Rattle.std.proofs.Common.{[]}
use Rattle.fa_types.specs.Store.{Reading, Gave, Refused}
use Rattle.fa_session.specs.Exchanges.{Asked}
use Rattle.fa_session.proofs.Served.{call_of-read}
use Rattle.fa_session.proofs.exchange.give.Goals as goal

pub returns-in-Ok-clause-asks : goal.returns-in-Ok-clause-asks
returns-in-Ok-clause-asks g c =
    let r = c.args.request in record {
      outcome = Asked (Reading r.offset r.length) (Gave c.in-Ok.bytes.items);
      right = (c.requires.decided, call_of-read r [] c.requires.command);
      asked = rw c.from.ensures at c.in-Ok.ensures.gave;
      replied = rw c.as_slice.ensures.value at c.reply_with_data.ensures.sent;
    }

pub returns-in-Err-clause-asks : goal.returns-in-Err-clause-asks
returns-in-Err-clause-asks g c =
    let r = c.args.request in record {
      outcome = Asked (Reading r.offset r.length) (Refused c.in-Err.fault);
      right = (c.requires.decided, call_of-read r [] c.requires.command);
      asked = rw c.from.ensures at c.in-Err.ensures.refused;
      replied = rw c.code_of.ensures at c.reply.ensures.sent;
    }
