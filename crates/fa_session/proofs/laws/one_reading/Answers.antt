use Rattle.fa_session.proofs.OneReading.{one_reading, one_connection}
use Rattle.fa_session.proofs.laws.one_reading.Goals as goal

pub returns : goal.returns
returns c = record { requests = one_reading; connection = one_connection }
