use Rattle.std.proofs.Common.{refl}
use Rattle.fa_settings.proofs.Limits.{no_address}
use Rattle.fa_settings.proofs.values.listen_at.Goals as goal

pub returns-in-None-clause-fault : goal.returns-in-None-clause-fault
returns-in-None-clause-fault g c = (refl, (_, c.in_ok-text.ensures.text, refl, no_address c.in_ok-text.text.now c.in-None.ensures))
