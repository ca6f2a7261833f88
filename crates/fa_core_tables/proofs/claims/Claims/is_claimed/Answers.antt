use Rattle.std.proofs.Common.{◌∙◌}
use Rattle.fa_core_tables.proofs.Entries.{claimed_at, open_at}
use Rattle.fa_core_tables.proofs.claims.Claims.is_claimed.Goals as goal

pub returns-clause-claimed : goal.returns-clause-claimed
returns-clause-claimed g c = c.contains_key.ensures ∙ claimed_at c.args.self.now.reservations.entries c.args.page.0

pub returns-clause-number : goal.returns-clause-number
returns-clause-number g c = c.contains_key.ensures ∙ open_at c.args.self.now.reservations.entries c.args.page.0
