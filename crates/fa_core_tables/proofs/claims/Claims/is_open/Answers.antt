use Rattle.std.proofs.Common.{◌∙◌}
use Rattle.fa_core_tables.proofs.Entries.{open_at}
use Rattle.fa_core_tables.proofs.claims.Claims.is_open.Goals as goal

pub returns : goal.returns
returns g c = c.contains_key.ensures ∙ open_at c.args.self.now.reservations.entries c.args.claim.0
