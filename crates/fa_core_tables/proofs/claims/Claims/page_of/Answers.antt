use Rattle.fa_core_tables.proofs.Entries.{page_at}
use Rattle.fa_core_tables.proofs.claims.Claims.page_of.Goals as goal

pub returns-clause-page : goal.returns-clause-page
returns-clause-page g c = page_at c.args.self.now.reservations.entries c.args.claim.0 c.requires
