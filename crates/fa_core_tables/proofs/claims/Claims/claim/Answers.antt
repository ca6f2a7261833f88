use Rattle.fa_machine.proofs.NumberTables.{inserted}
use Rattle.fa_core_tables.specs.Claims.{claim_of}
use Rattle.std.proofs.Common.{refl, Some, None}
use Rattle.fa_core_tables.proofs.claims.Claims.claim.Goals as goal

pub returns-in-Ok-clause-claimed : goal.returns-in-Ok-clause-claimed
returns-in-Ok-clause-claimed g c =
    inserted claim_of c.args.self.now.reservations.entries c.insert.new.self.entries c.args.page.0 (Some None) c.in-Ok.ensures.updates.0
    None refl
