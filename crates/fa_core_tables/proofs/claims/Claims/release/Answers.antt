use Rattle.fa_machine.proofs.NumberTables.{removed}
use Rattle.fa_core_tables.specs.Claims.{claim_of}
use Rattle.std.proofs.Common.{refl, None}
use Rattle.fa_core_tables.proofs.claims.Claims.release.Goals as goal

pub returns : goal.returns
returns g c = removed claim_of c.args.self.now.reservations.entries c.remove.new.self.entries c.args.claim.0 None
    c.remove.ensures.updates.0 refl
