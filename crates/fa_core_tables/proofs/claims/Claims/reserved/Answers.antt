use Rattle.std.proofs.Common.{sym, Some, None}
use Rattle.fa_core_tables.proofs.Entries.{reserved_at}
use Rattle.fa_core_tables.proofs.claims.Claims.reserved.Goals as goal

pub returns-in-Some : goal.returns-in-Some
returns-in-Some g c = sym (reserved_at c.args.self.now.reservations.entries c.args.claim.0 (Some c.in-Some.reserved.now)
    (sym c.in-Some.ensures.value))

pub returns-in-None : goal.returns-in-None
returns-in-None g c = sym (reserved_at c.args.self.now.reservations.entries c.args.claim.0 None (sym c.in-None.ensures.value))
