use Rattle.fa_machine.proofs.NumberTables.{none_in, no_entries}
use Rattle.fa_core_tables.specs.Claims.{claim_of}
use Rattle.fa_core_tables.proofs.claims.Claims.is_empty.Goals as goal

pub returns : goal.returns
returns g c =
    let es = c.args.self.now.reservations.entries in
    (λ is. none_in claim_of es (c.is_empty.ensures.0 is), λ none. c.is_empty.ensures.1 (no_entries claim_of es none))
