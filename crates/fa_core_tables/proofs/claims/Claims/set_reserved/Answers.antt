use Rattle.fa_machine.proofs.NumberTables.{inserted}
use Rattle.fa_core_tables.specs.Claims.{claim_of}
use Rattle.std.proofs.Common.{ap, refl, sym, ◌∙◌, Some}
use Rattle.fa_core_tables.proofs.Entries.{open_at, page_at}
use Rattle.std.proofs.lemmas.Bool.{false≢true}
use Rattle.std.specs.Prelude.{is_some}
use Rattle.fa_core_tables.proofs.claims.Claims.set_reserved.Goals as goal

pub returns-in-Ok-clause-reserved : goal.returns-in-Ok-clause-reserved
returns-in-Ok-clause-reserved g c =
    inserted claim_of c.args.self.now.reservations.entries c.insert.new.self.entries c.args.claim.0 (Some c.args.reserved)
    c.in-Ok.ensures.updates.0 c.args.reserved refl

pub returns-in-Err-clause-reserved : goal.returns-in-Err-clause-reserved
returns-in-Err-clause-reserved g c =
    absurd (false≢true (sym (ap is_some c.in-Err.ensures.absent) ∙ open_at c.args.self.now.reservations.entries c.args.claim.0
    ∙ c.requires))

pub returns-in-Ok-clause-page : goal.returns-in-Ok-clause-page
returns-in-Ok-clause-page g c = sym (page_at c.args.self.now.reservations.entries c.args.claim.0 c.requires)

pub returns-in-Err-clause-page : goal.returns-in-Err-clause-page
returns-in-Err-clause-page g c = sym (page_at c.args.self.now.reservations.entries c.args.claim.0 c.requires)
