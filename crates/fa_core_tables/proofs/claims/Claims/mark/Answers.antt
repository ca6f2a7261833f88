use Rattle.std.proofs.Common.{ap, sym, ◌∙◌}
use Rattle.fa_core_tables.proofs.Entries.{marked, marks_none, page_is}
use Rattle.std.specs.Prelude.{option_map}
use Rattle.fa_core_tables.specs.Claims.{claims_of, reservation_of}
use Rattle.fa_core_tables.proofs.claims.Claims.mark.Goals as goal

pub returns-in-Some : goal.returns-in-Some
returns-in-Some g c =
    c.set_reserved.ensures.reserved
    ∙ marked (claims_of c.args.self.now) (page_is c.args.self.now.reservations.entries) c.args.page.0 c.args.die.0 c.args.slot.0
    (reservation_of c.in-Some.reserved) _ (sym c.reserved.ensures ∙ ap (option_map reservation_of) c.in-Some.is)
    (λ i. record { version = c.in-Some.reserved.version; targets = c.mark.ensures i })

pub returns-in-None : goal.returns-in-None
returns-in-None g c =
    marks_none (claims_of c.args.self.now) (page_is c.args.self.now.reservations.entries) c.args.page.0 c.args.die.0 c.args.slot.0
    (sym c.reserved.ensures ∙ ap (option_map reservation_of) c.in-None.is)
