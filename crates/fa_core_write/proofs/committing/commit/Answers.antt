use Rattle.std.proofs.Common.{ap, subst, sym, ◌∙◌, ◌<◌}
use Rattle.fa_core_tables.specs.Claims.{reservation_of}
use Rattle.fa_core_state.specs.Core.{core_of}
use Rattle.fa_core_write.proofs.Holding.{ready}
use Rattle.fa_core_write.proofs.Kept.{page_inside}
use Rattle.std.specs.Prelude.{option_map}
use Rattle.fa_core_write.proofs.committing.commit.Goals as goal

pub settle-requires-clause-fits : goal.settle-requires-clause-fits
settle-requires-clause-fits g c =
    let core = core_of g.M.Map.view c.args.state.now in
    subst (λ n. n < core.page_map.geometry.pages) (sym c.page_of-page.ensures.page)
    (page_inside core c.requires.sound c.args.claim.0 (reservation_of c.in-Some.reservation)
    (sym c.reserved.ensures ∙ ap (option_map reservation_of) c.in-Some.is))

pub settle-requires-clause-holds : goal.settle-requires-clause-holds
settle-requires-clause-holds g c =
    let core = core_of g.M.Map.view c.args.state.now in
    let is = sym c.reserved.ensures ∙ ap (option_map reservation_of) c.in-Some.is in
    ready core c.requires.sound c.args.claim.0 (reservation_of c.in-Some.reservation) is c.page_of-page.result
    (subst (λ n. n < core.page_map.geometry.pages) (sym c.page_of-page.ensures.page)
    (page_inside core c.requires.sound c.args.claim.0 (reservation_of c.in-Some.reservation) is))
