use Rattle.std.proofs.Common.{ap, sym, ◌∙◌, not, false, filter}
use Rattle.std.specs.List.{list_any}
use Rattle.std.specs.Option.{option_map_or}
use Rattle.std.specs.Prelude.{option_map}
use Rattle.fa_core_tables.specs.Claims.{reservation_of}
use Rattle.fa_machine.specs.State.{is_live}
use Rattle.fa_core_write.proofs.committing.is_pending.Goals as goal

pub returns-in-Some : goal.returns-in-Some
returns-in-Some g c =
    let page_map = g.M.Map.view c.args.state.now.page_map in
    let is = sym c.reserved.ensures ∙ ap (option_map reservation_of) c.in-Some.is in
    c.are_pending.ensures
    ∙ ap (λ ts. list_any (λ slot. not slot.programmed) (filter (λ slot. is_live page_map slot.die.0) ts)) c.items.ensures
    ∙ sym (ap (λ r. option_map_or (λ reserved. list_any (λ slot. not slot.programmed) (filter (λ slot. is_live page_map slot.die.0) reserved.targets)) r false) is)
