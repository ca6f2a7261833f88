use Rattle.std.proofs.Common.{◌∙◌, ap, sym}
use Rattle.std.specs.FinMap.{contains_key}
use Rattle.fa_map.proofs.Found.{erased_entry_is, found_parts}
use Rattle.fa_map.proofs.tables.Tables.known_entry.Goals as goal

pub returns-then-has_slot : goal.returns-then-has_slot
returns-then-has_slot g c =
    let s = c.args.self.now in
    let found = (found_parts s.geometry s.slots.entries s.counts.items s.finder s.found).2 in
    sym (erased_entry_is _ (sym (found.slots c.args.die.0 c.args.slot.0 c.requires.die c.requires.slot)
    ∙ ap (contains_key s.finder.slots) (sym c.index_of-index.ensures.index) ∙ sym c.has_slot.ensures ∙ c.if-has_slot.true))
