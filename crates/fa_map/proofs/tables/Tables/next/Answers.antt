use Rattle.std.proofs.Common.{◌+◌, ap, sym, subst, ◌∙◌}
use Rattle.fa_map.specs.Chains.{IsNext, IsSecond, entry_of, link_at, target}
use Rattle.fa_map_calls.specs.Plain.{die_slots}
use Rattle.fa_map.proofs.Rewritten.{last_holder}
use Rattle.fa_map.proofs.tables.Tables.next.Goals as goal

pub returns-clause-link : goal.returns-clause-link
returns-clause-link g c =
    let s = c.args.self.now in
    let n = die_slots s.geometry in
    let kept : IsSecond s.slots.links n (link_at s.pages.heads c.args.page) c.second-second.result =
    subst (IsSecond s.slots.links n (link_at s.pages.heads c.args.page)) (sym c.second-second.ensures) (s.seconds.behind c.args.page c.requires.page) in
    sym (last_holder (entry_of s.slots.entries n) n s.geometry.dies s.geometry.pages c.args.page s.slots.links s.pages.heads c.second-second.result
    s.sound.chained kept c.if-second.false c.args.die.0 c.args.slot.0 c.requires.slot c.requires.holds
    (λ at. c.leads_to.ensures.elsewhere c.if-leads_to.false (ap target c.head.ensures ∙ at)))

pub returns-clause-next : goal.returns-clause-next
returns-clause-next g c = λ held.
    let s = c.args.self.now in
    let n = die_slots s.geometry in
    subst (IsNext (entry_of s.slots.entries n) n s.geometry.dies c.args.page (c.args.die.0 + 1)) (sym (returns-clause-link g c))
    (s.sound.chained.links c.args.die.0 c.args.slot.0 c.args.page c.requires.slot held)
