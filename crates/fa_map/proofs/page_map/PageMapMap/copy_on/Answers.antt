use Rattle.std.proofs.Common.{◌≡◌, ◌<◌, refl, sym, ap, subst}
use Rattle.fa_map_calls.specs.Plain.{die_slots}
use Rattle.fa_map.specs.Chains.{entry_of}
use Rattle.fa_map.specs.declared.entries.Entry.TheVariants.{Current}
use Rattle.fa_map.proofs.Seen.{shown_copy, shown_no_copy}
use Rattle.fa_map.proofs.page_map.PageMapMap.copy_on.Goals as goal

pub returns-in-Some : goal.returns-in-Some
returns-in-Some g c =
    let s = c.args.self.now in
    let old = c.in-Some.ensures.some c.in-Some.slot refl in
    let same = ap die_slots s.same in
    shown_copy s.history.shown s.geometry s.live.items s.live_dies s.tables.pages.versions s.tables.slots.entries s.sound c.args.page.0 c.args.die.0 c.in-Some.slot (subst (λ k. c.in-Some.slot < k) same old.0) (subst (λ k. entry_of s.tables.slots.entries k c.args.die.0 c.in-Some.slot ≡ Current c.args.page.0) same old.1)
    (λ k inside is. s.tables.sound.chained.once c.args.die.0 k c.in-Some.slot c.args.page.0 (subst (λ j. k < j) (sym same) inside) old.0
    (subst (λ j. entry_of s.tables.slots.entries j c.args.die.0 k ≡ Current c.args.page.0) (sym same) is) old.1)

pub returns-in-None : goal.returns-in-None
returns-in-None g c =
    let s = c.args.self.now in
    let same = ap die_slots s.same in
    shown_no_copy s.history.shown s.geometry s.live.items s.live_dies s.tables.pages.versions s.tables.slots.entries s.sound c.args.page.0 c.args.die.0
    (λ k inside is. c.in-None.ensures.none refl k (subst (λ j. k < j) (sym same) inside) (subst (λ j. entry_of s.tables.slots.entries j c.args.die.0 k ≡ Current c.args.page.0) (sym same) is))
