use Rattle.std.proofs.Common.{sym, ◌∙◌}
use Rattle.fa_map_calls.specs.Plain.{holds}
use Rattle.fa_map_calls.proofs.Holders.{copy_found}
use Rattle.fa_plain_map.proofs.Found.{plain_found}
use Rattle.fa_plain_map.proofs.plain_map.PlainMapMap.copy_on.Goals as goal

pub returns-in-Some : goal.returns-in-Some
returns-in-Some g c =
    let s = c.args.self.now in
    c.in-Some.ensures
    ∙ plain_found s.history.shown s.geometry s.live.items s.live_dies s.versions.items s.used.items s.sound (λ slot used. holds c.args.page.0 used) c.args.die.0 c.first_slot-first.result c.slots_of_die.result c.deref.result.now c.first_slot-first.ensures c.slots_of_die.ensures c.deref.ensures.value
    ∙ sym (copy_found s.history.shown s.sound.whole c.args.page.0 c.args.die.0)

pub returns-in-None : goal.returns-in-None
returns-in-None g c =
    let s = c.args.self.now in
    c.in-None.ensures
    ∙ plain_found s.history.shown s.geometry s.live.items s.live_dies s.versions.items s.used.items s.sound (λ slot used. holds c.args.page.0 used) c.args.die.0 c.first_slot-first.result c.slots_of_die.result c.deref.result.now c.first_slot-first.ensures c.slots_of_die.ensures c.deref.ensures.value
    ∙ sym (copy_found s.history.shown s.sound.whole c.args.page.0 c.args.die.0)
