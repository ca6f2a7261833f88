use Rattle.std.proofs.Common.{◌<◌, None, sym, ◌∙◌, arith}
use Rattle.std.specs.Prelude.{is_none, nat_lt}
use Rattle.std.proofs.lemmas.Bool.{cond-true, lt-ltb}
use Rattle.fa_machine.specs.Placement.{lowest_erased, room}
use Rattle.fa_plain_map.proofs.Found.{plain_found}
use Rattle.fa_plain_map.proofs.plain_map.PlainMap.slot_for_writers.Goals as goal

pub returns : goal.returns
returns g c =
    let s = c.args.self.now in
    let some : 0 < room s.history.shown c.args.die.0 = omega arith in
    c.find_erased.ensures
    ∙ plain_found s.history.shown s.geometry s.live.items s.live_dies s.versions.items s.used.items s.sound (λ slot used. is_none used) c.args.die.0 c.first_slot-first.result c.slots_of_die.result c.deref.result.now c.first_slot-first.ensures c.slots_of_die.ensures c.deref.ensures.value
    ∙ sym (cond-true (nat_lt 0 (room s.history.shown c.args.die.0)) (lowest_erased s.history.shown c.args.die.0) None (lt-ltb 0 (room s.history.shown c.args.die.0) some))
