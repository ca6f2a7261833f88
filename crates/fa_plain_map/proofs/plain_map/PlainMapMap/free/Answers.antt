use Rattle.std.proofs.Common.{◌∙◌}
use Rattle.std.specs.Prelude.{is_none}
use Rattle.fa_plain_map.proofs.Found.{plain_count}
use Rattle.fa_plain_map.proofs.plain_map.PlainMapMap.free.Goals as goal

pub returns : goal.returns
returns g c =
    let s = c.args.self.now in
    c.count_erased.ensures
    ∙ plain_count s.history.shown s.geometry s.live.items s.live_dies s.versions.items s.used.items s.sound is_none c.args.die.0 c.first_slot-first.result c.slots_of_die.result c.deref.result.now c.first_slot-first.ensures c.slots_of_die.ensures c.deref.ensures.value
