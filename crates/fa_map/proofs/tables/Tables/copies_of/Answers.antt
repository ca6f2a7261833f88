use Rattle.std.proofs.Common.{arith}
use Rattle.fa_map.specs.Entries.{die_holds}
use Rattle.fa_map_calls.specs.Plain.{die_slots}
use Rattle.fa_map_calls.proofs.Ranges.{count_le}
use Rattle.fa_map.proofs.tables.Tables.copies_of.Goals as goal

pub returns : goal.returns
returns g c =
    let s = c.args.self.now in
    let most = count_le (die_holds s.slots.entries (die_slots s.geometry) c.args.page) 0 s.geometry.dies in
    omega (arith, most, c.copies_up_to.ensures)
