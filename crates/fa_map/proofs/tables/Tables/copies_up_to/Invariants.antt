use Rattle.std.proofs.Common.{◌≡◌, ℕ, ◌+◌, ◌<◌, ◌≤◌, count_by}
use Rattle.fa_machine.specs.Maps.{below}
use Rattle.fa_map.specs.Chains.{entry_of, target}
use Rattle.fa_map.specs.Entries.{die_holds}
use Rattle.fa_map_calls.specs.Plain.{die_slots}
use Rattle.fa_map.specs.declared.entries.Entry.TheVariants.{Current}
use Rattle.fa_map.proofs.Chained.{some_place}
use Rattle.fa_map.proofs.Counted.{count_from, dies_from}
use Rattle.fa_map.proofs.tables.Tables.copies_up_to.Given as goal

abbrev pub invariant-loop-next : goal.invariant-loop-next
invariant-loop-next g l = record {
  few : l.copies ≤ l.limit;
  found : (d s : ℕ) → target l.next ≡ some_place d s → (d < l.self.geometry.dies) × (s < die_slots l.self.geometry)
      × (entry_of l.self.slots.entries (die_slots l.self.geometry) d s ≡ Current l.page);
  counted : l.copies + count_from (die_holds l.self.slots.entries (die_slots l.self.geometry) l.page) l.self.geometry.dies (target l.next)
      ≡ count_by (die_holds l.self.slots.entries (die_slots l.self.geometry) l.page) (below l.self.geometry.dies);
}

abbrev pub decreases-loop-next : goal.decreases-loop-next
decreases-loop-next g l = dies_from l.self.geometry.dies (target l.next)
