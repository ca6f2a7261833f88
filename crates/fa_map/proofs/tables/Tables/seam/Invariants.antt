use Rattle.std.proofs.Common.{◌≡◌, ℕ, ◌-◌, ◌<◌}
use Rattle.fa_map.specs.Chains.{IsNext, behind, entry_of, target}
use Rattle.fa_map_calls.specs.Plain.{die_slots}
use Rattle.fa_map.specs.declared.entries.Entry.TheVariants.{Current}
use Rattle.fa_map.proofs.Chained.{some_place}
use Rattle.fa_map.proofs.tables.Tables.seam.Given as goal

abbrev pub invariant-loop-next : goal.invariant-loop-next
invariant-loop-next g l = record {
  found : (d s : ℕ) → target l.last ≡ some_place d s → (d < l.die) × (d < l.self.geometry.dies) × (s < die_slots l.self.geometry)
      × (entry_of l.self.slots.entries (die_slots l.self.geometry) d s ≡ Current l.page);
  follows : IsNext (entry_of l.self.slots.entries (die_slots l.self.geometry)) (die_slots l.self.geometry) l.self.geometry.dies l.page
      (behind (target l.last)) (target l.next);
}

abbrev pub decreases-loop-next : goal.decreases-loop-next
decreases-loop-next g l = l.self.geometry.dies - behind (target l.last)
