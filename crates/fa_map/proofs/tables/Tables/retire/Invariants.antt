use Rattle.std.proofs.Common.{◌≡◌, ℕ, ◌<◌}
use Rattle.fa_map.specs.Chains.{IsNext, entry_of, target}
use Rattle.fa_map.specs.Entries.{retired}
use Rattle.fa_map_calls.specs.Plain.{die_slots}
use Rattle.fa_map.proofs.Counted.{dies_from}
use Rattle.fa_map.proofs.tables.Tables.retire.Given as goal

abbrev pub invariant-loop-next : goal.invariant-loop-next
invariant-loop-next g l = record {
  geometry : l.self.geometry ≡ l.fn.self.geometry;
  versions : l.self.pages.versions ≡ l.fn.self.pages.versions;
  first : IsNext (entry_of l.self.slots.entries (die_slots l.self.geometry)) (die_slots l.self.geometry) l.self.geometry.dies l.page 0 (target l.next);
  same : (d s : ℕ) → s < die_slots l.fn.self.geometry → retired l.page (entry_of l.self.slots.entries (die_slots l.fn.self.geometry) d s)
      ≡ retired l.page (entry_of l.fn.self.slots.entries (die_slots l.fn.self.geometry) d s);
}

abbrev pub decreases-loop-next : goal.decreases-loop-next
decreases-loop-next g l = dies_from l.self.geometry.dies (target l.next)
