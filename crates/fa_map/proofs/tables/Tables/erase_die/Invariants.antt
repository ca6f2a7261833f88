use Rattle.std.proofs.Common.{◌≡◌, ℕ, ◌<◌}
use Rattle.fa_map.specs.Chains.{entry_of}
use Rattle.fa_map.specs.Entries.{swept}
use Rattle.fa_map_calls.specs.Plain.{die_slots}
use Rattle.fa_map.specs.declared.entries.Entry.TheVariants.{Erased}
use Rattle.fa_map.proofs.tables.Tables.erase_die.Given as goal

abbrev pub invariant-loop-slot : goal.invariant-loop-slot
invariant-loop-slot g l = record {
  geometry : l.self.geometry ≡ l.fn.self.geometry;
  versions : l.self.pages.versions ≡ l.fn.self.pages.versions;
  entries : (d s : ℕ) → s < die_slots l.fn.self.geometry → entry_of l.self.slots.entries (die_slots l.fn.self.geometry) d s
      ≡ swept (λ _. Erased) l.die.0 0 l.slot d s (entry_of l.fn.self.slots.entries (die_slots l.fn.self.geometry) d s);
}
