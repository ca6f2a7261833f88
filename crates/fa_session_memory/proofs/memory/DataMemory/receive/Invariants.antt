-- What came stands at the front of the memory.
use Rattle.std.proofs.Common.{◌≤◌, ◌-◌, length, take}
use Rattle.std.specs.Io.KnownBytes.{Consumes}
use Rattle.fa_session_memory.specs.Memory.{IsModest}
use Rattle.fa_session_memory.proofs.memory.DataMemory.receive.Given as goal

abbrev pub invariant-parts : goal.invariant-parts
invariant-parts g l = record {
  within : l.at ≤ length l.self.bytes.items;
  needed : l.at ≤ l.count;
  consumed : Consumes (g.R.Read.remaining l.initial.reader) (g.R.Read.remaining l.reader) (take l.at l.self.bytes.items);
  modest : IsModest (length l.initial.self.bytes.items) (length l.self.bytes.items) l.at;
  no_fewer : l.initial.calls.reads ≤ l.calls.reads;
}

abbrev pub decreases-parts : goal.decreases-parts
decreases-parts g l = l.count - l.at
