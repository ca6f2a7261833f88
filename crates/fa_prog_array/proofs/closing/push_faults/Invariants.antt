use Rattle.std.proofs.Common.{◌≡◌, ◌++◌, string_bytes}
use Rattle.std.specs.Vec.Iter.{into_iter_items}
use Rattle.fa_prog_array.specs.Ending.{fault_lines}
use Rattle.fa_prog_array.proofs.closing.push_faults.Given as goal

-- what was told, and the lines of the faults that are left, are all lines
abbrev pub invariant-loop-fault : goal.invariant-loop-fault
invariant-loop-fault l = record {
  more : goal.iterator-loop-fault.can_next l.fault-iterator;
  ends : goal.iterator-loop-fault.is_finite l.fault-iterator;
  told : string_bytes l.out ++ fault_lines (into_iter_items l.fault-iterator) ≡ string_bytes l.fn.out ++ fault_lines l.fn.faults.items;
}
