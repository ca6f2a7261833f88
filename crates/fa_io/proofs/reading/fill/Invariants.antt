-- What was consumed stands at the front of the buffer.
use Rattle.std.proofs.Common.{◌≡◌, ◌<◌, ◌≤◌, ◌-◌, length, take}
use Rattle.std.specs.Io.KnownBytes.{Consumes}
use Rattle.fa_io.proofs.reading.fill.Given as goal

abbrev pub invariant-loop-at : goal.invariant-loop-at
invariant-loop-at g l = record {
  same_room : length l.into ≡ length l.initial.into;
  within : l.at ≤ length l.into;
  consumed : Consumes (g.R.Read.remaining l.initial.reader) (g.R.Read.remaining l.reader) (take l.at l.into);
  no_fewer : l.initial.calls.reads ≤ l.calls.reads;
  counted : 0 < l.at → l.initial.calls.reads < l.calls.reads;
}

abbrev pub decreases-loop-at : goal.decreases-loop-at
decreases-loop-at g l = length l.initial.into - l.at
