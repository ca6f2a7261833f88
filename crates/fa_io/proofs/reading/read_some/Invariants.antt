-- While reads are interrupted none takes a byte, and each is counted.
use Rattle.std.proofs.Common.{[], ◌-◌, ◌≤◌}
use Rattle.std.specs.Io.KnownBytes.{Consumes}
use Rattle.fa_io.proofs.reading.read_some.Given as goal

abbrev pub invariant-loop-reader : goal.invariant-loop-reader
invariant-loop-reader g l = record {
  none_taken : Consumes (g.R.Read.remaining l.initial.reader) (g.R.Read.remaining l.reader) [];
  counted : l.initial.calls.reads ≤ l.calls.reads;
}

abbrev pub decreases-loop-reader : goal.decreases-loop-reader
decreases-loop-reader g l = 4611686018427387904 - l.calls.reads
