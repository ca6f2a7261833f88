-- What is gone from the first bytes was appended, and none of the second.
use Rattle.std.proofs.Common.{◌≡◌, ◌-◌, ℕ, List, ◌++◌}
use Rattle.std.specs.Io.KnownBytes.{Appends}
use Rattle.fa_io.proofs.sending.send_both.Given as goal

abbrev pub invariant-loop-rest : goal.invariant-loop-rest
invariant-loop-rest g l = record {
  sent : List ℕ;
  all : l.initial.rest ≡ sent ++ l.rest;
  appended : Appends (g.W.Write.contents l.initial.writer) (g.W.Write.contents l.writer) sent;
  reads : l.calls.reads ≡ l.initial.calls.reads;
}

abbrev pub decreases-loop-rest : goal.decreases-loop-rest
decreases-loop-rest g l = 4611686018427387904 - l.calls.writes
