use Rattle.std.proofs.Common.{◌≡◌, replicate, []}
use Rattle.fa_closed.proofs.closed.no_spans.Given as goal

abbrev pub invariant-loop : goal.invariant-loop
invariant-loop g l = l.dies.items ≡ replicate l.counter []
