use Rattle.std.proofs.Common.{◌≡◌, ◌+◌}
use Rattle.fa_batch_terms.specs.Certificate.{open_places}
use Rattle.fa_cert_places.specs.OpenCounts.{marked}
use Rattle.fa_cert_places.proofs.are_more.Given as goal

abbrev pub invariant-loop-die : goal.invariant-loop-die
invariant-loop-die g l = l.left + open_places (g.R.Rounds.current l.calendar) (g.R.Rounds.closed l.calendar) (marked l.marks l.die) l.rounds ≡ l.pages
