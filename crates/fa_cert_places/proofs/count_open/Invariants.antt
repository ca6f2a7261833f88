use Rattle.std.proofs.Common.{◌≡◌, ℕ, ◌<◌, length, slice_index}
use Rattle.fa_types.specs.Open.{open_among}
use Rattle.fa_cert_places.proofs.count_open.Given as goal

abbrev pub invariant-loop-die : goal.invariant-loop-die
invariant-loop-die g l = record {
  long : length l.open_counts ≡ 256;
  open_counts : (die : ℕ) → die < l.die → slice_index l.open_counts die ≡ open_among (g.R.Rounds.current l.calendar) (g.R.Rounds.closed l.calendar) die l.rounds;
}
