use Rattle.std.proofs.Common.{◌≡◌, ℕ, ◌<◌, take, length, slice_index, count_by}
use Rattle.fa_plan.specs.Layout.{IsLaidOut, is_at_die}
use Rattle.fa_plan.proofs.layout.lay_out.Given as goal

abbrev pub invariant-loop-seat : goal.invariant-loop-seat
invariant-loop-seat g l = record {
  long : length l.taken ≡ 256;
  taken : (die : ℕ) → die < 256 → slice_index l.taken die ≡ count_by (is_at_die die) l.places;
  laid : IsLaidOut (g.R.Rounds.current l.calendar) (g.R.Rounds.closed l.calendar) (take l.seat-index l.seats) l.places;
}
