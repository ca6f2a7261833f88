use Rattle.std.proofs.Common.{length, slice_index_or, ℕ, ◌<◌, ◌≡◌, ◌≤◌}
use Rattle.fa_workers_making.specs.Begun.{OpensMade}
use Rattle.fa_workers_making.specs.declared.bench.MadeJob.{MadeJob}
use Rattle.fa_workers_making.proofs.reading.open_reads.Given as goal

-- The reads before this place are opened, and what stands from here on is as it was.
abbrev pub invariant-loop-index : goal.invariant-loop-index
invariant-loop-index g l = record {
  count : length l.made ≡ length l.initial.made;
  opened : (k : ℕ) (m : MadeJob g.row.A.Denot) → k < l.index → OpensMade (slice_index_or l.initial.made k m) (slice_index_or l.made k m);
  left : (k : ℕ) (m : MadeJob g.row.A.Denot) → l.index ≤ k → slice_index_or l.made k m ≡ slice_index_or l.initial.made k m;
}
