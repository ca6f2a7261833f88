use Rattle.std.proofs.Common.{ℕ, ◌<◌, ◌+◌, ◌^◌}
use Rattle.fa_prog_counts.proofs.latency.bucket_of.Given as goal

-- The bounds of the buckets before this one are below.
abbrev pub invariant-loop-bucket : goal.invariant-loop-bucket
invariant-loop-bucket l = (before : ℕ) → before < l.bucket → 2 ^ (10 + before) < l.nanoseconds
