-- The exchanges so far, each with a read.
use Rattle.std.proofs.Common.{◌≡◌, ◌-◌, ◌≤◌, vec_capacity}
use Rattle.fa_io.specs.Streams.{between}
use Rattle.fa_session.proofs.Served.{IsSoFar}
use Rattle.fa_session.proofs.transmission.transmit.Given as goal

abbrev pub invariant-requests : goal.invariant-requests
invariant-requests g l = record {
  size : l.fn.size ≡ (g.B.Blocks.view l.blocks).size;
  little_kept : vec_capacity l.memory.bytes ≤ 1048576;
  so_far : IsSoFar g.B.Blocks.made l.fn.size
      (between (g.R.Read.remaining l.fn.reader) (g.R.Read.remaining l.reader) (g.W.Write.contents l.fn.writer) (g.W.Write.contents l.writer)) l.fn.blocks l.blocks;
}

abbrev pub decreases-requests : goal.decreases-requests
decreases-requests g l = 4611686018427387904 - l.calls.reads
