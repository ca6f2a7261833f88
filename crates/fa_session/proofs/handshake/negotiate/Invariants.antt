-- The handshake so far, which goes on; each piece took a read.
use Rattle.std.proofs.Common.{◌≡◌, ◌-◌}
use Rattle.fa_io.specs.Streams.{between}
use Rattle.fa_nego.specs.NegoState.{step_of}
use Rattle.fa_nego.specs.declared.step.Step.TheVariants.{More}
use Rattle.fa_session.proofs.Greeted.{IsHeard}
use Rattle.fa_session.proofs.handshake.negotiate.Given as goal

abbrev pub invariant-items : goal.invariant-items
invariant-items g l = record {
  so_far : IsHeard l.fn.export l.fn.size
      (between (g.R.Read.remaining l.fn.reader) (g.R.Read.remaining l.reader) (g.W.Write.contents l.fn.writer) (g.W.Write.contents l.writer)) l.nego;
  goes_on : step_of l.nego.stage ≡ More;
}

abbrev pub decreases-items : goal.decreases-items
decreases-items g l = 4611686018427387904 - l.calls.reads
