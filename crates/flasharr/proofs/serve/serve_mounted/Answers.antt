use Rattle.std.proofs.Common.{inr, subst}
use Rattle.fa_prog_host.specs.Printing.{TellsNoMemory}
use Rattle.flasharr.proofs.serve.serve_mounted.Goals as goal

-- nothing was printed before
pub returns-in-None : goal.returns-in-None
returns-in-None g c =
    inr (inr (inr (subst (λ old. TellsNoMemory old (g.W.Write.contents c.refuse_for_memory.new.output) c.refuse_for_memory.result)
    (c.serve_shared-served.ensures.refused c.in-None.is) c.refuse_for_memory.ensures)))
