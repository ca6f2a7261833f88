use Rattle.std.proofs.Common.{refl}
use Rattle.fa_shared_request.proofs.Counts.{made_op}
use Rattle.fa_shared_request.proofs.PartTallies.{served_well}
use Rattle.fa_shared_request.proofs.Begun.{begun}
use Rattle.fa_shared_request.specs.Tallies.{pages_in}
use Rattle.fa_shared_request.specs.Ops.{stage_of, task_in}
use Rattle.fa_shared_store.proofs.array_blocks.ArrayBlocks.run.Goals as goal

pub returns-clause-made : goal.returns-clause-made
returns-clause-made g c =
    made_op _ _ c.args.op c.finish-end.new.op (pages_in (task_in c.args.op)) c.finish-end.result _
    (λ commits. begun commits (task_in c.args.op) (task_in c.args.op) (stage_of c.args.op) refl c.requires) c.finish-end.ensures.goes_on
    c.finish-end.ensures.ended (served_well (stage_of c.finish-end.new.op) c.finish-end.result c.finish-end.ensures.ended)
