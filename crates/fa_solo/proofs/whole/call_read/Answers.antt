use Rattle.std.proofs.Common.{◌≡◌}
use Rattle.fa_shared_steps.specs.declared.request.Request.TheVariants.{Read}
use Rattle.fa_shared_steps.specs.Tasks.{task_of}
use Rattle.fa_solo.proofs.Begun.{whole_err, whole_ok}
use Rattle.fa_types.specs.Store.{Gave, Refused}
use Rattle.fa_types.specs.declared.blocks.BlockFault.TheVariants.{NoRoom}
use Rattle.fa_solo.proofs.whole.call_read.Goals as goal

pub returns-clause-gave : goal.returns-clause-gave
returns-clause-gave g c =
    whole_ok _ _ _ _ _ (task_of c.args.page_bytes (Read c.args.offset c.args.len)) _ c.run_read-answer.result (λ answer. Gave answer.items)
    c.bring_in.ensures c.run_read-answer.ensures.gave c.tidy.ensures (λ answer is. let e : Gave answer.items ≡ Refused NoRoom = is in cc)

pub returns-clause-refused : goal.returns-clause-refused
returns-clause-refused g c =
    whole_err _ _ _ _ _ (task_of c.args.page_bytes (Read c.args.offset c.args.len)) _ c.run_read-answer.result c.bring_in.ensures
    c.run_read-answer.ensures.refused c.tidy.ensures c.run_read-answer.ensures.room
