use Rattle.std.proofs.Common.{inr}
use Rattle.std.specs.declared.io.ErrorKind.TheVariants.{OutOfMemory}
use Rattle.fa_prog_text.proofs.verify_log.print_checked.Goals as goal

pub returns-in-Err : goal.returns-in-Err
returns-in-Err g c = inr (OutOfMemory, c.refuse_for_memory.ensures)
