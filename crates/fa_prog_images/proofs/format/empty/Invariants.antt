use Rattle.std.proofs.Common.{[]}
use Rattle.fa_prog_images.proofs.format.empty.Given as goal

abbrev pub ghost-empty : goal.ghost-empty
ghost-empty g a = []
