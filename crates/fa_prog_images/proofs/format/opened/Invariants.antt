use Rattle.std.proofs.Common.{[]}
use Rattle.fa_prog_images.proofs.format.opened.Given as goal

abbrev pub ghost-open_or_create : goal.ghost-open_or_create
ghost-open_or_create g a = record { bytes = []; lefts = [] }
