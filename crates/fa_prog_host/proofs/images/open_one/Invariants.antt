use Rattle.std.proofs.Common.{[]}
use Rattle.fa_prog_host.proofs.images.open_one.Given as goal

abbrev pub ghost-open : goal.ghost-open
ghost-open g a = record { bytes = []; lefts = [] }
