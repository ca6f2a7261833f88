use Rattle.std.proofs.Common.{replicate}
use Rattle.fa_map.specs.Chains.{no_link}
use Rattle.fa_map.proofs.rows.SlotRows.new.Given as goal

abbrev pub ghost-begin : goal.ghost-begin
ghost-begin g a = λ count. replicate count no_link
