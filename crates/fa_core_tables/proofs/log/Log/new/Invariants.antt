use Rattle.fa_core_tables.specs.Counted.{new_base}
use Rattle.fa_core_tables.proofs.log.Log.new.Given as goal

abbrev pub ghost-begin : goal.ghost-begin
ghost-begin g a = λ mounted. new_base (g.numbers mounted)
