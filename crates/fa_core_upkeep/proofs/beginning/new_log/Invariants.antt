use Rattle.fa_core_state.specs.Begun.{numbers_of}
use Rattle.fa_core_upkeep.proofs.beginning.new_log.Given as goal

abbrev pub ghost-new : goal.ghost-new
ghost-new g a = λ pages. numbers_of (g.M.Map.view pages)
