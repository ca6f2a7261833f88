-- A history owns nothing, so it may go to another thread.
use denote.RattleType.{RattleType}
use denote.Param.Send.{IsSend}
use Rattle.fa_ghost.specs.contracts.history.History.{the_row}

pub send : (Y : RattleType) → IsSend (the_row Y)
send Y = record { owned = λ d vs. ((λ vss. (tt, ((λ uss. (tt, tt)), tt))), tt); leaving = λ k f vs. tt }
