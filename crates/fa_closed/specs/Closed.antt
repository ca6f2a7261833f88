-- What contracts see of closed rounds: the current round, and whether a die is closed in a round.
use Rattle.std.specs.Prelude.{ℕ, Bool}
use Rattle.fa_closed.specs.declared.closed.Closed.{Closed}
use Rattle.fa_closed.specs.Runs.{closed_by}

module _ {A : Type 0} where
  abbrev pub current_of : Closed A → ℕ
  current_of rounds = rounds.current

  abbrev pub is_closed : Closed A → ℕ → ℕ → Bool
  is_closed rounds die round = closed_by rounds.dies.items die round
