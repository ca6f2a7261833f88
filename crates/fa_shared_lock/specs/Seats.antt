-- What contracts see of a seat.
use Rattle.std.specs.Prelude.{ℕ, List}
use Rattle.std.specs.List.{sum_by}
use Rattle.fa_shared_lock.specs.declared.seat.Seat.{Seat}

module _ {L : Type 0} where
  -- the number by which the history names it
  abbrev pub number_of : Seat L → ℕ
  number_of seat = seat.number

  -- how many Commits were made with it
  abbrev pub commits_with : Seat L → ℕ
  commits_with seat = seat.share.amount

  -- how many were made with some seats together
  abbrev pub commits_together : List (Seat L) → ℕ
  commits_together seats = sum_by commits_with seats
