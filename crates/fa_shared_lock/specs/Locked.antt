-- What contracts see of the array under its lock.
use Rattle.std.specs.Prelude.{ℕ, Bool, List}
use Rattle.fa_machine.specs.State.{Core}

pub record LockedState : Type 0 where
  -- the array's state, and its number
  pub core : Core
  pub number : List ℕ
  -- how many Commits there were, those before the lock was made among them
  pub book : ℕ
  -- how many seats are out, and how many Commits were made with seats that came back
  pub out : ℕ
  pub gathered : ℕ
  -- whether whoever works for the array is to end
  pub stopping : Bool
