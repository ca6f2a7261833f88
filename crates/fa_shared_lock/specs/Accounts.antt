-- What events leave of the locked array beside its state: as many Commits are told of the seat as of the array, and nothing else changes.
use Rattle.std.specs.Prelude.{◌≡◌, ℕ, ◌+◌, Ok}
use Rattle.fa_machine.specs.Step.{Act, Commit}
use Rattle.fa_shared_lock.specs.Locked.{LockedState}
use Rattle.fa_shared_lock.specs.Seats.{commits_with, number_of}
use Rattle.fa_shared_lock.specs.declared.seat.Seat.{Seat}

module _ {L : Type 0} where
  pub record IsAccounted (old : LockedState) (before : Seat L) (new : LockedState) (after : Seat L) : Type 0 where
    pub rest : new ≡ record old { core = new.core; book = new.book }
    pub commits : commits_with after + old.book ≡ commits_with before + new.book
    pub number : number_of after ≡ number_of before

-- How many Commits an event accepts: one, where it is a Commit and was accepted.
abbrev pub commits_in : Act → ℕ
commits_in (Commit claim seat (Ok seq)) = 1
commits_in act = 0
