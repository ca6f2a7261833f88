-- How the Commits of a seat keep up with the pages that requests write, over whole requests.
use Rattle.std.specs.Prelude.{◌≡◌, ℕ, ◌+◌, ◌≤◌, Bool, true, false, IsTrue, length, None}
use Rattle.fa_shared_request.specs.Ops.{OpView, task_in}
use Rattle.fa_shared_request.specs.Tallies.{Tally, pages_in, tally_of}
use Rattle.fa_shared_steps.specs.Tasks.{task_of}
use Rattle.fa_shared_steps.specs.declared.request.Request.{Request}
use Rattle.fa_shared_steps.specs.declared.request.Request.TheVariants.{Read, Write, Zero, Trim, Flush}
use Rattle.fa_shared_steps.specs.declared.stage.Stage.{Stage}
use Rattle.fa_shared_steps.specs.declared.stage.Stage.TheVariants.{Ended}
use Rattle.fa_shared_lock.specs.Seats.{commits_with, number_of}
use Rattle.fa_shared_lock.specs.declared.seat.Seat.{Seat}
use Rattle.fa_types.specs.Store.{Call, Reading, Writing, Zeroing, Trimming, Flushing, Answer as StoreAnswer, Refused}

-- From one tally to a later one: Commits are made of pages that were left, each once, and no other. Where no request was refused in
-- between, each page that is left no more was committed.
pub record Counts (old new : Tally) : Type 0 where
  pub rises : old.commits ≤ new.commits
  pub stays : old.refused ≤ new.refused
  pub most : new.commits + new.left ≤ old.commits + old.left
  pub all : new.refused ≡ old.refused → new.commits + new.left ≡ old.commits + old.left

module _ {A : Type 0} where
  -- whether the request has ended with no fault
  abbrev pub is_served : Stage A → Bool
  is_served (Ended None) = true
  is_served stage = false

module _ {L A : Type 0} where
  -- A request went on, by turns that were made with a seat.
  pub record GoesOn (before : Seat L) (op : OpView A) (after : Seat L) (next : OpView A) : Type 0 where
    pub counts : Counts (tally_of (commits_with before) op) (tally_of (commits_with after) next)
    pub task : task_in next ≡ task_in op
    pub number : number_of after ≡ number_of before

module _ {L : Type 0} where
  -- A request was made with a seat that commits so many pages. Where it was accepted each was committed, once; where it was refused none
  -- was committed twice.
  pub record IsMade (pages : ℕ) (before : Seat L) (accepted : Bool) (after : Seat L) : Type 0 where
    pub least : commits_with before ≤ commits_with after
    pub most : commits_with after ≤ commits_with before + pages
    pub all : IsTrue accepted → commits_with after ≡ commits_with before + pages
    pub number : number_of after ≡ number_of before

-- The request that a call of a store comes to.
abbrev pub request_of : Call → Request
request_of (Reading offset len) = Read offset len
request_of (Writing offset bytes fua) = Write offset (length bytes) fua
request_of (Zeroing offset len fua hole) = Zero offset len fua hole
request_of (Trimming offset len fua) = Trim offset len fua
request_of Flushing = Flush

abbrev pub is_accepted : StoreAnswer → Bool
is_accepted (Refused fault) = false
is_accepted answer = true

-- how many pages a call of a store commits that is accepted
abbrev pub pages_of : ℕ → Call → ℕ
pages_of page_bytes call = pages_in (task_of page_bytes (request_of call))
