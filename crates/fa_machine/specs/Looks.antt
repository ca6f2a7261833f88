-- What the array's calls show that only look. No event rests on any of it, and no other definition.
use Rattle.std.specs.Prelude.{ℕ, ◌+◌, Bool, ◌&&◌, ◌||◌, nat_lt, Option, is_some, option_map, option_and_then, find}
use Rattle.std.specs.FinMap.{len, get}
use Rattle.fa_machine.specs.declared.jobs.Flight.{Flight}
use Rattle.fa_machine.specs.declared.jobs.Flight.TheVariants.{Header, Move, Erase, Read, Program, Sync}
use Rattle.fa_machine.specs.declared.jobs.JobKind.{JobKind}
use Rattle.fa_machine.specs.declared.jobs.JobKind.TheVariants.{Header as HeaderJob, Move as MoveJob, Erase as EraseJob}
use Rattle.fa_machine.specs.declared.jobs.JobKind.TheVariants.{Read as ReadJob, Program as ProgramJob, Sync as SyncJob}
use Rattle.fa_machine.specs.Collecting.{victim}
use Rattle.fa_machine.specs.Conditions.{copy_open}
use Rattle.fa_machine.specs.History.{folded}
use Rattle.fa_machine.specs.Maps.{below}
use Rattle.fa_machine.specs.Placement.{copy_place, is_thin, room}
use Rattle.fa_machine.specs.State.{Core, MapState, is_live}

abbrev pub wants_window : MapState → ℕ → Bool
wants_window m die = is_live m die && nat_lt (room m die) m.geometry.slots && is_some (victim m die)

-- the lowest thin page that has a place to go, and that place
abbrev pub next_thin : ℕ → MapState → Option (ℕ × ℕ)
next_thin copies m = option_and_then (λ page. option_map (λ die. (page, die)) (copy_place copies m page))
    (find (λ page. is_thin copies m page && is_some (copy_place copies m page)) (below m.geometry.pages))

-- a job, a claim, a batch or a copy is open
abbrev pub is_busy : Core → Bool
is_busy core = nat_lt 0 (len core.jobs + len core.claims + len core.batches) || copy_open core

abbrev pub kind_of : Flight → JobKind
kind_of (Header epoch live) = HeaderJob
kind_of (Move page version from to) = MoveJob
kind_of (Erase block) = EraseJob
kind_of (Read batch page version slot) = ReadJob
kind_of (Program page version slot) = ProgramJob
kind_of (Sync flushes) = SyncJob

-- the kind of the job that a die is at, by which a caller keeps the condition of Done
abbrev pub job_kind : Core → ℕ → Option JobKind
job_kind core die = option_map kind_of (get core.jobs die)

-- how many Commits and Starts there were since mounting; a Fold leaves them
abbrev pub counts : Core → ℕ × ℕ
counts core = let b = folded core.base core.history in (b.commits, b.starts)
