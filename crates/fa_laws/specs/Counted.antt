-- What a history says of the pages, and how many Commits and Starts there are in a run.
use Rattle.std.specs.Prelude.{◌≡◌, ℕ, Bool, true, false, if◌then◌else◌, List, Some, option_map, Ok}
use Rattle.std.specs.List.{sum_by}
use Rattle.std.specs.FinMap.{get}
use Rattle.fa_machine.specs.declared.jobs.Flight.{Flight}
use Rattle.fa_machine.specs.declared.jobs.Flight.TheVariants.{Read}
use Rattle.fa_machine.specs.History.{replay, is_legal}
use Rattle.fa_machine.specs.Run.{Happening, Event}
use Rattle.fa_machine.specs.State.{Core}
use Rattle.fa_machine.specs.Step.{Commit, Take}

-- The number of each page is what the replay gives it, and each Start names the number that its page had.
pub record HasHistory (core : Core) : Type 0 where
  pub replayed : (page : ℕ)
      → get (replay core.base.numbers core.history) page ≡ option_map (λ version. version.seq.0) (get core.page_map.versions page)
  pub legal : is_legal core.base.numbers core.history ≡ true

abbrev pub is_read : Flight → Bool
is_read (Read batch page version slot) = true
is_read flight = false

abbrev pub commits_of : Happening → ℕ
commits_of (Event (Commit claim seat (Ok seq))) = 1
commits_of happening = 0

abbrev pub starts_of : Happening → ℕ
starts_of (Event (Take die seat (Some job))) = if is_read job.flight then 1 else 0
starts_of happening = 0

-- how many Commits were accepted, and how many booked reads were started
abbrev pub commits_over : List Happening → ℕ
commits_over happenings = sum_by commits_of happenings

abbrev pub starts_over : List Happening → ℕ
starts_over happenings = sum_by starts_of happenings
