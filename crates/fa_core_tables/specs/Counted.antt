-- How many Commits and Starts there were, as far as a count goes.
use Rattle.std.specs.Prelude.{◌≡◌, ℕ, ◌-◌, ◌^◌, List, min}
use Rattle.std.specs.FinMap.{FinMap}
use Rattle.std.specs.Ordering.{nat_cmp}
use Rattle.fa_machine.specs.History.{folded}
use Rattle.fa_machine.specs.State.{Base}
use Rattle.fa_machine.specs.declared.answers.HistoryEntry.{HistoryEntry}

-- the base of what was mounted, whose pages have these numbers
abbrev pub new_base : FinMap nat_cmp ℕ → Base
new_base numbers = record { numbers = numbers; commits = 0; starts = 0 }

-- a number as a count of 64 bits tells it
abbrev pub capped : ℕ → ℕ
capped n = min n (2 ^ 64 - 1)

-- The counts are those of the base with the entries.
pub record IsCounted (base : Base) (entries : List HistoryEntry) (commits starts : ℕ) : Type 0 where
  pub commits_are : commits ≡ capped (folded base entries).commits
  pub starts_are : starts ≡ capped (folded base entries).starts
