-- The history: a base, and the Commits and Starts since. A Commit gives a page its number. A Start is legal where
-- the page has, at its place, the number that it names.
use Rattle.std.specs.Option.{option_map_or}
use Rattle.std.specs.Prelude.{ℕ, ◌+◌, Bool, true, false, ◌==◌, ◌&&◌, not, List, [], ◌∷◌, count_by}
use Rattle.std.specs.Ordering.{nat_cmp}
use Rattle.std.specs.FinMap.{FinMap, insert, get}
use Rattle.fa_machine.specs.declared.answers.HistoryEntry.{HistoryEntry}
use Rattle.fa_machine.specs.declared.answers.HistoryEntry.TheVariants.{Commit, Start}
use Rattle.fa_machine.specs.State.{Base}

-- the numbers after some entries
abbrev pub replay : FinMap nat_cmp ℕ → List HistoryEntry → FinMap nat_cmp ℕ
replay numbers [] = numbers
replay numbers (Commit seat page seq ∷ entries) = replay (insert numbers page.0 seq.0) entries
replay numbers (Start seat page seq ∷ entries) = replay numbers entries

-- each Start is legal
abbrev pub is_legal : FinMap nat_cmp ℕ → List HistoryEntry → Bool
is_legal numbers [] = true
is_legal numbers (Commit seat page seq ∷ entries) = is_legal (insert numbers page.0 seq.0) entries
is_legal numbers (Start seat page seq ∷ entries) = option_map_or (λ n. n == seq.0) (get numbers page.0) false && is_legal numbers entries

abbrev pub is_commit : HistoryEntry → Bool
is_commit (Commit seat page seq) = true
is_commit (Start seat page seq) = false

-- the base with the history taken into it
abbrev pub folded : Base → List HistoryEntry → Base
folded base entries = record {
  numbers = replay base.numbers entries;
  commits = base.commits + count_by is_commit entries;
  starts = base.starts + count_by (λ entry. not (is_commit entry)) entries;
}
