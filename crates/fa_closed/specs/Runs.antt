-- Closed rounds of dies, given as runs, which may overlap.
use Rattle.std.specs.Prelude.{◌≡◌, ℕ, ◌+◌, ◌<◌, ◌≤◌, Bool, false, not, ◌&&◌, ◌==◌, nat_le, List, [], ◌∷◌, length, slice_index_or}
use Rattle.std.specs.List.{list_any, AllByRecursion}
use Rattle.fa_types.specs.Open.{rounds_that, max_closed}
use Rattle.fa_closed.specs.declared.closed.Run.{Run}
use Rattle.fa_closed.specs.declared.spans.Span.{Span}

-- whether a round lies from a first to a last one
abbrev pub is_from : ℕ → ℕ → ℕ → Bool
is_from first last round = nat_le first round && nat_le round last

-- whether a run has a die closed in a round
abbrev pub closes : Run → ℕ → ℕ → Bool
closes run die round = run.die.0 == die && is_from run.first.0 run.last.0 round

-- whether one of the runs has a die closed in a round
abbrev pub any_closes : List Run → ℕ → ℕ → Bool
any_closes runs die round = list_any (λ run. closes run die round) runs

-- the first rounds of the runs do not fall
abbrev pub AreInOrder : List Run → Type 0
AreInOrder runs =
    (i j : ℕ) (d : Run) → i ≤ j → j < length runs → (slice_index_or runs i d).first.0 ≤ (slice_index_or runs j d).first.0

-- whether a round lies in one of the spans
abbrev pub is_covered : List Span → ℕ → Bool
is_covered spans round = list_any (λ s. is_from s.first s.last round) spans

-- the spans rise, and no two overlap
abbrev pub AreRising : List Span → Type 0
AreRising [] = Unit {0}
AreRising (s ∷ spans) = (s.first ≤ s.last) × AllByRecursion (λ t. s.last < t.first) spans × AreRising spans

-- how many spans end before a round, and all others do not
pub record IsIndexFrom (spans : List Span) (round index : ℕ) : Type 0 where
  pub within : index ≤ length spans
  pub before : (i : ℕ) (d : Span) → i < index → (slice_index_or spans i d).last < round
  pub after : (i : ℕ) (d : Span) → index ≤ i → i < length spans → round ≤ (slice_index_or spans i d).last

-- no more of the rounds from a first one on lie in the spans than a die may have closed
abbrev pub FewCovered : List Span → ℕ → Type 0
FewCovered spans from = (m : ℕ) → rounds_that (is_covered spans) from m ≤ max_closed

-- The n-th round from a first one, n from 1, that lies in none of the spans: n - 1 of those before it lie in none either.
pub record IsNthFree (spans : List Span) (from n round : ℕ) : Type 0 where
  pub late : from ≤ round
  pub free : is_covered spans round ≡ false
  pub before : (m : ℕ) → from + m ≡ round → rounds_that (λ r. not (is_covered spans r)) from m + 1 ≡ n

-- whether a die is closed in a round, given the spans of each die by its number
abbrev pub closed_by : List (List Span) → ℕ → ℕ → Bool
closed_by dies die round = is_covered (slice_index_or dies die []) round
