-- The closed rounds of a die as spans no two of which touch, and rounds that come and go.
use Rattle.std.specs.Prelude.{◌≡◌, ℕ, ◌+◌, ◌-◌, ◌<◌, ◌≤◌, not, ◌&&◌, ◌||◌, ◌==◌, if◌then◌else◌, List, [], ◌∷◌}
use Rattle.std.specs.List.{sum_by, AllByRecursion}
use Rattle.fa_closed.specs.declared.spans.Span.{Span}
use Rattle.fa_closed.specs.Runs.{is_covered, is_from}

-- the spans rise, and a round that lies in none is between any two
abbrev pub AreMerged : List Span → Type 0
AreMerged [] = Unit {0}
AreMerged (s ∷ spans) = (s.first ≤ s.last) × AllByRecursion (λ t. s.last + 1 < t.first) spans × AreMerged spans

-- how many rounds lie in the spans
abbrev pub total_rounds : List Span → ℕ
total_rounds spans = sum_by (λ s. s.last + 1 - s.first) spans

-- The new spans have the rounds of the old ones and those from a first to a last one.
pub record AddsRun (old : List Span) (first last : ℕ) (new : List Span) : Type 0 where
  pub merged : AreMerged new
  pub covered : (round : ℕ) → is_covered new round ≡ (is_covered old round || is_from first last round)
  pub total : total_rounds new ≡ total_rounds old + (last + 1 - first)

-- The new spans have the rounds of the old ones but one, which the old ones have.
pub record DropsRound (old : List Span) (round : ℕ) (new : List Span) : Type 0 where
  pub merged : AreMerged new
  pub covered : (r : ℕ) → is_covered new r ≡ (is_covered old r && not (r == round))
  pub total : total_rounds new + 1 ≡ total_rounds old

-- The new spans have the rounds of the old ones but one, which the old ones need not have.
pub record PassesRound (old : List Span) (round : ℕ) (new : List Span) : Type 0 where
  pub merged : AreMerged new
  pub covered : (r : ℕ) → is_covered new r ≡ (is_covered old r && not (r == round))
  pub total : total_rounds new + (if is_covered old round then 1 else 0) ≡ total_rounds old
