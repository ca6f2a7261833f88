-- Which of the dies that hold a page is open first.
use Rattle.std.specs.Prelude.{◌≡◌, ℕ, ◌+◌, ◌-◌, ◌≤◌, Bool, IsTrue, List, All}
use Rattle.fa_types.specs.Open.{IsNthOpen, open_among}
use Rattle.fa_types.specs.declared.numbers.Die.{Die}
use Rattle.fa_batch_terms.specs.Batch.{is_among}

-- one of the dies is open in a round, and none of them in an earlier one
pub record IsOpenFirst (current : ℕ) (closed : ℕ → ℕ → Bool) (dies : List Die) (die round : ℕ) : Type 0 where
  pub one : IsTrue (is_among dies die)
  pub first : IsNthOpen current closed die 1 round
  pub none_before : All (λ d. open_among current closed d.0 (round - current) ≡ 0) dies
  pub limit : round ≤ current + 1048576
