-- Which rounds of a die are open: those from the current round on that are not closed. The closed places
-- are given as a test of a die and a round.
use Rattle.std.specs.Prelude.{◌≡◌, ℕ, zero, suc, ◌+◌, ◌≤◌, Bool, false, not, if◌then◌else◌}

abbrev pub IsOpen : ℕ → (ℕ → ℕ → Bool) → ℕ → ℕ → Type 0
IsOpen current closed die round = (current ≤ round) × (closed die round ≡ false)

-- in how many of the n rounds from a first one a test holds
abbrev pub rounds_that : (ℕ → Bool) → ℕ → ℕ → ℕ
rounds_that test first zero = 0
rounds_that test first (suc n) = (if test first then 1 else 0) + rounds_that test (suc first) n

-- how many of the n rounds from the current one are open
abbrev pub open_among : ℕ → (ℕ → ℕ → Bool) → ℕ → ℕ → ℕ
open_among current closed die n = rounds_that (λ round. not (closed die round)) current n

-- The n-th open round from the current one, n from 1: it is open, and n - 1 before it are.
pub record IsNthOpen (current : ℕ) (closed : ℕ → ℕ → Bool) (die n round : ℕ) : Type 0 where
  pub is_open : IsOpen current closed die round
  pub before : (m : ℕ) → current + m ≡ round → open_among current closed die m + 1 ≡ n

-- the most rounds of a die that are closed from the current one on
abbrev pub max_closed : ℕ
max_closed = 1048576

abbrev pub FewClosed : ℕ → (ℕ → ℕ → Bool) → Type 0
FewClosed current closed = (die n : ℕ) → rounds_that (closed die) current n ≤ max_closed
