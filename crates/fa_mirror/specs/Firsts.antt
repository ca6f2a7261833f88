-- The first number of a range that passes a test, and the lower of two.
use Rattle.std.specs.Prelude.{◌≡◌, ℕ, ◌<◌, ◌≤◌, Bool, true, false, nat_lt, if◌then◌else◌, Option, Some, None}

-- the first from one number on and before another that passes, if there is one
abbrev pub IsFirst : (ℕ → Bool) → ℕ → ℕ → Option ℕ → Type 0
IsFirst test from end None = (k : ℕ) → from ≤ k → k < end → test k ≡ false
IsFirst test from end (Some n) = (from ≤ n) × (n < end) × (test n ≡ true) × ((k : ℕ) → from ≤ k → k < n → test k ≡ false)

abbrev pub lower_of : Option ℕ → Option ℕ → Option ℕ
lower_of None second = second
lower_of (Some first) None = Some first
lower_of (Some first) (Some second) = if nat_lt second first then Some second else Some first
