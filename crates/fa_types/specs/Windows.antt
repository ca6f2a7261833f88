-- The windows of dies, runs of open rounds, and how many rounds are closed. The closed rounds of a die are given as a
-- test of a round.
use Rattle.std.specs.Prelude.{◌≡◌, ℕ, ◌+◌, ◌-◌, ◌<◌, ◌≤◌, max, Bool, true, false, not, ◌&&◌, nat_le, Option}
use Rattle.std.specs.List.{list_all, range_with_len}
use Rattle.std.specs.Option.{option_map_or}
use Rattle.fa_types.specs.Open.{rounds_that, max_closed}
use Rattle.fa_types.specs.declared.window.Window.{Window}

-- whether a round is in a window, if there is one
abbrev pub is_in_window : Option Window → ℕ → Bool
is_in_window window round = option_map_or (λ w. nat_le w.first.0 round && nat_le round w.last.0) window false

-- how many rounds of a window have not passed
abbrev pub window_rounds : ℕ → Option Window → ℕ
window_rounds current window = option_map_or (λ w. w.last.0 + 1 - max current w.first.0) window 0

-- so many rounds are open, one after the other
abbrev pub are_open : (ℕ → Bool) → ℕ → ℕ → Bool
are_open closed count first = list_all (λ round. not (closed round)) (range_with_len first count)

-- a window's first round: after the current one, and the first from which so many are open
pub record IsFirstWindow (current : ℕ) (closed : ℕ → Bool) (count first : ℕ) : Type 0 where
  pub later : current < first
  pub opens : are_open closed count first ≡ true
  pub earliest : (round : ℕ) → current < round → round < first → are_open closed count round ≡ false

-- So many rounds are closed from the current one on. They are the entries of a die: its booked rounds, and the rounds of
-- its window that have not passed.
pub record AreEntries (current : ℕ) (closed : ℕ → Bool) (count : ℕ) : Type 0 where
  pub most : (n : ℕ) → rounds_that closed current n ≤ count
  pub reached : (n : ℕ) × (rounds_that closed current n ≡ count)

-- with so many more, the entries of a die would be more than the most
abbrev pub IsFull : ℕ → (ℕ → Bool) → ℕ → Type 0
IsFull current closed more = (n : ℕ) × (max_closed < rounds_that closed current n + more)
