-- The window of a die, as rounds pass.
use Rattle.std.specs.Prelude.{ℕ, nat_lt, if◌then◌else◌, Option, Some, None}
use Rattle.fa_types.specs.declared.window.Window.{Window}

-- what is left of windows when a round has passed: one that ended in it is gone
abbrev pub left_window : ℕ → Option Window → Option Window
left_window round None = None
left_window round (Some window) = if nat_lt round window.last.0 then Some window else None
