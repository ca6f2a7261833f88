-- Dies that want a window of the collector and have none.
use Rattle.std.specs.Prelude.{ℕ, Bool, ◌&&◌, not, is_some}
use Rattle.std.specs.FinMap.{get}
use Rattle.std.specs.List.{list_any}
use Rattle.fa_machine.specs.Looks.{wants_window}
use Rattle.fa_machine.specs.State.{Core, dies_of}

abbrev pub lacks_window : Core → ℕ → Bool
lacks_window core die = wants_window core.page_map die && not (is_some (get core.calendar.windows die))

-- Whether a window is to be given.
abbrev pub is_window_due : Core → Bool
is_window_due core = list_any (lacks_window core) (dies_of core.page_map)
