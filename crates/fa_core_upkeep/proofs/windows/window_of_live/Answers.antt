use Rattle.std.proofs.Common.{ap, refl, sym, ◌∙◌}
use Rattle.std.specs.Prelude.{is_some}
use Rattle.fa_core_upkeep.proofs.windows.window_of_live.Goals as goal

pub returns-then-has_room-clause-window : goal.returns-then-has_room-clause-window
returns-then-has_room-clause-window g c = (
  record { live = c.requires.live; early = c.requires.early; room = c.has_room.ensures.room c.if-has_room.true },
  ap is_some (sym c.window.ensures ∙ c.in-Some.is),
  refl,
)
