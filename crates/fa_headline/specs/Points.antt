-- Points of a run: what happened before, the world that it led to, what happens there, and the rest.
use Rattle.std.specs.Prelude.{◌≡◌, List, ◌∷◌, ◌++◌}
use Rattle.fa_machine.specs.Run.{Happening, Happens, Run}
use Rattle.fa_machine.specs.World.{World}

-- Of a run from a first world to a last one, something that happens in it.
pub record HappensIn (first : World) (happenings : List Happening) (last : World) (before : List Happening) (at : World)
    (happening : Happening) (after : World) : Type 0 where
  pub rest : List Happening
  pub order : happenings ≡ before ++ happening ∷ rest
  pub led : Run first before at
  pub happens : Happens at happening after
  pub leads : Run after rest last
