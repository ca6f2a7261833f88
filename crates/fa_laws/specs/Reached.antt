-- The worlds that runs lead to, from the array as it is mounted. What holds of each event that happens in such a world
-- holds of every event of every run.
use Rattle.std.specs.Prelude.{List}
use Rattle.fa_machine.specs.Beginning.{IsBeginning}
use Rattle.fa_machine.specs.Run.{Happening, Run}
use Rattle.fa_machine.specs.World.{World}

pub record IsReached (w : World) : Type 0 where
  pub first : World
  pub happenings : List Happening
  pub beginning : IsBeginning first
  pub run : Run first happenings w
