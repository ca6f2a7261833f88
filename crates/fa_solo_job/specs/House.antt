-- What one thread has of an array: its state, and the images of its dies.
use Rattle.std.specs.Prelude.{List}
use Rattle.fa_machine.specs.State.{Core}

pub record House (I : Type 0) : Type 0 where
  pub core : Core
  -- in the order in which they were mounted
  pub images : List I
