-- One life of an array: from a mount of images that were synced before they were read, to the world in which a crash comes.
use Rattle.std.specs.Prelude.{ℕ, List}
use Rattle.fa_crash.specs.Flushed.{AreOfLast}
use Rattle.fa_crash.specs.Headers.{AreFirstHeaders, AreToldAlike, NameOurs}
use Rattle.fa_crash.specs.Unsynced.{Unsynced, nothing_unsynced}
use Rattle.fa_crash.specs.Whole.{RunWhole}
use Rattle.fa_machine.specs.Beginning.{IsBeginning}
use Rattle.fa_machine.specs.Run.{Happening}
use Rattle.fa_machine.specs.World.{HeaderTells, World}

pub record IsLife (first : World) (told : ℕ → HeaderTells) (w : World) (u : Unsynced) : Type 0 where
  pub beginning : IsBeginning first
  pub cells : AreOfLast first
  pub headers : AreFirstHeaders first told
  pub alike : AreToldAlike told
  pub ours : NameOurs first told
  pub happenings : List Happening
  pub run : RunWhole first (nothing_unsynced first) happenings w u
