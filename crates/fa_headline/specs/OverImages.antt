-- The headline over images: what was mounted of them and driven over them is such a run.
use Rattle.std.specs.Prelude.{◌≡◌, List, map}
use Rattle.fa_headline.specs.Headline.{IsHeadline}
use Rattle.fa_image.specs.Image.{ImageState}
use Rattle.fa_machine.specs.Beginning.{IsBeginning}
use Rattle.fa_machine.specs.Run.{Happening, Run}
use Rattle.fa_machine.specs.State.{Core}
use Rattle.fa_machine.specs.World.{World}
use Rattle.fa_mount_close_laws.specs.Drives.{AreImages, Drive, Driven, acts_of, events_of}
use Rattle.fa_mount_headers.specs.declared.judging.Standing.{Standing}
use Rattle.fa_mount_scan.specs.MountedWorld.{IsMountedWorld, bytes_of, is_spare_of}

-- A run from the array that was mounted, with the plain array that stood in the slots of these images. It has the events that drove the
-- array, it leads to the array's state over its images, and the headline holds of it.
pub record RunsRight {I : Type 0} (view : I → ImageState) (dies : List Standing) (images : List I) (core : Core) (drives : List Drive)
    (last : Driven I) : Type 0 where
  pub first : World
  pub happenings : List Happening
  pub end : World
  pub begins : first.core ≡ core
  pub mounted : IsMountedWorld (bytes_of (map view images) dies) (is_spare_of dies) first
  pub beginning : IsBeginning first
  pub run : Run first happenings end
  pub events : events_of happenings ≡ acts_of drives
  pub ends : end.core ≡ last.core
  pub sees : AreImages view end last.images
  pub headline : IsHeadline first happenings end
