-- Where the image of a die stands in a list of images.
use Rattle.std.specs.Prelude.{ℕ, Option, Some, None}
use Rattle.fa_mount_headers.specs.declared.judging.Standing.{Standing}
use Rattle.fa_mount_headers.specs.declared.judging.Standing.TheVariants.{Missing, Live, Spare, Out}

-- the place of the image of a die that stands so
abbrev pub place_of : Standing → Option ℕ
place_of Missing = None
place_of (Live index) = Some index
place_of (Spare index) = Some index
place_of (Out index) = Some index
