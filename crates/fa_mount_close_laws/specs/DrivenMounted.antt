-- The images of an array that was mounted.
use Rattle.std.specs.Prelude.{ℕ, List, Option, option_and_then, slice_get}
use Rattle.fa_mount_headers.specs.declared.judging.Standing.{Standing}
use Rattle.fa_mount_scan.specs.ContentReading.{image_read}

-- the image of each die that is live or a spare
abbrev pub images_on : {I : Type 0} → List Standing → List I → ℕ → Option I
images_on dies images die = option_and_then (slice_get images) (option_and_then image_read (slice_get dies die))
