-- Where the images of dies stand in a list of images.
use Rattle.std.specs.Prelude.{◌≡◌, ℕ, ◌<◌, Bool, true, List, Option, Some, option_and_then, slice_get}
use Rattle.fa_mount_headers.specs.declared.judging.Standing.{Standing}
use Rattle.fa_mount_headers.specs.Places.{place_of}

-- the place of the image of a die
abbrev pub place_on : List Standing → ℕ → Option ℕ
place_on dies die = option_and_then place_of (slice_get dies die)

-- two dies have one image
abbrev pub SharePlace : List Standing → ℕ → ℕ → Type 0
SharePlace dies die other = (index : ℕ) × (place_on dies die ≡ Some index) × (place_on dies other ≡ Some index)

-- no image is that of two dies
abbrev pub AreApart : List Standing → Type 0
AreApart dies = (die other index : ℕ) → place_on dies die ≡ Some index → place_on dies other ≡ Some index → die ≡ other

-- each of these dies has one of so many images
abbrev pub HaveImages : List Standing → (ℕ → Bool) → ℕ → Type 0
HaveImages dies these images = (die : ℕ) → these die ≡ true → (index : ℕ) × (place_on dies die ≡ Some index) × (index < images)
