-- What `format` does, and what it prints.
use Rattle.std.specs.Prelude.{◌≡◌, ◌⊎◌, ℕ, ◌≤◌, ◌<◌, List, [], ◌∷◌, ◌++◌, length, codes, Option, Some, None, Ok}
use Rattle.std.specs.Fmt.{decimal}
use Rattle.std.specs.List.{AllByRecursion}
use Rattle.std.specs.declared.io.ErrorKind.{ErrorKind}
use Rattle.std.specs.declared.io.ErrorKind.TheVariants.{OutOfMemory}
use Rattle.fa_types.specs.declared.numbers.Die.{Die}
use Rattle.fa_image.specs.File.{of_zeros}
use Rattle.fa_image.specs.FileMade.{file_view, file_is_honest}
use Rattle.fa_image.specs.declared.file_image.FileImage.{FileImage}
use Rattle.fa_mount_headers.specs.FirstHeader.{spare_header}
use Rattle.fa_mount_headers.specs.Formatted.{AreFormatted, IsFormatted}
use Rattle.fa_settings.specs.Settings.{IsSettingsText}
use Rattle.fa_settings.specs.declared.settings.Settings.{Settings}
use Rattle.fa_tag.specs.HeaderGrammar.{header_bytes}
use Rattle.fa_prog_host.specs.Printing.{Prints, TellsNoMemory}
use Rattle.fa_prog_host.specs.SettingsRefused.{RefusesSettings}
use Rattle.fa_prog_images.specs.declared.format.Formatted.{Formatted}
use Rattle.fa_prog_images.specs.declared.format.Formatted.TheVariants.{Done, Images, NoSuchDie, Image, NoMemory}

-- what is printed of so many images that were formatted
unfoldable pub formatted_line : ℕ → List ℕ
formatted_line images = codes "formatted " ++ decimal images ++ codes " images" ++ 10 ∷ []

-- what is printed of an image that cannot be made or written
unfoldable pub image_line : ℕ → List ℕ
image_line image = codes "format: image " ++ decimal image ++ 10 ∷ []

module _ {A : Type 0} (settings : Settings A) where
  -- there is an image for each die, spares among them
  abbrev pub HasImages : Type 0
  HasImages = length settings.images.items ≡ settings.geometry.dies

  -- the file of an image was emptied
  abbrev pub IsEmptied : FileImage → Type 0
  IsEmptied image = file_view image ≡ of_zeros settings.geometry

  -- Files were emptied, and then formatted: those of all dies as the images of a new array, or that of one die as a spare's.
  abbrev pub FormatsAll : Type 0
  FormatsAll =
      (before after : List FileImage) × AllByRecursion IsEmptied before × (length before ≡ settings.geometry.dies)
      × AreFormatted file_view file_is_honest 2 settings.geometry settings.array before after (Ok tt)

  abbrev pub FormatsSpare : ℕ → Type 0
  FormatsSpare die =
      (before after : FileImage) × IsEmptied before
      × IsFormatted (header_bytes 2 (spare_header settings.geometry settings.array die)) (file_view before) (file_view after) (Ok tt)

  abbrev pub Formats : Option Die → ℕ → Type 0
  Formats None images = (images ≡ settings.geometry.dies) × FormatsAll
  Formats (Some die) images = (images ≡ 1) × FormatsSpare die.0

  -- the image at this place is one of those that were to be formatted
  abbrev pub IsAsked : Option Die → ℕ → Type 0
  IsAsked None image = image < settings.geometry.dies
  IsAsked (Some die) image = image ≡ die.0

  -- the array has no such die
  abbrev pub HasNoSuchDie : Option Die → Type 0
  HasNoSuchDie None = ⊥
  HasNoSuchDie (Some die) = settings.geometry.dies ≤ die.0

  -- what came of it
  abbrev pub CameOf : Option Die → Formatted → Type 0
  CameOf die (Done images) = HasImages × Formats die images
  CameOf die Images = ¬ HasImages
  CameOf die NoSuchDie = HasImages × HasNoSuchDie die
  CameOf die (Image image) = HasImages × IsAsked die image
  CameOf die NoMemory = Unit {0}

-- why an image was not made: at this place, or at one of so many
abbrev pub IsFailureAt : ℕ → Formatted → Type 0
IsFailureAt place (Image image) = image ≡ place
IsFailureAt place NoMemory = Unit {0}
IsFailureAt place came = ⊥

abbrev pub IsFailure : ℕ → Formatted → Type 0
IsFailure count (Image image) = image < count
IsFailure count NoMemory = Unit {0}
IsFailure count came = ⊥

-- the same, by the kind of the error
abbrev pub failure_of : ErrorKind → ℕ → Formatted
failure_of OutOfMemory place = NoMemory
failure_of kind place = Image place

-- What is printed of it: how many images there are now; or that the settings have another number of images than dies or no
-- such die; or which image cannot be made or written.
abbrev pub TellsFormatted : Formatted → Option (List ℕ) → Option (List ℕ) → ℕ → Type 0
TellsFormatted (Done images) old new status = Prints (formatted_line images) 0 old new status
TellsFormatted Images old new status = Prints (codes "settings: 5 images" ++ 10 ∷ []) 2 old new status
TellsFormatted NoSuchDie old new status = Prints (codes "settings: 5 dies" ++ 10 ∷ []) 2 old new status
TellsFormatted (Image image) old new status = Prints (image_line image) 1 old new status
TellsFormatted NoMemory old new status = TellsNoMemory old new status

-- What `format` prints: why there are no settings, or what came of those that a text says.
abbrev pub TellsFormat : Type 0 → Option Die → Option (List ℕ) → Option (List ℕ) → ℕ → Type 0
TellsFormat A die old new status =
    RefusesSettings A old new status
    ⊎ ((text : List ℕ) × (settings : Settings A) × IsSettingsText text settings
    × (came : Formatted) × CameOf settings die came × TellsFormatted came old new status)
    ⊎ TellsNoMemory old new status
