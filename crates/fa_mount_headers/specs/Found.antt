-- What is known of images once their headers were read.
use Rattle.std.specs.Prelude.{◌≡◌, ◌⊎◌, List, [], ◌∷◌, length}
use Rattle.fa_image.specs.Image.{ImageState, ImageCall, ReadingHeader, ImageAnswer, Gave, Refused}
use Rattle.fa_tag.specs.declared.header.Header.{Header}
use Rattle.fa_tag.specs.HeaderGrammar.{SpellsHeader}
use Rattle.fa_mount_headers.specs.declared.found.HeaderFound.{HeaderFound}
use Rattle.fa_mount_headers.specs.declared.found.HeaderFound.TheVariants.{Unread, Bad, Good}
use Rattle.fa_mount_headers.specs.declared.found.Found.{Found}

-- what the answer to a read of a header comes to
abbrev pub IsFound : ImageAnswer → HeaderFound → Type 0
IsFound (Refused fault) Unread = Unit {0}
IsFound (Gave bytes) Bad = (header : Header) → ¬ (SpellsHeader header bytes)
IsFound (Gave bytes) (Good header) = SpellsHeader header bytes
IsFound answer found = ⊥

module _ {I : Type 0} (view : I → ImageState) (made : I → ImageCall → ImageAnswer → I → Type 0) where
  -- one call of the image: its header was read, and this was found
  pub record ReadsHeader (before after : I) (found : Found) : Type 0 where
    pub geometry : found.geometry ≡ (view before).geometry
    pub answer : ImageAnswer
    pub read : made before ReadingHeader answer after
    pub header : IsFound answer found.header

  -- The same of the first images of a list, in its order, as many as were found. The others were not called.
  abbrev pub ReadsHeaders : List I → List I → List Found → Type 0
  ReadsHeaders befores afters [] = afters ≡ befores
  ReadsHeaders (before ∷ befores) (after ∷ afters) (found ∷ founds) = ReadsHeader before after found × ReadsHeaders befores afters founds
  ReadsHeaders befores afters (found ∷ founds) = ⊥

-- The header of each image of a list was read once, and this was found.
abbrev pub IsReadOf : {I : Type 0} → (I → ImageState) → (I → ImageCall → ImageAnswer → I → Type 0) → List I → List I → List Found → Type 0
IsReadOf view made before after founds = ReadsHeaders view made before after founds × (length founds ≡ length before)

-- The headers of these images were read, and this was found of each. No image was called since.
abbrev pub AreFound : {I : Type 0} → (I → ImageState) → (I → ImageCall → ImageAnswer → I → Type 0) → List I → List Found → Type 0
AreFound {I} view made images founds = (before : List I) × IsReadOf view made before images founds

-- nothing of the image has changed but how many faults it has counted
abbrev pub IsOnlyRead : ImageState → ImageState → Type 0
IsOnlyRead before after = after ≡ record before { faults = after.faults }

-- the same of each image of a list
abbrev pub AreOnlyRead : List ImageState → List ImageState → Type 0
AreOnlyRead [] [] = Unit {0}
AreOnlyRead (before ∷ befores) (after ∷ afters) = IsOnlyRead before after × AreOnlyRead befores afters
AreOnlyRead befores afters = ⊥

-- what was found of an image is what stands there, or its header was not read
abbrev pub IsOf : ImageState → Found → Type 0
IsOf image found = (found.geometry ≡ image.geometry) × ((found.header ≡ Unread) ⊎ IsFound (Gave image.header) found.header)

-- the same of the first images of a list, as many as were found
abbrev pub AreOf : List ImageState → List Found → Type 0
AreOf images [] = Unit {0}
AreOf (image ∷ images) (found ∷ founds) = IsOf image found × AreOf images founds
AreOf [] (found ∷ founds) = ⊥
