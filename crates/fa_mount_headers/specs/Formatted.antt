-- Images that were formatted: every slot erased, the header of a new array, and one sync more.
use Rattle.std.specs.Prelude.{◌≡◌, ℕ, zero, suc, Bool, List, ◌∷◌, length, replicate, Result, Ok, Err}
use Rattle.fa_types.specs.declared.geometry.Geometry.{Geometry}
use Rattle.fa_image.specs.Image.{ImageState, slot_bytes, slot_count, erased_slot, one_more, faulted}
use Rattle.fa_image.specs.declared.fault.ImageFault.{ImageFault}
use Rattle.fa_image.specs.declared.fault.ImageFault.TheVariants.{EraseBlock, WriteHeader, Sync}
use Rattle.fa_tag.specs.HeaderGrammar.{header_bytes}
use Rattle.fa_mount_headers.specs.FirstHeader.{first_header}
use Rattle.fa_mount_headers.specs.declared.fault.FormatFault.{FormatFault}

-- the image with every slot erased
abbrev pub all_erased : ImageState → ImageState
all_erased image = record image { slots = replicate (slot_count image.geometry) (erased_slot (slot_bytes image.geometry)) }

-- the same with these bytes as its header, and one sync more
abbrev pub formatted : List ℕ → ImageState → ImageState
formatted header image = record (all_erased image) { header = header; syncs = one_more image.syncs }

-- an image that refused to erase a block: its slots may have any bytes
abbrev pub IsErasedInPart : ImageState → ImageState → Type 0
IsErasedInPart before after = (slots : List (List ℕ)) × (after ≡ faulted (record before { slots = slots }))

-- What is left of an image that refused a call while it was to get this header: what was done before that call, and no
-- sync more.
abbrev pub IsStopped : List ℕ → ImageFault → ImageState → ImageState → Type 0
IsStopped header EraseBlock before after = IsErasedInPart before after
IsStopped header WriteHeader before after = (left : List ℕ) × (after ≡ faulted (record (all_erased before) { header = left }))
IsStopped header Sync before after = after ≡ faulted (record (all_erased before) { header = header })
IsStopped header fault before after = ⊥

-- what comes of formatting one image
abbrev pub IsFormatted : List ℕ → ImageState → ImageState → Result (Unit {0}) ImageFault → Type 0
IsFormatted header before after (Ok done) = after ≡ formatted header before
IsFormatted header before after (Err fault) = IsStopped header fault before after

module _ {I : Type 0} (view : I → ImageState) (honest : I → Bool) where
  -- an image has this header now, is formatted, and is as honest as it was
  abbrev pub HasNew : List ℕ → I → I → Type 0
  HasNew header before after = (view after ≡ formatted header (view before)) × (honest after ≡ honest before)

  -- The first so many images are those of a new array, from a die on, and the others are as `rest` says.
  abbrev pub AreNew : (ℕ → List ℕ) → (List I → List I → Type 0) → ℕ → List I → List I → ℕ → Type 0
  AreNew header rest die befores afters zero = rest befores afters
  AreNew header rest die (before ∷ befores) (after ∷ afters) (suc n) =
      HasNew (header die) before after × AreNew header rest (suc die) befores afters n
  AreNew header rest die befores afters (suc n) = ⊥

  -- the others were not called
  abbrev pub AreUntouched : List I → List I → Type 0
  AreUntouched befores afters = afters ≡ befores

  -- the first of the others refused a call, and those behind it were not called
  abbrev pub StopsHere : List ℕ → ImageFault → List I → List I → Type 0
  StopsHere header fault (before ∷ befores) (after ∷ afters) =
      IsStopped header fault (view before) (view after) × (honest after ≡ honest before) × (afters ≡ befores)
  StopsHere header fault befores afters = ⊥

  -- what comes of formatting all images of an array, with headers in a format
  abbrev pub AreFormatted : ℕ → Geometry → List ℕ → List I → List I → Result (Unit {0}) FormatFault → Type 0
  AreFormatted format geometry array before after (Ok done) =
      AreNew (λ die. header_bytes format (first_header geometry array die)) AreUntouched 0 before after (length before)
  AreFormatted format geometry array before after (Err fault) =
      let header = λ (die : ℕ). header_bytes format (first_header geometry array die) in
      AreNew header (StopsHere (header fault.image) fault.fault) 0 before after fault.image
