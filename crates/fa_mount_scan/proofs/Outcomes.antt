-- What came of one die more.
use Rattle.std.proofs.Common.{◌≡◌, ℕ, ◌<◌, List, [], ◌∷◌, ◌++◌, Option, Some, None, Result, length, refl, sym, ◌∙◌, arith, slice_get}
use Rattle.fa_types.specs.declared.geometry.Geometry.{Geometry}
use Rattle.fa_image.specs.declared.fault.ImageFault.{ImageFault}
use Rattle.fa_image.specs.Image.{ImageCall, ImageAnswer}
use Rattle.fa_mount_scan.specs.ContentReading.{AreApart, AreOutcomes, HasOutcome, image_read}
use Rattle.fa_mount_scan.specs.declared.slots.content.SlotContent.{SlotContent}
use Rattle.fa_mount_headers.specs.declared.judging.Standing.{Standing}
use Rattle.fa_mount_scan.proofs.ByDie.{AreUntouched, next_each, still_there}

module _ {I : Type 0} (made : I → ImageCall → ImageAnswer → I → Type 0) (geometry : Geometry) (standings : List Standing)
    (apart : AreApart standings) where
  module _ (images now after : List I) (die : ℕ) (standing : Standing) (at : slice_get standings die ≡ Some standing)
      (untouched : AreUntouched standings images now die)
      (others : (index : ℕ) → ¬ (image_read standing ≡ Some index) → slice_get after index ≡ slice_get now index) where
    -- what came of an earlier die is not changed by this one
    earlier : (d : ℕ) (x : Standing) → d < die → slice_get standings d ≡ Some x → (image : Option ℕ) → image_read x ≡ image
        → (outcome : Option (Result (List SlotContent) ImageFault)) → HasOutcome made geometry images now d image outcome
        → HasOutcome made geometry images after d image outcome
    earlier d x below is None which None has = has
    earlier d x below is None which (Some outcome) has = has
    earlier d x below is (Some index) which None has = has
    earlier d x below is (Some index) which (Some outcome) has = record {
      old = has.old;
      new = has.new;
      was = has.was;
      is = others index (λ same. let one = apart d die x standing index is at which same in omega (arith, below, one)) ∙ has.is;
      reads = has.reads;
    }

    this : (image : Option ℕ) → image_read standing ≡ image → (outcome : Option (Result (List SlotContent) ImageFault))
        → HasOutcome made geometry now after die image outcome → HasOutcome made geometry images after die image outcome
    this None which None has = has
    this None which (Some outcome) has = has
    this (Some index) which None has = has
    this (Some index) which (Some outcome) has = record {
      old = has.old;
      new = has.new;
      was = sym (still_there standings images now after die standing at untouched apart index which) ∙ has.was;
      is = has.is;
      reads = has.reads;
    }

    pub next_outcomes : (outcomes : List (Option (Result (List SlotContent) ImageFault))) (outcome : Option (Result (List SlotContent) ImageFault))
        → length outcomes ≡ die → AreOutcomes made geometry images now standings outcomes
        → HasOutcome made geometry now after die (image_read standing) outcome
        → AreOutcomes made geometry images after standings (outcomes ++ outcome ∷ [])
    next_outcomes outcomes outcome long before has =
        next_each (HasOutcome made geometry images after) standings die standing at outcomes outcome long
        (λ d x o below is found. earlier d x below is (image_read x) refl o (before d x o is found)) (this (image_read standing) refl outcome has)
