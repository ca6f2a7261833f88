-- Headers that were read, one more.
use Rattle.std.proofs.Common.{◌≡◌, ℕ, ◌<◌, Bool, IsTrue, ◌⊎◌, inl, inr, List, [], ◌∷◌, ◌++◌, length, get_or, map, set, refl, subst, arith}
use Rattle.std.specs.List.{AllByRecursion}
use Rattle.fa_image.specs.Image.{ImageState, ImageCall, ReadingHeader, ImageAnswer, Gave, Done, Refused, LeadsTo, IsTrueAnswer, ImageMeets}
use Rattle.fa_mount_headers.specs.declared.found.Found.{Found}
use Rattle.fa_mount_headers.specs.declared.found.HeaderFound.{HeaderFound}
use Rattle.fa_mount_headers.specs.declared.found.HeaderFound.TheVariants.{Unread, Bad, Good}
use Rattle.fa_mount_headers.specs.Found.{IsFound, ReadsHeader, ReadsHeaders, IsOnlyRead, AreOnlyRead, AreOf}

module _ {I : Type 0} (view : I → ImageState) (made : I → ImageCall → ImageAnswer → I → Type 0) where
  first : (images : List I) (d y : I) (found : Found) → 0 < length images → ReadsHeader view made (get_or images 0 d) y found
      → ReadsHeaders view made images (set images 0 y) (found ∷ [])
  first [] d y found below read = absurd (omega (arith, below))
  first (image ∷ images) d y found below read = (read, refl)

  -- the next image was read
  pub reads_more : (befores afters : List I) (founds : List Found) (d y : I) (found : Found) → ReadsHeaders view made befores afters founds
      → length founds < length afters → ReadsHeader view made (get_or afters (length founds) d) y found
      → ReadsHeaders view made befores (set afters (length founds) y) (founds ++ found ∷ [])
  reads_more befores afters [] d y found same below read =
      subst (λ (images : List I). ReadsHeaders view made images (set afters 0 y) (found ∷ [])) same (first afters d y found below read)
  reads_more (before ∷ befores) (after ∷ afters) (f ∷ founds) d y found all below read =
      (all.0, reads_more befores afters founds d y found all.1 (omega (arith, below)) read)
  reads_more [] afters (f ∷ founds) d y found all below read = absurd all
  reads_more (before ∷ befores) [] (f ∷ founds) d y found all below read = absurd all

-- ## What reading leaves, and what it tells

only_read : (before after : ImageState) (answer : ImageAnswer) → LeadsTo ReadingHeader answer before after → IsOnlyRead before after
only_read before after (Gave bytes) same = rw same refl
only_read before after Done same = rw same refl
only_read before after (Refused fault) same = rw same refl

told : (image : ImageState) (answer : ImageAnswer) (found : HeaderFound) → IsTrueAnswer ReadingHeader answer image → IsFound answer found
    → (found ≡ Unread) ⊎ IsFound (Gave image.header) found
told image (Gave bytes) found same is = inr (subst (λ (l : List ℕ). IsFound (Gave l) found) same is)
told image Done Unread same is = absurd is
told image Done Bad same is = absurd is
told image Done (Good header) same is = absurd is
told image (Refused fault) Unread same is = inl refl
told image (Refused fault) Bad same is = absurd is
told image (Refused fault) (Good header) same is = absurd is

-- images that were not called are as they were
pub as_they_were : (images : List ImageState) → AreOnlyRead images images
as_they_were [] = tt
as_they_were (image ∷ images) = (refl, as_they_were images)

module _ {I : Type 0} (view : I → ImageState) (honest : I → Bool) (made : I → ImageCall → ImageAnswer → I → Type 0)
    (meets : (before after : I) (call : ImageCall) (answer : ImageAnswer) → made before call answer after
    → ImageMeets (view before) (honest before) call answer (view after) (honest after)) where
  pub are_only_read : (befores afters : List I) (founds : List Found) → ReadsHeaders view made befores afters founds
      → AreOnlyRead (map view befores) (map view afters)
  are_only_read befores afters [] same = subst (λ (l : List I). AreOnlyRead (map view l) (map view afters)) same (as_they_were (map view afters))
  are_only_read (before ∷ befores) (after ∷ afters) (found ∷ founds) all =
      let met = meets before after ReadingHeader all.0.answer all.0.read in
      (only_read (view before) (view after) all.0.answer met.leads, are_only_read befores afters founds all.1)
  are_only_read [] afters (found ∷ founds) all = absurd all
  are_only_read (before ∷ befores) [] (found ∷ founds) all = absurd all

  pub are_of : (befores afters : List I) (founds : List Found) → ReadsHeaders view made befores afters founds
      → AllByRecursion (λ image. IsTrue (honest image)) afters → AreOf (map view befores) founds
  are_of befores afters [] same all_honest = tt
  are_of (before ∷ befores) (after ∷ afters) (found ∷ founds) all all_honest =
      let read = all.0 in
      let met = meets before after ReadingHeader read.answer read.read in
      ((read.geometry, told (view before) read.answer found.header (met.told all_honest.0) read.header), are_of befores afters founds all.1 all_honest.1)
  are_of [] afters (found ∷ founds) all all_honest = absurd all
  are_of (before ∷ befores) [] (found ∷ founds) all all_honest = absurd all
