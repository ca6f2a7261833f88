-- Images that are formatted one by one.
use Rattle.std.proofs.Common.{◌≡◌, ℕ, zero, suc, ◌+◌, ◌<◌, Bool, List, [], ◌∷◌, length, get_or, set, refl, sym, subst, add-one, arith}
use Rattle.fa_image.specs.Image.{ImageState}
use Rattle.fa_image.specs.declared.fault.ImageFault.{ImageFault}
use Rattle.fa_mount_headers.specs.Formatted.{AreNew, AreUntouched, HasNew, IsStopped, StopsHere}

module _ {I : Type 0} (view : I → ImageState) (honest : I → Bool) (header : ℕ → List ℕ) where
  -- so many images are formatted, and the others were not called
  abbrev pub Formats : ℕ → List I → List I → ℕ → Type 0
  Formats = AreNew view honest header (AreUntouched view honest)

  next : (images : List I) (d y : I) (die k : ℕ) → 0 < length images → k ≡ die → HasNew view honest (header k) (get_or images 0 d) y
      → Formats die images (set images 0 y) 1
  next [] d y die k below is new = absurd (omega (arith, below))
  next (image ∷ images) d y die k below is new = (subst (λ (i : ℕ). HasNew view honest (header i) image y) is new, refl)

  -- one image more
  formats_more : (n : ℕ) (befores afters : List I) (d y : I) (die k : ℕ) → Formats die befores afters n → n < length afters → k ≡ die + n
      → HasNew view honest (header k) (get_or afters n d) y → Formats die befores (set afters n y) (suc n)
  formats_more zero befores afters d y die k same below is new =
      let at : k ≡ die = omega (arith, is) in
      subst (λ (images : List I). Formats die images (set afters 0 y) 1) same (next afters d y die k below at new)
  formats_more (suc n) (before ∷ befores) (after ∷ afters) d y die k all below is new =
      let at : k ≡ suc die + n = omega (arith, is) in
      (all.0, formats_more n befores afters d y (suc die) k all.1 (omega (arith, below)) at new)
  formats_more (suc n) [] afters d y die k all below is new = absurd all
  formats_more (suc n) (before ∷ befores) [] d y die k all below is new = absurd all

  -- the same, as a loop counts
  pub formats_next : (n : ℕ) (befores afters : List I) (d y : I) → Formats 0 befores afters n → n < length afters
      → HasNew view honest (header n) (get_or afters n d) y → Formats 0 befores (set afters n y) (n + 1)
  formats_next n befores afters d y all below new =
      subst (λ (k : ℕ). Formats 0 befores (set afters n y) k) (sym (add-one n)) (formats_more n befores afters d y 0 n all below (omega arith) new)

  module _ (stopped : List ℕ) (fault : ImageFault) where
    -- so many images are formatted, the next one refused a call, and the others were not called
    abbrev pub Stops : ℕ → List I → List I → ℕ → Type 0
    Stops = AreNew view honest header (StopsHere view honest stopped fault)

    stop : (images : List I) (d y : I) (die : ℕ) → 0 < length images → IsStopped stopped fault (view (get_or images 0 d)) (view y)
        → honest y ≡ honest (get_or images 0 d) → Stops die images (set images 0 y) 0
    stop [] d y die below is same = absurd (omega (arith, below))
    stop (image ∷ images) d y die below is same = (is, same, refl)

    -- one image more, which refused a call
    pub formats_stop : (n : ℕ) (befores afters : List I) (d y : I) (die : ℕ) → Formats die befores afters n → n < length afters
        → IsStopped stopped fault (view (get_or afters n d)) (view y) → honest y ≡ honest (get_or afters n d)
        → Stops die befores (set afters n y) n
    formats_stop zero befores afters d y die same below is was =
        subst (λ (images : List I). Stops die images (set afters 0 y) 0) same (stop afters d y die below is was)
    formats_stop (suc n) (before ∷ befores) (after ∷ afters) d y die all below is was =
        (all.0, formats_stop n befores afters d y (suc die) all.1 (omega (arith, below)) is was)
    formats_stop (suc n) [] afters d y die all below is was = absurd all
    formats_stop (suc n) (before ∷ befores) [] d y die all below is was = absurd all
