-- Where formatting stopped, there is an image.
use Rattle.std.proofs.Common.{ℕ, zero, suc, ◌<◌, Bool, List, [], ◌∷◌, length, arith}
use Rattle.fa_image.specs.Image.{ImageState}
use Rattle.fa_image.specs.declared.fault.ImageFault.{ImageFault}
use Rattle.fa_mount_headers.specs.Formatted.{AreNew, StopsHere}

pub stops_within : {I : Type 0} (view : I → ImageState) (honest : I → Bool) (header : ℕ → List ℕ) (stopped : List ℕ) (fault : ImageFault) (die : ℕ)
    (before after : List I) (n : ℕ) → AreNew view honest header (StopsHere view honest stopped fault) die before after n → n < length before
stops_within view honest header stopped fault die (x ∷ before) (y ∷ after) zero h = omega arith
stops_within view honest header stopped fault die [] after zero h = absurd h
stops_within view honest header stopped fault die (x ∷ before) [] zero h = absurd h
stops_within view honest header stopped fault die (x ∷ before) (y ∷ after) (suc n) h =
    let rest = stops_within view honest header stopped fault (suc die) before after n h.1 in
    omega (arith, rest)
stops_within view honest header stopped fault die [] after (suc n) h = absurd h
stops_within view honest header stopped fault die (x ∷ before) [] (suc n) h = absurd h
