-- Lists of images and of their places that grow by one.
use Rattle.std.proofs.Common.{◌≡◌, ℕ, suc, ◌+◌, List, [], ◌∷◌, ◌++◌, map, length, sym, ap, ◌∙◌, subst, arith, length-append}
use Rattle.std.specs.List.{AllByRecursion}
use Rattle.fa_image.specs.declared.file_image.FileImage.{FileImage}
use Rattle.fa_prog_host.specs.Opened.{AreRising}

-- one place more, or none
pub rising_on : (first end : ℕ) (numbers : List ℕ) → AreRising first end numbers → AreRising first (end + 1) (numbers ++ end ∷ [])
rising_on first end [] h = (h, omega arith)
rising_on first end (n ∷ numbers) h = (h.0, rising_on (suc n) end numbers h.1)

pub rising_past : (first end : ℕ) (numbers : List ℕ) → AreRising first end numbers → AreRising first (end + 1) numbers
rising_past first end [] h = omega (arith, h)
rising_past first end (n ∷ numbers) h = (h.0, rising_past (suc n) end numbers h.1)

-- one image more
module _ {W : Type 0} (f : W → FileImage) (P : FileImage → Type 0) where
  all_on : (images : List W) (image : W) → AllByRecursion P (map f images) → P (f image) → AllByRecursion P (map f (images ++ image ∷ []))
  all_on [] image all one = (one, tt)
  all_on (x ∷ images) image all one = (all.0, all_on images image all.1 one)

  pub all_more : (images new : List W) (image : W) → new ≡ images ++ image ∷ [] → AllByRecursion P (map f images) → P (f image)
      → AllByRecursion P (map f new)
  all_more images new image is all one = subst (λ l. AllByRecursion P (map f l)) (sym is) (all_on images image all one)

pub one_longer : {A : Type 0} (xs new : List A) (x : A) → new ≡ xs ++ x ∷ [] → length new ≡ length xs + 1
one_longer xs new x is = ap length is ∙ length-append xs (x ∷ [])
