-- The images of the settings that were opened.
use Rattle.std.specs.Prelude.{◌≡◌, ◌≢◌, ◌⊎◌, ℕ, suc, ◌≤◌, Bool, true, false, List, [], ◌∷◌, length}
use Rattle.std.specs.List.{AllByRecursion}
use Rattle.fa_types.specs.declared.geometry.Geometry.{Geometry}
use Rattle.fa_image.specs.FileMade.{FileMade}
use Rattle.fa_image.specs.Image.{ImageAnswer, Done, Syncing}
use Rattle.fa_image.specs.declared.file_image.FileImage.{FileImage}
use Rattle.fa_prog_host.specs.declared.images.NotOpened.{NotOpened}
use Rattle.fa_prog_host.specs.declared.images.NotOpened.TheVariants.{Image, PagesLost, NoMemory}
use Rattle.fa_settings.specs.Terms.{leaves_aside}
use Rattle.fa_settings.specs.declared.terms.Terms.{Terms}
use Rattle.fa_settings.specs.declared.terms.Terms.TheVariants.{Whole, Unclean}

-- rising numbers, from one on and below another
abbrev pub AreRising : ℕ → ℕ → List ℕ → Type 0
AreRising first end [] = first ≤ end
AreRising first end (n ∷ numbers) = (first ≤ n) × AreRising (suc n) end numbers

-- An image was synced as it was opened: what is read of it from then on is what stands on its disk. A refused sync is passed over
-- where images may be missing.
abbrev pub WasSynced : Terms → FileImage → Type 0
WasSynced terms image =
    (opened : FileImage) × (answer : ImageAnswer) × FileMade opened Syncing answer image × ((answer ≡ Done) ⊎ (terms ≡ Unclean))

-- Images that were opened, for so many paths, with the places of their paths, rising. Where none is left aside, each was. Each was
-- synced, where that was asked for.
pub record AreOpened (geometry : Geometry) (count : ℕ) (terms : Terms) (syncs : Bool) (places : List ℕ) (images : List FileImage) : Type 0 where
  pub each : length places ≡ length images
  pub rising : AreRising 0 count places
  pub all : leaves_aside terms ≡ false → length places ≡ count
  pub shape : AllByRecursion (λ image. image.geometry ≡ geometry) images
  pub synced : syncs ≡ true → AllByRecursion (WasSynced terms) images

-- Why images were not opened: one was not, or was not synced, where it is not left aside; or pages were lost, and nobody who looked at that
-- says that the array may be taken.
abbrev pub IsNotOpened : Terms → NotOpened → Type 0
IsNotOpened terms Image = terms ≢ Unclean
IsNotOpened terms PagesLost = terms ≡ Whole
IsNotOpened terms NoMemory = Unit {0}
