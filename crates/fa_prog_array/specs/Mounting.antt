-- The images of the settings' array, mounted.
use Rattle.std.specs.Prelude.{◌≡◌, ◌⊎◌, ℕ, List, None, Ok}
use Rattle.std.specs.declared.alloc.Global.{Global}
use Rattle.fa_image.specs.Image.{ImageAnswer, ImageCall, ImageState}
use Rattle.fa_machine.specs.State.{Core}
use Rattle.fa_mount.specs.MountsArray.{MountsArray, RefusesArray}
use Rattle.fa_mount.specs.RecoversArray.{RefusesRecovered}
use Rattle.fa_mount_headers.specs.Expected.{IsExpected}
use Rattle.fa_mount_headers.specs.Found.{IsReadOf}
use Rattle.fa_mount_headers.specs.Recovering.{recovery_refusal}
use Rattle.fa_mount_headers.specs.declared.fault.MountRefused.{MountRefused}
use Rattle.fa_mount_headers.specs.declared.found.Found.{Found}
use Rattle.fa_mount_headers.specs.declared.judging.Standing.{Standing}
use Rattle.fa_mount_scan.specs.Recovering.{slots_refusal}
use Rattle.fa_prog_images.specs.Mount.{RefusesHeaders}
use Rattle.fa_settings.specs.Terms.{leaves_aside}
use Rattle.fa_settings.specs.declared.settings.Settings.{Settings}
use Rattle.fa_settings.specs.declared.terms.Terms.{Terms}
use Rattle.fa_settings.specs.declared.terms.Terms.TheVariants.{Whole}

module _ {I : Type 0} (view : I → ImageState) (made : I → ImageCall → ImageAnswer → I → Type 0) {A : Type 0} (settings : Settings A)
    (terms : Terms) where
  -- The header of each image was read once, and this was found. By it the images are those of the settings' array, and by it they
  -- were mounted, for its copies. Where the images of all dies have to be there, they are.
  pub record MountsSettings (before after : List I) (array : List ℕ) (dies : List Standing) (core : Core) : Type 0 where
    pub founds : List Found
    pub expected : IsExpected settings.geometry settings.array (leaves_aside terms) founds (Ok tt)
    pub mounts : MountsArray Global view made settings.copies.number (leaves_aside terms) before after array dies core
    pub by_these : mounts.mounts.headers.founds ≡ founds
    pub whole : terms ≡ Whole → (recovery_refusal settings.copies.number mounts.mounts.headers.founds ≡ None)
        × (slots_refusal settings.copies.number mounts.mounts.judged.mask mounts.mounts.judged.dies.items mounts.mounts.outcomes ≡ None)

  -- why they are not mounted by their headers and slots: it is as without these terms, or the images of all dies have to be there, and are
  -- not
  abbrev pub RefusesByTerms : List I → List I → MountRefused → Type 0
  RefusesByTerms before after refusal =
      RefusesArray Global view made settings.copies.number (leaves_aside terms) before after refusal
      ⊎ ((terms ≡ Whole) × RefusesRecovered Global view made settings.copies.number before after refusal)

  -- why they were not: memory was refused, or it is by the settings, or by the array
  abbrev pub RefusesSettingsArray : List I → List I → MountRefused → Type 0
  RefusesSettingsArray before after refusal =
      RefusesHeaders view made settings terms before after refusal
      ⊎ ((founds : List Found) × (between : List I) × IsReadOf view made before between founds
      × IsExpected settings.geometry settings.array (leaves_aside terms) founds (Ok tt) × RefusesByTerms before after refusal)
