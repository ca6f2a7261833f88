-- The images of the settings' array, mounted.
use Rattle.std.specs.Prelude.{◌≡◌, ◌⊎◌, List, Ok, Err, None}
use Rattle.std.specs.declared.alloc.Global.{Global}
use Rattle.fa_image.specs.Image.{ImageState, ImageCall, ImageAnswer}
use Rattle.fa_map.specs.PageView.{page_view}
use Rattle.fa_map.specs.declared.page_map.PageMap.{PageMap}
use Rattle.fa_mount_headers.specs.Expected.{IsExpected}
use Rattle.fa_mount_headers.specs.Found.{IsReadOf}
use Rattle.fa_mount_headers.specs.Rules.{refused}
use Rattle.fa_mount_headers.specs.declared.fault.MountFault.TheVariants.{NoMemory}
use Rattle.fa_mount_headers.specs.declared.found.Found.{Found}
use Rattle.fa_mount_headers.specs.Recovering.{recovery_refusal}
use Rattle.fa_mount_scan.specs.Mounting.{Mounts, RefusesMount}
use Rattle.fa_mount_scan.specs.Recovering.{RefusesRecovery, slots_refusal}
use Rattle.fa_mount_headers.specs.declared.fault.MountRefused.{MountRefused}
use Rattle.fa_mount_scan.specs.declared.mounted.Mounted.{Mounted}
use Rattle.fa_settings.specs.Terms.{leaves_aside}
use Rattle.fa_settings.specs.declared.settings.Settings.{Settings}
use Rattle.fa_settings.specs.declared.terms.Terms.{Terms}
use Rattle.fa_settings.specs.declared.terms.Terms.TheVariants.{Whole}

-- an array that was mounted
abbrev pub Array : Type 0
Array = Mounted (PageMap Global) Global

module _ {I : Type 0} (view : I → ImageState) (made : I → ImageCall → ImageAnswer → I → Type 0) {A : Type 0} (settings : Settings A)
    (terms : Terms) where
  -- The header of each image was read once, and this was found. By it the images are those of the settings' array, and by it they
  -- were mounted, for its copies. Where the images of all dies have to be there, they are.
  pub record MountsArray (before after : List I) (founds : List Found) (mounted : Array) : Type 0 where
    pub expected : IsExpected settings.geometry settings.array (leaves_aside terms) founds (Ok tt)
    pub mounts : Mounts Global view made settings.copies.number (leaves_aside terms) before after
        mounted.array mounted.epoch mounted.clean mounted.dies.items (page_view mounted.map)
    pub by_these : mounts.headers.founds ≡ founds
    pub whole : terms ≡ Whole → (recovery_refusal settings.copies.number mounts.headers.founds ≡ None)
        × (slots_refusal settings.copies.number mounts.judged.mask mounts.judged.dies.items mounts.outcomes ≡ None)

  -- why the headers are not those of the settings' array: memory was refused, or it is by the settings
  abbrev pub RefusesHeaders : List I → List I → MountRefused → Type 0
  RefusesHeaders before after refusal =
      (refusal ≡ refused NoMemory)
      ⊎ ((founds : List Found) × IsReadOf view made before after founds
      × IsExpected settings.geometry settings.array (leaves_aside terms) founds (Err refusal))

  -- why they are not mounted by their headers and slots: it is as without these terms, or the images of all dies have to be there, and are
  -- not
  abbrev pub RefusesByTerms : List I → List I → MountRefused → Type 0
  RefusesByTerms before after refusal =
      RefusesMount Global view made settings.copies.number (leaves_aside terms) before after refusal
      ⊎ ((terms ≡ Whole) × RefusesRecovery Global view made settings.copies.number before after refusal)

  -- why they were not: memory was refused, or it is by the settings, or by the array
  abbrev pub RefusesArray : List I → List I → MountRefused → Type 0
  RefusesArray before after refusal =
      (refusal ≡ refused NoMemory)
      ⊎ ((founds : List Found) × IsReadOf view made before after founds
      × IsExpected settings.geometry settings.array (leaves_aside terms) founds (Err refusal))
      ⊎ ((founds : List Found) × (between : List I) × IsReadOf view made before between founds
      × IsExpected settings.geometry settings.array (leaves_aside terms) founds (Ok tt) × RefusesByTerms before after refusal)
