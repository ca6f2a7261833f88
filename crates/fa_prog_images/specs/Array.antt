-- What `check` and `dump` print.
use Rattle.std.specs.Prelude.{◌≡◌, ◌⊎◌, ℕ, Bool, true, false, List, [], ◌∷◌, ◌++◌, map, length, codes, string_bytes, Option, Some, None}
use Rattle.fa_image.specs.FileMade.{file_view, FileMade}
use Rattle.fa_image.specs.declared.file_image.FileImage.{FileImage}
use Rattle.fa_machine.specs.State.{MapState}
use Rattle.fa_map.specs.PageView.{page_view}
use Rattle.fa_mount_scan.specs.Pages.{written_pages}
use Rattle.fa_mount_scan.specs.Reported.{IsReportOf}
use Rattle.fa_mount_headers.specs.declared.fault.MountFault.{MountFault}
use Rattle.fa_mount_headers.specs.declared.fault.MountFault.TheVariants.{HeaderBad, ArraysDiffer, GeometryDiffers, DieTwice}
use Rattle.fa_mount_headers.specs.declared.fault.MountFault.TheVariants.{Unclean, NoDieLive, ImageFault, NoMemory}
use Rattle.fa_mount_headers.specs.declared.fault.MountRefused.{MountRefused}
use Rattle.fa_mount_headers.specs.declared.found.Found.{Found}
use Rattle.fa_mount_scan.specs.declared.mounted.Mounted.{Mounted}
use Rattle.fa_mount_scan.specs.declared.mounted.Report.{Report}
use Rattle.std.specs.declared.alloc.Global.{Global}
use Rattle.fa_settings.specs.Settings.{IsSettingsText}
use Rattle.fa_settings.specs.Terms.{is_whole}
use Rattle.fa_settings.specs.declared.settings.Settings.{Settings}
use Rattle.fa_settings.specs.declared.terms.Terms.{Terms}
use Rattle.fa_prog_images.specs.Documents.{check_data, document_line, dump_data}
use Rattle.fa_prog_images.specs.Lines.{check_text, dump_text}
use Rattle.fa_prog_images.specs.Mount.{Array, MountsArray, RefusesArray}
use Rattle.fa_prog_host.specs.Opened.{AreOpened, IsNotOpened}
use Rattle.fa_prog_host.specs.Printing.{Prints, TellsNoMemory}
use Rattle.fa_prog_host.specs.SettingsRefused.{RefusesSettings}
use Rattle.fa_prog_images.specs.Table.{AreRowsFrom}
use Rattle.fa_prog_host.specs.declared.images.NotOpened.{NotOpened}
use Rattle.fa_prog_host.specs.declared.images.NotOpened.TheVariants as opened
use Rattle.fa_prog_images.specs.declared.look.Asked.{Asked}
use Rattle.fa_prog_images.specs.declared.look.Asked.TheVariants.{Check, Dump}
use Rattle.fa_prog_images.specs.declared.look.NotTold.{NotTold}
use Rattle.fa_prog_images.specs.declared.look.NotTold.TheVariants as told
use Rattle.fa_prog_images.specs.declared.table.DieRow.{DieRow}

-- what is printed of images that are not mounted: the fault's number, and its words
abbrev pub mount_line : MountFault → List ℕ
mount_line HeaderBad = codes "mount: 1 header bad" ++ 10 ∷ []
mount_line ArraysDiffer = codes "mount: 2 arrays differ" ++ 10 ∷ []
mount_line GeometryDiffers = codes "mount: 3 geometry differs" ++ 10 ∷ []
mount_line DieTwice = codes "mount: 4 die twice" ++ 10 ∷ []
mount_line Unclean = codes "mount: 5 unclean" ++ 10 ∷ []
mount_line NoDieLive = codes "mount: 6 no die live" ++ 10 ∷ []
mount_line ImageFault = codes "mount: 7 image fault" ++ 10 ∷ []
mount_line NoMemory = codes "mount: 8 no memory" ++ 10 ∷ []

-- the fault that is told of images that were not opened, unless memory was refused
abbrev pub fault_of : NotOpened → Option MountFault
fault_of opened.Image = Some ImageFault
fault_of opened.PagesLost = Some Unclean
fault_of opened.NoMemory = None

-- What is told of a mounted array, over what is seen of its map.
module _ {M : Type 0} (view : M → MapState) where
  -- the lines
  abbrev pub IsLines : ℕ → Asked → Mounted M Global → List ℕ → Type 0
  IsLines copies Check mounted text =
      (report : Report) × IsReportOf copies (view mounted.map) mounted.dies.items report
      × (report.epoch ≡ mounted.epoch) × (report.clean ≡ mounted.clean) × (text ≡ check_text report)
  IsLines copies Dump mounted text = text ≡ dump_text (view mounted.map)

  -- the document, with this table of its dies
  abbrev pub IsDocumentWith : ℕ → Asked → Mounted M Global → List DieRow → List ℕ → Type 0
  IsDocumentWith copies Check mounted rows text =
      (report : Report) × IsReportOf copies (view mounted.map) mounted.dies.items report
      × (report.epoch ≡ mounted.epoch) × (report.clean ≡ mounted.clean) × (text ≡ document_line (check_data report rows))
  IsDocumentWith copies Dump mounted rows text = text ≡ document_line (dump_data (written_pages (view mounted.map)) rows)

  -- the document: its table is that of the headers by which the array was mounted, and of the paths at their places
  abbrev pub IsDocument : {A : Type 0} → Settings A → Asked → List ℕ → List Found → Mounted M Global → List ℕ → Type 0
  IsDocument settings asked places founds mounted text =
      (rows : List DieRow)
      × AreRowsFrom (map string_bytes settings.images.items) places founds mounted.dies.items (view mounted.map) 0 rows
      × (length rows ≡ (view mounted.map).geometry.dies) × IsDocumentWith settings.copies.number asked mounted rows text

module _ {A : Type 0} (settings : Settings A) where
  -- what is told of a mounted array: lines, or a document
  abbrev pub IsText : Asked → Bool → List ℕ → List Found → Array → List ℕ → Type 0
  IsText asked false places founds mounted text = IsLines page_view settings.copies.number asked mounted text
  IsText asked true places founds mounted text = IsDocument page_view settings asked places founds mounted text

  -- what is told of the settings' array: its images were opened and mounted, and the text is that of this map
  pub record IsTold (asked : Asked) (terms : Terms) (json : Bool) (text : List ℕ) : Type 0 where
    pub places : List ℕ
    pub before : List FileImage
    pub after : List FileImage
    pub founds : List Found
    pub mounted : Array
    pub opened : AreOpened settings.geometry (length settings.images.items) terms (is_whole terms) places before
    pub mounts : MountsArray file_view FileMade settings terms before after founds mounted
    pub says : IsText asked json places founds mounted text

  -- Why images are not mounted: they were not opened, or they were, and this is why they were refused.
  abbrev pub IsNotMounted : Terms → MountFault → Type 0
  IsNotMounted terms fault =
      ((refused : NotOpened) × IsNotOpened terms refused × (Some fault ≡ fault_of refused))
      ⊎ ((places : List ℕ) × (before after : List FileImage) × (refusal : MountRefused)
      × AreOpened settings.geometry (length settings.images.items) terms (is_whole terms) places before
      × RefusesArray file_view FileMade settings terms before after refusal × (fault ≡ refusal.fault))

  abbrev pub IsNotTold : Terms → NotTold → Type 0
  IsNotTold terms (told.Mount fault) = IsNotMounted terms fault
  IsNotTold terms told.NoMemory = Unit {0}

  -- What is printed of the settings' array: its text, or the line of the fault for which its images are not mounted, or that
  -- memory was refused.
  abbrev pub TellsArray : Asked → Terms → Bool → Option (List ℕ) → Option (List ℕ) → ℕ → Type 0
  TellsArray asked terms json old new status =
      ((text : List ℕ) × IsTold asked terms json text × Prints text 0 old new status)
      ⊎ ((fault : MountFault) × IsNotMounted terms fault × Prints (mount_line fault) 1 old new status)
      ⊎ TellsNoMemory old new status

-- What `check` and `dump` print on some terms, and with `--json` or without: why there are no settings, or what is to be
-- told of the array of those that a text says.
abbrev pub TellsLook : Type 0 → Asked → Terms → Bool → Option (List ℕ) → Option (List ℕ) → ℕ → Type 0
TellsLook A asked terms json old new status =
    RefusesSettings A old new status
    ⊎ ((text : List ℕ) × (settings : Settings A) × IsSettingsText text settings × TellsArray settings asked terms json old new status)
    ⊎ TellsNoMemory old new status

-- why nothing is told where images were not opened
abbrev pub not_told_of : NotOpened → NotTold
not_told_of opened.Image = told.Mount ImageFault
not_told_of opened.PagesLost = told.Mount Unclean
not_told_of opened.NoMemory = told.NoMemory
