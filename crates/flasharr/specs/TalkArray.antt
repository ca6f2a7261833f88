-- The command `talk --array`: hexadecimal lines are the bytes of one client of an array.
use Rattle.std.specs.Prelude.{◌≡◌, ◌⊎◌, ◌≤◌, ℕ, Bool, true, List, [], ◌∷◌, ◌++◌, codes, length, map, string_bytes, Ok, Option, Some, Result}
use Rattle.std.specs.declared.alloc.Global.{Global}
use Rattle.std.specs.declared.marker.Brand.{Brand}
use Rattle.fa_image.specs.FileMade.{FileMade, file_is_honest, file_view}
use Rattle.fa_image.specs.declared.file_image.FileImage.{FileImage}
use Rattle.fa_image.specs.Image.{ImageAnswer, ImageCall, ImageState}
use Rattle.fa_io.specs.Streams.{Reads, Streams}
use Rattle.fa_machine.specs.State.{Core}
use Rattle.fa_prog_array.specs.declared.kept.Kept.{Kept}
use Rattle.fa_map.specs.declared.page_map.PageMap.{PageMap}
use Rattle.fa_mount.specs.declared.closing.CloseFault.{CloseFault}
use Rattle.fa_mount_headers.specs.Found.{AreOnlyRead}
use Rattle.fa_mount_headers.specs.declared.fault.MountFault.{MountFault}
use Rattle.fa_mount_headers.specs.declared.fault.MountRefused.{MountRefused}
use Rattle.fa_mount_headers.specs.declared.judging.Standing.{Standing}
use Rattle.fa_prog_array.specs.Ending.{closed_line, closed_status, fault_lines}
use Rattle.fa_prog_array.specs.Mounting.{MountsSettings, RefusesSettingsArray}
use Rattle.fa_prog_host.specs.Opened.{AreOpened, IsNotOpened}
use Rattle.fa_prog_host.specs.declared.images.NotOpened.{NotOpened}
use Rattle.fa_prog_host.specs.Printing.{Prints, TellsNoMemory}
use Rattle.fa_prog_host.specs.SettingsRefused.{RefusesSettings}
use Rattle.fa_prog_images.specs.Array.{fault_of, mount_line}
use Rattle.flasharr.specs.Conversation.{Converses}
use Rattle.flasharr.specs.Right.{IsRight}
use Rattle.fa_prog_text.specs.HexLines.{bytes_of_text}
use Rattle.fa_prog_text.specs.Output.{RunsOver}
use Rattle.fa_prog_text.specs.Talk.{RefusesText, known, talk_text}
use Rattle.fa_session.specs.declared.session_end.SessionEnd.{SessionEnd}
use Rattle.fa_settings.specs.Settings.{IsSettingsText}
use Rattle.fa_settings.specs.declared.settings.Settings.{Settings}
use Rattle.fa_settings.specs.declared.terms.Terms.{Terms}
use Rattle.fa_faults.specs.declared.faults.Fault.{Fault}

-- what is printed of a conversation: the server's bytes, the number of the end, the faults, and how the array was closed
abbrev pub said_text : List ℕ → SessionEnd → List Fault → Result ℕ CloseFault → List ℕ
said_text written end faults closed = talk_text written end ++ fault_lines faults ++ closed_line closed

-- What is printed of a conversation, with its status, or that memory was refused.
abbrev pub TellsSaid : List ℕ → SessionEnd → List Fault → Result ℕ CloseFault → Option (List ℕ) → Option (List ℕ) → ℕ → Type 0
TellsSaid written end faults closed old new status =
    Prints (said_text written end faults closed) (closed_status closed) old new status ⊎ TellsNoMemory old new status

-- What is printed where a client says these bytes to an array that was mounted over these images: what came of the conversation; or memory
-- was refused before it began.
abbrev pub TellsMounted : {I : Type 0} → (I → ImageState) → (I → Bool) → (I → ImageCall → ImageAnswer → I → Type 0) → (L M : Type 0)
    → (export bytes array : List ℕ) → List Standing → Core → List I → Option (List ℕ) → Option (List ℕ) → ℕ → Type 0
TellsMounted view honest made L M export bytes array dies core mounted old new status =
    ((written : List ℕ) × (end : SessionEnd) × (faults : List Fault) × (closed : Result ℕ CloseFault)
    × Converses view honest made L M export bytes array dies core mounted written end faults closed
    × TellsSaid written end faults closed old new status)
    ⊎ TellsNoMemory old new status

-- The numbers of the settings with which an array is served: a window has 1 to 64 rounds, and the export's name is no longer than the
-- protocol lets it be.
abbrev pub MayBeServed : {A : Type 0} → Settings A → Type 0
MayBeServed settings = (1 ≤ settings.window_rounds) × (settings.window_rounds ≤ 64) × (length (string_bytes settings.export) ≤ 4096)

-- the array of the settings, as the store of one thread has it
abbrev pub ServedArray : Type 0
ServedArray = Kept (PageMap Global)

module _ (L M : Type 0) {A : Type 0} (settings : Settings A) (terms : Terms) where
  -- Why images are not mounted: they were not opened, or they were, and this is why they were refused.
  abbrev pub IsNotMounted : MountFault → Type 0
  IsNotMounted fault =
      ((refused : NotOpened) × IsNotOpened terms refused × (Some fault ≡ fault_of refused))
      ⊎ ((places : List ℕ) × (before after : List FileImage) × (refusal : MountRefused)
      × AreOpened settings.geometry (length settings.images.items) terms true places before
      × RefusesSettingsArray file_view FileMade settings terms before after refusal × (fault ≡ refusal.fault))

  -- The images of the settings' array were opened and mounted, a client who says these bytes was served the array, and it was closed. Over
  -- images that return what was written the client was answered as by a plain store of the bytes that stood in their slots.
  pub record TalksOver (bytes written : List ℕ) (end : SessionEnd) (faults : List Fault) (closed : Result ℕ CloseFault) : Type 0 where
    pub places : List ℕ
    pub opened : List FileImage
    pub mounted : List FileImage
    pub array : List ℕ
    pub dies : List Standing
    pub core : Core
    pub opens : AreOpened settings.geometry (length settings.images.items) terms true places opened
    pub mounts : MountsSettings file_view FileMade settings terms opened mounted array dies core
    pub only_read : AreOnlyRead (map file_view opened) (map file_view mounted)
    pub many : length dies ≡ core.page_map.geometry.dies
    pub converses : Converses file_view file_is_honest FileMade L M (string_bytes settings.export) bytes array dies core mounted written end
        faults closed
    pub right : IsRight file_view file_is_honest FileMade (string_bytes settings.export) (known bytes converses.left [] written) end dies core
        mounted converses.first converses.last converses.session

  -- What is printed where a client says these bytes: why the images are not mounted, or what came of the conversation. Or memory was
  -- refused before it began.
  abbrev pub TellsClient : List ℕ → Option (List ℕ) → Option (List ℕ) → ℕ → Type 0
  TellsClient bytes old new status =
      ((fault : MountFault) × IsNotMounted fault × Prints (mount_line fault) 1 old new status)
      ⊎ ((written : List ℕ) × (end : SessionEnd) × (faults : List Fault) × (closed : Result ℕ CloseFault)
      × TalksOver bytes written end faults closed × TellsSaid written end faults closed old new status)
      ⊎ TellsNoMemory old new status

  -- What is printed of a text: its first faulty line, or what is printed where a client says the bytes that its lines spell.
  abbrev pub TellsLines : List ℕ → Option (List ℕ) → Option (List ℕ) → ℕ → Type 0
  TellsLines text old new status =
      RefusesText text old new status
      ⊎ ((bytes : List ℕ) × (bytes_of_text text ≡ Ok bytes) × TellsClient bytes old new status)

-- What the command does. Where there are no settings it reads nothing of the input, and where the input is not read to its end, or spells
-- no bytes, it has opened no image.
abbrev pub RunsTalkArray : Type 0 → Terms → Streams → ℕ → Type 0
RunsTalkArray A terms s status =
    (Reads s [] × (RefusesSettings A s.held_before s.held_after status ⊎ TellsNoMemory s.held_before s.held_after status))
    ⊎ ((text : List ℕ) × (settings : Settings A) × IsSettingsText text settings
    × RunsOver (TellsLines Brand ServedArray settings terms) (codes "talk: cannot read" ++ 10 ∷ []) s status)
