-- Why an array is recovered or not: one that was not closed, whose dies have to be all there.
use Rattle.std.specs.Prelude.{◌≡◌, ◌⊎◌, ℕ, Bool, true, false, not, ◌&&◌, nat_le, if◌then◌else◌, List, [], ◌∷◌, count_by, find, length}
use Rattle.std.specs.Prelude.{Option, Some, None, option_map, slice_index_or, Ok}
use Rattle.std.specs.List.{list_all}
use Rattle.fa_image.specs.Image.{ImageState, ImageCall, ImageAnswer}
use Rattle.fa_machine.specs.Maps.{below}
use Rattle.fa_machine.specs.State.{MapState}
use Rattle.fa_mount_headers.specs.declared.fault.MountFault.TheVariants.{NoMemory, Unclean}
use Rattle.fa_mount_headers.specs.declared.fault.MountRefused.{MountRefused}
use Rattle.fa_mount_headers.specs.declared.found.Found.{Found}
use Rattle.fa_mount_headers.specs.declared.judging.Judged.{Judged}
use Rattle.fa_mount_headers.specs.declared.judging.Standing.{Standing}
use Rattle.fa_mount_headers.specs.declared.judging.Standing.TheVariants.{Missing, Spare}
use Rattle.fa_mount_headers.specs.Found.{ReadsHeaders}
use Rattle.fa_mount_headers.specs.Recovering.{recovery_refusal}
use Rattle.fa_mount_headers.specs.Rules.{first_of, is_in, refused}
use Rattle.fa_mount_scan.specs.ContentReading.{AreOutcomes}
use Rattle.fa_mount_scan.specs.Mounting.{Mounts, SayArray}
use Rattle.fa_mount_scan.specs.Reported.{is_spare}
use Rattle.fa_mount_scan.specs.Scanned.{IsScanRefused, Outcome, fault_at, is_erased, is_refused}

-- how a die stands by its header, and what came of reading it
abbrev pub standing_at : List Standing → ℕ → Standing
standing_at standings die = slice_index_or standings die Missing

abbrev pub outcome_at : List Outcome → ℕ → Outcome
outcome_at outcomes die = slice_index_or outcomes die None

-- a spare each of whose slots is erased: nobody has used it
abbrev pub is_unused : Standing → Outcome → Bool
is_unused (Spare index) (Some (Ok slots)) = list_all is_erased slots
is_unused standing outcome = false

module _ (mask : ℕ) (standings : List Standing) (outcomes : List Outcome) where
  -- the die is in the mask, and its image refused a read
  abbrev pub is_unread_die : ℕ → Bool
  is_unread_die die = is_in mask die && is_refused (outcome_at outcomes die)

  -- the die is in the mask and has the mark of a spare, and yet it was used
  abbrev pub is_used_spare : ℕ → Bool
  is_used_spare die =
      is_in mask die && is_spare (standing_at standings die) && not (is_unused (standing_at standings die) (outcome_at outcomes die))

  -- the die is out: neither in the mask nor an unused spare
  abbrev pub is_gone : ℕ → Bool
  is_gone die = not (is_in mask die) && not (is_unused (standing_at standings die) (outcome_at outcomes die))

-- the refusal for a used spare
abbrev pub used_spare_at : List Standing → ℕ → MountRefused
used_spare_at standings die = record (fault_at standings die) { fault = Unclean }

-- as many dies are out as each page has copies, or more: some page may have lost all of its copies
abbrev pub too_few : ℕ → ℕ → Option MountRefused
too_few copies gone = if nat_le copies gone then Some (refused Unclean) else None

-- Why what was read of an array's dies keeps it from being recovered, if it does, in this order.
abbrev pub slots_refusal : ℕ → ℕ → List Standing → List Outcome → Option MountRefused
slots_refusal copies mask standings outcomes =
    let dies = below (length standings) in
    first_of (
    option_map (fault_at standings) (find (is_unread_die mask standings outcomes) dies)
    ∷ option_map (used_spare_at standings) (find (is_used_spare mask standings outcomes) dies)
    ∷ too_few copies (count_by (is_gone mask standings outcomes) dies)
    ∷ []
    )

-- the same, or it is refused though an unclean array may be mounted; that memory was refused comes at any point
abbrev pub AreSlotsRefused : ℕ → ℕ → List Standing → List Outcome → MountRefused → Type 0
AreSlotsRefused copies mask standings outcomes refusal =
    (slots_refusal copies mask standings outcomes ≡ Some refusal) ⊎ IsScanRefused standings true outcomes refusal

module _ {I : Type 0} (A : Type 0) (view : I → ImageState) (made : I → ImageCall → ImageAnswer → I → Type 0) (copies : ℕ) where
  -- Images were recovered: they were mounted as those of an array that may be unclean, each die of the mask of the greatest epoch has an
  -- image with a header, was read, and is no used spare, and fewer dies are out than each page has copies.
  pub record Recovers (before after : List I) (array : List ℕ) (epoch : ℕ) (clean : Bool) (dies : List Standing) (m : MapState) : Type 0 where
    pub mounts : Mounts A view made copies true before after array epoch clean dies m
    pub headers : recovery_refusal copies mounts.headers.founds ≡ None
    pub slots : slots_refusal copies mounts.judged.mask mounts.judged.dies.items mounts.outcomes ≡ None

  -- the same, by the headers that were found
  abbrev pub RecoversBy : List I → List I → List Found → List ℕ → ℕ → Bool → List Standing → MapState → Type 0
  RecoversBy before after founds array epoch clean dies m =
      (recovers : Recovers before after array epoch clean dies m) × (recovers.mounts.headers.founds ≡ founds)

  -- why images were not recovered: memory was refused, or it is by the headers, or by the slots
  abbrev pub RefusesRecovery : List I → List I → MountRefused → Type 0
  RefusesRecovery before after refusal =
      (refusal ≡ refused NoMemory)
      ⊎ ((founds : List Found) × ReadsHeaders view made before after founds × (length founds ≡ length before)
      × (recovery_refusal copies founds ≡ Some refusal))
      ⊎ ((between : List I) × (judged : Judged A) × SayArray A view made copies true before between judged × (outcomes : List Outcome)
      × AreOutcomes made judged.geometry between after judged.dies.items outcomes
      × AreSlotsRefused copies judged.mask judged.dies.items outcomes refusal)
