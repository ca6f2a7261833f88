-- What comes of the slots of an array's images: the dies that are live, the spares, and the mounted content.
use Rattle.std.specs.Prelude.{◌≡◌, ℕ, ◌⊎◌, Bool, true, false, if◌then◌else◌, List, position}
use Rattle.std.specs.Prelude.{Option, Some, None, is_some, option_map, option_and_then}
use Rattle.std.specs.Prelude.{slice_get, length, Result, Ok, Err}
use Rattle.std.specs.List.{list_all, list_any}
use Rattle.fa_image.specs.declared.fault.ImageFault.{ImageFault as ImageFaultOf}
use Rattle.fa_mount_scan.specs.declared.slots.content.SlotContent.{SlotContent}
use Rattle.fa_mount_scan.specs.declared.slots.content.SlotContent.TheVariants.{Erased}
use Rattle.fa_mount_headers.specs.declared.fault.MountFault.TheVariants.{ImageFault, NoDieLive}
use Rattle.fa_mount_headers.specs.declared.fault.MountRefused.{MountRefused}
use Rattle.fa_mount_headers.specs.declared.judging.Standing.{Standing}
use Rattle.fa_mount_headers.specs.declared.judging.Standing.TheVariants.{Live, Spare, Out}
use Rattle.fa_machine.specs.State.{MapState}
use Rattle.fa_types.specs.declared.geometry.Geometry.{Geometry}
use Rattle.fa_mount_scan.specs.Content.{Contents, IsMountedContent}
use Rattle.fa_mount_scan.specs.ContentReading.{image_read}
use Rattle.fa_mount_headers.specs.Rules.{refused}
use Rattle.fa_mount_standing.specs.Standing.{found_where_live}

-- what came of reading a die, if its image was to be read
abbrev pub Outcome : Type 0
Outcome = Option (Result (List SlotContent) ImageFaultOf)

abbrev pub is_erased : SlotContent → Bool
is_erased Erased = true
is_erased content = false

-- How a die stands once its slots were read. It is out where a read was refused, and a spare is out where a slot is used.
abbrev pub settled : Standing → Outcome → Standing
settled (Live index) (Some (Ok slots)) = Live index
settled (Live index) outcome = Out index
settled (Spare index) (Some (Ok slots)) = if list_all is_erased slots then Spare index else Out index
settled (Spare index) outcome = Out index
settled standing outcome = standing

-- what is mounted of a die: what was found on it, where it is live
abbrev pub mounted_of : Standing → Outcome → Option (List SlotContent)
mounted_of = found_where_live

-- how all dies stand, and what is mounted of them
pub record AreSettled (standings : List Standing) (outcomes : List Outcome) (dies : List Standing) (contents : Contents) : Type 0 where
  pub dies_length : length dies ≡ length outcomes
  pub contents_length : length contents ≡ length outcomes
  pub each : (die : ℕ) (standing : Standing) (outcome : Outcome) → slice_get standings die ≡ Some standing
      → slice_get outcomes die ≡ Some outcome
      → (slice_get dies die ≡ Some (settled standing outcome)) × (slice_get contents die ≡ Some (mounted_of standing outcome))

abbrev pub is_refused : Outcome → Bool
is_refused (Some (Err fault)) = true
is_refused outcome = false

-- the refusal for a die whose image refused a read
abbrev pub fault_at : List Standing → ℕ → MountRefused
fault_at standings die = record {
  fault = ImageFault;
  image = option_and_then image_read (slice_get standings die);
  die = Some (record { 0 = die });
}

-- Such a die is told, the first one, unless the array may be mounted unclean.
abbrev pub image_refusal : Bool → List Standing → List Outcome → Option MountRefused
image_refusal unclean standings outcomes = if unclean then None else option_map (fault_at standings) (position is_refused outcomes)

-- whether any die is live
abbrev pub any_live : Contents → Bool
any_live contents = list_any is_some contents

-- What comes of reading: how the dies stand, and the map of the mounted content. Some die is live.
pub record IsScan (geometry : Geometry) (standings : List Standing) (unclean : Bool) (outcomes : List Outcome) (dies : List Standing)
    (m : MapState) : Type 0 where
  pub contents : Contents
  pub settles : AreSettled standings outcomes dies contents
  pub no_fault : image_refusal unclean standings outcomes ≡ None
  pub some_live : any_live contents ≡ true
  pub mounts : IsMountedContent geometry contents m

-- each die was read that is to be, no image refused a read, or none that is told, and no die is live
pub record IsNoneLive (standings : List Standing) (unclean : Bool) (outcomes : List Outcome) : Type 0 where
  pub all : length outcomes ≡ length standings
  pub dies : List Standing
  pub contents : Contents
  pub settles : AreSettled standings outcomes dies contents
  pub no_fault : image_refusal unclean standings outcomes ≡ None
  pub none_live : any_live contents ≡ false

-- Why what was read is not mounted; that memory was refused comes at any point.
abbrev pub IsScanRefused : List Standing → Bool → List Outcome → MountRefused → Type 0
IsScanRefused standings unclean outcomes refusal =
    (image_refusal unclean standings outcomes ≡ Some refusal) ⊎ (IsNoneLive standings unclean outcomes × (refusal ≡ refused NoDieLive))
