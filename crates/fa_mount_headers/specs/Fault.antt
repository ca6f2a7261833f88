-- Why images are not mounted, by number.
use Rattle.std.specs.Prelude.{ℕ}
use Rattle.fa_mount_headers.specs.declared.fault.MountFault.{MountFault}
use Rattle.fa_mount_headers.specs.declared.fault.MountFault.TheVariants.{HeaderBad, ArraysDiffer, GeometryDiffers, DieTwice}
use Rattle.fa_mount_headers.specs.declared.fault.MountFault.TheVariants.{Unclean, NoDieLive, ImageFault, NoMemory}

abbrev pub mount_fault_number : MountFault → ℕ
mount_fault_number HeaderBad = 1
mount_fault_number ArraysDiffer = 2
mount_fault_number GeometryDiffers = 3
mount_fault_number DieTwice = 4
mount_fault_number Unclean = 5
mount_fault_number NoDieLive = 6
mount_fault_number ImageFault = 7
mount_fault_number NoMemory = 8
