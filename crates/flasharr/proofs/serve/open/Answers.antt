use Rattle.std.proofs.Common.{inl, inr}
use Rattle.fa_mount_headers.specs.declared.fault.MountFault.TheVariants.{ImageFault, Unclean}
use Rattle.flasharr.proofs.serve.open.Goals as goal

pub returns-in-None : goal.returns-in-None
returns-in-None g c = inr (inl (ImageFault, c.refuse_mount.ensures))

pub returns-in-Err-Image : goal.returns-in-Err-Image
returns-in-Err-Image g c = inr (inl (ImageFault, c.refuse_mount-in-Err-Image.ensures))

pub returns-in-Err-PagesLost : goal.returns-in-Err-PagesLost
returns-in-Err-PagesLost g c = inr (inl (Unclean, c.refuse_mount-in-Err-PagesLost.ensures))
