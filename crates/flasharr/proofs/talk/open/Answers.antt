use Rattle.std.proofs.Common.{inl, refl, subst}
use Rattle.fa_mount_headers.specs.declared.fault.MountFault.TheVariants.{ImageFault, Unclean}
use Rattle.fa_prog_host.specs.Opened.{IsNotOpened}
use Rattle.fa_prog_host.specs.declared.images.NotOpened.TheVariants.{Image, PagesLost}
use Rattle.flasharr.proofs.talk.open.Goals as goal

pub returns-in-Err-Image : goal.returns-in-Err-Image
returns-in-Err-Image g c =
    let why = subst (IsNotOpened c.args.taken.terms) c.in-Err-Image.field-0-is c.in-Err-Image.ensures.refused in
    inl (ImageFault, inl (Image, why, refl), c.refuse_mount.ensures)

pub returns-in-Err-PagesLost : goal.returns-in-Err-PagesLost
returns-in-Err-PagesLost g c =
    let why = subst (IsNotOpened c.args.taken.terms) c.in-Err-PagesLost.field-0-is c.in-Err-PagesLost.ensures.refused in
    inl (Unclean, inl (PagesLost, why, refl), c.refuse_mount-in-Err-PagesLost.ensures)
