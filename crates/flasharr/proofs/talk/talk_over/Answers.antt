use Rattle.std.proofs.Common.{inl, inr, refl}
use Rattle.fa_image.specs.FileMade.{file_view}
use Rattle.flasharr.proofs.Told.{lent_back, mounted_told}
use Rattle.flasharr.proofs.talk.talk_over.Goals as goal

pub returns-in-Ok : goal.returns-in-Ok
returns-in-Ok g c =
    let mounts = rw c.as_mut_slice.ensures.value at c.in-Ok.ensures.mounts in
    let only_read = rw c.as_mut_slice.ensures.value at c.in-Ok.ensures.only_read in
    mounted_told _ _ c.args.settings.now c.args.taken.terms c.args.places.now c.args.images.items _ c.mount.new.images _ _ _ _ _ _ _ c.requires.opened
    mounts only_read c.in-Ok.ensures.dies
    (lent_back file_view _ _ c.mount.new.images _ c.as_mut_slice.ensures.len c.in-Ok.ensures.only_read)
    (λ written end faults closed it. c.a_conversation_is_right.ensures _ _ _ _ _ _ _ _ _ written end faults closed mounts.mounts only_read
    c.in-Ok.ensures.dies it) c.talk_mounted.ensures

pub returns-in-Err : goal.returns-in-Err
returns-in-Err g c =
    let refuses = rw c.as_mut_slice.ensures.value at c.in-Err.ensures.mounts in
    inl (
      c.in-Err.refused.fault,
      inr (c.args.places.now, c.args.images.items, c.mount.new.images, c.in-Err.refused, c.requires.opened, refuses, refl),
      c.refuse_mount.ensures,
    )
