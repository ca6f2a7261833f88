use Rattle.std.proofs.Common.{refl}
use Rattle.fa_image.specs.FileMade.{file_view, FileMade}
use Rattle.fa_prog_images.proofs.Inner.{mounts_within, refuses_within}
use Rattle.fa_prog_images.proofs.look.mounted_of.Goals as goal

pub returns-in-Ok-clause-mounted : goal.returns-in-Ok-clause-mounted
returns-in-Ok-clause-mounted g c =
    mounts_within (λ watched. watched.image) file_view FileMade c.args.settings.now c.args.look.terms c.args.images.now
    c.mount-result.new.images c.in-Ok.array.founds.items c.in-Ok.array.mounted c.in-Ok.ensures

pub returns-in-Err-clause-refused : goal.returns-in-Err-clause-refused
returns-in-Err-clause-refused g c = (
  c.in-Err.refused,
  refl,
  refuses_within (λ watched. watched.image) file_view FileMade c.args.settings.now c.args.look.terms c.args.images.now
      c.mount-result.new.images c.in-Err.refused c.in-Err.ensures,
)
