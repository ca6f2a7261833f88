use Rattle.std.proofs.Common.{inl, inr, refl}
use Rattle.fa_image.specs.Image.{Done, Refused}
use Rattle.fa_prog_host.proofs.images.synced.Goals as goal

pub returns-in-Ok-clause-synced : goal.returns-in-Ok-clause-synced
returns-in-Ok-clause-synced g c = λ syncs. (c.args.image, Done, c.in-Ok.ensures.done, inl refl)

pub returns-in-Unclean-clause-synced : goal.returns-in-Unclean-clause-synced
returns-in-Unclean-clause-synced g c = λ syncs. (c.args.image, Refused c.in-Err.fault, c.in-Err.ensures.refused, inr c.in-Unclean.is)
