use Rattle.fa_core_commit.proofs.renewing.replace_copies.Goals as goal

pub renew-requires : goal.renew-requires
renew-requires g c = c.requires.page_fits
