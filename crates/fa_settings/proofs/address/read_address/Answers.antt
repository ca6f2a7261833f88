use Rattle.fa_settings.proofs.address.read_address.Goals as goal

pub returns-in_default : goal.returns-in_default
returns-in_default c address is = c.in_default.ensures.value address is.0
