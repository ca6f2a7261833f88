use Rattle.fa_headline.proofs.Points.{headline_of}
use Rattle.fa_headline.proofs.headline.Goals as goal

pub returns : goal.returns
returns c first last happenings beginning run = headline_of c.the_geometry_is_kept.ensures c.run_plans.ensures first last happenings beginning run
