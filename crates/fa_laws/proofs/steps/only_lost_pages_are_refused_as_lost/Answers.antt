use Rattle.fa_machine.specs.Copies.{is_lost}
use Rattle.fa_machine.proofs.Lists.{found_passes}
use Rattle.fa_laws.proofs.steps.only_lost_pages_are_refused_as_lost.Goals as goal

pub returns : goal.returns
returns c old new pages page admits = (found_passes (is_lost old.page_map) pages page.0 admits.0).0
