use Rattle.fa_types.proofs.WholePages.{takes_whole_pages}
use Rattle.fa_types.proofs.laws.trim_takes_whole_pages.Goals as goal

pub returns : goal.returns
returns c = takes_whole_pages
