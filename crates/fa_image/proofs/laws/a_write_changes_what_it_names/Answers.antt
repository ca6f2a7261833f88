use Rattle.fa_image.specs.Slots.{inside, outside}
use Rattle.fa_image.proofs.laws.a_write_changes_what_it_names.Goals as goal

pub returns-clause-inside : goal.returns-clause-inside
returns-clause-inside c = inside

pub returns-clause-outside : goal.returns-clause-outside
returns-clause-outside c = outside
