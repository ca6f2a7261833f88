use Rattle.fa_tag.proofs.Slots.{one_spelling, versions_apart, not_erased}
use Rattle.fa_tag.proofs.laws.slots_have_one_spelling.Goals as goal

pub returns-clause-one : goal.returns-clause-one
returns-clause-one c = one_spelling

pub returns-clause-apart : goal.returns-clause-apart
returns-clause-apart c = versions_apart

pub returns-clause-not_erased : goal.returns-clause-not_erased
returns-clause-not_erased c = not_erased
