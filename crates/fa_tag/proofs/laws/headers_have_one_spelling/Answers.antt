use Rattle.fa_tag.proofs.Headers.{one_header, formats_apart}
use Rattle.fa_tag.proofs.laws.headers_have_one_spelling.Goals as goal

pub returns-clause-one : goal.returns-clause-one
returns-clause-one c = one_header

pub returns-clause-apart : goal.returns-clause-apart
returns-clause-apart c = formats_apart
