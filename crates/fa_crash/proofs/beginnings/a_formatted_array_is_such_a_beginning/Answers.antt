use Rattle.fa_crash.proofs.Formatting.{both, empty_not, named_both, named_ours, or_left}
use Rattle.fa_crash.proofs.beginnings.a_formatted_array_is_such_a_beginning.Goals as goal
use Rattle.std.proofs.Common.{arith, refl}
use Rattle.std.specs.FinMap.{contains_key, empty}

pub returns-clause-cells : goal.returns-clause-cells
returns-clause-cells c geometry page die slot version payload low inside ours e = absurd (empty_not page version die slot payload e)

pub returns-clause-headers : goal.returns-clause-headers
returns-clause-headers c geometry = record { unwritten = λ die. refl; older = λ die. omega arith; named = λ die other alive less. named_both die alive }

pub returns-clause-alike : goal.returns-clause-alike
returns-clause-alike c die other same = refl

pub returns-clause-ours : goal.returns-clause-ours
returns-clause-ours c geometry top die newest named = or_left (contains_key both die) (contains_key empty die) (named_ours die named)
