use Rattle.std.proofs.Common.{rules}
use Rattle.std.proofs.lemmas.List.Sorted.{IsNonDecreasingBy-from_sort_by_key}
use Rattle.fa_texts.proofs.Printed.{rises_by}
use Rattle.fa_texts.proofs.certificate_print.rising_pages.Goals as goal

pub returns-clause-rising : goal.returns-clause-rising
returns-clause-rising g c = rises_by (λ p. p.0) _ (IsNonDecreasingBy-from_sort_by_key (λ p. p.0) _ c.sort_unstable_by_key.ensures.sorted (λ a r q k. search rules))
