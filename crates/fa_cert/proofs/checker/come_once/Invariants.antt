use Rattle.std.proofs.Common.{◌≡◌, ℕ, ◌==◌, take, nat_cmp}
use Rattle.std.specs.List.{list_any}
use Rattle.std.specs.BTreeSet.{contains}
use Rattle.fa_batch_terms.specs.Plan.{ArePlacedOnce}
use Rattle.fa_cert.proofs.checker.come_once.Given as goal

abbrev pub invariant-loop-place : goal.invariant-loop-place
invariant-loop-place g l =
    ((page : ℕ) → contains nat_cmp l.pages page ≡ list_any (λ x. x.page.0 == page) (take l.place-index l.places))
    × ArePlacedOnce (take l.place-index l.places)
