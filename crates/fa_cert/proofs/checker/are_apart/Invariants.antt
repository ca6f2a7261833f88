use Rattle.std.proofs.Common.{◌≡◌, ℕ, take}
use Rattle.std.specs.List.{list_any}
use Rattle.std.specs.BTreeSet.{contains}
use Rattle.fa_batch_terms.specs.Plan.{AreApart}
use Rattle.fa_cert.proofs.Placed.{place_cmp, is_at_key}
use Rattle.fa_cert.proofs.checker.are_apart.Given as goal

abbrev pub invariant-loop-place : goal.invariant-loop-place
invariant-loop-place g l =
    ((die round : ℕ) → contains place_cmp l.taken (die, round) ≡ list_any (is_at_key (die, round)) (take l.place-index l.places))
    × AreApart (take l.place-index l.places)
