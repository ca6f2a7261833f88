use Rattle.std.proofs.Common.{◌≡◌, ℕ, sym, ap, ◌∙◌, subst, arith, rules}
use Rattle.std.proofs.lemmas.List.Sorted.{IsNonDecreasingBy-from_sort_by_key, list_any-IsPermutation}
use Rattle.fa_closed.specs.declared.closed.Run.{Run}
use Rattle.fa_closed.specs.Runs.{any_closes, closed_by, closes, AreInOrder}
use Rattle.fa_closed.proofs.Windows.{rounds_that-same}
use Rattle.fa_closed.proofs.closed.Closed.new.Given.{Over}
use Rattle.fa_closed.proofs.closed.Closed.new.Goals as goal
use Rattle.fa_closed.proofs.closed.Closed.new.Goals.{In_ok-dies}

-- the spans close what the runs do
closes_same : (g : Over) (c : In_ok-dies g) → (die round : ℕ) → closed_by c.in_ok-dies.dies.items die round ≡ any_closes c.args.runs.items die round
closes_same g c die round =
    c.in_ok-dies.ensures.closed die round ∙ ap (λ v. any_closes v die round) c.as_slice.ensures.value
    ∙ sym (list_any-IsPermutation (λ (x : Run). closes x die round) c.args.runs.items c.sort_unstable_by_key.new.self.items c.sort_unstable_by_key.ensures.permutation)

pub spans_of-requires : goal.spans_of-requires
spans_of-requires g c =
    subst AreInOrder (sym c.as_slice.ensures.value)
    (IsNonDecreasingBy-from_sort_by_key (λ (x : Run). x.first.0) c.sort_unstable_by_key.new.self.items c.sort_unstable_by_key.ensures.sorted (λ a r q k. search rules))

pub invariant_of-result : goal.invariant_of-result
invariant_of-result g c =
    let same = closes_same g (goal.at.invariant_of-result g c).In_ok-dies in
    record {
      long = c.in_ok-dies.ensures.long;
      few = λ die n. let equal = rounds_that-same (closed_by c.in_ok-dies.dies.items die) (any_closes c.args.runs.items die) c.args.now.0 n (λ r a b. same die r) in let few = c.requires die n in omega (arith, equal, few);
    }

pub returns-clause-closed : goal.returns-clause-closed
returns-clause-closed g c = closes_same g (goal.at.returns-clause-closed g c).In_ok-dies
