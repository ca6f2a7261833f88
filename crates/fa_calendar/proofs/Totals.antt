-- How many rounds lie in merged spans.
use Rattle.std.proofs.Common.{◌≡◌, ℕ, ◌+◌, ◌-◌, ◌≤◌, Bool, true, false, inl, inr, cond, ◌||◌, nat_le, max, List, [], ◌∷◌, sym, subst, ap, ◌∙◌, arith}
use Rattle.std.specs.List.{sum_by}
use Rattle.std.proofs.lemmas.Bool.{and_parts, cases_Bool, leb-true}
use Rattle.std.proofs.lemmas.List.Sums.{sum_by-cons}
use Rattle.fa_types.specs.Open.{rounds_that}
use Rattle.fa_closed.specs.declared.spans.Span.{Span}
use Rattle.fa_closed.specs.Runs.{is_covered, is_from}
use Rattle.fa_calendar.specs.Merging.{total_rounds, AreMerged}
use Rattle.fa_closed.proofs.Covered.{covered_sum, overlap_of}
use Rattle.fa_calendar.proofs.Merged.{merged_rising}
use Rattle.fa_closed.proofs.Windows.{rounds_that-add, rounds_that-from}
use Rattle.fa_calendar.specs.DieState.{DieState, HasRoom, IsRoomy}

overlaps_fit : (from n : ℕ) (spans : List Span) → sum_by (overlap_of from n) spans ≤ total_rounds spans
overlaps_fit from n [] = omega arith
overlaps_fit from n (s ∷ spans) =
    let rest = overlaps_fit from n spans in
    let part = sum_by-cons (overlap_of from n) s spans in
    let whole = sum_by-cons (λ (t : Span). t.last + 1 - t.first) s spans in
    omega (arith, rest, part, whole)

-- no more of any rounds lie in the spans than all together
pub total_bounds : (spans : List Span) → AreMerged spans → (from n : ℕ) → rounds_that (is_covered spans) from n ≤ total_rounds spans
total_bounds spans merged from n =
    let sum = covered_sum from n spans (merged_rising spans merged) in
    let fits = overlaps_fit from n spans in
    omega (arith, sum, fits)

-- where none lie in the spans, none is covered
pub none_covered : (spans : List Span) → AreMerged spans → total_rounds spans ≡ 0 → (round : ℕ) → is_covered spans round ≡ false
none_covered spans merged none round =
    elim (cases_Bool (is_covered spans round)) [
      | inl is ↦
          let one = ap (λ (b : Bool). cond {A = ℕ} b 1 0) is in
          let bound = total_bounds spans merged round 1 in
          absurd (omega (arith, one, bound, none))
      | inr off ↦ off
    ]

-- a round behind all spans
end_of : List Span → ℕ
end_of [] = 0
end_of (s ∷ spans) = max (s.last + 1) (end_of spans)

overlaps_all : (n : ℕ) (spans : List Span) → AreMerged spans → end_of spans ≤ n → sum_by (overlap_of 0 n) spans ≡ total_rounds spans
unfolding end_of
overlaps_all n [] merged late = omega arith
overlaps_all n (s ∷ spans) merged late =
    let rest = overlaps_all n spans merged.2 (omega (arith, late)) in
    let part = sum_by-cons (overlap_of 0 n) s spans in
    let whole = sum_by-cons (λ (t : Span). t.last + 1 - t.first) s spans in
    omega (arith, rest, part, whole, late)

pub total_reached : (spans : List Span) → AreMerged spans → (n : ℕ) × (rounds_that (is_covered spans) 0 n ≡ total_rounds spans)
total_reached spans merged = (end_of spans, covered_sum 0 (end_of spans) spans (merged_rising spans merged) ∙ overlaps_all (end_of spans) spans merged (omega arith))

bit-or : (a b : Bool) → (a ≡ true → b ≡ true → ⊥) → cond {A = ℕ} (a || b) 1 0 ≡ cond a 1 0 + cond b 1 0
bit-or true true h = absurd (h refl_ refl_)
  where
    refl_ : true ≡ true
    refl_ = λ i. true
bit-or true false h = omega arith
bit-or false true h = omega arith
bit-or false false h = omega arith

-- with one round more, one more
pub one_more : (spans : List Span) (round : ℕ) → AreMerged spans → is_covered spans round ≡ false → (n : ℕ) × (rounds_that (λ r. is_covered spans r || is_from round round r) 0 n ≡ total_rounds spans + 1)
one_more spans round merged lacks =
    let n : ℕ = max (end_of spans) (round + 1) in
    let apart : (r : ℕ) → is_covered spans r ≡ true → is_from round round r ≡ true → ⊥ =
    λ r has here. let parts = and_parts (nat_le round r) (nat_le r round) here in let at : r ≡ round = omega (arith, leb-true round r parts.0, leb-true r round parts.1) in let same = ap (λ k. is_covered spans k) at in let none : ⊥ = cc in none in
    let split = rounds_that-add (is_covered spans) (is_from round round) (λ r. is_covered spans r || is_from round round r) (λ r. bit-or (is_covered spans r) (is_from round round r) (apart r)) 0 n in
    let here = rounds_that-from round round 0 n in
    let sum = covered_sum 0 n spans (merged_rising spans merged) in
    let all = overlaps_all n spans merged (omega arith) in
    (n, omega (arith, split, here, sum, all))

pub has_room : (die : DieState) → IsRoomy die → HasRoom die
has_room die is =
    let few = is.few in
    let kept = is.kept in
    record {
      few = λ from n. let all = total_bounds die.spans is.merged from n in omega (arith, all, few);
      kept = λ from n. let all = total_bounds die.spans is.merged from n in omega (arith, all, kept);
    }

-- a die with nothing closed
pub empty_room : (die : DieState) → die.spans ≡ [] → HasRoom die
empty_room die none = has_room die (record {
  merged = subst AreMerged (sym none) tt;
  few = (let total = ap total_rounds none in omega (arith, total));
  kept = (let total = ap total_rounds none in omega (arith, total));
})
