-- One page more is counted.
use Rattle.std.proofs.Common.{◌≡◌, ℕ, ◌+◌, ◌≤◌, Bool, true, false, cond, ap, ◌∙◌, arith}
use Rattle.std.specs.List.{range_with_len}
use Rattle.std.specs.Prelude.{count_by}
use Rattle.fa_map_calls.proofs.Ranges.{count_le, count_more}

pub one_more_page : (test : ℕ → Bool) (page total one : ℕ) (is_so : Bool) → total ≡ count_by test (range_with_len 0 page)
    → one ≡ cond is_so 1 0 → is_so ≡ test page → total + one ≡ count_by test (range_with_len 0 (page + 1))
one_more_page test page total one is_so counted is same =
    let more = count_more test 0 page in
    let here : one ≡ cond (test (0 + page)) 1 0 = is ∙ ap (λ b. cond b 1 0) (same ∙ ap test (omega arith)) in
    omega (arith, counted, more, here)

-- no more pages are counted than there are
pub counted_fits : (test : ℕ → Bool) (page total : ℕ) → total ≡ count_by test (range_with_len 0 page) → total ≤ page
counted_fits test page total counted = let most = count_le test 0 page in omega (arith, counted, most)

pub at_most_one : (one : ℕ) (is_so : Bool) → one ≡ cond is_so 1 0 → one ≤ 1
at_most_one one true is = omega (arith, is)
at_most_one one false is = omega (arith, is)
