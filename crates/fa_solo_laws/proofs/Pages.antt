-- The pages of a batch: numbers one behind the other, each a page of the array.
use Rattle.fa_machine.specs.Among.{Among}
use Rattle.fa_machine.specs.Maps.{is_one_of}
use Rattle.fa_machine.specs.State.{Core}
use Rattle.fa_machine.specs.Step.{is_distinct, is_page}
use Rattle.fa_shared_steps.specs.Prepared.{has_part, pages_between}
use Rattle.fa_shared_steps.specs.Ranges.{begins_at, bytes_in}
use Rattle.fa_shared_steps.specs.declared.range.Range.{Range}
use Rattle.fa_types.specs.declared.numbers.Page.{Page}
use Rattle.std.proofs.Common.{List, [], ap, arith, false, inl, inr, length, map, not, refl, suc, true, zero, ℕ, ◌+◌, ◌-◌, ◌<◌, ◌∷◌, ◌≡◌, ◌≤◌}
use Rattle.std.proofs.lemmas.Bool.{and_from, le-leb, lt-ltb, ne_eqb, not_from_false, or_from}
use Rattle.std.proofs.lemmas.List.FromFn.{length-range_with_len}
use Rattle.std.specs.List.{list_all, list_any, range_with_len}
use Rattle.std.specs.Prelude.{nat_le, ◌&&◌, ◌==◌}

pub among_from : (first n x : ℕ) → Among x (range_with_len first n) → first ≤ x
among_from first zero x i = absurd i
among_from first (suc n) x (inl same) = omega (arith, same)
among_from first (suc n) x (inr rest) = let up = among_from (first + 1) n x rest in omega (arith, up)

-- the numbers of some pages
pub numbers_of : (numbers : List ℕ) → map (λ (page : Page). page.0) (map (λ (number : ℕ). let numbered : Page = record { 0 = number } in numbered) numbers) ≡ numbers
numbers_of [] = refl
numbers_of (n ∷ numbers) = ap (λ rest. n ∷ rest) (numbers_of numbers)

pub pages_numbered : (page past : ℕ) → map (λ (page : Page). page.0) (pages_between page past) ≡ range_with_len page (past - page)
pages_numbered page past = numbers_of (range_with_len page (past - page))

none_below : (x first n : ℕ) → x < first → list_any (λ (y : ℕ). y == x) (range_with_len first n) ≡ false
none_below x first zero low = refl
none_below x first (suc n) low = or_from (first == x) _ (ne_eqb first x (λ same. absurd (omega (arith, same, low)))) (none_below x (first + 1) n (omega (arith, low)))

pub range_distinct : (first n : ℕ) → is_distinct (range_with_len first n) ≡ true
range_distinct first zero = refl
range_distinct first (suc n) =
    and_from (not (is_one_of (range_with_len (first + 1) n) first)) (is_distinct (range_with_len (first + 1) n))
    (not_from_false _ (none_below first (first + 1) n (omega arith))) (range_distinct (first + 1) n)

pub range_inside : (core : Core) (first n : ℕ) → ((x : ℕ) → first ≤ x → x < first + n → x < core.page_map.geometry.pages)
    → list_all (is_page core) (range_with_len first n) ≡ true
range_inside core first zero low = refl
range_inside core first (suc n) low =
    and_from (is_page core first) (list_all (is_page core) (range_with_len (first + 1) n))
    (lt-ltb first core.page_map.geometry.pages (low first (omega arith) (omega arith)))
    (range_inside core (first + 1) n (λ x from to. low x (omega (arith, from)) (omega (arith, to))))

-- the conditions of an Admit of such pages
pub range_allowed : (core : Core) (first n : ℕ) → n ≤ 1024 → ((x : ℕ) → first ≤ x → x < first + n → x < core.page_map.geometry.pages)
    → (is_distinct (range_with_len first n) && list_all (is_page core) (range_with_len first n) && nat_le (length (range_with_len first n)) 1024) ≡ true
range_allowed core first n few low =
    let long = length-range_with_len first n in
    and_from (is_distinct (range_with_len first n) && list_all (is_page core) (range_with_len first n)) _
    (and_from (is_distinct (range_with_len first n)) (list_all (is_page core) (range_with_len first n)) (range_distinct first n) (range_inside core first n low))
    (le-leb (length (range_with_len first n)) 1024 (omega (arith, long, few)))

-- each of some pages has its part of a range, where it has all of its bytes
pub parts_there : (r : Range) (page_in : ℕ → List ℕ) (first n : ℕ)
    → ((x : ℕ) → first ≤ x → x < first + n → begins_at r x + bytes_in r x ≤ length (page_in x))
    → list_all (λ (e : ℕ × List ℕ). has_part r e.0 (length e.1)) (map (λ p. (p, page_in p)) (range_with_len first n)) ≡ true
parts_there r page_in first zero fits = refl
parts_there r page_in first (suc n) fits =
    and_from (has_part r first (length (page_in first))) _
    (le-leb (begins_at r first + bytes_in r first) (length (page_in first)) (fits first (omega arith) (omega arith)))
    (parts_there r page_in (first + 1) n (λ x from to. fits x (omega (arith, from)) (omega (arith, to))))
