-- Lists of pages of which no two are the same.
use Rattle.fa_machine.specs.Maps.{is_one_of}
use Rattle.fa_machine.specs.Step.{is_distinct}
use Rattle.fa_types.specs.declared.numbers.Page.{Page}
use Rattle.std.proofs.Common.{add-one, List, [], ap, drop, get_or, length, map, refl, sym, ℕ, ◌+◌, ◌<◌, ◌∙◌, ◌∷◌, ◌≡◌}
use Rattle.std.proofs.Math.Seq.{drop-cons}
use Rattle.std.specs.List.{list_any}
use Rattle.std.specs.Prelude.{Bool, not, ◌&&◌, ◌==◌, ◌||◌}

abbrev numbers : List Page → List ℕ
numbers pages = map (λ (page : Page). page.0) pages

-- a page stands in a list where its number stands in the list of numbers
pub is_one_of_numbers : (pages : List Page) (n : ℕ) → is_one_of (numbers pages) n ≡ list_any (λ (p : Page). p.0 == n) pages
is_one_of_numbers [] n = refl
is_one_of_numbers (p ∷ ps) n = ap (λ b. (p.0 == n) || b) (is_one_of_numbers ps n)

-- the first of some pages that does not stand among the others may be left out
pub first_alone : (page : Page) (pages : List Page) (again : Bool) → list_any (λ (p : Page). p.0 == page.0) pages ≡ again
    → is_distinct (numbers (page ∷ pages)) ≡ (not again && is_distinct (numbers pages))
first_alone page pages again alone = ap (λ b. not b && is_distinct (numbers pages)) (is_one_of_numbers pages page.0 ∙ alone)

-- what is distinct from some page on, where that page does or does not stand after itself
pub alone_at : (pages : List Page) (i : ℕ) (again : Bool) → i < length pages
    → list_any (λ (p : Page). p.0 == (get_or pages i (record { 0 = 0 })).0) (drop (i + 1) pages) ≡ again
    → is_distinct (numbers (drop i pages)) ≡ (not again && is_distinct (numbers (drop (i + 1) pages)))
alone_at pages i again inside alone =
    ap (λ (l : List Page). is_distinct (numbers l))
    (drop-cons pages i (record { 0 = 0 }) inside ∙ ap (λ n. get_or pages i (record { 0 = 0 }) ∷ drop n pages) (sym (add-one i)))
    ∙ first_alone (get_or pages i (record { 0 = 0 })) (drop (i + 1) pages) again alone
