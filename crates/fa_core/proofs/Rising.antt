-- Pages that rise are distinct.
use Rattle.fa_machine.specs.Maps.{is_one_of}
use Rattle.fa_machine.specs.Step.{is_distinct}
use Rattle.fa_types.specs.declared.numbers.Page.{Page}
use Rattle.std.proofs.Common.{false, get_or, length, map, not, refl, suc, true, ap, List, [], ◌∷◌, ℕ, ◌+◌, ◌<◌, ◌==◌, ◌≡◌, ◌∙◌, arith}
use Rattle.std.specs.Prelude.{Bool, ◌||◌}
use Rattle.std.proofs.lemmas.Bool.{and_from, ne_eqb}

abbrev pub number_at : List Page → ℕ → ℕ
number_at pages k = (get_or pages k (record { 0 = 0 })).0

abbrev numbers : List Page → List ℕ
numbers pages = map (λ (page : Page). page.0) pages

-- a number below each of these is none of them
below_all : (n : ℕ) (pages : List Page) → ((k : ℕ) → k < length pages → n < number_at pages k) → is_one_of (numbers pages) n ≡ false
below_all n [] less = refl
below_all n (p ∷ ps) less =
    ap (λ (b : Bool). b || is_one_of (numbers ps) n) (ne_eqb p.0 n (λ is. let first = less 0 (omega arith) in omega (arith, first, is)))
    ∙ below_all n ps (λ k inside. less (suc k) (omega (arith, inside)))

pub rising_distinct : (pages : List Page) → ((j k : ℕ) → j < k → k < length pages → number_at pages j < number_at pages k)
    → is_distinct (numbers pages) ≡ true
rising_distinct [] rise = refl
rising_distinct (p ∷ ps) rise =
    and_from (not (is_one_of (numbers ps) p.0)) (is_distinct (numbers ps))
    (ap not (below_all p.0 ps (λ k inside. rise 0 (suc k) (omega arith) (omega (arith, inside)))))
    (rising_distinct ps (λ j k less inside. rise (suc j) (suc k) (omega (arith, less)) (omega (arith, inside))))
