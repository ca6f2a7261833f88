-- Dies, pages and places that loops gather.
use Rattle.fa_types.specs.declared.numbers.Die.{Die}
use Rattle.fa_types.specs.declared.numbers.Page.{Page}
use Rattle.std.proofs.Common.{List, [], ap, map, refl, ℕ, ◌+◌, ◌<◌, ◌∙◌, ◌∷◌, ◌≡◌}
use Rattle.std.proofs.lemmas.List.{map-append, take_more}
use Rattle.std.specs.Prelude.{length, slice_index_or, take, ◌++◌}

pub dies_again : (dies : List Die) → map (λ (n : ℕ). record { 0 = n }) (map (λ (die : Die). die.0) dies) ≡ dies
dies_again [] = refl
dies_again (die ∷ dies) = ap (λ ds. die ∷ ds) (dies_again dies)

-- the numbers of one page more
pub numbers_more : (pages : List Page) (i : ℕ) (d : Page) → i < length pages
    → map (λ (page : Page). page.0) (take (i + 1) pages)
    ≡ map (λ (page : Page). page.0) (take i pages) ++ (slice_index_or pages i d).0 ∷ []
numbers_more pages i d low =
    ap (map (λ (page : Page). page.0)) (take_more pages i d low)
    ∙ map-append (λ (page : Page). page.0) (take i pages) (slice_index_or pages i d ∷ [])
