-- A list of pages of zeros.
use Rattle.std.proofs.Common.{List, [], arith, length, refl, replicate, suc, zero, ℕ, ◌<◌, ◌≡◌}
use Rattle.std.specs.List.{AllByRecursion}
use Rattle.std.specs.Prelude.{slice_index_or}

pub has_zero_pages : (n : ℕ) (page : List ℕ) (size : ℕ) → length page ≡ size → AllByRecursion (λ page. length page ≡ size) (replicate n page)
has_zero_pages zero page size e = tt
has_zero_pages (suc n) page size e = (e, has_zero_pages n page size e)

pub zeros_at : (n : ℕ) (x : List ℕ) (k : ℕ) → k < n → slice_index_or (replicate n x) k [] ≡ x
zeros_at zero x k low = absurd (omega arith)
zeros_at (suc n) x zero low = refl
zeros_at (suc n) x (suc k) low = zeros_at n x k (omega arith)
