-- The bytes of the plain array's pages among all of its bytes, where each page has as many.
use Rattle.fa_types.specs.Plain.{HasPages, export}
use Rattle.fa_types.specs.Store.{bytes_at}
use Rattle.std.proofs.Common.{List, [], ap, arith, drop, length, refl, suc, sym, take, zero, ℕ, ◌*◌, ◌+◌, ◌++◌, ◌<◌, ◌∙◌, ◌∷◌, ◌≡◌, ◌≤◌}
use Rattle.std.proofs.Math.Nat.{suc-mul, zero-mul}
use Rattle.std.proofs.lemmas.List.{drop-append-le, drop-drop, drop_at, length-append, length-drop, take-append-le}
use Rattle.std.specs.Prelude.{slice_index_or}

take_none : {X : Type 0} (n : ℕ) → take {A = X} n [] ≡ []
take_none zero = refl
take_none (suc n) = refl

-- bytes behind one another
pub take_on : {X : Type 0} (n m : ℕ) (xs : List X) → take n xs ++ take m (drop n xs) ≡ take (n + m) xs
take_on zero m xs = ap (λ k. take k xs) (let none : m ≡ 0 + m = omega arith in none)
take_on (suc n) m [] = take_none m ∙ sym (take_none (suc n + m))
take_on (suc n) m (x ∷ xs) =
    ap (λ ys. x ∷ ys) (take_on n m xs) ∙ ap (λ k. take k (x ∷ xs)) (let same : suc (n + m) ≡ suc n + m = omega arith in same)

pub bytes_on : (at n m : ℕ) (bytes : List ℕ) → bytes_at at n bytes ++ bytes_at (at + n) m bytes ≡ bytes_at at (n + m) bytes
bytes_on at n m bytes = ap (λ rest. bytes_at at n bytes ++ take m rest) (sym (drop-drop n at bytes)) ∙ take_on n m (drop at bytes)

module _ (page_bytes : ℕ) where
  pub page_long : (pages : List (List ℕ)) → HasPages page_bytes pages → (page : ℕ) → page < length pages
      → length (slice_index_or pages page []) ≡ page_bytes
  page_long [] sized page low = absurd (omega arith)
  page_long (x ∷ pages) sized zero low = sized.0
  page_long (x ∷ pages) sized (suc page) low = page_long pages sized.1 page (omega arith)

  pub export_long : (pages : List (List ℕ)) → HasPages page_bytes pages → length (export pages) ≡ length pages * page_bytes
  export_long [] sized = sym (zero-mul page_bytes)
  export_long (x ∷ pages) sized =
      let rest = export_long pages sized.1 in let one = sized.0 in let more = suc-mul (length pages) page_bytes in
      length-append x (export pages) ∙ omega (arith, rest, one, more)

  -- the bytes of a page stand behind those of the pages before it
  pub page_at : (pages : List (List ℕ)) → HasPages page_bytes pages → (page at n : ℕ) → page < length pages → at + n ≤ page_bytes
      → bytes_at (page * page_bytes + at) n (export pages) ≡ bytes_at at n (slice_index_or pages page [])
  page_at [] sized page at n low fits = absurd (omega arith)
  page_at (x ∷ pages) sized zero at n low fits =
      let one = sized.0 in let left = length-drop at x in
      ap (λ k. bytes_at k n (x ++ export pages)) (let none : zero * page_bytes + at ≡ at = omega (arith, zero-mul page_bytes) in none)
      ∙ ap (take n) (drop-append-le at x (export pages) (omega (arith, one, fits)))
      ∙ take-append-le n (drop at x) (export pages) (omega (arith, one, left, fits))
  page_at (x ∷ pages) sized (suc page) at n low fits =
      let more = suc-mul page page_bytes in
      ap (λ k. take n (drop k (x ++ export pages))) (let sum : suc page * page_bytes + at ≡ page_bytes + (page * page_bytes + at) = omega (arith, more) in sum)
      ∙ ap (take n) (sym (drop-drop (page * page_bytes + at) page_bytes (x ++ export pages)))
      ∙ ap (λ rest. take n (drop (page * page_bytes + at) rest)) (drop_at x (export pages) page_bytes sized.0)
      ∙ page_at pages sized.1 page at n (omega arith) fits
