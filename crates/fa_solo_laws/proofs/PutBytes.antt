-- Bytes that are written into a page, among all bytes of the plain array.
use Rattle.fa_types.specs.Plain.{HasPages, export, put}
use Rattle.fa_types.specs.Store.{with_bytes}
use Rattle.std.proofs.Common.{List, [], ap, arith, drop, length, refl, suc, sym, take, zero, ℕ, ◌*◌, ◌+◌, ◌++◌, ◌<◌, ◌∙◌, ◌∷◌, ◌≡◌, ◌≤◌}
use Rattle.std.proofs.Math.Nat.{suc-mul, zero-mul}
use Rattle.std.proofs.lemmas.List.{append-nil, append_assoc, drop-append-le, drop-drop, drop_all, drop_at, length-append}
use Rattle.std.proofs.lemmas.List.{take-append-drop, take-append-le}
use Rattle.std.proofs.lemmas.List.Edits.{paste-paste, paste_all}
use Rattle.std.specs.Prelude.{slice_index_or}

pub with_none : (at : ℕ) (content : List ℕ) → with_bytes at [] content ≡ content
with_none at content =
    ap (λ front. front ++ drop (at + 0) content) (append-nil (take at content))
    ∙ ap (λ n. take at content ++ drop n content) (let same : at + 0 ≡ at = omega arith in same) ∙ take-append-drop at content

abbrev paste : List ℕ → ℕ → List ℕ → ℕ → List ℕ
paste content at bytes n = take at content ++ take n bytes ++ drop (at + n) content

with_is : (at : ℕ) (bytes content : List ℕ) → with_bytes at bytes content ≡ paste content at bytes (length bytes)
with_is at bytes content =
    append_assoc (take at content) bytes (drop (at + length bytes) content) ∙ sym (paste_all content at bytes (length bytes) refl)

-- bytes behind others
pub with_on : (at : ℕ) (one two content : List ℕ) → at ≤ length content
    → with_bytes (at + length one) two (with_bytes at one content) ≡ with_bytes at (one ++ two) content
with_on at one two content fits =
    ap (with_bytes (at + length one) two) (with_is at one content)
    ∙ with_is (at + length one) two (paste content at one (length one))
    ∙ paste-paste content at one two (length one) (length two) refl refl fits
    ∙ ap (paste content at (one ++ two)) (sym (length-append one two))
    ∙ sym (with_is at (one ++ two) content)

-- all bytes of a page
pub with_all : (bytes content : List ℕ) → length bytes ≡ length content → with_bytes 0 bytes content ≡ bytes
with_all bytes content same =
    ap (λ rest. bytes ++ rest) (drop_all (0 + length bytes) content (omega (arith, same))) ∙ append-nil bytes

take_behind : (x rest : List ℕ) (n : ℕ) → take (length x + n) (x ++ rest) ≡ x ++ take n rest
take_behind [] rest n = ap (λ k. take k rest) (let same : 0 + n ≡ n = omega arith in same)
take_behind (b ∷ x) rest n =
    ap (λ k. take k (b ∷ (x ++ rest))) (let same : suc (length x) + n ≡ suc (length x + n) = omega arith in same)
    ∙ ap (λ bytes. b ∷ bytes) (take_behind x rest n)

drop_behind : (x rest : List ℕ) (n : ℕ) → drop (length x + n) (x ++ rest) ≡ drop n rest
drop_behind x rest n = sym (drop-drop n (length x) (x ++ rest)) ∙ ap (drop n) (drop_at x rest (length x) refl)

with_behind : (x rest bytes : List ℕ) (at : ℕ) → with_bytes (length x + at) bytes (x ++ rest) ≡ x ++ with_bytes at bytes rest
with_behind x rest bytes at =
    (λ i. take_behind x rest at i ++ bytes ++ drop (sum i) (x ++ rest))
    ∙ ap (λ tail. x ++ take at rest ++ bytes ++ tail) (drop_behind x rest (at + length bytes))
    ∙ ap (λ front. front ++ drop (at + length bytes) rest) (append_assoc x (take at rest) bytes)
    ∙ append_assoc x (take at rest ++ bytes) (drop (at + length bytes) rest)
  where
    sum : length x + at + length bytes ≡ length x + (at + length bytes)
    sum = omega arith

with_before : (x rest bytes : List ℕ) (at : ℕ) → at + length bytes ≤ length x → with_bytes at bytes (x ++ rest) ≡ with_bytes at bytes x ++ rest
with_before x rest bytes at fits =
    (λ i. take-append-le at x rest low i ++ bytes ++ drop-append-le (at + length bytes) x rest fits i)
    ∙ sym (append_assoc (take at x ++ bytes) (drop (at + length bytes) x) rest)
  where
    low : at ≤ length x
    low = omega (arith, fits)

module _ (page_bytes : ℕ) where
  pub put_sized : (pages : List (List ℕ)) → HasPages page_bytes pages → (page : ℕ) (x : List ℕ) → length x ≡ page_bytes
      → HasPages page_bytes (put page x pages)
  put_sized [] sized page x long = tt
  put_sized (y ∷ pages) sized zero x long = (long, sized.1)
  put_sized (y ∷ pages) sized (suc page) x long = (sized.0, put_sized pages sized.1 page x long)

  -- a page with other bytes in a part of it
  pub put_part : (pages : List (List ℕ)) → HasPages page_bytes pages → (page at : ℕ) (part : List ℕ) → page < length pages
      → at + length part ≤ page_bytes
      → export (put page (with_bytes at part (slice_index_or pages page [])) pages) ≡ with_bytes (page * page_bytes + at) part (export pages)
  put_part [] sized page at part low fits = absurd (omega arith)
  put_part (x ∷ pages) sized zero at part low fits =
      let one = sized.0 in
      sym (with_before x (export pages) part at (omega (arith, one, fits)))
      ∙ ap (λ n. with_bytes n part (x ++ export pages)) (let none : at ≡ zero * page_bytes + at = omega (arith, zero-mul page_bytes) in none)
  put_part (x ∷ pages) sized (suc page) at part low fits =
      let one = sized.0 in let more = suc-mul page page_bytes in
      ap (λ rest. x ++ rest) (put_part pages sized.1 page at part (omega arith) fits)
      ∙ sym (with_behind x (export pages) part (page * page_bytes + at))
      ∙ ap (λ n. with_bytes n part (x ++ export pages))
      (let sum : length x + (page * page_bytes + at) ≡ suc page * page_bytes + at = omega (arith, one, more) in sum)
