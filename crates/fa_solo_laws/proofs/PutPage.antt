-- A page that is written, among all bytes of the plain array.
use Rattle.fa_solo_laws.proofs.PlainBytes.{page_long, take_on}
use Rattle.fa_solo_laws.proofs.PutBytes.{put_part, with_all, with_on}
use Rattle.fa_solo_laws.proofs.RangePages.{IsInside, IsOf, page_low, part_begins, part_ends, part_fits, upto}
use Rattle.fa_shared_steps.specs.Prepared.{content}
use Rattle.fa_shared_steps.specs.Ranges.{begins_at, bytes_in, covers}
use Rattle.fa_shared_steps.specs.declared.range.Range.{Range}
use Rattle.fa_shared_steps.specs.declared.request.Fill.{Fill}
use Rattle.fa_shared_steps.specs.declared.request.Fill.TheVariants.{Bytes, Holes, Zeros}
use Rattle.fa_types.proofs.Lengths.{length-bytes_at, length-with_bytes}
use Rattle.fa_types.specs.Plain.{HasPages, export, put}
use Rattle.fa_types.specs.Store.{bytes_at, with_bytes}
use Rattle.std.proofs.Common.{List, None, Option, Some, [], ap, arith, length, replicate, sym, take, true, ℕ, ◌*◌, ◌+◌, ◌-◌, ◌∙◌, ◌≡◌, ◌≤◌}
use Rattle.std.proofs.lemmas.Bool.{and_parts, leb-true}
use Rattle.std.proofs.lemmas.List.{drop-replicate, length-replicate, length-take-le, take-replicate}
use Rattle.std.specs.Prelude.{slice_index_or}

-- the bytes that a request writes into its range
abbrev pub bytes_for : Option Fill → Range → List ℕ → List ℕ
bytes_for (Some Bytes) r bytes = bytes
bytes_for fill r bytes = replicate (r.to - r.from) 0

pub bytes_long : (fill : Option Fill) (r : Range) (bytes : List ℕ) → length bytes ≡ r.to - r.from → length (bytes_for fill r bytes) ≡ r.to - r.from
bytes_long (Some Bytes) r bytes long = long
bytes_long (Some Zeros) r bytes long = length-replicate (r.to - r.from) 0
bytes_long (Some Holes) r bytes long = length-replicate (r.to - r.from) 0
bytes_long None r bytes long = length-replicate (r.to - r.from) 0

module _ (pages : ℕ) (r : Range) (h : IsInside pages r) (all : List ℕ) (long : length all ≡ r.to - r.from) where
  -- what is written of a page
  abbrev pub part_at : ℕ → List ℕ
  part_at page = bytes_at (upto r page) (bytes_in r page) all

  part_inside : (page : ℕ) → IsOf r page → upto r page + bytes_in r page ≤ length all
  part_inside page of_range = let next = part_ends pages r h page of_range in omega (arith, next, long)

  pub part_long : (page : ℕ) → IsOf r page → length (part_at page) ≡ bytes_in r page
  part_long page of_range = length-bytes_at (upto r page) (bytes_in r page) all (part_inside page of_range)

  -- a page that is covered is written whole
  pub covered_whole : (page : ℕ) → covers r page ≡ true → (begins_at r page ≡ 0) × (bytes_in r page ≡ r.page_bytes)
  covered_whole page covered =
      let parts = and_parts _ _ covered in
      let low = leb-true r.from (page * r.page_bytes) parts.0 in
      let high = leb-true (page * r.page_bytes + r.page_bytes) r.to parts.1 in (omega (arith, low), omega (arith, low, high))

  module _ (plain : List (List ℕ)) (sized : HasPages r.page_bytes plain) (many : length plain ≡ pages) where
    page_is_long : (page : ℕ) → IsOf r page → length (slice_index_or plain page []) ≡ r.page_bytes
    page_is_long page of_range =
        let low = page_low pages r h page of_range in page_long r.page_bytes plain sized page (omega (arith, low, many))

    -- the page with what is written of it
    abbrev pub new_page : ℕ → List ℕ
    new_page page = with_bytes (begins_at r page) (part_at page) (slice_index_or plain page [])

    pub new_long : (page : ℕ) → IsOf r page → length (new_page page) ≡ r.page_bytes
    new_long page of_range =
        let here = page_is_long page of_range in let part = part_long page of_range in let fits = part_fits pages r h page of_range in
        length-with_bytes (begins_at r page) (part_at page) (slice_index_or plain page []) (omega (arith, here, part, fits)) ∙ here

    pub new_covered : (page : ℕ) → IsOf r page → covers r page ≡ true → new_page page ≡ part_at page
    new_covered page of_range covered =
        let whole = covered_whole page covered in let some = whole.1 in
        let here = page_is_long page of_range in let part = part_long page of_range in
        ap (λ at. with_bytes at (part_at page) (slice_index_or plain page [])) whole.0
        ∙ with_all (part_at page) (slice_index_or plain page []) (omega (arith, here, part, some))

    -- the bytes of the array once the page is written
    pub written_on : (before : List ℕ) → r.from ≤ length before → (page : ℕ) → IsOf r page
        → export plain ≡ with_bytes r.from (take (upto r page) all) before
        → export (put page (new_page page) plain) ≡ with_bytes r.from (take (upto r (page + 1)) all) before
    written_on before fits page of_range is =
        let low = page_low pages r h page of_range in
        let part = part_long page of_range in let within = part_fits pages r h page of_range in
        let inside = part_inside page of_range in
        let front : List ℕ = take (upto r page) all in
        let count : length front ≡ upto r page = length-take-le (upto r page) all (omega (arith, inside)) in
        put_part r.page_bytes plain sized page (begins_at r page) (part_at page) (omega (arith, low, many)) (omega (arith, part, within))
        ∙ ap (λ at. with_bytes at (part_at page) (export plain)) (sym (part_begins pages r h page of_range) ∙ ap (λ n. r.from + n) (sym count))
        ∙ ap (with_bytes (r.from + length front) (part_at page)) is
        ∙ with_on r.from front (part_at page) before fits
        ∙ ap (λ bytes. with_bytes r.from bytes before) (take_on (upto r page) (bytes_in r page) all
        ∙ ap (λ n. take n all) (sym (part_ends pages r h page of_range)))

zeros_are : (pages : ℕ) (r : Range) → IsInside pages r → (page : ℕ) → IsOf r page
    → replicate (bytes_in r page) 0 ≡ bytes_at (upto r page) (bytes_in r page) (replicate (r.to - r.from) 0)
zeros_are pages r h page of_range =
    let next = part_ends pages r h page of_range in
    sym (ap (take (bytes_in r page)) (drop-replicate (upto r page) (r.to - r.from) 0)
    ∙ take-replicate (bytes_in r page) (r.to - r.from - upto r page) 0 (omega (arith, next)))

-- what a request has for a page
pub content_is : (pages : ℕ) (r : Range) → IsInside pages r → (fill : Option Fill) (bytes : List ℕ) (page : ℕ) → IsOf r page
    → content fill r page bytes ≡ bytes_at (upto r page) (bytes_in r page) (bytes_for fill r bytes)
content_is pages r h (Some Bytes) bytes page of_range =
    let begins = part_begins pages r h page of_range in
    ap (λ at. bytes_at at (bytes_in r page) bytes) (let same : page * r.page_bytes + begins_at r page - r.from ≡ upto r page = omega (arith, begins) in same)
content_is pages r h (Some Zeros) bytes page of_range = zeros_are pages r h page of_range
content_is pages r h (Some Holes) bytes page of_range = zeros_are pages r h page of_range
content_is pages r h None bytes page of_range = zeros_are pages r h page of_range
