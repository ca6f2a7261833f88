-- The whole pages of a range: the pages all of whose bytes are in it.
use Rattle.std.proofs.Common.{◌≡◌, ℕ, zero, suc, ◌+◌, ◌-◌, ◌*◌, ◌/◌, ◌<◌, ◌≤◌, ◌↔◌, Bool, IsTrue, List, ◌++◌, length, take, drop, replicate, get_or, slice_index, refl, sym, ap, ◌∙◌, arith, length-append}
use Rattle.std.proofs.Math.Nat.{suc-mul, add-mul, zero-mul, le-div_iff_mul-le, div-lt_iff_lt-mul, lt-div-mul-add, div-mul-le_self, mul-div_cancel, mul-le-mul_right}
use Rattle.std.proofs.lemmas.Nat.{div-mul-add}
use Rattle.std.proofs.lemmas.Bool.{false_from_ne_true}
use Rattle.std.proofs.lemmas.Grind.{same_number_lists}
use Rattle.std.proofs.lemmas.List.{length-replicate, length-take-le, get_or-append_right, get_or_append_left, get_or-replicate, get_or-take, get_or-drop}
use Rattle.fa_types.proofs.Lengths.{length-bytes_at}
use Rattle.fa_types.specs.Store.{Store, Reading, Trimming, Gave, Done, Meets, IsWhole, InRange, IsCovered, first_whole, whole_offset, whole_length, with_bytes, bytes_at}

-- from its first whole page on, and before the page with its end
record IsBetween (page_bytes offset len page : ℕ) : Type 0 where
  first : first_whole page_bytes offset ≤ page
  past : page < (offset + len) / page_bytes

between-covered : (page_bytes offset len page : ℕ) → 0 < page_bytes → IsCovered page_bytes offset len page → IsBetween page_bytes offset len page
between-covered page_bytes offset len page some covered =
    let front = covered (page * page_bytes) (mul-div_cancel page some) in
    let back = covered (page * page_bytes + (page_bytes - 1)) (div-mul-add page page_bytes (page_bytes - 1) (omega arith)) in
    let next = suc-mul page page_bytes in
    let low : offset + (page_bytes - 1) < suc page * page_bytes = omega (arith, next, front.0) in
    let high : suc page * page_bytes ≤ offset + len = omega (arith, next, back.1) in
    let below : first_whole page_bytes offset < suc page = (div-lt_iff_lt-mul some).1 low in
    let above : suc page ≤ (offset + len) / page_bytes = (le-div_iff_mul-le some).1 high in
    record { first = omega arith; past = omega arith }

covered-between : (page_bytes offset len page : ℕ) → 0 < page_bytes → IsBetween page_bytes offset len page → IsCovered page_bytes offset len page
covered-between page_bytes offset len page some is i of_page =
    let next = suc-mul page page_bytes in
    let low : offset + (page_bytes - 1) < suc page * page_bytes = (div-lt_iff_lt-mul some).0 (let b : first_whole page_bytes offset < suc page = omega (arith, is.first) in b) in
    let high : suc page * page_bytes ≤ offset + len = (le-div_iff_mul-le some).0 (let b : suc page ≤ (offset + len) / page_bytes = omega (arith, is.past) in b) in
    let begins : page * page_bytes ≤ i = let h : i / page_bytes * page_bytes ≤ i = div-mul-le_self i page_bytes in rw of_page at h in
    let ends : i < page * page_bytes + page_bytes = let h : i < i / page_bytes * page_bytes + page_bytes = lt-div-mul-add some in rw of_page at h in
    (omega arith, omega arith)

-- where the whole pages end, if there is one
whole-end : (page_bytes offset len : ℕ) → first_whole page_bytes offset ≤ (offset + len) / page_bytes
    → whole_offset page_bytes offset + whole_length page_bytes offset len ≡ (offset + len) / page_bytes * page_bytes
whole-end page_bytes offset len below =
    let first = first_whole page_bytes offset in
    let past = (offset + len) / page_bytes in
    let same : first + (past - first) ≡ past = omega arith in
    sym (add-mul first (past - first) page_bytes) ∙ ap (λ n. n * page_bytes) same

range-between : (page_bytes offset len i : ℕ) → 0 < page_bytes → IsBetween page_bytes offset len (i / page_bytes) → InRange (whole_offset page_bytes offset) (whole_length page_bytes offset len) i
range-between page_bytes offset len i some is =
    let end = whole-end page_bytes offset len (omega (arith, is.first, is.past)) in
    let high : i < (offset + len) / page_bytes * page_bytes = (div-lt_iff_lt-mul some).0 is.past in
    ((le-div_iff_mul-le some).0 is.first, omega (arith, end, high))

-- a byte of the whole pages is before their end, by how many they are
before-end : (page_bytes offset len i n : ℕ) → (offset + len) / page_bytes - first_whole page_bytes offset ≡ n → InRange (whole_offset page_bytes offset) (whole_length page_bytes offset len) i → i < (offset + len) / page_bytes * page_bytes
before-end page_bytes offset len i zero none range =
    let empty : whole_length page_bytes offset len ≡ 0 = ap (λ m. m * page_bytes) none ∙ zero-mul page_bytes in
    absurd (omega (arith, range.0, range.1, empty))
before-end page_bytes offset len i (suc n) some range =
    let end = whole-end page_bytes offset len (omega (arith, some)) in
    omega (arith, range.1, end)

between-range : (page_bytes offset len i : ℕ) → 0 < page_bytes → InRange (whole_offset page_bytes offset) (whole_length page_bytes offset len) i → IsBetween page_bytes offset len (i / page_bytes)
between-range page_bytes offset len i some range = record {
  first = (le-div_iff_mul-le some).1 range.0;
  past = (div-lt_iff_lt-mul some).1 (before-end page_bytes offset len i _ refl range);
}

-- What a trim makes zeros of is each page all of whose bytes are in its range, and no other byte.
pub takes_whole_pages : (page_bytes offset len i : ℕ) → 1 ≤ page_bytes → InRange (whole_offset page_bytes offset) (whole_length page_bytes offset len) i ↔ IsCovered page_bytes offset len (i / page_bytes)
takes_whole_pages page_bytes offset len i some = (
  (λ range. covered-between page_bytes offset len (i / page_bytes) some (between-range page_bytes offset len i some range)),
  (λ covered. range-between page_bytes offset len i some (between-covered page_bytes offset len (i / page_bytes) some covered)),
)

-- a byte among zeros that were written
zero-at : (from count i : ℕ) (before : List ℕ) → from ≤ length before → from ≤ i → i < from + count → get_or (with_bytes from (replicate count 0) before) i 0 ≡ 0
zero-at from count i before fits front back =
    let zeros : List ℕ = replicate count 0 in
    let rest : List ℕ = drop (from + length zeros) before in
    let long : length zeros ≡ count = length-replicate count 0 in
    let whole : length (take from before) ≡ from = length-take-le from before fits in
    let ahead : get_or ((take from before ++ zeros) ++ rest) i 0 ≡ get_or (take from before ++ zeros) i 0 =
    get_or_append_left (take from before ++ zeros) rest 0 i (let joined = length-append (take from before) zeros in omega (arith, joined, whole, long)) in
    let among : get_or (take from before ++ zeros) i 0 ≡ get_or zeros (i - from) 0 = get_or-append_right (take from before) zeros from i 0 whole front in
    ahead ∙ among ∙ get_or-replicate count (i - from) 0 0 (omega arith)

-- a part that is zeros wherever it is read
zeros-at : (at n : ℕ) (bytes : List ℕ) → at + n ≤ length bytes → ((i : ℕ) → at ≤ i → i < at + n → slice_index bytes i ≡ 0) → bytes_at at n bytes ≡ replicate n 0
zeros-at at n bytes fits zeros =
    let long = length-bytes_at at n bytes fits in
    same_number_lists (bytes_at at n bytes) (replicate n 0) (long ∙ sym (length-replicate n 0)) (λ j below.
    let within : j < n = omega (arith, long, below) in
    get_or-take n (drop at bytes) j 0 within ∙ get_or-drop at bytes j 0 ∙ zeros (at + j) (omega arith) (omega arith)
    ∙ sym (get_or-replicate n j 0 0 within))

-- of a store that is alone, a page that lies wholly in the range of a trim reads as zeros
pub reads_zeros : (before middle after : Store) (offset len page : ℕ) (fua : Bool) (given : List ℕ) → IsWhole before → IsWhole middle → IsTrue before.alone → offset + len ≤ before.size
    → IsCovered before.page_bytes offset len page → Meets before (Trimming offset len fua) Done middle
    → Meets middle (Reading (page * before.page_bytes) before.page_bytes) (Gave given) after → given ≡ replicate before.page_bytes 0
reads_zeros before middle after offset len page fua given whole whole' alone fits covered trims reads =
    let size = before.page_bytes in
    let is = between-covered size offset len page whole.some_bytes covered in
    let end = whole-end size offset len (omega (arith, is.first, is.past)) in
    let past : (offset + len) / size * size ≤ offset + len = div-mul-le_self (offset + len) size in
    let next = suc-mul page size in
    let low : whole_offset size offset ≤ page * size = mul-le-mul_right size is.first in
    let high : suc page * size ≤ (offset + len) / size * size = mul-le-mul_right size is.past in
    let alone' : IsTrue middle.alone = rw trims.alone alone in
    let long : length before.content ≡ before.size = whole.sized alone in
    let long' : length middle.content ≡ before.size = whole'.sized alone' ∙ trims.size in
    let written = trims.served alone in
    let read = reads.served alone' in
    read.0 ∙ zeros-at (page * size) size middle.content (omega arith) (λ i from to.
    written.content i (omega arith) (false_from_ne_true (middle.lost (i / middle.page_bytes)) (λ lost. read.1 (i / middle.page_bytes) lost (i, refl, (from, to))))
    ∙ zero-at (whole_offset size offset) (whole_length size offset len) i before.content (omega arith) (omega arith) (omega arith))
