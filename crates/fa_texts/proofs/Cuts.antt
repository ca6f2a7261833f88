-- Where words are cut, and what digits write.
use Rattle.std.proofs.Common.{◌≡◌, ◌≢◌, ℕ, zero, suc, ◌+◌, ◌-◌, ◌<◌, ◌≤◌, ◌^◌, true, false, Option, Some, None, List, [], ◌∷◌, length, take, drop, get_or, map, ◌==◌, refl, sym, ap, ◌∙◌, subst, arith}
use Rattle.std.specs.List.{position, join_with_byte}
use Rattle.std.specs.Borrow.{Bor}
use Rattle.std.specs.Option.{is_some}
use Rattle.std.specs.Char.{digit_value}
use Rattle.std.specs.Fmt.{decimal}
use Rattle.std.specs.Str.Parse.{AllDigits, digits_value}
use Rattle.std.proofs.lemmas.Bool.{false≢true}
use Rattle.std.proofs.lemmas.Fmt.{decimal_digit, first_decimal, decimal-digits_value, decimal_is_IsNumeral}
use Rattle.std.proofs.lemmas.Int.Digits.{digits_value_is, number_after_append, number_after_ge}
use Rattle.std.proofs.lemmas.List.{take-append-drop, map-append}
use Rattle.std.proofs.lemmas.List.Sums.{fails_before_first}
use Rattle.std.proofs.lemmas.List.Splits.{join_with_byte-slice_split, length-slice_split, slice_split_first, slice_split_none}
use Rattle.std.proofs.lemmas.Str.Parse.{IsNumeralModel}
use Rattle.std.specs.Int.Digits.{number_from_digits}
use Rattle.fa_io.proofs.LineLemmas.{found_index, no_index, rest_is}
use Rattle.fa_texts.specs.Text.{words_of, words_left}

-- The first word of a line.
pub word_cut : (bs : List ℕ) (k : ℕ) → position (λ b. b == 32) bs ≡ Some k → words_of bs ≡ take k bs ∷ words_of (take (length bs - (k + 1)) (drop (k + 1) bs))
word_cut bs k at =
    let place = found_index (λ b. b == 32) bs k at in
    slice_split_first (λ b. b == 32) bs 0 (omega (arith, place.0, place.1))
    ∙ ap (λ n. take n bs ∷ words_of (drop (n + 1) bs)) place.0
    ∙ ap (λ v. take k bs ∷ words_of v) (sym (rest_is bs (k + 1)))

pub word_whole : (bs : List ℕ) → position (λ b. b == 32) bs ≡ None → words_of bs ≡ bs ∷ []
word_whole bs none =
    let past = no_index (λ b. b == 32) bs none in
    slice_split_none (λ b. b == 32) bs (λ k d below. fails_before_first (λ b. b == 32) bs k d (omega arith))

-- a line has a word, if only an empty one
pub words_some : (bs : List ℕ) → words_of bs ≢ []
words_some bs is = let size = length-slice_split (λ b. b == 32) bs in let none = ap (λ l. length l) is in omega (arith, size, none)

-- What digits write.
own : IsNumeralModel (AllDigits 10) (digits_value 10)
own = record { to = λ ds h. h; from = λ ds h. h; same = λ ds h. refl }

-- digits with no leading zero are those of their value
pub writes : (ds : List ℕ) → AllDigits 10 ds → 0 < length ds → (get_or ds 0 0 ≡ 48 → length ds ≡ 1) → digits_value 10 ds < 2 ^ 64 → ds ≡ decimal (digits_value 10 ds)
writes ds digits some lead small = sym (decimal-digits_value own ds digits some lead small)

-- what is written of a number are digits, with this value
pub written : (ds : List ℕ) (n : ℕ) → n < 2 ^ 64 → ds ≡ decimal n → (0 < length ds) × AllDigits 10 ds × (digits_value 10 ds ≡ n)
written ds n small is =
    let facts = decimal_is_IsNumeral n small in
    (subst (λ v. 0 < length v) (sym is) facts.0.0, subst (λ v. AllDigits 10 v) (sym is) facts.0.1, ap (λ v. digits_value 10 v) is ∙ facts.1)

-- and no leading zero
pub no_leading_zero : (ds : List ℕ) (n : ℕ) → n < 2 ^ 64 → ds ≡ decimal n → get_or ds 0 0 ≡ 48 → 1 < length ds → ⊥
no_leading_zero ds zero small is zero_first long =
    let one : length ds ≡ 1 = ap (λ v. length v) (is ∙ decimal_digit 0 (omega arith)) in
    omega (arith, one, long)
no_leading_zero ds (suc n) small is zero_first long =
    let first = first_decimal (suc n) (omega arith) small in
    let same = ap (λ v. get_or v 0 0) is in
    omega (arith, first, same, zero_first)

-- a prefix of the digits writes no more than all
pub prefix_value : (ds : List ℕ) (i : ℕ) → digits_value 10 (take i ds) ≤ digits_value 10 ds
prefix_value ds i =
    let whole = digits_value_is 10 ds in
    let front = digits_value_is 10 (take i ds) in
    let cut = ap (λ v. number_from_digits 10 (map digit_value v)) (sym (take-append-drop i ds)) in
    let parts = ap (λ v. number_from_digits 10 v) (map-append digit_value (take i ds) (drop i ds)) ∙ number_after_append 10 0 (map digit_value (take i ds)) (map digit_value (drop i ds)) in
    let more = number_after_ge 10 (number_from_digits 10 (map digit_value (take i ds))) (map digit_value (drop i ds)) (omega arith) in
    omega (arith, whole, front, cut, parts, more)

-- how much is left of a line
abbrev pub left_len : Option (Bor (List ℕ)) → ℕ
left_len None = 0
left_len (Some line) = suc (length line.now)

-- nothing is left of a line where it has no word more
pub nothing_left : (left : Option (Bor (List ℕ))) → is_some left ≡ false → words_left left ≡ []
nothing_left None is = refl
nothing_left (Some line) is = absurd (false≢true (sym is))

pub something_left : (left : Option (Bor (List ℕ))) → is_some left ≡ true → words_left left ≢ []
something_left None is = absurd (false≢true is)
something_left (Some line) is = words_some line.now

-- a line with one word is this word
pub one_word : (line word : List ℕ) → words_of line ≡ word ∷ [] → line ≡ word
one_word line word is = sym (join_with_byte-slice_split 32 line) ∙ ap (λ v. join_with_byte 32 v) is
