-- Lines and words as they are printed.
use Rattle.std.proofs.Common.{◌≡◌, ◌≢◌, ℕ, ◌+◌, ◌%◌, ◌<◌, ◌≤◌, ◌^◌, true, false, List, [], ◌∷◌, ◌++◌, length, take, map, nat_lt, ◌==◌, codes, All, get_or, refl, sym, ap, ◌∙◌, arith, append_assoc}
use Rattle.std.specs.Fmt.{decimal}
use Rattle.std.specs.List.{flat_map, list_all, onto_first}
use Rattle.std.specs.List.Sorted.{IsNonDecreasing, IsNonDecreasingBy}
use Rattle.std.proofs.lemmas.Bool.{ne_eqb, cond-false, ltb-true}
use Rattle.std.proofs.lemmas.Fmt.{decimal_by_steps}
use Rattle.std.proofs.lemmas.List.{append-nil, length-map, get_or-map, map_more}
use Rattle.std.proofs.lemmas.List.Concat.{flat_map-append}
use Rattle.std.proofs.lemmas.List.Elements.{All-nil, All-cons, All-head, All-tail, All-append, All-map, All-push, All-weaker}
use Rattle.std.proofs.lemmas.List.Sums.{AllPass-from_list_all}
use Rattle.std.proofs.lemmas.List.Splits.{slice_split_at, slice_split_none}
use Rattle.fa_types.specs.declared.numbers.Die.{Die}
use Rattle.fa_types.specs.declared.numbers.Page.{Page}
use Rattle.fa_texts.specs.BatchText.{page_line}
use Rattle.fa_texts.specs.CertificateText.{short_lines}
use Rattle.fa_io.specs.Lines.{lines_of}
use Rattle.fa_texts.specs.Text.{IsWord, words_of, words_by_line, PrintsLines}

-- keys that rise are a list that rises
pub rises_by : {X : Type 0} (key : X → ℕ) (xs : List X) → IsNonDecreasingBy key xs → IsNonDecreasing (map key xs)
rises_by key [] rise = λ i j d le below. absurd (omega arith)
rises_by key (x ∷ xs) rise = λ i j d le below.
    let size = length-map (x ∷ xs) key in
    let low = get_or-map key (x ∷ xs) i x d (omega (arith, le, below, size)) in
    let high = get_or-map key (x ∷ xs) j x d (omega (arith, below, size)) in
    let up = rise i j x le (omega (arith, below, size)) in
    omega (arith, low, high, up)

-- a given word is one by a test
pub is_word : (word : List ℕ) → list_all (λ b. nat_lt 32 b) word ≡ true → IsWord word
is_word word passes =
    All-weaker (λ b. nat_lt 32 b ≡ true) (λ b. 32 < b) (λ b above. ltb-true 32 b above) word (AllPass-from_list_all (λ b. nat_lt 32 b) word passes)

-- the digits of a number are a word
pub number_word : (n : ℕ) → n < 2 ^ 64 → IsWord (decimal n)
number_word = decimal_by_steps (λ n word. IsWord word)
    (λ n low. All-cons (λ b. 32 < b) (48 + n) [] (omega arith) (All-nil (λ b. 32 < b)))
    (λ n word high rest. All-push (λ b. 32 < b) word (48 + n % 10) rest (omega arith))

-- what a word has none of
no_space : (word : List ℕ) → IsWord word → All (λ b. (b == 32) ≡ false) word
no_space word one = All-weaker (λ b. 32 < b) (λ b. (b == 32) ≡ false) (λ b above. ne_eqb b 32 (λ e. let no : ⊥ = omega arith in no)) word one

no_control : (word : List ℕ) → IsWord word → All (λ b. 32 ≤ b) word
no_control word one = All-weaker (λ b. 32 < b) (λ b. 32 ≤ b) (λ b above. omega arith) word one

-- words, each behind a space
abbrev pub spaced : List (List ℕ) → List ℕ
spaced words = flat_map (λ word. 32 ∷ word) words

-- the words of a line are those of which it was made
words_spaced : (word : List ℕ) (words : List (List ℕ)) → IsWord word → All IsWord words → words_of (word ++ spaced words) ≡ word ∷ words
words_spaced word [] one rest =
    ap (λ v. words_of v) (append-nil word) ∙ slice_split_none (λ b. b == 32) word (no_space word one)
words_spaced word (next ∷ words) one rest =
    slice_split_at (λ b. b == 32) word 32 (next ++ spaced words) (no_space word one) refl
    ∙ ap (λ v. word ∷ v) (words_spaced next words (All-head IsWord next words rest) (All-tail IsWord next words rest))

-- a line ends at its line feed
line_ends : (line more : List ℕ) → All (λ b. 32 ≤ b) line → lines_of (line ++ 10 ∷ more) ≡ line ∷ lines_of more
line_ends [] more high = refl
line_ends (b ∷ line) more high =
    let here = All-head (λ b. 32 ≤ b) b line high in
    cond-false (b == 10) ([] ∷ lines_of (line ++ 10 ∷ more)) (onto_first b (lines_of (line ++ 10 ∷ more))) (ne_eqb b 10 (λ e. let no : ⊥ = omega arith in no))
    ∙ ap (λ v. onto_first b v) (line_ends line more (All-tail (λ b. 32 ≤ b) b line high))

high_spaced : (words : List (List ℕ)) → All IsWord words → All (λ b. 32 ≤ b) (spaced words)
high_spaced [] each = All-nil (λ b. 32 ≤ b)
high_spaced (word ∷ words) each =
    All-cons (λ b. 32 ≤ b) 32 (word ++ spaced words) (omega arith)
    (All-append (λ b. 32 ≤ b) word (spaced words) (no_control word (All-head IsWord word words each))
    (high_spaced words (All-tail IsWord word words each)))

-- words, each behind a space, and the end of their line
abbrev pub ended : List (List ℕ) → List ℕ
ended [] = 10 ∷ []
ended (word ∷ words) = 32 ∷ (word ++ ended words)

pub ended_is : (words : List (List ℕ)) → spaced words ++ 10 ∷ [] ≡ ended words
ended_is [] = refl
ended_is (word ∷ words) = ap (λ v. 32 ∷ v) (append_assoc word (spaced words) (10 ∷ []) ∙ ap (λ v. word ++ v) (ended_is words))

-- a line of words, whatever stands behind it
pub line_printed : (word : List ℕ) (words : List (List ℕ)) → IsWord word → All IsWord words
    → (more : List ℕ) → words_by_line ((word ++ ended words) ++ more) ≡ (word ∷ words) ∷ words_by_line more
line_printed word words one rest more =
    ap (λ v. words_by_line ((word ++ v) ++ more)) (sym (ended_is words))
    ∙ ap (λ v. words_by_line (v ++ more)) (sym (append_assoc word (spaced words) (10 ∷ [])))
    ∙ ap (λ v. words_by_line v) (append_assoc (word ++ spaced words) (10 ∷ []) more)
    ∙ ap (λ v. map words_of v) (line_ends (word ++ spaced words) more (All-append (λ b. 32 ≤ b) word (spaced words) (no_control word one) (high_spaced words rest)))
    ∙ ap (λ v. v ∷ words_by_line more) (words_spaced word words one rest)

-- one word more behind a space
pub spaced_more : {X : Type 0} (word : X → List ℕ) (xs : List X) (i : ℕ) (d : X) → i < length xs
    → spaced (map word (take (i + 1) xs)) ≡ spaced (map word (take i xs)) ++ 32 ∷ word (get_or xs i d)
spaced_more word xs i d below =
    ap (λ v. spaced v) (map_more word xs i d below)
    ∙ flat_map-append (λ w. 32 ∷ w) (map word (take i xs)) (word (get_or xs i d) ∷ [])
    ∙ ap (λ v. spaced (map word (take i xs)) ++ v) (append-nil (32 ∷ word (get_or xs i d)))

-- the line of a shortage
pub short_printed : (pages : List Page) → pages ≢ [] → All (λ p. IsWord (decimal p.0)) pages
    → (more : List ℕ) → words_by_line ((codes "short" ++ ended (map (λ p. decimal p.0) pages)) ++ more) ≡ short_lines pages ++ words_by_line more
short_printed [] some each = absurd (some refl)
short_printed (page ∷ pages) some each =
    line_printed (codes "short") (map (λ p. decimal p.0) (page ∷ pages)) (is_word (codes "short") refl) (All-map IsWord (λ p. decimal p.0) (page ∷ pages) each)

-- lines that are printed behind others
pub lines_behind : (out line all : List ℕ) (lines last : List (List (List ℕ))) → ((more : List ℕ) → words_by_line (out ++ more) ≡ lines ++ words_by_line more)
    → ((more : List ℕ) → words_by_line (line ++ more) ≡ last ++ words_by_line more) → all ≡ out ++ line
    → (more : List ℕ) → words_by_line (all ++ more) ≡ (lines ++ last) ++ words_by_line more
lines_behind out line all lines last before next is more =
    ap (λ v. words_by_line (v ++ more)) is ∙ ap (λ v. words_by_line v) (append_assoc out line more) ∙ before (line ++ more)
    ∙ ap (λ v. lines ++ v) (next more) ∙ sym (append_assoc lines last (words_by_line more))

-- nothing printed, and lines printed behind lines
pub prints_none : (old : List ℕ) → PrintsLines old old []
prints_none old = record { text = []; behind = sym (append-nil old); spelled = λ more. refl }

pub prints_behind : {old mid new : List ℕ} {lines last : List (List (List ℕ))} → PrintsLines old mid lines → PrintsLines mid new last → PrintsLines old new (lines ++ last)
prints_behind {old} {mid} {new} {lines} {last} one next = record {
  text = one.text ++ next.text;
  behind = next.behind ∙ ap (λ v. v ++ next.text) one.behind ∙ append_assoc old one.text next.text;
  spelled = lines_behind one.text next.text (one.text ++ next.text) lines last one.spelled next.spelled refl;
}

-- one printed line
pub prints_line : (old : List ℕ) {new : List ℕ} (word : List ℕ) (words : List (List ℕ)) → new ≡ old ++ (word ++ ended words) → IsWord word → All IsWord words
    → PrintsLines old new ((word ∷ words) ∷ [])
prints_line old word words is one rest = record { text = word ++ ended words; behind = is; spelled = line_printed word words one rest }

-- a word was added to a text, then three more, each behind a space, and the end of their line
pub spaced_three : (old word a b d : List ℕ) {one two three four new : List ℕ} → one ≡ old ++ word → two ≡ one ++ 32 ∷ a → three ≡ two ++ 32 ∷ b
    → four ≡ three ++ 32 ∷ d → new ≡ four ++ 10 ∷ [] → new ≡ old ++ (word ++ ended (a ∷ b ∷ d ∷ []))
spaced_three old word a b d is_one is_two is_three is_four is_new =
    is_new ∙ ap (λ v. v ++ 10 ∷ []) (is_four ∙ ap (λ v. v ++ 32 ∷ d) (is_three ∙ ap (λ v. v ++ 32 ∷ b) (is_two ∙ ap (λ v. v ++ 32 ∷ a) is_one)))
    ∙ ap (λ v. ((v ++ 32 ∷ b) ++ 32 ∷ d) ++ 10 ∷ []) (append_assoc old word (32 ∷ a))
    ∙ ap (λ v. (v ++ 32 ∷ d) ++ 10 ∷ []) (append_assoc old (word ++ 32 ∷ a) (32 ∷ b))
    ∙ ap (λ v. v ++ 10 ∷ []) (append_assoc old ((word ++ 32 ∷ a) ++ 32 ∷ b) (32 ∷ d))
    ∙ append_assoc old (((word ++ 32 ∷ a) ++ 32 ∷ b) ++ 32 ∷ d) (10 ∷ [])
    ∙ ap (λ v. old ++ v)
    (ap (λ v. ((v ++ 32 ∷ d) ++ 10 ∷ [])) (append_assoc word (32 ∷ a) (32 ∷ b)) ∙ ap (λ v. v ++ 10 ∷ []) (append_assoc word (32 ∷ (a ++ 32 ∷ b)) (32 ∷ d))
    ∙ append_assoc word (32 ∷ ((a ++ 32 ∷ b) ++ 32 ∷ d)) (10 ∷ [])
    ∙ ap (λ v. word ++ 32 ∷ v) (ap (λ v. v ++ 10 ∷ []) (append_assoc a (32 ∷ b) (32 ∷ d)) ∙ append_assoc a (32 ∷ (b ++ 32 ∷ d)) (10 ∷ [])
    ∙ ap (λ v. a ++ 32 ∷ v) (append_assoc b (32 ∷ d) (10 ∷ []))))

-- the bytes of a page's line before its holders, and the whole line
abbrev pub page_head : ℕ → List ℕ
page_head page = codes "page" ++ 32 ∷ (decimal page ++ codes " on")

pub page_printed : (old : List ℕ) {new : List ℕ} (page : Page) (holders : List Die) → page.0 < 2 ^ 64 → All (λ d. IsWord (decimal d.0)) holders
    → new ≡ old ++ ((page_head page.0 ++ spaced (map (λ d. decimal d.0) holders)) ++ 10 ∷ []) → PrintsLines old new (page_line (record { page = page; holders = holders }) ∷ [])
page_printed old page holders low each is =
    let words : List (List ℕ) = map (λ (d : Die). decimal d.0) holders in
    let line = append_assoc (page_head page.0) (spaced words) (10 ∷ []) ∙ ap (λ v. page_head page.0 ++ v) (ended_is words)
    ∙ ap (λ v. codes "page" ++ 32 ∷ v) (append_assoc (decimal page.0) (codes " on") (ended words)) in
    prints_line old (codes "page") (decimal page.0 ∷ codes "on" ∷ words) (is ∙ ap (λ v. old ++ v) line) (is_word (codes "page") refl)
    (All-cons IsWord (decimal page.0) (codes "on" ∷ words) (number_word page.0 low)
    (All-cons IsWord (codes "on") words (is_word (codes "on") refl) (All-map IsWord (λ d. decimal d.0) holders each)))
