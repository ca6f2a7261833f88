-- What lines say by their words.
use Rattle.std.proofs.Common.{◌≡◌, ◌≢◌, ℕ, ◌≤◌, List, [], ◌∷◌, map, get_or, codes, nat_eq, false, true, All, refl, sym, ap, ◌∙◌, subst, eq-eqb}
use Rattle.std.specs.Fmt.{decimal}
use Rattle.std.specs.List.Sorted.{IsStrictlyIncreasing}
use Rattle.std.proofs.lemmas.Bool.{false≢true}
use Rattle.std.proofs.lemmas.List.Elements.{All-nil, All-cons, All-head, All-tail}
use Rattle.fa_types.specs.declared.numbers.Die.{Die}
use Rattle.fa_types.specs.declared.numbers.Page.{Page}
use Rattle.fa_texts.specs.BatchText.{page_line, HasPageLine}
use Rattle.fa_texts.specs.CertificateText.{short_line, HaveShortLine}
use Rattle.fa_texts.specs.Numbers.{IsRisingUpTo}
use Rattle.fa_batch_terms.proofs.Parts.{first_same, some_left}

module _ {X : Type 0} (number : X → ℕ) where
  -- words that write the numbers of things
  pub writes_each : (xs : List X) → map decimal (map number xs) ≡ map (λ x. decimal (number x)) xs
  writes_each [] = refl
  writes_each (x ∷ xs) = ap (λ v. decimal (number x) ∷ v) (writes_each xs)

  pub no_words : (xs : List X) → map (λ x. decimal (number x)) xs ≡ [] → xs ≡ []
  no_words [] is = refl
  no_words (x ∷ xs) is = absurd (some_left is)

  -- a bound on the numbers of things, and on the things
  pub each_below : (max : ℕ) (xs : List X) → All (λ n. n ≤ max) (map number xs) → All (λ x. number x ≤ max) xs
  each_below max [] h = All-nil (λ x. number x ≤ max)
  each_below max (x ∷ xs) h =
      All-cons (λ x. number x ≤ max) x xs (All-head (λ n. n ≤ max) (number x) (map number xs) h)
      (each_below max xs (All-tail (λ n. n ≤ max) (number x) (map number xs) h))

  pub numbers_below : (max : ℕ) (xs : List X) → All (λ x. number x ≤ max) xs → All (λ n. n ≤ max) (map number xs)
  numbers_below max [] h = All-nil (λ n. n ≤ max)
  numbers_below max (x ∷ xs) h =
      All-cons (λ n. n ≤ max) (number x) (map number xs) (All-head (λ x. number x ≤ max) x xs h)
      (numbers_below max xs (All-tail (λ x. number x ≤ max) x xs h))

-- Lines whose first words begin with different letters differ.
pub other_word : (word word' : List ℕ) (words words' : List (List ℕ)) → nat_eq (get_or word 0 0) (get_or word' 0 0) ≡ false → word ∷ words ≢ word' ∷ words'
other_word word word' words words' other is =
    false≢true (sym other ∙ eq-eqb (get_or word 0 0) (get_or word' 0 0) (ap (λ v. get_or v 0 0) (first_same is)))

-- and so do lines of which one has another first word
pub other_first : {word name : List ℕ} {words rest more : List (List ℕ)} → words ≡ word ∷ rest → (word ≡ name → false ≡ true) → words ≢ name ∷ more
other_first cut other is = false≢true (other (first_same (sym cut ∙ is)))

-- The line of a page, with the numbers of its holders.
pub page_says : (page : Page) (holders : List Die) (numbers : List ℕ) (rest : List (List ℕ)) → rest ≡ decimal page.0 ∷ codes "on" ∷ map decimal numbers
    → map (λ d. d.0) holders ≡ numbers → page.0 ≤ 1048575 → IsRisingUpTo 63 numbers
    → (codes "page" ∷ rest ≡ page_line (record { page = page; holders = holders })) × HasPageLine (record { page = page; holders = holders })
page_says page holders numbers rest is same small rise = (
  ap (λ v. codes "page" ∷ v) (is ∙ ap (λ v. decimal page.0 ∷ codes "on" ∷ v) (ap (λ v. map decimal v) (sym same) ∙ writes_each (λ d. d.0) holders)),
  record {
    page = small;
    dies = each_below (λ d. d.0) 63 holders (subst (λ v. All (λ n. n ≤ 63) v) (sym same) rise.within);
    rising = subst (λ v. IsStrictlyIncreasing v) (sym same) rise.rising;
  },
)

-- The line of a shortage, with the numbers of its pages.
pub short_says : (pages : List Page) (numbers : List ℕ) (rest : List (List ℕ)) → rest ≡ map decimal numbers → map (λ p. p.0) pages ≡ numbers
    → IsRisingUpTo 1048575 numbers → (codes "short" ∷ rest ≡ short_line pages) × HaveShortLine pages
short_says pages numbers rest is same rise = (
  ap (λ v. codes "short" ∷ v) (is ∙ ap (λ v. map decimal v) (sym same) ∙ writes_each (λ p. p.0) pages),
  record {
    known = each_below (λ p. p.0) 1048575 pages (subst (λ v. All (λ n. n ≤ 1048575) v) (sym same) rise.within);
    rising = subst (λ v. IsStrictlyIncreasing v) (sym same) rise.rising;
  },
)
