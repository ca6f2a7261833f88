-- A certificate text as it is printed.
use Rattle.std.proofs.Common.{◌≡◌, ℕ, ◌≤◌, false, cond, List, [], ◌∷◌, map, nat_eq, ◌==◌, refl, sym, ap, ◌∙◌, arith, eq-eqb}
use Rattle.std.specs.List.Sorted.{IsPermutation}
use Rattle.std.specs.List.{AllByRecursion, IsDistinct, count_by}
use Rattle.std.proofs.lemmas.Bool.{ne_eqb}
use Rattle.std.proofs.lemmas.List.{append-nil}
use Rattle.std.proofs.lemmas.List.Sorted.{All-permutation, sum_by-IsPermutation}
use Rattle.std.proofs.lemmas.Map.Keys.{IsStrictlyIncreasing-from_distinct}
use Rattle.fa_types.specs.declared.numbers.Page.{Page}
use Rattle.fa_batch_terms.specs.declared.place.Place.{Place}
use Rattle.fa_texts.specs.CertificateText.{certificate_lines, HasCertificateText, HasPlaceLine, IsCertificateText, IsPrinted}
use Rattle.fa_texts.specs.Text.{words_by_line}
use Rattle.fa_batch_terms.proofs.Counting.{count_by-cons}

-- a number that no page has is none of theirs
none_of : (n : ℕ) (pages : List Page) → count_by (λ p. p.0 == n) pages ≡ 0 → AllByRecursion (λ m. (n == m) ≡ false) (map (λ p. p.0) pages)
none_of n [] none = tt
none_of n (page ∷ pages) none =
    let count = count_by-cons (λ (p : Page). p.0 == n) page pages in (
      ne_eqb n page.0 (λ e.
          let one = ap (λ b. cond {A = ℕ} b 1 0) (eq-eqb page.0 n (sym e)) in
          let no : ⊥ = omega (arith, count, none, one) in no),
      none_of n pages (omega (arith, count, none)),
    )

-- pages of which none stands twice differ
differ : (pages : List Page) → ((page : ℕ) → count_by (λ p. p.0 == page) pages ≤ 1) → IsDistinct nat_eq (map (λ p. p.0) pages)
unfolding IsDistinct
differ [] once = tt
differ (page ∷ pages) once = (
  none_of page.0 pages
      (let count = count_by-cons (λ (p : Page). p.0 == page.0) page pages in
      let one = ap (λ b. cond {A = ℕ} b 1 0) (eq-eqb page.0 page.0 refl) in
      let most = once page.0 in
      omega (arith, count, one, most)),
  differ pages (λ n. let count = count_by-cons (λ (p : Page). p.0 == n) page pages in let most = once n in omega (arith, count, most)),
)

-- What is printed of a plan and a shortage within the limits of the texts is the text of the same places and pages.
pub certificate_printed : (rounds : ℕ) (places : List Place) (pages : List Page) (out : List ℕ) → HasCertificateText rounds places pages → IsPrinted rounds places pages out
    → (placed : List Place) × (short : List Page) × IsPermutation places placed × IsPermutation pages short × IsCertificateText (words_by_line out) rounds placed short
certificate_printed rounds places pages out has printed = (
  printed.placed,
  printed.short,
  printed.same_places,
  printed.same_pages,
  record {
    spelled = ap (λ v. words_by_line v) (sym (append-nil out)) ∙ printed.spelled [] ∙ append-nil (certificate_lines rounds printed.placed printed.short);
    few = has.few;
    placed = All-permutation HasPlaceLine places printed.placed printed.same_places has.placed;
    short = record {
      known = All-permutation (λ p. p.0 ≤ 1048575) pages printed.short printed.same_pages has.known;
      rising = IsStrictlyIncreasing-from_distinct (map (λ p. p.0) printed.short) printed.pages_rise
          (differ printed.short (λ page.
          let same = sum_by-IsPermutation (λ (p : Page). cond {A = ℕ} (p.0 == page) 1 0) pages printed.short printed.same_pages in
          let most = has.once page in
          omega (arith, same, most)));
    };
  },
)
