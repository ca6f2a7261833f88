-- The text of a certificate: `rounds R`, a line for each place, a line for the shortage, `end`.
use Rattle.std.specs.Prelude.{◌≡◌, ◌≢◌, ℕ, ◌≤◌, ◌==◌, List, [], ◌∷◌, ◌++◌, map, codes, count_by, All}
use Rattle.std.specs.Fmt.{decimal}
use Rattle.std.specs.List.Sorted.{IsStrictlyIncreasing, IsNonDecreasing, IsPermutation}
use Rattle.fa_types.specs.declared.numbers.Page.{Page}
use Rattle.fa_batch_terms.specs.declared.place.Place.{Place}
use Rattle.fa_texts.specs.declared.certificate_text.CertificateLine.{CertificateLine}
use Rattle.fa_texts.specs.declared.certificate_text.CertificateLine.TheVariants.{Place as PlaceLine, Short, End, Other}
use Rattle.fa_texts.specs.BatchText.{end_line}
use Rattle.fa_texts.specs.Text.{words_by_line}

-- the words of the first line, `rounds R`
abbrev pub rounds_line : ℕ → List (List ℕ)
rounds_line rounds = codes "rounds" ∷ decimal rounds ∷ []

-- the words of a place's line, `place P D ROUND`
abbrev pub place_line : Place → List (List ℕ)
place_line x = codes "place" ∷ decimal x.page.0 ∷ decimal x.die.0 ∷ decimal x.round.0 ∷ []

-- the words of a shortage's line, `short P P ..`
abbrev pub short_line : List Page → List (List ℕ)
short_line pages = codes "short" ∷ map (λ p. decimal p.0) pages

-- a shortage has one line, and none where it has no pages
abbrev pub short_lines : List Page → List (List (List ℕ))
short_lines [] = []
short_lines (page ∷ pages) = short_line (page ∷ pages) ∷ []

-- the words of each line of a certificate text
abbrev pub certificate_lines : ℕ → List Place → List Page → List (List (List ℕ))
certificate_lines rounds places pages = rounds_line rounds ∷ map place_line places ++ short_lines pages ++ end_line ∷ []

-- a place that may have a line
pub record HasPlaceLine (x : Place) : Type 0 where
  pub page : x.page.0 ≤ 1048575
  pub die : x.die.0 ≤ 63
  pub round : x.round.0 ≤ 2000000

-- pages that may have a line together: they rise
pub record HaveShortLine (pages : List Page) : Type 0 where
  pub known : All (λ p. p.0 ≤ 1048575) pages
  pub rising : IsStrictlyIncreasing (map (λ p. p.0) pages)

-- the text of a plan of so many rounds with these places, and of a shortage of these pages
pub record IsCertificateText (lines : List (List (List ℕ))) (rounds : ℕ) (places : List Place) (pages : List Page) : Type 0 where
  pub spelled : lines ≡ certificate_lines rounds places pages
  pub few : rounds ≤ 2000000
  pub placed : All HasPlaceLine places
  pub short : HaveShortLine pages

-- what has a text: a plan and a shortage within its limits, no page of the shortage twice
pub record HasCertificateText (rounds : ℕ) (places : List Place) (pages : List Page) : Type 0 where
  pub few : rounds ≤ 2000000
  pub placed : All HasPlaceLine places
  pub known : All (λ p. p.0 ≤ 1048575) pages
  pub once : (page : ℕ) → count_by (λ p. p.0 == page) pages ≤ 1

-- the text of some plan and shortage, and nothing behind it
abbrev pub IsSomeCertificate : List (List (List ℕ)) → Type 0
IsSomeCertificate lines = (rounds : ℕ) × (places : List Place) × (pages : List Page) × IsCertificateText lines rounds places pages

-- What is printed of a plan and a shortage: the lines of the same places and of the same pages, by rising page.
-- What is printed behind them begins a new line.
pub record IsPrinted (rounds : ℕ) (places : List Place) (pages : List Page) (out : List ℕ) : Type 0 where
  pub placed : List Place
  pub short : List Page
  pub same_places : IsPermutation places placed
  pub places_rise : IsNonDecreasing (map (λ x. x.page.0) placed)
  pub same_pages : IsPermutation pages short
  pub pages_rise : IsNonDecreasing (map (λ p. p.0) short)
  pub spelled : (more : List ℕ) → words_by_line (out ++ more) ≡ certificate_lines rounds placed short ++ words_by_line more

-- The text of a plan and a shortage was printed behind an old text.
pub record PrintsCertificate (rounds : ℕ) (places : List Place) (pages : List Page) (old new : List ℕ) : Type 0 where
  pub text : List ℕ
  pub behind : new ≡ old ++ text
  pub printed : IsPrinted rounds places pages text

-- What a line behind the first says by its words, if it may stand in a certificate text at all.
module _ {A : Type 0} where
  abbrev pub SaysOfCertificate : List (List ℕ) → CertificateLine A → Type 0
  SaysOfCertificate words (PlaceLine x) = (words ≡ place_line x) × HasPlaceLine x
  SaysOfCertificate words (Short pages) = (words ≡ short_line pages) × HaveShortLine pages × (pages ≢ [])
  SaysOfCertificate words End = words ≡ end_line
  SaysOfCertificate words Other =
      ((x : Place) → HasPlaceLine x → words ≢ place_line x)
      × ((pages : List Page) → HaveShortLine pages → pages ≢ [] → words ≢ short_line pages) × (words ≢ end_line)
