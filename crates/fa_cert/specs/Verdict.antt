-- The verdict on a plan with pages that are to show it least: a certificate, or the first thing that is wrong.
use Rattle.std.specs.Prelude.{◌≡◌, ℕ, Bool, List, ◌++◌, codes}
use Rattle.std.specs.Fmt.{decimal}
use Rattle.fa_types.specs.declared.numbers.Page.{Page}
use Rattle.fa_batch_terms.specs.declared.place.Place.{Place}
use Rattle.fa_cert.specs.declared.verdict.Refusal.{Refusal}
use Rattle.fa_cert.specs.declared.verdict.Refusal.TheVariants.{PageMissing, PageTwice, NotAHolder, RoundClosed, PlaceTwice}
use Rattle.fa_cert.specs.declared.verdict.Refusal.TheVariants.{LastRound, ShortagePage, NotShort}
use Rattle.fa_cert.specs.declared.verdict.Verdict.{Verdict}
use Rattle.fa_cert.specs.declared.verdict.Verdict.TheVariants.{Least, Refused}
use Rattle.fa_batch_terms.specs.Batch.{Entry}
use Rattle.fa_batch_terms.specs.Plan.{IsPlan, ArePlaced, ArePlacedOnce, AreHeld, AreOpen, AreApart, rounds_of}
use Rattle.fa_batch_terms.specs.Certificate.{IsCertificate, AreNamed, ShowsNoFewer}

module _ (batch : List Entry) (current : ℕ) (closed : ℕ → ℕ → Bool) (rounds : ℕ) (places : List Place) (pages : List Page) where
  -- which fact of a certificate fails; all that come before it hold
  abbrev pub IsRefused : Refusal → Type 0
  IsRefused PageMissing = ¬ (ArePlaced batch places)
  IsRefused PageTwice = ArePlaced batch places × (¬ (ArePlacedOnce places))
  IsRefused NotAHolder = ArePlaced batch places × ArePlacedOnce places × (¬ (AreHeld batch places))
  IsRefused RoundClosed =
      ArePlaced batch places × ArePlacedOnce places × AreHeld batch places × (¬ (AreOpen current closed places))
  IsRefused PlaceTwice =
      ArePlaced batch places × ArePlacedOnce places × AreHeld batch places × AreOpen current closed places × (¬ (AreApart places))
  IsRefused LastRound = IsPlan batch current closed places × (¬ (rounds_of current places ≡ rounds))
  IsRefused ShortagePage =
      IsPlan batch current closed places × (rounds_of current places ≡ rounds) × (¬ (AreNamed batch pages))
  IsRefused NotShort =
      IsPlan batch current closed places × (rounds_of current places ≡ rounds) × AreNamed batch pages
      × (¬ (ShowsNoFewer batch current closed rounds pages))

  -- so many rounds are least as claimed, or the claim is refused
  abbrev pub IsVerdict : Verdict → Type 0
  IsVerdict (Least least) = (least ≡ rounds) × IsCertificate batch current closed rounds places pages
  IsVerdict (Refused refusal) = IsRefused refusal

-- the refusals are numbered in that order
abbrev pub refusal_number : Refusal → ℕ
refusal_number PageMissing = 1
refusal_number PageTwice = 2
refusal_number NotAHolder = 3
refusal_number RoundClosed = 4
refusal_number PlaceTwice = 5
refusal_number LastRound = 6
refusal_number ShortagePage = 7
refusal_number NotShort = 8

-- the words of each refusal
abbrev pub refusal_words : Refusal → List ℕ
refusal_words PageMissing = codes "page missing"
refusal_words PageTwice = codes "page twice"
refusal_words NotAHolder = codes "not a holder"
refusal_words RoundClosed = codes "round closed"
refusal_words PlaceTwice = codes "place taken twice"
refusal_words LastRound = codes "last round differs"
refusal_words ShortagePage = codes "shortage page unknown"
refusal_words NotShort = codes "not short"

-- what is printed of a verdict: the number of rounds, or the number of the refusal with its words
abbrev pub verdict_text : Verdict → List ℕ
verdict_text (Least rounds) = codes "least " ++ decimal rounds
verdict_text (Refused refusal) = codes "refused " ++ decimal (refusal_number refusal) ++ codes " " ++ refusal_words refusal
