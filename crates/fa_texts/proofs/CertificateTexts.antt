-- How far lines are a certificate text, and what line may come next.
use Rattle.std.proofs.Common.{◌≡◌, ◌≢◌, ◌⊎◌, ℕ, ◌≤◌, inl, inr, List, [], ◌∷◌, ◌++◌, map, All, refl, sym, ap, ◌∙◌, subst, arith, append_assoc}
use Rattle.std.proofs.lemmas.List.{append-nil, map-append}
use Rattle.std.proofs.lemmas.List.Elements.{All-nil, All-push, All-head, All-tail}
use Rattle.fa_types.specs.declared.numbers.Page.{Page}
use Rattle.fa_batch_terms.specs.declared.place.Place.{Place}
use Rattle.fa_texts.specs.BatchText.{end_line}
use Rattle.fa_texts.specs.CertificateText.{rounds_line, place_line, short_line, short_lines, certificate_lines, HasPlaceLine, HaveShortLine, IsCertificateText, IsSomeCertificate}
use Rattle.fa_texts.specs.Text.{Begins}
use Rattle.fa_texts.proofs.LinesRead.{other_word}
use Rattle.fa_batch_terms.proofs.Parts.{first_same, rest_same, some_left}

-- the lines up to those of these places and pages, with more behind them
abbrev pub front : ℕ → List Place → List Page → List (List (List ℕ)) → List (List (List ℕ))
front rounds places pages tail = rounds_line rounds ∷ (map place_line places ++ (short_lines pages ++ tail))

-- Lines that are a certificate text so far.
pub record IsSoFar (rounds : ℕ) (places : List Place) (pages : List Page) (lines : List (List (List ℕ))) : Type 0 where
  pub spelled : (tail : List (List (List ℕ))) → lines ++ tail ≡ front rounds places pages tail
  pub few : rounds ≤ 2000000
  pub placed : All HasPlaceLine places
  pub short : HaveShortLine pages

text_front : (rounds : ℕ) (places : List Place) (pages : List Page) (rest : List (List (List ℕ))) → certificate_lines rounds places pages ++ rest ≡ front rounds places pages (end_line ∷ rest)
text_front rounds places pages rest =
    append_assoc (rounds_line rounds ∷ (map place_line places ++ short_lines pages)) (end_line ∷ []) rest
    ∙ ap (λ v. rounds_line rounds ∷ v) (append_assoc (map place_line places) (short_lines pages) (end_line ∷ rest))

whole_front : (rounds : ℕ) (places : List Place) (pages : List Page) → certificate_lines rounds places pages ≡ front rounds places pages (end_line ∷ [])
whole_front rounds places pages = sym (append-nil (certificate_lines rounds places pages)) ∙ text_front rounds places pages []

none_short : HaveShortLine []
none_short = record { known = All-nil (λ p. p.0 ≤ 1048575); rising = λ k below. absurd (omega (arith, below)) }

-- a shortage of some pages has its line
one_line : (pages : List Page) → pages ≢ [] → short_lines pages ≡ short_line pages ∷ []
one_line [] some = absurd (some refl)
one_line (page ∷ pages) some = refl

module _ {rounds : ℕ} {places' : List Place} {pages' : List Page} {words : List (List ℕ)} where
  pub starts : rounds ≤ 2000000 → places' ≡ [] → pages' ≡ [] → words ≡ rounds_line rounds → IsSoFar rounds places' pages' (words ∷ [])
  starts few no_places no_pages is = subst (λ v. IsSoFar rounds v pages' (words ∷ [])) (sym no_places) (subst (λ v. IsSoFar rounds [] v (words ∷ [])) (sym no_pages) (record {
    spelled = λ tail. ap (λ v. v ∷ tail) is;
    few = few;
    placed = All-nil HasPlaceLine;
    short = none_short;
  }))

  pub place_more : {places : List Place} {pages : List Page} {lines : List (List (List ℕ))} {x : Place} → IsSoFar rounds places pages lines → pages ≡ []
      → words ≡ place_line x → HasPlaceLine x → places' ≡ places ++ x ∷ [] → pages' ≡ pages → IsSoFar rounds places' pages' (lines ++ words ∷ [])
  place_more {places} {pages} {lines} {x} so_far none is fine places_are pages_are =
      let front_is = subst (λ v. IsSoFar rounds places v lines) none so_far in
      subst (λ v. IsSoFar rounds v pages' (lines ++ words ∷ [])) (sym places_are) (subst (λ v. IsSoFar rounds (places ++ x ∷ []) v (lines ++ words ∷ [])) (sym (pages_are ∙ none)) (record {
        spelled = λ tail.
            append_assoc lines (words ∷ []) tail ∙ front_is.spelled (words ∷ tail) ∙ ap (λ w. front rounds places [] (w ∷ tail)) is
            ∙ ap (λ v. rounds_line rounds ∷ v) (sym (ap (λ v. v ++ tail) (map-append place_line places (x ∷ [])) ∙ append_assoc (map place_line places) (place_line x ∷ []) tail));
        few = so_far.few;
        placed = All-push HasPlaceLine places x so_far.placed fine;
        short = front_is.short;
      }))

  pub short_more : {places : List Place} {pages short : List Page} {lines : List (List (List ℕ))} → IsSoFar rounds places pages lines → pages ≡ []
      → words ≡ short_line short → HaveShortLine short → short ≢ [] → places' ≡ places → pages' ≡ short → IsSoFar rounds places' pages' (lines ++ words ∷ [])
  short_more {places} {pages} {short} {lines} so_far none is fine some places_are pages_are =
      let front_is = subst (λ v. IsSoFar rounds places v lines) none so_far in
      subst (λ v. IsSoFar rounds v pages' (lines ++ words ∷ [])) (sym places_are) (subst (λ v. IsSoFar rounds places v (lines ++ words ∷ [])) (sym pages_are) (record {
        spelled = λ tail.
            append_assoc lines (words ∷ []) tail ∙ front_is.spelled (words ∷ tail) ∙ ap (λ w. front rounds places [] (w ∷ tail)) is
            ∙ ap (λ v. rounds_line rounds ∷ (map place_line places ++ (v ++ tail))) (sym (one_line short some));
        few = so_far.few;
        placed = so_far.placed;
        short = fine;
      }))

-- with the last line it is whole
pub ends : {rounds : ℕ} {places : List Place} {pages : List Page} {lines : List (List (List ℕ))} {words : List (List ℕ)} → IsSoFar rounds places pages lines → words ≡ end_line
    → IsCertificateText (lines ++ words ∷ []) rounds places pages
ends {rounds} {places} {pages} {lines} so_far is = record {
  spelled = ap (λ w. lines ++ w ∷ []) is ∙ so_far.spelled (end_line ∷ []) ∙ sym (whole_front rounds places pages);
  few = so_far.few;
  placed = so_far.placed;
  short = so_far.short;
}

-- What a certificate text has behind these places and pages: a place or pages while there are no pages, or its end.
pub record IsPlaceNext (pages : List Page) (tail : List (List (List ℕ))) : Type 0 where
  pub place : Place
  pub more : List (List (List ℕ))
  pub is : tail ≡ place_line place ∷ more
  pub fine : HasPlaceLine place
  pub none : pages ≡ []

pub record IsShortNext (pages : List Page) (tail : List (List (List ℕ))) : Type 0 where
  pub short : List Page
  pub more : List (List (List ℕ))
  pub is : tail ≡ short_line short ∷ more
  pub fine : HaveShortLine short
  pub some : short ≢ []
  pub none : pages ≡ []

pub next_line : (places places' : List Place) (pages pages' : List Page) (tail : List (List (List ℕ))) → All HasPlaceLine places' → HaveShortLine pages'
    → map place_line places ++ (short_lines pages ++ tail) ≡ map place_line places' ++ (short_lines pages' ++ end_line ∷ [])
    → IsPlaceNext pages tail ⊎ (IsShortNext pages tail ⊎ (tail ≡ end_line ∷ []))
next_line [] [] [] [] tail fine fine' is = inr (inr is)
next_line [] [] [] (page ∷ pages') tail fine fine' is =
    inr (inl (record { short = page ∷ pages'; more = end_line ∷ []; is = is; fine = fine'; some = some_left; none = refl }))
next_line [] [] (page ∷ pages) [] tail fine fine' is = absurd (other_word _ _ _ _ refl (first_same is))
next_line [] [] (page ∷ pages) (page' ∷ pages') tail fine fine' is = inr (inr (rest_same is))
next_line [] (x ∷ places') [] pages' tail fine fine' is =
    inl (record { place = x; more = map place_line places' ++ (short_lines pages' ++ end_line ∷ []); is = is; fine = All-head HasPlaceLine x places' fine; none = refl })
next_line [] (x ∷ places') (page ∷ pages) pages' tail fine fine' is = absurd (other_word _ _ _ _ refl (sym (first_same is)))
next_line (x ∷ places) [] pages [] tail fine fine' is = absurd (other_word _ _ _ _ refl (first_same is))
next_line (x ∷ places) [] pages (page ∷ pages') tail fine fine' is = absurd (other_word _ _ _ _ refl (first_same is))
next_line (x ∷ places) (x' ∷ places') pages pages' tail fine fine' is = next_line places places' pages pages' tail (All-tail HasPlaceLine x' places' fine) fine' (rest_same is)

-- Why a line may not come next.
pub record IsNoNext (pages : List Page) (words : List (List ℕ)) : Type 0 where
  pub no_place : (x : Place) → HasPlaceLine x → words ≡ place_line x → pages ≡ [] → ⊥
  pub no_short : (short : List Page) → HaveShortLine short → short ≢ [] → words ≡ short_line short → pages ≡ [] → ⊥
  pub no_end : words ≢ end_line

-- A line behind the pages, but the last.
pub place_no_next : {pages : List Page} {words : List (List ℕ)} (x : Place) → words ≡ place_line x → pages ≢ [] → IsNoNext pages words
place_no_next x is some = record {
  no_place = λ x' fine same. some;
  no_short = λ short fine any same. some;
  no_end = λ same. other_word _ _ _ _ refl (sym is ∙ same);
}

pub short_no_next : {pages : List Page} {words : List (List ℕ)} (short : List Page) → words ≡ short_line short → pages ≢ [] → IsNoNext pages words
short_no_next short is some = record {
  no_place = λ x fine same. some;
  no_short = λ short' fine any same. some;
  no_end = λ same. other_word _ _ _ _ refl (sym is ∙ same);
}

-- behind the lines of these places and pages comes what may come next
next_of : (rounds : ℕ) (places : List Place) (pages : List Page) (tail lines : List (List (List ℕ))) → lines ≡ front rounds places pages tail → IsSomeCertificate lines
    → IsPlaceNext pages tail ⊎ (IsShortNext pages tail ⊎ (tail ≡ end_line ∷ []))
next_of rounds places pages tail lines is (rounds', places', pages', text) =
    next_line places places' pages pages' tail text.placed text.short (rest_same (sym is ∙ text.spelled ∙ whole_front rounds' places' pages'))

module _ {rounds : ℕ} {places : List Place} {pages : List Page} {lines : List (List (List ℕ))} where
  -- some text begins with the lines so far
  pub begins : IsSoFar rounds places pages lines → Begins IsSomeCertificate lines
  begins so_far = (end_line ∷ [], (rounds, places, pages, ends so_far refl))

  pub whole_begins : IsCertificateText lines rounds places pages → Begins IsSomeCertificate lines
  whole_begins text = ([], (rounds, places, pages, subst (λ v. IsCertificateText v rounds places pages) (sym (append-nil lines)) text))

  -- The lines so far are no text, with a line that may not come next none begins, and nothing follows a text.
  pub not_whole : IsSoFar rounds places pages lines → ¬ (IsSomeCertificate lines)
  not_whole so_far text =
      elim (next_of rounds places pages [] lines (sym (append-nil lines) ∙ so_far.spelled []) text) [
        | inl next ↦ some_left (sym next.is)
        | inr (inl next) ↦ some_left (sym next.is)
        | inr (inr end) ↦ some_left (sym end)
      ]

  pub not_next : {words : List (List ℕ)} → IsSoFar rounds places pages lines → IsNoNext pages words → ¬ (Begins IsSomeCertificate (lines ++ words ∷ []))
  not_next {words} so_far bad (more, text) =
      elim (next_of rounds places pages (words ∷ more) ((lines ++ words ∷ []) ++ more) (append_assoc lines (words ∷ []) more ∙ so_far.spelled (words ∷ more)) text) [
        | inl next ↦ bad.no_place next.place next.fine (first_same next.is) next.none
        | inr (inl next) ↦ bad.no_short next.short next.fine next.some (first_same next.is) next.none
        | inr (inr end) ↦ bad.no_end (first_same end)
      ]

  pub not_behind : (words : List (List ℕ)) → IsCertificateText lines rounds places pages → ¬ (Begins IsSomeCertificate (lines ++ words ∷ []))
  not_behind words whole (more, text) =
      elim (next_of rounds places pages (end_line ∷ words ∷ more) ((lines ++ words ∷ []) ++ more)
      (append_assoc lines (words ∷ []) more ∙ ap (λ v. v ++ words ∷ more) whole.spelled ∙ text_front rounds places pages (words ∷ more)) text) [
        | inl next ↦ other_word _ _ _ _ refl (sym (first_same next.is))
        | inr (inl next) ↦ other_word _ _ _ _ refl (sym (first_same next.is))
        | inr (inr end) ↦ some_left (rest_same end)
      ]

-- A certificate text begins with its first line.
first_line : (lines : List (List (List ℕ))) → IsSomeCertificate lines → (rounds : ℕ) × (more : List (List (List ℕ))) × (lines ≡ rounds_line rounds ∷ more) × (rounds ≤ 2000000)
first_line lines (rounds, places, pages, text) = (rounds, map place_line places ++ (short_lines pages ++ end_line ∷ []), text.spelled ∙ whole_front rounds places pages, text.few)

pub none_begins : Begins IsSomeCertificate []
none_begins = (certificate_lines 0 [] [], (0, [], [], ends (starts {rounds = 0} (omega arith) refl refl refl) refl))

pub not_none : ¬ (IsSomeCertificate [])
not_none text = some_left (sym (first_line [] text).2)

pub not_first : {words : List (List ℕ)} → ((rounds : ℕ) → rounds ≤ 2000000 → words ≢ rounds_line rounds) → ¬ (Begins IsSomeCertificate (words ∷ []))
not_first {words} other (more, text) = let first = first_line (words ∷ more) text in other first.0 first.3 (first_same first.2)
