use Rattle.std.proofs.Common.{◌≡◌, ℕ, ◌≤◌, List, [], ◌∷◌, ◌++◌, map, All, refl, sym, ap, ◌∙◌, arith}
use Rattle.std.specs.Fmt.{decimal}
use Rattle.std.proofs.lemmas.Fmt.{decimal_injective}
use Rattle.std.proofs.lemmas.List.Elements.{All-head, All-tail}
use Rattle.fa_types.specs.declared.numbers.Die.{Die}
use Rattle.fa_types.specs.declared.numbers.Page.{Page}
use Rattle.fa_closed.specs.declared.closed.Run.{Run}
use Rattle.fa_batch_terms.specs.declared.place.Place.{Place}
use Rattle.fa_batch_terms.specs.Batch.{Entry}
use Rattle.fa_texts.specs.BatchText.{closed_line, end_line, page_line, HasClosedLine, HasPageLine}
use Rattle.fa_texts.specs.CertificateText.{HasPlaceLine, place_line, short_lines}
use Rattle.fa_texts.proofs.LinesRead.{other_word}
use Rattle.fa_batch_terms.proofs.Parts.{first_same, rest_same, some_left}
use Rattle.fa_texts.proofs.laws.text_says_one_thing.Goals as goal

-- a number is told by its digits
number_same : (n n' : ℕ) → n ≤ 2000000 → n' ≤ 2000000 → decimal n ≡ decimal n' → n ≡ n'
number_same n n' low low' is = decimal_injective n n' (omega arith) (omega arith) is

abbrev page_at : ℕ → Page
page_at n = record { 0 = n }

abbrev place_at : ℕ → ℕ → ℕ → Place
place_at page die round = record { page = page_at page; die = record { 0 = die }; round = record { 0 = round } }

place_same : (x x' : Place) → HasPlaceLine x → HasPlaceLine x' → place_line x ≡ place_line x' → x ≡ x'
place_same x x' has has' is =
    let page = number_same x.page.0 x'.page.0 (omega (arith, has.page)) (omega (arith, has'.page)) (first_same (rest_same is)) in
    let die = number_same x.die.0 x'.die.0 (omega (arith, has.die)) (omega (arith, has'.die)) (first_same (rest_same (rest_same is))) in
    let round = number_same x.round.0 x'.round.0 has.round has'.round (first_same (rest_same (rest_same (rest_same is)))) in
    ap (λ n. place_at n x.die.0 x.round.0) page ∙ ap (λ n. place_at x'.page.0 n x.round.0) die ∙ ap (λ n. place_at x'.page.0 x'.die.0 n) round

-- things are told by the words of their numbers
module _ {X : Type 0} (number : X → ℕ) (made : ℕ → X) (back : (x : X) → made (number x) ≡ x) (most : ℕ) (small : most ≤ 2000000) where
  things_same : (xs ys : List X) → All (λ x. number x ≤ most) xs → All (λ x. number x ≤ most) ys → map (λ x. decimal (number x)) xs ≡ map (λ x. decimal (number x)) ys → xs ≡ ys
  things_same [] [] low low' is = refl
  things_same [] (y ∷ ys) low low' is = absurd (some_left (sym is))
  things_same (x ∷ xs) [] low low' is = absurd (some_left is)
  things_same (x ∷ xs) (y ∷ ys) low low' is =
      let here = All-head (λ x. number x ≤ most) x xs low in
      let here' = All-head (λ x. number x ≤ most) y ys low' in
      let first = number_same (number x) (number y) (omega (arith, here, small)) (omega (arith, here', small)) (first_same is) in
      let rest = things_same xs ys (All-tail (λ x. number x ≤ most) x xs low) (All-tail (λ x. number x ≤ most) y ys low') (rest_same is) in
      ap (λ v. v ∷ xs) (sym (back x) ∙ ap made first ∙ back y) ∙ ap (λ v. y ∷ v) rest

-- the lines behind the first
lines_same : (places places' : List Place) (pages pages' : List Page) → All HasPlaceLine places → All HasPlaceLine places'
    → All (λ p. p.0 ≤ 1048575) pages → All (λ p. p.0 ≤ 1048575) pages'
    → map place_line places ++ short_lines pages ++ end_line ∷ [] ≡ map place_line places' ++ short_lines pages' ++ end_line ∷ []
    → (places ≡ places') × (pages ≡ pages')
lines_same (x ∷ places) (x' ∷ places') pages pages' has has' known known' is =
    let first = place_same x x' (All-head HasPlaceLine x places has) (All-head HasPlaceLine x' places' has') (first_same is) in
    let rest = lines_same places places' pages pages' (All-tail HasPlaceLine x places has) (All-tail HasPlaceLine x' places' has') known known' (rest_same is) in
    (cc, rest.1)
lines_same [] (x' ∷ places') [] pages' has has' known known' is = absurd (other_word _ _ _ _ refl (first_same is))
lines_same [] (x' ∷ places') (page ∷ pages) pages' has has' known known' is = absurd (other_word _ _ _ _ refl (first_same is))
lines_same (x ∷ places) [] pages [] has has' known known' is = absurd (other_word _ _ _ _ refl (first_same is))
lines_same (x ∷ places) [] pages (page' ∷ pages') has has' known known' is = absurd (other_word _ _ _ _ refl (first_same is))
lines_same [] [] [] [] has has' known known' is = (refl, refl)
lines_same [] [] [] (page' ∷ pages') has has' known known' is = absurd (other_word _ _ _ _ refl (first_same is))
lines_same [] [] (page ∷ pages) [] has has' known known' is = absurd (other_word _ _ _ _ refl (first_same is))
lines_same [] [] (page ∷ pages) (page' ∷ pages') has has' known known' is =
    (refl, things_same (λ p. p.0) page_at (λ p. refl) 1048575 (omega arith) (page ∷ pages) (page' ∷ pages') known known' (rest_same (first_same is)))

pub returns-clause-certificate : goal.returns-clause-certificate
returns-clause-certificate c = λ lines rounds rounds' places places' pages pages' text text'.
    let same = sym text.spelled ∙ text'.spelled in
    let rest = lines_same places places' pages pages' text.placed text'.placed text.short.known text'.short.known (rest_same same) in
    (number_same rounds rounds' text.few text'.few (first_same (rest_same (first_same same))), rest.0, rest.1)

-- The entry of a page, and a run.
abbrev entry_at : Page → List Die → Entry
entry_at page holders = record { page = page; holders = holders }

abbrev run_at : ℕ → ℕ → ℕ → Run
run_at die first last = record { die = record { 0 = die }; first = record { 0 = first }; last = record { 0 = last } }

entry_same : (e e' : Entry) → HasPageLine e → HasPageLine e' → page_line e ≡ page_line e' → e ≡ e'
entry_same e e' has has' is =
    let page = number_same e.page.0 e'.page.0 (omega (arith, has.page)) (omega (arith, has'.page)) (first_same (rest_same is)) in
    let dies = things_same (λ d. d.0) (λ n. record { 0 = n }) (λ d. refl) 63 (omega arith) e.holders e'.holders has.dies has'.dies (rest_same (rest_same (rest_same is))) in
    ap (λ n. entry_at (page_at n) e.holders) page ∙ ap (λ v. entry_at e'.page v) dies

run_same : (run run' : Run) → HasClosedLine run → HasClosedLine run' → closed_line run ≡ closed_line run' → run ≡ run'
run_same run run' has has' is =
    let die = number_same run.die.0 run'.die.0 (omega (arith, has.die)) (omega (arith, has'.die)) (first_same (rest_same is)) in
    let first = number_same run.first.0 run'.first.0 (omega (arith, has.forward, has.ends)) (omega (arith, has'.forward, has'.ends)) (first_same (rest_same (rest_same is))) in
    let last = number_same run.last.0 run'.last.0 (omega (arith, has.ends)) (omega (arith, has'.ends)) (first_same (rest_same (rest_same (rest_same is)))) in
    ap (λ n. run_at n run.first.0 run.last.0) die ∙ ap (λ n. run_at run'.die.0 n run.last.0) first ∙ ap (λ n. run_at run'.die.0 run'.first.0 n) last

runs_same : (runs runs' : List Run) → All HasClosedLine runs → All HasClosedLine runs' → map closed_line runs ++ end_line ∷ [] ≡ map closed_line runs' ++ end_line ∷ [] → runs ≡ runs'
runs_same [] [] has has' is = refl
runs_same [] (run' ∷ runs') has has' is = absurd (other_word _ _ _ _ refl (first_same is))
runs_same (run ∷ runs) [] has has' is = absurd (other_word _ _ _ _ refl (first_same is))
runs_same (run ∷ runs) (run' ∷ runs') has has' is =
    let first = run_same run run' (All-head HasClosedLine run runs has) (All-head HasClosedLine run' runs' has') (first_same is) in
    let rest = runs_same runs runs' (All-tail HasClosedLine run runs has) (All-tail HasClosedLine run' runs' has') (rest_same is) in
    ap (λ v. v ∷ runs) first ∙ ap (λ v. run' ∷ v) rest

batch_same : (entries entries' : List Entry) (runs runs' : List Run) → All HasPageLine entries → All HasPageLine entries' → All HasClosedLine runs → All HasClosedLine runs'
    → map page_line entries ++ map closed_line runs ++ end_line ∷ [] ≡ map page_line entries' ++ map closed_line runs' ++ end_line ∷ []
    → (entries ≡ entries') × (runs ≡ runs')
batch_same [] [] runs runs' has has' closed closed' is = (refl, runs_same runs runs' closed closed' is)
batch_same [] (e' ∷ entries') [] runs' has has' closed closed' is = absurd (other_word _ _ _ _ refl (first_same is))
batch_same [] (e' ∷ entries') (run ∷ runs) runs' has has' closed closed' is = absurd (other_word _ _ _ _ refl (first_same is))
batch_same (e ∷ entries) [] runs [] has has' closed closed' is = absurd (other_word _ _ _ _ refl (first_same is))
batch_same (e ∷ entries) [] runs (run' ∷ runs') has has' closed closed' is = absurd (other_word _ _ _ _ refl (first_same is))
batch_same (e ∷ entries) (e' ∷ entries') runs runs' has has' closed closed' is =
    let first = entry_same e e' (All-head HasPageLine e entries has) (All-head HasPageLine e' entries' has') (first_same is) in
    let rest = batch_same entries entries' runs runs' (All-tail HasPageLine e entries has) (All-tail HasPageLine e' entries' has') closed closed' (rest_same is) in
    (ap (λ v. v ∷ entries) first ∙ ap (λ v. e' ∷ v) rest.0, rest.1)

pub returns-clause-batch : goal.returns-clause-batch
returns-clause-batch c = λ lines entries entries' runs runs' text text'.
    batch_same entries entries' runs runs' text.pages text'.pages text.closed text'.closed (rest_same (sym text.spelled ∙ text'.spelled))
