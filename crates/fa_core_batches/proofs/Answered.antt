-- The answers of a batch's pages as a finite map.
use Rattle.fa_core_batches.specs.Pages.{answers_of}
use Rattle.fa_machine.proofs.Lists.{any_some}
use Rattle.fa_machine.proofs.Maps.{get-insert_other, get-insert_same}
use Rattle.fa_machine.specs.Among.{Among}
use Rattle.fa_machine.specs.Maps.{is_one_of}
use Rattle.std.proofs.Common.{List, None, Option, Some, [], ap, cond, eq-eqb, false, inl, inr, map, refl, sym, true, ℕ, ◌∙◌, ◌∷◌, ◌≡◌}
use Rattle.std.proofs.lemmas.Bool.{cases_eq, ne_eqb}
use Rattle.std.specs.Cmp.{nat_cmp_total, unsigned_tied}
use Rattle.std.specs.FinMap.{find, get, get-from_entries, insert, nat_cmp-IsAntisymmetric, same_map}
use Rattle.std.specs.List.{cons_option, filter_map, list_any}
use Rattle.std.specs.Ordering.{nat_cmp}
use Rattle.std.specs.Prelude.{Bool, if◌then◌else◌, option_map, ◌==◌, ◌||◌}

-- what is found behind the answer of one page
module _ (q p : ℕ) (rest : List (ℕ × List ℕ)) where
  abbrev behind : Option (List ℕ) → Option (List ℕ)
  behind o = find nat_cmp q (cons_option (option_map (λ bytes. (p, bytes)) o) rest)

  passed_by : (q ≡ p → ⊥) → (o : Option (List ℕ)) → behind o ≡ find nat_cmp q rest
  passed_by apart None = refl
  passed_by apart (Some bytes) = ap (λ b. cond b (Some bytes) (find nat_cmp q rest)) (unsigned_tied q p ∙ ne_eqb q p apart)

  found_here : q ≡ p → (o : Option (List ℕ)) → (o ≡ None → find nat_cmp q rest ≡ None) → behind o ≡ o
  found_here same None none = none refl
  found_here same (Some bytes) none = ap (λ b. cond b (Some bytes) (find nat_cmp q rest)) (unsigned_tied q p ∙ eq-eqb q p same)

-- an answer, if the page is asked for
abbrev pub asked : Bool → Option (List ℕ) → Option (List ℕ)
asked b o = if b then o else None

pub asked_none : (b : Bool) → asked b None ≡ None
asked_none true = refl
asked_none false = refl

found : (answer : ℕ → Option (List ℕ)) (q : ℕ) (pages : List ℕ)
    → find nat_cmp q (filter_map (λ page. option_map (λ bytes. (page, bytes)) (answer page)) pages) ≡ asked (is_one_of pages q) (answer q)
found answer q [] = refl
found answer q (p ∷ ps) =
    elim (cases_eq p q) [
      | inl same ↦
          found_here q p _ (sym same) (answer p)
          (λ none. found answer q ps ∙ ap (asked (is_one_of ps q)) (ap answer (sym same) ∙ none) ∙ asked_none (is_one_of ps q))
          ∙ ap answer same ∙ sym (ap (λ b. asked (b || is_one_of ps q) (answer q)) (eq-eqb p q same))
      | inr apart ↦
          passed_by q p _ (λ e. apart (sym e)) (answer p) ∙ found answer q ps
          ∙ sym (ap (λ b. asked (b || is_one_of ps q) (answer q)) (ne_eqb p q apart))
    ]

pub get_answers : (answer : ℕ → Option (List ℕ)) (pages : List ℕ) (q : ℕ) → get (answers_of answer pages) q
    ≡ asked (is_one_of pages q) (answer q)
get_answers answer pages q =
    get-from_entries nat_cmp_total (filter_map (λ page. option_map (λ bytes. (page, bytes)) (answer page)) pages) q ∙ found answer q pages

module _ (old new : ℕ → Option (List ℕ)) (before after : List ℕ) where
  pub answers_same : ((q : ℕ) → asked (is_one_of after q) (new q) ≡ asked (is_one_of before q) (old q)) → answers_of new after
      ≡ answers_of old before
  answers_same same =
      same_map nat_cmp_total nat_cmp-IsAntisymmetric _ _ (λ q. get_answers new after q ∙ same q ∙ sym (get_answers old before q))

  pub answers_more : (k : ℕ) (bytes : List ℕ) → new k ≡ Some bytes → is_one_of after k ≡ true
      → ((q : ℕ) → (q ≡ k → ⊥) → asked (is_one_of after q) (new q) ≡ asked (is_one_of before q) (old q))
      → answers_of new after ≡ insert (answers_of old before) k bytes
  answers_more k bytes is there same =
      same_map nat_cmp_total nat_cmp-IsAntisymmetric _ _ (λ q. elim (cases_eq q k) [
        | inl at ↦
            ap (get (answers_of new after)) at ∙ get_answers new after k ∙ ap (λ b. asked b (new k)) there ∙ is
            ∙ sym (get-insert_same (answers_of old before) k bytes) ∙ ap (get (insert (answers_of old before) k bytes)) (sym at)
        | inr apart ↦
            get_answers new after q ∙ same q apart ∙ sym (get_answers old before q)
            ∙ sym (get-insert_other (answers_of old before) k bytes q apart)
      ])

-- the answers in the list's order
handed_among : (answer : ℕ → Option (List ℕ)) (pages xs : List ℕ) → ((x : ℕ) → Among x xs → is_one_of pages x ≡ true)
    → filter_map {Y = ℕ × List ℕ} (λ page. option_map (λ bytes. (page, bytes)) (answer page)) xs
    ≡ filter_map {Y = ℕ × List ℕ} (λ page. option_map (λ bytes. (page, bytes)) (get (answers_of answer pages) page)) xs
handed_among answer pages [] each = refl
handed_among answer pages (x ∷ xs) each = λ i.
    cons_option (option_map (λ bytes. (x, bytes))
    (sym (get_answers answer pages x ∙ ap (λ b. asked b (answer x)) (each x (inl refl))) i))
    (handed_among answer pages xs (λ y among. each y (inr among)) i)

pub handed : (answer : ℕ → Option (List ℕ)) (pages : List ℕ) → filter_map {Y = ℕ
    × List ℕ} (λ page. option_map (λ bytes. (page, bytes)) (answer page)) pages
    ≡ filter_map {Y = ℕ × List ℕ} (λ page. option_map (λ bytes. (page, bytes)) (get (answers_of answer pages) page)) pages
handed answer pages = handed_among answer pages pages (λ x among. any_some (λ y. y == x) pages x among (eq-eqb x x refl))

-- a test of the numbers of some pages
pub any_mapped : {X Y : Type 0} (p : X → Bool) (f : Y → X) (ys : List Y) → list_any p (map f ys) ≡ list_any (λ y. p (f y)) ys
any_mapped p f [] = refl
any_mapped p f (y ∷ ys) = ap (λ b. p (f y) || b) (any_mapped p f ys)
