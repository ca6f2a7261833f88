-- What a certificate says rests on the rounds of holders alone, from the current one on. So it holds of any two tests of closed
-- rounds that agree there.
use Rattle.fa_batch_terms.specs.Batch.{Entry, holds}
use Rattle.fa_batch_terms.specs.Certificate.{AreTheHolders, IsCertificate, ShowsNoFewer, holds_any, open_places}
use Rattle.fa_batch_terms.specs.Plan.{AreFirstRounds, AreHeld, AreOpen}
use Rattle.fa_batch_terms.specs.declared.place.Place.{Place}
use Rattle.fa_machine.proofs.Lists.{counted_none}
use Rattle.fa_machine.specs.Among.{Among}
use Rattle.fa_types.specs.Open.{open_among, rounds_that}
use Rattle.fa_types.specs.declared.numbers.Page.{Page}
use Rattle.std.proofs.Common.{Bool, List, [], ap, arith, eq-eqb, inl, inr, refl, subst, suc, sym, true, zero, ℕ, ◌+◌, ◌<◌, ◌≤◌, ◌∙◌, ◌∷◌}
use Rattle.std.proofs.Common.{◌≡◌}
use Rattle.std.proofs.lemmas.Bool.{cases_Bool, false≢true}
use Rattle.std.proofs.lemmas.List.Folds.{Any-from_list_any}
use Rattle.std.proofs.lemmas.List.Sums.{sum_by-cons}
use Rattle.std.specs.List.{count_by, slice_index_or, sum_by}
use Rattle.std.specs.Prelude.{if◌then◌else◌, not, length, ◌-◌, ◌==◌}

rounds_same : (f g : ℕ → Bool) (first n : ℕ) → ((round : ℕ) → first ≤ round → f round ≡ g round) → rounds_that f first n
    ≡ rounds_that g first n
rounds_same f g first zero same = refl
rounds_same f g first (suc n) same =
    λ i. (if same first (omega arith) i then 1 else 0) + rounds_same f g (suc first) n (λ round up. same round (omega (arith, up))) i

sum_same : (f g : ℕ → ℕ) (dies : List ℕ) → ((die : ℕ) → Among die dies → f die ≡ g die) → sum_by f dies ≡ sum_by g dies
sum_same f g [] same = refl
sum_same f g (d ∷ dies) same =
    sum_by-cons f d dies ∙ (λ i. same d (inl refl) i + sum_same f g dies (λ e a. same e (inr a)) i) ∙ sym (sum_by-cons g d dies)

-- a holder of any of some pages is one of them
among_held : (batch : List Entry) (pages : List Page) (dies : List ℕ) → AreTheHolders batch pages dies → (die : ℕ) → Among die dies
    → holds_any batch pages die ≡ true
among_held batch pages dies are die among =
    elim (cases_Bool (holds_any batch pages die)) [
      | inl some ↦ some
      | inr none ↦
          let zeros : count_by (λ d. d == die) dies ≡ 0 = are die ∙ ap (λ b. if b then 1 else 0) none in
          absurd (false≢true (sym (counted_none (λ d. d == die) dies zeros die among) ∙ eq-eqb die die refl))
    ]

module _ (batch : List Entry) (now : ℕ) (f g : ℕ → ℕ → Bool)
    (same : (page die round : ℕ) → holds batch page die ≡ true → now ≤ round → f die round ≡ g die round) where
  among_same : (page die n : ℕ) → holds batch page die ≡ true → open_among now f die n ≡ open_among now g die n
  among_same page die n held = rounds_same _ _ now n (λ round up. ap not (same page die round held up))

  places_same : (pages : List Page) (dies : List ℕ) (n : ℕ) → AreTheHolders batch pages dies → open_places now f dies n
      ≡ open_places now g dies n
  places_same pages dies n are =
      sum_same _ _ dies (λ die among.
      let found = Any-from_list_any (λ (p : Page). holds batch p.0 die) pages (among_held batch pages dies are die among) in
      among_same found.1.0 die n found.4)

  open_same : (places : List Place) → AreHeld batch places → AreOpen now f places → AreOpen now g places
  open_same places held opens k d low =
      let place = slice_index_or places k d in let one = opens k d low in
      (one.0, sym (same place.page.0 place.die.0 place.round.0 (held k d low) one.0) ∙ one.1)

  pub first_same : (places : List Place) → AreHeld batch places → AreFirstRounds now f places → AreFirstRounds now g places
  first_same places held first k d low =
      let place = slice_index_or places k d in
      sym (among_same place.page.0 place.die.0 (place.round.0 - now) (held k d low)) ∙ first k d low

  fewer_same : (rounds : ℕ) (pages : List Page) → ShowsNoFewer batch now f rounds pages → ShowsNoFewer batch now g rounds pages
  fewer_same zero pages none = none
  fewer_same (suc rounds) pages short = record {
    named = short.named;
    many = (short.many.0, short.many.1, subst (λ n. n < length pages) (places_same pages short.many.0 rounds short.many.1) short.many.2);
  }

  pub certificate_same : (rounds : ℕ) (places : List Place) (pages : List Page) → IsCertificate batch now f rounds places pages
      → IsCertificate batch now g rounds places pages
  certificate_same rounds places pages is = record {
    plan = record {
      each = is.plan.each;
      once = is.plan.once;
      held = is.plan.held;
      opens = open_same places is.plan.held is.plan.opens;
      apart = is.plan.apart;
    };
    length_is = is.length_is;
    least = fewer_same rounds pages is.least;
  }
