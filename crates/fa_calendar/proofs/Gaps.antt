-- Runs of open rounds.
use Rattle.std.proofs.Common.{◌≡◌, ℕ, zero, suc, ◌+◌, ◌-◌, ◌<◌, ◌≤◌, inl, inr, ◌⊎◌, List, length, take, get_or, Bool, true, false, not, refl, sym, ap, ◌∙◌, arith}
use Rattle.std.proofs.lemmas.Bool.{and_from, and_left, and_right, cases_lt}
use Rattle.std.proofs.lemmas.Bool.{lt-leb}
use Rattle.std.proofs.lemmas.List.Sums.{sum_by_more, sum_by-take-le}
use Rattle.fa_types.specs.Open.{max_closed}
use Rattle.fa_closed.specs.declared.spans.Span.{Span}
use Rattle.fa_closed.specs.Runs.{is_covered, IsIndexFrom}
use Rattle.fa_calendar.specs.Merging.{total_rounds, AreMerged}
use Rattle.fa_closed.proofs.Covered.{covered_from, covered_past, rising_pair, rising_at}
use Rattle.fa_calendar.proofs.Merged.{length_fits, merged_rising}
use Rattle.fa_types.specs.Windows.{are_open}

not_false : (b : Bool) → b ≡ false → not b ≡ true
not_false b h = ap not h

not_true : (b : Bool) → b ≡ true → not b ≡ false
not_true b h = ap not h

pub open_run : (closed : ℕ → Bool) (count first : ℕ) → ((k : ℕ) → k < count → closed (first + k) ≡ false) → are_open closed count first ≡ true
open_run closed zero first each = refl
open_run closed (suc count) first each =
    let at : first + 0 ≡ first = omega arith in
    and_from (not (closed first)) (are_open closed count (first + 1)) (not_false (closed first) (ap closed (sym at) ∙ each 0 (omega arith)))
    (open_run closed count (first + 1) (λ k below. let on : first + 1 + k ≡ first + suc k = omega arith in ap closed on ∙ each (suc k) (omega arith)))

pub closed_run : (closed : ℕ → Bool) (count first k : ℕ) → k < count → closed (first + k) ≡ true → are_open closed count first ≡ false
closed_run closed zero first k below met = absurd (omega arith)
closed_run closed (suc count) first zero below met =
    let at : first + 0 ≡ first = omega arith in
    and_left (not (closed first)) (are_open closed count (first + 1)) (not_true (closed first) (ap closed (sym at) ∙ met))
closed_run closed (suc count) first (suc k) below met =
    let on : first + 1 + k ≡ first + suc k = omega arith in
    and_right (not (closed first)) (are_open closed count (first + 1)) (closed_run closed count (first + 1) k (omega arith) (ap closed on ∙ met))

-- a round between the spans before an index and those from it on
pub open_between : (xs : List Span) (i r : ℕ) → AreMerged xs → i ≤ length xs → ((k : ℕ) (d : Span) → k < i → (get_or xs k d).last < r) → ((d : Span) → i < length xs → r < (get_or xs i d).first) → is_covered xs r ≡ false
open_between xs i r merged within before after =
    let rising = merged_rising xs merged in
    let at : IsIndexFrom xs r i = record {
      within = within;
      before = before;
      after = λ j d low below.
          let proper = rising_at xs j d rising below in
          let here = after d (omega (arith, low, below)) in
          elim (cases_lt i j) [
            | inl on ↦ (let apart = rising_pair xs i j d rising on below in let proper_i = rising_at xs i d rising (omega (arith, on, below)) in omega (arith, apart, proper, here, proper_i))
            | inr same ↦ (let e : j ≡ i = omega (arith, low, same) in let f = ap (λ k. (get_or xs k d).first) e in omega (arith, proper, here, f))
          ];
    } in
    elim (cases_lt i (length xs)) [
      | inl some ↦ (let d : Span = record { first = 0; last = 0 } in covered_from xs r i d rising at some ∙ lt-leb (get_or xs i d).first r (after d some))
      | inr none ↦ covered_past xs r i rising at none
    ]

-- the bound on where the next run is looked for, one span on
pub gap_near : (xs : List Span) (i : ℕ) (s : Span) → i < length xs → s ≡ get_or xs i s → total_rounds (take (i + 1) xs) ≡ total_rounds (take i xs) + (s.last + 1 - s.first)
gap_near xs i s within at =
    let more = sum_by_more (λ (t : Span). t.last + 1 - t.first) xs i s within in
    let here = ap (λ (t : Span). t.last + 1 - t.first) at in
    omega (arith, more, here)

pub gap_few : (xs : List Span) (i : ℕ) → AreMerged xs → total_rounds xs ≤ max_closed → i ≤ length xs → (total_rounds (take i xs) ≤ 1048576) × (i ≤ 1048576)
gap_few xs i merged few within =
    let part = sum_by-take-le (λ (t : Span). t.last + 1 - t.first) xs i in
    let long = length_fits xs merged in
    (omega (arith, part, few), omega (arith, long, few, within))

-- each round of an open run
pub open_at : (closed : ℕ → Bool) (count first k : ℕ) → are_open closed count first ≡ true → k < count → closed (first + k) ≡ false
open_at closed count first k all below =
    elim (cases_bool (closed (first + k))) [
      | inl met ↦ (let lacks = closed_run closed count first k below met in let none : ⊥ = cc in absurd none)
      | inr free ↦ free
    ]
  where
    cases_bool : (b : Bool) → (b ≡ true) ⊎ (b ≡ false)
    cases_bool true = inl refl
    cases_bool false = inr refl

pub open_in : (closed : ℕ → Bool) (count first round : ℕ) → are_open closed count first ≡ true → first ≤ round → round < first + count → closed round ≡ false
open_in closed count first round all low high =
    let at : first + (round - first) ≡ round = omega (arith, low) in
    sym (ap closed at) ∙ open_at closed count first (round - first) all (omega (arith, low, high))
