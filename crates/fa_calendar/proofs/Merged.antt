-- Spans that are edited, and stay merged.
use Rattle.std.proofs.Common.{◌≡◌, ℕ, zero, suc, ◌+◌, ◌-◌, ◌<◌, ◌≤◌, inl, inr, Bool, true, false, cond, not, ◌&&◌, ◌||◌, nat_eq, nat_le, max, List, [], ◌∷◌, ◌++◌, length, take, drop, set, get_or, refl, sym, ap, ◌∙◌, subst, arith, drop-cons, Result, Ok, Err}
use Rattle.std.specs.Prelude.{OnErr}
use Rattle.std.specs.List.{insert, remove, AllByRecursion}
use Rattle.std.proofs.lemmas.Bool.{cases_lt, and_from, or_from, or_left, or_right, le-leb, leb-true, eqb-true}
use Rattle.std.proofs.lemmas.List.{append_assoc, set_split, set_at, take_more, take_more_set, drop-set-lt, take-append-drop, drop_all, length-take-le}
use Rattle.std.proofs.lemmas.List.Folds.{list_any-append}
use Rattle.std.proofs.lemmas.List.Sums.{sum_by-cons}
use Rattle.std.proofs.Math.Bool.{or-false, or_assoc}
use Rattle.fa_closed.specs.declared.spans.Span.{Span}
use Rattle.fa_closed.specs.Runs.{is_covered, is_from, AreRising, IsIndexFrom}
use Rattle.fa_calendar.specs.Merging.{total_rounds, AddsRun, AreMerged, DropsRound, PassesRound}
use Rattle.fa_batch_terms.proofs.Counting.{AllByRecursion-weaker}
use Rattle.fa_closed.proofs.Covered.{before, behind, covered_from, covered_past, outside}
use Rattle.fa_calendar.proofs.Pieces.{split_inside, split_first, split_last, split_only, join_before, join_behind, join_both}

pub merged_rising : (spans : List Span) → AreMerged spans → AreRising spans
merged_rising [] merged = tt
merged_rising (s ∷ spans) merged = (merged.0, AllByRecursion-weaker (λ t. s.last + 1 < t.first) (λ t. s.last < t.first) (λ t h. omega (arith, h)) spans merged.1, merged_rising spans merged.2)

total-append : (front back : List Span) → total_rounds (front ++ back) ≡ total_rounds front + total_rounds back
total-append [] back = omega arith
total-append (s ∷ front) back =
    let rest = total-append front back in
    let whole = sum_by-cons (λ (t : Span). t.last + 1 - t.first) s (front ++ back) in
    let part = sum_by-cons (λ (t : Span). t.last + 1 - t.first) s front in
    omega (arith, rest, whole, part)

covered-append : (front back : List Span) (r : ℕ) → is_covered (front ++ back) r ≡ (is_covered front r || is_covered back r)
covered-append front back r = list_any-append (λ (s : Span). is_from s.first s.last r) front back

merged_back : (front back : List Span) → AreMerged (front ++ back) → AreMerged back
merged_back [] back merged = merged
merged_back (s ∷ front) back merged = merged_back front back merged.2

all_back : (P : Span → Type 0) (front back : List Span) → AllByRecursion P (front ++ back) → AllByRecursion P back
all_back P [] back all = all
all_back P (s ∷ front) back all = all_back P front back all.1

front_below : (front : List Span) (s : Span) (back : List Span) → AreMerged (front ++ s ∷ back) → AllByRecursion (λ t. t.last + 1 < s.first) front
front_below [] s back merged = tt
front_below (t ∷ front) s back merged = ((all_back (λ u. t.last + 1 < u.first) front (s ∷ back) merged.1).0, front_below front s back merged.2)

all_swap : (P : Span → Type 0) (front back other : List Span) → AllByRecursion P (front ++ back) → AllByRecursion P other → AllByRecursion P (front ++ other)
all_swap P [] back other all more = more
all_swap P (s ∷ front) back other all more = (all.0, all_swap P front back other all.1 more)

-- other spans behind those that stay
merged_swap : (low : ℕ) (front back other : List Span) → AreMerged (front ++ back) → AreMerged other → AllByRecursion (λ s. s.last + 1 < low) front → AllByRecursion (λ t. low ≤ t.first) other → AreMerged (front ++ other)
merged_swap low [] back other merged new below above = new
merged_swap low (s ∷ front) back other merged new below above =
    let end = below.0 in
    (merged.0, all_swap (λ t. s.last + 1 < t.first) front back other merged.1 (AllByRecursion-weaker (λ (t : Span). low ≤ t.first) (λ t. s.last + 1 < t.first) (λ t h. omega (arith, h, end)) other above), merged_swap low front back other merged.2 new below.1 above)

not_covered_before : (low : ℕ) (front : List Span) (r : ℕ) → AllByRecursion (λ s. s.last + 1 < low) front → low ≤ r + 1 → is_covered front r ≡ false
not_covered_before low [] r below at = refl
not_covered_before low (s ∷ front) r below at =
    let end = below.0 in
    or_from (is_from s.first s.last r) (is_covered front r) (outside s.first s.last r (omega (arith, end, at))) (not_covered_before low front r below.1 at)

-- what is done behind some spans is done to all
pub adds_behind : (low : ℕ) (front back other : List Span) (first last : ℕ) → AreMerged (front ++ back) → AllByRecursion (λ s. s.last + 1 < low) front → AllByRecursion (λ t. low ≤ t.first) other → AddsRun back first last other → AddsRun (front ++ back) first last (front ++ other)
adds_behind low front back other first last merged below above adds =
    let old = total-append front back in
    let new = total-append front other in
    let total = adds.total in
    record {
      merged = merged_swap low front back other merged adds.merged below above;
      covered = λ r. covered-append front other r ∙ ap (λ b. is_covered front r || b) (adds.covered r) ∙ sym (or_assoc (is_covered front r) (is_covered back r) (is_from first last r))
          ∙ ap (λ b. b || is_from first last r) (sym (covered-append front back r));
      total = omega (arith, old, new, total);
    }

or_but : (a b e : Bool) → (a ≡ true → e ≡ true → ⊥) → (a || (b && not e)) ≡ ((a || b) && not e)
or_but true b true h = absurd (h refl refl)
or_but true b false h = refl
or_but false b e h = refl

pub drops_behind : (low : ℕ) (front back other : List Span) (round : ℕ) → low ≤ round + 1 → AreMerged (front ++ back) → AllByRecursion (λ s. s.last + 1 < low) front → AllByRecursion (λ t. low ≤ t.first) other → DropsRound back round other → DropsRound (front ++ back) round (front ++ other)
drops_behind low front back other round at merged below above drops =
    let old = total-append front back in
    let new = total-append front other in
    let total = drops.total in
    record {
      merged = merged_swap low front back other merged drops.merged below above;
      covered = λ r. covered-append front other r ∙ ap (λ b. is_covered front r || b) (drops.covered r)
          ∙ or_but (is_covered front r) (is_covered back r) (nat_eq r round)
          (λ yes same. let here : r ≡ round = eqb-true r round same in let none = not_covered_before low front round below at in let no : ⊥ = cc (ap (λ k. is_covered front k) here) in no)
          ∙ ap (λ b. b && not (nat_eq r round)) (sym (covered-append front back r));
      total = omega (arith, old, new, total);
    }

but_or : (a b e : Bool) → (b ≡ true → e ≡ true → ⊥) → ((a && not e) || b) ≡ ((a || b) && not e)
but_or true true true h = absurd (h refl refl)
but_or true b false h = refl
but_or true false true h = refl
but_or false true true h = absurd (h refl refl)
but_or false true false h = refl
but_or false false e h = refl

or_swap : (a b e : Bool) → ((a || e) || b) ≡ ((a || b) || e)
or_swap true b e = refl
or_swap false true true = refl
or_swap false true false = refl
or_swap false false e = or-false e

-- a span is replaced by pieces that lack a round of it
drops_head : (s : Span) (rest pieces : List Span) (round : ℕ) → AreMerged (s ∷ rest) → round ≤ s.last → AreMerged (pieces ++ rest)
    → ((r : ℕ) → is_covered pieces r ≡ (is_from s.first s.last r && not (nat_eq r round))) → total_rounds pieces + 1 ≡ s.last + 1 - s.first → DropsRound (s ∷ rest) round (pieces ++ rest)
drops_head s rest pieces round merged within new same total =
    let new_total = total-append pieces rest in
    let old_total = sum_by-cons (λ (t : Span). t.last + 1 - t.first) s rest in
    record {
      merged = new;
      covered = λ r. covered-append pieces rest r ∙ ap (λ b. b || is_covered rest r) (same r)
          ∙ but_or (is_from s.first s.last r) (is_covered rest r) (nat_eq r round)
          (λ yes here. let none = behind s.last r (let at = eqb-true r round here in omega (arith, at, within)) rest (AllByRecursion-weaker (λ t. s.last + 1 < t.first) (λ t. s.last < t.first) (λ t h. omega (arith, h)) rest merged.1) in let no : ⊥ = cc in no);
      total = omega (arith, new_total, old_total, total);
    }

-- spans are replaced by pieces that have a run besides
adds_head : (old rest pieces : List Span) (first last : ℕ) → AreMerged (pieces ++ rest)
    → ((r : ℕ) → is_covered pieces r ≡ (is_covered old r || is_from first last r)) → total_rounds pieces ≡ total_rounds old + (last + 1 - first) → AddsRun (old ++ rest) first last (pieces ++ rest)
adds_head old rest pieces first last new same total =
    let new_total = total-append pieces rest in
    let old_total = total-append old rest in
    record {
      merged = new;
      covered = λ r. covered-append pieces rest r ∙ ap (λ b. b || is_covered rest r) (same r) ∙ or_swap (is_covered old r) (is_covered rest r) (is_from first last r)
          ∙ ap (λ b. b || is_from first last r) (sym (covered-append old rest r));
      total = omega (arith, new_total, old_total, total);
    }

total_one : (s : Span) → total_rounds (s ∷ []) ≡ s.last + 1 - s.first
total_one s = let sum = sum_by-cons (λ (t : Span). t.last + 1 - t.first) s [] in omega (arith, sum)

total_two : (s t : Span) → total_rounds (s ∷ t ∷ []) ≡ (s.last + 1 - s.first) + (t.last + 1 - t.first)
total_two s t = let sum = sum_by-cons (λ (t : Span). t.last + 1 - t.first) s (t ∷ []) in let one = total_one t in omega (arith, sum, one)

pub take_all_by : (P : Span → Type 0) (xs : List Span) (i : ℕ) → i ≤ length xs → ((k : ℕ) (d : Span) → k < i → P (get_or xs k d)) → AllByRecursion P (take i xs)
take_all_by P xs zero within each = tt
take_all_by P [] (suc i) within each = absurd (omega arith)
take_all_by P (x ∷ xs) (suc i) within each = (each 0 x (omega arith), take_all_by P xs i (omega arith) (λ k d below. each (suc k) d (omega arith)))

-- The span at an index of some.
module _ (xs : List Span) (i : ℕ) (s : Span) (merged : AreMerged xs) (within : i < length xs) (at : s ≡ get_or xs i s) where
  pub whole : xs ≡ take i xs ++ s ∷ drop (suc i) xs
  whole = sym (take-append-drop i xs) ∙ ap (λ v. take i xs ++ v) (drop-cons xs i s within ∙ ap (λ t. t ∷ drop (suc i) xs) (sym at))

  pub merged_whole : AreMerged (take i xs ++ s ∷ drop (suc i) xs)
  merged_whole = subst AreMerged whole merged

  pub merged_here : AreMerged (s ∷ drop (suc i) xs)
  merged_here = merged_back (take i xs) (s ∷ drop (suc i) xs) merged_whole

  pub below_here : AllByRecursion (λ t. t.last + 1 < s.first) (take i xs)
  below_here = front_below (take i xs) s (drop (suc i) xs) merged_whole

  pub covered_here : (r : ℕ) → s.first ≤ r → r ≤ s.last → is_covered xs r ≡ true
  covered_here r low high =
      ap (λ v. is_covered v r) whole ∙ covered-append (take i xs) (s ∷ drop (suc i) xs) r
      ∙ or_right (is_covered (take i xs) r) (is_covered (s ∷ drop (suc i) xs) r)
      (or_left (is_from s.first s.last r) (is_covered (drop (suc i) xs) r) (and_from (nat_le s.first r) (nat_le r s.last) (le-leb s.first r low) (le-leb r s.last high)))

  -- pieces of the span in its place
  drops_at : (round : ℕ) (pieces : List Span) → s.first ≤ round → DropsRound (s ∷ drop (suc i) xs) round (pieces ++ drop (suc i) xs) → AllByRecursion (λ t. s.first ≤ t.first) (pieces ++ drop (suc i) xs)
      → DropsRound xs round (take i xs ++ (pieces ++ drop (suc i) xs))
  drops_at round pieces low drops above =
      subst (λ v. DropsRound v round (take i xs ++ (pieces ++ drop (suc i) xs))) (sym whole)
      (drops_behind s.first (take i xs) (s ∷ drop (suc i) xs) (pieces ++ drop (suc i) xs) round (omega arith) merged_whole below_here above drops)

  later : AllByRecursion (λ t. s.first ≤ t.first) (drop (suc i) xs)
  later = let proper = merged_here.0 in AllByRecursion-weaker (λ t. s.last + 1 < t.first) (λ t. s.first ≤ t.first) (λ t h. omega (arith, h, proper)) (drop (suc i) xs) merged_here.1

  pub drops_only : (round : ℕ) → s.first ≡ round → s.last ≡ round → DropsRound xs round (take i xs ++ drop (suc i) xs)
  drops_only round low high =
      let one = ap (λ k. is_from k s.last) low in
      drops_at round [] (omega arith)
      (drops_head s (drop (suc i) xs) [] round merged_here (omega arith) merged_here.2
      (λ r. split_only round r ∙ sym (ap (λ k. is_from k s.last r && not (nat_eq r round)) low ∙ ap (λ k. is_from round k r && not (nat_eq r round)) high)) (omega arith)) later

  pub drops_first : (round : ℕ) → s.first ≡ round → round < s.last → DropsRound xs round (set xs i (record { first = round + 1; last = s.last }))
  drops_first round low high =
      let y : Span = record { first = round + 1; last = s.last } in
      let one = total_one y in
      subst (λ v. DropsRound xs round v) (sym (set_split xs i y within))
      (drops_at round (y ∷ []) (omega arith)
      (drops_head s (drop (suc i) xs) (y ∷ []) round merged_here (omega arith) (omega arith, merged_here.1, merged_here.2)
      (λ r. split_first round s.last r high ∙ sym (ap (λ k. is_from k s.last r && not (nat_eq r round)) low)) (omega (arith, one))) (omega arith, later))

  pub drops_last : (round : ℕ) → s.first < round → s.last ≡ round → DropsRound xs round (set xs i (record { first = s.first; last = round - 1 }))
  drops_last round low high =
      let y : Span = record { first = s.first; last = round - 1 } in
      let one = total_one y in
      subst (λ v. DropsRound xs round v) (sym (set_split xs i y within))
      (drops_at round (y ∷ []) (omega arith)
      (drops_head s (drop (suc i) xs) (y ∷ []) round merged_here (omega arith)
      (omega arith, AllByRecursion-weaker (λ t. s.last + 1 < t.first) (λ t. y.last + 1 < t.first) (λ t h. omega (arith, h)) (drop (suc i) xs) merged_here.1, merged_here.2)
      (λ r. split_last s.first round r low ∙ sym (ap (λ k. is_from s.first k r && not (nat_eq r round)) high)) (omega (arith, one))) (omega arith, later))

  pub drops_inside : (round : ℕ) → s.first < round → round < s.last → DropsRound xs round (take i xs ++ record { first = s.first; last = round - 1 } ∷ record { first = round + 1; last = s.last } ∷ drop (suc i) xs)
  drops_inside round low high =
      let y : Span = record { first = s.first; last = round - 1 } in
      let z : Span = record { first = round + 1; last = s.last } in
      let two = total_two y z in
      drops_at round (y ∷ z ∷ []) (omega arith)
      (drops_head s (drop (suc i) xs) (y ∷ z ∷ []) round merged_here (omega arith)
      (omega arith, (omega arith, AllByRecursion-weaker (λ t. s.last + 1 < t.first) (λ t. y.last + 1 < t.first) (λ t h. omega (arith, h)) (drop (suc i) xs) merged_here.1), (omega arith, merged_here.1, merged_here.2))
      (λ r. split_inside s.first round s.last r low high) (omega (arith, two))) (omega arith, (omega arith, later))

-- Rounds that are added at the index of the first span that does not end before them.
module _ (xs : List Span) (i first last : ℕ) (merged : AreMerged xs) (proper : first ≤ last) (free : (r : ℕ) → first ≤ r → r ≤ last → is_covered xs r ≡ false) (at : IsIndexFrom xs (first - 1) i) where
  abbrev run : Span
  run = record { first = first; last = last }

  -- the spans before it end two rounds before the first one
  ended : AllByRecursion (λ t. t.last + 1 < first) (take i xs)
  ended = take_all_by (λ t. t.last + 1 < first) xs i at.within (λ k d below. let end = at.before k d below in omega (arith, end))

  -- a span that does not begin behind the last round would have one of the rounds
  clear_of : (k : ℕ) (s : Span) → k < length xs → s ≡ get_or xs k s → first ≤ s.last → last < s.first
  clear_of k s within here late =
      elim (cases_lt last s.first) [
        | inl behind_it ↦ behind_it
        | inr met ↦
            (let proper_s = (merged_here xs k s merged within here).0 in
            let yes = covered_here xs k s merged within here (max first s.first) (omega arith) (omega (arith, proper_s)) in
            let no = free (max first s.first) (omega arith) (omega (arith, met)) in
            let none : ⊥ = cc in absurd none)
      ]

  pub adds_new : AllByRecursion (λ t. last + 1 < t.first) (drop i xs) → AddsRun xs first last (take i xs ++ record { first = first; last = last } ∷ drop i xs)
  adds_new above =
      let back = merged_back (take i xs) (drop i xs) (subst AreMerged (sym (take-append-drop i xs)) merged) in
      let one = total_one run in
      subst (λ v. AddsRun v first last (take i xs ++ run ∷ drop i xs)) (take-append-drop i xs)
      (adds_behind first (take i xs) (drop i xs) (run ∷ drop i xs) first last (subst AreMerged (sym (take-append-drop i xs)) merged) ended
      (omega arith, AllByRecursion-weaker (λ t. last + 1 < t.first) (λ t. first ≤ t.first) (λ t h. omega (arith, h)) (drop i xs) above)
      (adds_head [] (drop i xs) (run ∷ []) first last (proper, above, back) (λ r. or-false (is_from first last r)) (omega (arith, one))))

  pub adds_past : length xs ≤ i → AddsRun xs first last (take i xs ++ record { first = first; last = last } ∷ drop i xs)
  adds_past past = adds_new (subst (λ v. AllByRecursion (λ t. last + 1 < t.first) v) (sym (drop_all i xs past)) tt)

  module _ (s : Span) (within : i < length xs) (here : s ≡ get_or xs i s) where
    end_near : first ≤ s.last + 1
    end_near = let h = at.after i s (omega arith) within in let e = ap (λ (t : Span). t.last) here in omega (arith, h, e)

    pub adds_apart : last + 1 < s.first → AddsRun xs first last (take i xs ++ record { first = first; last = last } ∷ drop i xs)
    adds_apart far =
        let back = merged_here xs i s merged within here in
        adds_new (subst (λ v. AllByRecursion (λ t. last + 1 < t.first) v) (sym (drop-cons xs i s within ∙ ap (λ t. t ∷ drop (suc i) xs) (sym here)))
        (far, AllByRecursion-weaker (λ t. s.last + 1 < t.first) (λ t. last + 1 < t.first) (λ t h. omega (arith, h, far, back.0)) (drop (suc i) xs) back.1))

    -- the rounds come right before the span
    pub adds_before : first ≤ s.last → s.first - last ≤ 1 → AddsRun xs first last (set xs i (record { first = first; last = s.last }))
    adds_before late near =
        let back = merged_here xs i s merged within here in
        let clear = clear_of i s within here late in
        let y : Span = record { first = first; last = s.last } in
        let one = total_one y in
        let old = total_one s in
        let touch : s.first ≡ last + 1 = omega arith in
        subst (λ v. AddsRun xs first last v) (sym (set_split xs i y within))
        (subst (λ v. AddsRun v first last (take i xs ++ y ∷ drop (suc i) xs)) (sym (whole xs i s merged within here))
        (adds_behind first (take i xs) (s ∷ drop (suc i) xs) (y ∷ drop (suc i) xs) first last (merged_whole xs i s merged within here) ended
        (omega arith, AllByRecursion-weaker (λ t. s.last + 1 < t.first) (λ t. first ≤ t.first) (λ t h. omega (arith, h, late)) (drop (suc i) xs) back.1)
        (adds_head (s ∷ []) (drop (suc i) xs) (y ∷ []) first last (late, back.1, back.2) (λ r. join_before first last s.first s.last r proper touch back.0) (omega (arith, one, old, touch, back.0)))))

    -- the rounds come right behind the span
    module _ (early : s.last < first) where
      meets : s.last + 1 ≡ first
      meets = let h = end_near in omega (arith, h)

      adds_behind_s : (next : AllByRecursion (λ t. last + 1 < t.first) (drop (suc i) xs)) → AddsRun xs first last (set xs i (record { first = s.first; last = last }))
      adds_behind_s next =
          let back = merged_here xs i s merged within here in
          let y : Span = record { first = s.first; last = last } in
          let one = total_one y in
          let old = total_one s in
          let touch = meets in
          subst (λ v. AddsRun xs first last v) (sym (set_split xs i y within))
          (subst (λ v. AddsRun v first last (take i xs ++ y ∷ drop (suc i) xs)) (sym (whole xs i s merged within here))
          (adds_behind s.first (take i xs) (s ∷ drop (suc i) xs) (y ∷ drop (suc i) xs) first last (merged_whole xs i s merged within here) (below_here xs i s merged within here)
          (omega arith, AllByRecursion-weaker (λ t. last + 1 < t.first) (λ t. s.first ≤ t.first) (λ t h. omega (arith, h, back.0, early, proper)) (drop (suc i) xs) next)
          (adds_head (s ∷ []) (drop (suc i) xs) (y ∷ []) first last (omega (arith, back.0, early), next, back.2) (λ r. join_behind first last s.first s.last r proper touch back.0) (omega (arith, one, old, touch, back.0)))))

      pub adds_last : length xs ≤ i + 1 → AddsRun xs first last (set xs i (record { first = s.first; last = last }))
      adds_last past = adds_behind_s (subst (λ v. AllByRecursion (λ t. last + 1 < t.first) v) (sym (drop_all (suc i) xs (omega arith))) tt)

      module _ (t : Span) (more : i + 1 < length xs) (next : t ≡ get_or xs (i + 1) t) where
        tail : drop (suc i) xs ≡ t ∷ drop (suc (i + 1)) xs
        tail = ap (λ k. drop k xs) {x = suc i} {y = i + 1} (omega arith) ∙ drop-cons xs (i + 1) t more ∙ ap (λ u. u ∷ drop (suc (i + 1)) xs) (sym next)

        pub adds_touching : last + 1 < t.first → AddsRun xs first last (set xs i (record { first = s.first; last = last }))
        adds_touching far =
            let back = merged_here xs (i + 1) t merged more next in
            adds_behind_s (subst (λ v. AllByRecursion (λ t. last + 1 < t.first) v) (sym tail)
            (far, AllByRecursion-weaker (λ u. t.last + 1 < u.first) (λ u. last + 1 < u.first) (λ u h. omega (arith, h, far, back.0)) (drop (suc (i + 1)) xs) back.1))

        pub adds_between : t.first - last ≤ 1 → AddsRun xs first last (take i xs ++ record { first = s.first; last = t.last } ∷ drop (suc (i + 1)) xs)
        adds_between near =
            let back = merged_here xs i s merged within here in
            let both = subst (λ v. AreMerged (s ∷ v)) tail back in
            let y : Span = record { first = s.first; last = t.last } in
            let one = total_one y in
            let two = total_two s t in
            let touch = meets in
            let apart : s.last + 1 < t.first = both.1.0 in
            let clear = clear_of (i + 1) t more next (omega (arith, apart, both.2.0, touch)) in
            let other : t.first ≡ last + 1 = omega (arith, clear, near) in
            subst (λ v. AddsRun v first last (take i xs ++ y ∷ drop (suc (i + 1)) xs)) (sym (whole xs i s merged within here ∙ ap (λ v. take i xs ++ s ∷ v) tail))
            (adds_behind s.first (take i xs) (s ∷ t ∷ drop (suc (i + 1)) xs) (y ∷ drop (suc (i + 1)) xs) first last
            (subst (λ v. AreMerged (take i xs ++ s ∷ v)) tail (merged_whole xs i s merged within here)) (below_here xs i s merged within here)
            (omega arith, AllByRecursion-weaker (λ u. t.last + 1 < u.first) (λ u. s.first ≤ u.first) (λ u h. omega (arith, h, apart, both.0, both.2.0)) (drop (suc (i + 1)) xs) both.2.1)
            (adds_head (s ∷ t ∷ []) (drop (suc (i + 1)) xs) (y ∷ []) first last (omega (arith, both.0, apart, both.2.0), both.2.1, both.2.2)
            (λ r. join_both first last s.first s.last t.first t.last r proper touch both.0 other both.2.0) (omega (arith, one, two, touch, other, both.0, both.2.0))))

-- a span put behind the one at an index, which then is another
pub split_is : (xs : List Span) (i : ℕ) (y z : Span) (ys : List Span) → i < length xs → ys ≡ insert xs (i + 1) z → set ys i y ≡ take i xs ++ y ∷ z ∷ drop (suc i) xs
split_is xs i y z ys within is =
    let next : i + 1 ≡ suc i = omega arith in
    let size = length-take-le i xs (omega arith) in
    let shape : ys ≡ take i xs ++ get_or xs i y ∷ z ∷ drop (suc i) xs =
    is ∙ ap (λ k. take k xs ++ z ∷ drop k xs) next
    ∙ ap (λ v. v ++ z ∷ drop (suc i) xs) (ap (λ k. take k xs) (sym next) ∙ take_more xs i y within)
    ∙ append_assoc (take i xs) (get_or xs i y ∷ []) (z ∷ drop (suc i) xs)
    in
    ap (λ v. set v i y) shape ∙ set_at (take i xs) (get_or xs i y) (z ∷ drop (suc i) xs) y i size

-- each span has a round
pub length_fits : (spans : List Span) → AreMerged spans → length spans ≤ total_rounds spans
length_fits [] merged = omega arith
length_fits (s ∷ spans) merged =
    let rest = length_fits spans merged.2 in
    let sum = sum_by-cons (λ (t : Span). t.last + 1 - t.first) s spans in
    let proper = merged.0 in
    omega (arith, rest, sum, proper)

-- a span of three rounds leaves room for two more
pub long_inside : (xs : List Span) (i : ℕ) (s : Span) → AreMerged xs → i < length xs → s ≡ get_or xs i s → s.first + 2 ≤ s.last → length xs + 2 ≤ total_rounds xs
long_inside [] i s merged within at long = absurd (omega arith)
long_inside (x ∷ xs) zero s merged within at long =
    let rest = length_fits xs merged.2 in
    let sum = sum_by-cons (λ (t : Span). t.last + 1 - t.first) x xs in
    let first = ap (λ (t : Span). t.first) at in
    let last = ap (λ (t : Span). t.last) at in
    omega (arith, rest, sum, first, last, long)
long_inside (x ∷ xs) (suc i) s merged within at long =
    let rest = long_inside xs i s merged.2 (omega arith) at long in
    let sum = sum_by-cons (λ (t : Span). t.last + 1 - t.first) x xs in
    let proper = merged.0 in
    omega (arith, rest, sum, proper)

-- what holds anyway holds of an error
pub on_err_anyway : {X E P : Type 0} (r : Result X E) → P → OnErr r P
on_err_anyway (Ok x) h = tt
on_err_anyway (Err e) h = h

-- a span put in at an index
pub put_is : (xs : List Span) (i : ℕ) (y : Span) (ys : List Span) → ys ≡ insert xs i y → ys ≡ take i xs ++ y ∷ drop i xs
put_is xs i y ys is = is

-- a span at an index that is another, without the one behind it
pub removed_is : (xs : List Span) (i : ℕ) (y : Span) (ys : List Span) → i < length xs → ys ≡ remove (set xs i y) (i + 1) → ys ≡ take i xs ++ y ∷ drop (suc (i + 1)) xs
removed_is xs i y ys within is =
    is ∙ ap (λ v. v ++ drop (suc (i + 1)) (set xs i y)) (take_more_set xs i y within)
    ∙ append_assoc (take i xs) (y ∷ []) (drop (suc (i + 1)) (set xs i y)) ∙ ap (λ v. take i xs ++ y ∷ v) (drop-set-lt (suc (i + 1)) xs i y (omega arith))

-- the span in which a round lies
module _ (xs : List Span) (round i : ℕ) (merged : AreMerged xs) (at : IsIndexFrom xs round i) (yes : is_covered xs round ≡ true) where
  pub found_within : i < length xs
  found_within = elim (cases_lt i (length xs)) [
    | inl within ↦ within
    | inr past ↦ (let no = covered_past xs round i (merged_rising xs merged) at past in let none : ⊥ = cc in absurd none)
  ]

  pub found_begun : (d : Span) → (get_or xs i d).first ≤ round
  found_begun d = leb-true (get_or xs i d).first round (sym (covered_from xs round i d (merged_rising xs merged) at found_within) ∙ yes)

  pub found_last : (d : Span) → round ≤ (get_or xs i d).last
  found_last d = at.after i d (omega arith) found_within

pub none_begun : (xs : List Span) (round : ℕ) (d : Span) → AreMerged xs → (0 < length xs → round < (get_or xs 0 d).first) → is_covered xs round ≡ false
none_begun [] round d merged late = refl
none_begun (s ∷ xs) round d merged late =
    let first : round < s.first = late (omega arith) in
    let proper = merged.0 in
    or_from (is_from s.first s.last round) (is_covered xs round) (before s.first s.last round first) (behind s.last round (omega (arith, first, proper)) xs (merged_rising (s ∷ xs) merged).1)

pub passes_drop : (xs ys : List Span) (round : ℕ) → is_covered xs round ≡ true → DropsRound xs round ys → PassesRound xs round ys
passes_drop xs ys round is drops =
    let one = ap (λ b. cond {A = ℕ} b 1 0) is in
    let total = drops.total in
    record { merged = drops.merged; covered = drops.covered; total = omega (arith, one, total) }

keeps : (a e : Bool) → (a ≡ true → e ≡ true → ⊥) → a ≡ (a && not e)
keeps true true h = absurd (h refl refl)
keeps true false h = refl
keeps false e h = refl

pub passes_none : (xs : List Span) (round : ℕ) → AreMerged xs → is_covered xs round ≡ false → PassesRound xs round xs
passes_none xs round merged lacks =
    let none = ap (λ b. cond {A = ℕ} b 1 0) lacks in
    record {
      merged = merged;
      covered = λ r. keeps (is_covered xs r) (nat_eq r round) (λ has same. let here = ap (λ k. is_covered xs k) (eqb-true r round same) in let never : ⊥ = cc in never);
      total = omega (arith, none);
    }
