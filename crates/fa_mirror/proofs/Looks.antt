-- What is looked at in turn: the dies that were passed so far, those of them that pass a test, and the first that does.
use Rattle.fa_machine.specs.Maps.{below, is_one_of}
use Rattle.fa_machine.specs.Placement.{copies_asked, order_of}
use Rattle.fa_machine.specs.State.{MapState}
use Rattle.fa_mirror.specs.Order.{first_of, homes_in_use, looks, looks_from, numbers_of}
use Rattle.fa_types.specs.declared.numbers.Die.{Die}
use Rattle.std.proofs.Common.{Bool, List, None, Option, Some, [], ap, arith, cond, drop, false, get_or, length, map, min, not, refl}
use Rattle.std.proofs.Common.{sym, take, true, ℕ, ◌++◌, ◌+◌, ◌-◌, ◌<◌, ◌∙◌, ◌∷◌, ◌≡◌, ◌≤◌}
use Rattle.std.proofs.lemmas.List.{append-nil, drop_more, get_or-append_right, get_or-map, get_or-reverse}
use Rattle.std.proofs.lemmas.List.{length-append, length-map, length-reverse, length-take, length-take-le, take-append-drop}
use Rattle.std.proofs.lemmas.List.{take-append-le, take-map, take_all, take_more}
use Rattle.std.proofs.lemmas.List.Elements.{filter-append, filter_map-append}
use Rattle.std.proofs.lemmas.List.Folds.{find-append}
use Rattle.std.proofs.lemmas.List.FromFn.{get_or-range_with_len, length-range_with_len}
use Rattle.std.specs.List.{filter, filter_map, find, list_any}
use Rattle.std.specs.Option.{option_or}
use Rattle.std.specs.Prelude.{if◌then◌else◌, reverse, ◌==◌, ◌||◌}

abbrev same : Option ℕ → Option ℕ
same look = look

-- what was looked at, without the looks that gave nothing
abbrev pub seen : List (Option ℕ) → List ℕ
seen all = filter_map same all

-- a die where it is none of the first
abbrev unless : (ℕ → Bool) → ℕ → Option ℕ
unless test x = if test x then None else Some x

seen_all : (xs : List ℕ) → seen (map Some xs) ≡ xs
seen_all [] = refl
seen_all (x ∷ xs) = ap (λ rest. x ∷ rest) (seen_all xs)

seen_if : (x : ℕ) (b : Bool) (looked : List (Option ℕ)) (kept : List ℕ) → seen looked ≡ kept
    → seen ((if b then None else Some x) ∷ looked) ≡ cond (not b) (x ∷ kept) kept
seen_if x true looked kept rest = rest
seen_if x false looked kept rest = ap (λ ys. x ∷ ys) rest

seen_some : (test : ℕ → Bool) (xs : List ℕ) → seen (map (unless test) xs) ≡ filter (λ x. not (test x)) xs
seen_some test [] = refl
seen_some test (x ∷ xs) = seen_if x (test x) (map (unless test) xs) (filter (λ y. not (test y)) xs) (seen_some test xs)

module _ (first : List ℕ) (dies : ℕ) where
  abbrev others : List (Option ℕ)
  others = map (unless (is_one_of first)) (reverse (below dies))

  -- all looks together give the order
  order_seen : seen (looks_from first dies) ≡ first ++ filter (λ die. not (is_one_of first die)) (reverse (below dies))
  order_seen =
      filter_map-append same (map Some first) others
      ∙ (λ i. seen_all first i ++ seen_some (is_one_of first) (reverse (below dies)) i)

  length-looks_from : length (looks_from first dies) ≡ length first + dies
  length-looks_from =
      let a = length-append (map Some first) others in
      let b = length-map first Some in
      let c = length-map (reverse (below dies)) (unless (is_one_of first)) in
      let d = length-reverse (below dies) in
      let e = length-range_with_len 0 dies in
      omega (arith, a, b, c, d, e)

  look_other : (look : ℕ) → length first ≤ look → look < length first + dies
      → get_or (looks_from first dies) look None ≡ unless (is_one_of first) (dies - 1 - (look - length first))
  look_other look past low =
      let k : ℕ = look - length first in
      let all : length (below dies) ≡ dies = length-range_with_len 0 dies in
      let turned : length (reverse (below dies)) ≡ dies = length-reverse (below dies) ∙ all in
      let at : get_or (reverse (below dies)) k 0 ≡ dies - 1 - k =
      get_or-reverse (below dies) k 0 (omega (arith, all, past, low)) ∙ ap (λ n. get_or (below dies) (n - 1 - k) 0) all
      ∙ get_or-range_with_len 0 dies (dies - 1 - k) 0 (omega (arith, past, low)) ∙ omega arith in
      get_or-append_right (map Some first) others (length first) look None (length-map first Some) past
      ∙ get_or-map (unless (is_one_of first)) (reverse (below dies)) k 0 None (omega (arith, turned, past, low))
      ∙ ap (unless (is_one_of first)) at

module _ (copies : ℕ) (homes : List Die) (dies : ℕ) (enough : copies ≤ length homes) where
  first_length : length (first_of copies homes) ≡ copies
  first_length =
      let all = length-map homes (λ (die : Die). die.0) in
      length-take-le copies (numbers_of homes) (omega (arith, enough, all))

  pub looks_in_all : length (looks copies homes dies) ≡ copies + dies
  looks_in_all = length-looks_from (first_of copies homes) dies ∙ ap (λ n. n + dies) first_length

  -- the looks behind the homes
  pub look_behind : (look : ℕ) → copies ≤ look → look < copies + dies
      → get_or (looks copies homes dies) look None ≡ unless (is_one_of (first_of copies homes)) (dies - 1 - (look - copies))
  look_behind look past low =
      let long = first_length in
      look_other (first_of copies homes) dies look (omega (arith, long, past)) (omega (arith, long, low))
      ∙ ap (λ n. unless (is_one_of (first_of copies homes)) (dies - 1 - (look - n))) long

-- a die is one of the numbers where it is one of the dies
one_of_numbers : (n : ℕ) (homes : List Die) → list_any (λ (home : Die). home.0 == n) homes ≡ is_one_of (numbers_of homes) n
one_of_numbers n [] = refl
one_of_numbers n (home ∷ homes) = ap (λ b. home.0 == n || b) (one_of_numbers n homes)

pub is_home_is : (n copies : ℕ) (homes : List Die)
    → list_any (λ (home : Die). home.0 == n) (take copies homes) ≡ is_one_of (first_of copies homes) n
is_home_is n copies homes =
    one_of_numbers n (take copies homes) ∙ ap (λ xs. is_one_of xs n) (sym (take-map (λ (die : Die). die.0) copies homes))

module _ (copies : ℕ) (m : MapState) (page : ℕ) (found : ℕ) (homes : List Die) (dies : ℕ)
    (first : first_of found homes ≡ homes_in_use copies m page) (as_many : dies ≡ m.geometry.dies) where
  -- the looks of a page give its order
  pub order_looked : seen (looks found homes dies) ≡ order_of copies m page
  order_looked = (λ i. seen (looks_from (first i) (as_many i))) ∙ order_seen (homes_in_use copies m page) m.geometry.dies

  -- what was chosen of all looks is the first dies of the page that pass the test
  pub all_looked : (test : ℕ → Bool) (asked : ℕ) (xs : List ℕ) → asked ≡ copies_asked copies m
      → xs ≡ take asked (filter test (seen (looks found homes dies))) → xs ≡ take (copies_asked copies m) (filter test (order_of copies m page))
  all_looked test asked xs wanted is = is ∙ (λ i. take (wanted i) (filter test (order_looked i)))

module _ (all : List (Option ℕ)) where
  -- what the first n looks gave
  abbrev pub front : ℕ → List ℕ
  front n = seen (take n all)

  -- what the next look gives
  abbrev at : ℕ → List ℕ
  at n = seen (get_or all n None ∷ [])

  front_more : (n : ℕ) → n < length all → front (n + 1) ≡ front n ++ at n
  front_more n low = ap seen (take_more all n None low) ∙ filter_map-append same (take n all) (get_or all n None ∷ [])

  front_all : (n : ℕ) → seen all ≡ front n ++ seen (drop n all)
  front_all n = ap seen (sym (take-append-drop n all)) ∙ filter_map-append same (take n all) (drop n all)

  module _ (test : ℕ → Bool) where
    abbrev passing : ℕ → List ℕ
    passing n = filter test (front n)

    -- what passes of the first n looks, at most as many as are asked
    abbrev pub chosen : ℕ → ℕ → List ℕ
    chosen asked n = take asked (passing n)

    passing_more : (n : ℕ) → n < length all → passing (n + 1) ≡ passing n ++ filter test (at n)
    passing_more n low = ap (filter test) (front_more n low) ∙ filter-append test (front n) (at n)

    module _ (asked n : ℕ) (xs : List ℕ) (is : xs ≡ chosen asked n) where
      long : length xs ≡ min asked (length (passing n))
      long = ap length is ∙ length-take asked (passing n)

      pub chosen_few : length xs ≤ asked
      chosen_few = let a = long in omega (arith, a)

      chosen_same : n < length all → filter test (at n) ≡ [] → xs ≡ chosen asked (n + 1)
      chosen_same low none =
          let more : passing (n + 1) ≡ passing n = passing_more n low ∙ ap (λ ys. passing n ++ ys) none ∙ append-nil (passing n) in
          is ∙ ap (take asked) (sym more)

      pub chosen_none : n < length all → get_or all n None ≡ None → xs ≡ chosen asked (n + 1)
      chosen_none low none = chosen_same low (ap (λ look. filter test (seen (look ∷ []))) none)

      pub chosen_fails : (d : ℕ) → n < length all → get_or all n None ≡ Some d → test d ≡ false → xs ≡ chosen asked (n + 1)
      chosen_fails d low here fails =
          chosen_same low (ap (λ look. filter test (seen (look ∷ []))) here ∙ ap (λ b. cond b (d ∷ []) []) fails)

      pub chosen_more : (d : ℕ) → n < length all → get_or all n None ≡ Some d → test d ≡ true → length xs < asked
          → xs ++ d ∷ [] ≡ chosen asked (n + 1)
      chosen_more d low here passes few =
          let a = long in
          let short : length (passing n) < asked = omega (arith, a, few) in
          let one : filter test (at n) ≡ d ∷ [] =
          ap (λ look. filter test (seen (look ∷ []))) here ∙ ap (λ b. cond b (d ∷ []) []) passes in
          let more : passing (n + 1) ≡ passing n ++ d ∷ [] = passing_more n low ∙ ap (λ ys. passing n ++ ys) one in
          let sum = length-append (passing n) (d ∷ []) in
          ap (λ ys. ys ++ d ∷ []) (is ∙ take_all asked (passing n) (omega (arith, short)))
          ∙ sym (ap (take asked) more ∙ take_all asked (passing n ++ d ∷ []) (omega (arith, sum, short)))

      pub chosen_full : length xs ≡ asked → xs ≡ take asked (filter test (seen all))
      chosen_full full =
          let a = long in
          let rest : List ℕ = filter test (seen (drop n all)) in
          let whole : filter test (seen all) ≡ passing n ++ rest =
          ap (filter test) (front_all n) ∙ filter-append test (front n) (seen (drop n all)) in
          is ∙ sym (take-append-le asked (passing n) rest (omega (arith, a, full))) ∙ ap (take asked) (sym whole)

      pub chosen_all : length all ≤ n → xs ≡ take asked (filter test (seen all))
      chosen_all past = is ∙ ap (λ ys. take asked (filter test (seen ys))) (take_all n all past)

    module _ (n : ℕ) (none : find test (front n) ≡ None) where
      past_front : (ys : List ℕ) → find test (front n ++ ys) ≡ find test ys
      past_front ys = find-append test (front n) ys ∙ ap (λ o. option_or o (find test ys)) none

      next : n < length all → find test (front (n + 1)) ≡ find test (at n)
      next low = ap (find test) (front_more n low) ∙ past_front (at n)

      pub found_none : n < length all → get_or all n None ≡ None → find test (front (n + 1)) ≡ None
      found_none low here = next low ∙ ap (λ look. find test (seen (look ∷ []))) here

      pub found_fails : (d : ℕ) → n < length all → get_or all n None ≡ Some d → test d ≡ false → find test (front (n + 1)) ≡ None
      found_fails d low here fails = next low ∙ ap (λ look. find test (seen (look ∷ []))) here ∙ ap (λ b. cond b (Some d) None) fails

      pub found_here : (d : ℕ) → n < length all → get_or all n None ≡ Some d → test d ≡ true → find test (seen all) ≡ Some d
      found_here d low here passes =
          ap (find test) (front_all n) ∙ past_front (seen (drop n all))
          ∙ ap (λ ys. find test (seen ys)) (drop_more all n None low)
          ∙ ap (λ look. find test (seen (look ∷ drop (n + 1) all))) here
          ∙ ap (λ b. cond b (Some d) (find test (seen (drop (n + 1) all)))) passes

      pub found_all : length all ≤ n → find test (seen all) ≡ None
      found_all past = ap (λ ys. find test (seen ys)) (sym (take_all n all past)) ∙ none
