-- Places that are opened and closed, one after the other.
use Rattle.std.proofs.Common.{◌≡◌, ℕ, zero, suc, ◌+◌, ◌<◌, ◌≤◌, inl, inr, ◌⊎◌, Bool, true, false, cond, not, ◌&&◌, ◌||◌, nat_eq, List, [], ◌∷◌, length, take, set, get_or, refl, sym, ap, ◌∙◌, subst, arith}
use Rattle.std.specs.Prelude.{count_by}
use Rattle.std.specs.List.{list_any, AllByRecursion}
use Rattle.std.proofs.lemmas.Bool.{and_from, and_parts, cases_eq, or_left, or_right, or_cases, eq-eqb, eqb-true}
use Rattle.std.proofs.lemmas.List.{get_or_default, get_or-set_same, get_or-set_other, length-set}
use Rattle.std.proofs.lemmas.Bool.Decides.{nat_tests}
use Rattle.std.proofs.lemmas.List.Folds.{list_any_more}
use Rattle.std.proofs.lemmas.List.Sums.{count_by_more_yes}
use Rattle.fa_types.specs.Open.{rounds_that}
use Rattle.fa_batch_terms.specs.declared.place.Place.{Place}
use Rattle.fa_calendar.specs.DieState.{DieState, HasRoom, IsRoomy}
use Rattle.fa_calendar.specs.Dies.{closed_by, no_rounds, room_by, window_by, is_at, is_one, AllHaveRoom, KeepsDies}
use Rattle.fa_batch_terms.specs.Plan.{AreApart}
use Rattle.fa_closed.specs.Runs.{is_covered, is_from}
use Rattle.fa_batch_terms.proofs.Counting.{count_by-cons, count-from-any}
use Rattle.fa_calendar.proofs.Totals.{has_room}

-- a test that passes wherever another does passes as often
pub rounds_that-le : (p q : ℕ → Bool) → ((r : ℕ) → p r ≡ true → q r ≡ true) → (first n : ℕ) → rounds_that p first n ≤ rounds_that q first n
rounds_that-le p q h first zero = omega arith
rounds_that-le p q h first (suc n) =
    let rest = rounds_that-le p q h (suc first) n in
    let head = bit_le (p first) (q first) (h first) in
    omega (arith, rest, head)
  where
    bit_le : (a b : Bool) → (a ≡ true → b ≡ true) → cond {A = ℕ} a 1 0 ≤ cond b 1 0
    bit_le true true h = omega arith
    bit_le true false h = let no : ⊥ = cc (h refl) in absurd no
    bit_le false b h = elim b as (λ b. 0 ≤ cond {A = ℕ} b 1 0) [ true ↦ omega arith | false ↦ omega arith ]

pub keeps_refl : (dies : List DieState) → AllHaveRoom dies → KeepsDies dies dies
keeps_refl dies roomy = record { long = refl; windows = λ die. refl; rooms = λ die. omega arith; roomy = roomy }

pub keeps_trans : (a b c : List DieState) → KeepsDies a b → KeepsDies b c → KeepsDies a c
keeps_trans a b c first second = record {
  long = second.long ∙ first.long;
  windows = λ die. second.windows die ∙ first.windows die;
  rooms = λ die. let one = first.rooms die in let two = second.rooms die in omega (arith, one, two);
  roomy = second.roomy;
}

-- one die is changed
pub keeps_set : (dies : List DieState) (i : ℕ) (s v : DieState) → length dies ≡ 256 → i < 256 → s ≡ get_or dies i s → AllHaveRoom dies → IsRoomy v → v.window ≡ s.window → s.room ≤ v.room → KeepsDies dies (set dies i v)
keeps_set dies i s v long low at roomy is same room =
    let within : i < length dies = omega (arith, long, low) in
    let here = get_or_default dies i no_rounds s within ∙ sym at in
    record {
      long = length-set dies i v;
      windows = λ die. elim (cases_eq die i) [
        | inl on ↦ ap (λ k. window_by (set dies i v) k) on ∙ ap (λ (d : DieState). d.window) (get_or-set_same dies i v no_rounds within) ∙ same
            ∙ sym (ap (λ k. window_by dies k) on ∙ ap (λ (d : DieState). d.window) here)
        | inr off ↦ ap (λ (d : DieState). d.window) (get_or-set_other dies i die v no_rounds off)
      ];
      rooms = λ die. elim (cases_eq die i) [
        | inl on ↦
            (let new = ap (λ k. room_by (set dies i v) k) on ∙ ap (λ (d : DieState). d.room) (get_or-set_same dies i v no_rounds within) in
            let old = ap (λ k. room_by dies k) on ∙ ap (λ (d : DieState). d.room) here in
            omega (arith, new, old, room))
        | inr off ↦ (let other = ap (λ (d : DieState). d.room) (get_or-set_other dies i die v no_rounds off) in omega (arith, other))
      ];
      roomy = λ die. elim (cases_eq die i) [
        | inl on ↦ subst HasRoom (sym (ap (λ k. get_or (set dies i v) k no_rounds) on ∙ get_or-set_same dies i v no_rounds within)) (has_room v is)
        | inr off ↦ subst HasRoom (sym (get_or-set_other dies i die v no_rounds off)) (roomy die)
      ];
    }

pub at_more : (places : List Place) (i : ℕ) (d : Place) → i < length places → (die round : ℕ) → is_at (take (i + 1) places) die round ≡ (is_at (take i places) die round || is_one (get_or places i d) die round)
at_more places i d within die round = list_any_more (λ x. is_one x die round) places i d within

pub opens_more : (a b c : Bool) → ((a && not b) && not c) ≡ (a && not (b || c))
opens_more a true c = elim a as (λ a. ((a && false) && not c) ≡ (a && false)) [ true ↦ refl | false ↦ refl ]
opens_more a false c = elim a as (λ a. ((a && true) && not c) ≡ (a && not c)) [ true ↦ refl | false ↦ refl ]

-- a place is at itself
pub one_is : (x : Place) → is_one x x.die.0 x.round.0 ≡ true
one_is x = and_from (nat_eq x.die.0 x.die.0) (nat_eq x.round.0 x.round.0) (eq-eqb x.die.0 x.die.0 refl) (eq-eqb x.round.0 x.round.0 refl)

-- a test that holds of each place holds wherever one of them is
pub where_at : (P : ℕ → ℕ → Type 0) (places : List Place) → AllByRecursion (λ x. P x.die.0 x.round.0) places → (die round : ℕ) → is_at places die round ≡ true → P die round
where_at P [] all die round met = let no : ⊥ = cc in absurd no
where_at P (x ∷ places) all die round met =
    elim (or_cases (is_one x die round) (is_at places die round) met) [
      | inl here ↦
          (let parts = and_parts (nat_eq x.die.0 die) (nat_eq x.round.0 round) here in
          subst (λ k. P die k) (eqb-true x.round.0 round parts.1) (subst (λ k. P k x.round.0) (eqb-true x.die.0 die parts.0) all.0))
      | inr on ↦ where_at P places all.1 die round on
    ]

one_from : (d a r : ℕ) → is_from a a r ≡ (nat_eq d d && nat_eq a r)
one_from d a r = grind (arith, nat_tests)

-- a place, seen by its die
pub same_place : (dies : List DieState) (s : DieState) (x : Place) → length dies ≡ 256 → x.die.0 < 256 → s ≡ get_or dies x.die.0 s → (r : ℕ)
    → (is_covered s.spans r || is_from x.round.0 x.round.0 r) ≡ (closed_by dies x.die.0 r || is_one x x.die.0 r)
same_place dies s x long low at r =
    let here = get_or_default dies x.die.0 no_rounds s (omega (arith, long, low)) ∙ sym at in
    ap (λ (d : DieState). is_covered d.spans r || is_from x.round.0 x.round.0 r) (sym here) ∙ ap (λ b. closed_by dies x.die.0 r || b) (one_from x.die.0 x.round.0 r)

any_take : {X : Type 0} (p : X → Bool) (xs : List X) (i : ℕ) → list_any p (take i xs) ≡ true → list_any p xs ≡ true
any_take p xs zero met = let no : ⊥ = cc in absurd no
any_take p [] (suc i) met = let no : ⊥ = cc in absurd no
any_take p (x ∷ xs) (suc i) met = elim (or_cases (p x) (list_any p (take i xs)) met) [
  | inl here ↦ or_left (p x) (list_any p xs) here
  | inr on ↦ or_right (p x) (list_any p xs) (any_take p xs i on)
]

pub at_part : (places : List Place) (i die round : ℕ) → is_at (take i places) die round ≡ true → is_at places die round ≡ true
at_part places i die round met = any_take (λ x. is_one x die round) places i met

-- with one place more the closed rounds are still among those with all of them
pub among_all : (a b : ℕ → ℕ → Bool) (places : List Place) (i : ℕ) (x : Place) → i < length places → x ≡ get_or places i x → ((die round : ℕ) → b die round ≡ (a die round || is_at (take i places) die round))
    → (die round : ℕ) → (b die round || is_one x die round) ≡ true → (a die round || is_at places die round) ≡ true
among_all a b places i x within at same die round met =
    let more = at_more places i x within die round ∙ ap (λ (y : Place). is_at (take i places) die round || is_one y die round) (sym at) in
    elim (or_cases (b die round) (is_one x die round) met) [
      | inl before ↦ elim (or_cases (a die round) (is_at (take i places) die round) (sym (same die round) ∙ before)) [
        | inl old ↦ or_left (a die round) (is_at places die round) old
        | inr new ↦ or_right (a die round) (is_at places die round) (at_part places i die round new)
      ]
      | inr here ↦ or_right (a die round) (is_at places die round) (at_part places (i + 1) die round (more ∙ or_right (is_at (take i places) die round) (is_one x die round) here))
    ]

count_take : {X : Type 0} (p : X → Bool) (xs : List X) (i : ℕ) → count_by p (take i xs) ≤ count_by p xs
count_take p xs zero = omega arith
count_take p [] (suc i) = omega arith
count_take p (x ∷ xs) (suc i) =
    let rest = count_take p xs i in
    let part = count_by-cons p x (take i xs) in
    let whole = count_by-cons p x xs in
    omega (arith, rest, part, whole)

pub each_at : {X : Type 0} (P : X → Type 0) (xs : List X) (i : ℕ) (d : X) → AllByRecursion P xs → i < length xs → P (get_or xs i d)
each_at P [] i d all within = absurd (omega arith)
each_at P (x ∷ xs) zero d all within = all.0
each_at P (x ∷ xs) (suc i) d all within = each_at P xs i d all.1 (omega arith)

-- the next of places that are apart is none of those before it
pub next_apart : (places : List Place) (i : ℕ) (x : Place) → AreApart places → i < length places → x ≡ get_or places i x → is_at (take i places) x.die.0 x.round.0 ≡ false
next_apart places i x apart within at =
    let once = apart x.die.0 x.round.0 in
    let whole = count_take (λ y. is_one y x.die.0 x.round.0) places (i + 1) in
    let more = count_by_more_yes (λ y. is_one y x.die.0 x.round.0) places i x within (ap (λ (y : Place). is_one y x.die.0 x.round.0) (sym at) ∙ one_is x) in
    elim (cases_bool (is_at (take i places) x.die.0 x.round.0)) [
      | inl met ↦ (let some = count-from-any (λ (y : Place). is_one y x.die.0 x.round.0) (take i places) met in absurd (omega (arith, once, whole, more, some)))
      | inr free ↦ free
    ]
  where
    cases_bool : (b : Bool) → (b ≡ true) ⊎ (b ≡ false)
    cases_bool true = inl refl
    cases_bool false = inr refl

-- opening places that were open, and only those, leaves what was
pub undone : (a b c : Bool) → (c ≡ true → a ≡ false) → b ≡ (a || c) → (b && not c) ≡ a
undone true b true free is = let no : ⊥ = cc (free refl) in absurd no
undone true b false free is = ap (λ x. x && true) is
undone false b true free is = ap (λ x. x && false) is
undone false b false free is = ap (λ x. x && true) is
