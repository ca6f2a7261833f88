-- The calendars of all dies stay what they are.
use Rattle.std.proofs.Common.{◌≡◌, ◌≢◌, ℕ, ◌+◌, ◌-◌, ◌<◌, ◌≤◌, inl, inr, ◌⊎◌, Bool, true, false, not, ◌&&◌, ◌||◌, nat_eq, nat_le, nat_lt, List, [], ◌∷◌, length, get_or, set, Option, Some, None, Result, Ok, Err, refl, sym, ap, subst, ◌∙◌, arith}
use Rattle.std.specs.List.{AllByRecursion}
use Rattle.std.specs.Prelude.{IfOk, OnErr}
use Rattle.std.proofs.lemmas.Bool.{cases_eq, cases_lt, and_from, and_left, and_parts, and_right, cond-true, cond-false, eq-eqb, eqb-true, le-ltb, leb-true, lt-ltb, or_from, or_right}
use Rattle.std.proofs.lemmas.List.{get_or_default, get_or-set_same, get_or-set_other, length-set}
use Rattle.std.proofs.Math.Bool.{and-true}
use Rattle.fa_types.specs.Open.{rounds_that, max_closed, FewClosed, IsOpen}
use Rattle.fa_batch_terms.specs.declared.place.Place.{Place}
use Rattle.fa_types.specs.declared.window.Window.{Window}
use Rattle.fa_closed.specs.Runs.{is_covered, is_from}
use Rattle.fa_closed.proofs.Covered.{before, outside}
use Rattle.fa_closed.proofs.Windows.{rounds_that-same, rounds_that-none, rounds_that-join}
use Rattle.fa_calendar.specs.DieState.{DieState, HasRoom, IsRoomy}
use Rattle.fa_calendar.specs.Dies.{booked_by, closed_by, no_rounds, room_by, state_of, taken_by, window_by, is_at, AllHaveRoom, HasRoomFor, IsCalendar, KeepsDies}
use Rattle.fa_types.specs.Windows.{is_in_window, IsFirstWindow, IsFull}
use Rattle.fa_calendar.specs.Windows.{left_window}
use Rattle.fa_calendar.specs.declared.refused.CalendarRefused.{CalendarRefused}
use Rattle.fa_calendar.proofs.Cases.{taken_is, exchanged_is, with_is, free_is, outside_is, closed_is, apart_is, restored_is, window_is}
use Rattle.fa_calendar.proofs.Gaps.{open_in}
use Rattle.fa_calendar.proofs.Places.{where_at}
use Rattle.fa_calendar.proofs.Totals.{has_room}

pub few_taken : (current : ℕ) (dies : List DieState) → AllHaveRoom dies → ((die round : ℕ) → current ≤ round → is_in_window (window_by dies die) round ≡ true → closed_by dies die round ≡ true) → FewClosed current (taken_by dies)
few_taken current dies roomy held die n =
    let same = rounds_that-same (taken_by dies die) (closed_by dies die) current n (λ r low high. taken_is (closed_by dies die r) (is_in_window (window_by dies die) r) (held die r low)) in
    let few = (roomy die).few current n in
    omega (arith, same, few)

-- a test that fails before a round passes no more often from there
pub counted_from : (current : ℕ) (test : ℕ → Bool) (n : ℕ) → ((r : ℕ) → r < current → test r ≡ false) → rounds_that test 0 n ≤ rounds_that test current n
counted_from current test n past =
    elim (cases_lt current n) [
      | inl late ↦
          (let cut : n ≡ current + (n - current) = omega (arith, late) in
          let front : 0 + current ≡ current = omega arith in
          let parts = ap (λ k. rounds_that test 0 k) cut ∙ rounds_that-join test 0 current (n - current) in
          let none = rounds_that-none test 0 current (λ r low high. past r (omega (arith, high))) in
          let on = ap (λ k. rounds_that test k (n - current)) front in
          let rest : n ≡ (n - current) + current = omega (arith, late) in
          let whole = ap (λ k. rounds_that test current k) rest ∙ rounds_that-join test current (n - current) current in
          omega (arith, parts, none, on, whole))
      | inr early ↦ (let none = rounds_that-none test 0 n (λ r low high. past r (omega (arith, high, early))) in omega (arith, none))
    ]

-- Some places are released, and others booked.
module _ (current : ℕ) (d : List DieState) (sound : IsCalendar current d) (old new : List Place)
    (booked : AllByRecursion (λ x. booked_by d x.die.0 x.round.0 ≡ true) old)
    (opens : AllByRecursion (λ x. IsOpen current (λ die round. (booked_by d die round && not (is_at old die round)) || is_in_window (window_by d die) round) x.die.0 x.round.0) new) where
  was_booked : (die round : ℕ) → is_at old die round ≡ true → booked_by d die round ≡ true
  was_booked die round at = where_at (λ die round. booked_by d die round ≡ true) old booked die round at

  was_closed : (die round : ℕ) → is_at old die round ≡ true → closed_by d die round ≡ true
  was_closed die round at = closed_is (closed_by d die round) (is_in_window (window_by d die) round) (was_booked die round at)

  -- no place that is released is in a window
  pub apart_old : (die round : ℕ) → is_in_window (window_by d die) round ≡ true → is_at old die round ≡ false
  apart_old die round inside =
      elim (cases_bool (is_at old die round)) [
        | inl at ↦ (let apart = apart_is (closed_by d die round) (is_in_window (window_by d die) round) (was_booked die round at) in let no : ⊥ = cc in absurd no)
        | inr off ↦ off
      ]
    where
      cases_bool : (b : Bool) → (b ≡ true) ⊎ (b ≡ false)
      cases_bool true = inl refl
      cases_bool false = inr refl

  is_open : (die round : ℕ) → is_at new die round ≡ true → IsOpen current (λ die round. (booked_by d die round && not (is_at old die round)) || is_in_window (window_by d die) round) die round
  is_open die round at = where_at (IsOpen current (λ die round. (booked_by d die round && not (is_at old die round)) || is_in_window (window_by d die) round)) new opens die round at

  -- no place that is booked is in a window, or has passed
  apart_new : (die round : ℕ) → is_at new die round ≡ true → is_in_window (window_by d die) round ≡ false
  apart_new die round at = outside_is (booked_by d die round && not (is_at old die round)) (is_in_window (window_by d die) round) (is_open die round at).1

  not_past : (die round : ℕ) → round < current → is_at new die round ≡ false
  not_past die round early =
      elim (cases_bool (is_at new die round)) [
        | inl at ↦ (let late = (is_open die round at).0 in absurd (omega (arith, late, early)))
        | inr off ↦ off
      ]
    where
      cases_bool : (b : Bool) → (b ≡ true) ⊎ (b ≡ false)
      cases_bool true = inl refl
      cases_bool false = inr refl

  -- the places that are booked are free once the others are released
  pub free_once : (e : List DieState) → ((die round : ℕ) → closed_by e die round ≡ (closed_by d die round && not (is_at old die round))) → AllByRecursion (λ x. closed_by e x.die.0 x.round.0 ≡ false) new
  free_once e opened = go new opens
    where
      go : (places : List Place) → AllByRecursion (λ x. IsOpen current (λ die round. (booked_by d die round && not (is_at old die round)) || is_in_window (window_by d die) round) x.die.0 x.round.0) places
          → AllByRecursion (λ x. closed_by e x.die.0 x.round.0 ≡ false) places
      go [] all = tt
      go (x ∷ places) all =
          (opened x.die.0 x.round.0 ∙ free_is (closed_by d x.die.0 x.round.0) (is_in_window (window_by d x.die.0) x.round.0) (is_at old x.die.0 x.round.0) all.0.1, go places all.1)

  module _ (e : List DieState) (keeps : KeepsDies d e) (same : (die round : ℕ) → closed_by e die round ≡ ((closed_by d die round && not (is_at old die round)) || is_at new die round)) where
    window_same : (die round : ℕ) → is_in_window (window_by e die) round ≡ is_in_window (window_by d die) round
    window_same die round = ap (λ v. is_in_window v round) (keeps.windows die)

    held_still : (die round : ℕ) → current ≤ round → is_in_window (window_by e die) round ≡ true → closed_by e die round ≡ true
    held_still die round late inside =
        let was = sym (window_same die round) ∙ inside in
        let closed = sound.held die round late was in
        let off = apart_old die round was in
        same die round ∙ ap (λ b. (b && not (is_at old die round)) || is_at new die round) closed ∙ ap (λ b. not b || is_at new die round) off

    pub exchanged_sound : IsCalendar current e
    exchanged_sound = record {
      long = keeps.long ∙ sound.long;
      roomy = keeps.roomy;
      past = λ die round early. same die round ∙ or_from (closed_by d die round && not (is_at old die round)) (is_at new die round)
          (and_left (closed_by d die round) (not (is_at old die round)) (sound.past die round early)) (not_past die round early);
      held = held_still;
      few = few_taken current e keeps.roomy held_still;
    }

    pub exchanged_booked : (die round : ℕ) → booked_by e die round ≡ ((booked_by d die round && not (is_at old die round)) || is_at new die round)
    exchanged_booked die round =
        ap (λ b. b && not (is_in_window (window_by e die) round)) (same die round)
        ∙ ap (λ b. ((closed_by d die round && not (is_at old die round)) || is_at new die round) && not b) (window_same die round)
        ∙ exchanged_is (closed_by d die round) (is_in_window (window_by d die) round) (is_at old die round) (is_at new die round) (apart_new die round)

  -- a count of rounds that are closed then, from the current one on
  pub exchanged_full : (die n : ℕ) → max_closed < rounds_that (λ round. (closed_by d die round && not (is_at old die round)) || is_at new die round) 0 n
      → IsFull current (λ round. ((booked_by d die round && not (is_at old die round)) || is_in_window (window_by d die) round) || is_at new die round) 0
  exchanged_full die n many =
      let test : ℕ → Bool = λ round. (closed_by d die round && not (is_at old die round)) || is_at new die round in
      let from = counted_from current test n (λ r early. or_from (closed_by d die r && not (is_at old die r)) (is_at new die r) (and_left (closed_by d die r) (not (is_at old die r)) (sound.past die r early)) (not_past die r early)) in
      let same = rounds_that-same (λ round. ((booked_by d die round && not (is_at old die round)) || is_in_window (window_by d die) round) || is_at new die round) test current n
      (λ r low high. with_is (closed_by d die r) (is_in_window (window_by d die) r) (is_at old die r) (is_at new die r) (sound.held die r low) (apart_old die r)) in
      (n, omega (arith, many, from, same))

  -- what was released is closed again
  pub restored_closed : (e : List DieState) → ((die round : ℕ) → closed_by e die round ≡ ((closed_by d die round && not (is_at old die round)) || is_at old die round)) → (die round : ℕ) → closed_by e die round ≡ closed_by d die round
  restored_closed e same die round = same die round ∙ restored_is (closed_by d die round) (is_at old die round) (was_closed die round)

  -- for which there is room
  pub restored_room : (e : List DieState) → ((die : ℕ) → room_by d die ≤ room_by e die) → ((die round : ℕ) → closed_by e die round ≡ (closed_by d die round && not (is_at old die round))) → HasRoomFor e (λ die round. closed_by e die round || is_at old die round)
  restored_room e rooms opened =
      let equal : (die n : ℕ) → rounds_that (λ round. closed_by e die round || is_at old die round) 0 n ≡ rounds_that (closed_by d die) 0 n =
      λ die n. rounds_that-same (λ round. closed_by e die round || is_at old die round) (closed_by d die) 0 n
      (λ r low high. ap (λ b. b || is_at old die r) (opened die r) ∙ restored_is (closed_by d die r) (is_at old die r) (was_closed die r)) in
      record {
        few = λ die n. let same = equal die n in let few = (sound.roomy die).few 0 n in omega (arith, same, few);
        kept = λ die n. let same = equal die n in let kept = (sound.roomy die).kept 0 n in let room = rooms die in omega (arith, same, kept, room);
      }

-- what closes the same rounds, and has the same windows, is as sound
pub same_sound : (current : ℕ) (d e : List DieState) → IsCalendar current d → KeepsDies d e → ((die round : ℕ) → closed_by e die round ≡ closed_by d die round) → IsCalendar current e
same_sound current d e sound keeps same =
    let held : (die round : ℕ) → current ≤ round → is_in_window (window_by e die) round ≡ true → closed_by e die round ≡ true =
    λ die round late inside. same die round ∙ sound.held die round late (sym (ap (λ v. is_in_window v round) (keeps.windows die)) ∙ inside) in
    record {
      long = keeps.long ∙ sound.long;
      roomy = keeps.roomy;
      past = λ die round early. same die round ∙ sound.past die round early;
      held = held;
      few = few_taken current e keeps.roomy held;
    }

pub same_booked : (d e : List DieState) → KeepsDies d e → ((die round : ℕ) → closed_by e die round ≡ closed_by d die round) → (die round : ℕ) → booked_by e die round ≡ booked_by d die round
same_booked d e keeps same die round =
    ap (λ b. b && not (is_in_window (window_by e die) round)) (same die round) ∙ ap (λ v. closed_by d die round && not (is_in_window v round)) (keeps.windows die)

-- a count of rounds that are closed once places are booked, in terms of what was there before others were released
pub full_then : (old new : List Place) (d e : List DieState) → ((die round : ℕ) → closed_by e die round ≡ (closed_by d die round && not (is_at old die round))) → (die n : ℕ)
    → max_closed < rounds_that (λ round. closed_by e die round || is_at new die round) 0 n → max_closed < rounds_that (λ round. (closed_by d die round && not (is_at old die round)) || is_at new die round) 0 n
full_then old new d e opened die n many =
    let same = rounds_that-same (λ round. closed_by e die round || is_at new die round) (λ round. (closed_by d die round && not (is_at old die round)) || is_at new die round) 0 n
    (λ r low high. ap (λ b. b || is_at new die r) (opened die r)) in
    omega (arith, many, same)

-- One die is changed.
module _ (current : ℕ) (d : List DieState) (sound : IsCalendar current d) (i : ℕ) (s v : DieState) (low : i < 256) (at : s ≡ get_or d i s) where
  pub state_here : state_of d i ≡ s
  state_here = let long = sound.long in get_or_default d i no_rounds s (omega (arith, long, low)) ∙ sym at

  pub state_new : state_of (set d i v) i ≡ v
  state_new = let long = sound.long in get_or-set_same d i v no_rounds (omega (arith, long, low))

  pub state_other : (die : ℕ) → die ≢ i → state_of (set d i v) die ≡ state_of d die
  state_other die off = get_or-set_other d i die v no_rounds off

  pub set_sound : IsRoomy v → ((r : ℕ) → r < current → is_covered v.spans r ≡ false) → ((r : ℕ) → current ≤ r → is_in_window v.window r ≡ true → is_covered v.spans r ≡ true) → IsCalendar current (set d i v)
  set_sound is past held =
      let Past : DieState → Type 0 = λ x. (r : ℕ) → r < current → is_covered x.spans r ≡ false in
      let Held : DieState → Type 0 = λ x. (r : ℕ) → current ≤ r → is_in_window x.window r ≡ true → is_covered x.spans r ≡ true in
      let all_held : (die round : ℕ) → current ≤ round → is_in_window (window_by (set d i v) die) round ≡ true → closed_by (set d i v) die round ≡ true =
      λ die. elim (cases_eq die i) [
        | inl on ↦ subst Held (sym (ap (λ k. state_of (set d i v) k) on ∙ state_new)) held
        | inr off ↦ subst Held (sym (state_other die off)) (sound.held die)
      ] in
      let all_roomy : AllHaveRoom (set d i v) =
      λ die. elim (cases_eq die i) [
        | inl on ↦ subst HasRoom (sym (ap (λ k. state_of (set d i v) k) on ∙ state_new)) (has_room v is)
        | inr off ↦ subst HasRoom (sym (state_other die off)) (sound.roomy die)
      ] in
      record {
        long = length-set d i v ∙ sound.long;
        roomy = all_roomy;
        past = λ die. elim (cases_eq die i) [
          | inl on ↦ subst Past (sym (ap (λ k. state_of (set d i v) k) on ∙ state_new)) past
          | inr off ↦ subst Past (sym (state_other die off)) (sound.past die)
        ];
        held = all_held;
        few = few_taken current (set d i v) all_roomy all_held;
      }

  -- a window comes, or the die stays as it was
  pub window_sound : (rounds : ℕ) (r : Result ℕ CalendarRefused) → 1 ≤ rounds → IsRoomy v
      → IfOk r (λ first. IsFirstWindow current (is_covered s.spans) rounds first) → IfOk r (λ first. v.window ≡ Some (record { first = record { 0 = first }; last = record { 0 = first + rounds - 1 } }))
      → IfOk r (λ first. (x : ℕ) → is_covered v.spans x ≡ (is_covered s.spans x || is_from first (first + rounds - 1) x))
      → OnErr r ((v.spans ≡ s.spans) × (v.window ≡ s.window)) → IsCalendar current (set d i v)
  window_sound rounds (Ok first) some is run window closed same =
      set_sound is
      (λ x early. closed x ∙ or_from (is_covered s.spans x) (is_from first (first + rounds - 1) x) (ap (λ (y : DieState). is_covered y.spans x) (sym state_here) ∙ sound.past i x early)
      (before first (first + rounds - 1) x (let later = run.later in omega (arith, later, early))))
      (λ x late inside. closed x ∙ or_right (is_covered s.spans x) (is_from first (first + rounds - 1) x) (ap (λ y. is_in_window y x) (sym window) ∙ inside))
  window_sound rounds (Err e) some is run window closed same =
      set_sound is
      (λ x early. ap (λ y. is_covered y x) same.0 ∙ ap (λ (y : DieState). is_covered y.spans x) (sym state_here) ∙ sound.past i x early)
      (λ x late inside. ap (λ y. is_covered y x) same.0 ∙ ap (λ (y : DieState). is_covered y.spans x) (sym state_here)
      ∙ sound.held i x late (ap (λ (y : DieState). is_in_window y.window x) state_here ∙ ap (λ y. is_in_window y x) (sym same.1) ∙ inside))

  -- what is booked stays when a window comes
  pub window_booked : (rounds first : ℕ) → 1 ≤ rounds → s.window ≡ None → IsFirstWindow current (is_covered s.spans) rounds first → v.window ≡ Some (record { first = record { 0 = first }; last = record { 0 = first + rounds - 1 } })
      → ((x : ℕ) → is_covered v.spans x ≡ (is_covered s.spans x || is_from first (first + rounds - 1) x)) → (die r : ℕ) → booked_by (set d i v) die r ≡ booked_by d die r
  window_booked rounds first some none run window closed die r =
      let booked_of : DieState → Bool = λ x. is_covered x.spans r && not (is_in_window x.window r) in
      elim (cases_eq die i) [
        | inl on ↦
            ap booked_of (ap (λ k. state_of (set d i v) k) on ∙ state_new)
            ∙ ap (λ b. b && not (is_in_window v.window r)) (closed r) ∙ ap (λ y. (is_covered s.spans r || is_from first (first + rounds - 1) r) && not (is_in_window y r)) window
            ∙ window_is (is_covered s.spans r) (is_from first (first + rounds - 1) r)
            (λ inside. let parts = and_parts (nat_le first r) (nat_le r (first + rounds - 1)) inside in
            open_in (is_covered s.spans) rounds first r run.opens (leb-true first r parts.0) (let high = leb-true r (first + rounds - 1) parts.1 in omega (arith, high, some)))
            ∙ ap (λ y. is_covered s.spans r && not (is_in_window y r)) (sym none)
            ∙ sym (ap booked_of (ap (λ k. state_of d k) on ∙ state_here))
        | inr off ↦ ap booked_of (state_other die off)
      ]

-- a count of a die's closed rounds, from the current one on and as contracts see them
pub taken_same : (current : ℕ) (d : List DieState) → IsCalendar current d → (die n : ℕ) → rounds_that (taken_by d die) current n ≡ rounds_that (closed_by d die) current n
taken_same current d sound die n = rounds_that-same (taken_by d die) (closed_by d die) current n (λ r low high. taken_is (closed_by d die r) (is_in_window (window_by d die) r) (sound.held die r low))

pub taken_at : (current : ℕ) (d : List DieState) → IsCalendar current d → (die r : ℕ) → current ≤ r → taken_by d die r ≡ closed_by d die r
taken_at current d sound die r low = taken_is (closed_by d die r) (is_in_window (window_by d die) r) (sound.held die r low)

pub open_same : (current : ℕ) (d : List DieState) → IsCalendar current d → (die n : ℕ) → rounds_that (λ r. not (taken_by d die r)) current n ≡ rounds_that (λ r. not (closed_by d die r)) current n
open_same current d sound die n = rounds_that-same (λ r. not (taken_by d die r)) (λ r. not (closed_by d die r)) current n (λ r low high. ap not (taken_at current d sound die r low))

-- A round passes.
neq-eqb : (a b : ℕ) → (a ≡ b → ⊥) → nat_eq a b ≡ false
neq-eqb a b off = elim (cases_bool (nat_eq a b)) [
  | inl on ↦ absurd (off (eqb-true a b on))
  | inr is ↦ is
]
  where
    cases_bool : (b : Bool) → (b ≡ true) ⊎ (b ≡ false)
    cases_bool true = inl refl
    cases_bool false = inr refl

in_left : (round : ℕ) (window : Option Window) (r : ℕ) → is_in_window (left_window round window) r ≡ true → is_in_window window r ≡ true
in_left round None r inside = inside
in_left round (Some w) r inside =
    elim (cases_lt round w.last.0) [
      | inl on ↦ ap (λ o. is_in_window o r) (sym (cond-true (nat_lt round w.last.0) (Some w) None (lt-ltb round w.last.0 on))) ∙ inside
      | inr gone ↦ (let none = ap (λ o. is_in_window o r) (sym (cond-false (nat_lt round w.last.0) (Some w) None (le-ltb round w.last.0 gone))) ∙ inside in let no : ⊥ = cc in absurd no)
    ]

left_later : (round : ℕ) (window : Option Window) (r : ℕ) → round < r → is_in_window (left_window round window) r ≡ is_in_window window r
left_later round None r later = refl
left_later round (Some w) r later =
    elim (cases_lt round w.last.0) [
      | inl on ↦ ap (λ o. is_in_window o r) (cond-true (nat_lt round w.last.0) (Some w) None (lt-ltb round w.last.0 on))
      | inr gone ↦ ap (λ o. is_in_window o r) (cond-false (nat_lt round w.last.0) (Some w) None (le-ltb round w.last.0 gone)) ∙ sym (outside w.first.0 w.last.0 r (omega (arith, gone, later)))
    ]

module _ (current : ℕ) (d e : List DieState) (sound : IsCalendar current d) (long : length e ≡ 256) (roomy : AllHaveRoom e)
    (opened : (die r : ℕ) → closed_by e die r ≡ (closed_by d die r && not (nat_eq r current))) (windows : (die : ℕ) → window_by e die ≡ left_window current (window_by d die)) where
  passed_held : (die round : ℕ) → current + 1 ≤ round → is_in_window (window_by e die) round ≡ true → closed_by e die round ≡ true
  passed_held die round late inside =
      opened die round ∙ and_from (closed_by d die round) (not (nat_eq round current))
      (sound.held die round (omega (arith, late)) (in_left current (window_by d die) round (ap (λ o. is_in_window o round) (sym (windows die)) ∙ inside)))
      (ap not (neq-eqb round current (λ same. omega (arith, same, late))))

  pub passed_sound : IsCalendar (current + 1) e
  passed_sound = record {
    long = long;
    roomy = roomy;
    past = λ die round early. opened die round ∙ elim (cases_lt round current) [
      | inl before_it ↦ and_left (closed_by d die round) (not (nat_eq round current)) (sound.past die round before_it)
      | inr it ↦ and_right (closed_by d die round) (not (nat_eq round current)) (ap not (eq-eqb round current (omega (arith, it, early))))
    ];
    held = passed_held;
    few = few_taken (current + 1) e roomy passed_held;
  }

  pub passed_booked : (die r : ℕ) → booked_by e die r ≡ (nat_lt current r && booked_by d die r)
  passed_booked die r =
      ap (λ b. b && not (is_in_window (window_by e die) r)) (opened die r)
      ∙ elim (cases_lt current r) [
        | inl later ↦
            ap (λ b. (closed_by d die r && not b) && not (is_in_window (window_by e die) r)) (neq-eqb r current (λ same. omega (arith, same, later)))
            ∙ ap (λ b. b && not (is_in_window (window_by e die) r)) (and-true (closed_by d die r))
            ∙ ap (λ b. closed_by d die r && not b) (ap (λ o. is_in_window o r) (windows die) ∙ left_later current (window_by d die) r later)
            ∙ sym (ap (λ b. b && booked_by d die r) (lt-ltb current r later))
        | inr now ↦
            and_left (closed_by d die r && not (nat_eq r current)) (not (is_in_window (window_by e die) r)) (gone die r now)
            ∙ sym (ap (λ b. b && booked_by d die r) (le-ltb current r now))
      ]
    where
      gone : (die r : ℕ) → r ≤ current → (closed_by d die r && not (nat_eq r current)) ≡ false
      gone die r now = elim (cases_lt r current) [
        | inl before_it ↦ and_left (closed_by d die r) (not (nat_eq r current)) (sound.past die r before_it)
        | inr it ↦ and_right (closed_by d die r) (not (nat_eq r current)) (ap not (eq-eqb r current (omega (arith, it, now))))
      ]
