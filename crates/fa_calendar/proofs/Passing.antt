-- A round passes at one die after the other, and those are left out that are idle.
use Rattle.std.proofs.Common.{◌≡◌, ◌≢◌, ℕ, ◌+◌, ◌<◌, ◌≤◌, ◌&&◌, not, nat_eq, false, inl, inr, length, List, ap, refl, sym, ◌∙◌, arith}
use Rattle.std.proofs.lemmas.Bool.{and_left, cases_eq, cases_lt}
use Rattle.std.proofs.lemmas.List.{get_or_past}
use Rattle.std.specs.FinMap.{contains_key}
use Rattle.fa_closed.specs.Runs.{is_covered}
use Rattle.fa_set.specs.Members.{Numbers}
use Rattle.fa_calendar.specs.DieState.{DieState}
use Rattle.fa_calendar.specs.Dies.{closed_by, no_rounds, state_of, window_by, AreIdle}
use Rattle.fa_calendar.specs.Windows.{left_window}

-- The round has passed at the dies below a number, and the others are as before.
pub record HasPassed (round next : ℕ) (d e : List DieState) : Type 0 where
  pub opened : (die r : ℕ) → die < next → closed_by e die r ≡ (closed_by d die r && not (nat_eq r round))
  pub windows : (die : ℕ) → die < next → window_by e die ≡ left_window round (window_by d die)
  pub same : (die : ℕ) → next ≤ die → state_of e die ≡ state_of d die

module _ (round : ℕ) where
  pub begun : (d : List DieState) → HasPassed round 0 d d
  begun d = record {
    opened = λ die r low. absurd (omega (arith, low));
    windows = λ die low. absurd (omega (arith, low));
    same = λ die late. refl;
  }

  -- at one die more
  pub one_passed : (i : ℕ) (d e f : List DieState) → HasPassed round i d e → ((die : ℕ) → die ≢ i → state_of f die ≡ state_of e die)
      → ((r : ℕ) → closed_by f i r ≡ (closed_by e i r && not (nat_eq r round)))
      → window_by f i ≡ left_window round (window_by e i) → HasPassed round (i + 1) d f
  one_passed i d e f passed others opened window =
      let here : state_of e i ≡ state_of d i = passed.same i (omega arith) in
      record {
        opened = λ die r low. elim (cases_eq die i) [
          | inl on ↦
              ap (λ k. closed_by f k r) on ∙ opened r
              ∙ ap (λ (s : DieState). is_covered s.spans r && not (nat_eq r round)) here
              ∙ ap (λ k. closed_by d k r && not (nat_eq r round)) (sym on)
          | inr apart ↦
              ap (λ (s : DieState). is_covered s.spans r) (others die apart) ∙ passed.opened die r (omega (arith, low, apart))
        ];
        windows = λ die low. elim (cases_eq die i) [
          | inl on ↦
              ap (λ k. window_by f k) on ∙ window ∙ ap (λ (s : DieState). left_window round s.window) here
              ∙ ap (λ k. left_window round (window_by d k)) (sym on)
          | inr apart ↦ ap (λ (s : DieState). s.window) (others die apart) ∙ passed.windows die (omega (arith, low, apart))
        ];
        same = λ die late. others die (λ on. omega (arith, on, late)) ∙ passed.same die (omega (arith, late));
      }

  -- idle dies are left out
  pub idle_skipped : (busy : Numbers) (from next : ℕ) (d e : List DieState) → HasPassed round from d e → AreIdle busy e → from ≤ next
      → ((die : ℕ) → from ≤ die → die < next → contains_key busy die ≡ false) → HasPassed round next d e
  idle_skipped busy from next d e passed idle grows bare = record {
    opened = λ die r low. elim (cases_lt die from) [
      | inl early ↦ passed.opened die r early
      | inr on ↦
          let none = idle.closed die r (bare die on low) in
          none ∙ sym (and_left (closed_by d die r) (not (nat_eq r round))
          (ap (λ (s : DieState). is_covered s.spans r) (sym (passed.same die on)) ∙ none))
    ];
    windows = λ die low. elim (cases_lt die from) [
      | inl early ↦ passed.windows die early
      | inr on ↦
          let none = idle.windows die (bare die on low) in
          none ∙ sym (ap (left_window round) (ap (λ (s : DieState). s.window) (sym (passed.same die on)) ∙ none))
    ];
    same = λ die late. passed.same die (omega (arith, late, grows));
  }

  -- at all dies
  module _ (next : ℕ) (d e : List DieState) (passed : HasPassed round next d e) (before : length d ≡ 256) (after : length e ≡ 256)
      (all : 256 ≤ next) where
    beyond : (die : ℕ) → next ≤ die → (l : List DieState) → length l ≡ 256 → state_of l die ≡ no_rounds
    beyond die late l long = get_or_past l die no_rounds (omega (arith, late, long, all))

    pub all_opened : (die r : ℕ) → closed_by e die r ≡ (closed_by d die r && not (nat_eq r round))
    all_opened die r =
        elim (cases_lt die next) [
          | inl low ↦ passed.opened die r low
          | inr late ↦
              ap (λ (s : DieState). is_covered s.spans r) (beyond die late e after)
              ∙ sym (and_left (closed_by d die r) (not (nat_eq r round)) (ap (λ (s : DieState). is_covered s.spans r) (beyond die late d before)))
        ]

    pub all_windows : (die : ℕ) → window_by e die ≡ left_window round (window_by d die)
    all_windows die =
        elim (cases_lt die next) [
          | inl low ↦ passed.windows die low
          | inr late ↦
              ap (λ (s : DieState). s.window) (beyond die late e after)
              ∙ sym (ap (λ (s : DieState). left_window round s.window) (beyond die late d before))
        ]
