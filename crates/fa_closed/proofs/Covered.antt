-- Spans of rounds that rise and do not touch.
use Rattle.std.proofs.Common.{◌≡◌, ℕ, zero, suc, ◌+◌, ◌-◌, ◌<◌, ◌≤◌, inl, inr, Bool, true, false, cond, not, ◌&&◌, ◌||◌, nat_eq, nat_le, nat_lt, min, max, List, [], ◌∷◌, ◌++◌, length, take, drop, set, get_or, refl, sym, ap, ◌∙◌, subst, arith, drop-cons}
use Rattle.std.specs.List.{sum_by, AllByRecursion}
use Rattle.std.specs.List.Sorted.{IsPartitionedBy}
use Rattle.std.proofs.lemmas.Bool.{ltb-true, cases_lt, and_left, and_right, and_from, and_parts, or_from, or_left, or_right, or_cases, le-leb, lt-leb, leb-true, lt-ltb, le-ltb, cond-true, cond-false}
use Rattle.std.proofs.lemmas.List.{take_more, take_more_set, length-set}
use Rattle.std.proofs.lemmas.List.Folds.{list_any-append}
use Rattle.std.proofs.lemmas.List.Sums.{sum_by-cons}
use Rattle.std.proofs.Math.Bool.{or-false, or_assoc}
use Rattle.std.proofs.Math.Seq.{take-length}
use Rattle.fa_types.specs.Open.{rounds_that}
use Rattle.fa_closed.specs.declared.spans.Span.{Span}
use Rattle.fa_closed.specs.declared.closed.Run.{Run}
use Rattle.fa_closed.specs.Runs.{any_closes, is_covered, is_from, AreRising, FewCovered, IsIndexFrom, IsNthFree}
use Rattle.fa_batch_terms.proofs.Counting.{AllByRecursion-weaker}
use Rattle.fa_closed.proofs.Windows.{rounds_that-same, rounds_that-add, rounds_that-none, rounds_that-not, rounds_that-join, rounds_that-from}

bit-or : (a b : Bool) → (a ≡ true → b ≡ true → ⊥) → cond {A = ℕ} (a || b) 1 0 ≡ cond a 1 0 + cond b 1 0
bit-or true true h = absurd (h refl refl)
bit-or true false h = refl
bit-or false true h = refl
bit-or false false h = refl

pub outside : (low high r : ℕ) → high < r → is_from low high r ≡ false
outside low high r h = and_right (nat_le low r) (nat_le r high) (lt-leb r high h)

pub before : (low high r : ℕ) → r < low → is_from low high r ≡ false
before low high r h = and_left (nat_le low r) (nat_le r high) (lt-leb low r h)

-- spans behind a round do not cover it
pub behind : (last r : ℕ) → r ≤ last → (spans : List Span) → AllByRecursion (λ t. last < t.first) spans → is_covered spans r ≡ false
behind last r h [] all = refl
behind last r h (s ∷ spans) all =
    let here : last < s.first = all.0 in
    or_from (is_from s.first s.last r) (is_covered spans r) (before s.first s.last r (omega arith)) (behind last r h spans all.1)

-- no two spans cover a round
apart : (s : Span) (spans : List Span) → AllByRecursion (λ t. s.last < t.first) spans → (r : ℕ) → is_from s.first s.last r ≡ true → is_covered spans r ≡ true → ⊥
apart s spans all r a b =
    let parts = and_parts (nat_le s.first r) (nat_le r s.last) a in
    let none = behind s.last r (leb-true r s.last parts.1) spans all in
    let no : ⊥ = cc in no

-- the covered rounds of a window, span by span
abbrev pub overlap_of : ℕ → ℕ → Span → ℕ
overlap_of from n s = min (s.last + 1) (from + n) - max s.first from

pub covered_sum : (from n : ℕ) (spans : List Span) → AreRising spans → rounds_that (is_covered spans) from n ≡ sum_by (overlap_of from n) spans
covered_sum from n [] rising = rounds_that-none (is_covered []) from n (λ r a b. refl)
covered_sum from n (s ∷ spans) rising =
    let split = rounds_that-add (is_from s.first s.last) (is_covered spans) (is_covered (s ∷ spans)) (λ r. bit-or (is_from s.first s.last r) (is_covered spans r) (apart s spans rising.1 r)) from n in
    let head = rounds_that-from s.first s.last from n in
    let rest = covered_sum from n spans rising.2 in
    let sum = sum_by-cons (overlap_of from n) s spans in
    omega (arith, split, head, rest, sum)

-- no more than the window has
pub covered_fits : (from n : ℕ) (spans : List Span) → AreRising spans → sum_by (overlap_of from n) spans ≤ n
covered_fits from n spans rising =
    let sum = covered_sum from n spans rising in
    let other = rounds_that-not (is_covered spans) from n in
    omega (arith, sum, other)

all_push : (P : Span → Type 0) (xs : List Span) (y : Span) → AllByRecursion P xs → P y → AllByRecursion P (xs ++ y ∷ [])
all_push P [] y all this = (this, tt)
all_push P (x ∷ xs) y all this = (all.0, all_push P xs y all.1 this)

-- A span more at the end.
pub rising_push : (xs : List Span) (y : Span) → AreRising xs → AllByRecursion (λ s. s.last < y.first) xs → y.first ≤ y.last → AreRising (xs ++ y ∷ [])
rising_push [] y rising below proper = (proper, tt, tt)
rising_push (x ∷ xs) y rising below proper = (rising.0, all_push (λ t. x.last < t.first) xs y rising.1 below.0, rising_push xs y rising.2 below.1 proper)

all_front : (P : Span → Type 0) (xs : List Span) (y : Span) → AllByRecursion P (xs ++ y ∷ []) → AllByRecursion P xs × P y
all_front P [] y all = (tt, all.0)
all_front P (x ∷ xs) y all = let rest = all_front P xs y all.1 in ((all.0, rest.0), rest.1)

rising_front : (xs : List Span) (y : Span) → AreRising (xs ++ y ∷ []) → AreRising xs × AllByRecursion (λ s. s.last < y.first) xs × (y.first ≤ y.last)
rising_front [] y rising = (tt, tt, rising.0)
rising_front (x ∷ xs) y rising =
    let parts = all_front (λ t. x.last < t.first) xs y rising.1 in
    let rest = rising_front xs y rising.2 in
    ((rising.0, parts.0, rest.0), (parts.1, rest.1), rest.2)

-- two spans that touch or overlap are one
pub join_is : (a b c d r : ℕ) → a ≤ c → c ≤ b + 1 → is_from a (max b d) r ≡ (is_from a b r || is_from c d r)
join_is a b c d r low touch =
    elim (cases_lt r a) [
      | inl early ↦ before a (max b d) r early ∙ sym (or_from (is_from a b r) (is_from c d r) (before a b r early) (before c d r (omega arith)))
      | inr from ↦ elim (cases_lt b r) [
        | inr in_first ↦ and_from (nat_le a r) (nat_le r (max b d)) (le-leb a r from) (le-leb r (max b d) (omega arith))
            ∙ sym (or_left (is_from a b r) (is_from c d r) (and_from (nat_le a r) (nat_le r b) (le-leb a r from) (le-leb r b in_first)))
        | inl past ↦ elim (cases_lt d r) [
          | inl out ↦ outside a (max b d) r (omega arith) ∙ sym (or_from (is_from a b r) (is_from c d r) (outside a b r past) (outside c d r out))
          | inr inside ↦ and_from (nat_le a r) (nat_le r (max b d)) (le-leb a r from) (le-leb r (max b d) (omega arith))
              ∙ sym (ap (λ v. v || is_from c d r) (outside a b r past) ∙ and_from (nat_le c r) (nat_le r d) (le-leb c r (omega arith)) (le-leb r d inside))
        ]
      ]
    ]

-- The last span made longer.
module _ (spans : List Span) (d : Span) (some : 0 < length spans) where
  front : List Span
  front = take (length spans - 1) spans

  top : Span
  top = get_or spans (length spans - 1) d

  pub whole_is : spans ≡ take (length spans - 1) spans ++ get_or spans (length spans - 1) d ∷ []
  whole_is =
      let end : length spans - 1 + 1 ≡ length spans = omega arith in
      sym (take-length spans) ∙ ap (λ n. take n spans) (sym end) ∙ take_more spans (length spans - 1) d (omega arith)

  pub changed_is : (y : Span) → set spans (length spans - 1) y ≡ take (length spans - 1) spans ++ y ∷ []
  changed_is y =
      let long : length (set spans (length spans - 1) y) ≡ length spans = simp length-set in
      let end : length spans - 1 + 1 ≡ length (set spans (length spans - 1) y) = omega (arith, long) in
      sym (take-length (set spans (length spans - 1) y)) ∙ ap (λ n. take n (set spans (length spans - 1) y)) (sym end) ∙ take_more_set spans (length spans - 1) y (omega arith)

-- spans of which the last ends before a round
pub all_below : (spans : List Span) (d : Span) (first : ℕ) → AreRising spans → (0 < length spans → (get_or spans (length spans - 1) d).last < first) → AllByRecursion (λ s. s.last < first) spans
all_below spans d first rising end =
    elim (cases_lt 0 (length spans)) [
      | inl some ↦
          (let whole = whole_is spans d some in
          let parts = rising_front (take (length spans - 1) spans) (get_or spans (length spans - 1) d) (subst AreRising whole rising) in
          let top = end some in
          subst (λ v. AllByRecursion (λ s. s.last < first) v) (sym whole)
          (all_push (λ s. s.last < first) (take (length spans - 1) spans) (get_or spans (length spans - 1) d)
          (AllByRecursion-weaker (λ s. s.last < (get_or spans (length spans - 1) d).first) (λ s. s.last < first) (λ s h. omega (arith, h, parts.2, top)) (take (length spans - 1) spans) parts.1) top))
      | inr none ↦ subst (λ v. AllByRecursion (λ s. s.last < first) v) (sym (no_spans spans (omega arith))) tt
    ]
  where
    no_spans : (xs : List Span) → length xs ≡ 0 → xs ≡ []
    no_spans [] h = refl
    no_spans (x ∷ xs) h = absurd (omega arith)

-- a span more
pub pushed : (spans : List Span) (first last : ℕ) → (r : ℕ) → is_covered (spans ++ record { first = first; last = last } ∷ []) r ≡ (is_covered spans r || is_from first last r)
pushed spans first last r =
    list_any-append (λ (s : Span). is_from s.first s.last r) spans (record { first = first; last = last } ∷ []) ∙ ap (λ b. is_covered spans r || b) (or-false (is_from first last r))

pub pushed_begins : (spans : List Span) (first last : ℕ) → AllByRecursion (λ s. s.first ≤ first) spans → AllByRecursion (λ s. s.first ≤ first) (spans ++ record { first = first; last = last } ∷ [])
pushed_begins spans first last all = all_push (λ s. s.first ≤ first) spans (record { first = first; last = last }) all (omega arith)

-- The last span made longer by one that touches it.
module _ (spans : List Span) (n : ℕ) (old : Span) (first last most : ℕ) (some : 0 < length spans) (end : n ≡ length spans - 1) (read : old ≡ get_or spans n old)
    (rising : AreRising spans) (later : AllByRecursion (λ s. s.first ≤ first) spans) (touch : first ≤ old.last + 1) (is_most : most ≡ max old.last last) where
  longer : Span
  longer = record { first = old.first; last = most }

  is_whole : spans ≡ take n spans ++ old ∷ []
  is_whole = subst (λ k. spans ≡ take k spans ++ old ∷ []) (sym end)
      (whole_is spans old some ∙ ap (λ v. take (length spans - 1) spans ++ v ∷ []) (subst (λ k. get_or spans k old ≡ old) end (sym read)))

  is_changed : set spans n (record { first = old.first; last = most }) ≡ take n spans ++ record { first = old.first; last = most } ∷ []
  is_changed = subst (λ k. set spans k (record { first = old.first; last = most }) ≡ take k spans ++ record { first = old.first; last = most } ∷ []) (sym end) (changed_is spans old some (record { first = old.first; last = most }))

  pub longer_rising : AreRising (set spans n (record { first = old.first; last = most }))
  longer_rising =
      let parts = rising_front (take n spans) old (subst AreRising is_whole rising) in
      subst AreRising (sym is_changed) (rising_push (take n spans) (record { first = old.first; last = most }) parts.0 parts.1 (omega (arith, parts.2, is_most)))

  pub longer_begins : AllByRecursion (λ s. s.first ≤ first) (set spans n (record { first = old.first; last = most }))
  longer_begins =
      let parts = all_front (λ s. s.first ≤ first) (take n spans) old (subst (λ v. AllByRecursion (λ s. s.first ≤ first) v) is_whole later) in
      subst (λ v. AllByRecursion (λ s. s.first ≤ first) v) (sym is_changed) (all_push (λ s. s.first ≤ first) (take n spans) (record { first = old.first; last = most }) parts.0 parts.1)

  pub longer_covers : (r : ℕ) → is_covered (set spans n (record { first = old.first; last = most })) r ≡ (is_covered spans r || is_from first last r)
  longer_covers r =
      let low = (all_front (λ s. s.first ≤ first) (take n spans) old (subst (λ v. AllByRecursion (λ s. s.first ≤ first) v) is_whole later)).1 in
      let join = ap (λ m. is_from old.first m r) is_most ∙ join_is old.first old.last first last r low touch in
      ap (λ v. is_covered v r) is_changed ∙ pushed (take n spans) old.first most r ∙ ap (λ b. is_covered (take n spans) r || b) join
      ∙ sym (or_assoc (is_covered (take n spans) r) (is_from old.first old.last r) (is_from first last r))
      ∙ ap (λ b. b || is_from first last r) (sym (ap (λ v. is_covered v r) is_whole ∙ pushed (take n spans) old.first old.last r))

-- How far the spans put off a round.
abbrev pub step_past : ℕ → ℕ → Span → ℕ
step_past from round s = cond (nat_le from s.last) (round + (s.last - max s.first from + 1)) round

abbrev pub nth_from : ℕ → ℕ → List Span → ℕ
nth_from from round [] = round
nth_from from round (s ∷ spans) = cond (nat_lt round s.first) round (nth_from from (step_past from round s) spans)

pub step_grows : (from round : ℕ) (s : Span) → round ≤ step_past from round s
step_grows from round s = elim (nat_le from s.last) as (λ b. round ≤ cond b (round + (s.last - max s.first from + 1)) round) [ true ↦ omega arith | false ↦ omega arith ]

pub nth_grows : (from : ℕ) (spans : List Span) (round : ℕ) → round ≤ nth_from from round spans
nth_grows from [] round = omega arith
nth_grows from (s ∷ spans) round =
    let step = step_grows from round s in
    let rest = nth_grows from spans (step_past from round s) in
    elim (nat_lt round s.first) as (λ b. round ≤ cond b round (nth_from from (step_past from round s) spans)) [ true ↦ omega arith | false ↦ omega (arith, step, rest) ]

-- what is known of a round: it is not covered, and so many before it are not
pub record IsNth (from n : ℕ) (test : ℕ → Bool) (round : ℕ) : Type 0 where
  pub late : from ≤ round
  pub free : test round ≡ false
  pub count : rounds_that test from (round + 1 - from) + from + n ≡ round + 1

is_nth-same : (from n : ℕ) (p q : ℕ → Bool) (round : ℕ) → ((r : ℕ) → r ≤ round → p r ≡ q r) → IsNth from n p round → IsNth from n q round
is_nth-same from n p q round same is =
    let equal = rounds_that-same p q from (round + 1 - from) (λ r a b. same r (omega (arith, a, b, is.late))) in
    let count = is.count in
    record { late = is.late; free = sym (same round (omega arith)) ∙ is.free; count = omega (arith, equal, count) }

nth_is : (from n : ℕ) (spans : List Span) → AreRising spans → (front : ℕ → Bool) (round : ℕ) → ((r : ℕ) → round ≤ r → front r ≡ false) → ((r : ℕ) → front r ≡ true → is_covered spans r ≡ true → ⊥)
    → IsNth from n front round → IsNth from n (λ r. front r || is_covered spans r) (nth_from from round spans)
nth_is from n [] rising front round over other is = is_nth-same from n front (λ r. front r || false) round (λ r h. sym (or-false (front r))) is
nth_is from n (s ∷ spans) rising front round over other is =
    elim (cases_lt round s.first) [
      | inl early ↦
          (let stays : nth_from from round (s ∷ spans) ≡ round = cond-true (nat_lt round s.first) round (nth_from from (step_past from round s) spans) (lt-ltb round s.first early) in
          subst (λ k. IsNth from n (λ r. front r || is_covered (s ∷ spans) r) k) (sym stays)
          (is_nth-same from n front (λ r. front r || is_covered (s ∷ spans) r) round
          (λ r h. sym (ap (λ b. front r || b)
          (or_from (is_from s.first s.last r) (is_covered spans r) (before s.first s.last r (omega (arith, h, early))) (behind s.last r (omega (arith, h, early, rising.0)) spans rising.1))
          ∙ or-false (front r))) is))
      | inr reached ↦
          (let goes : nth_from from round (s ∷ spans) ≡ nth_from from (step_past from round s) spans =
          cond-false (nat_lt round s.first) round (nth_from from (step_past from round s) spans) (le-ltb round s.first reached) in
          let next : ℕ = step_past from round s in
          let grows = step_grows from round s in
          let late = is.late in
          let past : s.last < step_past from round s =
          elim (cases_lt s.last from) [
            | inl gone ↦ (let e = cond-false (nat_le from s.last) (round + (s.last - max s.first from + 1)) round (lt-leb from s.last gone) in omega (arith, e, late, gone))
            | inr there ↦ (let e = cond-true (nat_le from s.last) (round + (s.last - max s.first from + 1)) round (le-leb from s.last there) in omega (arith, e, late, reached, there))
          ] in
          let shared : (r : ℕ) → front r ≡ true → is_from s.first s.last r ≡ true → ⊥ = λ r a b. other r a (or_left (is_from s.first s.last r) (is_covered spans r) b) in
          let split = rounds_that-add front (is_from s.first s.last) (λ r. front r || is_from s.first s.last r) (λ r. bit-or (front r) (is_from s.first s.last r) (shared r)) from (next + 1 - from) in
          let inside = rounds_that-from s.first s.last from (next + 1 - from) in
          let cut : next + 1 - from ≡ (round + 1 - from) + (next - round) = omega (arith, late, grows) in
          let parts = ap (λ k. rounds_that front from k) cut ∙ rounds_that-join front from (round + 1 - from) (next - round) in
          let none = rounds_that-none front (from + (round + 1 - from)) (next - round) (λ r a b. over r (omega (arith, a, late))) in
          let count = is.count in
          let length_is : next - round ≡ min (s.last + 1) (from + (next + 1 - from)) - max s.first from =
          elim (cases_lt s.last from) [
            | inl gone ↦ (let e = cond-false (nat_le from s.last) (round + (s.last - max s.first from + 1)) round (lt-leb from s.last gone) in omega (arith, e, late, gone))
            | inr there ↦ (let e = cond-true (nat_le from s.last) (round + (s.last - max s.first from + 1)) round (le-leb from s.last there) in omega (arith, e, late, reached, there, rising.0))
          ] in
          let step : IsNth from n (λ r. front r || is_from s.first s.last r) next = record {
            late = omega (arith, late, grows);
            free = or_from (front next) (is_from s.first s.last next) (over next grows) (outside s.first s.last next past);
            count = omega (arith, split, inside, parts, none, count, length_is, grows);
          } in
          let all = nth_is from n spans rising.2 (λ r. front r || is_from s.first s.last r) next
          (λ r h. or_from (front r) (is_from s.first s.last r) (over r (omega (arith, h, grows))) (outside s.first s.last r (omega (arith, h, past))))
          (λ r a b. elim (or_cases (front r) (is_from s.first s.last r) a) [
            | inl f ↦ other r f (or_right (is_from s.first s.last r) (is_covered spans r) b)
            | inr i ↦ apart s spans rising.1 r i b
          ])
          step in
          subst (λ k. IsNth from n (λ r. front r || is_covered (s ∷ spans) r) k) (sym goes)
          (is_nth-same from n (λ r. (front r || is_from s.first s.last r) || is_covered spans r) (λ r. front r || is_covered (s ∷ spans) r) (nth_from from next spans)
          (λ r h. or_assoc (front r) (is_from s.first s.last r) (is_covered spans r)) all))
    ]

-- the round that is found is the n-th
nth_found : (from n : ℕ) (spans : List Span) → AreRising spans → 1 ≤ n → IsNth from n (is_covered spans) (nth_from from (from + (n - 1)) spans)
nth_found from n spans rising some =
    let none = rounds_that-none (λ _. false) from (from + (n - 1) + 1 - from) (λ r a b. refl) in
    nth_is from n spans rising (λ _. false) (from + (n - 1)) (λ r h. refl) (λ r a b. cc)
    (record { late = omega arith; free = refl; count = omega (arith, none, some) })

-- so many before it are free
nth_before : (from n : ℕ) (test : ℕ → Bool) (round : ℕ) → IsNth from n test round → (m : ℕ) → from + m ≡ round → rounds_that (λ r. not (test r)) from m + 1 ≡ n
nth_before from n test round is m at =
    let size : round + 1 - from ≡ m + 1 = omega (arith, at) in
    let count = is.count in
    let whole = ap (λ k. rounds_that test from k) size ∙ rounds_that-join test from m 1 in
    let last = rounds_that-none test (from + m) 1 (λ r a b. let here : r ≡ round = omega (arith, a, b, at) in ap test here ∙ is.free) in
    let others = rounds_that-not test from m in
    omega (arith, size, count, whole, last, others, at)

pub nth_is_free : (from n : ℕ) (spans : List Span) → AreRising spans → 1 ≤ n → (round : ℕ) → round ≡ nth_from from (from + (n - 1)) spans → IsNthFree spans from n round
nth_is_free from n spans rising some round at =
    let is = subst (λ r. IsNth from n (is_covered spans) r) (sym at) (nth_found from n spans rising some) in
    record { late = is.late; free = is.free; before = nth_before from n (is_covered spans) round is }

-- a span ends no earlier than it begins
pub rising_at : (spans : List Span) (i : ℕ) (d : Span) → AreRising spans → i < length spans → (get_or spans i d).first ≤ (get_or spans i d).last
rising_at [] i d rising below = absurd (omega arith)
rising_at (s ∷ spans) zero d rising below = rising.0
rising_at (s ∷ spans) (suc i) d rising below = rising_at spans i d rising.2 (omega arith)

module _ (from n : ℕ) (spans : List Span) (rising : AreRising spans) (some : 1 ≤ n) (few : FewCovered spans from) where
  -- the round that is found is not far
  pub found_near : nth_from from (from + (n - 1)) spans < 1048576 + from + n
  found_near =
      let is = nth_found from n spans rising some in
      let count = is.count in
      let most = few (nth_from from (from + (n - 1)) spans + 1 - from) in
      omega (arith, count, most)

  -- nor is any on the way to it
  pub step_near : (i round : ℕ) (d : Span) → i < length spans → nth_from from round (drop i spans) ≡ nth_from from (from + (n - 1)) spans
      → (get_or spans i d).first ≤ round → from ≤ (get_or spans i d).last
      → round + ((get_or spans i d).last - max (get_or spans i d).first from + 1) < 1048576 + from + n
  step_near i round d below is reached there =
      let s : Span = get_or spans i d in
      let cut = ap (λ v. nth_from from round v) (drop-cons spans i d below) in
      let goes = cond-false (nat_lt round s.first) round (nth_from from (step_past from round s) (drop (suc i) spans)) (le-ltb round s.first reached) in
      let step = cond-true (nat_le from s.last) (round + (s.last - max s.first from + 1)) round (le-leb from s.last there) in
      let grows = nth_grows from (drop (suc i) spans) (step_past from round s) in
      let near = found_near in
      omega (arith, cut, goes, step, grows, near, is)

-- a round that no span before it puts off any more
pub stays_early : (from round : ℕ) (spans : List Span) (i : ℕ) (d : Span) → i < length spans → round < (get_or spans i d).first → nth_from from round (drop i spans) ≡ round
stays_early from round spans i d below early =
    ap (λ v. nth_from from round v) (drop-cons spans i d below)
    ∙ cond-true (nat_lt round (get_or spans i d).first) round (nth_from from (step_past from round (get_or spans i d)) (drop (suc i) spans)) (lt-ltb round (get_or spans i d).first early)

pub stays_past : (from round : ℕ) (spans : List Span) (i : ℕ) → length spans ≤ i → nth_from from round (drop i spans) ≡ round
stays_past from round [] zero past = refl
stays_past from round [] (suc i) past = refl
stays_past from round (s ∷ spans) zero past = absurd (omega arith)
stays_past from round (s ∷ spans) (suc i) past = stays_past from round spans i (omega arith)

-- Runs that end soon.
soon_none : (most now die : ℕ) (runs : List Run) → AllByRecursion (λ run. run.last.0 - now < most) runs → (r : ℕ) → now + most ≤ r → any_closes runs die r ≡ false
soon_none most now die [] all r late = refl
soon_none most now die (run ∷ runs) all r late =
    let soon : run.last.0 - now < most = all.0 in
    or_from (nat_eq run.die.0 die && is_from run.first.0 run.last.0 r) (any_closes runs die r)
    (and_right (nat_eq run.die.0 die) (is_from run.first.0 run.last.0 r) (outside run.first.0 run.last.0 r (omega (arith, soon, late)))) (soon_none most now die runs all.1 r late)

-- no die has more than so many rounds closed
pub few_soon : (most now : ℕ) (runs : List Run) → AllByRecursion (λ run. run.last.0 - now < most) runs → (die n : ℕ) → rounds_that (any_closes runs die) now n ≤ most
few_soon most now runs all die n =
    elim (cases_lt n most) [
      | inl short ↦ (let fits = rounds_that-not (any_closes runs die) now n in omega (arith, fits, short))
      | inr long ↦
          (let cut : n ≡ most + (n - most) = omega arith in
          let parts = ap (λ k. rounds_that (any_closes runs die) now k) cut ∙ rounds_that-join (any_closes runs die) now most (n - most) in
          let none = rounds_that-none (any_closes runs die) (now + most) (n - most) (λ r a b. soon_none most now die runs all r a) in
          let fits = rounds_that-not (any_closes runs die) now most in
          omega (arith, parts, none, fits))
    ]

-- a span that comes later begins behind the end of one before it
pub rising_pair : (spans : List Span) (i j : ℕ) (d : Span) → AreRising spans → i < j → j < length spans → (get_or spans i d).last < (get_or spans j d).first
rising_pair [] i j d rising below within = absurd (omega arith)
rising_pair (s ∷ spans) zero zero d rising below within = absurd (omega arith)
rising_pair (s ∷ spans) zero (suc j) d rising below within = every_at (λ t. s.last < t.first) spans j d rising.1 (omega arith)
  where
    every_at : (P : Span → Type 0) (xs : List Span) (i : ℕ) (d : Span) → AllByRecursion P xs → i < length xs → P (get_or xs i d)
    every_at P [] i d all within = absurd (omega arith)
    every_at P (x ∷ xs) zero d all within = all.0
    every_at P (x ∷ xs) (suc i) d all within = every_at P xs i d all.1 (omega arith)
rising_pair (s ∷ spans) (suc i) zero d rising below within = absurd (omega arith)
rising_pair (s ∷ spans) (suc i) (suc j) d rising below within = rising_pair spans i j d rising.2 (omega arith) (omega arith)

-- so spans that end before a round come before those that do not
pub ends_first : (spans : List Span) (round : ℕ) → AreRising spans → IsPartitionedBy (λ s. nat_lt s.last round) spans
ends_first spans round rising i j d low below late =
    elim (cases_lt i j) [
      | inl earlier ↦
          (let apart = rising_pair spans i j d rising earlier below in
          let proper = rising_at spans j d rising below in
          lt-ltb (get_or spans i d).last round (omega (arith, apart, proper, ltb-true (get_or spans j d).last round late)))
      | inr same ↦ (let here : i ≡ j = omega arith in subst (λ k. nat_lt (get_or spans k d).last round ≡ true) (sym here) late)
    ]

-- whether a round is covered shows at the first span that does not end before it
pub covered_from : (spans : List Span) (round index : ℕ) (d : Span) → AreRising spans → IsIndexFrom spans round index → index < length spans → is_covered spans round ≡ nat_le (get_or spans index d).first round
covered_from [] round index d rising is within = absurd (omega arith)
covered_from (s ∷ spans) round zero d rising is within =
    let late : round ≤ s.last = is.after 0 s (omega arith) (omega arith) in
    elim (cases_lt round s.first) [
      | inl early ↦ or_from (is_from s.first s.last round) (is_covered spans round) (before s.first s.last round early) (behind s.last round late spans rising.1) ∙ sym (lt-leb s.first round early)
      | inr begun ↦ or_left (is_from s.first s.last round) (is_covered spans round) (and_from (nat_le s.first round) (nat_le round s.last) (le-leb s.first round begun) (le-leb round s.last late)) ∙ sym (le-leb s.first round begun)
    ]
covered_from (s ∷ spans) round (suc index) d rising is within =
    let gone : s.last < round = is.before 0 s (omega arith) in
    ap (λ b. b || is_covered spans round) (outside s.first s.last round gone)
    ∙ covered_from spans round index d rising.2 (record { within = omega (arith, is.within); before = λ i e below. is.before (suc i) e (omega arith); after = λ i e low below. is.after (suc i) e (omega arith) (omega arith) }) (omega arith)

pub covered_past : (spans : List Span) (round index : ℕ) → AreRising spans → IsIndexFrom spans round index → length spans ≤ index → is_covered spans round ≡ false
covered_past [] round index rising is past = refl
covered_past (s ∷ spans) round zero rising is past = absurd (omega arith)
covered_past (s ∷ spans) round (suc index) rising is past =
    let gone : s.last < round = is.before 0 s (omega arith) in
    or_from (is_from s.first s.last round) (is_covered spans round) (outside s.first s.last round gone)
    (covered_past spans round index rising.2 (record { within = omega (arith, is.within); before = λ i e below. is.before (suc i) e (omega arith); after = λ i e low below. is.after (suc i) e (omega arith) (omega arith) }) (omega arith))
