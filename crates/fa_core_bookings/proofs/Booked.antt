-- Tables of booked rounds as finite maps.
use Rattle.fa_core_bookings.specs.Booked.{Entries, booking_at}
use Rattle.fa_core_bookings.specs.Found.{get_booked}
use Rattle.fa_machine.proofs.Maps.{get-keep, passed, place_cmp_total, place_same, place_tied}
use Rattle.fa_machine.specs.Maps.{keep, place_cmp}
use Rattle.fa_machine.specs.declared.places.Booking.{Booking}
use Rattle.std.proofs.Common.{Bool, None, Option, Some, [], ap, arith, cond, eq-eqb, eqb-true, false, inl, inr, length, refl, sym, true}
use Rattle.std.proofs.Common.{ℕ, ◌∙◌, ◌∷◌, ◌≡◌}
use Rattle.std.proofs.lemmas.Bool.{and_from, and_parts, cases_Bool, cases_eq, false_from_ne_true, false≢true, lt-ltb, ltb-true, ne_eqb}
use Rattle.std.specs.FinMap.{FinMap, contains_key, empty_of_len, from_entries, get, get-empty, get-insert}
use Rattle.std.specs.FinMap.{get-remove, insert, len, len-empty, remove, same_map}
use Rattle.std.specs.Ordering.{eq_by_cmp}
use Rattle.std.specs.Prelude.{filter, if◌then◌else◌, is_some, nat_lt, not, ◌&&◌, ◌==◌, ◌≤◌}

pub same_bookings : (m n : FinMap place_cmp Booking) → ((die round : ℕ) → get m (die, round) ≡ get n (die, round)) → m ≡ n
same_bookings m n alike = same_map place_cmp_total place_same m n (λ q. alike q.0 q.1)

pub eqb_swap : (a b : ℕ) → (a == b) ≡ (b == a)
eqb_swap a b =
    elim (cases_eq a b) [
      | inl same ↦ eq-eqb a b same ∙ sym (eq-eqb b a (sym same))
      | inr apart ↦ ne_eqb a b apart ∙ sym (ne_eqb b a (λ e. apart (sym e)))
    ]

pub here_tied : (die round d r : ℕ) → (die == d && round == r) ≡ eq_by_cmp place_cmp (d, r) (die, round)
here_tied die round d r = (λ i. eqb_swap die d i && eqb_swap round r i) ∙ sym (place_tied (d, r) (die, round))

-- two tables that differ at one place
module _ (old new : Entries) (die round : ℕ) (w : Option Booking)
    (updated : (d r : ℕ) → booking_at new d r ≡ (if die == d && round == r then w else booking_at old d r)) where
  get_updated : (d r : ℕ) → get (from_entries {R = place_cmp} new) (d, r)
      ≡ cond (eq_by_cmp place_cmp (d, r) (die, round)) w (get (from_entries {R = place_cmp} old) (d, r))
  get_updated d r =
      get_booked new d r ∙ updated d r ∙ ap (λ b. cond b w (booking_at old d r)) (here_tied die round d r)
      ∙ ap (cond (eq_by_cmp place_cmp (d, r) (die, round)) w) (sym (get_booked old d r))

  pub inserted : (b : Booking) → w ≡ Some b → from_entries {R = place_cmp} new ≡ insert (from_entries old) (die, round) b
  inserted b is =
      same_bookings _ _ (λ d r. get_updated d r
      ∙ ap (λ o. cond (eq_by_cmp place_cmp (d, r) (die, round)) o (get (from_entries {R = place_cmp} old) (d, r))) is
      ∙ sym (get-insert place_cmp_total (from_entries old) (die, round) b (d, r)))

  pub removed : w ≡ None → from_entries {R = place_cmp} new ≡ remove (from_entries old) (die, round)
  removed is =
      same_bookings _ _ (λ d r. get_updated d r
      ∙ ap (λ o. cond (eq_by_cmp place_cmp (d, r) (die, round)) o (get (from_entries {R = place_cmp} old) (d, r))) is
      ∙ sym (get-remove place_cmp_total (from_entries old) (die, round) (d, r)))

  -- where it was booked before and is, the same places are booked
  pub still_there : is_some w ≡ true → is_some (booking_at old die round) ≡ true
      → (d r : ℕ) → is_some (booking_at new d r) ≡ is_some (booking_at old d r)
  still_there now before d r =
      ap is_some (updated d r) ∙ elim (cases_Bool (die == d && round == r)) [
        | inl tied ↦
            let parts = and_parts (die == d) (round == r) tied in
            ap (λ b. is_some (if b then w else booking_at old d r)) tied ∙ now
            ∙ sym (ap is_some (λ i. booking_at old (sym (eqb-true die d parts.0) i) (sym (eqb-true round r parts.1) i)) ∙ before)
        | inr apart ↦ ap (λ b. is_some (if b then w else booking_at old d r)) apart
      ]

  -- where it is gone, the others are as before
  pub others_there : w ≡ None → (d r : ℕ) → is_some (booking_at new d r) ≡ (is_some (booking_at old d r) && not (die == d && round == r))
  others_there gone d r =
      ap is_some (updated d r) ∙ ap (λ o. is_some (if die == d && round == r then o else booking_at old d r)) gone
      ∙ go (die == d && round == r) (booking_at old d r)
    where
      go : (b : Bool) (o : Option Booking) → is_some (if b then None else o) ≡ (is_some o && not b)
      go true None = refl
      go true (Some x) = refl
      go false None = refl
      go false (Some x) = refl

pub no_bookings : (es : Entries) → length es ≡ 0 → len (from_entries {R = place_cmp} es) ≡ 0
no_bookings [] none = len-empty place_cmp Booking
no_bookings (e ∷ es) none = absurd (omega (arith, none))

pub no_entries : (es : Entries) → len (from_entries {R = place_cmp} es) ≡ 0 → length es ≡ 0
no_entries [] none = refl
no_entries (e ∷ es) none =
    let nothing = empty_of_len (from_entries (e ∷ es)) none in
    absurd (false≢true (sym (ap (λ m. contains_key m e.0) nothing ∙ ap is_some (get-empty place_cmp e.0))
    ∙ ap is_some (get_booked (e ∷ es) e.0.0 e.0.1)
    ∙ ap (λ b. is_some (cond b (Some e.1) (booking_at es e.0.0 e.0.1)))
    (and_from (e.0.0 == e.0.0) (e.0.1 == e.0.1) (eq-eqb e.0.0 e.0.0 refl) (eq-eqb e.0.1 e.0.1 refl))))

-- The bookings that are left where some places are given up, by a test of places.
pub left : (old new : Entries) (test : ℕ × ℕ → Bool)
    → ((die round : ℕ) → booking_at new die round ≡ (if test (die, round) then booking_at old die round else None))
    → from_entries {R = place_cmp} new ≡ keep (λ place b. test place) (from_entries old)
left old new test same =
    same_bookings _ _ (λ die round. get_booked new die round ∙ same die round
    ∙ go (test (die, round)) (booking_at old die round)
    ∙ ap (passed (λ b. test (die, round))) (sym (get_booked old die round))
    ∙ sym (get-keep place_cmp_total place_same (λ place b. test place) (from_entries old) (die, round)))
  where
    go : (b : Bool) (o : Option Booking) → (if b then o else None) ≡ passed (λ x. b) o
    go true None = refl
    go true (Some x) = refl
    go false None = refl
    go false (Some x) = refl

-- whether a place is on another die
abbrev pub is_elsewhere : ℕ → (ℕ × ℕ) × Booking → Bool
is_elsewhere die e = not (e.0.0 == die)

pub nothing_else : (b : Bool) (o : Option Booking) → o ≡ None → (if b then None else o) ≡ None
nothing_else true o none = refl
nothing_else false o none = none

pub nothing_here : (b : Bool) (o : Option Booking) → o ≡ None → (if b then o else None) ≡ None
nothing_here true o none = none
nothing_here false o none = refl

-- what is left where a die's bookings go
pub without_die : (die : ℕ) (es : Entries) (d r : ℕ)
    → booking_at (filter (is_elsewhere die) es) d r ≡ (if d == die then None else booking_at es d r)
without_die die [] d r = sym (nothing_else (d == die) None refl)
without_die die (e ∷ es) d r =
    elim (cases_Bool (d == e.0.0 && r == e.0.1)) [
      | inl tied ↦
          let parts = and_parts (d == e.0.0) (r == e.0.1) tied in
          let at_die : e.0.0 ≡ d = sym (eqb-true d e.0.0 parts.0) in
          elim (cases_Bool (d == die)) [
            | inl here ↦
                ap (λ b. booking_at (cond (not b) (e ∷ filter (is_elsewhere die) es) (filter (is_elsewhere die) es)) d r)
                (ap (λ n. n == die) at_die ∙ here)
                ∙ without_die die es d r ∙ ap (λ b. if b then None else booking_at es d r) here
                ∙ sym (ap (λ b. if b then None else booking_at (e ∷ es) d r) here)
            | inr away ↦
                ap (λ b. booking_at (cond (not b) (e ∷ filter (is_elsewhere die) es) (filter (is_elsewhere die) es)) d r)
                (ap (λ n. n == die) at_die ∙ away)
                ∙ ap (λ b. cond b (Some e.1) (booking_at (filter (is_elsewhere die) es) d r)) tied
                ∙ sym (ap (λ b. cond b (Some e.1) (booking_at es d r)) tied)
                ∙ sym (ap (λ b. if b then None else booking_at (e ∷ es) d r) away)
          ]
      | inr apart ↦
          passed_by apart (is_elsewhere die e) (filter (is_elsewhere die) es) ∙ without_die die es d r
          ∙ ap (λ o. if d == die then None else o) (sym (ap (λ b. cond b (Some e.1) (booking_at es d r)) apart))
    ]
  where
    passed_by : (d == e.0.0 && r == e.0.1) ≡ false → (b : Bool) (rest : Entries)
        → booking_at (cond b (e ∷ rest) rest) d r ≡ booking_at rest d r
    passed_by apart true rest = ap (λ b. cond b (Some e.1) (booking_at rest d r)) apart
    passed_by apart false rest = refl

pub flipped : (b : Bool) (o : Option Booking) → (if b then None else o) ≡ (if not b then o else None)
flipped true o = refl
flipped false o = refl

pub some_flipped : (b : Bool) (o : Option Booking) → is_some (if b then None else o) ≡ (not b && is_some o)
some_flipped true o = refl
some_flipped false o = refl

pub some_left : (b : Bool) (o : Option Booking) → is_some (if b then o else None) ≡ (b && is_some o)
some_left true o = refl
some_left false o = refl

-- what is left where a round has passed, of bookings that are not before it
pub advanced : (current r : ℕ) (o : Option Booking) → (is_some o ≡ true → current ≤ r)
    → (if r == current then None else o) ≡ (if nat_lt current r then o else None)
advanced current r None late = nothing_else (r == current) None refl ∙ sym (nothing_here (nat_lt current r) None refl)
advanced current r (Some b) late =
    let from = late refl in
    elim (cases_eq r current) [
      | inl same ↦
          ap (λ x. if x then None else Some b) (eq-eqb r current same)
          ∙ sym (ap (λ x. if x then Some b else None)
          (false_from_ne_true _ (λ above. let less = ltb-true current r above in omega (arith, same, less))))
      | inr apart ↦
          ap (λ x. if x then None else Some b) (ne_eqb r current apart)
          ∙ sym (ap (λ x. if x then Some b else None) (lt-ltb current r (omega (arith, apart, from))))
    ]
