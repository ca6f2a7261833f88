-- The bookings of a round go at one die after the other, and those dies are left out that have none.
use Rattle.fa_core_bookings.specs.Booked.{Entries, booking_at}
use Rattle.std.proofs.Common.{None, Option, ap, arith, eq-eqb, false, inl, inr, refl, sym, ℕ, ◌+◌, ◌<◌, ◌≢◌, ◌≤◌, ◌∙◌, ◌≡◌}
use Rattle.std.proofs.lemmas.Bool.{and_from, and_left, and_right, cases_eq, cases_lt, ne_eqb}
use Rattle.std.specs.Prelude.{if◌then◌else◌, ◌&&◌, ◌==◌}
use Rattle.fa_machine.specs.declared.places.Booking.{Booking}

-- The round's bookings are gone at the dies below a number, and all others are as before.
pub record IsForgotten (current next : ℕ) (old now : Entries) : Type 0 where
  pub gone : (d : ℕ) → d < next → booking_at now d current ≡ None
  pub later : (d : ℕ) → next ≤ d → booking_at now d current ≡ booking_at old d current
  pub others : (d r : ℕ) → r ≢ current → booking_at now d r ≡ booking_at old d r

pub none_forgotten : (current : ℕ) (old : Entries) → IsForgotten current 0 old old
none_forgotten current old = record {
  gone = λ d low. absurd (omega (arith, low));
  later = λ d high. refl;
  others = λ d r apart. refl;
}

-- what a table has at a place other than the one that is forgotten
at_other : (die d current r : ℕ) (o : Option Booking) → (die == d && current == r) ≡ false
    → (if die == d && current == r then None else o) ≡ o
at_other die d current r o off = ap (λ b. if b then None else o) off

-- at one die more
pub one_forgotten : (current die : ℕ) (old now new : Entries) → IsForgotten current die old now
    → ((d r : ℕ) → booking_at new d r ≡ (if die == d && current == r then None else booking_at now d r))
    → IsForgotten current (die + 1) old new
one_forgotten current die old now new before gone = record {
  gone = λ d low. gone d current ∙ elim (cases_eq d die) [
    | inl on ↦
        ap (λ b. if b then None else booking_at now d current)
        (and_from (die == d) (current == current) (eq-eqb die d (sym on)) (eq-eqb current current refl))
    | inr apart ↦
        at_other die d current current (booking_at now d current)
        (and_left (die == d) (current == current) (ne_eqb die d (λ same. apart (sym same))))
        ∙ before.gone d (omega (arith, low, apart))
  ];
  later = λ d high. gone d current
      ∙ at_other die d current current (booking_at now d current)
      (and_left (die == d) (current == current) (ne_eqb die d (λ same. omega (arith, same, high))))
      ∙ before.later d (omega (arith, high));
  others = λ d r apart. gone d r
      ∙ at_other die d current r (booking_at now d r)
      (and_right (die == d) (current == r) (ne_eqb current r (λ same. apart (sym same))))
      ∙ before.others d r apart;
}

-- dies without a booking of the round are left out
pub free_skipped : (current from next : ℕ) (old now : Entries) → IsForgotten current from old now → from ≤ next
    → ((d : ℕ) → from ≤ d → d < next → booking_at old d current ≡ None) → IsForgotten current next old now
free_skipped current from next old now before grows free = record {
  gone = λ d low. elim (cases_lt d from) [
    | inl early ↦ before.gone d early
    | inr on ↦ before.later d on ∙ free d on low
  ];
  later = λ d high. before.later d (omega (arith, high, grows));
  others = before.others;
}

-- at all dies
pub all_forgotten : (current next : ℕ) (old now : Entries) → IsForgotten current next old now
    → ((d : ℕ) → next ≤ d → booking_at old d current ≡ None)
    → (d r : ℕ) → booking_at now d r ≡ (if r == current then None else booking_at old d r)
all_forgotten current next old now before free d r =
    elim (cases_eq r current) [
      | inl same ↦
          ap (booking_at now d) same
          ∙ elim (cases_lt d next) [
            | inl low ↦ before.gone d low
            | inr high ↦ before.later d high ∙ free d high
          ]
          ∙ sym (ap (λ b. if b then None else booking_at old d r) (eq-eqb r current same))
      | inr apart ↦ before.others d r apart ∙ sym (ap (λ b. if b then None else booking_at old d r) (ne_eqb r current apart))
    ]
