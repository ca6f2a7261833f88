-- What is found in the finite maps that bookings stand for; and, as the trait of rounds asks, the closed rounds of a die are few.
use Rattle.fa_core_bookings.specs.Booked.{Entries, booking_at, windows_in}
use Rattle.fa_core_bookings.specs.Bookings.{calendar_of}
use Rattle.fa_core_bookings.specs.declared.bookings.Bookings.{Bookings}
use Rattle.fa_calendar.specs.Calendar.{is_booked, is_closed, window_of}
use Rattle.fa_calendar.specs.DieState.{DieState}
use Rattle.fa_calendar.specs.Dies.{no_rounds}
use Rattle.fa_calendar.specs.declared.calendar.Calendar.{Calendar}
use Rattle.fa_machine.proofs.Maps.{place_cmp_total, place_tied}
use Rattle.fa_machine.specs.Maps.{place_cmp}
use Rattle.fa_machine.specs.Rounds.{is_taken}
use Rattle.fa_types.specs.Open.{FewClosed}
use Rattle.fa_types.specs.Windows.{is_in_window}
use Rattle.fa_types.specs.declared.window.Window.{Window}
use Rattle.std.proofs.Common.{None, Option, Some, [], ap, arith, cond, eq-eqb, inl, inr, refl, subst, suc, sym, zero, ℕ}
use Rattle.std.proofs.Common.{◌+◌, ◌<◌, ◌≤◌, ◌∙◌, ◌∷◌, ◌≡◌}
use Rattle.std.proofs.lemmas.Bool.{cases_eq, cases_lt, ne_eqb}
use Rattle.std.proofs.lemmas.List.{get_or_past}
use Rattle.std.specs.Cmp.{nat_cmp_total, unsigned_tied}
use Rattle.std.specs.FinMap.{contains_key, find, from_entries, get, get-from_entries}
use Rattle.std.specs.List.{cons_option, filter_map, range_with_len}
use Rattle.std.specs.Ordering.{nat_cmp}
use Rattle.std.specs.Prelude.{is_some, option_map, ◌||◌}

found_is : (die round : ℕ) (es : Entries) → find place_cmp (die, round) es ≡ booking_at es die round
found_is die round [] = refl
found_is die round (e ∷ es) = λ i. cond (place_tied (die, round) e.0 i) (Some e.1) (found_is die round es i)

pub get_booked : (es : Entries) (die round : ℕ) → get (from_entries {R = place_cmp} es) (die, round) ≡ booking_at es die round
get_booked es die round = get-from_entries place_cmp_total es (die, round) ∙ found_is die round es

module _ (f : ℕ → Option Window) where
  abbrev entry : ℕ → Option (ℕ × Window)
  entry die = option_map (λ window. (die, window)) (f die)

  -- what is found behind the entry of one die
  abbrev behind : (q a n : ℕ) → Option Window → Option Window
  behind q a n o = find nat_cmp q (cons_option (option_map (λ window. (a, window)) o) (filter_map entry (range_with_len (a + 1) n)))

  skipped : (q a n : ℕ) → (q ≡ a → ⊥) → (o : Option Window) → behind q a n o ≡ find nat_cmp q (filter_map entry (range_with_len (a + 1) n))
  skipped q a n apart None = refl
  skipped q a n apart (Some w) =
      ap (λ b. cond b (Some w) (find nat_cmp q (filter_map entry (range_with_len (a + 1) n)))) (unsigned_tied q a ∙ ne_eqb q a apart)

  found_here : (q a n : ℕ) → q ≡ a → find nat_cmp q (filter_map entry (range_with_len (a + 1) n)) ≡ None → (o : Option Window)
      → behind q a n o ≡ o
  found_here q a n same rest None = rest
  found_here q a n same rest (Some w) =
      ap (λ b. cond b (Some w) (find nat_cmp q (filter_map entry (range_with_len (a + 1) n)))) (unsigned_tied q a ∙ eq-eqb q a same)

  found_past : (q a n : ℕ) → q < a → find nat_cmp q (filter_map entry (range_with_len a n)) ≡ None
  found_past q a zero low = refl
  found_past q a (suc n) low = skipped q a n (λ e. omega (arith, low, e)) (f a) ∙ found_past q (a + 1) n (omega (arith, low))

  found_in : (q a n : ℕ) → a ≤ q → q < a + n → find nat_cmp q (filter_map entry (range_with_len a n)) ≡ f q
  found_in q a zero low high = absurd (omega (arith, low, high))
  found_in q a (suc n) low high =
      elim (cases_eq q a) [
        | inl same ↦ found_here q a n same (found_past q (a + 1) n (omega (arith, same))) (f a) ∙ ap f (sym same)
        | inr apart ↦ skipped q a n apart (f a) ∙ found_in q (a + 1) n (omega (arith, low, apart)) (omega (arith, high))
      ]

  found_above : (q a n : ℕ) → a + n ≤ q → find nat_cmp q (filter_map entry (range_with_len a n)) ≡ None
  found_above q a zero high = refl
  found_above q a (suc n) high = skipped q a n (λ e. omega (arith, high, e)) (f a) ∙ found_above q (a + 1) n (omega (arith, high))

  pub get_windows : ((die : ℕ) → 256 ≤ die → f die ≡ None) → (die : ℕ) → get (windows_in f) die ≡ f die
  get_windows few die =
      get-from_entries nat_cmp_total (filter_map entry (range_with_len 0 256)) die
      ∙ elim (cases_lt die 256) [
        | inl low ↦ found_in die 0 256 (omega arith) low
        | inr high ↦ found_above die 0 256 high ∙ sym (few die high)
      ]

-- a calendar has no die beyond the 256th
pub past : {A : Type 0} (calendar : Calendar A) → (die : ℕ) → 256 ≤ die → window_of calendar die ≡ None
past calendar die high =
    let long = calendar.sound.long in
    ap (λ (s : DieState). s.window) (get_or_past calendar.dies.items die no_rounds (omega (arith, long, high)))

module _ {A : Type 0} (b : Bookings A) where
  pub booked_is : (die round : ℕ) → is_booked b.calendar die round ≡ contains_key (calendar_of b).bookings (die, round)
  booked_is die round = b.agree die round ∙ sym (ap is_some (get_booked b.booked.entries die round))

  pub window_is : (die : ℕ) → window_of b.calendar die ≡ get (calendar_of b).windows die
  window_is die = sym (get_windows (window_of b.calendar) (past b.calendar) die)

  pub taken_is : (die : ℕ) → is_closed b.calendar die ≡ is_taken (calendar_of b) die
  taken_is die i round = booked_is die round i || is_in_window (window_is die i) round

-- the closed rounds of a die are few
pub few_of : {A : Type 0} (b : Bookings A) → FewClosed (calendar_of b).round (is_taken (calendar_of b))
few_of b = subst (FewClosed b.calendar.current) (λ i die. taken_is b die i) b.calendar.sound.few
