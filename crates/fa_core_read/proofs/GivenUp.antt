-- Places that are given up one by one.
use Rattle.fa_batch_terms.specs.declared.place.Place.{Place}
use Rattle.fa_core_bookings.specs.Places.{without_places}
use Rattle.fa_calendar.specs.Dies.{is_at, is_one}
use Rattle.fa_machine.proofs.Maps.{get-keep, passed, place_cmp_total, place_same, place_tied}
use Rattle.fa_machine.specs.State.{CalendarState}
use Rattle.fa_machine.specs.declared.places.Booking.{Booking}
use Rattle.fa_core_read.proofs.Opening.{swapped}
use Rattle.fa_core_read.proofs.Released.{same_bookings}
use Rattle.std.proofs.Common.{Bool, List, None, Option, Some, [], ap, cond, false, refl, sym, true, ℕ, ◌∙◌, ◌∷◌, ◌≡◌}
use Rattle.std.proofs.lemmas.Bool.{eqb-true, false≢true, and_parts}
use Rattle.std.proofs.lemmas.List.Folds.{list_any-append}
use Rattle.std.specs.FinMap.{contains_key, get, get-remove, remove}
use Rattle.std.specs.Prelude.{is_some, not, ◌++◌, ◌==◌, ◌&&◌, ◌||◌}

module _ (x : Place) (calendar : CalendarState) where
  -- a place that is booked is given up
  pub one_given : record calendar { bookings = remove calendar.bookings (x.die.0, x.round.0) } ≡ without_places (x ∷ []) calendar
  one_given =
      ap (λ bookings. record calendar { bookings = bookings })
      (same_bookings (remove calendar.bookings (x.die.0, x.round.0)) (without_places (x ∷ []) calendar).bookings (λ d r.
      get-remove place_cmp_total calendar.bookings (x.die.0, x.round.0) (d, r)
      ∙ ap (λ t. cond t None (get calendar.bookings (d, r)))
      (place_tied (d, r) (x.die.0, x.round.0) ∙ (λ i. swapped d x.die.0 i && swapped r x.round.0 i))
      ∙ go (is_one x d r) (get calendar.bookings (d, r))
      ∙ sym (get-keep place_cmp_total place_same (λ place booking. not (is_at (x ∷ []) place.0 place.1)) calendar.bookings (d, r))))
    where
      go : (t : Bool) (o : Option Booking) → cond t None o ≡ passed (λ booking. not (t || false)) o
      go true None = refl
      go true (Some b) = refl
      go false None = refl
      go false (Some b) = refl

  -- nothing is given up where nothing is booked
  pub none_given : contains_key calendar.bookings (x.die.0, x.round.0) ≡ false → calendar ≡ without_places (x ∷ []) calendar
  none_given none =
      ap (λ bookings. record calendar { bookings = bookings })
      (same_bookings calendar.bookings (without_places (x ∷ []) calendar).bookings (λ d r.
      go d r (is_one x d r) refl (get calendar.bookings (d, r)) refl
      ∙ sym (get-keep place_cmp_total place_same (λ place booking. not (is_at (x ∷ []) place.0 place.1)) calendar.bookings (d, r))))
    where
      go : (d r : ℕ) (t : Bool) → is_one x d r ≡ t → (o : Option Booking) → get calendar.bookings (d, r) ≡ o
          → o ≡ passed (λ booking. not (t || false)) o
      go d r true one None is = refl
      go d r false one o is = all o
        where
          all : (o : Option Booking) → o ≡ passed (λ booking. not (false || false)) o
          all None = refl
          all (Some b) = refl
      go d r true one (Some b) is =
          let parts = and_parts (x.die.0 == d) (x.round.0 == r) one in
          absurd (false≢true (sym none
          ∙ (λ i. is_some (get calendar.bookings (eqb-true x.die.0 d parts.0 i, eqb-true x.round.0 r parts.1 i))) ∙ ap is_some is))

-- places are given up, and then others
pub given_more : (ps qs : List Place) (calendar : CalendarState)
    → without_places qs (without_places ps calendar) ≡ without_places (ps ++ qs) calendar
given_more ps qs calendar =
    ap (λ bookings. record calendar { bookings = bookings })
    (same_bookings (without_places qs (without_places ps calendar)).bookings (without_places (ps ++ qs) calendar).bookings (λ d r.
    get-keep place_cmp_total place_same (λ place booking. not (is_at qs place.0 place.1)) (without_places ps calendar).bookings (d, r)
    ∙ ap (passed (λ booking. not (is_at qs d r)))
    (get-keep place_cmp_total place_same (λ place booking. not (is_at ps place.0 place.1)) calendar.bookings (d, r))
    ∙ go (is_at ps d r) (is_at qs d r) (get calendar.bookings (d, r))
    ∙ ap (λ t. passed (λ booking. not t) (get calendar.bookings (d, r))) (sym (list_any-append (λ x. is_one x d r) ps qs))
    ∙ sym (get-keep place_cmp_total place_same (λ place booking. not (is_at (ps ++ qs) place.0 place.1)) calendar.bookings (d, r))))
  where
    go : (p q : Bool) (o : Option Booking) → passed (λ booking. not q) (passed (λ booking. not p) o) ≡ passed (λ booking. not (p || q)) o
    go p q None = refl
    go true q (Some b) = refl
    go false q (Some b) = refl

pub no_place : (o : Option Place) → ((x : Place) → o ≡ Some x → ⊥) → o ≡ None
no_place None none = refl
no_place (Some x) none = absurd (none x refl)
