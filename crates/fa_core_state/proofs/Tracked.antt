-- With no bookings and no jobs, batches that have no pages are tracked, and nothing that is named is outside of the array.
use Rattle.fa_core_batches.specs.Batches.{state_of}
use Rattle.fa_core_batches.specs.declared.batches.Batches.{Batches}
use Rattle.fa_core_batches.specs.Pages.{opened}
use Rattle.fa_machine.specs.Maps.{place_cmp}
use Rattle.fa_machine.specs.State.{OpenBatch}
use Rattle.fa_machine.specs.declared.jobs.Flight.{Flight}
use Rattle.fa_machine.specs.declared.places.Booking.{Booking}
use Rattle.fa_core_state.specs.Tracked.{AreTracked}
use Rattle.std.proofs.Common.{None, Option, [], ap, sym, true, ℕ, ◌∙◌, ◌≡◌, ◌<◌}
use Rattle.std.proofs.lemmas.Bool.{false≢true}
use Rattle.std.proofs.lemmas.Option.{none-some}
use Rattle.std.specs.FinMap.{FinMap, contains_key, empty, get, get-empty}
use Rattle.std.specs.Ordering.{nat_cmp}
use Rattle.std.specs.Prelude.{is_some, unwrap_or}

pub tracked_empty : {A : Type 0} (bookings : FinMap place_cmp Booking) (jobs : FinMap nat_cmp Flight) (batches : Batches A)
    → bookings ≡ empty → jobs ≡ empty → ((b p : ℕ) → state_of batches b p ≡ None) → AreTracked bookings jobs batches
tracked_empty bookings jobs batches no_bookings no_jobs no_pages = record {
  booked = λ die round batch page is. absurd (none-some _ (sym (none_booked (die, round)) ∙ is));
  known = λ batch page die round is. absurd (none-some _ (sym (no_pages batch page) ∙ is));
  flying = λ die batch page version slot is there. absurd (none-some _ (sym (none_at die) ∙ is));
  reading = λ batch page die is. absurd (none-some _ (sym (no_pages batch page) ∙ is));
  older_booked = λ die round b is. absurd (none-some _ (sym (none_booked (die, round)) ∙ is));
  older_read = λ die batch page version slot is. absurd (none-some _ (sym (none_at die) ∙ is));
}
  where
    none_booked : (q : ℕ × ℕ) → get bookings q ≡ None
    none_booked q = ap (λ (m : FinMap place_cmp Booking). get m q) no_bookings ∙ get-empty place_cmp q

    none_at : (die : ℕ) → get jobs die ≡ None
    none_at die = ap (λ (m : FinMap nat_cmp Flight). get m die) no_jobs ∙ get-empty nat_cmp die

-- what is open of no batches has no pages
pub listed_empty : (batches : FinMap nat_cmp OpenBatch) → batches ≡ empty → (batch : ℕ) → (opened batches batch).pages ≡ []
listed_empty batches none batch =
    ap (λ (m : FinMap nat_cmp OpenBatch). (opened m batch).pages) none
    ∙ ap (λ (o : Option OpenBatch). (unwrap_or o (record { pages = []; answers = empty })).pages) (get-empty nat_cmp batch)

pub inside_empty : (bookings : FinMap place_cmp Booking) → bookings ≡ empty → (dies die round : ℕ)
    → contains_key bookings (die, round) ≡ true → die < dies
inside_empty bookings none dies die round is =
    absurd (false≢true (sym (ap (λ (m : FinMap place_cmp Booking). contains_key m (die, round)) none
    ∙ ap is_some (get-empty place_cmp (die, round))) ∙ is))
