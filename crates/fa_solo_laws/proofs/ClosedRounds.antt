-- An array at which no batch is open, and what its events keep.
use Rattle.fa_laws.proofs.Booked.{Good}
use Rattle.fa_laws.proofs.Finishing.{passed_some}
use Rattle.fa_laws.proofs.InTimes.{event_good}
use Rattle.fa_machine.proofs.Maps.{get-keep, get-place_other, has_some, place_cmp_total, place_same}
use Rattle.fa_machine.specs.Cells.{Outcome}
use Rattle.fa_machine.specs.Collecting.{victim}
use Rattle.fa_machine.specs.Maps.{keep, place_cmp}
use Rattle.fa_machine.specs.Reading.{batch_at, is_booked, left_of, results}
use Rattle.fa_machine.specs.State.{Core, MapState, OpenBatch, is_live}
use Rattle.fa_machine.specs.Step.{Done, Fold, Step, Take}
use Rattle.fa_machine.specs.Taking.{Handed}
use Rattle.fa_machine.specs.declared.answers.ReadState.{ReadState}
use Rattle.fa_machine.specs.declared.answers.ReadState.TheVariants.{Ready, Torn, Waiting}
use Rattle.fa_machine.specs.declared.places.Booking.{Booking}
use Rattle.fa_solo_laws.proofs.Changing.{Answers, Changes, Drops, HasNoStep, IsFree, Stays, View, job_changes, more_answers}
use Rattle.fa_solo_laws.proofs.Changing.{no_job_changes, seen}
use Rattle.fa_types.specs.declared.window.Window.{Window}
use Rattle.std.proofs.Common.{Bool, None, Option, Some, ap, false, inl, inr, not, refl, subst, sym, true, ℕ, ◌==◌, ◌∙◌, ◌≡◌, ◌⊎◌}
use Rattle.std.proofs.Common.{◌||◌}
use Rattle.std.proofs.lemmas.Bool.{cases_eq, false≢true}
use Rattle.std.specs.FinMap.{FinMap, contains_key, get, insert}
use Rattle.std.specs.List.{list_all, list_any}
use Rattle.std.specs.Ordering.{nat_cmp}
use Rattle.std.specs.Prelude.{if◌then◌else◌, is_some, ◌&&◌}

-- no batch is open
abbrev pub HasNoBatch : Core → Type 0
HasNoBatch core = (batch : ℕ) → get core.batches batch ≡ None

-- Nothing is under way at an array of this map, and no collector has a step.
pub record IsQuiet (m : MapState) (copies : ℕ) (core : Core) : Type 0 where
  pub map : core.page_map ≡ m
  pub copies_are : core.copies ≡ copies
  pub good : Good (λ d r batch. Unit {0}) core
  pub free : IsFree core
  pub calm : HasNoStep core
  pub closed : HasNoBatch core

-- The round and the windows are the same, and no more is booked.
pub record Keeps (old new : Core) : Type 0 where
  pub round : new.calendar.round ≡ old.calendar.round
  pub windows : new.calendar.windows ≡ old.calendar.windows
  pub fewer : (d r : ℕ) → contains_key new.calendar.bookings (d, r) ≡ true → contains_key old.calendar.bookings (d, r) ≡ true

pub keeps_same : (core : Core) → Keeps core core
keeps_same core = record { round = refl; windows = refl; fewer = λ d r has. has }

pub keeps_both : (old between new : Core) → Keeps old between → Keeps between new → Keeps old new
keeps_both old between new one two = record {
  round = two.round ∙ one.round;
  windows = two.windows ∙ one.windows;
  fewer = λ d r has. one.fewer d r (two.fewer d r has);
}

-- collectors stay without a step where the map is the same and the windows are no more
pub still_calm : (old new : Core) → new.page_map ≡ old.page_map
    → ((die : ℕ) → contains_key new.calendar.windows die ≡ true → contains_key old.calendar.windows die ≡ true) → HasNoStep old
    → HasNoStep new
still_calm old new map fewer calm die live has =
    ap (λ (m : MapState). victim m die) map ∙ calm die (sym (ap (λ (m : MapState). is_live m die) map) ∙ live) (fewer die has)

pub same_windows : (old new : Core) → new.calendar.windows ≡ old.calendar.windows
    → (die : ℕ) → contains_key new.calendar.windows die ≡ true → contains_key old.calendar.windows die ≡ true
same_windows old new e die has = sym (ap (λ (w : FinMap nat_cmp Window). contains_key w die) e) ∙ has

-- whether two places are the same
pub place_is : (d r die round : ℕ) → ((d ≡ die) × (r ≡ round)) ⊎ (d ≡ die → r ≡ round → ⊥)
place_is d r die round =
    elim (cases_eq d die) [
      | inr apart ↦ inr (λ same here. apart same)
      | inl same ↦ elim (cases_eq r round) [
        | inl here ↦ inl (same, here)
        | inr apart ↦ inr (λ too here. apart here)
      ]
    ]

dropped_fewer : (test : ℕ × ℕ → Booking → Bool) (bookings : FinMap place_cmp Booking) (d r : ℕ) → contains_key (keep test bookings) (d, r)
    ≡ true
    → contains_key bookings (d, r) ≡ true
dropped_fewer test bookings d r has =
    let found = has_some (get (keep test bookings) (d, r)) has in
    ap is_some (passed_some (test (d, r)) (get bookings (d, r)) found.0
    (sym (get-keep place_cmp_total place_same test bookings (d, r)) ∙ found.1))

started_fewer : (bookings : FinMap place_cmp Booking) (die round : ℕ) (b x : Booking) → get bookings (die, round) ≡ Some b → (d r : ℕ)
    → contains_key (insert bookings (die, round) x) (d, r) ≡ true → contains_key bookings (d, r) ≡ true
started_fewer bookings die round b x is d r has =
    elim (place_is d r die round) [
      | inl here ↦ ap is_some ((λ i. get bookings (here.0 i, here.1 i)) ∙ is)
      | inr apart ↦ ap is_some (sym (get-place_other bookings die round x d r apart)) ∙ has
    ]

-- what dies do keeps all of it
module _ (m : MapState) (copies : ℕ) (old new : Core) (quiet : IsQuiet m copies old) (good : Good (λ d r batch. Unit {0}) new) where
  kept_quiet : new.page_map ≡ old.page_map → new.copies ≡ old.copies → new.calendar.windows ≡ old.calendar.windows → new.batches
      ≡ old.batches
      → IsFree new → IsQuiet m copies new
  kept_quiet map same_copies windows batches free = record {
    map = map ∙ quiet.map;
    copies_are = same_copies ∙ quiet.copies_are;
    good = good;
    free = free;
    calm = still_calm old new map (same_windows old new windows) quiet.calm;
    closed = λ batch. ap (λ (b : FinMap nat_cmp OpenBatch). get b batch) batches ∙ quiet.closed batch;
  }

  pub changed_quiet : Changes old new → IsFree new → IsQuiet m copies new × Keeps old new
  changed_quiet (Stays e) free = (
    kept_quiet (ap (λ (s : View). s.0) e) (ap (λ (s : View). s.1) e)
        (ap (λ (s : View). s.2.windows) e) (ap (λ (s : View). s.3) e) free,
    record {
      round = ap (λ (s : View). s.2.round) e;
      windows = ap (λ (s : View). s.2.windows) e;
      fewer = λ d r has. sym (ap (λ (s : View). contains_key s.2.bookings (d, r)) e) ∙ has;
    },
  )
  changed_quiet (Drops die none e) free = (
    kept_quiet (ap (λ (s : View). s.0) e) (ap (λ (s : View). s.1) e)
        (ap (λ (s : View). s.2.windows) e) (ap (λ (s : View). s.3) e) free,
    record {
      round = ap (λ (s : View). s.2.round) e;
      windows = ap (λ (s : View). s.2.windows) e;
      fewer = λ d r has. dropped_fewer (λ place b. not
          (place.0 == die && place.1 == old.calendar.round) || b.started) old.calendar.bookings d r
          (sym (ap (λ (s : View). contains_key s.2.bookings (d, r)) e) ∙ has);
    },
  )
  changed_quiet (Answers die b bytes is waits e) free = (
    kept_quiet (ap (λ (s : View). s.0) e) (ap (λ (s : View). s.1) e)
        (ap (λ (s : View). s.2.windows) e)
        (ap (λ (s : View). s.3) e
        ∙ ap (λ (o : Option OpenBatch). more_answers old.batches b.batch.0 b.page.0 bytes o) (quiet.closed b.batch.0)) free,
    record {
      round = ap (λ (s : View). s.2.round) e;
      windows = ap (λ (s : View). s.2.windows) e;
      fewer = λ d r has. started_fewer old.calendar.bookings die old.calendar.round b _ is d r
          (sym (ap (λ (s : View). contains_key s.2.bookings (d, r)) e) ∙ has);
    },
  )

pub quiet_job : (m : MapState) (copies : ℕ) (old between new : Core) (die seat : ℕ) (job : Handed) (outcome : Outcome)
    → IsQuiet m copies old
    → Step old (Take die seat (Some job)) between → Step between (Done die outcome) new → new.epoch ≡ old.epoch
    → IsQuiet m copies new × Keeps old new
quiet_job m copies old between new die seat job outcome quiet takes ends same =
    let begun = event_good (λ d r batch. Unit {0}) old (Take die seat (Some job)) between takes.allows takes.does quiet.good tt in
    let good = event_good (λ d r batch. Unit {0}) between (Done die outcome) new ends.allows ends.does begun tt in
    let changes = job_changes old between new die seat job outcome quiet.free quiet.calm takes ends same in
    changed_quiet m copies old new quiet good changes.0 changes.1

pub quiet_no_job : (m : MapState) (copies : ℕ) (old new : Core) (die seat : ℕ) → IsQuiet m copies old → Step old (Take die seat None) new
    → IsQuiet m copies new × Keeps old new
quiet_no_job m copies old new die seat quiet takes =
    let good = event_good (λ d r batch. Unit {0}) old (Take die seat None) new takes.allows takes.does quiet.good tt in
    let changes = no_job_changes old new die seat quiet.free quiet.calm takes in
    changed_quiet m copies old new quiet good changes.0 changes.1

pub quiet_still : (m : MapState) (copies : ℕ) (old new : Core) → IsQuiet m copies old → new ≡ old → IsQuiet m copies new × Keeps old new
quiet_still m copies old new quiet e =
    (subst (IsQuiet m copies) (sym e) quiet, subst (λ (c : Core). Keeps old c) (sym e) (keeps_same old))

pub quiet_fold : (m : MapState) (copies : ℕ) (old new : Core) → IsQuiet m copies old → Step old Fold new → IsQuiet m copies new
    × Keeps old new
quiet_fold m copies old new quiet folds =
    let good = event_good (λ d r batch. Unit {0}) old Fold new folds.allows folds.does quiet.good tt in
    changed_quiet m copies old new quiet good (Stays (ap seen folds.does))
    (subst (λ (c : Core). IsFree c) (sym folds.does) quiet.free)

abbrev is_waiting : ReadState → Bool
is_waiting Waiting = true
is_waiting Torn = false
is_waiting Ready = false

pub torn_waits : (s : ReadState) → s ≡ Torn → s ≡ Waiting → ⊥
torn_waits s torn waits = false≢true (sym (ap is_waiting torn) ∙ ap is_waiting waits)

pub ready_waits : (s : ReadState) → s ≡ Ready → s ≡ Waiting → ⊥
ready_waits s ready waits = false≢true (sym (ap is_waiting ready) ∙ ap is_waiting waits)

-- a batch that is not open is torn
pub not_open_torn : (core : Core) (batch : ℕ) → contains_key core.batches batch ≡ false → results core batch ≡ Torn
not_open_torn core batch none =
    ap (λ b. if not b || list_any (λ page. not (is_booked core batch page)) (left_of core batch) then Torn else
    (if list_all (λ page. contains_key (batch_at core batch).answers page) (batch_at core batch).pages then Ready else Waiting)) none

-- no batch is waited for, and no step
pub nothing_waits : (m : MapState) (copies : ℕ) (core : Core) → IsQuiet m copies core → (batch : ℕ) → results core batch ≡ Waiting → ⊥
nothing_waits m copies core quiet batch waits =
    torn_waits (results core batch) (not_open_torn core batch (ap is_some (quiet.closed batch))) waits

pub no_step_waits : (core : Core) → HasNoStep core → (die : ℕ) → is_live core.page_map die ≡ true → contains_key core.calendar.windows die
    ≡ true
    → is_some (victim core.page_map die) ≡ true → ⊥
no_step_waits core calm die live has some = false≢true (sym (ap is_some (calm die live has)) ∙ some)
