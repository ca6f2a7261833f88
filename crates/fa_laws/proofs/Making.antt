-- Events and image calls made, each from what is found in the maps of the world before it.
use Rattle.fa_laws.proofs.Endings.{HappensCall, HasOutcome, may_end, with_done}
use Rattle.std.specs.Option.{option_or}
use Rattle.fa_laws.proofs.Invariant.{next}
use Rattle.fa_machine.specs.Cells.{Outcome, is_of_kind}
use Rattle.fa_machine.specs.Collecting.{is_in_block}
use Rattle.fa_machine.specs.Conditions.{history_full}
use Rattle.fa_machine.specs.Copies.{copy_on}
use Rattle.fa_types.specs.Windows.{is_in_window}
use Rattle.fa_machine.specs.Run.{CallsNext, Happens, HappensEvent, ImageCall}
use Rattle.fa_machine.specs.State.{Core, dies_of, is_live}
use Rattle.fa_machine.specs.Step.{Done, Take, is_die, is_sized_read}
use Rattle.fa_machine.specs.Taking.{mask_of, EndsJob, Handed, after_urgent, begins, begun, finished, handed, is_idle, read_from, read_job, read_of}
use Rattle.fa_machine.specs.Taking.{flight_of, other_job, step_job, urgent_job, without_stale_booking}
use Rattle.fa_machine.specs.Collecting.{next_step, victim}
use Rattle.fa_machine.specs.Turning.{advance_refusal, is_read_pending, is_round_pending, is_step_pending, is_collecting}
use Rattle.fa_machine.specs.World.{Calls, DieImage, Gave, JobCall, Work, World, next_call, with_value}
use Rattle.fa_machine.specs.Conditions.{first_that}
use Rattle.fa_machine.specs.declared.ids.BatchId.{BatchId}
use Rattle.fa_machine.specs.declared.jobs.Flight.{Flight}
use Rattle.fa_machine.specs.declared.jobs.Flight.TheVariants.{Header, Read}
use Rattle.fa_machine.specs.declared.places.Version.{Version}
use Rattle.fa_machine.specs.declared.refusals.AdvanceRefused.{AdvanceRefused}
use Rattle.fa_machine.specs.declared.refusals.AdvanceRefused.TheVariants.{Pending as AdvancePending, Idle, Spent}
use Rattle.fa_types.specs.declared.numbers.Page.{Page}
use Rattle.std.proofs.Common.{Bool, List, None, Some, [], ap, false, not, refl, subst, suc, sym, true, ℕ, ◌++◌, ◌∙◌, ◌∷◌, ◌≡◌}
use Rattle.std.proofs.lemmas.Bool.{and_left, and_right, or_from}
use Rattle.std.specs.Prelude.{option_and_then}
use Rattle.std.specs.FinMap.{contains_key, get, len, remove}
use Rattle.std.specs.List.{AllByRecursion, list_any}
use Rattle.std.specs.Prelude.{is_some, if◌then◌else◌, ◌&&◌, ◌==◌, ◌^◌}

-- the world in which a job has ended
abbrev pub ended : ℕ → Flight → Outcome → Core → World → World
ended die flight outcome core w = record (with_done die (Some flight) outcome w) { core = core; moment = suc w.moment }

-- the world after an image call
abbrev pub called : ℕ → Gave → DieImage → Work → World → World
called die gave image work w = record w {
  images = with_value die image w.images;
  works = with_value die (Some (record work { gave = work.gave ++ gave ∷ [] })) w.works;
}

-- a job that comes before a waiting program is handed out
pub takes : (w : World) (die seat : ℕ) (flight : Flight) (core : Core) → (is_die w.core die && not (history_full w.core)) ≡ true
    → is_idle w.core die ≡ true → urgent_job w.core die ≡ Some flight → core ≡ begun die seat flight w.core
    → HappensEvent w (Take die seat (Some (handed flight))) (next (Take die seat (Some (handed flight))) core w)
takes w die seat flight core allows idle urgent is = record {
  step = record {
    allows = allows;
    does = (λ i. (Some (handed flight), is i))
        ∙ sym (ap (λ b. if b then after_urgent die seat w.core (urgent_job w.core die) else (None, w.core)) idle
        ∙ ap (after_urgent die seat w.core) urgent);
  };
  told = tt;
  follows = refl;
}

pub is_at_ease : (core : Core) (die : ℕ) → is_live core.page_map die ≡ true → get core.jobs die ≡ None → is_idle core die ≡ true
is_at_ease core die live none = ap (λ b. b && not (contains_key core.jobs die)) live ∙ ap (λ o. not (is_some o)) none

pub header_first : (core : Core) (die : ℕ) → contains_key core.behind die ≡ true → urgent_job core die ≡ Some (Header core.epoch (mask_of core.page_map))
header_first core die behind = ap (λ b. option_or (if b then Some (Header core.epoch (mask_of core.page_map)) else None) (option_or (step_job core die) (read_job core die))) behind

-- where no header is behind and no window stands, the read of the round's booking
pub read_first : (core : Core) (die : ℕ) (batch : BatchId) (page : Page) (version : Version) (slot : ℕ)
    → get core.behind die ≡ None → get core.calendar.windows die ≡ None
    → get core.calendar.bookings (die, core.calendar.round) ≡ Some (record { batch = batch; page = page; started = false })
    → get core.page_map.versions page.0 ≡ Some version → copy_on core.page_map page.0 die ≡ Some slot
    → urgent_job core die ≡ Some (Read batch page version (record { 0 = slot }))
read_first core die batch page version slot ahead none books number copy =
    ap (λ o. option_or (if is_some o then Some (Header core.epoch (mask_of core.page_map)) else None) (option_or (step_job core die) (read_job core die))) ahead
    ∙ ap (λ o. option_or (if is_in_window o core.calendar.round && not (contains_key core.stepped die)
    then flight_of core.page_map die (next_step core.page_map die) else None) (read_job core die)) none
    ∙ ap (option_and_then (read_of core.page_map die)) books
    ∙ (λ i. read_from (record { batch = batch; page = page; started = false }) (number i) (copy i))

-- a job ends
pub ends : (w : World) (die : ℕ) (flight : Flight) (outcome : Outcome) (core : Core) → get w.core.jobs die ≡ Some flight
    → (is_of_kind flight outcome && is_sized_read w.core outcome) ≡ true → HasOutcome die (w.works die) outcome
    → core ≡ finished die flight outcome (record (w.core) { jobs = remove w.core.jobs die })
    → HappensEvent w (Done die outcome) (ended die flight outcome core w)
ends w die flight outcome core there kind told is = record {
  step = record {
    allows = ap (λ o. may_end w.core o outcome) there ∙ kind;
    does = subst (λ o. EndsJob w.core die o outcome core) (sym there) is;
  };
  told = told;
  follows = ap (λ o. record (with_done die o outcome w) { core = core; moment = suc w.moment }) (sym there);
}

pub calls : (w : World) (die : ℕ) (gave : Gave) (image : DieImage) (work : Work) (call : JobCall) → w.works die ≡ Some work
    → next_call die work.job work.gave ≡ Some call → Calls (is_in_block w.core.page_map) call gave (w.images die) image
    → Happens w (ImageCall die gave) (called die gave image work w)
calls w die gave image work call there next made =
    subst (λ o. HappensCall w die o gave (called die gave image work w)) (sym there)
    (subst (λ o. CallsNext w die (Some work) o gave (called die gave image work w)) (sym next) (image, made, refl))

-- no read that is booked for this round is to be waited for, and no step of a window
pub record IsAtRest (core : Core) (die : ℕ) : Type 0 where
  pub read : is_read_pending (get core.jobs die) (get core.calendar.bookings (die, core.calendar.round)) ≡ false
  pub step : is_step_pending core die ≡ false

pub outside_no_step : (core : Core) (die : ℕ) → is_in_window (get core.calendar.windows die) core.calendar.round ≡ false
    → is_step_pending core die ≡ false
outside_no_step core die outside = and_left _ _ outside

pub step_was_done : (core : Core) (die : ℕ) → get core.jobs die ≡ None → contains_key core.stepped die ≡ true → is_step_pending core die ≡ false
step_was_done core die idle done =
    and_right _ _ (or_from _ _ (ap is_collecting idle) (ap (λ b. not b && is_some (victim core.page_map die)) done))

none_any : (test : ℕ → Bool) (xs : List ℕ) → AllByRecursion (λ x. test x ≡ false) xs → list_any test xs ≡ false
none_any test [] all = refl
none_any test (x ∷ xs) all = or_from _ _ all.0 (none_any test xs all.1)

all_rest : (core : Core) (dies : List ℕ) → AllByRecursion (IsAtRest core) dies → AllByRecursion (λ die. is_round_pending core die ≡ false) dies
all_rest core [] all = tt
all_rest core (die ∷ dies) all = (or_from _ _ all.0.read all.0.step, all_rest core dies all.1)

-- the round rises
pub may_advance : (core : Core) → AllByRecursion (IsAtRest core) (dies_of core.page_map)
    → (len core.calendar.bookings == 0 && len core.calendar.windows == 0) ≡ false → (core.calendar.round == 2 ^ 56) ≡ false
    → advance_refusal core ≡ None
may_advance core all some early = λ i. first_that {R = AdvanceRefused} (
    (none_any (is_round_pending core) (dies_of core.page_map) (all_rest core (dies_of core.page_map) all) i, AdvancePending)
    ∷ (some i, Idle)
    ∷ (early i, Spent)
    ∷ [])

-- a job that comes behind the booked reads is handed out
pub takes_other : (w : World) (die seat : ℕ) (job : Handed) (core : Core) → (is_die w.core die && not (history_full w.core)) ≡ true
    → is_idle w.core die ≡ true → urgent_job w.core die ≡ None → other_job (without_stale_booking die w.core) die ≡ Some job
    → core ≡ begun die seat job.flight (without_stale_booking die w.core)
    → HappensEvent w (Take die seat (Some job)) (next (Take die seat (Some job)) core w)
takes_other w die seat job core allows idle urgent other is = record {
  step = record {
    allows = allows;
    does = (λ i. (Some job, is i))
        ∙ sym (ap (λ b. if b then after_urgent die seat w.core (urgent_job w.core die) else (None, w.core)) idle
        ∙ ap (after_urgent die seat w.core) urgent ∙ ap (begins die seat (without_stale_booking die w.core)) other);
  };
  told = tt;
  follows = refl;
}

-- where no header is behind, no window stands and no read is booked that was not started
pub none_first : (core : Core) (die : ℕ) → get core.behind die ≡ None → get core.calendar.windows die ≡ None
    → read_job core die ≡ None → urgent_job core die ≡ None
none_first core die ahead none read =
    ap (λ o. option_or (if is_some o then Some (Header core.epoch (mask_of core.page_map)) else None) (option_or (step_job core die) (read_job core die))) ahead
    ∙ ap (λ o. option_or (if is_in_window o core.calendar.round && not (contains_key core.stepped die)
    then flight_of core.page_map die (next_step core.page_map die) else None) (read_job core die)) none
    ∙ read

-- in a round of its window, the collector's step
pub step_first : (core : Core) (die : ℕ) (flight : Flight) → get core.behind die ≡ None
    → (is_in_window (get core.calendar.windows die) core.calendar.round && not (contains_key core.stepped die)) ≡ true
    → flight_of core.page_map die (next_step core.page_map die) ≡ Some flight → urgent_job core die ≡ Some flight
step_first core die flight ahead inside is =
    ap (λ o. option_or (if is_some o then Some (Header core.epoch (mask_of core.page_map)) else None) (option_or (step_job core die) (read_job core die))) ahead
    ∙ ap (λ b. option_or (if b then flight_of core.page_map die (next_step core.page_map die) else None) (read_job core die)) inside
    ∙ ap (λ o. option_or o (read_job core die)) is
