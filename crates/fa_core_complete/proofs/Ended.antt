-- The state in which a job has ended, by the outcome.
use Rattle.fa_core_outcome.specs.Outcomes.{outcome_of}
use Rattle.fa_core_outcome.specs.declared.outcome.Outcome.{Outcome}
use Rattle.fa_core_outcome.specs.declared.outcome.Outcome.TheVariants.{Fault as FaultOutcome, Wrong as WrongOutcome}
use Rattle.fa_image.specs.Image.{fault_number}
use Rattle.fa_image.specs.declared.fault.ImageFault.{ImageFault}
use Rattle.fa_machine.specs.Cells.{Cell, DidRead, Fault, Outcome as JobOutcome, Wrong, is_of_kind, payload_of}
use Rattle.fa_machine.specs.Conditions.{drop_die}
use Rattle.fa_machine.specs.State.{Core, is_live}
use Rattle.fa_machine.specs.Taking.{EndsJob, finished, read_ends, with_answer}
use Rattle.fa_machine.specs.declared.ids.BatchId.{BatchId}
use Rattle.fa_machine.specs.declared.jobs.Flight.{Flight}
use Rattle.fa_machine.specs.declared.jobs.Flight.TheVariants.{Erase, Header, Move, Program, Read, Sync}
use Rattle.fa_machine.specs.declared.places.Version.{Version}
use Rattle.fa_sound.specs.Sound.{IsSound}
use Rattle.fa_types.specs.declared.numbers.Page.{Page}
use Rattle.fa_types.specs.declared.numbers.Slot.{Slot}
use Rattle.std.proofs.Common.{Bool, List, None, Option, Some, ap, cond, false, refl, subst, sym, true, ℕ, ◌∙◌, ◌≡◌}
use Rattle.std.proofs.lemmas.Bool.{false≢true}
use Rattle.std.specs.Cmp.{nat_cmp_total}
use Rattle.std.specs.FinMap.{FinMap, get, get-remove, nat_cmp-IsAntisymmetric, remove, same_map}
use Rattle.std.specs.Option.{option_map_or}
use Rattle.std.specs.Ordering.{eq_by_cmp, nat_cmp}

-- what is removed twice is removed
remove_twice : {X : Type 0} (m : FinMap nat_cmp X) (k : ℕ) → remove (remove m k) k ≡ remove m k
remove_twice {X} m k =
    same_map nat_cmp_total nat_cmp-IsAntisymmetric _ _ (λ q. get-remove nat_cmp_total (remove m k) k q
    ∙ ap (cond (eq_by_cmp nat_cmp q k) None) (get-remove nat_cmp_total m k q)
    ∙ twice (eq_by_cmp nat_cmp q k) (get m q)
    ∙ sym (get-remove nat_cmp_total m k q))
  where
    twice : (b : Bool) (o : Option X) → cond b None (cond b None o) ≡ cond b None o
    twice true o = refl
    twice false o = refl

-- the state without a die's job
abbrev pub over : Core → ℕ → Core
over core die = record core { jobs = remove core.jobs die }

-- a die that goes out is at no job
dropped_over : (core : Core) (die : ℕ) → drop_die die core ≡ drop_die die (over core die)
dropped_over core die = λ i. record (drop_die die core) { jobs = sym (remove_twice core.jobs die) i }

fault_drops : (core : Core) (die call : ℕ) (flight : Flight) → drop_die die core ≡ finished die flight (Fault call) core
fault_drops core die call (Header epoch live) = refl
fault_drops core die call (Move page version from to) = refl
fault_drops core die call (Erase block) = refl
fault_drops core die call (Read batch page version slot) = refl
fault_drops core die call (Program page version slot) = refl
fault_drops core die call (Sync flushes) = refl

wrong_drops : (core : Core) (die : ℕ) (flight : Flight) → drop_die die core ≡ finished die flight Wrong core
wrong_drops core die (Header epoch live) = refl
wrong_drops core die (Move page version from to) = refl
wrong_drops core die (Erase block) = refl
wrong_drops core die (Read batch page version slot) = refl
wrong_drops core die (Program page version slot) = refl
wrong_drops core die (Sync flushes) = refl

-- an outcome is one of a job
abbrev pub Fits : Option Flight → JobOutcome → Type 0
Fits job outcome = option_map_or (λ (flight : Flight). is_of_kind flight outcome) job false ≡ true

module _ (core new : Core) (die : ℕ) (out : new ≡ drop_die die core) where
  drops : (job : Option Flight) (outcome : JobOutcome) → Fits job outcome
      → ((flight : Flight) → drop_die die (over core die) ≡ finished die flight outcome (over core die))
      → EndsJob core die job outcome new
  drops None outcome fits is = absurd (false≢true fits)
  drops (Some flight) outcome fits is = out ∙ dropped_over core die ∙ is flight

  pub fault_ends : (job : Option Flight) (outcome : Outcome) (payload : List ℕ) (fault : ImageFault) → outcome ≡ FaultOutcome fault
      → Fits job (outcome_of outcome payload) → EndsJob core die job (outcome_of outcome payload) new
  fault_ends job outcome payload fault is fits =
      subst (λ o. EndsJob core die job (outcome_of o payload) new) (sym is)
      (drops job (Fault (fault_number fault)) (ap (λ o. option_map_or (λ (flight : Flight). is_of_kind flight (outcome_of o payload))
      job false) (sym is) ∙ fits) (fault_drops (over core die) die (fault_number fault)))

  pub wrong_ends : (job : Option Flight) (outcome : Outcome) (payload : List ℕ) → outcome ≡ WrongOutcome
      → Fits job (outcome_of outcome payload) → EndsJob core die job (outcome_of outcome payload) new
  wrong_ends job outcome payload is fits =
      subst (λ o. EndsJob core die job (outcome_of o payload) new) (sym is)
      (drops job Wrong (ap (λ o. option_map_or (λ (flight : Flight). is_of_kind flight (outcome_of o payload)) job false) (sym is) ∙ fits)
      (wrong_drops (over core die) die))

-- only a live die is at a job
module _ (core : Core) (sound : IsSound core) (die : ℕ) where
  pub at_job : (flight : Flight) → get core.jobs die ≡ Some flight → is_live core.page_map die ≡ true
  at_job flight is = (sound.jobs die flight is).on_live

  pub busy : (outcome : JobOutcome) → Fits (get core.jobs die) outcome → is_live core.page_map die ≡ true
  busy outcome fits = go (get core.jobs die) refl fits
    where
      go : (job : Option Flight) → get core.jobs die ≡ job → Fits job outcome → is_live core.page_map die ≡ true
      go None is fits = absurd (false≢true fits)
      go (Some flight) is fits = at_job flight is

-- a read ends
module _ (core new : Core) (die : ℕ) (batch : BatchId) (page : Page) (version : Version) (slot : Slot) (cell : Cell)
    (job : get core.jobs die ≡ Some (Read batch page version slot)) where
  ends_by : (payload : Option (List ℕ)) → payload_of page.0 version die slot.0 cell ≡ payload
      → new ≡ read_ends die batch.0 page.0 payload (over core die) → EndsJob core die (get core.jobs die) (DidRead cell) new
  ends_by payload is gave =
      subst (λ o. EndsJob core die o (DidRead cell) new) (sym job)
      (gave ∙ ap (λ p. read_ends die batch.0 page.0 p (over core die)) (sym is))

  pub read_lost : payload_of page.0 version die slot.0 cell ≡ None → new ≡ drop_die die core
      → EndsJob core die (get core.jobs die) (DidRead cell) new
  read_lost is out = ends_by None is (out ∙ dropped_over core die)

  pub read_answered : (payload : List ℕ) → payload_of page.0 version die slot.0 cell ≡ Some payload
      → new ≡ with_answer batch.0 page.0 payload (get core.batches batch.0) (over core die)
      → EndsJob core die (get core.jobs die) (DidRead cell) new
  read_answered payload is gave = ends_by (Some payload) is gave
