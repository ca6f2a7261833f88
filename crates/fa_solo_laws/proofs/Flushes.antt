-- A request with a flush ends without a fault only where each die in use has synced since the request began.
use Rattle.fa_solo_laws.proofs.ReadBack.{of_all}
use Rattle.fa_solo_laws.proofs.FlushStages.{KnownAt, known_first, known_moved, known_ready, known_strayed, known_then, known_without_room}
use Rattle.fa_solo_laws.proofs.Fates.{DieLaws, IsIn, flushes_rise, synced_by}
use Rattle.fa_laws.proofs.Certified.{all_pass}
use Rattle.fa_laws.proofs.Ranged.{calls_core}
use Rattle.fa_laws.proofs.Returning.{IsOut}
use Rattle.fa_laws.proofs.Runs.{run_keeps}
use Rattle.fa_laws.specs.Reached.{IsReached}
use Rattle.fa_laws.specs.Syncing.{IsOfNow, KeepsJobs, KeepsSynced}
use Rattle.fa_machine.proofs.Lists.{among-range}
use Rattle.fa_machine.specs.Flushing.{flush_state, has_synced}
use Rattle.fa_machine.specs.Run.{Event, Happening, Happens, ImageCall}
use Rattle.fa_machine.specs.State.{Core, dies_of, is_live}
use Rattle.fa_machine.specs.World.{World}
use Rattle.fa_machine.specs.declared.jobs.Flight.{Flight}
use Rattle.fa_machine.specs.declared.jobs.Flight.TheVariants.{Sync}
use Rattle.fa_machine.specs.Step.{Act, Done, FlushBegin, FlushState, Step, Take}
use Rattle.fa_machine.specs.declared.answers.Flush.{Flush}
use Rattle.fa_machine.specs.declared.answers.FlushState.TheVariants.{Synced, Waiting}
use Rattle.fa_shared_lock.specs.Moves.{Moves, Strays}
use Rattle.fa_shared_request.specs.Ops.{Prepares}
use Rattle.fa_shared_steps.specs.Stages.{beginning}
use Rattle.fa_shared_request.specs.Waiting.{waits, without_room}
use Rattle.fa_shared_steps.specs.declared.request.Task.{Task}
use Rattle.fa_shared_steps.specs.declared.stage.Stage.{Stage}
use Rattle.fa_types.specs.declared.blocks.BlockFault.{BlockFault}
use Rattle.std.proofs.Common.{Bool, IsTrue, List, None, Option, Some, ap, arith, false, inl, inr, nat_le, not, refl, subst, sym, true}
use Rattle.std.proofs.Common.{ℕ}
use Rattle.std.proofs.Common.{◌<◌, ◌||◌, ◌∙◌, ◌≡◌, ◌≤◌, ◌⊎◌}
use Rattle.std.proofs.lemmas.Bool.{cases_eq, false≢true, leb-true}
use Rattle.std.proofs.lemmas.List.FromFn.{get_or-map-range_with_len}
use Rattle.std.proofs.lemmas.Option.{none-some, same_Some}
use Rattle.std.specs.FinMap.{FinMap, get, get-empty}
use Rattle.std.specs.List.{list_all}
use Rattle.std.specs.Ordering.{nat_cmp}
use Rattle.std.specs.Prelude.{Ok, slice_index_or, unwrap_or}

-- a flush is synced only where each die that it asked is out, or has ended a sync since
abbrev pub NoneOlderLaw : Type 0
NoneOlderLaw = (core : Core) (flush : Flush) → flush_state core flush ≡ Synced
    → list_all (has_synced core flush) (dies_of core.page_map) ≡ true

-- A die and how many flushes there were before a request.
module _ (first die : ℕ) where
  -- a flush that was begun since, and that asked the die, where that is not out now
  abbrev pub HasAsked : Core → Flush → Type 0
  HasAsked core flush = (first < flush.number) × (IsOut core die ⊎ (slice_index_or flush.live die false ≡ true))

  -- The die has ended a sync for a flush that was begun since, where it is not out now.
  abbrev pub HasSynced : Core → Type 0
  HasSynced core = IsOut core die ⊎ ((flush : ℕ) × (get core.synced die ≡ Some flush) × (first < flush))

  module _ {A : Type 0} where
    -- what is so at each stage of a request with a flush, which reads for no answer
    abbrev pub Keeps : Core → Stage A → Type 0
    Keeps core stage = KnownAt (HasAsked core) (HasSynced core) stage

  asked_still : (old new : Core) → (IsOut old die → IsOut new die) → (flush : Flush) → HasAsked old flush → HasAsked new flush
  asked_still old new out flush k = (k.0, elim (k.1) [ inl gone ↦ inl (out gone) | inr named ↦ inr named ])

  module _ (A : Type 0) where
    -- A stage that waits asks nothing of what dies have synced, and dies that are out stay so.
    pub keeps_waiting : (old new : Core) (stage : Stage A) → (IsOut old die → IsOut new die) → IsTrue (waits stage) → Keeps old stage
        → Keeps new stage
    keeps_waiting old new stage out waiting k =
        known_then A (HasAsked old) (HasAsked new) (HasSynced old) (HasSynced new) stage (asked_still old new out)
        (λ ended. absurd (false≢true (subst (λ (s : Stage A). IsTrue (waits s)) ended waiting))) k

    -- and where what dies have synced is the same, at any stage
    pub keeps_same : (old new : Core) (stage : Stage A) → (IsOut old die → IsOut new die) → new.synced ≡ old.synced → Keeps old stage
        → Keeps new stage
    keeps_same old new stage out same k =
        known_then A (HasAsked old) (HasAsked new) (HasSynced old) (HasSynced new) stage (asked_still old new out)
        (λ ended was. elim was [
          | inl gone ↦ inl (out gone)
          | inr synced ↦ inr (synced.0, ap (λ (m : FinMap nat_cmp ℕ). get m die) same ∙ synced.1, synced.2)
        ]) k

    pub keeps_without_room : (core : Core) (fault : BlockFault) (stage : Stage A) → Keeps core stage → Keeps core (without_room fault stage)
    keeps_without_room core fault stage k = known_without_room A (HasAsked core) (HasSynced core) fault stage k

    -- the request makes no event
    pub keeps_strayed : (core : Core) (stage next : Stage A) → Keeps core stage → Strays core stage next → Keeps core next
    keeps_strayed core stage next k strays = known_strayed A (HasAsked core) (HasSynced core) core stage next k strays

    -- something is prepared
    pub keeps_ready : (t : Task) (bytes answer after : List ℕ) (core : Core) (stage next : Stage A) → Keeps core stage
        → Prepares t bytes stage answer next after → Keeps core next
    keeps_ready t bytes answer after core stage next k made =
        known_ready A (HasAsked core) (HasSynced core) t bytes answer after stage next k made

    module _ (t : Task) (flushes : t.flush ≡ true) where
      pub keeps_first : (core : Core) → Keeps {A = A} core (beginning t)
      keeps_first core = known_first A (HasAsked core) (HasSynced core) t flushes

      -- the request makes its event
      pub keeps_moved : (seat : ℕ) (core after : Core) → ((flush : Flush) → Step core (FlushBegin (Ok flush)) after → HasAsked after flush)
          → ((flush : Flush) → HasAsked core flush → Step core (FlushState flush Synced) after → HasSynced after) → (stage : Stage A) (act : Act)
          (next : Stage A) → Keeps core stage → Step core act after → Moves t seat stage act next → Keeps after next
      keeps_moved seat core after begins syncs stage act next k step m =
          known_moved A (HasAsked core) (HasAsked after) (HasSynced core) (HasSynced after) t flushes seat stage act next
          (λ flush is. begins flush (subst (λ (a : Act). Step core a after) is step))
          (λ flush is asked. waited flush asked (subst (λ (a : Act). Step core a after) is step))
          (λ flush is asked. syncs flush asked (subst (λ (a : Act). Step core a after) is step)) k m
        where
          waited : (flush : Flush) → HasAsked core flush → Step core (FlushState flush Waiting) after → HasAsked after flush
          waited flush asked waiting = subst (λ (c : Core). HasAsked c flush) (sym waiting.does.1) asked

-- the die is in use, and one of the array's, or it is out
abbrev pub IsKnown : Core → ℕ → Type 0
IsKnown core die = (IsIn core die × (die < core.page_map.geometry.dies)) ⊎ IsOut core die

-- where the flush begins, and where it is synced
module _ (first die : ℕ) (core after : Core) (known : IsKnown core die) where
  pub begins_asked : (flush : Flush) → first ≤ core.flushes → (IsOut core die → IsOut after die) → Step core (FlushBegin (Ok flush)) after
      → HasAsked first die after flush
  begins_asked flush counted stays step = (
    let number = step.does.1 in omega (arith, number, counted),
    elim known [
      | inr gone ↦ inl (stays gone)
      | inl (here, inside) ↦
          let most = core.page_map.geometry.within.dies_fit.most in
          inr (ap (λ (l : List Bool). slice_index_or l die false) step.does.2
          ∙ get_or-map-range_with_len (is_live core.page_map) 0 64 die die false (omega (arith, inside, most)) (omega arith) ∙ here.live)
    ],
  )

  pub ends_synced : NoneOlderLaw → (flush : Flush) → HasAsked first die core flush → Step core (FlushState flush Synced) after
      → HasSynced first die after
  ends_synced law flush asked step = subst (HasSynced first die) (sym step.does.1) (elim (asked.1) [
    | inl gone ↦ inl gone
    | inr named ↦ elim known [
      | inr gone ↦ inl gone
      | inl (here, inside) ↦
          let all = all_pass (has_synced core flush) (λ d. has_synced core flush d ≡ true) (λ d is. is) (dies_of core.page_map)
          (law core flush (sym step.does.0)) in
          let its = of_all (λ d. has_synced core flush d ≡ true) (dies_of core.page_map) all die
          (among-range 0 core.page_map.geometry.dies die (omega arith) (omega (arith, inside))) in
          let many = leb-true flush.number (unwrap_or (get core.synced die) 0)
          (third_of (slice_index_or flush.live die false) (is_live core.page_map die)
          (nat_le flush.number (unwrap_or (get core.synced die) 0))
          named here.live its) in
          inr (found_synced (get core.synced die) flush.number asked.0 many)
    ]
  ])
    where
      third_of : (a b c : Bool) → a ≡ true → b ≡ true → (not a || not b || c) ≡ true → c ≡ true
      third_of true true c x y e = e
      third_of true false c x y e = absurd (false≢true y)
      third_of false b c x y e = absurd (false≢true x)

      found_synced : (o : Option ℕ) (number : ℕ) → first < number → number ≤ unwrap_or o 0
          → (flush : ℕ) × (o ≡ Some flush) × (first < flush)
      found_synced None number low many = absurd (omega (arith, low, many))
      found_synced (Some flush) number low many = (flush, refl, omega (arith, low, many))

-- What a die has synced, and the sync that it is at, are for no more flushes than were begun.
record IsCounted (die : ℕ) (core : Core) : Type 0 where
  synced : (flush : ℕ) → get core.synced die ≡ Some flush → flush ≤ core.flushes
  job : (flush : ℕ) → get core.jobs die ≡ Some (Sync flush) → flush ≤ core.flushes

module _ (laws : DieLaws) (die : ℕ) where
  synced_before : (old new : Core) (act : Act) (flush : ℕ) → KeepsSynced old act new → get new.synced die ≡ Some flush
      → (get old.synced die ≡ Some flush) ⊎ (get old.jobs die ≡ Some (Sync flush))
  synced_before old new (Done d outcome) flush kept is = elim (synced_by laws old new die d outcome flush kept is) [
    | inl was ↦ inl was
    | inr ends ↦ inr ends.2
  ]
  synced_before old new act flush kept is = inl (sym (ap (λ (s : FinMap nat_cmp ℕ). get s die) kept) ∙ is)

  sync_before : (old new : Core) (act : Act) (flush : ℕ) → KeepsJobs old act new → get new.jobs die ≡ Some (Sync flush)
      → (get old.jobs die ≡ Some (Sync flush)) ⊎ (flush ≡ old.flushes)
  sync_before old new (Take d seat (Some job)) flush kept is = elim (cases_eq die d) [
    | inl same ↦ inr (subst (IsOfNow old) (same_Some job.flight (Sync flush) (sym (ap (get new.jobs) same ∙ kept.1) ∙ is)) kept.2)
    | inr apart ↦ inl (sym (kept.3.others die apart) ∙ is)
  ]
  sync_before old new (Done d outcome) flush kept is = elim (cases_eq die d) [
    | inl same ↦ absurd (none-some (Sync flush) (sym (ap (get new.jobs) same ∙ kept.0) ∙ is))
    | inr apart ↦ inl (sym (kept.1.others die apart) ∙ is)
  ]
  sync_before old new act flush kept is = inl (sym (ap (λ (m : FinMap nat_cmp Flight). get m die) kept) ∙ is)

  step_counted : (old new : Core) (act : Act) → Step old act new → IsCounted die old → IsCounted die new
  step_counted old new act step c =
      let up = flushes_rise old new act (laws.flushes old new act step) in record {
        synced = λ flush is. elim (synced_before old new act flush (laws.synced old new act step) is) [
          | inl was ↦ let n = c.synced flush was in omega (arith, n, up)
          | inr ends ↦ let n = c.job flush ends in omega (arith, n, up)
        ];
        job = λ flush is. elim (sync_before old new act flush (laws.jobs old new act step) is) [
          | inl was ↦ let n = c.job flush was in omega (arith, n, up)
          | inr now ↦ omega (arith, now, up)
        ];
      }

  happens_counted : (before : World) (happening : Happening) (after : World) → IsCounted die before.core → Happens before happening after
      → IsCounted die after.core
  happens_counted before (Event act) after c happens = step_counted before.core after.core act happens.step c
  happens_counted before (ImageCall d gave) after c happens =
      subst (IsCounted die) (sym (calls_core before after d (before.works d) gave happens)) c

  pub synced_counted : (w : World) → IsReached w → (flush : ℕ) → get w.core.synced die ≡ Some flush → flush ≤ w.core.flushes
  synced_counted w r =
      let begins = r.beginning in
      (run_keeps (λ (v : World). IsCounted die v.core) happens_counted r.first r.happenings w (record {
        synced = λ flush is. absurd (none-some flush (sym (ap (λ (c : Core). get c.synced die) begins.fresh ∙ get-empty nat_cmp die) ∙ is));
        job = λ flush is. absurd
            (none-some (Sync flush) (sym (ap (λ (c : Core). get c.jobs die) begins.fresh ∙ get-empty nat_cmp die) ∙ is));
      }) r.run).synced
