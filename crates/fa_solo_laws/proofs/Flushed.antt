-- A request with a flush ends without a fault only behind a sync of each die.
use Rattle.fa_solo_laws.proofs.FlushStages.{KnownAt, known_first, known_moved, known_ready, known_strayed, known_then, known_without_room}
use Rattle.fa_solo_laws.proofs.Going.{Laws}
use Rattle.fa_solo_laws.specs.Asked.{Asked, GivesUp, IsAnothers, Makes, Meanwhile, Moment, Readies, Strayed, Turn, happenings_of}
use Rattle.fa_laws.proofs.Answering.{reached_holds}
use Rattle.fa_laws.proofs.Returning.{run_out, spareless}
use Rattle.fa_laws.proofs.Runs.{run_keeps, runs_on}
use Rattle.fa_laws.proofs.Syncs.{FlushesLaw, JobsLaw, SyncedLaw, synced_by_syncs}
use Rattle.fa_solo_laws.proofs.ReadBack.{reached_on}
use Rattle.fa_laws.specs.Reached.{IsReached}
use Rattle.fa_laws.specs.Syncing.{EndsSync, TakesAndEndsSync}
use Rattle.fa_machine.specs.Flushing.{flush_state, has_synced}
use Rattle.fa_machine.specs.Run.{Event, Happening, Happens, HappensEvent, ImageCall, Run}
use Rattle.fa_machine.specs.State.{Core, dies_of, is_live}
use Rattle.fa_machine.specs.Step.{Act, Done, FlushBegin, FlushState, Fold, Take}
use Rattle.fa_machine.specs.World.{World}
use Rattle.fa_machine.specs.declared.answers.Flush.{Flush}
use Rattle.fa_machine.specs.declared.answers.FlushState.TheVariants.{Synced}
use Rattle.fa_shared_lock.specs.Moves.{Moves}
use Rattle.fa_shared_steps.specs.Stages.{beginning}
use Rattle.fa_shared_steps.specs.declared.request.Task.{Task}
use Rattle.fa_shared_steps.specs.declared.stage.Stage.{Stage}
use Rattle.fa_shared_steps.specs.declared.stage.Stage.TheVariants.{Ended}
use Rattle.std.proofs.Common.{List, None, Some, [], ap, false, inl, inr, refl, subst, sym, true, ℕ, ◌++◌, ◌∙◌, ◌∷◌, ◌≡◌}
use Rattle.std.proofs.lemmas.Bool.{cases_Bool, false_from_ne_true, false≢true}
use Rattle.std.proofs.lemmas.List.{append-nil, append_assoc}
use Rattle.std.specs.FinMap.{contains_key}
use Rattle.std.specs.List.{list_all}
use Rattle.std.specs.Prelude.{Ok}

-- what becomes of a request is a run
pub asked_run : (A : Type 0) (t : Task) (seat : ℕ) (bytes : List ℕ) (before : Moment A) (turns : List Turn) (after : Moment A)
    → Asked t seat bytes before turns after → Run before.world (happenings_of turns) after.world
asked_run A t seat bytes before [] after asked = ap (λ (m : Moment A). m.world) asked
asked_run A t seat bytes before (Makes act ∷ turns) after asked =
    (asked.0.world, asked.1.0, asked_run A t seat bytes asked.0 turns after asked.2)
asked_run A t seat bytes before (Meanwhile happening ∷ turns) after asked =
    (asked.0.world, asked.1.0, asked_run A t seat bytes asked.0 turns after asked.2)
asked_run A t seat bytes before (Readies ∷ turns) after asked =
    subst (λ (w : World). Run w (happenings_of turns) after.world) asked.1.0 (asked_run A t seat bytes asked.0 turns after asked.2)
asked_run A t seat bytes before (Strayed ∷ turns) after asked =
    subst (λ (w : World). Run w (happenings_of turns) after.world) asked.1.0 (asked_run A t seat bytes asked.0 turns after asked.2)
asked_run A t seat bytes before (GivesUp fault ∷ turns) after asked =
    subst (λ (w : World). Run w (happenings_of turns) after.world) asked.1.0 (asked_run A t seat bytes asked.0 turns after asked.2)

-- a sync that was taken and has ended stays so, whatever comes before it or behind
ends_before : (die : ℕ) (xs ys : List Happening) → EndsSync die xs → EndsSync die (xs ++ ys)
ends_before die [] ys e = absurd e
ends_before die (Event (Done d outcome) ∷ xs) ys (inl here) = inl here
ends_before die (Event (Done d outcome) ∷ xs) ys (inr later) = inr (later.0, ends_before die xs ys later.1)
ends_before die (Event act ∷ xs) ys e = ends_before die xs ys e
ends_before die (ImageCall d gave ∷ xs) ys e = ends_before die xs ys e

synced_before : (die : ℕ) (xs ys : List Happening) → TakesAndEndsSync die xs → TakesAndEndsSync die (xs ++ ys)
synced_before die [] ys e = absurd e
synced_before die (Event (Take d seat (Some job)) ∷ xs) ys (inl here) = inl (here.0, here.1, ends_before die xs ys here.2)
synced_before die (Event (Take d seat (Some job)) ∷ xs) ys (inr later) = inr (synced_before die xs ys later)
synced_before die (Event (Take d seat None) ∷ xs) ys e = synced_before die xs ys e
synced_before die (Event act ∷ xs) ys e = synced_before die xs ys e
synced_before die (ImageCall d gave ∷ xs) ys e = synced_before die xs ys e

synced_behind : (die : ℕ) (xs ys : List Happening) → TakesAndEndsSync die ys → TakesAndEndsSync die (xs ++ ys)
synced_behind die [] ys e = e
synced_behind die (Event (Take d seat (Some job)) ∷ xs) ys e = inr (synced_behind die xs ys e)
synced_behind die (Event (Take d seat None) ∷ xs) ys e = synced_behind die xs ys e
synced_behind die (Event act ∷ xs) ys e = synced_behind die xs ys e
synced_behind die (ImageCall d gave ∷ xs) ys e = synced_behind die xs ys e

-- the laws of syncs
pub record SyncLaws : Type 0 where
  pub synced : SyncedLaw
  pub jobs : JobsLaw
  pub flushes : FlushesLaw
  pub none_older : (core : Core) (flush : Flush) → flush_state core flush ≡ Synced → list_all (has_synced core flush) (dies_of core.page_map) ≡ true

-- where a flush was begun
pub record IsSince (first : World) (flush : Flush) (so_far : List Happening) (w : World) : Type 0 where
  pub front : List Happening
  pub back : List Happening
  pub begin_at : World
  pub begun : World
  pub before : Run first front begin_at
  pub begins : HappensEvent begin_at (FlushBegin (Ok flush)) begun
  pub since : Run begun back w
  pub all : so_far ≡ front ++ Event (FlushBegin (Ok flush)) ∷ back

module _ (A : Type 0) (laws : Laws) (syncs : SyncLaws) (t : Task) (seat : ℕ) (bytes : List ℕ) (first : World) (reached : IsReached first)
    (flushes : t.flush ≡ true) where
  -- each die that is live at the beginning and now took a sync meanwhile, and ended it
  abbrev HaveSynced : List Happening → World → Type 0
  HaveSynced so_far w =
      (die : ℕ) → is_live first.core.page_map die ≡ true → is_live w.core.page_map die ≡ true → TakesAndEndsSync die so_far

  abbrev IsBegun : List Happening → World → Flush → Type 0
  IsBegun so_far w flush = IsSince first flush so_far w

  abbrev FlushedAt : List Happening → World → Stage A → Type 0
  FlushedAt so_far w stage = KnownAt (IsBegun so_far w) (HaveSynced so_far w) stage

  -- a die that is live later was live as the flush was begun
  was_live : (front : List Happening) (middle : World) (back : List Happening) (w : World) → Run first front middle → Run middle back w → (die : ℕ)
      → is_live first.core.page_map die ≡ true → is_live w.core.page_map die ≡ true → is_live middle.core.page_map die ≡ true
  was_live front middle back w before since die was live =
      let no_spare = false_from_ne_true (contains_key first.core.spares die) (λ spare.
      false≢true (sym ((reached_holds first reached).sound.spares die spare) ∙ was)) in
      let none = run_keeps (λ (v : World). contains_key v.core.spares die ≡ false)
      (λ before happening after none happens. spareless laws.spares die before happening after happens none) first front middle no_spare before in
      elim (cases_Bool (is_live middle.core.page_map die)) [
        | inl now ↦ now
        | inr out ↦ absurd (false≢true (sym (run_out laws.lives laws.spares middle w back die since out none) ∙ live))
      ]

  -- a flush that is synced
  all_synced : (flush : Flush) (so_far : List Happening) (w after : World) → IsSince first flush so_far w
      → HappensEvent w (FlushState flush Synced) after → HaveSynced so_far after
  all_synced flush so_far w after k e die was live =
      let then_live : is_live w.core.page_map die ≡ true = sym (ap (λ (c : Core). is_live c.page_map die) e.step.does.1) ∙ live in
      let at_begin = was_live k.front k.begin_at (Event (FlushBegin (Ok flush)) ∷ k.back) w k.before (k.begun, k.begins, k.since) die was then_live in
      let done = synced_by_syncs laws.lives laws.geometry syncs.synced syncs.jobs syncs.flushes k.begin_at k.begun w flush k.back die
      (reached_on first reached k.front k.begin_at k.before) k.begins k.since (syncs.none_older w.core flush (sym e.step.does.0)) at_begin then_live in
      subst (TakesAndEndsSync die) (sym k.all) (synced_behind die k.front (Event (FlushBegin (Ok flush)) ∷ k.back) done)

  since_on : (flush : Flush) (so_far : List Happening) (w after : World) (happening : Happening) → IsSince first flush so_far w → Happens w happening after
      → IsSince first flush (so_far ++ happening ∷ []) after
  since_on flush so_far w after happening k happens = record {
    front = k.front;
    back = k.back ++ happening ∷ [];
    begin_at = k.begin_at;
    begun = k.begun;
    before = k.before;
    begins = k.begins;
    since = runs_on k.begun k.back w (happening ∷ []) after k.since (after, happens, refl);
    all = ap (λ done. done ++ happening ∷ []) k.all ∙ append_assoc k.front (Event (FlushBegin (Ok flush)) ∷ k.back) (happening ∷ []);
  }

  since_now : (flush : Flush) (so_far : List Happening) (w after : World) (act : Act) → act ≡ FlushBegin (Ok flush) → Run first so_far w
      → HappensEvent w act after → IsSince first flush (so_far ++ Event act ∷ []) after
  since_now flush so_far w after act is run e = record {
    front = so_far;
    back = [];
    begin_at = w;
    begun = after;
    before = run;
    begins = subst (λ (a : Act). HappensEvent w a after) is e;
    since = refl;
    all = ap (λ (a : Act). so_far ++ Event a ∷ []) is;
  }

  -- the request makes its event
  own : (so_far : List Happening) (w after : World) (stage : Stage A) (act : Act) (next : Stage A) → Run first so_far w
      → FlushedAt so_far w stage → HappensEvent w act after → Moves t seat stage act next → FlushedAt (so_far ++ Event act ∷ []) after next
  own so_far w after stage act next run k e m =
      let done = so_far ++ Event act ∷ [] in
      known_moved A (IsBegun so_far w) (IsBegun done after) (HaveSynced so_far w) (HaveSynced done after) t flushes seat stage act next
      (λ flush is. since_now flush so_far w after act is run e)
      (λ flush is begun. since_on flush so_far w after (Event act) begun e)
      (λ flush is begun die was live. synced_before die so_far (Event act ∷ [])
      (all_synced flush so_far w after begun (subst (λ (a : Act). HappensEvent w a after) is e) die was live))
      k m

  -- something else happens
  ended_still : (so_far : List Happening) (w after : World) (happening : Happening) → Happens w happening after
      → IsAnothers {A = A} (Ended None) happening → HaveSynced so_far w → HaveSynced (so_far ++ happening ∷ []) after
  ended_still so_far w after (Event Fold) e is k = λ die was live.
      synced_before die so_far (Event Fold ∷ []) (k die was (sym (ap (λ (c : Core). is_live c.page_map die) e.step.does) ∙ live))
  ended_still so_far w after happening e is k = absurd (false≢true is.in_time)

  other : (so_far : List Happening) (w after : World) (stage : Stage A) (happening : Happening) → FlushedAt so_far w stage → Happens w happening after
      → IsAnothers stage happening → FlushedAt (so_far ++ happening ∷ []) after stage
  other so_far w after stage happening k e is =
      let done = so_far ++ happening ∷ [] in
      known_then A (IsBegun so_far w) (IsBegun done after) (HaveSynced so_far w) (HaveSynced done after) stage
      (λ flush begun. since_on flush so_far w after happening begun e)
      (λ ended. ended_still so_far w after happening e (subst (λ (s : Stage A). IsAnothers s happening) ended is)) k

  flushed_on : (so_far : List Happening) (before : Moment A) (turns : List Turn) (after : Moment A) → Run first so_far before.world
      → FlushedAt so_far before.world before.stage → Asked t seat bytes before turns after
      → FlushedAt (so_far ++ happenings_of turns) after.world after.stage
  flushed_on so_far before [] after run k asked =
      subst (λ (m : Moment A). FlushedAt (so_far ++ []) m.world m.stage) (sym asked)
      (subst (λ done. FlushedAt done before.world before.stage) (sym (append-nil so_far)) k)
  flushed_on so_far before (Makes act ∷ turns) after run k asked =
      subst (λ done. FlushedAt done after.world after.stage) (append_assoc so_far (Event act ∷ []) (happenings_of turns))
      (flushed_on (so_far ++ Event act ∷ []) asked.0 turns after
      (runs_on first so_far before.world (Event act ∷ []) asked.0.world run (asked.0.world, asked.1.0, refl))
      (own so_far before.world asked.0.world before.stage act asked.0.stage run k asked.1.0 asked.1.1) asked.2)
  flushed_on so_far before (Meanwhile happening ∷ turns) after run k asked =
      subst (λ done. FlushedAt done after.world after.stage) (append_assoc so_far (happening ∷ []) (happenings_of turns))
      (flushed_on (so_far ++ happening ∷ []) asked.0 turns after
      (runs_on first so_far before.world (happening ∷ []) asked.0.world run (asked.0.world, asked.1.0, refl))
      (subst (FlushedAt (so_far ++ happening ∷ []) asked.0.world) (sym asked.1.2)
      (other so_far before.world asked.0.world before.stage happening k asked.1.0 asked.1.1)) asked.2)
  flushed_on so_far before (Readies ∷ turns) after run k asked =
      flushed_on so_far asked.0 turns after (subst (λ (w : World). Run first so_far w) (sym asked.1.0) run)
      (subst (λ (w : World). FlushedAt so_far w asked.0.stage) (sym asked.1.0)
      (known_ready A (IsBegun so_far before.world) (HaveSynced so_far before.world) t bytes before.answer asked.0.answer before.stage
      asked.0.stage k asked.1.1)) asked.2
  flushed_on so_far before (Strayed ∷ turns) after run k asked =
      flushed_on so_far asked.0 turns after (subst (λ (w : World). Run first so_far w) (sym asked.1.0) run)
      (subst (λ (w : World). FlushedAt so_far w asked.0.stage) (sym asked.1.0)
      (known_strayed A (IsBegun so_far before.world) (HaveSynced so_far before.world) before.world.core before.stage asked.0.stage k asked.1.2))
      asked.2
  flushed_on so_far before (GivesUp fault ∷ turns) after run k asked =
      flushed_on so_far asked.0 turns after (subst (λ (w : World). Run first so_far w) (sym asked.1.0) run)
      (subst (λ (w : World). FlushedAt so_far w asked.0.stage) (sym asked.1.0)
      (subst (FlushedAt so_far before.world) (sym asked.1.2)
      (known_without_room A (IsBegun so_far before.world) (HaveSynced so_far before.world) fault before.stage k))) asked.2

  -- each die that is live at the beginning and at the end has synced
  pub has_flushed : (before : Moment A) (turns : List Turn) (after : Moment A) → before.world ≡ first → before.stage ≡ beginning t
      → Asked t seat bytes before turns after → after.stage ≡ Ended None → (die : ℕ) → is_live first.core.page_map die ≡ true
      → is_live after.world.core.page_map die ≡ true → TakesAndEndsSync die (happenings_of turns)
  has_flushed before turns after here begun asked ended =
      let start : FlushedAt [] first before.stage =
      subst (FlushedAt [] first) (sym begun) (known_first A (IsBegun [] first) (HaveSynced [] first) t flushes) in
      let behind = flushed_on [] before turns after here (subst (λ (w : World). FlushedAt [] w before.stage) (sym here) start) asked in
      subst (FlushedAt (happenings_of turns) after.world) ended behind
