-- A flush is synced by a sync of each die that was taken and has ended since the flush began.
use Rattle.fa_laws.proofs.Failing.{LiveLaw}
use Rattle.fa_laws.proofs.Ranged.{calls_core}
use Rattle.fa_laws.proofs.Runs.{run_keeps, runs_on}
use Rattle.fa_laws.proofs.Within.{GeometryLaw, reached_inside}
use Rattle.fa_machine.proofs.Lists.{among-range}
use Rattle.fa_machine.proofs.Maps.{get-insert_cases, get-remove_some}
use Rattle.fa_laws.specs.Reached.{IsReached}
use Rattle.fa_laws.specs.Syncing.{EndsSync, IsOfNow, KeepsFlushes, KeepsJobs, KeepsSynced, TakesAndEndsSync, is_sync}
use Rattle.fa_machine.specs.Among.{Among}
use Rattle.fa_machine.specs.Beginning.{IsBeginning}
use Rattle.fa_machine.specs.Taking.{Handed}
use Rattle.fa_machine.specs.Cells.{DidSync, Outcome}
use Rattle.fa_machine.specs.Flushing.{has_synced}
use Rattle.fa_machine.specs.Run.{Event, Happening, Happens, HappensEvent, ImageCall, Run}
use Rattle.fa_machine.specs.State.{Core, dies_of, is_live}
use Rattle.fa_machine.specs.Step.{Act, Done, FlushBegin, Step, Take}
use Rattle.fa_machine.specs.World.{World}
use Rattle.fa_machine.specs.declared.answers.Flush.{Flush}
use Rattle.fa_machine.specs.declared.jobs.Flight.{Flight}
use Rattle.fa_machine.specs.declared.jobs.Flight.TheVariants.{Sync}
use Rattle.std.proofs.Common.{Bool, List, None, Option, Some, [], ap, arith, false, inl, inr, nat_le, not, refl, subst, sym, true}
use Rattle.std.proofs.Common.{ℕ, ◌<◌, ◌||◌, ◌∙◌, ◌∷◌, ◌≡◌, ◌≤◌, ◌⊎◌}
use Rattle.std.proofs.lemmas.Bool.{and_parts, cases_Bool, cases_eq, false≢true, leb-true}
use Rattle.std.proofs.lemmas.List.FromFn.{get_or-map-range_with_len}
use Rattle.std.proofs.lemmas.Option.{none-some, same_Some}
use Rattle.std.specs.FinMap.{FinMap, get, get-empty}
use Rattle.std.specs.List.{list_all}
use Rattle.std.specs.Ordering.{nat_cmp}
use Rattle.std.specs.Prelude.{Ok, slice_index_or, unwrap_or, ◌++◌}

abbrev pub SyncedLaw : Type 0
SyncedLaw = (old new : Core) (act : Act) → Step old act new → KeepsSynced old act new

abbrev pub JobsLaw : Type 0
JobsLaw = (old new : Core) (act : Act) → Step old act new → KeepsJobs old act new

abbrev pub FlushesLaw : Type 0
FlushesLaw = (old new : Core) (act : Act) → Step old act new → KeepsFlushes old act new

-- a Take that hands a job to the die
abbrev Hands : Act → ℕ → Flight → Type 0
Hands (Take d seat (Some job)) die flight = (d ≡ die) × (job.flight ≡ flight)
Hands act die flight = ⊥

-- a Done of the die that tells a sync
abbrev Tells : Act → ℕ → Type 0
Tells (Done d DidSync) die = d ≡ die
Tells act die = ⊥

job_was : (old new : Core) (act : Act) (die : ℕ) (flight : Flight) → KeepsJobs old act new → get new.jobs die ≡ Some flight
    → (get old.jobs die ≡ Some flight) ⊎ Hands act die flight
job_was old new (Take d seat (Some job)) die flight k e =
    elim (cases_eq die d) [
      | inl same ↦ inr (sym same, same_Some job.flight flight (sym (ap (get new.jobs) same ∙ k.1) ∙ e))
      | inr apart ↦ inl (sym (k.3.others die apart) ∙ e)
    ]
job_was old new (Done d outcome) die flight k e =
    elim (cases_eq die d) [
      | inl same ↦ absurd (none-some flight (sym (ap (get new.jobs) same ∙ k.0) ∙ e))
      | inr apart ↦ inl (sym (k.1.others die apart) ∙ e)
    ]
job_was old new act die flight k e = inl (sym (ap (λ (m : FinMap nat_cmp Flight). get m die) k) ∙ e)

synced_same : (old new : Core) (die m : ℕ) → new.synced ≡ old.synced → get new.synced die ≡ Some m → get old.synced die ≡ Some m
synced_same old new die m k e = sym (ap (λ (s : FinMap nat_cmp ℕ). get s die) k) ∙ e

synced_was : (old new : Core) (act : Act) (die m : ℕ) → KeepsSynced old act new → get new.synced die ≡ Some m
    → (get old.synced die ≡ Some m) ⊎ (Tells act die × (get old.jobs die ≡ Some (Sync m)))
synced_was old new (Done d DidSync) die m k e =
    elim (get-insert_cases old.synced d k.0 die m (sym (ap (λ (s : FinMap nat_cmp ℕ). get s die) k.2) ∙ e)) [
      | inl here ↦ inr (sym here.0, ap (get old.jobs) here.0 ∙ k.1 ∙ ap (λ n. Some (Sync n)) here.1)
      | inr was ↦ inl was.0
    ]
synced_was old new (Done d outcome) die m k e =
    elim k [
      | inl same ↦ inl (synced_same old new die m same e)
      | inr out ↦ inl (get-remove_some old.synced d die m (sym (ap (λ (s : FinMap nat_cmp ℕ). get s die) out.0) ∙ e)).0
    ]
synced_was old new act die m k e = inl (synced_same old new die m k e)

flushes_rise : (old new : Core) (act : Act) → KeepsFlushes old act new → old.flushes ≤ new.flushes
flushes_rise old new (FlushBegin (Ok flush)) k = let e = k.0 in omega (arith, e)
flushes_rise old new act k = omega (arith, k)

-- What a die has synced, and the sync that it is at, are for no more flushes than were begun.
record Counted (core : Core) : Type 0 where
  synced : (die m : ℕ) → get core.synced die ≡ Some m → m ≤ core.flushes
  job : (die m : ℕ) → get core.jobs die ≡ Some (Sync m) → m ≤ core.flushes

-- nothing was synced at a beginning
none_counted : (w : World) → IsBeginning w → Counted w.core
none_counted w b = record {
  synced = λ die m e. absurd (none-some m (sym (ap (λ (c : Core). get c.synced die) b.fresh ∙ get-empty nat_cmp die) ∙ e));
  job = λ die m e. absurd (none-some (Sync m) (sym (ap (λ (c : Core). get c.jobs die) b.fresh ∙ get-empty nat_cmp die) ∙ e));
}

of_now : (old new : Core) (act : Act) (die m : ℕ) → KeepsJobs old act new → Hands act die (Sync m) → m ≡ old.flushes
of_now old new (Take d seat (Some job)) die m k h = subst (IsOfNow old) h.1 k.2
of_now old new act die m k h = absurd h

step_counted : (old new : Core) (act : Act) → KeepsSynced old act new → KeepsJobs old act new → KeepsFlushes old act new → Counted old → Counted new
step_counted old new act synced jobs flushes c = record {
  synced = λ die m e. let up = flushes_rise old new act flushes in elim (synced_was old new act die m synced e) [
    | inl was ↦ let n = c.synced die m was in omega (arith, n, up)
    | inr told ↦ let n = c.job die m told.1 in omega (arith, n, up)
  ];
  job = λ die m e. let up = flushes_rise old new act flushes in elim (job_was old new act die (Sync m) jobs e) [
    | inl was ↦ let n = c.job die m was in omega (arith, n, up)
    | inr handed ↦ let n = of_now old new act die m jobs handed in omega (arith, n, up)
  ];
}

-- A die that has synced for no flush from a number on, and is not at such a sync; and one that may be at it.
record Before (number die : ℕ) (core : Core) : Type 0 where
  begun : number ≤ core.flushes
  synced : (m : ℕ) → get core.synced die ≡ Some m → m < number
  job : (m : ℕ) → get core.jobs die ≡ Some (Sync m) → m < number

record During (number die : ℕ) (core : Core) : Type 0 where
  begun : number ≤ core.flushes
  synced : (m : ℕ) → get core.synced die ≡ Some m → m < number

abbrev Leads : ℕ → ℕ → Core → List Happening → Type 0
Leads number die core happenings =
    (Before number die core → TakesAndEndsSync die happenings)
    × (During number die core → EndsSync die happenings ⊎ TakesAndEndsSync die happenings)

module _ (one : SyncedLaw) (two : JobsLaw) (three : FlushesLaw) (number die : ℕ) where
  happens_counted : (before : World) (happening : Happening) (after : World) → Counted before.core → Happens before happening after → Counted after.core
  happens_counted before (Event act) after c happens =
      step_counted before.core after.core act (one before.core after.core act happens.step) (two before.core after.core act happens.step)
      (three before.core after.core act happens.step) c
  happens_counted before (ImageCall d gave) after c happens =
      subst Counted (sym (calls_core before after d (before.works d) gave happens)) c

  still_during : (old new : Core) (act : Act) → Step old act new → During number die old → (Tells act die → ⊥) → During number die new
  still_during old new act step h none = record {
    begun = let n = h.begun in let up = flushes_rise old new act (three old new act step) in omega (arith, n, up);
    synced = λ m e. elim (synced_was old new act die m (one old new act step) e) [
      | inl was ↦ h.synced m was
      | inr told ↦ absurd (none told.0)
    ];
  }

  still_before : (old new : Core) (act : Act) → Step old act new → Before number die old → ((m : ℕ) → Hands act die (Sync m) → ⊥) → Before number die new
  still_before old new act step h none = record {
    begun = let n = h.begun in let up = flushes_rise old new act (three old new act step) in omega (arith, n, up);
    synced = λ m e. elim (synced_was old new act die m (one old new act step) e) [
      | inl was ↦ h.synced m was
      | inr told ↦ h.job m told.1
    ];
    job = λ m e. elim (job_was old new act die (Sync m) (two old new act step) e) [
      | inl was ↦ h.job m was
      | inr handed ↦ absurd (none m handed)
    ];
  }

  to_during : (core : Core) → Before number die core → During number die core
  to_during core h = record { begun = h.begun; synced = h.synced }

  -- a sync is handed out
  taken_during : (old new : Core) (d seat : ℕ) (job : Handed) → Step old (Take d seat (Some job)) new → Before number die old → During number die new
  taken_during old new d seat job step h = still_during old new (Take d seat (Some job)) step (to_during old h) (λ t. t)

  -- a job ends that told no sync
  over_before : (old new : Core) (d : ℕ) (outcome : Outcome) → Step old (Done d outcome) new → During number die old → (Tells (Done d outcome) die → ⊥)
      → d ≡ die → Before number die new
  over_before old new d outcome step h none same =
      let still = still_during old new (Done d outcome) step h none in
      record {
        begun = still.begun;
        synced = still.synced;
        job = λ m e. absurd (none-some (Sync m) (sym (ap (get new.jobs) (sym same) ∙ (two old new (Done d outcome) step).0) ∙ e));
      }

  -- where a die is handed a job
  take_leads : (old new : Core) (d seat : ℕ) (job : Handed) (rest : List Happening) → Step old (Take d seat (Some job)) new → Leads number die new rest
      → Before number die old → ((d ≡ die) × (is_sync job.flight ≡ true) × EndsSync die rest) ⊎ TakesAndEndsSync die rest
  take_leads old new d seat job rest step leads h =
      elim (cases_eq d die) [
        | inr apart ↦ inr (leads.0 (still_before old new (Take d seat (Some job)) step h (λ m t. apart t.0)))
        | inl same ↦ elim (cases_Bool (is_sync job.flight)) [
          | inr other ↦ inr (leads.0 (still_before old new (Take d seat (Some job)) step h (λ m t. false≢true (sym other ∙ ap is_sync t.1))))
          | inl sync ↦ elim (leads.1 (taken_during old new d seat job step h)) [
            | inl ends ↦ inl (same, sync, ends)
            | inr later ↦ inr later
          ]
        ]
      ]

  -- where the job of a die ends
  done_leads : (old new : Core) (d : ℕ) (outcome : Outcome) (rest : List Happening) → Step old (Done d outcome) new → Leads number die new rest
      → (Tells (Done d outcome) die → ⊥) → During number die old
      → (((d ≡ die) × (outcome ≡ DidSync)) ⊎ ((d ≡ die → ⊥) × EndsSync die rest)) ⊎ TakesAndEndsSync die rest
  done_leads old new d outcome rest step leads none h =
      elim (cases_eq d die) [
        | inl same ↦ inr (leads.0 (over_before old new d outcome step h none same))
        | inr apart ↦ elim (leads.1 (still_during old new (Done d outcome) step h none)) [
          | inl ends ↦ inl (inr (apart, ends))
          | inr later ↦ inr later
        ]
      ]

  sync_leads : (old new : Core) (d : ℕ) (rest : List Happening) → Step old (Done d DidSync) new → Leads number die new rest → During number die old
      → (((d ≡ die) × (DidSync ≡ DidSync)) ⊎ ((d ≡ die → ⊥) × EndsSync die rest)) ⊎ TakesAndEndsSync die rest
  sync_leads old new d rest step leads h =
      elim (cases_eq d die) [
        | inl same ↦ inl (inl (same, refl))
        | inr apart ↦ done_leads old new d DidSync rest step leads apart h
      ]

  event_leads : (old new : Core) (act : Act) (rest : List Happening) → Step old act new → Leads number die new rest → Leads number die old (Event act ∷ rest)
  event_leads old new (Take d seat (Some job)) rest step leads = (
    take_leads old new d seat job rest step leads,
    λ h. elim (leads.1 (still_during old new (Take d seat (Some job)) step h (λ t. t))) [
      | inl ends ↦ inl ends
      | inr later ↦ inr (inr later)
    ],
  )
  event_leads old new (Done d DidSync) rest step leads = (
    λ h. leads.0 (still_before old new (Done d DidSync) step h (λ m t. t)),
    sync_leads old new d rest step leads,
  )
  event_leads old new (Done d outcome) rest step leads = (
    λ h. leads.0 (still_before old new (Done d outcome) step h (λ m t. t)),
    done_leads old new d outcome rest step leads (λ t. t),
  )
  event_leads old new act rest step leads = (
    λ h. leads.0 (still_before old new act step h (λ m t. t)),
    λ h. leads.1 (still_during old new act step h (λ t. t)),
  )

  run_leads : (before : World) (happenings : List Happening) (last : World) → Run before happenings last → (m : ℕ) → get last.core.synced die ≡ Some m
      → number ≤ m → Leads number die before.core happenings
  run_leads before [] last run m e many =
      let was : get before.core.synced die ≡ Some m = sym (ap (λ (w : World). get w.core.synced die) run) ∙ e in (
        λ h. let n = h.synced m was in absurd (omega (arith, n, many)),
        λ h. let n = h.synced m was in absurd (omega (arith, n, many)),
      )
  run_leads before (Event act ∷ rest) last run m e many =
      event_leads before.core run.0.core act rest run.1.step (run_leads run.0 rest last run.2 m e many)
  run_leads before (ImageCall d gave ∷ rest) last run m e many =
      subst (λ (c : Core). Leads number die c rest) (calls_core before run.0 d (before.works d) gave run.1) (run_leads run.0 rest last run.2 m e many)

all_of : {X : Type 0} (p : X → Bool) (xs : List X) → list_all p xs ≡ true → (x : X) → Among x xs → p x ≡ true
all_of p [] e x i = absurd i
all_of p (y ∷ ys) e x (inl same) = ap p (sym same) ∙ (and_parts (p y) (list_all p ys) e).0
all_of p (y ∷ ys) e x (inr rest) = all_of p ys (and_parts (p y) (list_all p ys) e).1 x rest

third_of : (a b c : Bool) → a ≡ true → b ≡ true → (not a || not b || c) ≡ true → c ≡ true
third_of true true c x y e = e
third_of true false c x y e = absurd (false≢true y)
third_of false b c x y e = absurd (false≢true x)

-- what was synced, where it is for some flush
found_synced : (o : Option ℕ) (number : ℕ) → 0 < number → number ≤ unwrap_or o 0 → (m : ℕ) × (o ≡ Some m) × (number ≤ m)
found_synced None number some e = absurd (omega arith)
found_synced (Some m) number some e = (m, refl, e)

pub synced_by_syncs : LiveLaw → GeometryLaw → SyncedLaw → JobsLaw → FlushesLaw → (w begun_then last : World) (flush : Flush) (happenings : List Happening) (die : ℕ)
    → IsReached w → HappensEvent w (FlushBegin (Ok flush)) begun_then → Run begun_then happenings last
    → list_all (has_synced last.core flush) (dies_of last.core.page_map) ≡ true
    → is_live w.core.page_map die ≡ true → is_live last.core.page_map die ≡ true → TakesAndEndsSync die happenings
synced_by_syncs lives same one two three w begun_then last flush happenings die r begins run answered was alive =
    let begin : Act = FlushBegin (Ok flush) in
    let counted = run_keeps (λ (v : World). Counted v.core) (happens_counted one two three 0 0) r.first r.happenings w (none_counted r.first r.beginning) r.run in
    let flushes = three w.core begun_then.core begin begins.step in
    let reached : IsReached last = record {
      first = r.first;
      happenings = r.happenings ++ (Event begin ∷ happenings);
      beginning = r.beginning;
      run = runs_on r.first r.happenings w (Event begin ∷ happenings) last r.run (begun_then, begins, run);
    } in
    let inside = reached_inside lives same last reached die alive in
    let most = last.core.page_map.geometry.within.dies_fit.most in
    let here = all_of (has_synced last.core flush) (dies_of last.core.page_map) answered die
    (among-range 0 last.core.page_map.geometry.dies die (omega arith) (omega (arith, inside))) in
    let named : slice_index_or flush.live die false ≡ true =
    ap (λ (l : List Bool). slice_index_or l die false) begins.step.does.2
    ∙ get_or-map-range_with_len (is_live w.core.page_map) 0 64 die die false (omega (arith, inside, most)) (omega arith) ∙ was in
    let many = leb-true flush.number (unwrap_or (get last.core.synced die) 0)
    (third_of (slice_index_or flush.live die false) (is_live last.core.page_map die) (nat_le flush.number (unwrap_or (get last.core.synced die) 0)) named alive here) in
    let f = flushes.0 in
    let g = flushes.1 in
    let found = found_synced (get last.core.synced die) flush.number (omega (arith, f, g)) many in
    (run_leads one two three flush.number die begun_then happenings last run found.0 found.1 found.2).0 (record {
      begun = omega (arith, g);
      synced = λ m e. let n = counted.synced die m (synced_same w.core begun_then.core die m (one w.core begun_then.core begin begins.step) e) in omega (arith, n, f, g);
      job = λ m e. elim (job_was w.core begun_then.core begin die (Sync m) (two w.core begun_then.core begin begins.step) e) [
        | inl before ↦ let n = counted.job die m before in omega (arith, n, f, g)
        | inr handed ↦ absurd handed
      ];
    })
