-- What becomes of a die and of the counts of its image in what is done with an array.
use Rattle.fa_solo_laws.proofs.DrivenDeeds.{got_here, got_other}
use Rattle.fa_solo_laws.proofs.Counts.{Counts, faults_by, more, more_both, ran_counts, syncs_by}
use Rattle.fa_solo_laws.specs.Driving.{image_on}
use Rattle.fa_mount_headers.specs.declared.judging.Standing.{Standing}
use Rattle.fa_image.specs.Image.{ImageAnswer, ImageCall, ImageMeets, ImageState}
use Rattle.fa_laws.proofs.Failing.{LiveLaw}
use Rattle.fa_laws.proofs.Returning.{IsOut, SparesLaw, finished_live, stays_out}
use Rattle.fa_laws.proofs.Syncs.{FlushesLaw, JobsLaw, SyncedLaw}
use Rattle.fa_laws.specs.Syncing.{KeepsFlushes, KeepsSynced}
use Rattle.fa_machine.proofs.Maps.{get-insert_cases, get-insert_other, get-insert_same, get-remove_other, get-remove_same, get-remove_some}
use Rattle.fa_machine.specs.Cells.{DidSync, Fault, Outcome, Wrong}
use Rattle.fa_machine.specs.Maps.{Numbers}
use Rattle.fa_machine.specs.State.{Core, is_live}
use Rattle.fa_machine.specs.Step.{Act, Done, FlushBegin, SpareIn, Step, Take}
use Rattle.fa_machine.specs.Taking.{EndsJob, Handed, finished, is_idle}
use Rattle.fa_machine.specs.declared.jobs.Flight.{Flight}
use Rattle.fa_machine.specs.declared.jobs.Flight.TheVariants.{Erase, Header, Move, Program, Read, Sync}
use Rattle.fa_machine.specs.declared.refusals.SpareRefused.TheVariants.{NotSpare}
use Rattle.fa_mount.specs.Standings.{AreApart, place_on}
use Rattle.fa_solo_job.specs.Deeds.{MakesJob}
use Rattle.fa_solo_job.specs.House.{House}
use Rattle.std.proofs.Common.{Bool, List, None, Ok, Err, Option, Some, ap, arith, false, inl, inr, refl, slice_get, slice_set, subst}
use Rattle.std.proofs.Common.{sym, true, ℕ}
use Rattle.std.proofs.Common.{◌+◌, ◌<◌, ◌∙◌, ◌≡◌, ◌≤◌, ◌⊎◌}
use Rattle.std.proofs.lemmas.Bool.{and_parts, cases_Bool, cases_eq, false≢true}
use Rattle.std.proofs.lemmas.Option.{none-some, same_Some}
use Rattle.std.specs.FinMap.{FinMap, contains_key, get, insert, remove}
use Rattle.std.specs.Ordering.{nat_cmp}
use Rattle.std.specs.Prelude.{if◌then◌else◌, is_some, option_and_then}

-- A die in use.
pub record IsIn (core : Core) (die : ℕ) : Type 0 where
  pub live : is_live core.page_map die ≡ true
  pub no_spare : contains_key core.spares die ≡ false

-- A spare that was not brought in yet.
pub record IsSpare (core : Core) (die : ℕ) : Type 0 where
  pub not_live : is_live core.page_map die ≡ false
  pub spare : contains_key core.spares die ≡ true

-- an event that ends no job
abbrev pub IsNoDone : Act → Type 0
IsNoDone (Done die outcome) = ⊥
IsNoDone act = Unit {0}

-- the laws of single events by which a die stays what it is
pub record DieLaws : Type 0 where
  pub lives : LiveLaw
  pub spares : SparesLaw
  pub synced : SyncedLaw
  pub jobs : JobsLaw
  pub flushes : FlushesLaw

pub flushes_rise : (old new : Core) (act : Act) → KeepsFlushes old act new → old.flushes ≤ new.flushes
flushes_rise old new (FlushBegin (Ok flush)) kept = let one = kept.0 in omega (arith, one)
flushes_rise old new act kept = omega (arith, kept)

-- what events keep that end no job
module _ (laws : DieLaws) (old new : Core) (die : ℕ) where
  pub spare_kept : (act : Act) → Step old act new → contains_key old.spares die ≡ false → contains_key new.spares die ≡ false
  spare_kept (SpareIn d (Ok done)) step none = ap (λ (c : Core). contains_key c.spares die) step.does.1 ∙ without
    where
      without : contains_key (remove old.spares d) die ≡ false
      without = elim (cases_Bool (contains_key (remove old.spares d) die)) [
        | inl there ↦ absurd (false≢true (sym none ∙ was_spare there))
        | inr not_there ↦ not_there
      ]
        where
          was_spare : contains_key (remove old.spares d) die ≡ true → contains_key old.spares die ≡ true
          was_spare there = by_get (get (remove old.spares d) die) refl there
            where
              by_get : (o : Option _) → get (remove old.spares d) die ≡ o → is_some o ≡ true → contains_key old.spares die ≡ true
              by_get None is some = absurd (false≢true some)
              by_get (Some x) is some = ap is_some (get-remove_some old.spares d die x is).0
  spare_kept (SpareIn d (Err NotSpare)) step none = ap (λ (c : Core). contains_key c.spares die) step.does.1 ∙ none
  spare_kept act step none = ap (λ (m : Numbers). contains_key m die) (laws.spares old new act step) ∙ none

  pub live_kept : (act : Act) → IsNoDone act → Step old act new → is_live old.page_map die ≡ true → is_live new.page_map die ≡ true
  live_kept (Done d outcome) ends_none step live = absurd ends_none
  live_kept (SpareIn d (Ok done)) ends_none step live = ap (λ (c : Core). is_live c.page_map die) step.does.1 ∙ still
    where
      still : contains_key (insert old.page_map.live d tt) die ≡ true
      still = elim (cases_eq die d) [
        | inl same ↦ ap is_some (ap (get (insert old.page_map.live d tt)) same ∙ get-insert_same old.page_map.live d tt)
        | inr apart ↦ ap is_some (get-insert_other old.page_map.live d tt die apart) ∙ live
      ]
  live_kept (SpareIn d (Err NotSpare)) ends_none step live = ap (λ (c : Core). is_live c.page_map die) step.does.1 ∙ live
  live_kept act ends_none step live = ap (λ (m : Numbers). contains_key m die) (laws.lives old new act step) ∙ live

  -- a spare stays one, or is brought in
  spare_enters : (act : Act) → IsNoDone act → Step old act new → IsSpare old die → IsSpare new die ⊎ IsIn new die
  spare_enters (Done d outcome) ends_none step is = absurd ends_none
  spare_enters (SpareIn d (Ok done)) ends_none step is =
      subst (λ (c : Core). IsSpare c die ⊎ IsIn c die) (sym step.does.1) (elim (cases_eq die d) [
        | inl same ↦ inr (record {
          live = ap is_some (ap (get (insert old.page_map.live d tt)) same ∙ get-insert_same old.page_map.live d tt);
          no_spare = ap is_some (ap (get (remove old.spares d)) same ∙ get-remove_same old.spares d);
        })
        | inr apart ↦ inl (record {
          not_live = ap is_some (get-insert_other old.page_map.live d tt die apart) ∙ is.not_live;
          spare = ap is_some (get-remove_other old.spares d die apart) ∙ is.spare;
        })
      ])
  spare_enters (SpareIn d (Err NotSpare)) ends_none step is = inl (subst (λ (c : Core). IsSpare c die) (sym step.does.1) is)
  spare_enters act ends_none step is = inl (record {
    not_live = ap (λ (m : Numbers). contains_key m die) (laws.lives old new act step) ∙ is.not_live;
    spare = ap (λ (m : Numbers). contains_key m die) (laws.spares old new act step) ∙ is.spare;
  })

  pub same_synced : (act : Act) → IsNoDone act → KeepsSynced old act new → new.synced ≡ old.synced
  same_synced (Done d outcome) ends_none kept = absurd ends_none
  same_synced act ends_none kept = kept

  -- What a die has synced changes only as a sync of it ends, to what the sync was taken for.
  pub synced_by : (d : ℕ) (outcome : Outcome) (flush : ℕ) → KeepsSynced old (Done d outcome) new → get new.synced die ≡ Some flush
      → (get old.synced die ≡ Some flush) ⊎ ((die ≡ d) × ((lasting : Bool) → syncs_by lasting outcome ≡ 1) × (get old.jobs die ≡ Some (Sync flush)))
  synced_by d DidSync flush kept is =
      elim (get-insert_cases old.synced d kept.0 die flush (sym (ap (λ (s : FinMap nat_cmp ℕ). get s die) kept.2) ∙ is)) [
        | inl here ↦ inr (here.0, (λ lasting. refl), ap (get old.jobs) here.0 ∙ kept.1 ∙ ap (λ n. Some (Sync n)) here.1)
        | inr was ↦ inl was.0
      ]
  synced_by d outcome flush kept is =
      elim kept [
        | inl same ↦ inl (sym (ap (λ (s : FinMap nat_cmp ℕ). get s die) same) ∙ is)
        | inr out ↦ inl (get-remove_some old.synced d die flush (sym (ap (λ (s : FinMap nat_cmp ℕ). get s die) out.0) ∙ is)).0
      ]

-- a job that ends brings no die in
none_enters : (old new : Core) (d die : ℕ) (flight : Option Flight) (outcome : Outcome) → EndsJob old d flight outcome new
    → is_live old.page_map die ≡ false → is_live new.page_map die ≡ false
none_enters old new d die None outcome ends not_live = absurd ends
none_enters old new d die (Some flight) outcome ends not_live =
    ap (λ (c : Core). is_live c.page_map die) ends
    ∙ elim (finished_live d flight outcome (record old { jobs = remove old.jobs d })) [
      | inl kept ↦ ap (λ (m : Numbers). contains_key m die) kept ∙ not_live
      | inr left ↦ ap (λ (m : Numbers). contains_key m die) left ∙ elim (cases_eq die d) [
        | inl same ↦ ap is_some (ap (get (remove old.page_map.live d)) same ∙ get-remove_same old.page_map.live d)
        | inr apart ↦ ap is_some (get-remove_other old.page_map.live d die apart) ∙ not_live
      ]
    ]

-- a job that ends with a fault takes its die out
drops : (die call : ℕ) (flight : Flight) (core : Core)
    → (finished die flight (Fault call) core).page_map.live ≡ remove core.page_map.live die
drops die call (Header epoch live) core = refl
drops die call (Move page version from to) core = refl
drops die call (Erase block) core = refl
drops die call (Read batch page version slot) core = refl
drops die call (Program page version slot) core = refl
drops die call (Sync flushes) core = refl

fault_out : (old new : Core) (die call : ℕ) (flight : Flight) → EndsJob old die (Some flight) (Fault call) new
    → is_live new.page_map die ≡ false
fault_out old new die call flight ends =
    ap (λ (c : Core). is_live c.page_map die) ends
    ∙ ap (λ (m : Numbers). contains_key m die) (drops die call flight _) ∙ ap is_some (get-remove_same old.page_map.live die)

-- a job is handed out to a die in use alone
take_idle : (b : Bool) (found : Option Handed × Core) (job : Handed) (old new : Core)
    → ◌≡◌ {A = Option Handed × Core} (Some job, new) (if b then found else (None, old)) → b ≡ true
take_idle true found job old new takes = refl
take_idle false found job old new takes = absurd (none-some job (sym (ap (λ (p : Option Handed × Core). p.0) takes)))

take_live : (old new : Core) (die seat : ℕ) (job : Handed) → Step old (Take die seat (Some job)) new → is_live old.page_map die ≡ true
take_live old new die seat job step =
    (and_parts (is_live old.page_map die) _ (take_idle (is_idle old die) _ job old new step.does)).0

-- the die of a Done, and its outcome
abbrev die_in : Act → ℕ
die_in (Done die outcome) = die
die_in act = 0

abbrev outcome_in : Act → Outcome
outcome_in (Done die outcome) = outcome
outcome_in act = Wrong

faultless : (outcome : Outcome) → ((call : ℕ) → outcome ≡ Fault call → ⊥) → faults_by outcome ≡ 0
faultless (Fault call) none = absurd (none call refl)
faultless outcome none = refl

module _ {I : Type 0} (view : I → ImageState) (dies : List Standing) (die : ℕ) where
  -- A die in use stays so, and no call of its image was refused; or it is out, and one call was. One that is out stays so, and no call was
  -- refused. A spare stays one or comes in, and no call was refused; or it is out, and one call was. What the die has synced changes only
  -- where its image has synced.
  pub record Fate (old new : House I) : Type 0 where
    pub faults : ℕ
    pub syncs : ℕ
    pub image : (before : I) → image_on dies old.images die ≡ Some before
        → (after : I) × (image_on dies new.images die ≡ Some after) × Counts view faults syncs before after
    pub lives : IsIn old.core die → (IsIn new.core die × (faults ≡ 0)) ⊎ (IsOut new.core die × (faults ≡ 1))
    pub out : IsOut old.core die → IsOut new.core die × (faults ≡ 0)
    pub enters : IsSpare old.core die
        → ((IsSpare new.core die ⊎ IsIn new.core die) × (faults ≡ 0)) ⊎ (IsOut new.core die × (faults ≡ 1))
    pub synced : (m : ℕ) → get new.core.synced die ≡ Some m → (get old.core.synced die ≡ Some m) ⊎ (0 < syncs)
    pub flushes : old.core.flushes ≤ new.core.flushes

  pub fate_on : (old middle new : House I) → Fate old middle → Fate middle new → Fate old new
  fate_on old middle new one two = record {
    faults = one.faults + two.faults;
    syncs = one.syncs + two.syncs;
    image = λ before is.
        let first = one.image before is in
        let second = two.image first.0 first.1 in (
          second.0,
          second.1,
          record {
            faults_are =
                second.2.faults_are ∙ ap (more two.faults) first.2.faults_are ∙ sym (more_both one.faults two.faults (view before).faults);
            syncs_are =
                second.2.syncs_are ∙ ap (more two.syncs) first.2.syncs_are ∙ sym (more_both one.syncs two.syncs (view before).syncs);
          },
        );
    lives = λ is. elim (one.lives is) [
      | inl still ↦ elim (two.lives still.0) [
        | inl last ↦ let a = still.1 in let b = last.1 in inl (last.0, omega (arith, a, b))
        | inr left ↦ let a = still.1 in let b = left.1 in inr (left.0, omega (arith, a, b))
      ]
      | inr left ↦ let last = two.out left.0 in let a = left.1 in let b = last.1 in inr (last.0, omega (arith, a, b))
    ];
    out = λ is. let first = one.out is in let last = two.out first.0 in let a = first.1 in let b = last.1 in (last.0, omega (arith, a, b));
    enters = λ is. elim (one.enters is) [
      | inl still ↦ elim (still.0) [
        | inl spare ↦ elim (two.enters spare) [
          | inl last ↦ let a = still.1 in let b = last.1 in inl (last.0, omega (arith, a, b))
          | inr left ↦ let a = still.1 in let b = left.1 in inr (left.0, omega (arith, a, b))
        ]
        | inr here ↦ elim (two.lives here) [
          | inl last ↦ let a = still.1 in let b = last.1 in inl (inr last.0, omega (arith, a, b))
          | inr left ↦ let a = still.1 in let b = left.1 in inr (left.0, omega (arith, a, b))
        ]
      ]
      | inr left ↦ let last = two.out left.0 in let a = left.1 in let b = last.1 in inr (last.0, omega (arith, a, b))
    ];
    synced = λ m is. elim (two.synced m is) [
      | inl was ↦ elim (one.synced m was) [
        | inl first ↦ inl first
        | inr some ↦ inr (omega (arith, some))
      ]
      | inr some ↦ inr (omega (arith, some))
    ];
    flushes = let a = one.flushes in let b = two.flushes in omega (arith, a, b);
  }

  pub syncs_on : (old middle new : House I) (one : Fate old middle) (two : Fate middle new)
      → (fate_on old middle new one two).syncs ≡ one.syncs + two.syncs
  unfolding fate_on
  syncs_on old middle new one two = refl

  -- an event that ends no job
  pub event_fate : DieLaws → (old new : House I) (act : Act) → IsNoDone act → Step old.core act new.core → new.images ≡ old.images
      → Fate old new
  event_fate laws old new act ends_none step images = record {
    faults = 0;
    syncs = 0;
    image = λ before is. (before, ap (λ (l : List I). image_on dies l die) images ∙ is, record { faults_are = refl; syncs_are = refl });
    lives = λ is. inl (
      record {
        live = live_kept laws old.core new.core die act ends_none step is.live;
        no_spare = spare_kept laws old.core new.core die act step is.no_spare;
      },
      refl,
    );
    out = λ is. (stays_out laws.lives laws.spares old.core new.core act die step is, refl);
    enters = λ is. inl (spare_enters laws old.core new.core die act ends_none step is, refl);
    synced = λ m is. inl (sym (ap (λ (s : FinMap nat_cmp ℕ). get s die)
        (same_synced laws old.core new.core die act ends_none (laws.synced old.core new.core act step))) ∙ is);
    flushes = flushes_rise old.core new.core act (laws.flushes old.core new.core act step);
  }

  pub same_fate : (old new : House I) → new.core ≡ old.core → new.images ≡ old.images → Fate old new
  same_fate old new core images =
      subst (λ (c : Core). Fate old (record { core = c; images = new.images })) (sym core)
      (subst (λ (l : List I). Fate old (record { core = old.core; images = l })) (sym images) (record {
        faults = 0;
        syncs = 0;
        image = λ before is. (before, is, record { faults_are = refl; syncs_are = refl });
        lives = λ is. inl (is, refl);
        out = λ is. (is, refl);
        enters = λ is. inl (inl is, refl);
        synced = λ m is. inl is;
        flushes = omega arith;
      }))

-- the image of a die before a job of it, and behind it
module _ {I : Type 0} (dies : List Standing) (images : List I) (die index : ℕ) (old new : I) (place : place_on dies die ≡ Some index)
    (is : slice_get images index ≡ Some old) where
  pub its_first : image_on dies images die ≡ Some old
  its_first = ap (option_and_then (slice_get images)) place ∙ is

  pub its_image : image_on dies (slice_set images index new) die ≡ Some new
  its_image = ap (option_and_then (slice_get (slice_set images index new))) place ∙ got_here images index old new is

-- what a job of a die comes to
module _ {I : Type 0} (view : I → ImageState) (honest : I → Bool) (made : I → ImageCall → ImageAnswer → I → Type 0)
    (meets : (before after : I) (call : ImageCall) (answer : ImageAnswer) → made before call answer after
    → ImageMeets (view before) (honest before) call answer (view after) (honest after)) (array : List ℕ) (dies : List Standing) (seat : ℕ)
    (laws : DieLaws) (apart : AreApart dies) (die : ℕ) where
  others_image : (images : List I) (d index : ℕ) (new : I) → place_on dies d ≡ Some index → (die ≡ d → ⊥)
      → image_on dies (slice_set images index new) die ≡ image_on dies images die
  others_image images d index new place other = by_place (place_on dies die) refl
    where
      by_place : (o : Option ℕ) → place_on dies die ≡ o
          → option_and_then (slice_get (slice_set images index new)) o ≡ option_and_then (slice_get images) o
      by_place None is = refl
      by_place (Some k) is =
          got_other images index k new (λ same. other (apart die d index (is ∙ ap Some same) place))

  -- The job is the die's own, or another die's, and then the image of this one stays as it is.
  module _ (d : ℕ) (old new : House I) (job : MakesJob made array dies seat d old new)
      (leaves : is_live job.taken.page_map die ≡ true → is_live new.core.page_map die ≡ false
      → (call : ℕ) × (Done d job.outcome ≡ Done die (Fault call))) where
    abbrev middle : House I
    middle = record { core = job.taken; images = old.images }

    taking : Fate view dies die old middle
    taking = event_fate view dies die laws old middle (Take d seat (Some job.job)) tt job.takes refl

    taken_live : is_live job.taken.page_map d ≡ true
    taken_live = live_kept laws old.core job.taken d (Take d seat (Some job.job)) tt job.takes
        (take_live old.core job.taken d seat job.job job.takes)

    spare_then : contains_key job.taken.spares die ≡ false → contains_key new.core.spares die ≡ false
    spare_then = spare_kept laws job.taken new.core die (Done d job.outcome) job.ends

    at_fault : (call : ℕ) → job.outcome ≡ Fault call → is_live new.core.page_map d ≡ false
    at_fault call is = fault_out job.taken new.core d call job.job.flight
        (subst (λ (o : Outcome). EndsJob job.taken d (Some job.job.flight) o new.core) is
        (subst (λ (f : Option Flight). EndsJob job.taken d f job.outcome new.core)
        (laws.jobs old.core job.taken (Take d seat (Some job.job)) job.takes).1
        job.ends.does))

    ends_own : die ≡ d → Fate view dies die middle new
    ends_own same = record {
      faults = faults_by job.outcome;
      syncs = syncs_by job.job.lasting job.outcome;
      image = λ before is.
          let here = ap (image_on dies old.images) (sym same) ∙ is in
          let was : job.before ≡ before =
          same_Some job.before before (sym (its_first dies old.images d job.index job.before job.after job.place job.image) ∙ here) in (
            job.after,
            ap (image_on dies new.images) same ∙ ap (λ (l : List I). image_on dies l d) job.images
                ∙ its_image dies old.images d job.index job.before job.after job.place job.image,
            subst (λ i. Counts view (faults_by job.outcome) (syncs_by job.job.lasting job.outcome) i job.after) was
                (ran_counts view honest made meets old.core.page_map.geometry array d job.job job.outcome job.before job.after job.ran),
          );
      lives = λ is. elim (cases_Bool (is_live new.core.page_map die)) [
        | inl still ↦ inl (
          record { live = still; no_spare = spare_then is.no_spare },
          faultless job.outcome (λ call fault. false≢true (sym (ap (is_live new.core.page_map) same ∙ at_fault call fault) ∙ still)),
        )
        | inr left ↦
            let cause = leaves is.live left in
            inr (record { not_live = left; no_spare = spare_then is.no_spare }, ap faults_by (ap outcome_in cause.1))
      ];
      out = λ is. absurd (false≢true (sym is.not_live ∙ (ap (is_live job.taken.page_map) same ∙ taken_live)));
      enters = λ is. absurd (false≢true (sym is.not_live ∙ (ap (is_live job.taken.page_map) same ∙ taken_live)));
      synced = λ m is. elim
          (synced_by laws job.taken new.core die d job.outcome m (laws.synced job.taken new.core (Done d job.outcome) job.ends) is) [
            | inl was ↦ inl was
            | inr one ↦ let n = one.1 job.job.lasting in inr (omega (arith, n))
          ];
      flushes = flushes_rise job.taken new.core (Done d job.outcome) (laws.flushes job.taken new.core (Done d job.outcome) job.ends);
    }

    ends_other : (die ≡ d → ⊥) → Fate view dies die middle new
    ends_other other = record {
      faults = 0;
      syncs = 0;
      image = λ before is. (
        before,
        ap (λ (l : List I). image_on dies l die) job.images ∙ others_image old.images d job.index job.after job.place other ∙ is,
        record { faults_are = refl; syncs_are = refl },
      );
      lives = λ is. elim (cases_Bool (is_live new.core.page_map die)) [
        | inl still ↦ inl (record { live = still; no_spare = spare_then is.no_spare }, refl)
        | inr left ↦ absurd (other (sym (ap die_in (leaves is.live left).1)))
      ];
      out = λ is. (stays_out laws.lives laws.spares job.taken new.core (Done d job.outcome) die job.ends is, refl);
      enters = λ is. inl (
        inl (record {
          not_live = none_enters job.taken new.core d die (get job.taken.jobs d) job.outcome job.ends.does is.not_live;
          spare = ap (λ (m : Numbers). contains_key m die) (laws.spares job.taken new.core (Done d job.outcome) job.ends) ∙ is.spare;
        }),
        refl,
      );
      synced = λ m is. elim
          (synced_by laws job.taken new.core die d job.outcome m (laws.synced job.taken new.core (Done d job.outcome) job.ends) is) [
            | inl was ↦ inl was
            | inr one ↦ absurd (other one.0)
          ];
      flushes = flushes_rise job.taken new.core (Done d job.outcome) (laws.flushes job.taken new.core (Done d job.outcome) job.ends);
    }

    pub job_fate : Fate view dies die old new
    job_fate =
        fate_on view dies die old middle new taking (elim (cases_eq die d) [ inl same ↦ ends_own same | inr other ↦ ends_other other ])
