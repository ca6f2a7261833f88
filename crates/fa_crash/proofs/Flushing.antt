-- From a flush on: what was kept of a page on dies that are trusted with it, and on dies that have synced since.
use Rattle.fa_crash.proofs.Backward.{EndsProgram, trusted_back}
use Rattle.fa_crash.proofs.EventKept.{job_at, lasting_gave, numbers, outcome_at}
use Rattle.fa_crash.proofs.EventWorks.{then_works}
use Rattle.fa_crash.proofs.Kept.{IsKept}
use Rattle.fa_crash.proofs.Laws.{Laws}
use Rattle.fa_crash.proofs.Runs.{happens_kept}
use Rattle.fa_crash.proofs.Shape.{Shape, kept_grows, one_gave, shape_of, synced_numbers, two_gave}
use Rattle.fa_crash.proofs.Standing.{number_none}
use Rattle.fa_crash.proofs.Syncing.{SyncLaws, TellsSync, synced_was}
use Rattle.fa_crash.proofs.Taken.{sync_gave, taken_gave}
use Rattle.fa_crash.proofs.Trusted.{HeldOn, IsMarked, Trusted}
use Rattle.fa_crash.specs.Unsynced.{Unsynced, number_of, unsynced_behind}
use Rattle.fa_crash.specs.Whole.{IsWhole}
use Rattle.fa_laws.proofs.Admitting.{one_value_other, one_value_same}
use Rattle.fa_laws.proofs.Endings.{HasOutcome}
use Rattle.fa_machine.specs.Cells.{DidProgram, DidSync}
use Rattle.fa_machine.specs.Run.{Event, Happening, Happens, HappensEvent, ImageCall}
use Rattle.fa_machine.specs.State.{Core}
use Rattle.fa_machine.specs.Step.{Act, Done}
use Rattle.fa_machine.specs.World.{Accepted, Gave, IsTold, Syncs, Work, World, next_call, outcome_of}
use Rattle.fa_machine.specs.declared.jobs.Flight.TheVariants.{Program, Sync}
use Rattle.fa_machine.specs.declared.places.Version.{Version}
use Rattle.fa_sound.specs.Owners.{TargetAt, owned_of}
use Rattle.fa_types.specs.declared.numbers.Page.{Page}
use Rattle.fa_types.specs.declared.numbers.Slot.{Slot}
use Rattle.std.proofs.Common.{List, Option, Some, [], ap, arith, inl, inr, subst, sym, true, ℕ, ◌∙◌, ◌∷◌, ◌≡◌, ◌≤◌, ◌⊎◌}
use Rattle.std.proofs.lemmas.Bool.{cases_Bool, cases_eq}
use Rattle.std.proofs.lemmas.Option.{same_Some}
use Rattle.std.specs.FinMap.{get}
use Rattle.std.specs.Prelude.{◌++◌}

-- a lasting program that was synced, and has not ended
pub record IsSyncedProgram (work : Work) : Type 0 where
  pub page : Page
  pub version : Version
  pub slot : Slot
  pub flight : work.job.flight ≡ Program page version slot
  pub lasting : work.job.lasting ≡ true
  pub gave : work.gave ≡ Accepted ∷ Accepted ∷ []

-- These dies keep a page with a number, or a newer one, where they are trusted with it or are to be.
pub record IsHeldSince (these : ℕ → Type 0) (page n : ℕ) (w : World) (u : Unsynced) : Type 0 where
  pub number : n ≤ number_of w.core page
  pub trusted : (die : ℕ) → these die → Trusted w.core die page → n ≤ u.kept die page
  pub lasting : (die : ℕ) → these die → (work : Work) → w.works die ≡ Some work → IsSyncedProgram work → n ≤ u.kept die page

-- Each die keeps it that has ended a sync for a flush from a number on, or whose image has accepted one.
pub record IsSyncedSince (flush page n : ℕ) (w : World) (u : Unsynced) : Type 0 where
  pub synced : (die m : ℕ) → get w.core.synced die ≡ Some m → flush ≤ m → n ≤ u.kept die page
  pub job : (die : ℕ) (work : Work) (m : ℕ) → w.works die ≡ Some work → work.job.flight ≡ Sync m → flush ≤ m → work.gave ≡ Accepted ∷ []
      → n ≤ u.kept die page

none_given : (xs : List Gave) (x : Gave) (ys : List Gave) → xs ≡ [] → xs ≡ x ∷ ys → ⊥
none_given xs x ys e f = cc

module _ (laws : Laws) (page n : ℕ) (some : 1 ≤ n) where
  module _ (w : World) (u : Unsynced) (k : IsKept w u) (act : Act) (after : World) (h : HappensEvent w act after) where
    abbrev old : Core
    old = w.core

    module _ (these : ℕ → Type 0) (f : IsHeldSince these page n w u) where
      program_held : (die : ℕ) → these die → (e : EndsProgram old act die page) → (d : ℕ) (p : Page) (version : Version) (slot : Slot)
          → get old.jobs d ≡ Some (Program p version slot) → e.target.die.0 ≡ d → e.target.slot.0 ≡ slot.0
          → HasOutcome d (w.works d) DidProgram → n ≤ u.kept die page
      program_held die here e d p version slot job on at told =
          elim (cases_Bool found.0.job.lasting) [
            | inl lasting ↦ subst (λ (m : ℕ). n ≤ u.kept m page) (sym same) (f.lasting d (subst these same here) found.0 found.1 (record {
              page = p;
              version = version;
              slot = slot;
              flight = found.2;
              lasting = lasting;
              gave = lasting_gave laws w u k act after h d found.0 found.1 p version slot found.2 lasting told;
            }))
            | inr plain ↦ elim (k.spared d found.0 p version slot found.1 found.2 plain a e.current) [
              | inl none ↦
                  let z = number_none old e.owned.page none in
                  let low = f.number in
                  let same_page : number_of old e.owned.page ≡ number_of old page = ap (number_of old) e.of_page in
                  absurd (omega (arith, z, low, same_page, some))
              | inr held ↦ f.trusted die here (inl (subst (λ (t : ℕ × ℕ). HeldOn old t.0 t.1) {x = (d, e.owned.page)} {y = (die, page)}
                  (λ i. (sym same i, e.of_page i)) held))
            ]
          ]
        where
          same : die ≡ d
          same = sym e.on_die ∙ on

          found : (work : Work) × (w.works d ≡ Some work) × (work.job.flight ≡ Program p version slot)
          found = job_at laws w u k act after h d (Program p version slot) job

          a : TargetAt (owned_of old.copying old.claims) d slot.0
          a = record { owner = e.owner; owned = e.owned; target = e.target; owns = e.owns; among = e.among; on_die = on; at_slot = at }

      ends_held : (b : Act) → IsTold w b → (die : ℕ) → these die → (e : EndsProgram old act die page) → IsMarked old b e.target
          → n ≤ u.kept die page
      ends_held (Done d DidProgram) told die here e m = program_held die here e d m.0 m.1 m.2 m.3 m.4 m.5 told
      ends_held b told die here e m = absurd m

      trusted_then : (die : ℕ) → these die → Trusted after.core die page → n ≤ u.kept die page
      trusted_then die here trusted =
          elim (trusted_back laws.live laws.numbers laws.raises old after.core act h.step k.sound die page trusted) [
            | inl before ↦ f.trusted die here before
            | inr ends ↦ ends_held act h.told die here ends ends.marked
          ]

      lasting_then : (die : ℕ) → these die → (work : Work) → after.works die ≡ Some work → IsSyncedProgram work → n ≤ u.kept die page
      lasting_then die here work e p =
          elim (then_works laws w u k act after h die work e) [
            | inl before ↦ f.lasting die here work before.0 p
            | inr taken ↦ absurd (none_given work.gave Accepted (Accepted ∷ []) (taken_gave act die work taken) p.gave)
          ]

      pub event_held : IsHeldSince these page n after u
      event_held = record {
        number = let low = f.number in let up = numbers laws w u k act after h page in omega (arith, low, up);
        trusted = trusted_then;
        lasting = lasting_then;
      }

    module _ (sync_laws : SyncLaws) (flush : ℕ) (g : IsSyncedSince flush page n w u) where
      told_synced : (b : Act) → IsTold w b → (die m : ℕ) → TellsSync b die → get old.jobs die ≡ Some (Sync m) → flush ≤ m
          → n ≤ u.kept die page
      told_synced (Done d DidSync) told die m same job late =
          let found = job_at laws w u k act after h die (Sync m) job in
          let path : found.0.job ≡ record { flight = Sync m; payload = found.0.job.payload; lasting = found.0.job.lasting } =
          λ i. record { flight = found.2 i; payload = found.0.job.payload; lasting = found.0.job.lasting } in
          let here : HasOutcome die (w.works die) DidSync = subst (λ (x : ℕ). HasOutcome x (w.works x) DidSync) same told in
          let gave = sync_gave die m found.0.job.payload found.0.job.lasting found.0.gave
          (sym (ap (λ j. outcome_of die j found.0.gave) path) ∙ outcome_at laws w u k act after h die found.0 DidSync found.1 here) in
          g.job die found.0 m found.1 found.2 late gave
      told_synced b told die m same job late = absurd same

      pub event_synced : IsSyncedSince flush page n after u
      event_synced = record {
        synced = λ die m e late. elim (synced_was old after.core act die m (sync_laws.synced old after.core act h.step) e) [
          | inl was ↦ g.synced die m was late
          | inr told ↦ told_synced act h.told die m told.0 told.1 late
        ];
        job = λ die work m e flight late gave. elim (then_works laws w u k act after h die work e) [
          | inl before ↦ g.job die work m before.0 flight late gave
          | inr taken ↦ absurd (none_given work.gave Accepted [] (taken_gave act die work taken) gave)
        ];
      }

  -- image calls
  module _ (w : World) (u : Unsynced) (die : ℕ) (gave : Gave) (after : World) (s : Shape w u die gave after) (low : n ≤ number_of w.core page) where
    abbrev behind : Unsynced
    behind = unsynced_behind w (ImageCall die gave) u

    grows : (d : ℕ) → n ≤ u.kept d page → n ≤ behind.kept d page
    grows d kept = kept_grows w u die gave after s page n d low kept

    work_now : (d : ℕ) (j : Work) → after.works d ≡ Some j
        → ((d ≡ die) × (record (s.work) { gave = s.work.gave ++ gave ∷ [] } ≡ j)) ⊎ ((d ≡ die → ⊥) × (w.works d ≡ Some j))
    work_now d j e =
        let f = sym (ap (λ (x : ℕ → Option Work). x d) s.works_then) ∙ e in
        elim (cases_eq d die) [
          | inl same ↦ inl (same, same_Some _ j (sym (one_value_same die (Some (record (s.work) { gave = s.work.gave ++ gave ∷ [] })) w.works d same) ∙ f))
          | inr apart ↦ inr (apart, sym (one_value_other die (Some (record (s.work) { gave = s.work.gave ++ gave ∷ [] })) w.works d apart) ∙ f)
        ]

    -- where the call was an accepted sync
    synced_now : s.call ≡ Syncs → gave ≡ Accepted → (d : ℕ) → d ≡ die → n ≤ behind.kept d page
    synced_now call accepted d same =
        let e = synced_numbers w u die gave after s call accepted page in
        subst (λ (m : ℕ). n ≤ behind.kept m page) (sym same) (omega (arith, e, low))

    module _ (these : ℕ → Type 0) (f : IsHeldSince these page n w u) where
      lasting_call : (d : ℕ) → these d → (j : Work) → after.works d ≡ Some j → IsSyncedProgram j → n ≤ behind.kept d page
      lasting_call d here j e p =
          elim (work_now d j e) [
            | inr was ↦ grows d (f.lasting d here j was.1 p)
            | inl now ↦
                let two = two_gave s.work.gave gave (ap (λ (x : Work). x.gave) now.1 ∙ p.gave) in
                let flight : s.work.job.flight ≡ Program p.page p.version p.slot = ap (λ (x : Work). x.job.flight) now.1 ∙ p.flight in
                let lasting : s.work.job.lasting ≡ true = ap (λ (x : Work). x.job.lasting) now.1 ∙ p.lasting in
                let call : Some s.call ≡ Some Syncs = sym s.next
                ∙ (λ i. next_call die (record { flight = flight i; payload = s.work.job.payload; lasting = lasting i }) (two.0 i)) in
                synced_now (same_Some s.call Syncs call) two.1 d now.0
          ]

      pub call_held : IsHeldSince these page n after behind
      call_held = record {
        number = subst (λ (c : Core). n ≤ number_of c page) (sym s.core_same) f.number;
        trusted = λ d here trusted. grows d (f.trusted d here (subst (λ (c : Core). Trusted c d page) s.core_same trusted));
        lasting = lasting_call;
      }

    module _ (flush : ℕ) (g : IsSyncedSince flush page n w u) where
      job_call : (d : ℕ) (j : Work) (m : ℕ) → after.works d ≡ Some j → j.job.flight ≡ Sync m → flush ≤ m → j.gave ≡ Accepted ∷ []
          → n ≤ behind.kept d page
      job_call d j m e flight late given =
          elim (work_now d j e) [
            | inr was ↦ grows d (g.job d j m was.1 flight late given)
            | inl now ↦
                let one = one_gave s.work.gave gave (ap (λ (x : Work). x.gave) now.1 ∙ given) in
                let is : s.work.job.flight ≡ Sync m = ap (λ (x : Work). x.job.flight) now.1 ∙ flight in
                let call : Some s.call ≡ Some Syncs = sym s.next
                ∙ (λ i. next_call die (record { flight = is i; payload = s.work.job.payload; lasting = s.work.job.lasting }) (one.0 i)) in
                synced_now (same_Some s.call Syncs call) one.1 d now.0
          ]

      pub call_synced : IsSyncedSince flush page n after behind
      call_synced = record {
        synced = λ d m e late. grows d (g.synced d m (sym (ap (λ (c : Core). get c.synced d) s.core_same) ∙ e) late);
        job = job_call;
      }

  -- what holds from a flush on, and what holds besides while it waits
  pub record SinceFlush (these : ℕ → Type 0) (w : World) (u : Unsynced) : Type 0 where
    pub kept : IsKept w u
    pub held : IsHeldSince these page n w u

  pub happens_since : (these : ℕ → Type 0) (w : World) (u : Unsynced) (happening : Happening) (after : World) → SinceFlush these w u
      → Happens w happening after
      → IsWhole w happening after → SinceFlush these after (unsynced_behind w happening u)
  happens_since these w u (Event act) after s happens whole =
      record { kept = happens_kept laws w u (Event act) after s.kept happens whole; held = event_held w u s.kept act after happens these s.held }
  happens_since these w u (ImageCall die gave) after s happens whole = record {
    kept = happens_kept laws w u (ImageCall die gave) after s.kept happens whole;
    held = call_held w u die gave after (shape_of w u die gave after happens) s.held.number these s.held;
  }

  pub record WhileWaiting (these : ℕ → Type 0) (flush : ℕ) (w : World) (u : Unsynced) : Type 0 where
    pub since : SinceFlush these w u
    pub synced : IsSyncedSince flush page n w u

  pub happens_waiting : SyncLaws → (these : ℕ → Type 0) (flush : ℕ) (w : World) (u : Unsynced) (happening : Happening) (after : World)
      → WhileWaiting these flush w u
      → Happens w happening after → IsWhole w happening after → WhileWaiting these flush after (unsynced_behind w happening u)
  happens_waiting sync_laws these flush w u (Event act) after s happens whole = record {
    since = happens_since these w u (Event act) after s.since happens whole;
    synced = event_synced w u s.since.kept act after happens sync_laws flush s.synced;
  }
  happens_waiting sync_laws these flush w u (ImageCall die gave) after s happens whole = record {
    since = happens_since these w u (ImageCall die gave) after s.since happens whole;
    synced = call_synced w u die gave after (shape_of w u die gave after happens) s.since.held.number flush s.synced;
  }
