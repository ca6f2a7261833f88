-- What dies have synced, and what they are at, is for no more flushes than were begun.
use Rattle.fa_laws.proofs.Ranged.{calls_core}
use Rattle.fa_laws.proofs.Runs.{run_keeps}
use Rattle.fa_laws.specs.Reached.{IsReached}
use Rattle.fa_laws.specs.Syncing.{IsOfNow, KeepsFlushes, KeepsJobs, KeepsSynced}
use Rattle.fa_machine.proofs.Maps.{get-insert_cases, get-remove_some}
use Rattle.fa_machine.specs.Beginning.{IsBeginning}
use Rattle.fa_machine.specs.Cells.{DidSync}
use Rattle.fa_machine.specs.Run.{Event, Happening, Happens, ImageCall}
use Rattle.fa_machine.specs.State.{Core}
use Rattle.fa_machine.specs.Step.{Act, Done, FlushBegin, Step, Take}
use Rattle.fa_machine.specs.World.{World}
use Rattle.fa_machine.specs.declared.jobs.Flight.{Flight}
use Rattle.fa_machine.specs.declared.jobs.Flight.TheVariants.{Sync}
use Rattle.std.proofs.Common.{Some, ap, arith, inl, inr, subst, sym, ℕ, ◌∙◌, ◌≡◌, ◌≤◌, ◌⊎◌}
use Rattle.std.proofs.lemmas.Bool.{cases_eq}
use Rattle.std.proofs.lemmas.Option.{none-some, same_Some}
use Rattle.std.specs.FinMap.{FinMap, get, get-empty}
use Rattle.std.specs.Ordering.{nat_cmp}
use Rattle.std.specs.Prelude.{Ok}

abbrev pub SyncedLaw : Type 0
SyncedLaw = (old new : Core) (act : Act) → Step old act new → KeepsSynced old act new

abbrev pub JobsLaw : Type 0
JobsLaw = (old new : Core) (act : Act) → Step old act new → KeepsJobs old act new

abbrev pub FlushesLaw : Type 0
FlushesLaw = (old new : Core) (act : Act) → Step old act new → KeepsFlushes old act new

pub record SyncLaws : Type 0 where
  pub synced : SyncedLaw
  pub jobs : JobsLaw
  pub flushes : FlushesLaw

-- a Take that hands a sync to the die, and a Done of the die that tells one
abbrev HandsSync : Act → ℕ → ℕ → Type 0
HandsSync (Take d seat (Some job)) die m = (d ≡ die) × (job.flight ≡ Sync m)
HandsSync act die m = ⊥

abbrev pub TellsSync : Act → ℕ → Type 0
TellsSync (Done d DidSync) die = d ≡ die
TellsSync act die = ⊥

sync_was : (old new : Core) (act : Act) (die m : ℕ) → KeepsJobs old act new → get new.jobs die ≡ Some (Sync m)
    → (get old.jobs die ≡ Some (Sync m)) ⊎ HandsSync act die m
sync_was old new (Take d seat (Some job)) die m k e =
    elim (cases_eq die d) [
      | inl same ↦ inr (sym same, same_Some job.flight (Sync m) (sym (ap (get new.jobs) same ∙ k.1) ∙ e))
      | inr apart ↦ inl (sym (k.3.others die apart) ∙ e)
    ]
sync_was old new (Done d outcome) die m k e =
    elim (cases_eq die d) [
      | inl same ↦ absurd (none-some (Sync m) (sym (ap (get new.jobs) same ∙ k.0) ∙ e))
      | inr apart ↦ inl (sym (k.1.others die apart) ∙ e)
    ]
sync_was old new act die m k e = inl (sym (ap (λ (f : FinMap nat_cmp Flight). get f die) k) ∙ e)

synced_same : (old new : Core) (die m : ℕ) → new.synced ≡ old.synced → get new.synced die ≡ Some m → get old.synced die ≡ Some m
synced_same old new die m k e = sym (ap (λ (s : FinMap nat_cmp ℕ). get s die) k) ∙ e

-- what a die has synced it had synced before, or a sync of it ends
pub synced_was : (old new : Core) (act : Act) (die m : ℕ) → KeepsSynced old act new → get new.synced die ≡ Some m
    → (get old.synced die ≡ Some m) ⊎ (TellsSync act die × (get old.jobs die ≡ Some (Sync m)))
synced_was old new (Done d DidSync) die m k e =
    elim (get-insert_cases old.synced d k.0 die m (sym (ap (λ (s : FinMap nat_cmp ℕ). get s die) k.2) ∙ e)) [
      | inl here ↦ inr (sym here.0, ap (get old.jobs) here.0 ∙ k.1 ∙ ap (λ n. Some (Sync n)) here.1)
      | inr was ↦ inl was.0
    ]
synced_was old new (Done d outcome) die m k e =
    elim k [
      | inl same ↦ inl (synced_same old new die m same e)
      | inr out ↦ inl (get-remove_some old.synced d die m (sym (ap (λ (s : FinMap nat_cmp ℕ). get s die) out.0) ∙ e)).0
    ]
synced_was old new act die m k e = inl (synced_same old new die m k e)

flushes_rise : (old new : Core) (act : Act) → KeepsFlushes old act new → old.flushes ≤ new.flushes
flushes_rise old new (FlushBegin (Ok flush)) k = let e = k.0 in omega (arith, e)
flushes_rise old new act k = omega (arith, k)

pub record Counted (core : Core) : Type 0 where
  pub synced : (die m : ℕ) → get core.synced die ≡ Some m → m ≤ core.flushes
  pub job : (die m : ℕ) → get core.jobs die ≡ Some (Sync m) → m ≤ core.flushes

-- nothing was synced at a beginning
none_counted : (w : World) → IsBeginning w → Counted w.core
none_counted w b = record {
  synced = λ die m e. absurd (none-some m (sym (ap (λ (c : Core). get c.synced die) b.fresh ∙ get-empty nat_cmp die) ∙ e));
  job = λ die m e. absurd (none-some (Sync m) (sym (ap (λ (c : Core). get c.jobs die) b.fresh ∙ get-empty nat_cmp die) ∙ e));
}

of_now : (old new : Core) (act : Act) (die m : ℕ) → KeepsJobs old act new → HandsSync act die m → m ≡ old.flushes
of_now old new (Take d seat (Some job)) die m k h = subst (IsOfNow old) h.1 k.2
of_now old new act die m k h = absurd h

module _ (laws : SyncLaws) where
  step_counted : (old new : Core) (act : Act) → Step old act new → Counted old → Counted new
  step_counted old new act step c =
      let up = flushes_rise old new act (laws.flushes old new act step) in
      record {
        synced = λ die m e. elim (synced_was old new act die m (laws.synced old new act step) e) [
          | inl was ↦ let n = c.synced die m was in omega (arith, n, up)
          | inr told ↦ let n = c.job die m told.1 in omega (arith, n, up)
        ];
        job = λ die m e. elim (sync_was old new act die m (laws.jobs old new act step) e) [
          | inl was ↦ let n = c.job die m was in omega (arith, n, up)
          | inr handed ↦ let n = of_now old new act die m (laws.jobs old new act step) handed in omega (arith, n, up)
        ];
      }

  happens_counted : (before : World) (happening : Happening) (after : World) → Counted before.core → Happens before happening after
      → Counted after.core
  happens_counted before (Event act) after c happens = step_counted before.core after.core act happens.step c
  happens_counted before (ImageCall d gave) after c happens = subst Counted (sym (calls_core before after d (before.works d) gave happens)) c

  pub reached_counted : (w : World) → IsReached w → Counted w.core
  reached_counted w r = run_keeps (λ (v : World). Counted v.core) happens_counted r.first r.happenings w (none_counted r.first r.beginning) r.run
