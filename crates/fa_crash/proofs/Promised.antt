-- Each page is promised behind a flush in a run from a beginning with nothing unsynced.
use Rattle.fa_crash.specs.Flushed.{AreOfLast, IsPromised}
use Rattle.fa_crash.specs.Unsynced.{Unsynced, nothing_unsynced, number_of}
use Rattle.fa_crash.specs.Whole.{RunWhole}
use Rattle.fa_crash.proofs.Begun.{IsSynced, since_are}
use Rattle.fa_crash.proofs.Numbers.{HasRisen, NumberLaws, run_risen, run_stays}
use Rattle.fa_crash.proofs.Runs.{join_runs, split_run}
use Rattle.fa_machine.specs.Beginning.{IsBeginning}
use Rattle.fa_machine.specs.Run.{Event, Happening}
use Rattle.fa_machine.specs.Step.{FlushBegin, FlushState}
use Rattle.fa_machine.specs.World.{World}
use Rattle.fa_machine.specs.declared.answers.FlushState.TheVariants.{Synced}
use Rattle.fa_solo_laws.specs.Unwritten.{WritesNothing}
use Rattle.fa_sound.specs.Sound.{IsSound}
use Rattle.std.proofs.Common.{List, arith, inl, refl, subst, sym, ℕ, ◌++◌, ◌∷◌, ◌≡◌, ◌≤◌}
use Rattle.std.specs.Prelude.{Ok}

module _ (laws : NumberLaws) (begins_sound : (w : World) → IsBeginning w → IsSound w.core) (first w : World) (earlier : List Happening)
    (u : Unsynced) (begins : IsBeginning first) (cells : AreOfLast first) (led : RunWhole first (nothing_unsynced first) earlier w u)
    (page : ℕ) where
  -- each world of such a run is sound
  sound_here : IsSound w.core
  sound_here = (run_risen laws page 0 first (nothing_unsynced first) earlier w u
      (record { sound = begins_sound first begins; number = omega arith }) led).sound

  module _ (Q : Happening → Type 0) (happenings : List Happening) (last : World) (v : Unsynced) (s : IsSynced Q happenings)
      (run : RunWhole w u happenings last v) where
    abbrev since : List Happening
    since = Event (FlushBegin (Ok s.flush)) ∷ s.during ++ Event (FlushState s.flush Synced) ∷ s.behind

    -- the run up to the flush, and from there on
    parts : (at : World) × (m : Unsynced) × RunWhole w u s.front at m × RunWhole at m since last v
    parts = split_run w u s.front since last v (subst (λ (l : List Happening). RunWhole w u l last v) s.all run)

    -- The page is promised with the number that it had as the flush began.
    promised_as : (number : ℕ) → 1 ≤ number → number_of parts.0.core page ≡ number → IsPromised first page number last v
    promised_as number written numbered = record {
      beginning = begins;
      cells = cells;
      written = written;
      kept = inl (record {
        before = earlier ++ s.front;
        at = parts.0;
        at_unsynced = parts.1;
        led = join_runs first (nothing_unsynced first) earlier s.front w u parts.0 parts.1 led parts.2;
        numbered = numbered;
        flush = s.flush;
        during = s.during;
        behind = s.behind;
        leads = parts.3;
      });
    }

    risen : HasRisen page (number_of w.core page) parts.0 parts.1
    risen = run_risen laws page (number_of w.core page) w u s.front parts.0 parts.1
        (record { sound = sound_here; number = omega arith }) parts.2

    -- That is no smaller than the number that it had before.
    pub promised : 1 ≤ number_of w.core page
        → (number : ℕ) × (number_of w.core page ≤ number) × IsPromised first page number last v
    promised written =
        let up = risen.number in
        (number_of parts.0.core page, up, promised_as (number_of parts.0.core page) (omega (arith, written, up)) refl)

  -- Where nothing is written from the flush on it is the number that the page has at the end.
  pub promised_last : (happenings : List Happening) (last : World) (v : Unsynced) → IsSynced WritesNothing happenings
      → RunWhole w u happenings last v → 1 ≤ number_of last.core page → IsPromised first page (number_of last.core page) last v
  promised_last happenings last v s run written =
      let its = parts WritesNothing happenings last v s run in
      promised_as WritesNothing happenings last v s run (number_of last.core page) written
      (sym (run_stays laws page its.0 its.1 (since WritesNothing happenings last v s run) last v
      (risen WritesNothing happenings last v s run).sound its.3 (since_are WritesNothing happenings s tt tt)))
