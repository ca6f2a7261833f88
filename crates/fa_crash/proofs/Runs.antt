-- What holds of worlds and of what is unsynced in them holds over runs, from a beginning with nothing unsynced.
use Rattle.fa_crash.proofs.EventWorks.{event_kept}
use Rattle.fa_crash.proofs.ImageCalls.{call_is_kept}
use Rattle.fa_crash.proofs.Kept.{Backed, IsKept, is_sealed, is_there, slots_total}
use Rattle.fa_crash.proofs.Laws.{Laws}
use Rattle.fa_crash.proofs.Standing.{trusted_stands}
use Rattle.fa_crash.proofs.Trusted.{Trusted}
use Rattle.fa_crash.specs.Unsynced.{Unsynced, nothing_unsynced, number_of, unsynced_behind}
use Rattle.fa_crash.specs.Whole.{IsWhole, RunWhole}
use Rattle.fa_laws.proofs.Runs.{runs_on}
use Rattle.fa_laws.proofs.Starts.{beginning_holds}
use Rattle.fa_laws.specs.Reached.{IsReached}
use Rattle.fa_machine.specs.Among.{Among}
use Rattle.fa_machine.specs.Beginning.{IsBeginning, StandsAt}
use Rattle.fa_machine.specs.Run.{Event, Happening, Happens, ImageCall}
use Rattle.fa_machine.specs.State.{Core, WaitingProgram}
use Rattle.fa_machine.specs.World.{World}
use Rattle.fa_sound.specs.Sound.{IsSound}
use Rattle.std.proofs.Common.{List, None, [], ap, arith, false, refl, subst, sym, true, ℕ, ◌<◌, ◌∙◌, ◌∷◌, ◌≡◌, ◌≤◌}
use Rattle.std.proofs.lemmas.Option.{none-some}
use Rattle.std.specs.FinMap.{get}
use Rattle.std.specs.Prelude.{◌++◌}

pub happens_reached : (w : World) (happening : Happening) (after : World) → IsReached w → Happens w happening after → IsReached after
happens_reached w happening after r happens = record {
  first = r.first;
  happenings = r.happenings ++ happening ∷ [];
  beginning = r.beginning;
  run = runs_on r.first r.happenings w (happening ∷ []) after r.run (after, happens, refl);
}

pub happens_kept : Laws → (w : World) (u : Unsynced) (happening : Happening) (after : World) → IsKept w u → Happens w happening after
    → IsWhole w happening after
    → IsKept after (unsynced_behind w happening u)
happens_kept laws w u (Event act) after k happens whole = event_kept laws w u k act after happens
happens_kept laws w u (ImageCall die gave) after k happens whole =
    call_is_kept w u k die gave after (happens_reached w (ImageCall die gave) after k.reached happens) happens whole

-- what each happening keeps a run keeps
pub run_whole_keeps : (P : World → Unsynced → Type 0)
    → ((w : World) (u : Unsynced) (happening : Happening) (after : World) → P w u → Happens w happening after → IsWhole w happening after → P after (unsynced_behind w happening u))
    → (first : World) (u : Unsynced) (happenings : List Happening) (last : World) (v : Unsynced) → P first u
    → RunWhole first u happenings last v → P last v
run_whole_keeps P step first u [] last v p run =
    subst (λ (t : World × Unsynced). P t.0 t.1) {x = (first, u)} {y = (last, v)} (λ i. (sym run.0 i, sym run.1 i)) p
run_whole_keeps P step first u (happening ∷ happenings) last v p run =
    run_whole_keeps P step run.0 (unsynced_behind first happening u) happenings last v (step first u happening run.0 p run.1 run.2) run.3

-- a run in two parts
pub split_run : (first : World) (u : Unsynced) (xs ys : List Happening) (last : World) (v : Unsynced) → RunWhole first u (xs ++ ys) last v
    → (middle : World) × (m : Unsynced) × RunWhole first u xs middle m × RunWhole middle m ys last v
split_run first u [] ys last v run = (first, u, (refl, refl), run)
split_run first u (x ∷ xs) ys last v run =
    let rest = split_run run.0 (unsynced_behind first x u) xs ys last v run.3 in
    (rest.0, rest.1, (run.0, run.1, run.2, rest.2), rest.3)

-- one run behind another
pub join_runs : (first : World) (u : Unsynced) (xs ys : List Happening) (middle : World) (m : Unsynced) (last : World) (v : Unsynced)
    → RunWhole first u xs middle m → RunWhole middle m ys last v → RunWhole first u (xs ++ ys) last v
join_runs first u [] ys middle m last v before after =
    subst (λ (t : World × Unsynced). RunWhole t.0 t.1 ys last v) {x = (middle, m)} {y = (first, u)} (λ i. (before.0 i, before.1 i)) after
join_runs first u (x ∷ xs) ys middle m last v before after =
    (before.0, before.1, before.2, join_runs before.0 (unsynced_behind first x u) xs ys middle m last v before.3 after)

module _ (begins_sound : (w : World) → IsBeginning w → IsSound w.core) (first : World) (b : IsBeginning first) where
  erased_stands : (die slot : ℕ) → is_there first.core die ≡ true → slot < slots_total first.core
      → get first.core.page_map.used (die, slot) ≡ None
      → is_sealed ((first.images die).seen slot) ≡ false
  erased_stands die slot there inside none = ap is_sealed (subst (StandsAt first die slot) none (b.stands die slot there inside))

  none_waits : (p : WaitingProgram) → Among p first.core.waiting → is_sealed ((first.images p.die).seen p.slot) ≡ false
  none_waits p among = absurd (subst (Among p) (ap (λ (c : Core). c.waiting) b.fresh) among)

  first_backed : (die page : ℕ) → Trusted first.core die page → 1 ≤ number_of first.core page
      → Backed first (nothing_unsynced first) die page
  first_backed die page trusted some =
      let t = trusted_stands first (beginning_holds first b) (begins_sound first b) die page trusted in
      record {
        slot = t.slot;
        inside = t.inside;
        version = t.version;
        payload = t.payload;
        settled = refl;
        stands = t.stands;
        kept = t.newest;
      }

  pub beginning_kept : IsKept first (nothing_unsynced first)
  beginning_kept = record {
    reached = record { first = first; happenings = []; beginning = b; run = refl };
    sound = begins_sound first b;
    below = λ die page. omega arith;
    backed = first_backed;
    works = λ die work e. absurd (none-some work (sym (b.idle die) ∙ e));
    spared = λ die work page version slot e flight plain. absurd (none-some work (sym (b.idle die) ∙ e));
    erased = erased_stands;
    waiting = none_waits;
  }

pub run_kept : Laws → (first : World) (u : Unsynced) (happenings : List Happening) (last : World) (v : Unsynced) → IsKept first u
    → RunWhole first u happenings last v → IsKept last v
run_kept laws first u happenings last v k run = run_whole_keeps IsKept (happens_kept laws) first u happenings last v k run
