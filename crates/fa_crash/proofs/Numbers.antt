-- Runs over images that write whole: in parts, and what becomes of the numbers of pages in them.
use Rattle.fa_crash.proofs.Laws.{SoundLaw}
use Rattle.fa_crash.proofs.Runs.{run_whole_keeps}
use Rattle.fa_crash.proofs.Steps.{NumbersLaw, RaisesLaw, number_cases, numbers_rise}
use Rattle.fa_crash.specs.Unsynced.{Unsynced, number_of, unsynced_behind}
use Rattle.fa_crash.specs.Whole.{IsWhole, RunWhole}
use Rattle.fa_laws.proofs.Ranged.{calls_core}
use Rattle.fa_machine.specs.Run.{Event, Happening, Happens, ImageCall}
use Rattle.fa_machine.specs.State.{Core}
use Rattle.fa_machine.specs.Step.{Act, Step}
use Rattle.fa_machine.specs.World.{World}
use Rattle.fa_machine.specs.declared.places.Version.{Version}
use Rattle.fa_solo_laws.specs.Unwritten.{WritesNothing}
use Rattle.fa_sound.specs.Sound.{IsSound}
use Rattle.std.proofs.Common.{List, Option, [], ap, arith, inl, inr, subst, sym, ℕ, ◌∙◌, ◌∷◌, ◌≡◌, ◌≤◌}
use Rattle.std.specs.List.{AllByRecursion}
use Rattle.std.specs.Option.{option_map_or}

-- the laws of single events that numbers rest on
pub record NumberLaws : Type 0 where
  pub numbers : NumbersLaw
  pub raises : RaisesLaw
  pub sound : SoundLaw

-- a sound state in which the page has a number that is no smaller
pub record HasRisen (page n : ℕ) (w : World) (u : Unsynced) : Type 0 where
  pub sound : IsSound w.core
  pub number : n ≤ number_of w.core page

module _ (laws : NumberLaws) (page : ℕ) where
  happens_risen : (n : ℕ) (w : World) (u : Unsynced) (happening : Happening) (after : World) → HasRisen page n w u → Happens w happening after
      → IsWhole w happening after → HasRisen page n after (unsynced_behind w happening u)
  happens_risen n w u (Event act) after r happens whole = record {
    sound = laws.sound w.core after.core act happens.step r.sound;
    number =
        let low = r.number in
        let up = numbers_rise laws.numbers laws.raises w.core after.core r.sound act happens.step page in
        omega (arith, low, up);
  }
  happens_risen n w u (ImageCall die gave) after r happens whole =
      let same = calls_core w after die (w.works die) gave happens in
      record {
        sound = subst IsSound (sym same) r.sound;
        number = subst (λ (c : Core). n ≤ number_of c page) (sym same) r.number;
      }

  -- Along a run no number falls.
  pub run_risen : (n : ℕ) (w : World) (u : Unsynced) (happenings : List Happening) (last : World) (v : Unsynced) → HasRisen page n w u
      → RunWhole w u happenings last v → HasRisen page n last v
  run_risen n w u happenings last v r run = run_whole_keeps (HasRisen page n) (happens_risen n) w u happenings last v r run

  -- Where nothing is written the number stays.
  event_stays : (old new : Core) (act : Act) → IsSound old → WritesNothing (Event act) → Step old act new
      → number_of new page ≡ number_of old page
  event_stays old new act s none step =
      elim (number_cases laws.numbers laws.raises old new s act step page) [
        | inl same ↦ ap (λ (o : Option Version). option_map_or (λ (v : Version). v.seq.0) o 0) same
        | inr raised ↦ absurd (subst (λ (a : Act). WritesNothing (Event a)) raised.act_is none)
      ]

  pub run_stays : (w : World) (u : Unsynced) (happenings : List Happening) (last : World) (v : Unsynced) → IsSound w.core
      → RunWhole w u happenings last v → AllByRecursion WritesNothing happenings → number_of last.core page ≡ number_of w.core page
  run_stays w u [] last v s run none = ap (λ (x : World). number_of x.core page) run.0
  run_stays w u (Event act ∷ happenings) last v s run none =
      run_stays run.0 (unsynced_behind w (Event act) u) happenings last v (laws.sound w.core run.0.core act run.1.step s) run.3 none.1
      ∙ event_stays w.core run.0.core act s none.0 run.1.step
  run_stays w u (ImageCall die gave ∷ happenings) last v s run none =
      let same = calls_core w run.0 die (w.works die) gave run.1 in
      run_stays run.0 (unsynced_behind w (ImageCall die gave) u) happenings last v (subst IsSound (sym same) s) run.3 none.1
      ∙ ap (λ (c : Core). number_of c page) same
