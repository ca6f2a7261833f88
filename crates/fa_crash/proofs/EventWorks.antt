-- Each event keeps what holds of jobs in flight, of erased slots and of programs that wait; and so all of it.
use Rattle.fa_crash.proofs.EndFollows.{event_follows}
use Rattle.fa_crash.proofs.EventKept.{backed_after, below_after, erase_sealed, geometry, holds, holds_after, images_same, job_at, reached_after, seen_same, sound_after, total_same}
use Rattle.fa_crash.proofs.Kept.{IsKept, IsSpared, WorkKept, is_sealed, is_there, slots_total}
use Rattle.fa_crash.proofs.Laws.{Laws}
use Rattle.fa_crash.proofs.Spared.{spared_forward}
use Rattle.fa_crash.proofs.Standing.{as_laws, owned_alike}
use Rattle.fa_crash.proofs.Steps.{live_was}
use Rattle.fa_crash.proofs.Taken.{ComesFrom, IsGoing, IsTaken, followed_works, taken_from, unless_lasting}
use Rattle.fa_crash.proofs.Trusted.{HeldOn}
use Rattle.fa_crash.specs.Unsynced.{Unsynced}
use Rattle.fa_laws.proofs.Invariant.{scene_of}
use Rattle.fa_laws.proofs.Scene.{IsWriting, JobFits}
use Rattle.fa_laws.specs.Erased.{IsErased}
use Rattle.fa_laws.specs.Kept.{KeepsSpares}
use Rattle.fa_machine.proofs.Maps.{get-remove_some, has_some}
use Rattle.fa_machine.specs.Among.{Among}
use Rattle.fa_machine.specs.Cells.{DidErase}
use Rattle.fa_machine.specs.Maps.{Numbers}
use Rattle.fa_machine.specs.Run.{HappensEvent}
use Rattle.fa_machine.specs.State.{Core, WaitingProgram, is_live}
use Rattle.fa_machine.specs.Step.{Act, Done, SpareIn, Step, Take}
use Rattle.fa_machine.specs.Turning.{BringsIn}
use Rattle.fa_machine.specs.World.{DieImage, IsTold, Work, World}
use Rattle.fa_machine.specs.declared.jobs.Flight.{Flight}
use Rattle.fa_machine.specs.declared.jobs.Flight.TheVariants.{Erase, Header, Move, Program, Read, Sync}
use Rattle.fa_machine.specs.declared.places.Used.{Used}
use Rattle.fa_machine.specs.declared.places.Used.TheVariants.{Reserved}
use Rattle.fa_machine.specs.declared.places.Version.{Version}
use Rattle.fa_machine.specs.declared.refusals.SpareRefused.{SpareRefused}
use Rattle.fa_machine.specs.declared.refusals.SpareRefused.TheVariants.{NotSpare}
use Rattle.fa_types.specs.declared.geometry.Geometry.{Geometry}
use Rattle.fa_types.specs.declared.numbers.Page.{Page}
use Rattle.fa_types.specs.declared.numbers.Slot.{Slot}
use Rattle.std.proofs.Common.{Bool, None, Option, Some, [], ap, false, inl, inr, refl, subst, sym, true, ℕ, ◌<◌, ◌∙◌, ◌≡◌, ◌⊎◌}
use Rattle.std.proofs.lemmas.Bool.{false≢true, or_cases, or_left, or_right}
use Rattle.std.specs.FinMap.{contains_key, get, remove}
use Rattle.std.specs.Prelude.{Err, Ok, Result, is_some, option_map}

spare_was : (old new : Core) (die : ℕ) (answer : Result (Unit {0}) SpareRefused) → BringsIn old die answer new → (d : ℕ)
    → contains_key new.spares d ≡ true → contains_key old.spares d ≡ true
spare_was old new die (Err NotSpare) b d e = sym (ap (λ (c : Core). contains_key c.spares d) b.1) ∙ e
spare_was old new die (Ok done) b d e =
    let f : contains_key (remove old.spares die) d ≡ true = sym (ap (λ (c : Core). contains_key c.spares d) b.1) ∙ e in
    let some = has_some (get (remove old.spares die) d) f in ap is_some (get-remove_some old.spares die d some.0 some.1).0

spare_before : (laws : Laws) (old new : Core) (act : Act) → Step old act new → (d : ℕ) → contains_key new.spares d ≡ true
    → contains_key old.spares d ≡ true
spare_before laws old new (SpareIn die answer) step d e = spare_was old new die answer step.does d e
spare_before laws old new act step d e = sym (ap (λ (m : Numbers). contains_key m d) (same act step)) ∙ e
  where
    same : (act : Act) → Step old act new → KeepsSpares old act new
    same act step = laws.spares old new act step

module _ (laws : Laws) (w : World) (u : Unsynced) (k : IsKept w u) (act : Act) (after : World) (h : HappensEvent w act after) where
  abbrev old : Core
  old = w.core

  abbrev new : Core
  new = after.core

  there_before : (die : ℕ) → is_there new die ≡ true → is_there old die ≡ true
  there_before die e =
      elim (or_cases (is_live new.page_map die) (contains_key new.spares die) e) [
        | inl alive ↦ elim (live_was laws.live old new act h.step die alive) [
          | inl live ↦ or_left (is_live old.page_map die) (contains_key old.spares die) live
          | inr spare ↦ or_right (is_live old.page_map die) (contains_key old.spares die) spare
        ]
        | inr spare ↦ or_right (is_live old.page_map die) (contains_key old.spares die) (spare_before laws old new act h.step die spare)
      ]

  -- a slot of the new state that is used lies on its die
  used_inside : (die slot : ℕ) → get new.page_map.used (die, slot) ≡ Some Reserved → slot < slots_total old
  used_inside die slot e =
      subst (λ n. slot < n) (total_same laws w u k act after h) ((sound_after laws w u k act after h).slots die slot Reserved e).inside

  -- a job that is handed out
  take_kept : (die : ℕ) (flight : Flight) (lasting : Bool) → ComesFrom old die flight lasting → get new.jobs die ≡ Some flight
      → WorkKept old.page_map.geometry.slots (u.since die) ((w.images die).seen) flight lasting []
  take_kept die (Header epoch live) lasting from job = tt
  take_kept die (Erase block) lasting from job = tt
  take_kept die (Read batch page version slot) lasting from job = tt
  take_kept die (Sync flushes) lasting from job = tt
  take_kept die (Program page version slot) lasting from job =
      (λ i. is_sealed ((w.images (sym from.2 i)).seen (sym from.3 i))) ∙ k.waiting from.0 from.1
  take_kept die (Move page version from to) lasting place job =
      let moving = ((sound_after laws w u k act after h).jobs die (Move page version from to) job).fits in
      k.erased die to.0 (or_left (is_live old.page_map die) (contains_key old.spares die) place.1) (used_inside die to.0 moving.kept) place.0

  flight_now : (die : ℕ) (work : Work) → after.works die ≡ Some work → get new.jobs die ≡ Some work.job.flight
  flight_now die work e = (holds_after laws w u k act after h).jobs die ∙ ap (option_map {T = Work} (λ k. k.job.flight)) e

  -- what was taken now
  taken_kept : (a : Act) → Step old a new → (die : ℕ) (work : Work) → IsTaken a die work → after.works die ≡ Some work
      → WorkKept old.page_map.geometry.slots (u.since die) ((w.images die).seen) work.job.flight work.job.lasting work.gave
  taken_kept (Take d seat (Some job)) step die work taken e =
      let from = taken_from old new d seat job step.does in
      subst (λ (t : ℕ × Work). WorkKept old.page_map.geometry.slots (u.since t.0) ((w.images t.0).seen) t.1.job.flight t.1.job.lasting t.1.gave)
      {x = (d, record { job = job; gave = [] })} {y = (die, work)} (λ i. (taken.0 i, taken.1 i))
      (take_kept d job.flight job.lasting from (ap (get new.jobs) taken.0 ∙ flight_now die work e
      ∙ sym (ap (λ (v : Work). Some v.job.flight) taken.1)))
  taken_kept a step die work taken e = absurd taken

  pub then_works : (die : ℕ) (work : Work) → after.works die ≡ Some work
      → ((w.works die ≡ Some work) × IsGoing act die) ⊎ IsTaken act die work
  then_works die work e = followed_works act w die work (sym (ap (λ (v : World). v.works die) h.follows) ∙ e)

  works_after : (die : ℕ) (work : Work) → after.works die ≡ Some work
      → WorkKept new.page_map.geometry.slots (u.since die) ((after.images die).seen) work.job.flight work.job.lasting work.gave
  works_after die work e =
      let g = geometry laws w u k act after h in
      let i = images_same laws w u k act after h in
      subst (λ (t : Geometry × (ℕ → DieImage)). WorkKept t.0.slots (u.since die) ((t.1 die).seen) work.job.flight work.job.lasting work.gave)
      {x = (old.page_map.geometry, w.images)} {y = (new.page_map.geometry, after.images)} (λ j. (sym g j, sym i j))
      (elim (then_works die work e) [
        | inl before ↦ k.works die work before.0
        | inr taken ↦ taken_kept act h.step die work taken e
      ])

  alive_now : (die : ℕ) (work : Work) → after.works die ≡ Some work → is_live new.page_map die ≡ true
  alive_now die work e = ((sound_after laws w u k act after h).jobs die work.job.flight (flight_now die work e)).on_live

  forward : (die slot : ℕ) → get old.page_map.used (die, slot) ≡ Some Reserved → is_live new.page_map die ≡ true → IsSpared old die slot
      → IsSpared new die slot
  forward die slot kept alive spared = spared_forward laws.live laws.numbers laws.raises laws.stays w after act h k.reached k.sound die slot kept alive spared

  -- the slot of a program in flight is reserved
  writing_kept : (die : ℕ) (work : Work) (page : Page) (version : Version) (slot : Slot) → w.works die ≡ Some work
      → work.job.flight ≡ Program page version slot
      → get old.page_map.used (die, slot.0) ≡ Some Reserved
  writing_kept die work page version slot e flight =
      let fits = ((holds laws w u k act after h).sound.works die work e).job in
      let writing : IsWriting (scene_of w).bytes (scene_of w).places die page.0 version slot.0 work.job.payload =
      subst (λ (f : Flight). JobFits (scene_of w).bytes (scene_of w).places (scene_of w).in_block (w.due die).bytes die f work.job.payload) flight fits in
      writing.place.kept

  -- what waited is spared as it is taken, unless it is lasting
  waited_spared : (p : WaitingProgram) → Among p old.waiting → (get old.page_map.versions p.page ≡ None) ⊎ HeldOn old p.die p.page
      → IsSpared old p.die p.slot
  waited_spared p among or_none a current =
      let place = ((holds laws w u k act after h).sound.waits p among).place in
      let page_is = (place.target a.owner (as_laws a.owned) a.target (record {
        owns = owned_alike old.copying old.claims a.owner a.owned a.owns;
        among = a.among;
        on_die = a.on_die;
        at_slot = a.at_slot;
      })).1 in
      elim or_none [
        | inl none ↦ inl (ap (get old.page_map.versions) page_is ∙ none)
        | inr held ↦ inr (subst (HeldOn old p.die) (sym page_is) held)
      ]

  program_spared : (die : ℕ) (flight : Flight) (lasting : Bool) (page : Page) (version : Version) (slot : Slot)
      → ComesFrom old die flight lasting
      → flight ≡ Program page version slot → lasting ≡ false → is_live new.page_map die ≡ true → IsSpared new die slot.0
  program_spared die flight lasting page version slot from is plain alive =
      let c : ComesFrom old die (Program page version slot) lasting = subst (λ (f : Flight). ComesFrom old die f lasting) is from in
      let kept = ((holds laws w u k act after h).sound.waits c.0 c.1).place.kept in
      forward die slot.0 ((λ i. get old.page_map.used (sym c.2 i, sym c.3 i)) ∙ kept) alive
      (subst (λ (t : ℕ × ℕ). IsSpared old t.0 t.1) {x = (c.0.die, c.0.slot)} {y = (die, slot.0)} (λ i. (c.2 i, c.3 i))
      (waited_spared c.0 c.1 (unless_lasting old c.0 (sym c.5 ∙ plain))))

  taken_spared : (a : Act) → Step old a new → (die : ℕ) (work : Work) (page : Page) (version : Version) (slot : Slot) → IsTaken a die work
      → after.works die ≡ Some work
      → work.job.flight ≡ Program page version slot → work.job.lasting ≡ false → IsSpared new die slot.0
  taken_spared (Take d seat (Some job)) step die work page version slot taken e flight plain =
      let from = taken_from old new d seat job step.does in
      program_spared die work.job.flight work.job.lasting page version slot
      (subst (λ (t : ℕ × Work). ComesFrom old t.0 t.1.job.flight t.1.job.lasting)
      {x = (d, record { job = job; gave = [] })} {y = (die, work)} (λ i. (taken.0 i, taken.1 i)) from) flight plain (alive_now die work e)
  taken_spared a step die work page version slot taken e flight plain = absurd taken

  spared_after : (die : ℕ) (work : Work) (page : Page) (version : Version) (slot : Slot) → after.works die ≡ Some work
      → work.job.flight ≡ Program page version slot
      → work.job.lasting ≡ false → IsSpared new die slot.0
  spared_after die work page version slot e flight plain =
      elim (then_works die work e) [
        | inl before ↦ forward die slot.0 (writing_kept die work page version slot before.0 flight) (alive_now die work e)
            (k.spared die work page version slot before.0 flight plain)
        | inr taken ↦ taken_spared act h.step die work page version slot taken e flight plain
      ]

  -- a slot that an erase leaves is not sealed
  erased_by : (a : Act) → IsTold w a → (die slot : ℕ) → IsErased old a die slot → is_sealed ((w.images die).seen slot) ≡ false
  erased_by (Done d DidErase) told die slot e =
      let job = job_at laws w u k act after h d (Erase e.1.0) (ap (get old.jobs) e.0 ∙ e.1.1) in
      subst (λ (n : ℕ). is_sealed ((w.images n).seen slot) ≡ false) e.0
      (erase_sealed laws w u k act after h d job.0 job.1 e.1.0 job.2 told slot e.1.2)
  erased_by a told die slot e = absurd e

  -- an erased slot of a die that is live now
  live_erased : (die slot : ℕ) → is_live new.page_map die ≡ true → get new.page_map.used (die, slot) ≡ None → (o : Option Used)
      → get old.page_map.used (die, slot) ≡ o
      → (get old.page_map.used (die, slot) ≡ None) ⊎ IsErased old act die slot
  live_erased die slot alive none None e = inl e
  live_erased die slot alive none (Some used) e = inr (laws.erases old new act die slot h.step alive (ap is_some e) none)

  -- a spare has no slot that is used
  spare_erased : (die slot : ℕ) → contains_key old.spares die ≡ true → (o : Option Used) → get old.page_map.used (die, slot) ≡ o
      → get old.page_map.used (die, slot) ≡ None
  spare_erased die slot spare None e = e
  spare_erased die slot spare (Some used) e = absurd (false≢true (sym (k.sound.dies.apart die spare) ∙ (k.sound.slots die slot used e).on_live))

  erased_after : (die slot : ℕ) → is_there new die ≡ true → slot < slots_total new → get new.page_map.used (die, slot) ≡ None
      → is_sealed ((after.images die).seen slot) ≡ false
  erased_after die slot there inside none =
      let low = subst (λ n. slot < n) (total_same laws w u k act after h) inside in
      let was = there_before die there in
      ap is_sealed (seen_same laws w u k act after h die slot)
      ∙ elim (or_cases (is_live new.page_map die) (contains_key new.spares die) there) [
        | inl alive ↦ elim (live_erased die slot alive none (get old.page_map.used (die, slot)) refl) [
          | inl before ↦ k.erased die slot was low before
          | inr erased ↦ erased_by act h.told die slot erased
        ]
        | inr spare ↦ k.erased die slot was low (spare_erased die slot (spare_before laws old new act h.step die spare) (get old.page_map.used (die, slot)) refl)
      ]

  waiting_after : (p : WaitingProgram) → Among p new.waiting → is_sealed ((after.images p.die).seen p.slot) ≡ false
  waiting_after p among =
      ap is_sealed (seen_same laws w u k act after h p.die p.slot)
      ∙ elim ((event_follows old new act h.step.does).waits p among) [
        | inl before ↦ k.waiting p before
        | inr erased ↦ k.erased p.die p.slot (or_left (is_live old.page_map p.die) (contains_key old.spares p.die) erased.1)
            (used_inside p.die p.slot ((holds_after laws w u k act after h).sound.waits p among).place.kept) erased.0
      ]

  pub event_kept : IsKept after u
  event_kept = record {
    reached = reached_after laws w u k act after h;
    sound = sound_after laws w u k act after h;
    below = below_after laws w u k act after h;
    backed = backed_after laws w u k act after h;
    works = works_after;
    spared = spared_after;
    erased = erased_after;
    waiting = waiting_after;
  }
