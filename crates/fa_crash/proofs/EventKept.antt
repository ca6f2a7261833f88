-- Each event keeps what holds of a world and of what is unsynced in it.
use Rattle.fa_crash.proofs.Backward.{EndsProgram, trusted_back}
use Rattle.fa_crash.proofs.Kept.{Backed, IsKept, WorkKept, is_sealed, slots_total}
use Rattle.fa_crash.proofs.Laws.{Laws}
use Rattle.fa_crash.proofs.Standing.{number_none, trusted_stands}
use Rattle.fa_crash.proofs.Steps.{numbers_rise}
use Rattle.fa_crash.proofs.Taken.{erase_gave, followed_images, program_gave}
use Rattle.fa_crash.proofs.Trusted.{HeldOn, IsMarked, Trusted}
use Rattle.fa_crash.specs.Unsynced.{Unsynced, number_of}
use Rattle.fa_laws.proofs.Answering.{reached_holds}
use Rattle.fa_laws.proofs.Endings.{HasOutcome}
use Rattle.fa_laws.proofs.Invariant.{Holds}
use Rattle.fa_laws.proofs.Runs.{runs_on}
use Rattle.fa_laws.specs.Reached.{IsReached}
use Rattle.fa_machine.specs.Cells.{DidErase, DidProgram, Outcome}
use Rattle.fa_machine.specs.Run.{Event, HappensEvent}
use Rattle.fa_machine.specs.State.{Core}
use Rattle.fa_machine.specs.Step.{Act, Done}
use Rattle.fa_machine.specs.World.{Accepted, DieImage, Gave, IsTold, Work, World, outcome_of}
use Rattle.fa_machine.specs.declared.jobs.Flight.{Flight}
use Rattle.fa_machine.specs.declared.jobs.Flight.TheVariants.{Erase, Program}
use Rattle.fa_machine.specs.declared.ids.Block.{Block}
use Rattle.fa_machine.specs.declared.places.Version.{Version}
use Rattle.fa_sound.specs.Owners.{TargetAt, owned_of}
use Rattle.fa_sound.specs.Sound.{IsSound}
use Rattle.fa_types.specs.declared.geometry.Geometry.{Geometry}
use Rattle.fa_types.specs.declared.numbers.Page.{Page}
use Rattle.fa_types.specs.declared.numbers.Slot.{Slot}
use Rattle.std.proofs.Common.{Bool, List, None, Option, Some, [], ap, arith, false, inl, inr, refl, subst, sym, true, ℕ, ◌*◌, ◌/◌, ◌<◌, ◌∙◌, ◌∷◌, ◌≡◌, ◌≤◌}
use Rattle.std.proofs.lemmas.Bool.{cases_Bool}
use Rattle.std.proofs.lemmas.Option.{none-some, same_Some}
use Rattle.std.specs.FinMap.{get}
use Rattle.std.specs.Prelude.{option_and_then, option_map, ◌++◌, ◌==◌}

some_work : (o : Option Work) (flight : Flight) → option_map {T = Work} (λ k. k.job.flight) o ≡ Some flight → (work : Work) × (o ≡ Some work) × (work.job.flight ≡ flight)
some_work None flight e = absurd (none-some flight e)
some_work (Some work) flight e = (work, refl, same_Some work.job.flight flight e)

module _ (laws : Laws) (w : World) (u : Unsynced) (k : IsKept w u) (act : Act) (after : World) (h : HappensEvent w act after) where
  abbrev old : Core
  old = w.core

  abbrev new : Core
  new = after.core

  pub images_same : after.images ≡ w.images
  images_same = ap (λ (v : World). v.images) h.follows ∙ followed_images act w

  pub seen_same : (die slot : ℕ) → (after.images die).seen slot ≡ (w.images die).seen slot
  seen_same die slot = ap (λ (i : ℕ → DieImage). (i die).seen slot) images_same

  pub reached_after : IsReached after
  reached_after =
      let r = k.reached in
      record { first = r.first; happenings = r.happenings ++ Event act ∷ []; beginning = r.beginning; run = runs_on r.first r.happenings w (Event act ∷ []) after r.run (after, h, refl) }

  pub holds : Holds w
  holds = reached_holds w k.reached

  pub holds_after : Holds after
  holds_after = reached_holds after reached_after

  pub sound_after : IsSound new
  sound_after = laws.sound old new act h.step k.sound

  pub geometry : new.page_map.geometry ≡ old.page_map.geometry
  geometry = laws.geometry old new act h.step

  pub total_same : slots_total new ≡ slots_total old
  total_same = ap (λ (g : Geometry). g.blocks * g.slots) geometry

  to_after : (die page : ℕ) → Backed w u die page → Backed after u die page
  to_after die page b = record {
    slot = b.slot;
    inside = subst (λ n. b.slot < n) (sym total_same) b.inside;
    version = b.version;
    payload = b.payload;
    settled = b.settled;
    stands = seen_same die b.slot ∙ b.stands;
    kept = b.kept;
  }

  pub numbers : (page : ℕ) → number_of old page ≤ number_of new page
  numbers page = numbers_rise laws.numbers laws.raises old new k.sound act h.step page

  pub below_after : (die page : ℕ) → u.kept die page ≤ number_of new page
  below_after die page = let a = k.below die page in let b = numbers page in omega (arith, a, b)

  -- on a die of which all is synced each page that it is trusted with has a durable copy
  pub all_settled : (die page : ℕ) → ((slot : ℕ) → u.since die slot ≡ []) → Trusted new die page → Backed after u die page
  all_settled die page all trusted =
      let t = trusted_stands after holds_after sound_after die page trusted in
      let a = below_after die page in
      let b = t.newest in
      record {
        slot = t.slot;
        inside = t.inside;
        version = t.version;
        payload = t.payload;
        settled = all t.slot;
        stands = t.stands;
        kept = omega (arith, a, b);
      }

  pub job_at : (die : ℕ) (flight : Flight) → get old.jobs die ≡ Some flight
      → (work : Work) × (w.works die ≡ Some work) × (work.job.flight ≡ flight)
  job_at die flight e = some_work (w.works die) flight (sym (holds.jobs die) ∙ e)

  pub outcome_at : (die : ℕ) (work : Work) (outcome : Outcome) → w.works die ≡ Some work → HasOutcome die (w.works die) outcome
      → outcome_of die work.job work.gave ≡ Some outcome
  outcome_at die work outcome e told = sym (ap (option_and_then (λ k. outcome_of die k.job k.gave)) e) ∙ told

  module _ (die : ℕ) (work : Work) (is : w.works die ≡ Some work) where
    work_kept : (flight : Flight) (lasting : Bool) (gave : List Gave) → work.job.flight ≡ flight → work.job.lasting ≡ lasting
        → work.gave ≡ gave
        → WorkKept old.page_map.geometry.slots (u.since die) ((w.images die).seen) flight lasting gave
    work_kept flight lasting gave e f g =
        subst (λ (t : Flight × Bool × List Gave). WorkKept old.page_map.geometry.slots (u.since die) ((w.images die).seen) t.0 t.1 t.2)
        {x = (work.job.flight, work.job.lasting, work.gave)} {y = (flight, lasting, gave)} (λ i. (e i, f i, g i)) (k.works die work is)

    -- a lasting program that ends was programmed and synced
    pub lasting_gave : (page : Page) (version : Version) (slot : Slot) → work.job.flight ≡ Program page version slot
        → work.job.lasting ≡ true
        → HasOutcome die (w.works die) DidProgram → work.gave ≡ Accepted ∷ Accepted ∷ []
    lasting_gave page version slot flight lasting told =
        let path : work.job ≡ record { flight = Program page version slot; payload = work.job.payload; lasting = true } =
        λ i. record { flight = flight i; payload = work.job.payload; lasting = lasting i } in
        program_gave die page version slot work.job.payload work.gave
        (sym (ap (λ j. outcome_of die j work.gave) path) ∙ outcome_at die work DidProgram is told)

    -- so all of its die is
    lasting_settled : (page : Page) (version : Version) (slot : Slot) → work.job.flight ≡ Program page version slot
        → work.job.lasting ≡ true
        → HasOutcome die (w.works die) DidProgram → (s : ℕ) → u.since die s ≡ []
    lasting_settled page version slot flight lasting told =
        work_kept (Program page version slot) true (Accepted ∷ Accepted ∷ []) flight lasting (lasting_gave page version slot flight lasting told)

    pub erase_sealed : (block : Block) → work.job.flight ≡ Erase block → HasOutcome die (w.works die) DidErase → (slot : ℕ)
        → (slot / old.page_map.geometry.slots == block.0) ≡ true → is_sealed ((w.images die).seen slot) ≡ false
    erase_sealed block flight told slot inside =
        let path : work.job ≡ record { flight = Erase block; payload = work.job.payload; lasting = work.job.lasting } =
        λ i. record { flight = flight i; payload = work.job.payload; lasting = work.job.lasting } in
        let gave = erase_gave die block work.job.payload work.job.lasting work.gave
        (sym (ap (λ j. outcome_of die j work.gave) path) ∙ outcome_at die work DidErase is told) in
        (work_kept (Erase block) work.job.lasting (Accepted ∷ Accepted ∷ []) flight refl gave).erased slot refl inside

  -- a program ends by which a die is trusted with a page
  program_backed : (die page : ℕ) → 1 ≤ u.kept die page → Trusted new die page → (e : EndsProgram old act die page)
      → (d : ℕ) (p : Page) (version : Version) (slot : Slot) → get old.jobs d ≡ Some (Program p version slot) → e.target.die.0 ≡ d
      → e.target.slot.0 ≡ slot.0
      → HasOutcome d (w.works d) DidProgram → Backed after u die page
  program_backed die page some trusted e d p version slot job on at told =
      elim (cases_Bool found.0.job.lasting) [
        | inl lasting ↦ all_settled die page
            (λ s. ap (λ (n : ℕ). u.since n s) same ∙ lasting_settled d found.0 found.1 p version slot found.2 lasting told s) trusted
        | inr plain ↦ elim (k.spared d found.0 p version slot found.1 found.2 plain a e.current) [
          | inl none ↦
              let n = number_none old e.owned.page none in
              let m = k.below die page in
              let z : number_of old e.owned.page ≡ number_of old page = ap (number_of old) e.of_page in
              absurd (omega (arith, n, m, z, some))
          | inr held ↦ to_after die page (k.backed die page
              (inl (subst (λ (t : ℕ × ℕ). HeldOn old t.0 t.1) {x = (d, e.owned.page)} {y = (die, page)} (λ i. (sym same i, e.of_page i)) held)) some)
        ]
      ]
    where
      same : die ≡ d
      same = sym e.on_die ∙ on

      found : (work : Work) × (w.works d ≡ Some work) × (work.job.flight ≡ Program p version slot)
      found = job_at d (Program p version slot) job

      a : TargetAt (owned_of old.copying old.claims) d slot.0
      a = record { owner = e.owner; owned = e.owned; target = e.target; owns = e.owns; among = e.among; on_die = on; at_slot = at }

  ends_backed : (a : Act) → IsTold w a → (die page : ℕ) → 1 ≤ u.kept die page → Trusted new die page → (e : EndsProgram old act die page)
      → IsMarked old a e.target
      → Backed after u die page
  ends_backed (Done d DidProgram) told die page some trusted e m = program_backed die page some trusted e d m.0 m.1 m.2 m.3 m.4 m.5 told
  ends_backed a told die page some trusted e m = absurd m

  pub backed_after : (die page : ℕ) → Trusted new die page → 1 ≤ u.kept die page → Backed after u die page
  backed_after die page trusted some =
      elim (trusted_back laws.live laws.numbers laws.raises old new act h.step k.sound die page trusted) [
        | inl before ↦ to_after die page (k.backed die page before some)
        | inr ends ↦ ends_backed act h.told die page some trusted ends ends.marked
      ]
