-- An image call changes one die: what has to hold there, so that what holds of a world and of what is unsynced in it is kept.
use Rattle.fa_crash.proofs.Kept.{Backed, IsKept, IsSpared, WorkKept, is_sealed, is_there, slots_total}
use Rattle.fa_crash.proofs.Standing.{IsKeptAt, trusted_stands}
use Rattle.fa_crash.proofs.Trusted.{Trusted}
use Rattle.fa_crash.specs.Unsynced.{Unsynced, number_of}
use Rattle.fa_laws.proofs.Admitting.{one_value_other, one_value_same}
use Rattle.fa_laws.proofs.Answering.{reached_holds}
use Rattle.fa_laws.specs.Reached.{IsReached}
use Rattle.fa_machine.specs.Among.{Among}
use Rattle.fa_machine.specs.Cells.{Cell}
use Rattle.fa_machine.specs.State.{Core, WaitingProgram}
use Rattle.fa_machine.specs.World.{DieImage, Gave, Work, World, with_value}
use Rattle.fa_machine.specs.declared.jobs.Flight.TheVariants.{Program}
use Rattle.fa_machine.specs.declared.places.Version.{Version}
use Rattle.fa_types.specs.declared.numbers.Page.{Page}
use Rattle.fa_types.specs.declared.numbers.Slot.{Slot}
use Rattle.std.proofs.Common.{List, None, Some, [], ap, arith, false, inl, inr, refl, subst, sym, true, ℕ, ◌<◌, ◌∙◌, ◌∷◌, ◌≡◌, ◌≤◌, ◌⊎◌}
use Rattle.std.proofs.lemmas.Bool.{cases_eq}
use Rattle.std.proofs.lemmas.Option.{same_Some}
use Rattle.std.specs.FinMap.{get}
use Rattle.std.specs.Prelude.{◌++◌}

-- the world behind a call: the image of a die, and what its job was given
abbrev pub called : World → ℕ → Work → Gave → DieImage → World
called w die work gave image = record w {
  images = with_value die image w.images;
  works = with_value die (Some (record work { gave = work.gave ++ gave ∷ [] })) w.works;
}

module _ (w : World) (u : Unsynced) (k : IsKept w u) (die : ℕ) (work : Work) (is : w.works die ≡ Some work) (gave : Gave) (image : DieImage)
    (reached : IsReached (called w die work gave image)) (v : Unsynced) where
  abbrev core : Core
  core = w.core

  abbrev then_world : World
  then_world = called w die work gave image

  -- what has to hold of the die
  pub record CallKept : Type 0 where
    pub since : (d : ℕ) → (d ≡ die → ⊥) → v.since d ≡ u.since d
    pub kept : (d : ℕ) → (d ≡ die → ⊥) → v.kept d ≡ u.kept d
    pub below : (page : ℕ) → v.kept die page ≤ number_of core page
    pub backed : (page : ℕ) → Trusted core die page → 1 ≤ v.kept die page → Backed then_world v die page
    pub work_kept : WorkKept core.page_map.geometry.slots (v.since die) image.seen work.job.flight work.job.lasting (work.gave ++ gave ∷ [])
    pub erased : (slot : ℕ) → is_there core die ≡ true → slot < slots_total core → get core.page_map.used (die, slot) ≡ None
        → is_sealed (image.seen slot) ≡ false
    pub waiting : (p : WaitingProgram) → Among p core.waiting → p.die ≡ die → is_sealed (image.seen p.slot) ≡ false

  pub seen_here : (slot : ℕ) → (then_world.images die).seen slot ≡ image.seen slot
  seen_here slot = ap (λ (i : DieImage). i.seen slot) (one_value_same die image w.images die refl)

  pub seen_other : (d slot : ℕ) → (d ≡ die → ⊥) → (then_world.images d).seen slot ≡ (w.images d).seen slot
  seen_other d slot apart = ap (λ (i : DieImage). i.seen slot) (one_value_other die image w.images d apart)

  -- on this die, where each slot that holds a page, or a target that was programmed, is synced
  pub stands_backed : (page : ℕ) → v.kept die page ≤ number_of core page → ((slot : ℕ) → IsKeptAt core die slot → v.since die slot ≡ [])
      → Trusted core die page
      → Backed then_world v die page
  stands_backed page below settled trusted =
      let t = trusted_stands then_world (reached_holds then_world reached) k.sound die page trusted in
      let n = t.newest in
      record {
        slot = t.slot;
        inside = t.inside;
        version = t.version;
        payload = t.payload;
        settled = settled t.slot t.kept;
        stands = t.stands;
        kept = omega (arith, below, n);
      }

  module _ (c : CallKept) where
    below_then : (d page : ℕ) → v.kept d page ≤ number_of core page
    below_then d page =
        elim (cases_eq d die) [
          | inl same ↦ subst (λ n. v.kept n page ≤ number_of core page) (sym same) (c.below page)
          | inr apart ↦ subst (λ (f : ℕ → ℕ). f page ≤ number_of core page) (sym (c.kept d apart)) (k.below d page)
        ]

    backed_then : (d page : ℕ) → Trusted core d page → 1 ≤ v.kept d page → Backed then_world v d page
    backed_then d page trusted some =
        elim (cases_eq d die) [
          | inl same ↦ subst (λ n. Backed then_world v n page) (sym same)
              (c.backed page (subst (λ n. Trusted core n page) same trusted) (subst (λ n. 1 ≤ v.kept n page) same some))
          | inr apart ↦
              let b = k.backed d page trusted (subst (λ (f : ℕ → ℕ). 1 ≤ f page) (c.kept d apart) some) in
              record {
                slot = b.slot;
                inside = b.inside;
                version = b.version;
                payload = b.payload;
                settled = ap (λ (f : ℕ → List Cell). f b.slot) (c.since d apart) ∙ b.settled;
                stands = seen_other d b.slot apart ∙ b.stands;
                kept = subst (λ (f : ℕ → ℕ). f page ≤ b.version.seq.0) (sym (c.kept d apart)) b.kept;
              }
        ]

    work_then : Work
    work_then = record work { gave = work.gave ++ gave ∷ [] }

    works_cases : (d : ℕ) (j : Work) → then_world.works d ≡ Some j → ((d ≡ die) × (record work { gave = work.gave ++ gave ∷ [] } ≡ j)) ⊎ ((d ≡ die → ⊥) × (w.works d ≡ Some j))
    works_cases d j e =
        elim (cases_eq d die) [
          | inl same ↦ inl (same, same_Some _ j (sym (one_value_same die (Some (record work { gave = work.gave ++ gave ∷ [] })) w.works d same) ∙ e))
          | inr apart ↦ inr (apart, sym (one_value_other die (Some (record work { gave = work.gave ++ gave ∷ [] })) w.works d apart) ∙ e)
        ]

    works_then : (d : ℕ) (j : Work) → then_world.works d ≡ Some j
        → WorkKept core.page_map.geometry.slots (v.since d) ((then_world.images d).seen) j.job.flight j.job.lasting j.gave
    works_then d j e =
        elim (works_cases d j e) [
          | inl new ↦ subst (λ (t : ℕ × Work). WorkKept core.page_map.geometry.slots (v.since t.0) ((then_world.images t.0).seen) t.1.job.flight t.1.job.lasting t.1.gave)
              {x = (die, record work { gave = work.gave ++ gave ∷ [] })} {y = (d, j)} (λ i. (sym new.0 i, new.1 i))
              (subst (λ (m : DieImage). WorkKept core.page_map.geometry.slots (v.since die) m.seen work.job.flight work.job.lasting (work.gave ++ gave ∷ []))
              (sym (one_value_same die image w.images die refl)) c.work_kept)
          | inr was ↦ subst (λ (t : (ℕ → List Cell) × DieImage). WorkKept core.page_map.geometry.slots t.0 (t.1.seen) j.job.flight j.job.lasting j.gave)
              {x = (u.since d, w.images d)} {y = (v.since d, then_world.images d)}
              (λ i. (sym (c.since d was.0) i, sym (one_value_other die image w.images d was.0) i)) (k.works d j was.1)
        ]

    spared_then : (d : ℕ) (j : Work) (page : Page) (version : Version) (slot : Slot) → then_world.works d ≡ Some j
        → j.job.flight ≡ Program page version slot
        → j.job.lasting ≡ false → IsSpared core d slot.0
    spared_then d j page version slot e flight plain =
        elim (works_cases d j e) [
          | inl new ↦ subst (λ n. IsSpared core n slot.0) (sym new.0)
              (k.spared die work page version slot is (ap (λ (x : Work). x.job.flight) new.1 ∙ flight) (ap (λ (x : Work). x.job.lasting) new.1 ∙ plain))
          | inr was ↦ k.spared d j page version slot was.1 flight plain
        ]

    erased_then : (d slot : ℕ) → is_there core d ≡ true → slot < slots_total core → get core.page_map.used (d, slot) ≡ None
        → is_sealed ((then_world.images d).seen slot) ≡ false
    erased_then d slot there inside none =
        elim (cases_eq d die) [
          | inl same ↦ subst (λ n. is_sealed ((then_world.images n).seen slot) ≡ false) (sym same)
              (ap is_sealed (seen_here slot) ∙ c.erased slot (ap (is_there core) (sym same) ∙ there) inside
              ((λ i. get core.page_map.used (sym same i, slot)) ∙ none))
          | inr apart ↦ ap is_sealed (seen_other d slot apart) ∙ k.erased d slot there inside none
        ]

    waiting_then : (p : WaitingProgram) → Among p core.waiting → is_sealed ((then_world.images p.die).seen p.slot) ≡ false
    waiting_then p among =
        elim (cases_eq p.die die) [
          | inl same ↦ ap (λ n. is_sealed ((then_world.images n).seen p.slot)) same ∙ ap is_sealed (seen_here p.slot)
              ∙ c.waiting p among same
          | inr apart ↦ ap is_sealed (seen_other p.die p.slot apart) ∙ k.waiting p among
        ]

    pub call_kept : IsKept then_world v
    call_kept = record {
      reached = reached;
      sound = k.sound;
      below = below_then;
      backed = backed_then;
      works = works_then;
      spared = spared_then;
      erased = erased_then;
      waiting = waiting_then;
    }
