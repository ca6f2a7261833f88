-- What holds of a die behind each kind of call of its image.
use Rattle.fa_crash.proofs.CallParts.{CallKept, called, stands_backed}
use Rattle.fa_crash.proofs.Kept.{Backed, IsKept, WorkKept, is_sealed}
use Rattle.fa_crash.proofs.Standing.{IsKeptAt}
use Rattle.fa_crash.proofs.Trusted.{Trusted}
use Rattle.fa_crash.specs.Unsynced.{Unsynced, made_durable, number_of, written_to}
use Rattle.fa_laws.proofs.Admitting.{one_value_other, one_value_same}
use Rattle.fa_laws.specs.Reached.{IsReached}
use Rattle.fa_machine.specs.Among.{Among}
use Rattle.fa_machine.specs.Cells.{Cell}
use Rattle.fa_machine.specs.Collecting.{is_in_block}
use Rattle.fa_machine.specs.Copies.{is_held_slot}
use Rattle.fa_machine.specs.State.{Core, WaitingProgram}
use Rattle.fa_machine.specs.World.{DieImage, Gave, Work, World}
use Rattle.fa_machine.specs.declared.places.Used.TheVariants.{Reserved}
use Rattle.fa_sound.proofs.Changing.{reserved≢none}
use Rattle.fa_sound.specs.Owners.{owned_of}
use Rattle.fa_sound.specs.Sound.{IsErasing}
use Rattle.std.proofs.Common.{List, Some, [], ap, arith, false, inl, inr, refl, subst, sym, true, ℕ, ◌/◌, ◌∙◌, ◌∷◌, ◌≡◌, ◌≤◌, ◌⊎◌}
use Rattle.std.proofs.lemmas.Bool.{cases_Bool, false≢true, ne_eqb}
use Rattle.std.specs.FinMap.{get}
use Rattle.std.specs.Prelude.{if◌then◌else◌, ◌++◌, ◌==◌}

abbrev no_cells : ℕ → List Cell
no_cells slot = []

module _ (w : World) (u : Unsynced) (k : IsKept w u) (die : ℕ) (work : Work) (is : w.works die ≡ Some work) (gave : Gave) (image : DieImage)
    (reached : IsReached (called w die work gave image)) where
  abbrev core : Core
  core = w.core

  abbrev slots : ℕ
  slots = core.page_map.geometry.slots

  -- a call that changes no slot
  module _ (same : (slot : ℕ) → image.seen slot ≡ (w.images die).seen slot) where
    still_backed : (v : Unsynced) → v.since ≡ u.since → v.kept ≡ u.kept → (page : ℕ) → Trusted core die page → 1 ≤ v.kept die page
        → Backed (called w die work gave image) v die page
    still_backed v sinces kepts page trusted some =
        let b = k.backed die page trusted (subst (λ (f : ℕ → ℕ → ℕ). 1 ≤ f die page) kepts some) in
        record {
          slot = b.slot;
          inside = b.inside;
          version = b.version;
          payload = b.payload;
          settled = ap (λ (f : ℕ → ℕ → List Cell). f die b.slot) sinces ∙ b.settled;
          stands = ap (λ (i : DieImage). i.seen b.slot) (one_value_same die image w.images die refl) ∙ same b.slot ∙ b.stands;
          kept = subst (λ (f : ℕ → ℕ → ℕ). f die page ≤ b.version.seq.0) (sym kepts) b.kept;
        }

    still_waiting : (p : WaitingProgram) → Among p core.waiting → p.die ≡ die → is_sealed (image.seen p.slot) ≡ false
    still_waiting p among on = ap is_sealed (same p.slot) ∙ (λ i. is_sealed ((w.images (sym on i)).seen p.slot)) ∙ k.waiting p among

    pub quiet_call : (v : Unsynced) → v.since ≡ u.since → v.kept ≡ u.kept
        → WorkKept slots (v.since die) image.seen work.job.flight work.job.lasting (work.gave ++ gave ∷ [])
        → CallKept w u k die work is gave image reached v
    quiet_call v sinces kepts fits = record {
      since = λ d apart. ap (λ (f : ℕ → ℕ → List Cell). f d) sinces;
      kept = λ d apart. ap (λ (f : ℕ → ℕ → ℕ). f d) kepts;
      below = λ page. subst (λ (f : ℕ → ℕ → ℕ). f die page ≤ number_of core page) (sym kepts) (k.below die page);
      backed = still_backed v sinces kepts;
      work_kept = fits;
      erased = λ slot there inside none. ap is_sealed (same slot) ∙ k.erased die slot there inside none;
      waiting = still_waiting;
    }

    -- an accepted sync or header
    settled_here : (slot : ℕ) → (made_durable w die u).since die slot ≡ []
    settled_here slot = ap (λ (f : ℕ → List Cell). f slot) (one_value_same die no_cells u.since die refl)

    kept_here : (page : ℕ) → (made_durable w die u).kept die page ≡ number_of core page
    kept_here page = ap (λ (f : ℕ → ℕ). f page) (one_value_same die (number_of core) u.kept die refl)

    below_here : (page : ℕ) → (made_durable w die u).kept die page ≤ number_of core page
    below_here page = let e = kept_here page in omega (arith, e)

    pub durable_call : WorkKept slots ((made_durable w die u).since die) image.seen work.job.flight work.job.lasting (work.gave ++ gave ∷ [])
        → CallKept w u k die work is gave image reached (made_durable w die u)
    durable_call fits = record {
      since = λ d apart. one_value_other die no_cells u.since d apart;
      kept = λ d apart. one_value_other die (number_of core) u.kept d apart;
      below = below_here;
      backed = λ page trusted some. stands_backed w u k die work is gave image reached (made_durable w die u) page (below_here page)
          (λ slot kept. settled_here slot) trusted;
      work_kept = fits;
      erased = λ slot there inside none. ap is_sealed (same slot) ∙ k.erased die slot there inside none;
      waiting = still_waiting;
    }

  -- a program of a slot that is reserved, is not sealed, and for which no other program waits
  module _ (to : ℕ) (kept : get core.page_map.used (die, to) ≡ Some Reserved) (clear : is_sealed ((w.images die).seen to) ≡ false)
      (alone : (p : WaitingProgram) → Among p core.waiting → p.die ≡ die → p.slot ≡ to → ⊥)
      (same : (slot : ℕ) → (slot ≡ to → ⊥) → image.seen slot ≡ (w.images die).seen slot) where
    abbrev programmed : Unsynced
    programmed = written_to w die (λ s. s == to) u

    since_same : (slot : ℕ) → (slot ≡ to → ⊥) → programmed.since die slot ≡ u.since die slot
    since_same slot apart =
        ap (λ (f : ℕ → List Cell). f slot) (one_value_same die (λ s. if s == to then (w.images die).seen s ∷ u.since die s else u.since die s) u.since die refl)
        ∙ ap (λ b. if b then (w.images die).seen slot ∷ u.since die slot else u.since die slot) (ne_eqb slot to apart)

    program_backed : (page : ℕ) → Trusted core die page → 1 ≤ u.kept die page → Backed (called w die work gave image) programmed die page
    program_backed page trusted some =
        let b = k.backed die page trusted some in
        let apart : b.slot ≡ to → ⊥ = λ e. false≢true (sym clear ∙ ap (λ s. is_sealed ((w.images die).seen s)) (sym e) ∙ ap is_sealed b.stands) in
        record {
          slot = b.slot;
          inside = b.inside;
          version = b.version;
          payload = b.payload;
          settled = since_same b.slot apart ∙ b.settled;
          stands = ap (λ (i : DieImage). i.seen b.slot) (one_value_same die image w.images die refl) ∙ same b.slot apart ∙ b.stands;
          kept = b.kept;
        }

    pub program_call : WorkKept slots (programmed.since die) image.seen work.job.flight work.job.lasting (work.gave ++ gave ∷ [])
        → CallKept w u k die work is gave image reached programmed
    program_call fits = record {
      since = λ d apart. one_value_other die (λ s. if s == to then (w.images die).seen s ∷ u.since die s else u.since die s) u.since d apart;
      kept = λ d apart. refl;
      below = k.below die;
      backed = program_backed;
      work_kept = fits;
      erased = λ slot there inside none. ap is_sealed (same slot (λ e. reserved≢none _ kept ((λ i. get core.page_map.used (die, sym e i)) ∙ none)))
          ∙ k.erased die slot there inside none;
      waiting = λ p among on. ap is_sealed (same p.slot (alone p among on)) ∙ (λ i. is_sealed ((w.images (sym on i)).seen p.slot))
          ∙ k.waiting p among;
    }

  -- an erase of a block, of which all other slots are synced
  module _ (block : ℕ) (settled : (slot : ℕ) → (slot / slots == block) ≡ false → u.since die slot ≡ [])
      (free : IsErasing slots (λ slot. get core.page_map.used (die, slot)) (owned_of core.copying core.claims) die block)
      (outside : (slot : ℕ) → (slot / slots == block) ≡ false → image.seen slot ≡ (w.images die).seen slot)
      (inside : (slot : ℕ) → (slot / slots == block) ≡ true → (image.seen slot ≡ (w.images die).seen slot) ⊎ (is_sealed (image.seen slot) ≡ false)) where
    abbrev erased : Unsynced
    erased = written_to w die (is_in_block core.page_map block) u

    pub since_outside : (slot : ℕ) → (slot / slots == block) ≡ false → erased.since die slot ≡ []
    since_outside slot out =
        ap (λ (f : ℕ → List Cell). f slot)
        (one_value_same die (λ s. if is_in_block core.page_map block s then (w.images die).seen s ∷ u.since die s else u.since die s) u.since die refl)
        ∙ ap (λ b. if b then (w.images die).seen slot ∷ u.since die slot else u.since die slot) out ∙ settled slot out

    kept_settled : (slot : ℕ) → IsKeptAt core die slot → erased.since die slot ≡ []
    kept_settled slot kept =
        elim (cases_Bool (slot / slots == block)) [
          | inr out ↦ since_outside slot out
          | inl here ↦ elim kept [
            | inl held ↦ absurd (false≢true (sym (free.none_held slot here) ∙ ap is_held_slot held.2))
            | inr done ↦ absurd (false≢true (sym (free.none_done slot here done.0) ∙ done.1))
          ]
        ]

    clear_or_same : (slot : ℕ) → is_sealed ((w.images die).seen slot) ≡ false → is_sealed (image.seen slot) ≡ false
    clear_or_same slot clear =
        elim (cases_Bool (slot / slots == block)) [
          | inr out ↦ ap is_sealed (outside slot out) ∙ clear
          | inl here ↦ elim (inside slot here) [
            | inl same ↦ ap is_sealed same ∙ clear
            | inr gone ↦ gone
          ]
        ]

    pub erase_call : WorkKept slots (erased.since die) image.seen work.job.flight work.job.lasting (work.gave ++ gave ∷ [])
        → CallKept w u k die work is gave image reached erased
    erase_call fits = record {
      since = λ d apart. one_value_other die (λ s. if is_in_block core.page_map block s then (w.images die).seen s ∷ u.since die s else u.since die s) u.since d apart;
      kept = λ d apart. refl;
      below = k.below die;
      backed = λ page trusted some. stands_backed w u k die work is gave image reached erased page (k.below die page) kept_settled trusted;
      work_kept = fits;
      erased = λ slot there low none. clear_or_same slot (k.erased die slot there low none);
      waiting = λ p among on. clear_or_same p.slot ((λ i. is_sealed ((w.images (sym on i)).seen p.slot)) ∙ k.waiting p among);
    }
