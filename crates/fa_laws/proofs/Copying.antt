-- ReserveCopy and CommitCopy keep what holds.
use Rattle.fa_laws.proofs.Claiming.{room_erased}
use Rattle.fa_laws.proofs.Committing.{program_target}
use Rattle.fa_laws.proofs.Invariant.{Holds, later, owned_of, scene_of}
use Rattle.fa_laws.proofs.Keeping.{disowned_is_sound}
use Rattle.fa_machine.proofs.Maps.{place_cmp_total, place_itself, place_same}
use Rattle.fa_machine.proofs.Values.{get-insert_all, get-insert_all_among}
use Rattle.fa_laws.proofs.Reserving.{Reserves, reserved_is_sound}
use Rattle.fa_laws.proofs.Scene.{IsNumbered, IsTargetAt, Owned, program_is_at}
use Rattle.fa_machine.specs.Among.{Among}
use Rattle.fa_laws.proofs.Settling.{Settles, settled_is_sound}
use Rattle.fa_machine.specs.Maps.{insert_all}
use Rattle.fa_machine.specs.Placement.{has_room}
use Rattle.fa_machine.specs.State.{WaitingProgram, is_live, used_at}
use Rattle.fa_machine.specs.Turning.{copied_payload, copying_to}
use Rattle.fa_machine.specs.World.{World}
use Rattle.fa_machine.specs.Writing.{program_at, target_on, with_targets}
use Rattle.fa_machine.specs.declared.places.Copying.{Copying}
use Rattle.fa_machine.specs.declared.places.Target.{Target}
use Rattle.fa_machine.specs.declared.places.Used.{Used}
use Rattle.fa_machine.specs.declared.places.Used.TheVariants.{Held, Reserved, Stale}
use Rattle.fa_machine.specs.declared.places.Version.{Version}
use Rattle.std.proofs.Common.{Bool, List, None, Option, Some, [], ap, arith, false, inl, inr, refl, subst, suc, sym, true, ℕ, ◌+◌, ◌<◌}
use Rattle.std.proofs.Common.{◌∙◌, ◌∷◌, ◌≡◌, ◌≤◌, ◌⊎◌}
use Rattle.std.proofs.lemmas.Bool.{false≢true}
use Rattle.std.proofs.lemmas.Option.{none-some, same_Some}
use Rattle.std.specs.FinMap.{get}
use Rattle.std.specs.Prelude.{if◌then◌else◌, option_map}

abbrev owned_copy : Copying → Owned
owned_copy c = record { page = c.page.0; version = c.version; targets = c.target ∷ [] }

module _ (w : World) (h : Holds w) (c : Copying) (is : w.core.copying ≡ Some c) where
  owns : owned_of w.core.copying w.core.claims None ≡ Some (owned_copy c)
  owns = ap (option_map owned_copy) is

  owner : (q : Option ℕ) (y : Owned) → owned_of None w.core.claims q ≡ Some y → (owned_of w.core.copying w.core.claims q ≡ Some y) × (q ≡ None → ⊥)
  owner None y e = absurd (none-some y e)
  owner (Some j) y e = (e, λ same. none-some j (sym same))

  pub copy_fails : Holds (record w { core = record (w.core) { copying = None }; moment = suc w.moment })
  copy_fails = record {
    sound = disowned_is_sound (scene_of w) h.sound (owned_of None w.core.claims) (λ q y e. (owner q y e).0);
    jobs = h.jobs;
    claims = h.claims;
    told = h.told;
    ordered = h.ordered;
    plain = h.plain;
    unwritten = h.unwritten;
    answered = later w.core.batches w.admitted w.values w.works w.due w.moment h.answered;
  }

  only : (t : Target) → Among t (c.target ∷ []) → c.target ≡ t
  only t (inl same) = same
  only t (inr rest) = absurd rest

  placed : (final : Used) (die slot : ℕ) → is_live w.core.page_map c.target.die.0 ≡ true
      → (get (insert_all ((c.target.die.0, c.target.slot.0) ∷ []) final w.core.page_map.used) (die, slot) ≡ get w.core.page_map.used (die, slot))
      ⊎ ((t : Target) × IsTargetAt (owned_of w.core.copying w.core.claims) die slot None (owned_copy c) t × (is_live w.core.page_map die ≡ true)
      × (get (insert_all ((c.target.die.0, c.target.slot.0) ∷ []) final w.core.page_map.used) (die, slot) ≡ Some final))
  placed final die slot is_live_one =
      elim (get-insert_all place_cmp_total place_same ((c.target.die.0, c.target.slot.0) ∷ []) final w.core.page_map.used (die, slot)) [
        | inl same ↦ inl same
        | inr found ↦ at_target found.0 found.1
      ]
    where
      at_target : Among {X = ℕ × ℕ} (die, slot) ((c.target.die.0, c.target.slot.0) ∷ [])
          → get (insert_all ((c.target.die.0, c.target.slot.0) ∷ []) final w.core.page_map.used) (die, slot) ≡ Some final
          → (get (insert_all ((c.target.die.0, c.target.slot.0) ∷ []) final w.core.page_map.used) (die, slot) ≡ get w.core.page_map.used (die, slot))
          ⊎ ((t : Target) × IsTargetAt (owned_of w.core.copying w.core.claims) die slot None (owned_copy c) t × (is_live w.core.page_map die ≡ true)
          × (get (insert_all ((c.target.die.0, c.target.slot.0) ∷ []) final w.core.page_map.used) (die, slot) ≡ Some final))
      at_target (inl same) e =
          let on_die = ap (λ (q : ℕ × ℕ). q.0) same in
          inr (
            c.target,
            record { owns = owns; among = inl refl; on_die = on_die; at_slot = ap (λ (q : ℕ × ℕ). q.1) same },
            sym (ap (is_live w.core.page_map) on_die) ∙ is_live_one,
            e,
          )
      at_target (inr rest) e = absurd rest

  module _ (final : Used) (is_live_one : is_live w.core.page_map c.target.die.0 ≡ true) (programmed : c.target.programmed ≡ true)
      (finish : (final ≡ Stale) ⊎ (final ≡ Held (record { 0 = c.page.0 }) c.version)) where
    finish_one : (t : Target) → Among t (c.target ∷ []) → (final ≡ Stale) ⊎ ((final ≡ Held (record { 0 = c.page.0 }) c.version) × (t.programmed ≡ true))
    finish_one t among =
        elim finish [
          | inl stale ↦ inl stale
          | inr made ↦ inr (made, sym (ap (λ (u : Target). u.programmed) (only t among)) ∙ programmed)
        ]

    marked_already : (t : Target) → Among t (c.target ∷ []) → t.programmed ≡ false → ⊥
    marked_already t among undone = false≢true (sym undone ∙ sym (ap (λ (u : Target). u.programmed) (only t among)) ∙ programmed)

    settles : Settles (scene_of w) None (owned_copy c) final
        (λ die slot. get (insert_all ((c.target.die.0, c.target.slot.0) ∷ []) final w.core.page_map.used) (die, slot))
        (owned_of None w.core.claims) w.core.waiting
    settles = record {
      is = owns;
      placed = λ die slot. placed final die slot is_live_one;
      finish = λ t among live_t. finish_one t among;
      owner = owner;
      fewer = λ p among. among;
      count = λ die slot. omega arith;
      free = λ p among t at live_t. marked_already t at.among ((h.sound.waits p among).place.target None (owned_copy c) t at).0;
      idle = λ die work e p v slot flight t at live_t. marked_already t at.among
          (program_target (scene_of w) h.sound die work e p v slot flight None (owned_copy c) t at);
    }

    pub copy_settles : Holds (record w {
      core = record (w.core) { copying = None; page_map = with_targets final (c.target ∷ []) w.core.page_map };
      moment = suc w.moment;
    })
    copy_settles = record {
      sound = settled_is_sound (scene_of w) h.sound None (owned_copy c) final
          (λ die slot. get (insert_all ((c.target.die.0, c.target.slot.0) ∷ []) final w.core.page_map.used) (die, slot))
          (owned_of None w.core.claims) w.core.waiting settles;
      jobs = h.jobs;
      claims = h.claims;
      told = h.told;
      ordered = h.ordered;
      plain = h.plain;
      unwritten = h.unwritten;
      answered = later w.core.batches w.admitted w.values w.works w.due w.moment h.answered;
    }

module _ (w : World) (h : Holds w) (page die : ℕ) (version : Version) (payload : List ℕ) (within : page < w.core.page_map.geometry.pages)
    (number : get w.core.page_map.versions page ≡ Some version) (room : has_room w.core.page_map die ≡ true)
    (bytes : copied_payload w.core.page_map version.kind payload ≡ w.payloads page version.seq.0) where
  abbrev copied : List ℕ
  copied = copied_payload w.core.page_map version.kind payload

  abbrev t : Target
  t = target_on w.core.page_map die

  abbrev copy : Copying
  copy = record { page = record { 0 = page }; version = version; target = t }

  abbrev used : ℕ → ℕ → Option Used
  used d slot = get (insert_all ((t.die.0, t.slot.0) ∷ []) Reserved w.core.page_map.used) (d, slot)

  new_only : (u : Target) → Among u (t ∷ []) → t ≡ u
  new_only u (inl same) = same
  new_only u (inr rest) = absurd rest

  erased : (is_live w.core.page_map die ≡ true) × (used_at w.core.page_map die t.slot.0 ≡ None)
  erased = room_erased w.core.page_map die room

  placed_new : (d slot : ℕ) → (used d slot ≡ get w.core.page_map.used (d, slot)) ⊎ ((u : Target) × Among u (t ∷ []) × (u.die.0 ≡ d) × (u.slot.0 ≡ slot))
  placed_new d slot =
      elim (get-insert_all place_cmp_total place_same ((t.die.0, t.slot.0) ∷ []) Reserved w.core.page_map.used (d, slot)) [
        | inl same ↦ inl same
        | inr found ↦ inr (here found.0)
      ]
    where
      here : Among {X = ℕ × ℕ} (d, slot) ((t.die.0, t.slot.0) ∷ []) → (u : Target) × Among u (t ∷ []) × (u.die.0 ≡ d) × (u.slot.0 ≡ slot)
      here (inl same) = (t, inl refl, ap (λ (q : ℕ × ℕ). q.0) same, ap (λ (q : ℕ × ℕ). q.1) same)
      here (inr rest) = absurd rest

  owner_new : (q : Option ℕ) (y : Owned) → owned_of (Some copy) w.core.claims q ≡ Some y
      → (owned_of w.core.copying w.core.claims q ≡ Some y) ⊎ ((q ≡ None) × (owned_copy copy ≡ y))
  owner_new None y e = inr (refl, same_Some (owned_copy copy) y e)
  owner_new (Some j) y e = inl e

  programs : (p : WaitingProgram) → Among p (program_at page version copied t ∷ [])
      → (u : Target) × Among u (t ∷ []) × (p.die ≡ u.die.0) × (p.slot ≡ u.slot.0) × (p.page ≡ page) × (p.version ≡ version) × (p.payload ≡ copied)
  programs p (inl e) = (
    t,
    inl refl,
    sym (ap (λ (q : WaitingProgram). q.die) e),
    sym (ap (λ (q : WaitingProgram). q.slot) e),
    sym (ap (λ (q : WaitingProgram). q.page) e),
    sym (ap (λ (q : WaitingProgram). q.version) e),
    sym (ap (λ (q : WaitingProgram). q.payload) e),
  )
  programs p (inr rest) = absurd rest

  one_at_most : (b : Bool) → (if b then 1 else 0) + 0 ≤ 1
  one_at_most true = omega arith
  one_at_most false = omega arith

  numbered : IsNumbered (scene_of w).bytes (scene_of w).plain page version
  numbered = h.sound.numbered page version number

  reserves : Reserves (scene_of w) None (owned_copy copy) copied used (owned_of (Some copy) w.core.claims) (program_at page version copied t ∷ [])
  reserves = record {
    right = record { inside = within; hole = numbered.hole; below = numbered.below };
    payload = bytes;
    live = λ u among. subst (λ (v : Target). is_live w.core.page_map v.die.0 ≡ true) (new_only u among) erased.0;
    erased = λ u among. subst (λ (v : Target). used_at w.core.page_map v.die.0 v.slot.0 ≡ None) (new_only u among) erased.1;
    undone = λ u among. ap (λ (v : Target). v.programmed) (sym (new_only u among));
    kept = λ u among. subst (λ (v : Target). used v.die.0 v.slot.0 ≡ Some Reserved) (new_only u among)
        (get-insert_all_among place_cmp_total place_same ((t.die.0, t.slot.0) ∷ []) Reserved w.core.page_map.used (t.die.0, t.slot.0)
        (place_itself (t.die.0, t.slot.0)) (inl refl));
    placed = placed_new;
    owner = owner_new;
    programs = programs;
    distinct = λ d slot. one_at_most (program_is_at d slot (program_at page version copied t));
  }

  pub copy_reserves : Holds (record w { core = copying_to w.core page payload (Some version) (Some die); moment = suc w.moment })
  copy_reserves = record {
    sound = reserved_is_sound (scene_of w) h.sound None (owned_copy copy) copied used (owned_of (Some copy) w.core.claims)
        (program_at page version copied t ∷ []) reserves;
    jobs = h.jobs;
    claims = h.claims;
    told = h.told;
    ordered = h.ordered;
    plain = h.plain;
    unwritten = h.unwritten;
    answered = later w.core.batches w.admitted w.values w.works w.due w.moment h.answered;
  }
