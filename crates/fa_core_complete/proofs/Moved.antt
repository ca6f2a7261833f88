-- Moves and erases that end.
use Rattle.fa_machine.proofs.Maps.{get-keep, get-place_other, get-place_same, passed, place_cmp_total, place_same}
use Rattle.fa_machine.specs.Collecting.{is_in_block}
use Rattle.fa_machine.specs.Copies.{holds_last, is_current, is_held_slot, is_reserved_slot}
use Rattle.fa_machine.specs.Maps.{keep, place_cmp}
use Rattle.fa_machine.specs.State.{Core, MapState, is_live, used_at}
use Rattle.fa_machine.specs.Taking.{stays}
use Rattle.fa_machine.specs.declared.jobs.Flight.TheVariants.{Move}
use Rattle.fa_machine.specs.declared.places.Used.{Used}
use Rattle.fa_machine.specs.declared.places.Used.TheVariants.{Held, Reserved, Stale}
use Rattle.fa_machine.specs.declared.places.Version.{Version}
use Rattle.fa_map_calls.proofs.Ranges.{find_none}
use Rattle.fa_map_calls.proofs.Indices.{block_of_slot}
use Rattle.fa_map_calls.specs.Changes.{MayKeep, with_used}
use Rattle.fa_map_calls.specs.Slots.{IsPageMap}
use Rattle.fa_sound.specs.Owners.{owned_of}
use Rattle.fa_sound.specs.Sound.{IsMoving, IsSound, is_settled}
use Rattle.fa_types.specs.declared.numbers.Page.{Page}
use Rattle.fa_types.specs.declared.numbers.Slot.{Slot}
use Rattle.std.proofs.Common.{Bool, None, Option, Some, ap, arith, cond, eqb-true, false, inl, inr, not, refl, subst, sym, true, ℕ}
use Rattle.std.proofs.Common.{◌*◌, ◌<◌, ◌∙◌, ◌≡◌, ◌≤◌}
use Rattle.std.proofs.lemmas.Bool.{and_parts, cases_eq, false_from_ne_true, false≢true}
use Rattle.std.specs.FinMap.{FinMap, get, same_map}
use Rattle.std.specs.Prelude.{is_some, ◌&&◌, ◌/◌, ◌==◌, ◌||◌}

-- where every entry passes, all are kept
all_kept : (m : FinMap place_cmp Used) (test : ℕ × ℕ → Used → Bool)
    → ((die slot : ℕ) (u : Used) → get m (die, slot) ≡ Some u → test (die, slot) u ≡ true) → m ≡ keep test m
all_kept m test all =
    same_map place_cmp_total place_same m (keep test m)
    (λ q. go q.0 q.1 (get m q) refl ∙ sym (get-keep place_cmp_total place_same test m q))
  where
    go : (die slot : ℕ) (o : Option Used) → get m (die, slot) ≡ o → o ≡ passed (test (die, slot)) o
    go die slot None is = refl
    go die slot (Some u) is = sym (ap (λ b. cond b (Some u) None) (all die slot u is))

none_there : (a b r : Bool) → b ≡ false → (not (a && b) || r) ≡ true
none_there true b r none = ap (λ b. not b || r) none
none_there false b r none = refl

-- a block outside of the array has no slots that could be erased
pub outside : (m : MapState) → IsPageMap m → (die block : ℕ) → m.geometry.blocks ≤ block
    → m ≡ record m { used = keep (stays m die block) m.used }
outside m whole die block past =
    let kept = all_kept m.used (stays m die block) (λ d s u is. none_there (d == die) (is_in_block m block s) (is_reserved_slot (Some u))
    (apart d s u is)) in λ i. record m { used = kept i }
  where
    apart : (d s : ℕ) (u : Used) → get m.used (d, s) ≡ Some u → is_in_block m block s ≡ false
    apart d s u is =
        let fits = (whole.used d s (ap is_some is)).1 in
        false_from_ne_true (is_in_block m block s) (λ there. elim (cases_eq m.geometry.slots 0) [
          | inl none ↦ let low = subst (λ n. s < m.geometry.blocks * n) none fits in absurd (omega (arith, low))
          | inr some ↦
              let low = block_of_slot s m.geometry.blocks m.geometry.slots (omega (arith, some)) fits in
              let same = eqb-true (s / m.geometry.slots) block there in
              absurd (omega (arith, low, same, past))
        ])

-- what a slot that holds a page's last write has
holds_it : (page : ℕ) (number : Option Version) (o : Option Used) → holds_last page number o ≡ true
    → (p : Page) × (w : Version) × (o ≡ Some (Held p w)) × (p.0 ≡ page)
holds_it page None o e = absurd (false≢true e)
holds_it page (Some n) None e = absurd (false≢true e)
holds_it page (Some n) (Some Reserved) e = absurd (false≢true e)
holds_it page (Some n) (Some Stale) e = absurd (false≢true e)
holds_it page (Some n) (Some (Held p w)) e = (p, w, refl, eqb-true p.0 page (and_parts (p.0 == page) (w.seq.0 == n.seq.0) e).0)

settled_some : (o : Option Used) → is_settled o ≡ true → (u : Used) × (o ≡ Some u)
settled_some None is = absurd (false≢true is)
settled_some (Some u) is = (u, refl)

module _ (core : Core) (sound : IsSound core) (whole : IsPageMap core.page_map) (die : ℕ) (page : Page) (version : Version)
    (from to : Slot) (job : get core.jobs die ≡ Some (Move page version from to)) where
  moving : IsMoving (λ slot. get core.page_map.used (die, slot)) (owned_of core.copying core.claims) die page version from.0 to.0
  moving = (sound.jobs die (Move page version from to) job).fits

  live : is_live core.page_map die ≡ true
  live = (sound.jobs die (Move page version from to) job).on_live

  abbrev total : ℕ
  total = core.page_map.geometry.blocks * core.page_map.geometry.slots

  pub from_inside : from.0 < total
  from_inside =
      let some = settled_some (get core.page_map.used (die, from.0)) moving.settled in
      (sound.slots die from.0 some.0 some.1).inside

  pub to_inside : to.0 < total
  to_inside = (sound.slots die to.0 Reserved moving.kept).inside

  -- they are two slots
  apart : to.0 ≡ from.0 → ⊥
  apart same =
      false≢true (sym (ap is_settled (ap (λ s. get core.page_map.used (die, s)) (sym same) ∙ moving.kept)) ∙ moving.settled)

  -- the map without the copy in the old slot
  abbrev staled : MapState
  staled = with_used die from.0 Stale core.page_map

  other_slot : (slot : ℕ) → (slot ≡ from.0 → ⊥) → used_at staled die slot ≡ used_at core.page_map die slot
  other_slot slot off = get-place_other core.page_map.used die from.0 Stale die slot (λ a b. off b)

  module _ (current : is_current core.page_map page.0 die from.0 ≡ true) where
    from_held : get core.page_map.used (die, from.0) ≡ Some (Held page version)
    from_held =
        let it = holds_it page.0 (get core.page_map.versions page.0) (used_at core.page_map die from.0)
        (and_parts (is_live core.page_map die) _ current).1 in
        it.2 ∙ (λ i. Some (Held (moving.page_is it.0 it.1 it.2 i) (moving.version_is it.0 it.1 it.2 i)))

    last : get core.page_map.versions page.0 ≡ Some version
    last = sound.held die from.0 page version from_held

    nowhere : (slot : ℕ) → is_current staled page.0 die slot ≡ false
    nowhere slot = false_from_ne_true (is_current staled page.0 die slot) (λ there.
        let it = holds_it page.0 (get core.page_map.versions page.0) (used_at staled die slot)
        (and_parts (is_live core.page_map die) _ there).1 in
        elim (cases_eq slot from.0) [
          | inl same ↦
              let stale : Some Stale ≡ Some (Held it.0 it.1) =
              sym (ap (used_at staled die) same ∙ get-place_same core.page_map.used die from.0 Stale) ∙ it.2 in
              cc
          | inr off ↦ off (sound.once die slot from.0 it.0 it.1 version (sym (other_slot slot off) ∙ it.2)
              (from_held ∙ ap (λ p. Some (Held p version)) (page_same it.0 it.3)))
        ])
      where
        page_same : (p : Page) → p.0 ≡ page.0 → page ≡ p
        page_same p is = λ i. record { 0 = sym is i }

    pub may_keep : MayKeep staled page version die to.0
    may_keep = record {
      page_fits = whole.written page.0 (ap is_some last);
      slot_fits = to_inside;
      live = live;
      last = last;
      free = ap is_held_slot (other_slot to.0 apart ∙ moving.kept);
      once = ap is_some (find_none (is_current staled page.0 die) 0 _ (λ slot from below. nowhere slot));
    }
