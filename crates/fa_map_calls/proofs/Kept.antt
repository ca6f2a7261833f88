-- Each change of a page map leaves one.
use Rattle.std.proofs.Common.{◌≡◌, ℕ, ◌<◌, ◌*◌, Bool, true, false, not, ◌==◌, ◌&&◌, Some, ap, cond, inl, inr, sym, subst, ◌∙◌}
use Rattle.std.proofs.Common.{arith, eq-eqb}
use Rattle.std.proofs.lemmas.Bool.{and_from, cases_Bool, cases_eq, false≢true, ne_eqb}
use Rattle.std.proofs.lemmas.Option.{none-some, same_Some}
use Rattle.std.specs.FinMap.{get, get-empty, insert}
use Rattle.std.specs.Ordering.{nat_cmp}
use Rattle.std.specs.Prelude.{is_some}
use Rattle.fa_types.specs.declared.geometry.Geometry.{Geometry}
use Rattle.fa_types.specs.declared.numbers.Page.{Page}
use Rattle.fa_machine.specs.declared.places.Used.{Used}
use Rattle.fa_machine.specs.declared.places.Used.TheVariants.{Reserved, Held, Stale}
use Rattle.fa_machine.specs.declared.places.Version.{Version}
use Rattle.fa_machine.specs.Copies.{is_held_slot}
use Rattle.fa_machine.specs.State.{MapState, is_live, used_at}
use Rattle.fa_machine.proofs.Maps.{has_some, get-insert_same, get-insert_other, get-remove_same, get-remove_other}
use Rattle.fa_machine.specs.Writing.{without_page}
use Rattle.fa_map_calls.specs.Changes.{new_map, with_used, made_current, outdated, renewed, brought_in, dropped, without_block, MayHold, MayKeep}
use Rattle.fa_map_calls.specs.Plain.{holds}
use Rattle.fa_map_calls.specs.Slots.{IsPageMap}
use Rattle.fa_map_calls.proofs.Holders.{copy_found}
use Rattle.fa_map_calls.proofs.Ranges.{found_some}
use Rattle.fa_map_calls.proofs.Changed.{place_cases, passed_some, mapped_some, used-new, used-same, used-other, used-outdated, used-current, used-renewed, used-dropped, used-erased}

pub whole-new : (g : Geometry) → IsPageMap (new_map g)
whole-new g = record {
  live = λ die h. absurd (false≢true (sym (ap is_some (get-empty nat_cmp die)) ∙ h));
  written = λ page h. absurd (false≢true (sym (ap is_some (get-empty nat_cmp page)) ∙ h));
  used = λ die slot h. absurd (false≢true (sym (ap is_some (used-new g die slot)) ∙ h));
  last = λ die slot page version h. absurd (none-some (Held page version) (sym (used-new g die slot) ∙ h));
  once = λ die slot other page version h k. absurd (none-some (Held page version) (sym (used-new g die slot) ∙ h));
}

-- a slot of a live die that comes to hold nothing
pub whole-used : (m : MapState) (die slot : ℕ) (u : Used) → IsPageMap m → is_live m die ≡ true → slot < m.geometry.blocks * m.geometry.slots
    → is_held_slot (Some u) ≡ false → IsPageMap (with_used die slot u m)
whole-used m die slot u whole on fits bare = record {
  live = whole.live;
  written = whole.written;
  used = λ d s h. elim (place_cases d s die slot) [
    | inl at ↦ (ap (is_live m) at.0 ∙ on, subst (λ k. k < m.geometry.blocks * m.geometry.slots) (sym at.1) fits)
    | inr apart ↦ whole.used d s (sym (ap is_some (used-other m die slot u d s apart)) ∙ h)
  ];
  last = λ d s page version h. (held d s page version h).0;
  once = λ d s other page version h k. whole.once d s other page version (held d s page version h).1 (held d other page version k).1;
}
  where
    held : (d s : ℕ) (page : Page) (version : Version) → used_at (with_used die slot u m) d s ≡ Some (Held page version)
        → (get m.versions page.0 ≡ Some version) × (used_at m d s ≡ Some (Held page version))
    held d s page version h =
        elim (place_cases d s die slot) [
          | inl at ↦
              let here : used_at (with_used die slot u m) d s ≡ Some u = (λ i. used_at (with_used die slot u m) (at.0 i) (at.1 i)) ∙ used-same m die slot u in
              absurd (false≢true (sym bare ∙ ap is_held_slot (sym here ∙ h)))
          | inr apart ↦
              let was = sym (used-other m die slot u d s apart) ∙ h in
              (whole.last d s page version was, was)
        ]

-- what is left of a copy that is not outdated
kept_held : (page : ℕ) (version : Version) (u : Used) (p : Page) (v : Version) → outdated page version u ≡ Held p v
    → (u ≡ Held p v) × ((p.0 == page && not (v.seq.0 == version.seq.0)) ≡ false)
kept_held page version Reserved p v e = absurd (false≢true (ap (λ (x : Used). is_held_slot (Some x)) e))
kept_held page version Stale p v e = absurd (false≢true (ap (λ (x : Used). is_held_slot (Some x)) e))
kept_held page version (Held q w) p v e =
    elim (cases_Bool (q.0 == page && not (w.seq.0 == version.seq.0))) [
      | inl old ↦ absurd (false≢true (ap (λ (x : Used). is_held_slot (Some x)) (sym (ap (λ (b : Bool). cond b Stale (Held q w)) old) ∙ e)))
      | inr new ↦
          let is : Held q w ≡ Held p v = sym (ap (λ (b : Bool). cond b Stale (Held q w)) new) ∙ e in
          (is, sym (ap (λ (x : Used). old_test page version x) is) ∙ new)
    ]
  where
    old_test : ℕ → Version → Used → Bool
    old_test page version (Held q w) = q.0 == page && not (w.seq.0 == version.seq.0)
    old_test page version u = false

pub whole-current : (m : MapState) (page : Page) (version : Version) (die slot : ℕ) → IsPageMap m → MayHold m page version die slot
    → IsPageMap (made_current page version die slot m)
whole-current m page version die slot whole may = record {
  live = whole.live;
  written = λ q h. elim (cases_eq q page.0) [
    | inl is ↦ subst (λ k. k < m.geometry.pages) (sym is) may.page_fits
    | inr apart ↦ whole.written q (sym (ap is_some (get-insert_other m.versions page.0 version q apart)) ∙ h)
  ];
  used = λ d s h. elim (place_cases d s die slot) [
    | inl at ↦ (ap (is_live m) at.0 ∙ may.live, subst (λ k. k < m.geometry.blocks * m.geometry.slots) (sym at.1) may.slot_fits)
    | inr apart ↦
        let found = has_some _ (sym (ap is_some (used-outdated m page version die slot d s apart)) ∙ h) in
        let was = mapped_some (outdated page.0 version) (used_at m d s) found.0 found.1 in
        whole.used d s (ap is_some was.1)
  ];
  last = λ d s p v h. elim (place_cases d s die slot) [
    | inl at ↦ last_here p v (same_Some _ _ (sym (here d s at.0 at.1) ∙ h))
    | inr apart ↦ last_there p v (there d s apart p v h).1 (whole.last d s p v (there d s apart p v h).0)
  ];
  once = λ d s other p v h k. elim (place_cases d s die slot) [
    | inl at ↦ elim (place_cases d other die slot) [
      | inl also ↦ at.1 ∙ sym also.1
      | inr apart ↦ absurd (twice d p v (same_Some _ _ (sym (here d s at.0 at.1) ∙ h)) at.0 other (there d other apart p v k).0)
    ]
    | inr apart ↦ elim (place_cases d other die slot) [
      | inl at ↦ absurd (twice d p v (same_Some _ _ (sym (here d other at.0 at.1) ∙ k)) at.0 s (there d s apart p v h).0)
      | inr also ↦ whole.once d s other p v (there d s apart p v h).0 (there d other also p v k).0
    ]
  ];
}
  where
    here : (d s : ℕ) → d ≡ die → s ≡ slot → used_at (made_current page version die slot m) d s ≡ Some (Held page version)
    here d s a b = (λ i. used_at (made_current page version die slot m) (a i) (b i)) ∙ used-current m page version die slot

    there : (d s : ℕ) → (d ≡ die → s ≡ slot → ⊥) → (p : Page) (v : Version) → used_at (made_current page version die slot m) d s ≡ Some (Held p v)
        → (used_at m d s ≡ Some (Held p v)) × ((p.0 == page.0 && not (v.seq.0 == version.seq.0)) ≡ false)
    there d s apart p v h =
        let was = mapped_some (outdated page.0 version) (used_at m d s) (Held p v) (sym (used-outdated m page version die slot d s apart) ∙ h) in
        let kept = kept_held page.0 version was.0 p v was.2 in
        (was.1 ∙ ap Some kept.0, kept.1)

    page_of : Used → Page
    page_of (Held p v) = p
    page_of u = page

    version_of : Used → Version
    version_of (Held p v) = v
    version_of u = version

    last_here : (p : Page) (v : Version) → Held page version ≡ Held p v → get (insert m.versions page.0 version) p.0 ≡ Some v
    last_here p v e =
        ap (λ (q : Page). get (insert m.versions page.0 version) q.0) (sym (ap page_of e))
        ∙ get-insert_same m.versions page.0 version ∙ ap Some (ap version_of e)

    last_there : (p : Page) (v : Version) → (p.0 == page.0 && not (v.seq.0 == version.seq.0)) ≡ false → get m.versions p.0 ≡ Some v
        → get (insert m.versions page.0 version) p.0 ≡ Some v
    last_there p v new was =
        elim (cases_eq p.0 page.0) [
          | inr apart ↦ get-insert_other m.versions page.0 version p.0 apart ∙ was
          | inl is ↦ elim (cases_Bool (v.seq.0 == version.seq.0)) [
            | inl one ↦
                let same : v ≡ version = may.one_kind v (sym (ap (get m.versions) is) ∙ was) one in
                ap (get (insert m.versions page.0 version)) is ∙ get-insert_same m.versions page.0 version ∙ ap Some (sym same)
            | inr other ↦ absurd (false≢true (sym new ∙ and_from (p.0 == page.0) (not (v.seq.0 == version.seq.0)) (eq-eqb p.0 page.0 is) (ap not other)))
          ]
        ]

    twice : (d : ℕ) (p : Page) (v : Version) → Held page version ≡ Held p v → d ≡ die → (other : ℕ) → used_at m d other ≡ Some (Held p v) → ⊥
    twice d p v e is other h =
        let was : used_at m die other ≡ Some (Held page v) = sym (ap (λ k. used_at m k other) is) ∙ h ∙ ap (λ (q : Page). Some (Held q v)) (sym (ap page_of e)) in
        false≢true (sym (may.once other v was) ∙ eq-eqb v.seq.0 version.seq.0 (ap (λ (w : Version). w.seq.0) (sym (ap version_of e))))

-- a copy that is left is one of another page
other_page : (page : ℕ) (u : Used) (p : Page) (v : Version) → without_page page u ≡ Held p v → (u ≡ Held p v) × (p.0 ≡ page → ⊥)
other_page page Reserved p v e = absurd (false≢true (ap (λ (x : Used). is_held_slot (Some x)) e))
other_page page Stale p v e = absurd (false≢true (ap (λ (x : Used). is_held_slot (Some x)) e))
other_page page (Held q w) p v e =
    elim (cases_eq q.0 page) [
      | inl same ↦ absurd (false≢true (ap (λ (x : Used). is_held_slot (Some x)) (sym (ap (λ (b : Bool). cond b Stale (Held q w)) (eq-eqb q.0 page same)) ∙ e)))
      | inr apart ↦
          let is : Held q w ≡ Held p v = sym (ap (λ (b : Bool). cond b Stale (Held q w)) (ne_eqb q.0 page apart)) ∙ e in
          let pages : q ≡ p = cc in
          (is, λ same. apart (ap (λ (k : Page). k.0) pages ∙ same))
    ]

pub whole-renewed : (m : MapState) (page : ℕ) (version : Version) → IsPageMap m → page < m.geometry.pages → IsPageMap (renewed page version m)
whole-renewed m page version whole fits = record {
  live = whole.live;
  written = λ q h. elim (cases_eq q page) [
    | inl is ↦ subst (λ k. k < m.geometry.pages) (sym is) fits
    | inr apart ↦ whole.written q (sym (ap is_some (get-insert_other m.versions page version q apart)) ∙ h)
  ];
  used = λ d s h.
      let found = has_some _ (sym (ap is_some (used-renewed m page version d s)) ∙ h) in
      let was = mapped_some (without_page page) (used_at m d s) found.0 found.1 in
      whole.used d s (ap is_some was.1);
  last = λ d s p v h.
      let old = there d s p v h in
      get-insert_other m.versions page version p.0 old.1 ∙ whole.last d s p v old.0;
  once = λ d s other p v h k. whole.once d s other p v (there d s p v h).0 (there d other p v k).0;
}
  where
    there : (d s : ℕ) (p : Page) (v : Version) → used_at (renewed page version m) d s ≡ Some (Held p v)
        → (used_at m d s ≡ Some (Held p v)) × (p.0 ≡ page → ⊥)
    there d s p v h =
        let was = mapped_some (without_page page) (used_at m d s) (Held p v) (sym (used-renewed m page version d s) ∙ h) in
        let left = other_page page was.0 p v was.2 in
        (was.1 ∙ ap Some left.0, left.1)

-- a slot that comes to hold the last write of a page
pub whole-kept : (m : MapState) (page : Page) (version : Version) (die slot : ℕ) → IsPageMap m → MayKeep m page version die slot
    → IsPageMap (with_used die slot (Held page version) m)
whole-kept m page version die slot whole may = record {
  live = whole.live;
  written = whole.written;
  used = λ d s h. elim (place_cases d s die slot) [
    | inl at ↦ (ap (is_live m) at.0 ∙ may.live, subst (λ k. k < m.geometry.blocks * m.geometry.slots) (sym at.1) may.slot_fits)
    | inr apart ↦ whole.used d s (sym (ap is_some (used-other m die slot (Held page version) d s apart)) ∙ h)
  ];
  last = λ d s p v h. elim (place_cases d s die slot) [
    | inl at ↦ last_here p v (same_Some _ _ (sym (here d s at.0 at.1) ∙ h))
    | inr apart ↦ whole.last d s p v (there d s apart p v h)
  ];
  once = λ d s other p v h k. elim (place_cases d s die slot) [
    | inl at ↦ elim (place_cases d other die slot) [
      | inl also ↦ at.1 ∙ sym also.1
      | inr apart ↦ absurd (twice d p v (same_Some _ _ (sym (here d s at.0 at.1) ∙ h)) at.0 other (there d other apart p v k))
    ]
    | inr apart ↦ elim (place_cases d other die slot) [
      | inl at ↦ absurd (twice d p v (same_Some _ _ (sym (here d other at.0 at.1) ∙ k)) at.0 s (there d s apart p v h))
      | inr also ↦ whole.once d s other p v (there d s apart p v h) (there d other also p v k)
    ]
  ];
}
  where
    here : (d s : ℕ) → d ≡ die → s ≡ slot → used_at (with_used die slot (Held page version) m) d s ≡ Some (Held page version)
    here d s a b = (λ i. used_at (with_used die slot (Held page version) m) (a i) (b i)) ∙ used-same m die slot (Held page version)

    there : (d s : ℕ) → (d ≡ die → s ≡ slot → ⊥) → (p : Page) (v : Version) → used_at (with_used die slot (Held page version) m) d s ≡ Some (Held p v)
        → used_at m d s ≡ Some (Held p v)
    there d s apart p v h = sym (used-other m die slot (Held page version) d s apart) ∙ h

    last_here : (p : Page) (v : Version) → Held page version ≡ Held p v → get m.versions p.0 ≡ Some v
    last_here p v e =
        let pages : p ≡ page = cc in
        let versions : version ≡ v = cc in
        ap (λ (q : Page). get m.versions q.0) pages ∙ may.last ∙ ap Some versions

    twice : (d : ℕ) (p : Page) (v : Version) → Held page version ≡ Held p v → d ≡ die → (other : ℕ) → used_at m d other ≡ Some (Held p v) → ⊥
    twice d p v e is other h =
        let pages : p ≡ page = cc in
        let was : used_at m die other ≡ Some (Held p v) = sym (ap (λ k. used_at m k other) is) ∙ h in
        let inside = (whole.used die other (ap is_some was)).1 in
        let passes = ap (holds page.0) was ∙ eq-eqb p.0 page.0 (ap (λ (q : Page). q.0) pages) in
        let found = found_some (λ s. holds page.0 (used_at m die s)) 0 (m.geometry.blocks * m.geometry.slots) other (omega arith) (omega arith) passes in
        false≢true (sym may.once ∙ ap is_some (copy_found m whole page.0 die) ∙ found)

pub whole-in : (m : MapState) (die : ℕ) → IsPageMap m → die < m.geometry.dies → IsPageMap (brought_in die m)
whole-in m die whole fits = record {
  live = λ d h. elim (cases_eq d die) [
    | inl is ↦ subst (λ k. k < m.geometry.dies) (sym is) fits
    | inr apart ↦ whole.live d (sym (ap is_some (get-insert_other m.live die tt d apart)) ∙ h)
  ];
  written = whole.written;
  used = λ d s h. let was = whole.used d s h in (still d was.0, was.1);
  last = whole.last;
  once = whole.once;
}
  where
    still : (d : ℕ) → is_live m d ≡ true → is_live (brought_in die m) d ≡ true
    still d on =
        elim (cases_eq d die) [
          | inl is ↦ ap (λ k. is_some (get (insert m.live die tt) k)) is ∙ ap is_some (get-insert_same m.live die tt)
          | inr apart ↦ ap is_some (get-insert_other m.live die tt d apart) ∙ on
        ]

pub whole-dropped : (m : MapState) (die : ℕ) → IsPageMap m → IsPageMap (dropped die m)
whole-dropped m die whole = record {
  live = λ d h. elim (cases_eq d die) [
    | inl is ↦ absurd (false≢true (sym (ap is_some (ap (get (dropped die m).live) is ∙ get-remove_same m.live die)) ∙ h))
    | inr apart ↦ whole.live d (sym (ap is_some (get-remove_other m.live die d apart)) ∙ h)
  ];
  written = whole.written;
  used = λ d s h.
      let found = has_some _ h in
      let was = there d s found.0 found.1 in
      let old = whole.used d s (ap is_some was.0) in
      (ap is_some (get-remove_other m.live die d was.1) ∙ old.0, old.1);
  last = λ d s p v h. whole.last d s p v (there d s (Held p v) h).0;
  once = λ d s other p v h k. whole.once d s other p v (there d s (Held p v) h).0 (there d other (Held p v) k).0;
}
  where
    there : (d s : ℕ) (u : Used) → used_at (dropped die m) d s ≡ Some u → (used_at m d s ≡ Some u) × (d ≡ die → ⊥)
    there d s u h =
        let was = passed_some _ (used_at m d s) u (sym (used-dropped m die d s) ∙ h) in
        (was.0, λ is. false≢true (sym (ap not (eq-eqb d die is)) ∙ was.1))

pub whole-erased : (m : MapState) (die block : ℕ) → IsPageMap m → IsPageMap (without_block die block m)
whole-erased m die block whole = record {
  live = whole.live;
  written = whole.written;
  used = λ d s h. let found = has_some _ h in whole.used d s (ap is_some (there d s found.0 found.1));
  last = λ d s p v h. whole.last d s p v (there d s (Held p v) h);
  once = λ d s other p v h k. whole.once d s other p v (there d s (Held p v) h) (there d other (Held p v) k);
}
  where
    there : (d s : ℕ) (u : Used) → used_at (without_block die block m) d s ≡ Some u → used_at m d s ≡ Some u
    there d s u h = (passed_some _ (used_at m d s) u (sym (used-erased m die block d s) ∙ h)).0
