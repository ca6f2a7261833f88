-- A beginning is sound; a spare that comes in, and one more copy, keep the state sound.
use Rattle.fa_machine.proofs.Lists.{among-range, none_passes}
use Rattle.fa_machine.proofs.Maps.{get-insert_cases, get-insert_other, get-insert_same, get-remove_some, has_some}
use Rattle.fa_machine.specs.Among.{Among}
use Rattle.fa_machine.specs.Beginning.{IsBeginning, IsPlainOf, StandsAt}
use Rattle.fa_machine.specs.Copies.{copy_on, holds_last, is_current}
use Rattle.fa_machine.specs.Placement.{has_room}
use Rattle.fa_machine.specs.State.{Core, OpenClaim, is_live, slots_of}
use Rattle.fa_machine.specs.World.{World}
use Rattle.fa_machine.specs.Writing.{target_on}
use Rattle.fa_machine.specs.declared.places.Copying.{Copying}
use Rattle.fa_machine.specs.declared.places.Target.{Target}
use Rattle.fa_machine.specs.declared.places.Used.TheVariants.{Held}
use Rattle.fa_machine.specs.declared.places.Version.{Version}
use Rattle.fa_sound.proofs.Changing.{Changes, changed_apart, changed_jobs, changed_targets, same_slots}
use Rattle.fa_sound.proofs.Reserving.{new_taken, reserve_sound, reserved_used, taken_placed, was_held}
use Rattle.fa_sound.specs.Owners.{Owned, TargetAt, owned_claim, owned_of}
use Rattle.fa_sound.specs.Sound.{IsOld, IsSoundView, View, view_of}
use Rattle.fa_types.specs.declared.numbers.Page.{Page}
use Rattle.std.proofs.Common.{Bool, None, Option, Some, [], ap, arith, eq-eqb, false, inl, inr, refl, subst, sym, true, ℕ, ◌+◌, ◌<◌, ◌∙◌, ◌∷◌, ◌≡◌, ◌≤◌, ◌⊎◌}
use Rattle.std.proofs.lemmas.Bool.{and_from, cases_eq, false≢true, or_left}
use Rattle.std.proofs.lemmas.Option.{none-some, same_Some}
use Rattle.std.specs.FinMap.{FinMap, contains_key, empty, get, get-empty, insert, remove}
use Rattle.std.specs.Ordering.{nat_cmp}
use Rattle.std.specs.Prelude.{if◌then◌else◌, is_some, option_and_then, option_map, ◌==◌}

opened_empty : (copying : Option Copying) (claims : FinMap nat_cmp OpenClaim) → copying ≡ None → claims ≡ empty → (q : Option ℕ)
    → owned_of copying claims q ≡ None
opened_empty copying claims a b None = ap (option_map {T = Copying} (λ c. record { page = c.page.0; version = c.version; targets = c.target ∷ [] })) a
opened_empty copying claims a b (Some id) = ap (option_and_then owned_claim) (ap (λ (m : FinMap nat_cmp OpenClaim). get m id) b ∙ get-empty nat_cmp id)

low_copies : (copies : ℕ) → (copies ≡ 2) ⊎ (copies ≡ 3) → (2 ≤ copies) × (copies ≤ 3)
low_copies copies (inl e) = (omega (arith, e), omega (arith, e))
low_copies copies (inr e) = (omega (arith, e), omega (arith, e))

module _ (w : World) (b : IsBeginning w) where
  abbrev v : View
  v = view_of w.core

  none_owned : (q : Option ℕ) (x : Owned) → v.own q ≡ Some x → ⊥
  none_owned q x e =
      none-some x (sym (opened_empty w.core.copying w.core.claims (ap (λ (c : Core). c.copying) b.fresh) (ap (λ (c : Core). c.claims) b.fresh) q) ∙ e)

  none_claimed : (id p : ℕ) → v.claim id ≡ Some p → ⊥
  none_claimed id p e = none-some p (sym (ap (option_map {T = OpenClaim} (λ c. c.page))
      (ap (λ (c : Core). get c.claims id) b.fresh ∙ get-empty nat_cmp id)) ∙ e)

  held_at : (die slot : ℕ) (page : Page) (version : Version) → v.used die slot ≡ Some (Held page version) → v.number page.0 ≡ Some version
  held_at die slot page version e =
      let there = b.used die slot (ap is_some e) in
      (subst (StandsAt w die slot) e (b.stands die slot (or_left (is_live w.core.page_map die) (contains_key w.core.spares die) there.0) there.1)).0

  current_at : (die slot : ℕ) (page : Page) (version : Version) → v.used die slot ≡ Some (Held page version) → is_current w.core.page_map page.0 die slot ≡ true
  current_at die slot page version e =
      and_from (is_live w.core.page_map die) _ (b.used die slot (ap is_some e)).0
      ((λ i. holds_last page.0 (held_at die slot page version e i) (e i)) ∙ and_from (page.0 == page.0) (version.seq.0 == version.seq.0) (eq-eqb page.0 page.0 refl) (eq-eqb version.seq.0 version.seq.0 refl))

  numbered : (page : ℕ) (o : Option Version) (u : Version) → o ≡ Some u → IsPlainOf w page o → (1 ≤ u.seq.0) × (u.seq.0 ≤ w.core.last)
  numbered page None u e plain = absurd (none-some u e)
  numbered page (Some n) u e plain = subst (λ (z : Version). (1 ≤ z.seq.0) × (z.seq.0 ≤ w.core.last)) (same_Some n u e) (plain.2, plain.3)

  pub beginning_sound : IsSoundView (view_of w.core)
  beginning_sound = record {
    copies = record { least = (low_copies w.core.copies b.copies).0; most = (low_copies w.core.copies b.copies).1; enough = b.enough };
    numbers = λ page u e. let inside = b.written page (ap is_some e) in let n = numbered page (v.number page) u e (b.plain page inside) in
        record { inside = inside; given = n.0; below = n.1 };
    slots = λ die slot u e. let there = b.used die slot (ap is_some e) in record { on_live = there.0; inside = there.1 };
    held = held_at;
    once = λ die slot other page u y e f. b.once page.0 die slot other (current_at die slot page u e) (current_at die other page y f);
    targets = λ die slot a. absurd (none_owned a.owner a.owned a.owns);
    apart = λ die slot a c on. absurd (none_owned a.owner a.owned a.owns);
    spread = λ q x e. absurd (none_owned q x e);
    new = λ id x e. absurd (none_owned (Some id) x e);
    old = λ x e. absurd (none_owned None x e);
    away = λ x e. absurd (none_owned None x e);
    jobs = λ die flight e. absurd (none-some flight (sym (ap (λ (c : Core). get c.jobs die) b.fresh ∙ get-empty nat_cmp die) ∙ e));
    dies = record { live_inside = b.live; spare_inside = λ die e. (b.spares die e).0; apart = λ die e. (b.spares die e).1 };
    claims = record { inside = λ id p e. absurd (none_claimed id p e); once = λ id other p e f. absurd (none_claimed id p e) };
  }

-- a spare comes in
module _ (core : Core) (h : IsSoundView (view_of core)) (die : ℕ) (spare : contains_key core.spares die ≡ true) where
  abbrev s : View
  s = view_of core

  abbrev live : ℕ → Bool
  live d = contains_key (insert core.page_map.live die tt) d

  abbrev left : ℕ → Bool
  left d = contains_key (remove core.spares die) d

  live_cases : (d : ℕ) → live d ≡ true → (d ≡ die) ⊎ (s.live d ≡ true)
  live_cases d e =
      let some = has_some (get (insert core.page_map.live die tt) d) e in
      elim (get-insert_cases core.page_map.live die tt d some.0 some.1) [
        | inl new ↦ inl new.0
        | inr was ↦ inr (ap is_some was.0)
      ]

  live_still : (d : ℕ) → s.live d ≡ true → live d ≡ true
  live_still d e =
      elim (cases_eq d die) [
        | inl same ↦ ap is_some (ap (get (insert core.page_map.live die tt)) same ∙ get-insert_same core.page_map.live die tt)
        | inr apart ↦ ap is_some (get-insert_other core.page_map.live die tt d apart) ∙ e
      ]

  left_was : (d : ℕ) → left d ≡ true → (s.spare d ≡ true) × (d ≡ die → ⊥)
  left_was d e =
      let some = has_some (get (remove core.spares die) d) e in
      let was = get-remove_some core.spares die d some.0 some.1 in (ap is_some was.0, was.1)

  not_spare : (d slot : ℕ) → TargetAt s.own d slot → d ≡ die → ⊥
  not_spare d slot a same = false≢true (sym (h.targets d slot a).fresh ∙ ap s.spare same ∙ spare)

  alive : (d slot : ℕ) → TargetAt s.own d slot → live d ≡ true → s.live d ≡ true
  alive d slot a e = elim (live_cases d e) [
    | inl same ↦ absurd (not_spare d slot a same)
    | inr was ↦ was
  ]

  false_if : (b : Bool) → (b ≡ true → ⊥) → b ≡ false
  false_if true never = absurd (never refl)
  false_if false never = refl

  changes : Changes s live left s.used s.own s.job None
  changes = record {
    fewer_jobs = λ d flight e. e;
    busy = λ d flight e on. live_still d on;
    at_jobs = λ d flight e. same_slots (s.used d) (s.used d) s.own s.own d (λ slot. refl) (λ slot b. (b, refl));
    spares = λ d e. false_if (left d) (λ t. false≢true (sym e ∙ (left_was d t).0));
    target = λ d slot b. inl (record { before = b; same = refl; alive = alive d slot b; kept = λ on e. e });
  }

  pub spare_sound : IsSoundView (record s { live = live; spare = left })
  spare_sound = record {
    copies = h.copies;
    numbers = h.numbers;
    held = h.held;
    once = h.once;
    spread = h.spread;
    new = h.new;
    old = h.old;
    away = h.away;
    claims = h.claims;
    slots = λ d slot u e. let was = h.slots d slot u e in record { on_live = live_still d was.on_live; inside = was.inside };
    targets = changed_targets s h live left s.used s.own s.job None changes;
    apart = changed_apart s h live left s.used s.own s.job None changes;
    jobs = changed_jobs s h live left s.used s.own s.job None changes;
    dies = record {
      live_inside = λ d e. elim (live_cases d e) [
        | inl same ↦ subst (λ n. n < s.dies) (sym same) (h.dies.spare_inside die spare)
        | inr was ↦ h.dies.live_inside d was
      ];
      spare_inside = λ d e. h.dies.spare_inside d (left_was d e).0;
      apart = λ d e. false_if (live d) (λ t. elim (live_cases d t) [
        | inl same ↦ (left_was d e).1 same
        | inr was ↦ false≢true (sym (h.dies.apart d (left_was d e).0) ∙ was)
      ]);
    };
  }

-- one more copy is under way
module _ (core : Core) (h : IsSoundView (view_of core)) (page die : ℕ) (version : Version) (number : get core.page_map.versions page ≡ Some version)
    (room : has_room core.page_map die ≡ true) (away : copy_on core.page_map page die ≡ None) where
  abbrev c : View
  c = view_of core

  abbrev t : Target
  t = target_on core.page_map die

  abbrev x : Owned
  x = record { page = page; version = version; targets = t ∷ [] }

  pub roomy_of : (u : Target) → Among u (t ∷ []) → (d : ℕ) × (target_on core.page_map d ≡ u) × (has_room core.page_map d ≡ true)
  roomy_of u (inl e) = (die, e, room)
  roomy_of u (inr r) = absurd r

  abbrev pub roomy : (u : Target) → Among u (t ∷ []) → (d : ℕ) × (target_on core.page_map d ≡ u) × (has_room core.page_map d ≡ true)
  roomy u i = roomy_of u i

  abbrev own : Option ℕ → Option Owned
  own = owned_of (Some (record { page = record { 0 = page }; version = version; target = t })) core.claims

  owner : (q : Option ℕ) (y : Owned) → own q ≡ Some y → (c.own q ≡ Some y) ⊎ ((q ≡ None) × (x ≡ y))
  owner None y e = inr (refl, same_Some x y e)
  owner (Some j) y e = inl e

  only : (u : Target) → Among u (t ∷ []) → t ≡ u
  only u (inl e) = e
  only u (inr r) = absurd r

  one : (b : Bool) → (if b then 1 else 0) + 0 ≤ 1
  one true = omega arith
  one false = omega arith

  not_there : (slot : ℕ) (p : Page) (u : Version) → c.used die slot ≡ Some (Held p u) → p.0 ≡ page → ⊥
  not_there slot p u e same =
      let s = h.slots die slot (Held p u) e in
      false≢true (sym (none_passes (is_current core.page_map page die) (slots_of core.page_map) away slot (among-range 0 c.total slot (omega arith) (omega (arith, s.inside))))
      ∙ and_from (is_live core.page_map die) _ s.on_live
      (ap (λ o. holds_last page o (c.used die slot)) (ap c.number (sym same) ∙ h.held die slot p u e) ∙ ap (holds_last page (Some u)) e
      ∙ and_from (p.0 == page) (u.seq.0 == u.seq.0) (eq-eqb p.0 page same) (eq-eqb u.seq.0 u.seq.0 refl)))

  pub copy_reserves : IsSoundView (record c { used = reserved_used core h (t ∷ []) roomy; own = own })
  copy_reserves = reserve_sound c h (reserved_used core h (t ∷ []) roomy) own None x (taken_placed core h (t ∷ []) roomy) owner (new_taken core h (t ∷ []) roomy)
      c.last c.claim (omega arith) h.new
      (λ y e. subst (IsOld c.number) (same_Some x y e) (record {
        written = ap is_some number;
        older = λ u f. let is : version.seq.0 ≡ u.seq.0 = ap (λ (z : Version). z.seq.0) (same_Some version u (sym number ∙ f)) in omega arith;
        same = λ u f g. sym (same_Some version u (sym number ∙ f));
      }))
      (λ y e u i slot p z f same seq. let is = same_Some x y e in
      let at = only u (subst (λ (o : Owned). Among u o.targets) (sym is) i) in
      not_there slot p z (ap (λ (o : Target). c.used o.die.0 slot) at
      ∙ was_held c h (reserved_used core h (t ∷ []) roomy) own None x (taken_placed core h (t ∷ []) roomy) owner (new_taken core h (t ∷ []) roomy) u.die.0 slot p z f)
      (same ∙ sym (ap (λ (o : Owned). o.page) is)))
      h.claims (λ d. one (die == d))
