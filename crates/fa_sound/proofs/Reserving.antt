-- Reserve, ReserveCopy and the Take of a move: slots that were erased are reserved.
use Rattle.fa_machine.proofs.Lists.{among-filter, among-map, among-map-intro, among-take, among_low, found_passes, none_found, tally-filter-le, tally-map-le, tally-take-le}
use Rattle.fa_machine.proofs.Maps.{place_cmp_total, place_itself, place_same}
use Rattle.fa_machine.proofs.Orders.{order_once}
use Rattle.fa_machine.proofs.Values.{get-insert_all, get-insert_all_among}
use Rattle.fa_machine.specs.Among.{Among, tally}
use Rattle.fa_machine.specs.Maps.{insert_all}
use Rattle.fa_machine.specs.Placement.{copies_asked, free, has_room, is_erased_slot, lowest_erased, order_of, targets}
use Rattle.fa_machine.specs.State.{Core, MapState, OpenClaim, is_live, slots_of, used_at}
use Rattle.fa_machine.specs.Writing.{claimed_page, target_on}
use Rattle.fa_machine.specs.declared.places.Target.{Target}
use Rattle.fa_machine.specs.declared.places.Used.{Used}
use Rattle.fa_machine.specs.declared.places.Used.TheVariants.{Held, Reserved}
use Rattle.fa_machine.specs.declared.places.Version.{Version}
use Rattle.fa_sound.proofs.Changing.{Changes, changed_apart, changed_jobs, changed_targets, reserved≢held}
use Rattle.fa_sound.proofs.Owning.{claim_in, claim_same, claimed_of, claims_same, own_insert}
use Rattle.fa_sound.specs.Owners.{Owned, TargetAt, owned_of}
use Rattle.fa_sound.specs.Sound.{AwayFit, ClaimsFit, IsSoundView, NewFit, OldFit, View, is_settled, view_of}
use Rattle.fa_types.specs.declared.kind.Kind.{Kind}
use Rattle.fa_types.specs.declared.numbers.Page.{Page}
use Rattle.std.proofs.Common.{List, None, Option, Some, ap, arith, false, inl, inr, map, refl, subst, sym, true, ℕ, ◌*◌, ◌+◌, ◌-◌, ◌<◌, ◌∙◌, ◌≡◌, ◌≤◌, ◌⊎◌}
use Rattle.std.proofs.lemmas.Bool.{and_parts, cases_eq, false≢true, ltb-true}
use Rattle.std.proofs.lemmas.Option.{none-some, same_Some}
use Rattle.std.specs.FinMap.{get, insert}
use Rattle.std.specs.Prelude.{filter, is_none, is_some, unwrap_or, ◌==◌}

-- a slot that is reserved then, and was erased
pub record IsTaken (v : View) (used : ℕ → ℕ → Option Used) (die slot : ℕ) : Type 0 where
  pub erased : v.used die slot ≡ None
  pub kept : used die slot ≡ Some Reserved
  pub on_live : v.live die ≡ true
  pub inside : slot < v.total

module _ (v : View) (h : IsSoundView v) (used : ℕ → ℕ → Option Used) (own : Option ℕ → Option Owned) (o : Option ℕ) (x : Owned)
    (placed : (die slot : ℕ) → (used die slot ≡ v.used die slot) ⊎ IsTaken v used die slot)
    (owner : (q : Option ℕ) (y : Owned) → own q ≡ Some y → (v.own q ≡ Some y) ⊎ ((q ≡ o) × (x ≡ y)))
    (fresh : (t : Target) → Among t x.targets → IsTaken v used t.die.0 t.slot.0 × (t.programmed ≡ false)) where
  still : (die slot : ℕ) (u : Used) → v.used die slot ≡ Some u → used die slot ≡ Some u
  still die slot u e =
      elim (placed die slot) [
        | inl same ↦ same ∙ e
        | inr new ↦ absurd (none-some u (sym new.erased ∙ e))
      ]

  pub was_held : (die slot : ℕ) (page : Page) (version : Version) → used die slot ≡ Some (Held page version) → v.used die slot ≡ Some (Held page version)
  was_held die slot page version e =
      elim (placed die slot) [
        | inl same ↦ sym same ∙ e
        | inr new ↦ absurd (reserved≢held (used die slot) page version new.kept e)
      ]

  settled_if : (die slot : ℕ) (o : Option Used) → v.used die slot ≡ o → is_settled o ≡ true → is_settled (used die slot) ≡ true
  settled_if die slot None e s = absurd (false≢true s)
  settled_if die slot (Some u) e s = ap is_settled (still die slot u e) ∙ s

  abbrev back : (die slot : ℕ) (b : TargetAt own die slot) → v.own b.owner ≡ Some b.owned → TargetAt v.own die slot
  back die slot b e = record { owner = b.owner; owned = b.owned; target = b.target; owns = e; among = b.among; on_die = b.on_die; at_slot = b.at_slot }

  new_at : (die slot : ℕ) (b : TargetAt own die slot) → x ≡ b.owned → IsTaken v used die slot × (b.target.programmed ≡ false)
  new_at die slot b e =
      let f = fresh b.target (subst (λ (y : Owned). Among b.target y.targets) (sym e) b.among) in
      (subst (λ (q : ℕ × ℕ). IsTaken v used q.0 q.1) {x = (b.target.die.0, b.target.slot.0)} {y = (die, slot)} (λ i. (b.on_die i, b.at_slot i)) f.0, f.1)

  pub reserve_changes : Changes v v.live v.spare used own v.job o
  reserve_changes = record {
    fewer_jobs = λ die flight e. e;
    busy = λ die flight e on. on;
    at_jobs = λ die flight e. record {
      kept = λ slot r alone. still die slot Reserved r;
      settled = λ slot s. settled_if die slot (v.used die slot) refl s;
      held = λ slot page version r. inl (was_held die slot page version r);
      target = λ slot b. elim (owner b.owner b.owned b.owns) [
        | inl was ↦ inl (back die slot b was, refl)
        | inr new ↦ let n = new_at die slot b new.1 in inr (n.0.erased, n.1)
      ];
    };
    spares = λ die e. e;
    target = λ die slot b. elim (owner b.owner b.owned b.owns) [
      | inl was ↦ inl (record { before = back die slot b was; same = refl; alive = λ on. on; kept = λ on e. still die slot Reserved e })
      | inr new ↦ let n = new_at die slot b new.1 in inr (record { same = new.0; on_live = n.0.on_live; erased = n.0.erased; kept = n.0.kept })
    ];
  }

  module _ (last : ℕ) (claim : ℕ → Option ℕ) (rises : v.last ≤ last) (new : NewFit last v.number claim own) (old : OldFit v.number own)
      (away : AwayFit used own) (claims : ClaimsFit v.pages claim)
      (spread : (die : ℕ) → tally (λ (t : Target). t.die.0 == die) x.targets ≤ 1) where
    pub reserve_sound : IsSoundView (record v { used = used; own = own; last = last; claim = claim })
    reserve_sound = record {
      copies = h.copies;
      numbers = λ page version e. let n = h.numbers page version e in record {
        inside = n.inside;
        given = n.given;
        below = let b = n.below in omega (arith, b, rises);
      };
      slots = λ die slot u e. elim (placed die slot) [
        | inl same ↦ h.slots die slot u (sym same ∙ e)
        | inr new ↦ record { on_live = new.on_live; inside = new.inside }
      ];
      held = λ die slot page version e. h.held die slot page version (was_held die slot page version e);
      once = λ die slot other page version second e f. h.once die slot other page version second (was_held die slot page version e) (was_held die other page second f);
      targets = changed_targets v h v.live v.spare used own v.job o reserve_changes;
      apart = changed_apart v h v.live v.spare used own v.job o reserve_changes;
      spread = λ q y e die. elim (owner q y e) [
        | inl was ↦ h.spread q y was die
        | inr new ↦ subst (λ (z : Owned). tally (λ (t : Target). t.die.0 == die) z.targets ≤ 1) new.1 (spread die)
      ];
      new = new;
      old = old;
      away = away;
      jobs = changed_jobs v h v.live v.spare used own v.job o reserve_changes;
      dies = h.dies;
      claims = claims;
    }

-- the slot that a die with room has for a copy is erased, and one of its slots
module _ (core : Core) (die : ℕ) (room : has_room core.page_map die ≡ true) where
  abbrev m : MapState
  m = core.page_map

  is_none_of : (o : Option Used) → is_none o ≡ true → o ≡ None
  is_none_of None e = refl
  is_none_of (Some u) e = absurd (false≢true e)

  room_at : (slot : Option ℕ) → lowest_erased m die ≡ slot
      → (used_at m die (unwrap_or slot 0) ≡ None) × (unwrap_or slot 0 < m.geometry.blocks * m.geometry.slots)
  room_at (Some slot) e =
      let found = found_passes (is_erased_slot m die) (slots_of m) slot e in
      let low = among_low 0 (m.geometry.blocks * m.geometry.slots) slot found.1 in
      (is_none_of _ found.0, omega (arith, low))
  room_at None e =
      let none = none_found (is_erased_slot m die) (slots_of m) e in
      let some = ltb-true 0 (free m die - m.geometry.slots) (and_parts (is_live m die) _ room).1 in
      absurd (omega (arith, none, some))

  pub room_slot : (used_at m die (target_on m die).slot.0 ≡ None) × ((target_on m die).slot.0 < m.geometry.blocks * m.geometry.slots)
  room_slot = room_at (lowest_erased m die) refl

  pub room_live : is_live m die ≡ true
  room_live = (and_parts (is_live m die) _ room).0

which_copies : (copies : ℕ) → 2 ≤ copies → copies ≤ 3 → (copies ≡ 2) ⊎ (copies ≡ 3)
which_copies copies low high =
    elim (cases_eq copies 2) [
      | inl two ↦ inl two
      | inr apart ↦ elim (cases_eq copies 3) [
        | inl three ↦ inr three
        | inr more ↦ absurd (omega arith)
      ]
    ]

-- slots of dies with room are reserved
module _ (core : Core) (h : IsSoundView (view_of core)) (ts : List Target)
    (roomy : (t : Target) → Among t ts → (die : ℕ) × (target_on core.page_map die ≡ t) × (has_room core.page_map die ≡ true)) where
  abbrev w : View
  w = view_of core

  abbrev pub reserved_used : ℕ → ℕ → Option Used
  reserved_used die slot = get (insert_all (map (λ (t : Target). (t.die.0, t.slot.0)) ts) Reserved core.page_map.used) (die, slot)

  pub new_taken : (t : Target) → Among t ts → IsTaken w reserved_used t.die.0 t.slot.0 × (t.programmed ≡ false)
  new_taken t among =
      let from = roomy t among in
      let slot = room_slot core from.0 from.2 in
      let kept = get-insert_all_among place_cmp_total place_same (map (λ (t : Target). (t.die.0, t.slot.0)) ts) Reserved core.page_map.used (t.die.0, t.slot.0)
      (place_itself (t.die.0, t.slot.0)) (among-map-intro (λ (t : Target). (t.die.0, t.slot.0)) t ts among) in (
        record {
          erased = subst (λ (u : Target). used_at core.page_map u.die.0 u.slot.0 ≡ None) from.1 slot.0;
          kept = kept;
          on_live = subst (λ (u : Target). is_live core.page_map u.die.0 ≡ true) from.1 (room_live core from.0 from.2);
          inside = subst (λ (u : Target). u.slot.0 < w.total) from.1 slot.1;
        },
        ap (λ (u : Target). u.programmed) (sym from.1),
      )

  pub taken_placed : (die slot : ℕ) → (reserved_used die slot ≡ w.used die slot) ⊎ IsTaken w reserved_used die slot
  taken_placed die slot =
      elim (get-insert_all place_cmp_total place_same (map (λ (t : Target). (t.die.0, t.slot.0)) ts) Reserved core.page_map.used (die, slot)) [
        | inl same ↦ inl same
        | inr found ↦
            let t = among-map (λ (t : Target). (t.die.0, t.slot.0)) (die, slot) ts found.0 in
            inr (subst (λ (q : ℕ × ℕ). IsTaken w reserved_used q.0 q.1) {x = (t.0.die.0, t.0.slot.0)} {y = (die, slot)} t.2 (new_taken t.0 t.1).0)
      ]

module _ (core : Core) (h : IsSoundView (view_of core)) (claim : ℕ) (kind : Kind) (is_open : is_some (get core.claims claim) ≡ true) where
  abbrev page : ℕ
  page = claimed_page core claim

  abbrev version : Version
  version = record { seq = record { 0 = core.last + 1 }; kind = kind }

  abbrev places : List Target
  places = map (target_on core.page_map) (targets core.copies core.page_map page)

  abbrev x : Owned
  x = record { page = page; version = version; targets = places }

  abbrev made : OpenClaim
  made = record { page = page; reserved = Some (record { version = version; targets = places }) }

  pub roomy : (t : Target) → Among t places → (die : ℕ) × (target_on core.page_map die ≡ t) × (has_room core.page_map die ≡ true)
  roomy t among =
      let found = among-map (target_on core.page_map) t (targets core.copies core.page_map page) among in
      let in_order = among-take (copies_asked core.copies core.page_map) found.0 (filter (has_room core.page_map) (order_of core.copies core.page_map page)) found.1 in
      (found.0, found.2, (among-filter (has_room core.page_map) found.0 (order_of core.copies core.page_map page) in_order).1)

  abbrev own : Option ℕ → Option Owned
  own = owned_of core.copying (insert core.claims claim made)

  abbrev vv : View
  vv = view_of core

  abbrev used : ℕ → ℕ → Option Used
  used = reserved_used core h places roomy

  owner : (q : Option ℕ) (y : Owned) → own q ≡ Some y → (vv.own q ≡ Some y) ⊎ ((q ≡ Some claim) × (x ≡ y))
  owner q y e =
      elim (own_insert core.copying core.claims claim made q y e) [
        | inl is ↦ inr (is.0, same_Some x y is.1)
        | inr was ↦ inl was.0
      ]

  spread : (die : ℕ) → tally (λ (t : Target). t.die.0 == die) places ≤ 1
  spread die =
      let b = tally-map-le (λ (t : Target). t.die.0 == die) (λ (d : ℕ). d == die) (target_on core.page_map) (λ d here. here) (targets core.copies core.page_map page) in
      let c = tally-take-le (λ (d : ℕ). d == die) (copies_asked core.copies core.page_map) (filter (has_room core.page_map) (order_of core.copies core.page_map page)) in
      let d = tally-filter-le (λ (d : ℕ). d == die) (has_room core.page_map) (order_of core.copies core.page_map page) in
      let e = order_once core.copies core.page_map (which_copies core.copies h.copies.least h.copies.most) h.copies.enough page die in
      omega (arith, b, c, d, e)

  pub claim_reserves : IsSoundView (record vv { used = used; own = own; last = core.last + 1; claim = claim_in (insert core.claims claim made) })
  claim_reserves = reserve_sound vv h used own (Some claim) x (taken_placed core h places roomy) owner (new_taken core h places roomy)
      (core.last + 1) (claim_in (insert core.claims claim made)) (omega arith)
      (λ id y e. elim (owner (Some id) y e) [
        | inl was ↦ let n = h.new id y was in record {
          claimed = claimed_of core.copying (insert core.claims claim made) id y e;
          given = n.given;
          below = let b = n.below in omega (arith, b);
          newer = n.newer;
        }
        | inr new ↦ record {
          claimed = claimed_of core.copying (insert core.claims claim made) id y e;
          given = subst (λ (z : Owned). 1 ≤ z.version.seq.0) new.1 (omega arith);
          below = subst (λ (z : Owned). z.version.seq.0 ≤ core.last + 1) new.1 (omega arith);
          newer = subst (λ (z : Owned). (u : Version) → vv.number z.page ≡ Some u → u.seq.0 < z.version.seq.0) new.1
              (λ u f. let b = (h.numbers page u f).below in omega (arith, b));
        }
      ])
      (λ y e. h.old y e)
      (λ y e t among slot p u f same seq. h.away y e t among slot p u
      (was_held vv h used own (Some claim) x (taken_placed core h places roomy) owner (new_taken core h places roomy) t.die.0 slot p u f) same seq)
      (claims_same vv.pages vv.claim _ (λ j. claim_same core.claims claim (Some (record { version = version; targets = places })) is_open j) h.claims)
      spread
