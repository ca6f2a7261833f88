-- Claim, Release, and the three forms of Reserve keep what holds.
use Rattle.fa_laws.proofs.Invariant.{AreInside, Holds, later, owned_claim, owned_of, scene_of}
use Rattle.fa_laws.proofs.Keeping.{Records, disowned_is_sound, recorded_is_sound}
use Rattle.fa_machine.proofs.Lists.{among-filter, among-map, among-map-intro, among-take, found_passes, none_found, tally-filter-le, tally-map-le}
use Rattle.fa_machine.proofs.Lists.{tally-take-le}
use Rattle.fa_machine.proofs.Maps.{get-insert_cases, get-insert_other, get-insert_same}
use Rattle.fa_machine.proofs.Values.{get-insert_all, get-insert_all_among}
use Rattle.fa_machine.proofs.Maps.{get-remove_other, get-remove_same, get-remove_some, place_cmp_total, place_itself, place_same}
use Rattle.fa_laws.proofs.Reserving.{Reserves, reserved_is_sound}
use Rattle.fa_laws.proofs.Scene.{Owned, Scene, program_is_at}
use Rattle.fa_machine.specs.Among.{Among, tally}
use Rattle.fa_machine.specs.Conditions.{claim_open}
use Rattle.fa_machine.specs.Maps.{insert_all}
use Rattle.fa_machine.specs.Placement.{copies_asked, free, has_room, is_erased_slot, lowest_erased, order_of, room, targets}
use Rattle.fa_machine.specs.Reading.{zeros}
use Rattle.fa_machine.specs.State.{Core, MapState, OpenClaim, WaitingProgram, is_live, slots_of, used_at}
use Rattle.fa_machine.specs.Step.{is_page}
use Rattle.fa_machine.specs.World.{World, with_payload, with_value_at}
use Rattle.fa_machine.specs.Writing.{claimed_page, program_at, reserved, target_on}
use Rattle.fa_machine.specs.declared.places.Copying.{Copying}
use Rattle.fa_types.specs.declared.kind.Kind.{Kind}
use Rattle.fa_types.specs.declared.kind.Kind.TheVariants.{Hole}
use Rattle.fa_machine.specs.declared.places.Target.{Target}
use Rattle.fa_machine.specs.declared.places.Used.{Used}
use Rattle.fa_machine.specs.declared.places.Used.TheVariants.{Reserved}
use Rattle.fa_machine.specs.declared.places.Version.{Version}
use Rattle.std.proofs.Common.{List, None, Option, Some, ap, arith, eq-eqb, eqb-true, false, inl, inr, map, refl, subst, suc, sym, true}
use Rattle.std.proofs.Common.{ℕ, ◌+◌, ◌-◌, ◌<◌, ◌∙◌, ◌≡◌, ◌≤◌, ◌⊎◌}
use Rattle.std.proofs.lemmas.Bool.{and_from, and_parts, cases_eq, false_from_ne_true, false≢true, ltb-true}
use Rattle.std.proofs.lemmas.Option.{none-some, same_Some}
use Rattle.std.specs.FinMap.{FinMap, get, insert, remove}
use Rattle.std.specs.Ordering.{nat_cmp}
use Rattle.std.specs.Prelude.{filter, if◌then◌else◌, is_none, is_some, option_and_then, option_map, unwrap_or, ◌&&◌, ◌==◌}

-- what is reserved once a claim was inserted
pub own_insert : (copying : Option Copying) (claims : FinMap nat_cmp OpenClaim) (id : ℕ) (c : OpenClaim) (q : Option ℕ) (x : Owned)
    → owned_of copying (insert claims id c) q ≡ Some x
    → ((q ≡ Some id) × (owned_claim c ≡ Some x)) ⊎ ((owned_of copying claims q ≡ Some x) × (q ≡ Some id → ⊥))
own_insert copying claims id c None x e = inr (e, λ same. none-some id same)
own_insert copying claims id c (Some j) x e =
    elim (cases_eq j id) [
      | inl same ↦
          inl (ap Some same, sym (ap (option_and_then owned_claim) (ap (get (insert claims id c)) same ∙ get-insert_same claims id c)) ∙ e)
      | inr apart ↦
          inr (sym (ap (option_and_then owned_claim) (get-insert_other claims id c j apart)) ∙ e, λ same. apart (same_Some j id same))
    ]

own_remove : (copying : Option Copying) (claims : FinMap nat_cmp OpenClaim) (id : ℕ) (q : Option ℕ) (x : Owned)
    → owned_of copying (remove claims id) q ≡ Some x → owned_of copying claims q ≡ Some x
own_remove copying claims id None x e = e
own_remove copying claims id (Some j) x e =
    elim (cases_eq j id) [
      | inl same ↦ absurd (none-some x (sym (ap (option_and_then owned_claim) (ap (get (remove claims id)) same ∙ get-remove_same claims id)) ∙ e))
      | inr apart ↦ sym (ap (option_and_then owned_claim) (get-remove_other claims id j apart)) ∙ e
    ]

pub inside_insert : (pages : ℕ) (claims : FinMap nat_cmp OpenClaim) (id : ℕ) (c : OpenClaim) → AreInside pages claims → c.page < pages
    → AreInside pages (insert claims id c)
inside_insert pages claims id c inside within j d e =
    elim (get-insert_cases claims id c j d e) [
      | inl made ↦ subst (λ (k : OpenClaim). k.page < pages) made.1 within
      | inr was ↦ inside j d was.0
    ]

inside_remove : (pages : ℕ) (claims : FinMap nat_cmp OpenClaim) (id : ℕ) → AreInside pages claims → AreInside pages (remove claims id)
inside_remove pages claims id inside j d e = inside j d (get-remove_some claims id j d e).0

nothing_owned : (page : ℕ) (x : Owned) → owned_claim (record { page = page; reserved = None }) ≡ Some x → ⊥
nothing_owned page x e = none-some x e

pub claim_holds : (w : World) → Holds w → (page id : ℕ) → is_page w.core page ≡ true
    → Holds (record w {
      core = record (w.core) { claims = insert w.core.claims id (record { page = page; reserved = None }) };
      moment = suc w.moment;
    })
claim_holds w h page id within = record {
  sound = disowned_is_sound (scene_of w) h.sound (owned_of w.core.copying (insert w.core.claims id (record { page = page; reserved = None })))
      (λ q x e. elim (own_insert w.core.copying w.core.claims id (record { page = page; reserved = None }) q x e) [
        | inl made ↦ absurd (nothing_owned page x made.1)
        | inr was ↦ was.0
      ]);
  jobs = h.jobs;
  claims = inside_insert w.core.page_map.geometry.pages w.core.claims id (record { page = page; reserved = None }) h.claims (ltb-true _ _ within);
  told = h.told;
  ordered = h.ordered;
  plain = h.plain;
  unwritten = h.unwritten;
  answered = later w.core.batches w.admitted w.values w.works w.due w.moment h.answered;
}

pub release_holds : (w : World) → Holds w → (id : ℕ) → Holds (record w { core = record (w.core) { claims = remove w.core.claims id }; moment = suc w.moment })
release_holds w h id = record {
  sound = disowned_is_sound (scene_of w) h.sound (owned_of w.core.copying (remove w.core.claims id)) (own_remove w.core.copying w.core.claims id);
  jobs = h.jobs;
  claims = inside_remove w.core.page_map.geometry.pages w.core.claims id h.claims;
  told = h.told;
  ordered = h.ordered;
  plain = h.plain;
  unwritten = h.unwritten;
  answered = later w.core.batches w.admitted w.values w.works w.due w.moment h.answered;
}

-- the slot that a die with room has for a copy is erased
pub room_erased : (m : MapState) (die : ℕ) → has_room m die ≡ true → (is_live m die ≡ true) × (used_at m die (target_on m die).slot.0 ≡ None)
room_erased m die room = ((and_parts (is_live m die) _ room).0, erased (lowest_erased m die) refl)
  where
    is_none_of : (o : Option Used) → is_none o ≡ true → o ≡ None
    is_none_of None e = refl
    is_none_of (Some u) e = absurd (false≢true e)

    erased : (slot : Option ℕ) → lowest_erased m die ≡ slot → used_at m die (unwrap_or slot 0) ≡ None
    erased (Some slot) e = is_none_of _ (found_passes (is_erased_slot m die) (slots_of m) slot e).0
    erased None e =
        let none = none_found (is_erased_slot m die) (slots_of m) e in
        let some = ltb-true 0 (free m die - m.geometry.slots) (and_parts (is_live m die) _ room).1 in
        absurd (omega (arith, none, some))

-- the page of an open claim is one of the array's
pub claimed_inside : (w : World) → Holds w → (claim : ℕ) → claim_open w.core claim ≡ true → claimed_page w.core claim < w.core.page_map.geometry.pages
claimed_inside w h claim opened = inside (get w.core.claims claim) refl opened
  where
    inside : (c : Option OpenClaim) → get w.core.claims claim ≡ c → is_some c ≡ true
        → unwrap_or (option_map {T = OpenClaim} (λ c. c.page) c) 0 < w.core.page_map.geometry.pages
    inside None e some = absurd (false≢true some)
    inside (Some c) e some = h.claims claim c e

pub value_same : {X : Type 0} (n k : ℕ) (x : X) (f : ℕ → ℕ → X) → with_value_at n k x f n k ≡ x
value_same n k x f = ap (λ b. if b then x else f n k) (and_from (n == n) (k == k) (eq-eqb n n refl) (eq-eqb k k refl))

pub value_other : {X : Type 0} (n k : ℕ) (x : X) (f : ℕ → ℕ → X) (m j : ℕ) → (m ≡ n → j ≡ k → ⊥) → with_value_at n k x f m j ≡ f m j
value_other n k x f m j apart =
    ap (λ b. if b then x else f m j)
    (false_from_ne_true (m == n && j == k) (λ t. let parts = and_parts (m == n) (j == k) t in apart (eqb-true m n parts.0) (eqb-true j k parts.1)))

-- the targets of a write, as something reserved
abbrev reserved_owned : Core → ℕ → Kind → Owned
reserved_owned core claim kind = record {
  page = claimed_page core claim;
  version = record { seq = record { 0 = core.last + 1 }; kind = kind };
  targets = map (target_on core.page_map) (targets core.copies core.page_map (claimed_page core claim));
}

a_target : (core : Core) (page : ℕ) (t : Target) → Among t (map (target_on core.page_map) (targets core.copies core.page_map page))
    → (die : ℕ) × (target_on core.page_map die ≡ t) × (has_room core.page_map die ≡ true)
a_target core page t among =
    let found = among-map (target_on core.page_map) t (targets core.copies core.page_map page) among in
    let d = found.0 in
    let in_order = among-take (copies_asked core.copies core.page_map) d (filter (has_room core.page_map) (order_of core.copies core.page_map page)) found.1 in
    (d, found.2, (among-filter (has_room core.page_map) d (order_of core.copies core.page_map page) in_order).1)

module _ (w : World) (h : Holds w) (claim : ℕ) (kind : Kind) (payload : List ℕ) (opened : claim_open w.core claim ≡ true)
    (hole : kind ≡ Hole → payload ≡ zeros w.core.page_map) where
  abbrev page : ℕ
  page = claimed_page w.core claim

  abbrev version : Version
  version = record { seq = record { 0 = w.core.last + 1 }; kind = kind }

  abbrev slots : List Target
  slots = map (target_on w.core.page_map) (targets w.core.copies w.core.page_map page)

  abbrev x : Owned
  x = record { page = page; version = version; targets = slots }

  abbrev made : OpenClaim
  made = record { page = page; reserved = Some (record { version = version; targets = slots }) }

  abbrev payloads : ℕ → ℕ → List ℕ
  payloads = with_value_at page (w.core.last + 1) payload w.payloads

  abbrev used : ℕ → ℕ → Option Used
  used die slot = get (insert_all (map (λ t. (t.die.0, t.slot.0)) slots) Reserved w.core.page_map.used) (die, slot)

  inside : page < w.core.page_map.geometry.pages
  inside = claimed_inside w h claim opened

  records : Records (scene_of w) payloads (w.core.last + 1)
  records = record {
    same = λ p seq below. value_other page (w.core.last + 1) payload w.payloads p seq (λ e f. absurd (omega arith));
    rises = omega arith;
  }

  abbrev recorded : Scene
  recorded = record (scene_of w) { bytes = record ((scene_of w).bytes) { payloads = payloads; last = w.core.last + 1 } }

  given : payloads page (w.core.last + 1) ≡ payload
  given = value_same page (w.core.last + 1) payload w.payloads

  erased : (t : Target) → Among t slots → (is_live w.core.page_map t.die.0 ≡ true) × (used_at w.core.page_map t.die.0 t.slot.0 ≡ None)
  erased t among =
      let found = a_target w.core page t among in
      subst (λ (u : Target). (is_live w.core.page_map u.die.0 ≡ true) × (used_at w.core.page_map u.die.0 u.slot.0 ≡ None)) found.1
      (room_erased w.core.page_map found.0 found.2)

  programs : (p : WaitingProgram) → Among p (map (program_at page version payload) slots)
      → (t : Target) × Among t slots × (p.die ≡ t.die.0) × (p.slot ≡ t.slot.0) × (p.page ≡ page) × (p.version ≡ version) × (p.payload ≡ payload)
  programs p among =
      let found = among-map (program_at page version payload) p slots among in
      let e = found.2 in (
        found.0,
        found.1,
        sym (ap (λ (q : WaitingProgram). q.die) e),
        sym (ap (λ (q : WaitingProgram). q.slot) e),
        sym (ap (λ (q : WaitingProgram). q.page) e),
        sym (ap (λ (q : WaitingProgram). q.version) e),
        sym (ap (λ (q : WaitingProgram). q.payload) e),
      )

  distinct : (die slot : ℕ) → tally (program_is_at die slot) (map (program_at page version payload) slots) ≤ 1
  distinct die slot =
      let a = tally-map-le (program_is_at die slot) (λ (t : Target). t.die.0 == die) (program_at page version payload)
      (λ t here. (and_parts (t.die.0 == die) (t.slot.0 == slot) here).0) slots in
      let b = tally-map-le (λ (t : Target). t.die.0 == die) (λ (d : ℕ). d == die) (target_on w.core.page_map) (λ d here. here) (targets w.core.copies w.core.page_map page) in
      let c = tally-take-le (λ (d : ℕ). d == die) (copies_asked w.core.copies w.core.page_map) (filter (has_room w.core.page_map) (order_of w.core.copies w.core.page_map page)) in
      let d = tally-filter-le (λ (d : ℕ). d == die) (has_room w.core.page_map) (order_of w.core.copies w.core.page_map page) in
      let e = h.ordered page die in
      omega (arith, a, b, c, d, e)

  placed : (die slot : ℕ) → (used die slot ≡ used_at w.core.page_map die slot)
      ⊎ ((t : Target) × Among t slots × (t.die.0 ≡ die) × (t.slot.0 ≡ slot))
  placed die slot =
      elim (get-insert_all place_cmp_total place_same (map (λ (t : Target). (t.die.0, t.slot.0)) slots) Reserved w.core.page_map.used (die, slot)) [
        | inl same ↦ inl same
        | inr found ↦
            let t = among-map (λ (t : Target). (t.die.0, t.slot.0)) (die, slot) slots found.0 in
            inr (t.0, t.1, ap (λ (q : ℕ × ℕ). q.0) t.2, ap (λ (q : ℕ × ℕ). q.1) t.2)
      ]

  undone : (t : Target) → Among t slots → t.programmed ≡ false
  undone t among = let found = a_target w.core page t among in ap (λ (u : Target). u.programmed) (sym found.1)

  reserves : Reserves recorded (Some claim) x payload used (owned_of w.core.copying (insert w.core.claims claim made))
      (map (program_at page version payload) slots)
  reserves = record {
    right = record { inside = inside; hole = λ is. given ∙ hole is; below = omega arith };
    payload = sym given;
    live = λ t among. (erased t among).0;
    erased = λ t among. (erased t among).1;
    undone = undone;
    kept = λ t among. get-insert_all_among place_cmp_total place_same (map (λ (t : Target). (t.die.0, t.slot.0)) slots) Reserved
        w.core.page_map.used (t.die.0, t.slot.0) (place_itself (t.die.0, t.slot.0)) (among-map-intro (λ (t : Target). (t.die.0, t.slot.0)) t slots among);
    placed = placed;
    owner = λ q y e. elim (own_insert w.core.copying w.core.claims claim made q y e) [
      | inl is ↦ inr (is.0, same_Some x y is.1)
      | inr was ↦ inl was.0
    ];
    programs = programs;
    distinct = distinct;
  }

  pub reserve_holds : Holds (record (with_payload claim (w.core.last + 1) payload w) { core = reserved claim kind payload w.core; moment = suc w.moment })
  reserve_holds = record {
    sound = reserved_is_sound recorded (recorded_is_sound (scene_of w) h.sound payloads (w.core.last + 1) records) (Some claim) x payload
        used (owned_of w.core.copying (insert w.core.claims claim made)) (map (program_at page version payload) slots) reserves;
    jobs = h.jobs;
    claims = inside_insert w.core.page_map.geometry.pages w.core.claims claim made h.claims inside;
    told = λ t i. let was = h.told t i in
        (was.0 ∙ sym (records.same t.page t.seq was.1), let n = was.1 in omega (arith, n));
    ordered = h.ordered;
    plain = h.plain;
    unwritten = h.unwritten;
    answered = later w.core.batches w.admitted w.values w.works w.due w.moment h.answered;
  }
