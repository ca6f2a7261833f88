-- Commit, Abandon and CommitCopy keep the state sound.
use Rattle.fa_machine.proofs.Lists.{among-filter, among-filter-intro, among-map, any_none, no_refusal}
use Rattle.fa_machine.proofs.Maps.{get-change, get-insert_cases, get-insert_other, get-insert_same, has_some, place_cmp_total, place_same}
use Rattle.fa_machine.proofs.Values.{get-insert_all}
use Rattle.fa_machine.specs.Among.{Among, tally}
use Rattle.fa_machine.specs.Conditions.{reserved_under}
use Rattle.fa_machine.specs.Maps.{change, insert_all, place_cmp}
use Rattle.fa_machine.specs.State.{Core, OpenClaim, Reservation, is_live}
use Rattle.fa_machine.specs.Writing.{claimed_page, commit_refusal, live_targets, with_targets, without_page}
use Rattle.fa_machine.specs.declared.places.Copying.{Copying}
use Rattle.fa_machine.specs.declared.places.Target.{Target}
use Rattle.fa_machine.specs.declared.places.Used.{Used}
use Rattle.fa_machine.specs.declared.places.Used.TheVariants.{Held, Reserved, Stale}
use Rattle.fa_machine.specs.declared.places.Version.{Version}
use Rattle.fa_machine.specs.declared.refusals.CommitRefused.TheVariants.{Failed, Pending as CommitPending}
use Rattle.fa_sound.proofs.Changing.{Changes, changed_apart, changed_jobs, changed_targets, held≢none, held≢stale, reserved≢held}
use Rattle.fa_sound.proofs.Fewer.{Gets, Placed, Same, Staled, Stops, settled_changes, settled_slots}
use Rattle.fa_sound.proofs.Owning.{claim_in, claim_same, claimed_of, claims_same, own_insert, reserved_open, reserved_owned}
use Rattle.fa_sound.specs.Owners.{Owned, TargetAt, owned_of}
use Rattle.fa_sound.specs.Sound.{HeldFit, IsNumber, IsOld, IsSoundView, OnceFit, View, view_of}
use Rattle.fa_types.specs.declared.numbers.Page.{Page}
use Rattle.std.proofs.Common.{Bool, List, None, Option, Some, [], ap, arith, eq-eqb, false, inl, inr, map, not, refl, subst, sym, true, ℕ, ◌<◌, ◌∙◌, ◌∷◌, ◌≡◌, ◌≤◌, ◌⊎◌}
use Rattle.std.proofs.lemmas.Bool.{cases_eq, false≢true, not-false}
use Rattle.std.proofs.lemmas.Option.{none-some, same_Some}
use Rattle.std.specs.FinMap.{FinMap, get, insert}
use Rattle.std.specs.List.{list_any}
use Rattle.std.specs.Prelude.{if◌then◌else◌, is_some, option_map, ◌==◌}

some_counted : {X : Type 0} (p : X → Bool) (x : X) (xs : List X) → Among x xs → p x ≡ true → 1 ≤ tally p xs
some_counted p x [] i t = absurd i
some_counted p x (y ∷ ys) (inl same) t =
    let one : ◌≡◌ {A = ℕ} (if p y then 1 else 0) 1 = ap {B = ℕ} (λ b. if b then 1 else 0) (ap p same ∙ t) in omega (arith, one)
some_counted p x (y ∷ ys) (inr rest) t = let h = some_counted p x ys rest t in omega (arith, h)

-- two elements that pass are one where one at most passes
pub only_one : {X : Type 0} (p : X → Bool) (xs : List X) → tally p xs ≤ 1 → (x y : X) → Among x xs → Among y xs → p x ≡ true → p y ≡ true → x ≡ y
only_one p [] h x y i j s t = absurd i
only_one p (z ∷ zs) h x y (inl a) (inl b) s t = sym a ∙ b
only_one p (z ∷ zs) h x y (inl a) (inr b) s t =
    let one : ◌≡◌ {A = ℕ} (if p z then 1 else 0) 1 = ap {B = ℕ} (λ b. if b then 1 else 0) (ap p a ∙ s) in
    let more = some_counted p y zs b t in absurd (omega (arith, one, more, h))
only_one p (z ∷ zs) h x y (inr a) (inl b) s t =
    let one : ◌≡◌ {A = ℕ} (if p z then 1 else 0) 1 = ap {B = ℕ} (λ b. if b then 1 else 0) (ap p b ∙ t) in
    let more = some_counted p x zs a s in absurd (omega (arith, one, more, h))
only_one p (z ∷ zs) h x y (inr a) (inr b) s t = only_one p zs (omega (arith, h)) x y a b s t

-- a slot as it is once the copies of a page are stale
pub data Left (page : ℕ) (before after : Option Used) : Type 0 where
  Other : ((p : Page) (w : Version) → after ≡ Some (Held p w) → p.0 ≡ page → ⊥) → after ≡ before → Left page before after
  Gone : (p : Page) (w : Version) → before ≡ Some (Held p w) → after ≡ Some Stale → Left page before after

held_page : (p q : Page) (v w : Version) (o : Option Used) → o ≡ Some (Held p v) → o ≡ Some (Held q w) → p ≡ q
held_page p q v w o e f = cc

held_version : (p q : Page) (v w : Version) (o : Option Used) → o ≡ Some (Held p v) → o ≡ Some (Held q w) → v ≡ w
held_version p q v w o e f = cc

left_if : (page : ℕ) (p : Page) (w : Version) (b : Bool) → (p.0 == page) ≡ b → Left page (Some (Held p w)) (Some (if b then Stale else Held p w))
left_if page p w true e = Gone p w refl refl
left_if page p w false e = Other (λ q u f is. false≢true (sym e ∙ eq-eqb p.0 page (ap (λ (n : Page). n.0) (held_page p q w u (Some (Held p w)) refl f) ∙ is))) refl

pub left_of_page : (page : ℕ) (o : Option Used) → Left page o (option_map (without_page page) o)
left_of_page page None = Other (λ p w e is. held≢none None p w e refl) refl
left_of_page page (Some Reserved) = Other (λ p w e is. reserved≢held (Some Reserved) p w refl e) refl
left_of_page page (Some Stale) = Other (λ p w e is. held≢stale (Some Stale) p w e refl) refl
left_of_page page (Some (Held p w)) = left_if page p w (p.0 == page) refl

-- slots of the live ones of some targets
pub placed_all : (core : Core) (ts : List Target) (final : Used) (before : FinMap place_cmp Used) (die slot : ℕ)
    → (get (insert_all (map (λ (t : Target). (t.die.0, t.slot.0)) (live_targets core ts)) final before) (die, slot) ≡ get before (die, slot))
    ⊎ ((t : Target) × Among t ts × (t.die.0 ≡ die) × (t.slot.0 ≡ slot) × (is_live core.page_map die ≡ true)
    × (get (insert_all (map (λ (t : Target). (t.die.0, t.slot.0)) (live_targets core ts)) final before) (die, slot) ≡ Some final))
placed_all core ts final before die slot =
    elim (get-insert_all place_cmp_total place_same (map (λ (t : Target). (t.die.0, t.slot.0)) (live_targets core ts)) final before (die, slot)) [
      | inl same ↦ inl same
      | inr found ↦
          let t = among-map (λ (t : Target). (t.die.0, t.slot.0)) (die, slot) (live_targets core ts) found.0 in
          let kept = among-filter (λ (t : Target). is_live core.page_map t.die.0) t.0 ts t.1 in
          let on_die : t.0.die.0 ≡ die = ap (λ (q : ℕ × ℕ). q.0) t.2 in
          inr (t.0, kept.0, on_die, ap (λ (q : ℕ × ℕ). q.1) t.2, sym (ap (is_live core.page_map) on_die) ∙ kept.1, found.1)
    ]

module _ (core : Core) (h : IsSoundView (view_of core)) (claim : ℕ) (r : Reservation) (is : reserved_under core claim ≡ Some r) where
  abbrev v : View
  v = view_of core

  abbrev page : ℕ
  page = claimed_page core claim

  abbrev x : Owned
  x = record { page = page; version = r.version; targets = r.targets }

  abbrev closed : OpenClaim
  closed = record { page = page; reserved = None }

  abbrev own : Option ℕ → Option Owned
  own = owned_of core.copying (insert core.claims claim closed)

  owns : v.own (Some claim) ≡ Some x
  owns = reserved_owned (get core.claims claim) r is

  owner : (q : Option ℕ) (y : Owned) → own q ≡ Some y → (v.own q ≡ Some y) × (q ≡ Some claim → ⊥)
  owner q y e =
      elim (own_insert core.copying core.claims claim closed q y e) [
        | inl made ↦ absurd (none-some y made.1)
        | inr was ↦ was
      ]

  claims_then : (j : ℕ) → claim_in (insert core.claims claim closed) j ≡ v.claim j
  claims_then j = claim_same core.claims claim None (reserved_open (get core.claims claim) r is) j

  at_target : (die slot : ℕ) (t : Target) → Among t r.targets → t.die.0 ≡ die → t.slot.0 ≡ slot → TargetAt v.own die slot
  at_target die slot t among on_die at_slot =
      record { owner = Some claim; owned = x; target = t; owns = owns; among = among; on_die = on_die; at_slot = at_slot }

  abbrev stopped : ℕ → ℕ → Option Used
  stopped die slot = get (insert_all (map (λ (t : Target). (t.die.0, t.slot.0)) (live_targets core r.targets)) Stale core.page_map.used) (die, slot)

  stop_placed : (die slot : ℕ) → Placed v stopped (Some claim) die slot
  stop_placed die slot =
      elim (placed_all core r.targets Stale core.page_map.used die slot) [
        | inl same ↦ Same same
        | inr t ↦ Stops (record { owner = Some claim; owned = x; target = t.0; owns = owns; among = t.1; on_die = t.2; at_slot = t.3 }) refl t.4 t.5
      ]

  -- what a slot holds was held
  stop_held : (die slot : ℕ) (p : Page) (w : Version) → stopped die slot ≡ Some (Held p w) → v.used die slot ≡ Some (Held p w)
  stop_held die slot p w e =
      elim (placed_all core r.targets Stale core.page_map.used die slot) [
        | inl same ↦ sym same ∙ e
        | inr t ↦ absurd (held≢stale (stopped die slot) p w e t.5)
      ]

  stop_changes : Changes v v.live v.spare stopped own v.job None
  stop_changes = settled_changes v h (Some claim) stopped own owner stop_placed

  pub abandon_sound : IsSoundView (record v { used = stopped; own = own; claim = claim_in (insert core.claims claim closed) })
  abandon_sound = record {
    copies = h.copies;
    numbers = h.numbers;
    slots = settled_slots v h (Some claim) stopped own owner stop_placed;
    held = λ die slot p w e. h.held die slot p w (stop_held die slot p w e);
    once = λ die slot other p w u e f. h.once die slot other p w u (stop_held die slot p w e) (stop_held die other p u f);
    targets = changed_targets v h v.live v.spare stopped own v.job None stop_changes;
    apart = changed_apart v h v.live v.spare stopped own v.job None stop_changes;
    spread = λ q y e. h.spread q y (owner q y e).0;
    new = λ id y e. let n = h.new id y (owner (Some id) y e).0 in record {
      claimed = claimed_of core.copying (insert core.claims claim closed) id y e;
      given = n.given;
      below = n.below;
      newer = n.newer;
    };
    old = λ y e. h.old y e;
    away = λ y e t among slot p w f same seq. h.away y e t among slot p w (stop_held t.die.0 slot p w f) same seq;
    jobs = changed_jobs v h v.live v.spare stopped own v.job None stop_changes;
    dies = h.dies;
    claims = claims_same v.pages v.claim _ claims_then h.claims;
  }

  module _ (allowed_then : commit_refusal core r.targets ≡ None) where
    programmed : (t : Target) → Among t r.targets → is_live core.page_map t.die.0 ≡ true → t.programmed ≡ true
    programmed t among on =
        let none = (no_refusal (list_any (λ (t : Target). not t.programmed) (live_targets core r.targets))
        (not (list_any (λ (t : Target). t.programmed) (live_targets core r.targets))) CommitPending Failed allowed_then).0 in
        not-false t.programmed (any_none (λ (t : Target). not t.programmed) (live_targets core r.targets) none t
        (among-filter-intro (λ (t : Target). is_live core.page_map t.die.0) t r.targets among on))

    abbrev final : Used
    final = Held (record { 0 = page }) r.version

    abbrev stale_map : FinMap place_cmp Used
    stale_map = change (λ place used. without_page page used) core.page_map.used

    abbrev made : ℕ → ℕ → Option Used
    made die slot = get (insert_all (map (λ (t : Target). (t.die.0, t.slot.0)) (live_targets core r.targets)) final stale_map) (die, slot)

    stale_at : (die slot : ℕ) → Left page (v.used die slot) (get stale_map (die, slot))
    stale_at die slot = subst (Left page (v.used die slot)) (sym (get-change place_cmp_total place_same (λ place used. without_page page used) core.page_map.used (die, slot)))
        (left_of_page page (v.used die slot))

    left_placed : (die slot : ℕ) → made die slot ≡ get stale_map (die, slot) → Left page (v.used die slot) (get stale_map (die, slot)) → Placed v made (Some claim) die slot
    left_placed die slot e (Other never same) = Same (e ∙ same)
    left_placed die slot e (Gone p w was now) = Staled p w was (e ∙ now)

    commit_placed : (die slot : ℕ) → Placed v made (Some claim) die slot
    commit_placed die slot =
        elim (placed_all core r.targets final stale_map die slot) [
          | inl same ↦ left_placed die slot same (stale_at die slot)
          | inr t ↦ Gets (record { 0 = page }) r.version
              (record { owner = Some claim; owned = x; target = t.0; owns = owns; among = t.1; on_die = t.2; at_slot = t.3 }) refl t.4
              (programmed t.0 t.1 (ap (is_live core.page_map) t.2 ∙ t.4)) t.5
        ]

    -- what a slot holds then: another page, as before, or this write in a slot of a target
    abbrev HeldThen : ℕ → ℕ → Page → Version → Type 0
    HeldThen die slot p w = ((v.used die slot ≡ Some (Held p w)) × (p.0 ≡ page → ⊥))
        ⊎ ((t : Target) × Among t r.targets × (t.die.0 ≡ die) × (t.slot.0 ≡ slot) × (p.0 ≡ page) × (w ≡ r.version))

    held_left : (die slot : ℕ) (p : Page) (w : Version) → get stale_map (die, slot) ≡ Some (Held p w)
        → Left page (v.used die slot) (get stale_map (die, slot)) → HeldThen die slot p w
    held_left die slot p w e (Other never same) = inl (sym same ∙ e, never p w e)
    held_left die slot p w e (Gone q u was now) = absurd (held≢stale (get stale_map (die, slot)) p w e now)

    held_then : (die slot : ℕ) (p : Page) (w : Version) → made die slot ≡ Some (Held p w) → HeldThen die slot p w
    held_then die slot p w e =
        elim (placed_all core r.targets final stale_map die slot) [
          | inl same ↦ held_left die slot p w (sym same ∙ e) (stale_at die slot)
          | inr t ↦ inr (
            t.0,
            t.1,
            t.2,
            t.3,
            ap (λ (n : Page). n.0) (held_page p (record { 0 = page }) w r.version (made die slot) e t.5),
            held_version p (record { 0 = page }) w r.version (made die slot) e t.5,
          )
        ]

    changes : Changes v v.live v.spare made own v.job None
    changes = settled_changes v h (Some claim) made own owner commit_placed

    abbrev number : ℕ → Option Version
    number p = get (insert core.page_map.versions page r.version) p

    mine : v.claim claim ≡ Some page
    mine = claimed_of core.copying core.claims claim x owns

    -- a claim of the page is this claim
    not_mine : (id : ℕ) (y : Owned) → own (Some id) ≡ Some y → y.page ≡ page → ⊥
    not_mine id y e same =
        let was = owner (Some id) y e in
        was.1 (ap Some (h.claims.once id claim page (claimed_of core.copying core.claims id y was.0 ∙ ap Some same) mine))

    number_then : (p : ℕ) (w : Version) → number p ≡ Some w → ((p ≡ page) × (r.version ≡ w)) ⊎ ((v.number p ≡ Some w) × (p ≡ page → ⊥))
    number_then p w e = get-insert_cases core.page_map.versions page r.version p w e

    number_here : number page ≡ Some r.version
    number_here = get-insert_same core.page_map.versions page r.version

    numbers_then : (p : ℕ) (w : Version) → number p ≡ Some w → IsNumber v.pages v.last p w
    numbers_then p w e =
        elim (number_then p w e) [
          | inr was ↦ h.numbers p w was.0
          | inl new ↦
              let n = h.new claim x owns in
              let inside : page < v.pages = h.claims.inside claim page mine in
              record {
                inside = subst (λ k. k < v.pages) (sym new.0) inside;
                given = subst (λ (u : Version). 1 ≤ u.seq.0) new.1 n.given;
                below = subst (λ (u : Version). u.seq.0 ≤ v.last) new.1 n.below;
              }
        ]

    held_fit : (die slot : ℕ) (p : Page) (w : Version) → made die slot ≡ Some (Held p w) → number p.0 ≡ Some w
    held_fit die slot p w e =
        elim (held_then die slot p w e) [
          | inl was ↦ get-insert_other core.page_map.versions page r.version p.0 was.1 ∙ h.held die slot p w was.0
          | inr t ↦ ap number t.4 ∙ number_here ∙ ap Some (sym t.5)
        ]

    once_fit : (die slot other : ℕ) (p : Page) (w u : Version) → made die slot ≡ Some (Held p w) → made die other ≡ Some (Held p u) → slot ≡ other
    once_fit die slot other p w u e f =
        elim (held_then die slot p w e) [
          | inl a ↦ elim (held_then die other p u f) [
            | inl b ↦ h.once die slot other p w u a.0 b.0
            | inr b ↦ absurd (a.1 b.4)
          ]
          | inr a ↦ elim (held_then die other p u f) [
            | inl b ↦ absurd (b.1 a.4)
            | inr b ↦ sym a.3 ∙ ap (λ (t : Target). t.slot.0) (only_one (λ (t : Target). t.die.0 == die) r.targets
                (h.spread (Some claim) x owns die) a.0 b.0 a.1 b.1 (eq-eqb a.0.die.0 die a.2) (eq-eqb b.0.die.0 die b.2)) ∙ b.3
          ]
        ]

    -- the write is newer than what is copied of the page
    copy_older : (y : Owned) → v.own None ≡ Some y → y.page ≡ page → y.version.seq.0 < r.version.seq.0
    copy_older y e same =
        let old = h.old y e in
        let now = has_some (v.number y.page) old.written in
        let a : y.version.seq.0 ≤ now.0.seq.0 = old.older now.0 now.1 in
        let b : now.0.seq.0 < r.version.seq.0 = (h.new claim x owns).newer now.0 (sym (ap v.number same) ∙ now.1) in
        omega arith

    old_fit : (y : Owned) → own None ≡ Some y → IsOld number y
    old_fit y e =
        let old = h.old y e in
        elim (cases_eq y.page page) [
          | inl same ↦
              let older : y.version.seq.0 < r.version.seq.0 = copy_older y e same in
              let here : number y.page ≡ Some r.version = ap number same ∙ number_here in
              record {
                written = ap is_some here;
                older = λ w f. let is : r.version.seq.0 ≡ w.seq.0 = ap (λ (u : Version). u.seq.0) (same_Some r.version w (sym here ∙ f)) in omega arith;
                same = λ w f g. let is : r.version.seq.0 ≡ w.seq.0 = ap (λ (u : Version). u.seq.0) (same_Some r.version w (sym here ∙ f)) in absurd (omega arith);
              }
          | inr apart ↦
              let as_was : number y.page ≡ v.number y.page = get-insert_other core.page_map.versions page r.version y.page apart in
              record {
                written = ap is_some as_was ∙ old.written;
                older = λ w f. old.older w (sym as_was ∙ f);
                same = λ w f g. old.same w (sym as_was ∙ f) g;
              }
        ]

    away_fit : (y : Owned) → own None ≡ Some y → (t : Target) → Among t y.targets → (slot : ℕ) (p : Page) (w : Version)
        → made t.die.0 slot ≡ Some (Held p w) → p.0 ≡ y.page → w.seq.0 ≡ y.version.seq.0 → ⊥
    away_fit y e t among slot p w f same seq =
        elim (held_then t.die.0 slot p w f) [
          | inl was ↦ h.away y e t among slot p w was.0 same seq
          | inr new ↦
              let older : y.version.seq.0 < r.version.seq.0 = copy_older y e (sym same ∙ new.4) in
              let is : w.seq.0 ≡ r.version.seq.0 = ap (λ (u : Version). u.seq.0) new.5 in
              absurd (omega arith)
        ]

    pub commit_sound : IsSoundView (record v { used = made; own = own; claim = claim_in (insert core.claims claim closed); number = number })
    commit_sound = record {
      copies = h.copies;
      numbers = numbers_then;
      slots = settled_slots v h (Some claim) made own owner commit_placed;
      held = held_fit;
      once = once_fit;
      targets = changed_targets v h v.live v.spare made own v.job None changes;
      apart = changed_apart v h v.live v.spare made own v.job None changes;
      spread = λ q y e. h.spread q y (owner q y e).0;
      new = λ id y e. let n = h.new id y (owner (Some id) y e).0 in record {
        claimed = claimed_of core.copying (insert core.claims claim closed) id y e;
        given = n.given;
        below = n.below;
        newer = λ w f. elim (number_then y.page w f) [
          | inl new ↦ absurd (not_mine id y e new.0)
          | inr was ↦ n.newer w was.0
        ];
      };
      old = old_fit;
      away = away_fit;
      jobs = changed_jobs v h v.live v.spare made own v.job None changes;
      dies = h.dies;
      claims = claims_same v.pages v.claim _ claims_then h.claims;
    }

-- the copy under way ends, in a state that is final
module _ (core : Core) (h : IsSoundView (view_of core)) (c : Copying) (is : core.copying ≡ Some c)
    (on : is_live core.page_map c.target.die.0 ≡ true) where
  abbrev w : View
  w = view_of core

  abbrev copied : Owned
  copied = record { page = c.page.0; version = c.version; targets = c.target ∷ [] }

  copy_owns : w.own None ≡ Some copied
  copy_owns = ap (option_map {T = Copying} (λ c. record { page = c.page.0; version = c.version; targets = c.target ∷ [] })) is

  abbrev left_own : Option ℕ → Option Owned
  left_own = owned_of None core.claims

  copy_owner : (q : Option ℕ) (y : Owned) → left_own q ≡ Some y → (w.own q ≡ Some y) × (q ≡ None → ⊥)
  copy_owner None y e = absurd (none-some y e)
  copy_owner (Some j) y e = (e, λ same. none-some j (sym same))

  module _ (last : Used) where
    abbrev ended : ℕ → ℕ → Option Used
    ended die slot = get (insert_all ((c.target.die.0, c.target.slot.0) ∷ []) last core.page_map.used) (die, slot)

    abbrev There : ℕ → ℕ → Type 0
    There die slot = (c.target.die.0 ≡ die) × (c.target.slot.0 ≡ slot) × (ended die slot ≡ Some last)

    one_there : (die slot : ℕ) → Among {X = ℕ × ℕ} (die, slot) ((c.target.die.0, c.target.slot.0) ∷ []) → ended die slot ≡ Some last → There die slot
    one_there die slot (inl same) e = (ap (λ (q : ℕ × ℕ). q.0) same, ap (λ (q : ℕ × ℕ). q.1) same, e)
    one_there die slot (inr rest) e = absurd rest

    copy_there : (die slot : ℕ) → (ended die slot ≡ w.used die slot) ⊎ There die slot
    copy_there die slot =
        elim (get-insert_all place_cmp_total place_same ((c.target.die.0, c.target.slot.0) ∷ []) last core.page_map.used (die, slot)) [
          | inl same ↦ inl same
          | inr found ↦ inr (one_there die slot found.0 found.1)
        ]

    copy_at : (die slot : ℕ) → There die slot → TargetAt w.own die slot
    copy_at die slot t = record { owner = None; owned = copied; target = c.target; owns = copy_owns; among = inl refl; on_die = t.0; at_slot = t.1 }

    abbrev copy_part : Type 0
    copy_part = (die slot : ℕ) → Placed w ended None die slot

    module _ (placed : (die slot : ℕ) → Placed w ended None die slot) (held_fit : HeldFit w.number ended) (once_fit : OnceFit ended) where
      copy_changes : Changes w w.live w.spare ended left_own w.job None
      copy_changes = settled_changes w h None ended left_own copy_owner placed

      pub copy_sound : IsSoundView (record w { used = ended; own = left_own })
      copy_sound = record {
        copies = h.copies;
        numbers = h.numbers;
        slots = settled_slots w h None ended left_own copy_owner placed;
        held = held_fit;
        once = once_fit;
        targets = changed_targets w h w.live w.spare ended left_own w.job None copy_changes;
        apart = changed_apart w h w.live w.spare ended left_own w.job None copy_changes;
        spread = λ q y e. h.spread q y (copy_owner q y e).0;
        new = λ id y e. h.new id y e;
        old = λ y e. absurd (none-some y e);
        away = λ y e. absurd (none-some y e);
        jobs = changed_jobs w h w.live w.spare ended left_own w.job None copy_changes;
        dies = h.dies;
        claims = h.claims;
      }

pub late_sound : (core : Core) (h : IsSoundView (view_of core)) (c : Copying) (is : core.copying ≡ Some c) (on : is_live core.page_map c.target.die.0 ≡ true)
    → IsSoundView (view_of (record core { copying = None; page_map = with_targets Stale (c.target ∷ []) core.page_map }))
late_sound core h c is on = copy_sound core h c is on Stale placed
    (λ die slot p u e. h.held die slot p u (was die slot p u e))
    (λ die slot other p u y e f. h.once die slot other p u y (was die slot p u e) (was die other p y f))
  where
    was : (die slot : ℕ) (p : Page) (u : Version) → ended core h c is on Stale die slot ≡ Some (Held p u) → get core.page_map.used (die, slot) ≡ Some (Held p u)
    was die slot p u e =
        elim (copy_there core h c is on Stale die slot) [
          | inl same ↦ sym same ∙ e
          | inr t ↦ absurd (held≢stale (ended core h c is on Stale die slot) p u e t.2)
        ]

    placed : (die slot : ℕ) → Placed (view_of core) (ended core h c is on Stale) None die slot
    placed die slot =
        elim (copy_there core h c is on Stale die slot) [
          | inl same ↦ Same same
          | inr t ↦ Stops (record { owner = None; owned = record { page = c.page.0; version = c.version; targets = c.target ∷ [] }; target = c.target; owns = copy_owns core h c is on; among = inl refl; on_die = t.0; at_slot = t.1 })
              refl (sym (ap (is_live core.page_map) t.0) ∙ on) t.2
        ]

module _ (core : Core) (h : IsSoundView (view_of core)) (c : Copying) (is : core.copying ≡ Some c) (on : is_live core.page_map c.target.die.0 ≡ true)
    (done : c.target.programmed ≡ true) (number : get core.page_map.versions c.page.0 ≡ Some c.version) where
  abbrev last : Used
  last = Held c.page c.version

  abbrev now : ℕ → ℕ → Option Used
  now = ended core h c is on last

  was : (die slot : ℕ) (p : Page) (u : Version) → now die slot ≡ Some (Held p u)
      → (get core.page_map.used (die, slot) ≡ Some (Held p u)) ⊎ ((c.target.die.0 ≡ die) × (c.target.slot.0 ≡ slot) × (p ≡ c.page) × (u ≡ c.version))
  was die slot p u e =
      elim (copy_there core h c is on last die slot) [
        | inl same ↦ inl (sym same ∙ e)
        | inr t ↦ inr (t.0, t.1, held_page p c.page u c.version (now die slot) e t.2, held_version p c.page u c.version (now die slot) e t.2)
      ]

  placed : (die slot : ℕ) → Placed (view_of core) now None die slot
  placed die slot =
      elim (copy_there core h c is on last die slot) [
        | inl same ↦ Same same
        | inr t ↦ Gets c.page c.version (record { owner = None; owned = record { page = c.page.0; version = c.version; targets = c.target ∷ [] }; target = c.target; owns = copy_owns core h c is on; among = inl refl; on_die = t.0; at_slot = t.1 })
            refl (sym (ap (is_live core.page_map) t.0) ∙ on) done t.2
      ]

  copy_held : (die slot : ℕ) (p : Page) (u : Version) → now die slot ≡ Some (Held p u) → get core.page_map.versions p.0 ≡ Some u
  copy_held die slot p u e =
      elim (was die slot p u e) [
        | inl before ↦ h.held die slot p u before
        | inr t ↦ ap (λ (q : Page). get core.page_map.versions q.0) t.2 ∙ number ∙ ap Some (sym t.3)
      ]

  -- the die did not hold that write before
  clash : (slot other : ℕ) (die : ℕ) (p : Page) (u : Version) → get core.page_map.used (die, slot) ≡ Some (Held p u) → c.target.die.0 ≡ die → p ≡ c.page → ⊥
  clash slot other die p u e on_die page_is =
      let same : u ≡ c.version = same_Some u c.version (sym (h.held die slot p u e) ∙ ap (λ (q : Page). get core.page_map.versions q.0) page_is ∙ number) in
      h.away _ (copy_owns core h c is on) c.target (inl refl) slot p u (ap (λ d. get core.page_map.used (d, slot)) on_die ∙ e)
      (ap (λ (q : Page). q.0) page_is) (ap (λ (y : Version). y.seq.0) same)

  copy_once : (die slot other : ℕ) (p : Page) (u y : Version) → now die slot ≡ Some (Held p u) → now die other ≡ Some (Held p y) → slot ≡ other
  copy_once die slot other p u y e f =
      elim (was die slot p u e) [
        | inl a ↦ elim (was die other p y f) [
          | inl b ↦ h.once die slot other p u y a b
          | inr b ↦ absurd (clash slot other die p u a b.0 b.2)
        ]
        | inr a ↦ elim (was die other p y f) [
          | inl b ↦ absurd (clash other slot die p y b a.0 a.2)
          | inr b ↦ sym a.1 ∙ b.1
        ]
      ]

  pub current_sound : IsSoundView (view_of (record core { copying = None; page_map = with_targets (Held c.page c.version) (c.target ∷ []) core.page_map }))
  current_sound = copy_sound core h c is on last placed copy_held copy_once
