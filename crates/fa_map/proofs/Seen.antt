-- What tables show follows their entries.
use Rattle.std.proofs.Common.{◌≡◌, ℕ, ◌+◌, ◌*◌, ◌/◌, ◌-◌, ◌<◌, ◌≤◌, ◌==◌, ◌&&◌, not, if◌then◌else◌, Bool, true, false, List, Option, Some, None, length, get_or, map, replicate, set, ap, cond, inl, inr, refl, sym, subst, ◌∙◌, arith}
use Rattle.std.proofs.lemmas.Bool.{and_from, and_left, and_right, cases_Bool, cases_eq, cases_lt, eq-eqb, eqb-true, false≢true, lt-ltb, ne_eqb}
use Rattle.std.proofs.lemmas.List.{get_or-set_same, get_or-set_other, get_or_past, length-map, length-replicate, map-set}
use Rattle.std.proofs.Math.ListN.{get_or-map}
use Rattle.std.specs.FinMap.{get}
use Rattle.std.specs.List.{find, count_by, range_with_len}
use Rattle.std.specs.Prelude.{is_none, is_some, option_map}
use Rattle.fa_types.specs.declared.geometry.Geometry.{Geometry}
use Rattle.fa_types.specs.declared.numbers.Page.{Page}
use Rattle.fa_machine.specs.declared.places.Used.{Used}
use Rattle.fa_machine.specs.declared.places.Used.TheVariants.{Held, Stale as StaleSlot}
use Rattle.fa_machine.specs.declared.places.Version.{Version}
use Rattle.fa_machine.specs.Collecting.{count_in, move_place}
use Rattle.fa_machine.specs.Copies.{copy_on, holders, holds_page, is_held_slot, is_reserved_slot, is_stale_slot}
use Rattle.fa_machine.specs.Maps.{below}
use Rattle.fa_machine.specs.Placement.{free, is_erased_slot, lowest_erased}
use Rattle.fa_machine.specs.State.{MapState, is_live, slots_of, used_at}
use Rattle.fa_machine.specs.Writing.{without_page}
use Rattle.fa_map.specs.Chains.{IsNext, entry_at, entry_of, is_before}
use Rattle.fa_map_calls.specs.Changes.{MayHold, MayKeep, dropped, made_current, new_map, outdated, renewed, with_used, without_block}
use Rattle.fa_map.specs.Entries.{copies_in, die_holds, entries_in, erased_entry, is_copy_of, is_current_entry, is_erased_entry, is_same_state, may_take, retired, state_of_entry}
use Rattle.fa_map.specs.Shown.{IsShown, held, is_number, used_of, version_at}
use Rattle.fa_map_calls.specs.Plain.{IsPlain, die_slots, holds, slot_at}
use Rattle.fa_map_calls.specs.Slots.{first_holder}
use Rattle.fa_map.specs.declared.entries.Entry.{Entry}
use Rattle.fa_map.specs.declared.entries.Entry.TheVariants.{Erased, Reserved, Current, Stale}
use Rattle.fa_map_calls.specs.declared.slots.SlotState.{SlotState}
use Rattle.fa_map_calls.specs.declared.slots.SlotState.TheVariants as states
use Rattle.std.proofs.Math.Nat.{mul-le-mul_right}
use Rattle.fa_map.proofs.Chained.{same_page}
use Rattle.fa_map_calls.proofs.Changed.{place_cases}
use Rattle.fa_map.proofs.Firsts.{IsFirstCopy, found_passes, held_some}
use Rattle.fa_map_calls.proofs.Holders.{copy_found, holders_counted}
use Rattle.fa_map_calls.proofs.Indices.{die_fits, index_fits}
use Rattle.fa_map_calls.proofs.Plain.{live_fits, plain_alike, plain_current, plain_dropped, plain_erased, plain_kept, plain_new, plain_renewed, plain_used, told}
use Rattle.fa_map_calls.proofs.Ranges.{count_agree, find_agree, find_none, find_some, found_some}
use Rattle.fa_map.proofs.Swept.{retired_one, retired_other, with_true}
use Rattle.fa_map.proofs.Tabled.{bare_entry}
use Rattle.fa_map_calls.proofs.Written.{repeated}
use Rattle.fa_map.proofs.Tallied.{entry_same, entry_other}

pub slot_mapped : (versions : List (Option Version)) (entries : List Entry) (k : ℕ) → slot_at (map (used_of versions) entries) k ≡ used_of versions (entry_at entries k)
slot_mapped versions entries k = get_or-map (used_of versions) entries k Erased

abbrev nothing : Option Used
nothing = None

-- the test of a slot's state
abbrev pub test_of : SlotState → Option Used → Bool
test_of states.Erased = is_none
test_of states.Reserved = is_reserved_slot
test_of states.Current = is_held_slot
test_of states.Stale = is_stale_slot

-- an entry whose page was written, where it has one
abbrev pub IsKnown : List (Option Version) → Entry → Type 0
IsKnown versions e = (page : ℕ) → e ≡ Current page → is_some (version_at versions page) ≡ true

held_test : (state : SlotState) (page : ℕ) (o : Option Version) → is_some o ≡ true → test_of state (held page o) ≡ is_same_state states.Current state
held_test x page None h = absurd (false≢true h)
held_test states.Erased page (Some v) h = refl
held_test states.Reserved page (Some v) h = refl
held_test states.Current page (Some v) h = refl
held_test states.Stale page (Some v) h = refl

pub agree : (versions : List (Option Version)) (state : SlotState) (e : Entry) → IsKnown versions e → test_of state (used_of versions e) ≡ is_same_state (state_of_entry e) state
agree versions states.Erased Erased known = refl
agree versions states.Reserved Erased known = refl
agree versions states.Current Erased known = refl
agree versions states.Stale Erased known = refl
agree versions states.Erased Reserved known = refl
agree versions states.Reserved Reserved known = refl
agree versions states.Current Reserved known = refl
agree versions states.Stale Reserved known = refl
agree versions states.Erased Stale known = refl
agree versions states.Reserved Stale known = refl
agree versions states.Current Stale known = refl
agree versions states.Stale Stale known = refl
agree versions state (Current page) known = held_test state page (version_at versions page) (known page refl)

held_holds : (page p : ℕ) (o : Option Version) → holds page (held p o) ≡ true → p ≡ page
held_holds page p None h = absurd (false≢true h)
held_holds page p (Some v) h = eqb-true p page h

-- an entry that stands for a copy of the page is one
pub holds_current : (versions : List (Option Version)) (page : ℕ) (e : Entry) → holds page (used_of versions e) ≡ true → e ≡ Current page
holds_current versions page Erased h = absurd (false≢true h)
holds_current versions page Reserved h = absurd (false≢true h)
holds_current versions page Stale h = absurd (false≢true h)
holds_current versions page (Current p) h = ap Current (held_holds page p (version_at versions p) h)

held_self : (page : ℕ) (o : Option Version) → is_some o ≡ true → holds page (held page o) ≡ true
held_self page None h = absurd (false≢true h)
held_self page (Some v) h = eq-eqb page page refl

held_alike : (page p : ℕ) (o : Option Version) → is_some o ≡ true → (p == page) ≡ holds page (held p o)
held_alike page p None h = absurd (false≢true h)
held_alike page p (Some v) h = refl

-- an entry is a copy of a page where what it stands for holds the page
copies_alike : (versions : List (Option Version)) (page : ℕ) (e : Entry) → IsKnown versions e → is_copy_of page e ≡ holds page (used_of versions e)
copies_alike versions page Erased known = refl
copies_alike versions page Reserved known = refl
copies_alike versions page Stale known = refl
copies_alike versions page (Current p) known = held_alike page p (version_at versions p) (known p refl)

-- an entry of a block that was erased
pub erased_seen : (versions : List (Option Version)) (b : Bool) (e : Entry)
    → used_of versions (if b then erased_entry e else e) ≡ (if b && not (is_reserved_slot (used_of versions e)) then None else used_of versions e)
erased_seen versions false Erased = refl
erased_seen versions false Reserved = refl
erased_seen versions false Stale = refl
erased_seen versions false (Current p) = refl
erased_seen versions true Erased = refl
erased_seen versions true Reserved = refl
erased_seen versions true Stale = refl
erased_seen versions true (Current p) = gone (version_at versions p)
  where
    gone : (o : Option Version) → None ≡ (if not (is_reserved_slot (held p o)) then None else held p o)
    gone None = refl
    gone (Some v) = refl

pub erased_current : (b : Bool) (e : Entry) (page : ℕ) → (if b then erased_entry e else e) ≡ Current page → e ≡ Current page
erased_current false e page h = h
erased_current true Erased page h = absurd (bare_entry Erased page refl h)
erased_current true Reserved page h = absurd (bare_entry Reserved page refl h)
erased_current true Stale page h = absurd (bare_entry Erased page refl h)
erased_current true (Current p) page h = absurd (bare_entry Erased page refl h)

pub dropped_seen : (versions : List (Option Version)) (b : Bool) (e : Entry) → used_of versions (if b then Erased else e) ≡ (if b then None else used_of versions e)
dropped_seen versions true e = refl
dropped_seen versions false e = refl

pub dropped_current : (b : Bool) (e : Entry) (page : ℕ) → (if b then Erased else e) ≡ Current page → e ≡ Current page
dropped_current false e page h = h
dropped_current true e page h = absurd (bare_entry Erased page refl h)

retired_current : (page q : ℕ) (e : Entry) → retired page e ≡ Current q → (e ≡ Current q) × (q ≡ page → ⊥)
retired_current page q Erased h = absurd (bare_entry Erased q refl h)
retired_current page q Reserved h = absurd (bare_entry Reserved q refl h)
retired_current page q Stale h = absurd (bare_entry Stale q refl h)
retired_current page q (Current p) h =
    elim (cases_eq p page) [
      | inl same ↦ absurd (bare_entry Stale q refl (sym (ap (λ (b : Bool). cond b Stale (Current p)) (eq-eqb p page same)) ∙ h))
      | inr apart ↦
          let is : Current p ≡ Current q = sym (ap (λ (b : Bool). cond b Stale (Current p)) (ne_eqb p page apart)) ∙ h in
          (is, λ k. apart (same_page p q is ∙ k))
    ]

gone_copy : (page p : ℕ) (o : Option Version) → p ≡ page → is_some o ≡ true → Some StaleSlot ≡ option_map (without_page page) (held p o)
gone_copy page p None same h = absurd (false≢true h)
gone_copy page p (Some v) same h = ap (λ (b : Bool). Some (cond b StaleSlot (Held (record { 0 = p }) v))) (sym (eq-eqb p page same))

left_copy : (page p : ℕ) (o : Option Version) → (p ≡ page → ⊥) → held p o ≡ option_map (without_page page) (held p o)
left_copy page p None apart = refl
left_copy page p (Some v) apart = ap (λ (b : Bool). Some (cond b StaleSlot (Held (record { 0 = p }) v))) (sym (ne_eqb p page apart))

-- what is shown of an entry after each copy of a page became stale
pub retired_seen : (versions : List (Option Version)) (page : ℕ) (version : Version) (e : Entry) → IsKnown versions e
    → used_of (set versions page (Some version)) (retired page e) ≡ option_map (without_page page) (used_of versions e)
retired_seen versions page version Erased known = refl
retired_seen versions page version Reserved known = refl
retired_seen versions page version Stale known = refl
retired_seen versions page version (Current p) known =
    elim (cases_eq p page) [
      | inl same ↦
          ap (λ (b : Bool). used_of (set versions page (Some version)) (cond b Stale (Current p))) (eq-eqb p page same)
          ∙ gone_copy page p (version_at versions p) same (known p refl)
      | inr apart ↦
          ap (used_of (set versions page (Some version))) (retired_other page (Current p) (λ k. apart (same_page p page k)))
          ∙ ap (held p) (get_or-set_other versions page p (Some version) None apart) ∙ left_copy page p (version_at versions p) apart
    ]

-- an entry before a page was renewed
pub renewed_current : (last : Bool) (page q : ℕ) (e : Entry) → (if last then e else retired page e) ≡ Current q → e ≡ Current q
renewed_current true page q e h = h
renewed_current false page q e h = (retired_current page q e h).0

-- what is shown of an entry after a page was renewed
module _ (versions : List (Option Version)) (page : Page) (version : Version) (known_page : page.0 < length versions) (last : Bool)
    (number : last ≡ is_number version (version_at versions page.0))
    (one_kind : (v : Version) → version_at versions page.0 ≡ Some v → (v.seq.0 == version.seq.0) ≡ true → v ≡ version) where
  abbrev after : List (Option Version)
  after = set versions page.0 (Some version)

  other_copy : (p : ℕ) (o : Option Version) → (p ≡ page.0 → ⊥) → held p o ≡ option_map (outdated page.0 version) (held p o)
  other_copy p None apart = refl
  other_copy p (Some v) apart =
      ap (λ (b : Bool). Some (cond b StaleSlot (Held (record { 0 = p }) v))) (sym (and_left (p == page.0) (not (v.seq.0 == version.seq.0)) (ne_eqb p page.0 apart)))

  same_copy : (o : Option Version) → version_at versions page.0 ≡ o → is_some o ≡ true → (b : Bool) → last ≡ b
      → used_of after (if b then Current page.0 else Stale) ≡ option_map (outdated page.0 version) (held page.0 o)
  same_copy None is some b e = absurd (false≢true some)
  same_copy (Some v) is some true e =
      let seqs : (v.seq.0 == version.seq.0) ≡ true = sym (number ∙ ap (is_number version) is) ∙ e in
      ap (held page.0) (get_or-set_same versions page.0 (Some version) None known_page)
      ∙ ap (λ w. Some (Held page w)) (sym (one_kind v is seqs))
      ∙ ap (λ (b : Bool). Some (cond b StaleSlot (Held page v))) (sym (and_right (page.0 == page.0) (not (v.seq.0 == version.seq.0)) (ap not seqs)))
  same_copy (Some v) is some false e =
      let seqs : (v.seq.0 == version.seq.0) ≡ false = sym (number ∙ ap (is_number version) is) ∙ e in
      ap (λ (b : Bool). Some (cond b StaleSlot (Held page v))) (sym (and_from (page.0 == page.0) (not (v.seq.0 == version.seq.0)) (eq-eqb page.0 page.0 refl) (ap not seqs)))

  pub renewed_seen : (e : Entry) → IsKnown versions e → used_of after (if last then e else retired page.0 e) ≡ option_map (outdated page.0 version) (used_of versions e)
  renewed_seen e known = go last refl e known
    where
      go : (b : Bool) → last ≡ b → (e : Entry) → IsKnown versions e → used_of after (if b then e else retired page.0 e) ≡ option_map (outdated page.0 version) (used_of versions e)
      go true is Erased known = refl
      go true is Reserved known = refl
      go true is Stale known = refl
      go false is Erased known = refl
      go false is Reserved known = refl
      go false is Stale known = refl
      go b is (Current p) known =
          elim (cases_eq p page.0) [
            | inl same ↦
                subst (λ q. used_of after (if b then Current q else retired page.0 (Current q)) ≡ option_map (outdated page.0 version) (held q (version_at versions q))) (sym same)
                (ap (λ k. used_of after (if b then Current page.0 else k)) (retired_one page.0)
                ∙ same_copy (version_at versions page.0) refl (known page.0 (ap Current same)) b is)
            | inr apart ↦
                ap (λ k. used_of after (if b then Current p else k)) (retired_other page.0 (Current p) (λ k. apart (same_page p page.0 k)))
                ∙ ap (used_of after) (either b (Current p))
                ∙ ap (held p) (get_or-set_other versions page.0 p (Some version) None apart) ∙ other_copy p (version_at versions p) apart
          ]
        where
          either : (b : Bool) (e : Entry) → (if b then e else e) ≡ e
          either true e = refl
          either false e = refl

-- the same shown, told otherwise
pub shown_told : {m m' : MapState} {g : Geometry} {on on' : List Bool} {count count' : ℕ} {versions versions' : List (Option Version)} {entries entries' : List Entry}
    → m' ≡ m → on' ≡ on → count' ≡ count → versions' ≡ versions → entries' ≡ entries
    → IsShown m g on count versions entries → IsShown m' g on' count' versions' entries'
shown_told {m} {m'} {g} {on} {on'} {count} {count'} {versions} {versions'} {entries} {entries'} a b c d e shown =
    subst (λ k. IsShown k g on' count' versions' entries') (sym a)
    (subst (λ k. IsShown m g k count' versions' entries') (sym b)
    (subst (λ k. IsShown m g on k versions' entries') (sym c)
    (subst (λ k. IsShown m g on count k entries') (sym d)
    (subst (λ k. IsShown m g on count versions k) (sym e) shown))))

pub shown_new : (g : Geometry) (entries : List Entry) → length entries ≡ g.dies * die_slots g → ((k : ℕ) → entry_at entries k ≡ Erased)
    → IsShown (new_map g) g (replicate g.dies false) 0 (replicate g.pages None) entries
shown_new g entries long erased = record {
  plain = plain_alike (new_map g) g (replicate g.dies false) 0 (replicate g.pages None) (replicate (g.dies * die_slots g) None) (plain_new g)
      (map (used_of (replicate g.pages None)) entries) (length-map entries (used_of (replicate g.pages None)) ∙ long ∙ sym (length-replicate (g.dies * die_slots g) nothing))
      (λ d s within.
      slot_mapped (replicate g.pages None) entries (d * die_slots g + s) ∙ ap (used_of (replicate g.pages None)) (erased (d * die_slots g + s))
      ∙ sym (repeated (g.dies * die_slots g) (d * die_slots g + s) nothing));
  known = λ d s page within is. absurd (bare_entry Erased page refl (sym (erased (d * die_slots g + s)) ∙ is));
}

module _ (m : MapState) (g : Geometry) (on : List Bool) (count : ℕ) (versions : List (Option Version)) (entries : List Entry) (shown : IsShown m g on count versions entries) where
  abbrev n : ℕ
  n = die_slots g

  pub seen : (die slot : ℕ) → slot < n → used_at m die slot ≡ used_of versions (entry_of entries n die slot)
  seen die slot within = shown.plain.used die slot within ∙ slot_mapped versions entries (die * n + slot)

  size : m.geometry.blocks * m.geometry.slots ≡ n
  size = ap die_slots shown.plain.geometry

  shown_set : (die slot : ℕ) (u : Used) (e : Entry) → is_live m die ≡ true → slot < m.geometry.blocks * m.geometry.slots
      → IsPlain (with_used die slot u m) g on count versions (set (map (used_of versions) entries) (die * n + slot) (Some u))
      → used_of versions e ≡ Some u → IsKnown versions e → length entries ≡ g.dies * n
      → IsShown (with_used die slot u m) g on count versions (set entries (die * n + slot) e)
  shown_set die slot u e live fits plain is known long = record {
    plain = told g on versions (with_used die slot u m) (with_used die slot u m) count count _ (map (used_of versions) (set entries (die * n + slot) e)) refl refl
        (map-set (used_of versions) entries (die * n + slot) e ∙ ap (set (map (used_of versions) entries) (die * n + slot)) is) plain;
    known = λ d s page within k. elim (place_cases d s die slot) [
      | inl at ↦ known page (sym (entry_same entries n die slot d s e inside at.0 at.1) ∙ k)
      | inr apart ↦ shown.known d s page within (sym (entry_other entries n die slot d s e low within apart) ∙ k)
    ];
  }
    where
      low : slot < n
      low = subst (λ k. slot < k) size fits

      inside : die * n + slot < length entries
      inside = subst (λ k. die * n + slot < k) (sym long) (index_fits die slot g.dies n (live_fits m g on count versions (map (used_of versions) entries) shown.plain die live) low)

  -- a slot that comes to hold no copy
  pub shown_used : (die slot : ℕ) (u : Used) (e : Entry) → is_live m die ≡ true → slot < m.geometry.blocks * m.geometry.slots → is_held_slot (Some u) ≡ false
      → used_of versions e ≡ Some u → is_current_entry e ≡ false → length entries ≡ g.dies * n
      → IsShown (with_used die slot u m) g on count versions (set entries (die * n + slot) e)
  shown_used die slot u e live fits bare is plain long =
      shown_set die slot u e live fits (plain_used m g on count versions (map (used_of versions) entries) shown.plain die slot u live fits bare) is
      (λ page k. absurd (bare_entry e page plain k)) long

  -- a slot that comes to hold the last write of a page
  pub shown_kept : (page : Page) (version : Version) (die slot : ℕ) → MayKeep m page version die slot → length entries ≡ g.dies * n
      → IsShown (with_used die slot (Held page version) m) g on count versions (set entries (die * n + slot) (Current page.0))
  shown_kept page version die slot may long =
      let last : version_at versions page.0 ≡ Some version = sym (shown.plain.numbers page.0) ∙ may.last in
      shown_set die slot (Held page version) (Current page.0) may.live may.slot_fits
      (plain_kept m g on count versions (map (used_of versions) entries) shown.plain page version die slot may) (ap (held page.0) last)
      (λ q k. ap is_some (ap (version_at versions) (same_page q page.0 (sym k)) ∙ last)) long

  pub tests : (state : SlotState) (die slot : ℕ) → slot < n → is_same_state (state_of_entry (entry_of entries n die slot)) state ≡ test_of state (used_at m die slot)
  tests state die slot within =
      sym (agree versions state (entry_of entries n die slot) (λ page is. shown.known die slot page within is)) ∙ ap (test_of state) (sym (seen die slot within))

  pub shown_count_in : (state : SlotState) (die block : ℕ) → block < g.blocks → entries_in entries n die (block * g.slots) g.slots state ≡ count_in m die block (test_of state)
  shown_count_in state die block fits =
      let room = die_fits block g.blocks g.slots fits in
      count_agree (λ k. is_same_state (state_of_entry (entry_of entries n die k)) state) (λ k. test_of state (used_at m die k)) (block * g.slots) g.slots
      (λ k low high. tests state die k (omega (arith, room, high)))
      ∙ ap (λ (k : Geometry). count_by (λ slot. test_of state (used_at m die slot)) (range_with_len (block * k.slots) k.slots)) (sym shown.plain.geometry)

  pub shown_free : (die : ℕ) → entries_in entries n die 0 n states.Erased ≡ free m die
  shown_free die =
      count_agree (λ k. is_same_state (state_of_entry (entry_of entries n die k)) states.Erased) (λ k. is_none (used_at m die k)) 0 n
      (λ k low high. tests states.Erased die k (omega arith))
      ∙ ap (λ k. count_by (is_erased_slot m die) (below k)) (sym size)

  pub shown_lowest : (die : ℕ) → find (may_take entries n g.slots die None) (below n) ≡ lowest_erased m die
  shown_lowest die =
      find_agree (may_take entries n g.slots die None) (is_erased_slot m die) 0 n
      (λ k low high. with_true (is_erased_entry (entry_of entries n die k)) ∙ tests states.Erased die k (omega arith))
      ∙ ap (λ k. find (is_erased_slot m die) (below k)) (sym size)

  pub shown_outside : (die block : ℕ) → find (may_take entries n g.slots die (Some block)) (below n) ≡ move_place m die block
  shown_outside die block =
      find_agree (may_take entries n g.slots die (Some block)) (λ k. is_erased_slot m die k && not (k / g.slots == block)) 0 n
      (λ k low high. ap (λ (b : Bool). b && not (k / g.slots == block)) (tests states.Erased die k (omega arith)))
      ∙ ap (λ k. find (λ slot. is_erased_slot m die slot && not (slot / g.slots == block)) (below k)) (sym size)
      ∙ ap (λ (k : Geometry). find (λ slot. is_erased_slot m die slot && not (slot / k.slots == block)) (slots_of m)) (sym shown.plain.geometry)

  -- the slot that holds a page
  pub shown_copy : (page die slot : ℕ) → slot < n → entry_of entries n die slot ≡ Current page
      → ((s : ℕ) → s < n → entry_of entries n die s ≡ Current page → s ≡ slot) → Some slot ≡ copy_on m page die
  shown_copy page die slot within is once =
      sym (copy_found m shown.plain.whole page die ∙ ap (λ k. find (λ s. holds page (used_at m die s)) (below k)) size
      ∙ find_some (λ s. holds page (used_at m die s)) 0 n slot (omega arith) (omega arith)
      (ap (holds page) (seen die slot within ∙ ap (used_of versions) is) ∙ held_self page (version_at versions page) (shown.known die slot page within is))
      (λ k low high. elim (cases_Bool (holds page (used_at m die k))) [
        | inr fails ↦ fails
        | inl passes ↦
            let inside : k < n = omega (arith, within, high) in
            let same = once k inside (holds_current versions page (entry_of entries n die k) (sym (ap (holds page) (seen die k inside)) ∙ passes)) in
            absurd (omega (arith, same, high))
      ]))

  pub shown_no_copy : (page die : ℕ) → ((s : ℕ) → s < n → entry_of entries n die s ≡ Current page → ⊥) → None ≡ copy_on m page die
  shown_no_copy page die bare =
      sym (copy_found m shown.plain.whole page die ∙ ap (λ k. find (λ s. holds page (used_at m die s)) (below k)) size
      ∙ find_none (λ s. holds page (used_at m die s)) 0 n
      (λ k low high. elim (cases_Bool (holds page (used_at m die k))) [
        | inr fails ↦ fails
        | inl passes ↦
            let inside : k < n = omega (arith, high) in
            absurd (bare k inside (holds_current versions page (entry_of entries n die k) (sym (ap (holds page) (seen die k inside)) ∙ passes)))
      ]))

  -- how many dies hold a page
  pub shown_holders : (page : ℕ) → count_by (die_holds entries n page) (below g.dies) ≡ length (holders m page)
  shown_holders page =
      count_agree (die_holds entries n page) (holds_page m page) 0 g.dies (λ die low high. same die)
      ∙ ap (λ (k : Geometry). count_by (holds_page m page) (below k.dies)) (sym shown.plain.geometry)
      ∙ sym (holders_counted m page)
    where
      same : (die : ℕ) → die_holds entries n page die ≡ holds_page m page die
      same die =
          ap is_some (find_agree (λ s. is_copy_of page (entry_of entries n die s)) (λ s. holds page (used_at m die s)) 0 n
          (λ k low high.
          let inside : k < n = omega (arith, high) in
          copies_alike versions page (entry_of entries n die k) (λ p is. shown.known die k p inside is) ∙ ap (holds page) (sym (seen die k inside)))
          ∙ ap (λ k. find (λ s. holds page (used_at m die s)) (below k)) (sym size)
          ∙ sym (copy_found m shown.plain.whole page die))

  -- the lowest page from one on that this many dies hold
  pub shown_with : (tables : Geometry) → tables ≡ g → (held from : ℕ)
      → find (λ page. copies_in entries tables page == held) (range_with_len from (tables.pages - from))
      ≡ find (λ page. length (holders m page) == held) (range_with_len from (m.geometry.pages - from))
  shown_with tables same held from =
      find_agree (λ page. copies_in entries tables page == held) (λ page. length (holders m page) == held) from (tables.pages - from)
      (λ k low high. ap (λ (j : ℕ). j == held) (ap (λ (j : Geometry). copies_in entries j k) same ∙ shown_holders k))
      ∙ ap (λ (k : Geometry). find (λ page. length (holders m page) == held) (range_with_len from (k.pages - from))) (same ∙ sym shown.plain.geometry)

  -- ## The next copy of a page

  -- the slot of a current copy holds the page
  pub shown_held : (page die slot : ℕ) → copy_on m page die ≡ Some slot
      → (die < g.dies) × (slot < n) × (entry_of entries n die slot ≡ Current page)
  shown_held page die slot is =
      let passes = found_passes (λ s. holds page (used_at m die s)) (slots_of m) slot (sym (copy_found m shown.plain.whole page die) ∙ is) in
      let used = shown.plain.whole.used die slot (held_some page (used_at m die slot) passes) in
      let within : slot < n = subst (λ k. slot < k) size used.1 in (
        subst (λ (k : Geometry). die < k.dies) shown.plain.geometry (shown.plain.whole.live die used.0),
        within,
        holds_current versions page (entry_of entries n die slot) (sym (ap (holds page) (seen die slot within)) ∙ passes),
      )

  module _ (once : (d s other page : ℕ) → s < n → other < n → entry_of entries n d s ≡ Current page
      → entry_of entries n d other ≡ Current page → s ≡ other) (page from : ℕ) where
    holders_from : find (holds_page m page) (range_with_len from (g.dies - from)) ≡ first_holder m page from
    holders_from = ap (λ (k : Geometry). find (holds_page m page) (range_with_len from (k.dies - from))) (sym shown.plain.geometry)

    bare_die : (next : Option (ℕ × ℕ)) → IsNext (entry_of entries n) n g.dies page from next → (k : ℕ) → from ≤ k → is_before k next ≡ true
        → holds_page m page k ≡ false
    bare_die next follows k low early =
        ap is_some (sym (shown_no_copy page k (λ s inside is. follows.between k s low inside early is)))

    pub shown_next : (next : Option (ℕ × ℕ)) → IsNext (entry_of entries n) n g.dies page from next → IsFirstCopy m page from next
    shown_next None follows = (
      sym (find_none (holds_page m page) from (g.dies - from) (λ k low high. bare_die None follows k low refl)) ∙ holders_from,
      tt,
    )
    shown_next (Some (d, s)) follows =
        let is = follows.found d s refl in
        let copy = shown_copy page d s is.2 is.3 (λ other inside also. once d other s page inside is.2 also is.3) in (
          sym (find_some (holds_page m page) from (g.dies - from) d is.0 (omega (arith, is.0, is.1)) (ap is_some (sym copy))
              (λ k low high. bare_die (Some (d, s)) follows k low (lt-ltb k d high)))
              ∙ holders_from,
          sym copy,
        )

  -- the entries after each copy of a page became stale
  pub shown_renewed : (page : ℕ) (version : Version) (new : List Entry) → page < m.geometry.pages → length new ≡ length entries
      → ((d s : ℕ) → s < n → entry_of new n d s ≡ retired page (entry_of entries n d s))
      → IsShown (renewed page version m) g on count (set versions page (Some version)) new
  shown_renewed page version new fits long each = record {
    plain = plain_renewed m g on count versions (map (used_of versions) entries) shown.plain page version (map (used_of (set versions page (Some version))) new) fits
        (length-map new (used_of (set versions page (Some version))) ∙ long ∙ sym (length-map entries (used_of versions)))
        (λ d s within.
        slot_mapped (set versions page (Some version)) new (d * n + s) ∙ ap (used_of (set versions page (Some version))) (each d s within)
        ∙ retired_seen versions page version (entry_of entries n d s) (λ p is. shown.known d s p within is)
        ∙ ap (option_map (without_page page)) (sym (slot_mapped versions entries (d * n + s))));
    known = λ d s q within is.
        let old = retired_current page q (entry_of entries n d s) (sym (each d s within) ∙ is) in
        ap is_some (get_or-set_other versions page q (Some version) None old.1) ∙ shown.known d s q within old.0;
  }

  -- what a slot holds no copy in, and a die that does not hold the page, are in the entries
  pub kept_free : (page : Page) (version : Version) (die slot : ℕ) → MayKeep m page version die slot → is_current_entry (entry_of entries n die slot) ≡ false
  kept_free page version die slot may =
      current_test (entry_of entries n die slot) ∙ tests states.Current die slot (subst (λ k. slot < k) size may.slot_fits) ∙ may.free
    where
      current_test : (e : Entry) → is_current_entry e ≡ is_same_state (state_of_entry e) states.Current
      current_test Erased = refl
      current_test Reserved = refl
      current_test Stale = refl
      current_test (Current p) = refl

  pub kept_once : (page : Page) (version : Version) (die slot : ℕ) → MayKeep m page version die slot
      → (other : ℕ) → other < n → entry_of entries n die other ≡ Current page.0 → ⊥
  kept_once page version die slot may other within is =
      let passes = ap (holds page.0) (seen die other within ∙ ap (used_of versions) is) ∙ held_self page.0 (version_at versions page.0) (shown.known die other page.0 within is) in
      let found = found_some (λ s. holds page.0 (used_at m die s)) 0 n other (omega arith) (omega (arith, within)) passes in
      false≢true (sym may.once ∙ ap is_some (copy_found m shown.plain.whole page.0 die ∙ ap (λ k. find (λ s. holds page.0 (used_at m die s)) (below k)) size) ∙ found)

  pub shown_dropped : (die : ℕ) (new : List Entry) → die < g.dies → length new ≡ length entries
      → ((d s : ℕ) → s < n → entry_of new n d s ≡ (if d == die then Erased else entry_of entries n d s))
      → IsShown (dropped die m) g (set on die false) (if get_or on die false then count - 1 else count) versions new
  shown_dropped die new low long each = record {
    plain = plain_dropped m g on count versions (map (used_of versions) entries) shown.plain die (map (used_of versions) new) low
        (length-map new (used_of versions) ∙ long ∙ sym (length-map entries (used_of versions)))
        (λ d s within.
        slot_mapped versions new (d * n + s) ∙ ap (used_of versions) (each d s within) ∙ dropped_seen versions (d == die) (entry_of entries n d s)
        ∙ ap (λ (o : Option Used). if d == die then None else o) (sym (slot_mapped versions entries (d * n + s))));
    known = λ d s page within is. shown.known d s page within (dropped_current (d == die) (entry_of entries n d s) page (sym (each d s within) ∙ is));
  }

  pub shown_erased : (die block : ℕ) (new : List Entry) → length new ≡ length entries
      → ((d s : ℕ) → s < n → entry_of new n d s ≡ (if d == die && s / g.slots == block then erased_entry (entry_of entries n d s) else entry_of entries n d s))
      → IsShown (without_block die block m) g on count versions new
  shown_erased die block new long each = record {
    plain = plain_erased m g on count versions (map (used_of versions) entries) shown.plain die block (map (used_of versions) new)
        (length-map new (used_of versions) ∙ long ∙ sym (length-map entries (used_of versions)))
        (λ d s within.
        slot_mapped versions new (d * n + s) ∙ ap (used_of versions) (each d s within) ∙ erased_seen versions (d == die && s / g.slots == block) (entry_of entries n d s)
        ∙ ap (λ (o : Option Used). if (d == die && s / g.slots == block) && not (is_reserved_slot o) then None else o) (sym (slot_mapped versions entries (d * n + s))));
    known = λ d s page within is. shown.known d s page within (erased_current (d == die && s / g.slots == block) (entry_of entries n d s) page (sym (each d s within) ∙ is));
  }

  -- the entries after a page was renewed and a slot came to hold it
  module _ (page : Page) (version : Version) (die slot : ℕ) (last : Bool) (mid : List Entry) (may : MayHold m page version die slot)
      (number : last ≡ is_number version (get m.versions page.0)) (full : length entries ≡ g.dies * n) (long : length mid ≡ g.dies * n)
      (renewed : (d s : ℕ) → d < g.dies → s < n → entry_of mid n d s ≡ (if last then entry_of entries n d s else retired page.0 (entry_of entries n d s))) where
    inside : slot < n
    inside = subst (λ k. slot < k) size may.slot_fits

    low : die < g.dies
    low = live_fits m g on count versions (map (used_of versions) entries) shown.plain die may.live

    known_page : page.0 < length versions
    known_page = subst (λ k. page.0 < k) (sym shown.plain.pages) (subst (λ (k : Geometry). page.0 < k.pages) shown.plain.geometry may.page_fits)

    number_at : last ≡ is_number version (version_at versions page.0)
    number_at = number ∙ ap (is_number version) (shown.plain.numbers page.0)

    -- entries of dies that are none
    beyond : (list : List Entry) → length list ≡ g.dies * n → (d s : ℕ) → g.dies ≤ d → entry_of list n d s ≡ Erased
    beyond list is d s past =
        let over = mul-le-mul_right {m = g.dies} {n = d} n past in
        get_or_past list (d * n + s) Erased (omega (arith, is, over))

    pub renewed_free : is_current_entry (entry_of mid n die slot) ≡ false
    renewed_free = elim (cases_Bool (is_current_entry (entry_of mid n die slot))) [
      | inr bare ↦ bare
      | inl held_now ↦
          let page_held = current_page (entry_of mid n die slot) held_now in
          let was = renewed_current last page.0 page_held.0 (entry_of entries n die slot) (sym (renewed die slot low inside) ∙ page_held.1) in
          absurd (false≢true (sym may.free ∙ sym (tests states.Current die slot inside) ∙ ap (λ (k : Entry). is_same_state (state_of_entry k) states.Current) was))
    ]
      where
        current_page : (e : Entry) → is_current_entry e ≡ true → (p : ℕ) × (e ≡ Current p)
        current_page Erased h = absurd (false≢true h)
        current_page Reserved h = absurd (false≢true h)
        current_page Stale h = absurd (false≢true h)
        current_page (Current p) h = (p, refl)

    pub renewed_once : (other : ℕ) → other < n → entry_of mid n die other ≡ Current page.0 → ⊥
    renewed_once other within is = go last refl
      where
        go : (b : Bool) → last ≡ b → ⊥
        go false e = (retired_current page.0 page.0 (entry_of entries n die other) (ap (λ (b : Bool). if b then entry_of entries n die other else retired page.0 (entry_of entries n die other)) (sym e) ∙ sym (renewed die other low within) ∙ is)).1 refl
        go true e =
            let was : entry_of entries n die other ≡ Current page.0 = renewed_current last page.0 page.0 (entry_of entries n die other) (sym (renewed die other low within) ∙ is) in
            twice (version_at versions page.0) refl (shown.known die other page.0 within was) was
          where
            twice : (o : Option Version) → version_at versions page.0 ≡ o → is_some o ≡ true → entry_of entries n die other ≡ Current page.0 → ⊥
            twice None at some was = false≢true some
            twice (Some v) at some was =
                let seqs : (v.seq.0 == version.seq.0) ≡ true = sym (number_at ∙ ap (is_number version) at) ∙ e in
                false≢true (sym (may.once other v (seen die other within ∙ ap (used_of versions) was ∙ ap (held page.0) at)) ∙ seqs)

    pub shown_current : IsShown (made_current page version die slot m) g on count (set versions page.0 (Some version)) (set mid (die * n + slot) (Current page.0))
    shown_current = record {
      plain = told g on (set versions page.0 (Some version)) (made_current page version die slot m) (made_current page version die slot m) count count _
          (map (used_of (set versions page.0 (Some version))) (set mid (die * n + slot) (Current page.0))) refl refl
          (map-set (used_of (set versions page.0 (Some version))) mid (die * n + slot) (Current page.0)
          ∙ ap (λ (o : Option Version). set (map (used_of (set versions page.0 (Some version))) mid) (die * n + slot) (held page.0 o)) (get_or-set_same versions page.0 (Some version) None known_page))
          (plain_current m g on count versions (map (used_of versions) entries) shown.plain page version die slot (map (used_of (set versions page.0 (Some version))) mid) may
          (length-map mid (used_of (set versions page.0 (Some version))) ∙ long ∙ sym full ∙ sym (length-map entries (used_of versions))) each);
      known = λ d s q within is. elim (cases_eq q page.0) [
        | inl same ↦
            ap is_some (ap (version_at (set versions page.0 (Some version))) same ∙ get_or-set_same versions page.0 (Some version) None known_page)
        | inr apart ↦
            ap is_some (get_or-set_other versions page.0 q (Some version) None apart)
            ∙ shown.known d s q within (was d s q within (elim (place_cases d s die slot) [
              | inl at ↦ absurd (apart (same_page q page.0 (sym is ∙ entry_same mid n die slot d s (Current page.0) mid_fits at.0 at.1)))
              | inr off ↦ sym (entry_other mid n die slot d s (Current page.0) inside within off) ∙ is
            ]))
      ];
    }
      where
        mid_fits : die * n + slot < length mid
        mid_fits = subst (λ k. die * n + slot < k) (sym long) (index_fits die slot g.dies n low inside)

        was : (d s q : ℕ) → s < n → entry_of mid n d s ≡ Current q → entry_of entries n d s ≡ Current q
        was d s q within is =
            elim (cases_lt d g.dies) [
              | inl few ↦ renewed_current last page.0 q (entry_of entries n d s) (sym (renewed d s few within) ∙ is)
              | inr past ↦ absurd (bare_entry Erased q refl (sym (beyond mid long d s past) ∙ is))
            ]

        each : (d s : ℕ) → s < n → slot_at (map (used_of (set versions page.0 (Some version))) mid) (d * n + s) ≡ option_map (outdated page.0 version) (slot_at (map (used_of versions) entries) (d * n + s))
        each d s within =
            slot_mapped (set versions page.0 (Some version)) mid (d * n + s)
            ∙ elim (cases_lt d g.dies) [
              | inl few ↦
                  ap (used_of (set versions page.0 (Some version))) (renewed d s few within)
                  ∙ renewed_seen versions page version known_page last number_at (λ v at. may.one_kind v (shown.plain.numbers page.0 ∙ at)) (entry_of entries n d s) (λ q is. shown.known d s q within is)
              | inr past ↦
                  ap (used_of (set versions page.0 (Some version))) (beyond mid long d s past)
                  ∙ ap (λ e. option_map (outdated page.0 version) (used_of versions e)) (sym (beyond entries full d s past))
            ]
            ∙ ap (option_map (outdated page.0 version)) (sym (slot_mapped versions entries (d * n + s)))
