-- What the mounted content says of its map.
use Rattle.std.proofs.Common.{◌≡◌, ℕ, ◌*◌, ◌<◌, ◌==◌, inl, inr, true, List, Option, Some, None, refl, sym, ap, subst, ◌∙◌, arith}
use Rattle.std.proofs.Common.{slice_get}
use Rattle.std.proofs.lemmas.Bool.{and_parts, cases_lt, eqb-true, false≢true}
use Rattle.std.proofs.lemmas.Option.{none-some, same_Some, slice_get_cases, slice_get_within}
use Rattle.std.specs.FinMap.{get}
use Rattle.std.specs.Prelude.{is_some}
use Rattle.fa_types.specs.declared.geometry.Geometry.{Geometry}
use Rattle.fa_types.specs.declared.numbers.Page.{Page}
use Rattle.fa_machine.specs.Copies.{holds_last, is_current}
use Rattle.fa_machine.specs.State.{MapState, is_live, used_at}
use Rattle.fa_machine.specs.declared.places.Used.{Used}
use Rattle.fa_machine.specs.declared.places.Used.TheVariants.{Reserved, Held, Stale as StaleSlot}
use Rattle.fa_machine.specs.declared.places.Version.{Version}
use Rattle.fa_mount_scan.proofs.Filling.{read_die_below, slots_of_found}
use Rattle.fa_mount_scan.proofs.LastWrites.{found_on, same_page}
use Rattle.fa_mount_scan.specs.Content.{AreContents, Contents, HasCopy, IsHolder, IsLastOf, IsMountedContent, IsStateOf, found_at, slots_on}
use Rattle.fa_mount_scan.specs.declared.slots.content.SlotContent.{SlotContent}
use Rattle.fa_mount_scan.specs.declared.slots.content.SlotContent.TheVariants.{Erased, Copy, Stale}

-- a slot in the state of what was found holds a page where a copy of it was found, and the die has no lower one
held_state : (slots : List SlotContent) (last : ℕ → Option Version) (slot : ℕ) (content : SlotContent) (used : Option Used) (page : Page)
    (version : Version) → IsStateOf slots last slot content used → used ≡ Some (Held page version)
    → (content ≡ Copy page version) × IsHolder slots (last page.0) page version slot
held_state slots last slot Erased used page version is e = absurd (none-some (Held page version) (sym is ∙ e))
held_state slots last slot Stale used page version is e = let other : Some StaleSlot ≡ Some (Held page version) = sym is ∙ e in cc
held_state slots last slot (Copy p v) used page version (inl x) e =
    let same : Some (Held p v) ≡ Some (Held page version) = sym x.0 ∙ e in
    let pages : p ≡ page = cc in
    let versions : v ≡ version = cc in
    (cc, subst (λ (q : Page). IsHolder slots (last q.0) q version slot) pages (subst (λ w. IsHolder slots (last p.0) p w slot) versions x.1))
held_state slots last slot (Copy p v) used page version (inr x) e = let other : Some StaleSlot ≡ Some (Held page version) = sym x.0 ∙ e in cc

none_state : (slots : List SlotContent) (last : ℕ → Option Version) (slot : ℕ) (content : SlotContent) (used : Option Used)
    → IsStateOf slots last slot content used → used ≡ None → content ≡ Erased
none_state slots last slot Erased used is e = refl
none_state slots last slot Stale used is e = absurd (none-some StaleSlot (sym e ∙ is))
none_state slots last slot (Copy p v) used (inl x) e = absurd (none-some (Held p v) (sym e ∙ x.0))
none_state slots last slot (Copy p v) used (inr x) e = absurd (none-some StaleSlot (sym e ∙ x.0))

not_reserved : (slots : List SlotContent) (last : ℕ → Option Version) (slot : ℕ) (content : SlotContent) (used : Option Used)
    → IsStateOf slots last slot content used → ¬ (used ≡ Some Reserved)
not_reserved slots last slot Erased used is e = none-some Reserved (sym is ∙ e)
not_reserved slots last slot Stale used is e = let other : Some StaleSlot ≡ Some Reserved = sym is ∙ e in cc
not_reserved slots last slot (Copy p v) used (inl x) e = let other : Some (Held p v) ≡ Some Reserved = sym x.0 ∙ e in cc
not_reserved slots last slot (Copy p v) used (inr x) e = let other : Some StaleSlot ≡ Some Reserved = sym x.0 ∙ e in cc

holder_state : (slots : List SlotContent) (last : ℕ → Option Version) (slot : ℕ) (page : Page) (version : Version) (used : Option Used)
    → IsStateOf slots last slot (Copy page version) used → IsHolder slots (last page.0) page version slot → used ≡ Some (Held page version)
holder_state slots last slot page version used (inl x) holder = x.0
holder_state slots last slot page version used (inr x) holder = absurd (x.1 holder)

-- a slot that holds the last write of a page
pub record HoldsLast (m : MapState) (page die slot : ℕ) : Type 0 where
  pub named : Page
  pub version : Version
  pub is_page : named.0 ≡ page
  pub held : used_at m die slot ≡ Some (Held named version)

holds_from : (m : MapState) (page die slot : ℕ) (number : Option Version) (used : Option Used) → used_at m die slot ≡ used
    → holds_last page number used ≡ true → HoldsLast m page die slot
holds_from m page die slot None used is e = absurd (false≢true e)
holds_from m page die slot (Some n) None is e = absurd (false≢true e)
holds_from m page die slot (Some n) (Some Reserved) is e = absurd (false≢true e)
holds_from m page die slot (Some n) (Some StaleSlot) is e = absurd (false≢true e)
holds_from m page die slot (Some n) (Some (Held p v)) is e =
    record { named = p; version = v; is_page = eqb-true p.0 page (and_parts (p.0 == page) (v.seq.0 == n.seq.0) e).0; held = is }

module _ (geometry : Geometry) (contents : Contents) (m : MapState) (are : AreContents geometry contents)
    (is : IsMountedContent geometry contents m) where
  -- a die is live where its slots were read
  live_read : (die : ℕ) → is_live m die ≡ true → (slots : List SlotContent) × (slots_on contents die ≡ Some slots)
  live_read die live = go (slots_on contents die) refl
    where
      go : (o : Option (List SlotContent)) → slots_on contents die ≡ o → (slots : List SlotContent) × (slots_on contents die ≡ Some slots)
      go None on = absurd (false≢true (sym (is.live die ∙ ap is_some on) ∙ live))
      go (Some slots) on = (slots, on)

  pub read_live : (die : ℕ) (slots : List SlotContent) → slots_on contents die ≡ Some slots → is_live m die ≡ true
  read_live die slots on = is.live die ∙ ap is_some on

  pub live_within : (die : ℕ) → is_live m die ≡ true → die < geometry.dies
  live_within die live =
      let read = live_read die live in
      let below = read_die_below contents die read.0 read.1 in
      let dies = are.dies in
      omega (arith, below, dies)

  -- something was found in each slot of a live die
  pub live_found : (die slot : ℕ) → is_live m die ≡ true → slot < geometry.blocks * geometry.slots
      → (slots : List SlotContent) × (content : SlotContent) × (slots_on contents die ≡ Some slots) × (slice_get slots slot ≡ Some content)
  live_found die slot live within =
      let read = live_read die live in
      let long = are.slots die read.0 read.1 in
      elim (slice_get_cases read.0 slot).1 [
        | inl found ↦ (read.0, found.0, read.1, found.2)
        | inr past ↦ absurd (let over = past.0 in omega (arith, over, long, within))
      ]

  pub used_within : (die slot : ℕ) → is_some (used_at m die slot) ≡ true
      → (is_live m die ≡ true) × (slot < geometry.blocks * geometry.slots)
  used_within die slot used = go (found_at contents die slot) refl
    where
      go : (o : Option SlotContent) → found_at contents die slot ≡ o → (is_live m die ≡ true) × (slot < geometry.blocks * geometry.slots)
      go None found = absurd (false≢true (sym (ap is_some (is.others die slot found)) ∙ used))
      go (Some content) found =
          let read = slots_of_found contents die slot content found in
          let long = are.slots die read.0 read.1 in
          let within = slice_get_within read.0 slot content read.2 in
          (read_live die read.0 read.1, omega (arith, within, long))

  -- what a slot holds was found in it, and is its page's last write
  pub record IsHeldAt (die slot : ℕ) (page : Page) (version : Version) : Type 0 where
    pub slots : List SlotContent
    pub on : slots_on contents die ≡ Some slots
    pub found : slice_get slots slot ≡ Some (Copy page version)
    pub holder : IsHolder slots (get m.versions page.0) page version slot

  pub held_at : (die slot : ℕ) (page : Page) (version : Version) → used_at m die slot ≡ Some (Held page version) → IsHeldAt die slot page version
  held_at die slot page version held =
      let place = used_within die slot (ap is_some held) in
      let read = live_found die slot place.0 place.1 in
      let state = held_state read.0 (get m.versions) slot read.1 (used_at m die slot) page version (is.used die slot read.0 read.1 read.2 read.3) held in
      record { slots = read.0; on = read.2; found = read.3 ∙ ap Some state.0; holder = state.1 }

  pub held_found : (die slot : ℕ) (page : Page) (version : Version) → used_at m die slot ≡ Some (Held page version)
      → (get m.versions page.0 ≡ Some version) × (found_at contents die slot ≡ Some (Copy page version))
  held_found die slot page version held =
      let at = held_at die slot page version held in
      (at.holder.is_last, found_on contents die slot at.slots at.on ∙ at.found)

  pub none_found : (die slot : ℕ) → is_live m die ≡ true → slot < geometry.blocks * geometry.slots → used_at m die slot ≡ None
      → found_at contents die slot ≡ Some Erased
  none_found die slot live within none =
      let read = live_found die slot live within in
      found_on contents die slot read.0 read.2 ∙ read.3
      ∙ ap Some (none_state read.0 (get m.versions) slot read.1 (used_at m die slot) (is.used die slot read.0 read.1 read.2 read.3) none)

  pub none_reserved : (die slot : ℕ) → ¬ (used_at m die slot ≡ Some Reserved)
  none_reserved die slot reserved =
      let place = used_within die slot (ap is_some reserved) in
      let read = live_found die slot place.0 place.1 in
      not_reserved read.0 (get m.versions) slot read.1 (used_at m die slot) (is.used die slot read.0 read.1 read.2 read.3) reserved

  pub held_once : (page : Page) (version other : Version) (die slot s : ℕ) → used_at m die slot ≡ Some (Held page version)
      → used_at m die s ≡ Some (Held page other) → slot ≡ s
  held_once page version other die slot s held again =
      let a = held_at die slot page version held in
      let b = held_at die s page other again in
      let slots : a.slots ≡ b.slots = same_Some a.slots b.slots (sym a.on ∙ b.on) in
      let versions : version ≡ other = same_Some version other (sym a.holder.is_last ∙ b.holder.is_last) in
      elim (cases_lt slot s) [
        | inl lower ↦ absurd (b.holder.lowest slot lower (ap (λ (l : List SlotContent). slice_get l slot) (sym slots) ∙ a.found ∙ ap (λ v. Some (Copy page v)) versions))
        | inr high ↦ elim (cases_lt s slot) [
          | inl lower ↦ absurd (a.holder.lowest s lower (ap (λ (l : List SlotContent). slice_get l s) slots ∙ b.found ∙ ap (λ v. Some (Copy page v)) (sym versions)))
          | inr low ↦ omega (arith, high, low)
        ]
      ]

  current_held : (page die slot : ℕ) → is_current m page die slot ≡ true → HoldsLast m page die slot
  current_held page die slot current =
      holds_from m page die slot (get m.versions page) (used_at m die slot) refl
      (and_parts (is_live m die) (holds_last page (get m.versions page) (used_at m die slot)) current).1

  pub current_once : (page die slot other : ℕ) → is_current m page die slot ≡ true → is_current m page die other ≡ true → slot ≡ other
  current_once page die slot other current again =
      let a = current_held page die slot current in
      let b = current_held page die other again in
      held_once a.named a.version b.version die slot other a.held
      (b.held ∙ ap (λ p. Some (Held p b.version)) (same_page b.named a.named (b.is_page ∙ sym a.is_page)))

  -- a page that was written is held where its last write was found first
  pub written_held : (page : Page) (version : Version) → get m.versions page.0 ≡ Some version
      → (die : ℕ) × (slot : ℕ) × (used_at m die slot ≡ Some (Held page version))
  written_held page version written =
      let last = subst (IsLastOf (HasCopy contents page)) written (is.numbers page) in
      let read = slots_of_found contents last.die last.slot (Copy page version) last.copied in (
        last.die,
        last.slot,
        holder_state read.0 (get m.versions) last.slot page version (used_at m last.die last.slot)
            (is.used last.die last.slot read.0 (Copy page version) read.1 read.2)
            (record {
              is_last = written;
              lowest = λ s lower there. last.lowest version last.die s (found_on contents last.die s read.0 read.1 ∙ there) refl (inr (refl, lower));
            }),
      )

  pub written_within : (page : ℕ) → is_some (get m.versions page) ≡ true → page < geometry.pages
  written_within page written = go (get m.versions page) refl
    where
      go : (o : Option Version) → get m.versions page ≡ o → page < geometry.pages
      go None none = absurd (false≢true (sym (ap is_some none) ∙ written))
      go (Some version) last =
          let p : Page = record { 0 = page } in
          let at = written_held p version last in
          are.pages at.0 at.1 p version (held_found at.0 at.1 p version at.2).1
