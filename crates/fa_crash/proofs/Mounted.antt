-- A page that was promised is mounted with its number or a greater one, and with the bytes that were reserved.
use Rattle.fa_crash.specs.Outlasts.{AreReserved, IsLeftOn}
use Rattle.fa_crash.specs.Left.{HasOutlasted, IsMountedLeft}
use Rattle.fa_machine.specs.Cells.{Cell, Sealed}
use Rattle.fa_machine.specs.State.{MapState, is_live}
use Rattle.fa_machine.specs.World.{World}
use Rattle.fa_machine.specs.declared.places.Version.{Version}
use Rattle.fa_mount_scan.proofs.MountedFacts.{held_found, live_found, used_within, written_held}
use Rattle.fa_mount_scan.specs.Content.{Contents, HasCopy, IsLastOf, found_at}
use Rattle.fa_mount_scan.specs.ContentCells.{IsCellOf, tag_of}
use Rattle.fa_mount_scan.specs.ContentReading.{IsContentOf}
use Rattle.fa_mount_scan.specs.MountedWorld.{HoldsPayload, SlotBytes}
use Rattle.fa_mount_scan.specs.declared.slots.content.SlotContent.{SlotContent}
use Rattle.fa_mount_scan.specs.declared.slots.content.SlotContent.TheVariants.{Copy}
use Rattle.fa_tag.specs.SlotGrammar.{IsSlot}
use Rattle.fa_types.specs.declared.geometry.Geometry.{Geometry}
use Rattle.fa_types.specs.declared.numbers.Page.{Page}
use Rattle.std.proofs.Common.{Bool, List, None, Option, Some, ap, arith, refl, slice_get, subst, sym, true, ℕ, ◌*◌, ◌<◌, ◌∙◌, ◌≡◌, ◌≤◌}
use Rattle.std.specs.FinMap.{get}
use Rattle.std.specs.Prelude.{is_some, option_and_then, ◌↔◌}

abbrev pub OneCellLaw : Type 0
OneCellLaw = (bytes : List ℕ) (a b : Cell) → IsCellOf bytes a → IsCellOf bytes b → a ≡ b

abbrev pub CopyLaw : Type 0
CopyLaw = (bytes : List ℕ) (pages die slot : ℕ) (content : SlotContent) (cell : Cell) (page : Page) (version : Version)
    → IsContentOf bytes pages die slot content → IsCellOf bytes cell
    → content ≡ Copy page version ↔ ((page.0 < pages) × (payload : List ℕ) × (cell ≡ Sealed page.0 version die slot payload))

module _ (one_cell : OneCellLaw) (copy_law : CopyLaw) (first w : World) (cells : ℕ → ℕ → Cell) (bytes : SlotBytes) (is_spare : ℕ → Bool) (m : MapState)
    (l : IsMountedLeft first w cells bytes is_spare m) (page number : ℕ) where
  abbrev contents : Contents
  contents = l.holds.contents

  abbrev geometry : Geometry
  geometry = m.geometry

  abbrev the_page : Page
  the_page = record { 0 = page }

  -- what was found in a slot of a live die, and what is known of it
  pub record FoundAt (die slot : ℕ) : Type 0 where
    pub content : SlotContent
    pub found : found_at contents die slot ≡ Some content
    pub is : IsContentOf (bytes die slot) geometry.pages die slot content

  found_live : (die slot : ℕ) → is_live m die ≡ true → slot < geometry.blocks * geometry.slots → FoundAt die slot
  found_live die slot alive inside =
      let f = live_found geometry contents m l.holds.are l.holds.content die slot alive inside in
      let found : found_at contents die slot ≡ Some f.1 = ap (option_and_then (λ slots. slice_get slots slot)) f.2 ∙ f.3 in
      record { content = f.1; found = found; is = l.holds.found die slot f.1 found }

  -- a good cell of a live die was found as a copy
  copy_found : (die : ℕ) → is_live m die ≡ true → (left : IsLeftOn w cells page number die)
      → HasCopy contents the_page left.version die left.slot
  copy_found die alive left =
      let inside = subst (λ (g : Geometry). left.slot < g.blocks * g.slots) (sym l.are_left.shape) left.inside in
      let f = found_live die left.slot alive inside in
      let low = subst (λ (g : Geometry). page < g.pages) (sym l.are_left.shape) left.inside_page in
      f.found ∙ ap Some ((copy_law (bytes die left.slot) geometry.pages die left.slot f.content (cells die left.slot) the_page left.version f.is
      (l.are_left.left die left.slot alive inside)).1 (low, left.payload, left.stands))

  -- the page's number is that one or a greater one
  pub number_left : (die : ℕ) → is_live m die ≡ true → IsLeftOn w cells page number die
      → (version : Version) × (get m.versions page ≡ Some version) × (number ≤ version.seq.0)
  number_left die alive left = at (get m.versions page) refl (l.holds.content.numbers the_page)
    where
      at : (o : Option Version) → get m.versions page ≡ o → IsLastOf (HasCopy contents the_page) o
          → (version : Version) × (get m.versions page ≡ Some version) × (number ≤ version.seq.0)
      at None e none = absurd (none left.version die left.slot (copy_found die alive left))
      at (Some version) e last =
          let most = last.greatest left.version die left.slot (copy_found die alive left) in
          let newer = left.newer in (version, e, omega (arith, most, newer))

module _ (one_cell : OneCellLaw) (copy_law : CopyLaw) (first w : World) (cells : ℕ → ℕ → Cell) (bytes : SlotBytes) (is_spare : ℕ → Bool) (m : MapState)
    (l : IsMountedLeft first w cells bytes is_spare m) (page number : ℕ) (reserved : AreReserved first w cells page number) where
  abbrev named : Page
  named = record { 0 = page }

  -- a copy that is held has the bytes that were reserved
  pub held_bytes : (version : Version) → number ≤ version.seq.0 → (d s : ℕ) (payload : List ℕ) → HoldsPayload bytes m page version d s payload
      → payload ≡ w.payloads page version.seq.0
  held_bytes version newer d s payload h =
      let place = used_within m.geometry l.holds.contents m l.holds.are l.holds.content d s (ap is_some h.held) in
      let e : cells d s ≡ Sealed page version d s payload = one_cell (bytes d s) (cells d s) (Sealed page version d s payload) (l.are_left.left d s place.0 place.1) h.sealed in
      reserved d s version payload (l.are_left.ours d place.0) (subst (λ (g : Geometry). s < g.blocks * g.slots) l.are_left.shape place.1) e newer

  -- some die holds it
  some_held : (version : Version) → get m.versions page ≡ Some version → number ≤ version.seq.0
      → (d : ℕ) × (s : ℕ) × HoldsPayload bytes m page version d s (w.payloads page version.seq.0)
  some_held version is newer =
      let h = written_held m.geometry l.holds.contents m l.holds.are l.holds.content named version is in
      let d = h.0 in
      let s = h.1 in
      let place = used_within m.geometry l.holds.contents m l.holds.are l.holds.content d s (ap is_some h.2) in
      let f = held_found m.geometry l.holds.contents m l.holds.are l.holds.content d s named version h.2 in
      let cell = (copy_law (bytes d s) m.geometry.pages d s (Copy named version) (cells d s) named version (l.holds.found d s (Copy named version) f.1)
      (l.are_left.left d s place.0 place.1)).0 refl in
      let sealed : IsSlot (tag_of page version d s) cell.1 (bytes d s) = subst (IsCellOf (bytes d s)) cell.2 (l.are_left.left d s place.0 place.1) in
      let same : cell.1 ≡ w.payloads page version.seq.0 = held_bytes version newer d s cell.1 (record { held = h.2; sealed = sealed }) in
      (d, s, record { held = h.2; sealed = subst (λ (p : List ℕ). IsSlot (tag_of page version d s) p (bytes d s)) same sealed })

  pub outlasted : (die : ℕ) → is_live m die ≡ true → IsLeftOn w cells page number die → HasOutlasted w bytes m page number
  outlasted die alive left =
      let n = number_left one_cell copy_law first w cells bytes is_spare m l page number die alive left in
      let h = some_held n.0 n.1 n.2 in
      record { version = n.0; is = n.1; newer = n.2; die = h.0; slot = h.1; held = h.2; each = held_bytes n.0 n.2 }
