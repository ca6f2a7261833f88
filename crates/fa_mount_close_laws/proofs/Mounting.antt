-- What is mounted of the dies on which all pages are held is what the array had.
use Rattle.fa_mount_close_laws.proofs.Kept.{Kept}
use Rattle.fa_mount_close_laws.proofs.Standing.{last_on}
use Rattle.fa_mount_close_laws.specs.LastCells.{AreOfLast, HasCell, HoldAll, IsLastCell, IsLastOn}
use Rattle.fa_mount_close_laws.specs.Mounted.{AreCellsOf, IsLastCopy, LastCopiesAgree}
use Rattle.fa_machine.specs.Cells.{Sealed}
use Rattle.fa_machine.specs.Reading.{zeros}
use Rattle.fa_machine.specs.State.{MapState, is_live}
use Rattle.fa_machine.specs.World.{World, plain_page}
use Rattle.fa_machine.specs.declared.places.Version.{Version}
use Rattle.fa_mount_scan.proofs.Cells.{one_cell}
use Rattle.fa_mount_scan.proofs.Filling.{slots_of_found}
use Rattle.fa_mount_scan.proofs.LastWrites.{found_on}
use Rattle.fa_mount_scan.proofs.MountedFacts.{held_found, live_found, read_live, used_within}
use Rattle.fa_mount_scan.proofs.SlotCells.{copy_is_sealed}
use Rattle.fa_mount_scan.specs.Content.{HasCopy, IsLastOf, IsLastWrite}
use Rattle.fa_mount_scan.specs.MountedWorld.{CopiesAgree, HoldMap, HoldsPayload, IsFirstPlain, IsMountedWorld, SlotBytes}
use Rattle.fa_types.specs.declared.geometry.Geometry.{Geometry}
use Rattle.fa_types.specs.declared.numbers.Page.{Page}
use Rattle.std.proofs.Common.{Bool, List, None, Option, Some, [], ap, arith, refl, subst, sym, true, ℕ, ◌*◌, ◌<◌, ◌∙◌, ◌≡◌}
use Rattle.std.proofs.lemmas.List.{ext_get_or}
use Rattle.std.proofs.lemmas.Option.{slice_get_within}
use Rattle.std.specs.FinMap.{get}
use Rattle.std.specs.Prelude.{is_some}

module _ (w : World) (kept : Kept w) (last : AreOfLast w) (these : ℕ → Bool) (all : HoldAll w these) (bytes : SlotBytes) (is_spare : ℕ → Bool) (m : MapState)
    (shape : m.geometry ≡ w.core.page_map.geometry) (hold : HoldMap bytes is_spare m.geometry m)
    (lives : (die : ℕ) → is_live m die ≡ these die) (cells : AreCellsOf w these bytes) where
  total_is : m.geometry.blocks * m.geometry.slots ≡ w.core.page_map.geometry.blocks * w.core.page_map.geometry.slots
  total_is = ap (λ (g : Geometry). g.blocks * g.slots) shape

  pages_are : m.geometry.pages ≡ w.core.page_map.geometry.pages
  pages_are = ap (λ (g : Geometry). g.pages) shape

  -- a copy that was found is a good cell of a die that is mounted
  cell_of : (page : Page) (version : Version) (die slot : ℕ) → HasCopy hold.contents page version die slot
      → (payload : List ℕ) × (these die ≡ true) × (page.0 < m.geometry.pages) × HasCell w page.0 version payload die slot
  cell_of page version die slot copy =
      let on = slots_of_found hold.contents die slot _ copy in
      let live = read_live m.geometry hold.contents m hold.are hold.content die on.0 on.1 in
      let here : these die ≡ true = sym (lives die) ∙ live in
      let long = hold.are.slots die on.0 on.1 in
      let short = slice_get_within on.0 slot _ on.2 in
      let total = total_is in
      let inside : slot < w.core.page_map.geometry.blocks * w.core.page_map.geometry.slots = omega (arith, long, short, total) in
      let sealed = (copy_is_sealed (bytes die slot) m.geometry.pages die slot _ (hold.found die slot _ copy) ((w.images die).seen slot) (cells die slot here inside)
      page version).0 refl in
      (sealed.1, here, sealed.0, record { inside = inside; sealed = sealed.2 })

  -- a good cell of a die that is mounted was found as a copy
  copy_of : (page : ℕ) (version : Version) (payload : List ℕ) (die slot : ℕ) → page < m.geometry.pages → these die ≡ true
      → HasCell w page version payload die slot → HasCopy hold.contents (record { 0 = page }) version die slot
  copy_of page version payload die slot low here cell =
      let total = total_is in
      let inside = cell.inside in
      let found = live_found m.geometry hold.contents m hold.are hold.content die slot (lives die ∙ here) (omega (arith, inside, total)) in
      let at = found_on hold.contents die slot found.0 found.2 ∙ found.3 in
      at ∙ ap Some ((copy_is_sealed (bytes die slot) m.geometry.pages die slot found.1 (hold.found die slot found.1 at) ((w.images die).seen slot)
      (cells die slot here cell.inside) (record { 0 = page }) version).1 (low, payload, cell.sealed))

  written_low : (page : ℕ) (version : Version) → get w.core.page_map.versions page ≡ Some version → page < m.geometry.pages
  written_low page version e = let n = (kept.sound.numbers page version e).inside in let p = pages_are in omega (arith, n, p)

  -- each page has the number that it had
  pub same_number : (page : ℕ) → get m.versions page ≡ get w.core.page_map.versions page
  same_number page = both (get m.versions page) (get w.core.page_map.versions page) refl refl
    where
      named : Page
      named = record { 0 = page }

      on_dies : page < m.geometry.pages → IsLastOn w these page (get w.core.page_map.versions page)
      on_dies low = let p = pages_are in last_on w kept last these all page (omega (arith, low, p))

      both : (found number : Option Version) → get m.versions page ≡ found → get w.core.page_map.versions page ≡ number → found ≡ number
      both None None f n = refl
      both None (Some v) f n =
          let low = written_low page v n in
          let write : IsLastCell w these page v (plain_page w page) = subst (IsLastOn w these page) n (on_dies low) in
          absurd (subst (IsLastOf (HasCopy hold.contents named)) f (hold.content.numbers named) v write.die write.slot
          (copy_of page v (plain_page w page) write.die write.slot low write.here write.cell))
      both (Some u) None f n =
          let write : IsLastWrite (HasCopy hold.contents named) u = subst (IsLastOf (HasCopy hold.contents named)) f (hold.content.numbers named) in
          let cell = cell_of named u write.die write.slot write.copied in
          absurd (subst (IsLastOn w these page) n (on_dies cell.2) u cell.0 write.die write.slot cell.1 cell.3)
      both (Some u) (Some v) f n =
          let low = written_low page v n in
          let mine : IsLastCell w these page v (plain_page w page) = subst (IsLastOn w these page) n (on_dies low) in
          let write : IsLastWrite (HasCopy hold.contents named) u = subst (IsLastOf (HasCopy hold.contents named)) f (hold.content.numbers named) in
          let cell = cell_of named u write.die write.slot write.copied in
          let below = mine.greatest u cell.0 write.die write.slot cell.1 cell.3 in
          let above = write.greatest v mine.die mine.slot (copy_of page v (plain_page w page) mine.die mine.slot low mine.here mine.cell) in
          ap Some (mine.same u cell.0 write.die write.slot cell.1 cell.3 (omega (arith, below, above))).0

  -- a copy of a last write has the plain array's page
  pub copy_plain : (page : ℕ) (number version : Version) (payload : List ℕ) (die slot : ℕ) → IsLastCopy bytes m page number version payload die slot
      → (version ≡ number) × (payload ≡ plain_page w page)
  copy_plain page number version payload die slot copy =
      let here : these die ≡ true = sym (lives die) ∙ copy.live in
      let total = total_is in
      let within = copy.inside in
      let inside : slot < w.core.page_map.geometry.blocks * w.core.page_map.geometry.slots = omega (arith, within, total) in
      let sealed = one_cell (bytes die slot) ((w.images die).seen slot) (Sealed page version die slot payload) (cells die slot here inside) copy.sealed in
      let was = sym (same_number page) ∙ copy.is_last in
      let p = pages_are in
      let low = written_low page number was in
      let write : IsLastCell w these page number (plain_page w page) =
      subst (IsLastOn w these page) was (last_on w kept last these all page (omega (arith, low, p))) in
      write.same version payload die slot here (record { inside = inside; sealed = sealed }) copy.numbered

  -- so the copies of last writes agree again
  pub agree_again : LastCopiesAgree bytes m
  agree_again page number version other one two die slot d s a b =
      let first = copy_plain page number version one die slot a in
      let second = copy_plain page number other two d s b in
      (first.0 ∙ sym second.0, first.1 ∙ sym second.1)

  held_copy : (page : ℕ) (version : Version) (die slot : ℕ) (payload : List ℕ) → HoldsPayload bytes m page version die slot payload
      → IsLastCopy bytes m page version version payload die slot
  held_copy page version die slot payload holds =
      let there = used_within m.geometry hold.contents m hold.are hold.content die slot (ap is_some holds.held) in
      let found = held_found m.geometry hold.contents m hold.are hold.content die slot (record { 0 = page }) version holds.held in
      record { is_last = found.0; numbered = refl; live = there.0; inside = there.1; sealed = holds.sealed }

  pub current_again : CopiesAgree bytes m
  current_again page version other die slot d s one two a b =
      (copy_plain page version version one die slot (held_copy page version die slot one a)).1
      ∙ sym (copy_plain page other other two d s (held_copy page other d s two b)).1

  -- what a mounted world begins with for a page is what the plain array had
  pub first_plain : (page : ℕ) (plain : List ℕ) → page < m.geometry.pages → IsFirstPlain bytes m page plain (get m.versions page) → plain ≡ plain_page w page
  first_plain page plain low first = by_number (get m.versions page) refl first
    where
      by_number : (number : Option Version) → get m.versions page ≡ number → IsFirstPlain bytes m page plain number → plain ≡ plain_page w page
      by_number None e is =
          is ∙ ap (λ (g : Geometry). zeros (record m { geometry = g })) shape
          ∙ sym (kept.held.holds.unwritten page (let p = pages_are in omega (arith, low, p)) (sym (same_number page) ∙ e))
      by_number (Some version) e is = (copy_plain page version version plain is.0 is.1 (held_copy page version is.0 is.1 plain is.2)).1

-- a world over what was mounted has the plain array of before
pub same_plain : (w : World) (kept : Kept w) (last : AreOfLast w) (these : ℕ → Bool) (all : HoldAll w these) (bytes : SlotBytes) (is_spare : ℕ → Bool) (v : World)
    → v.core.page_map.geometry ≡ w.core.page_map.geometry → ((die : ℕ) → is_live v.core.page_map die ≡ these die) → AreCellsOf w these bytes
    → IsMountedWorld bytes is_spare v → v.plain ≡ w.plain
same_plain w kept last these all bytes is_spare v shape lives cells is =
    let many = is.pages.0 in
    let were = kept.held.holds.plain in
    let p = ap (λ (g : Geometry). g.pages) shape in
    ext_get_or [] v.plain w.plain (omega (arith, many, were, p))
    (λ page low. first_plain w kept last these all bytes is_spare v.core.page_map shape is.holds lives cells page (plain_page v page)
    (omega (arith, low, many)) (is.plain page (omega (arith, low, many))))
