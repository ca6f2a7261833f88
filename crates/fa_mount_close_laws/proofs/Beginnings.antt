-- In a world that was mounted each good cell is of its page's last write or of an older one, where the copies of last writes agree.
use Rattle.fa_mount_close_laws.specs.LastCells.{AreOfLast, HasCell, IsOfLast}
use Rattle.fa_mount_close_laws.specs.Mounted.{LastCopiesAgree}
use Rattle.fa_machine.specs.Cells.{Sealed}
use Rattle.fa_machine.specs.State.{is_live}
use Rattle.fa_machine.specs.World.{World, plain_page}
use Rattle.fa_machine.specs.declared.places.Version.{Version}
use Rattle.fa_mount_scan.proofs.LastWrites.{found_on}
use Rattle.fa_mount_scan.proofs.MountedFacts.{held_found, live_found, used_within}
use Rattle.fa_mount_scan.proofs.SlotCells.{copy_is_sealed}
use Rattle.fa_mount_scan.specs.Content.{HasCopy, IsLastOf, IsLastWrite}
use Rattle.fa_mount_scan.specs.ContentCells.{IsCellOf}
use Rattle.fa_mount_scan.specs.MountedWorld.{CopiesAgree, IsFirstPlain, IsMountedWorld, SlotBytes}
use Rattle.std.proofs.Common.{Bool, List, None, Option, Some, ap, refl, subst, sym, true, ℕ, ◌<◌, ◌∙◌, ◌≡◌}
use Rattle.std.proofs.lemmas.Bool.{or_left}
use Rattle.std.proofs.lemmas.Option.{same_Some}
use Rattle.std.specs.FinMap.{contains_key, get}
use Rattle.std.specs.Prelude.{is_some}

-- the current copies agree too
pub current_agree : (bytes : SlotBytes) (is_spare : ℕ → Bool) (w : World) → IsMountedWorld bytes is_spare w → LastCopiesAgree bytes w.core.page_map
    → CopiesAgree bytes w.core.page_map
current_agree bytes is_spare w is agree page version other die slot d s one two a b =
    let g = w.core.page_map.geometry in
    let m = w.core.page_map in
    let first = held_found g is.holds.contents m is.holds.are is.holds.content die slot (record { 0 = page }) version a.held in
    let second = held_found g is.holds.contents m is.holds.are is.holds.content d s (record { 0 = page }) other b.held in
    let here = used_within g is.holds.contents m is.holds.are is.holds.content die slot (ap is_some a.held) in
    let there = used_within g is.holds.contents m is.holds.are is.holds.content d s (ap is_some b.held) in
    let same : other ≡ version = same_Some other version (sym second.0 ∙ first.0) in
    (agree page version version other one two die slot d s
    (record { is_last = first.0; numbered = refl; live = here.0; inside = here.1; sealed = a.sealed })
    (record { is_last = first.0; numbered = ap (λ (v : Version). v.seq.0) same; live = there.0; inside = there.1; sealed = b.sealed })).1

module _ (bytes : SlotBytes) (is_spare : ℕ → Bool) (w : World) (is : IsMountedWorld bytes is_spare w) (agree : LastCopiesAgree bytes w.core.page_map) where
  -- a good cell was found as a copy
  copy_of : (page die slot : ℕ) (version : Version) (payload : List ℕ) → page < w.core.page_map.geometry.pages → is_live w.core.page_map die ≡ true
      → HasCell w page version payload die slot
      → HasCopy is.holds.contents (record { 0 = page }) version die slot × IsCellOf (bytes die slot) (Sealed page version die slot payload)
  copy_of page die slot version payload low live cell =
      let g = w.core.page_map.geometry in
      let found = live_found g is.holds.contents w.core.page_map is.holds.are is.holds.content die slot live cell.inside in
      let at = found_on is.holds.contents die slot found.0 found.2 ∙ found.3 in
      let seen = is.cells die slot (or_left (is_live w.core.page_map die) (contains_key w.core.spares die) live) cell.inside in
      let content = (copy_is_sealed (bytes die slot) g.pages die slot found.1 (is.holds.found die slot found.1 at) ((w.images die).seen slot) seen
      (record { 0 = page }) version).1 (low, payload, cell.sealed) in
      (at ∙ ap Some content, subst (IsCellOf (bytes die slot)) cell.sealed seen)

  pub mounted_of_last : AreOfLast w
  mounted_of_last page die slot version payload low live cell = of_number (get w.core.page_map.versions page) refl
    where
      copy : HasCopy is.holds.contents (record { 0 = page }) version die slot × IsCellOf (bytes die slot) (Sealed page version die slot payload)
      copy = copy_of page die slot version payload low live cell

      of_number : (number : Option Version) → get w.core.page_map.versions page ≡ number
          → IsOfLast (get w.core.page_map.versions page) (w.payloads page) version payload
      of_number None e =
          absurd (subst (IsLastOf (HasCopy is.holds.contents (record { 0 = page }))) e (is.holds.content.numbers (record { 0 = page })) version die slot copy.0)
      of_number (Some last) e =
          let write : IsLastWrite (HasCopy is.holds.contents (record { 0 = page })) last =
          subst (IsLastOf (HasCopy is.holds.contents (record { 0 = page }))) e (is.holds.content.numbers (record { 0 = page })) in
          let first = subst (IsFirstPlain bytes w.core.page_map page (plain_page w page)) e (is.plain page low) in
          let there = used_within w.core.page_map.geometry is.holds.contents w.core.page_map is.holds.are is.holds.content first.0 first.1 (ap is_some first.2.held) in
          record {
            write = last;
            is_last = e;
            older = write.greatest version die slot copy.0;
            same = λ same.
                let one = agree page last version last payload (plain_page w page) die slot first.0 first.1
                (record { is_last = e; numbered = same; live = live; inside = cell.inside; sealed = copy.1 })
                (record { is_last = e; numbered = refl; live = there.0; inside = there.1; sealed = first.2.sealed }) in
                (one.0, one.1 ∙ sym (is.payloads page last e) ∙ ap (w.payloads page) (sym same));
          }
