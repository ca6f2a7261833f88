-- What stands on the dies of an array that has nothing open says the last write of each page.
use Rattle.fa_mount_close_laws.proofs.Calls.{sealed_so}
use Rattle.fa_mount_close_laws.proofs.Kept.{Kept}
use Rattle.fa_mount_close_laws.specs.LastCells.{AreOfLast, HoldAll, IsLastCell, IsLastOn}
use Rattle.fa_laws.proofs.Staying.{copy_from_holds}
use Rattle.fa_machine.specs.Cells.{Sealed}
use Rattle.fa_machine.specs.World.{World, plain_page}
use Rattle.fa_machine.specs.declared.places.Version.{Version}
use Rattle.std.proofs.Common.{Bool, None, Option, Some, ap, refl, subst, sym, ℕ, ◌<◌, ◌∙◌, ◌≡◌, ◌≤◌}
use Rattle.std.proofs.lemmas.Option.{none-some, same_Some}
use Rattle.std.specs.FinMap.{get}
use Rattle.std.specs.Prelude.{is_some}

module _ (w : World) (kept : Kept w) (last : AreOfLast w) (these : ℕ → Bool) (all : HoldAll w these) (page : ℕ)
    (low : page < w.core.page_map.geometry.pages) where
  -- a die that holds a page has a cell of its last write
  held_cell : (version : Version) → get w.core.page_map.versions page ≡ Some version → IsLastCell w these page version (plain_page w page)
  held_cell version number =
      let found = all.hold page (ap is_some number) in
      let copy = copy_from_holds w.core page found.0 found.2 in
      let tag = kept.sound.held found.0 copy.slot copy.tag_page copy.tag_version copy.held in
      let version_is : copy.tag_version ≡ version = same_Some copy.tag_version version (sym tag ∙ ap (get w.core.page_map.versions) copy.page_is ∙ number) in
      let plain = (kept.held.holds.sound.numbered page version number).right in
      let stands = sealed_so copy.tag_page.0 copy.tag_version found.0 copy.slot ((w.images found.0).seen copy.slot) _
      (kept.held.holds.sound.held found.0 copy.slot copy.tag_page copy.tag_version copy.held).cell in
      record {
        die = found.0;
        slot = copy.slot;
        here = found.1;
        cell = record {
          inside = kept.held.ranged found.0 copy.slot _ copy.held;
          sealed = stands ∙ (λ i. Sealed (copy.page_is i) (version_is i) found.0 copy.slot (w.payloads (copy.page_is i) (version_is i).seq.0))
              ∙ ap (Sealed page version found.0 copy.slot) plain;
        };
        greatest = λ v bytes d s here cell.
            let of = last page d s v bytes low (all.live d here) cell in
            subst (λ (u : Version). v.seq.0 ≤ u.seq.0) (same_Some of.write version (sym of.is_last ∙ number)) of.older;
        same = λ v bytes d s here cell e.
            let of = last page d s v bytes low (all.live d here) cell in
            let write_is : of.write ≡ version = same_Some of.write version (sym of.is_last ∙ number) in
            let one = of.same (e ∙ sym (ap (λ (u : Version). u.seq.0) write_is)) in
            (one.0 ∙ write_is, one.1 ∙ ap (w.payloads page) e ∙ plain);
      }

  pub last_on : IsLastOn w these page (get w.core.page_map.versions page)
  last_on = by_number (get w.core.page_map.versions page) refl
    where
      by_number : (number : Option Version) → get w.core.page_map.versions page ≡ number → IsLastOn w these page number
      by_number None is = λ version payload die slot here cell.
          let of = last page die slot version payload low (all.live die here) cell in
          none-some of.write (sym is ∙ of.is_last)
      by_number (Some version) is = held_cell version is
