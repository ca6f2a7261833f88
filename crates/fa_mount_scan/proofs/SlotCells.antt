-- What was found in a slot, and what the array's machine sees there.
use Rattle.std.proofs.Common.{◌≡◌, ℕ, ◌<◌, ◌==◌, ◌&&◌, ◌↔◌, nat_lt, cond, List, refl, sym, ap, subst, ◌∙◌, inl, inr}
use Rattle.std.proofs.lemmas.Bool.{and_from, and_parts, cases_Bool, eq-eqb, eqb-true, lt-ltb, ltb-true}
use Rattle.fa_types.specs.declared.numbers.Page.{Page}
use Rattle.fa_tag.proofs.Slots.{not_erased, one_spelling, same_tag}
use Rattle.fa_tag.specs.SlotGrammar.{IsErased, IsOpened, IsSlot, payload_of}
use Rattle.fa_tag.specs.declared.tag.Opened.{Opened}
use Rattle.fa_tag.specs.declared.tag.Opened.TheVariants.{Erased as ErasedBytes, Good, Bad}
use Rattle.fa_tag.specs.declared.tag.Tag.{Tag}
use Rattle.fa_machine.specs.Cells.{Broken, Cell, Empty, Sealed}
use Rattle.fa_machine.specs.declared.places.Version.{Version}
use Rattle.fa_mount_scan.proofs.Cells.{one_cell}
use Rattle.fa_mount_scan.specs.Content.{content_of}
use Rattle.fa_mount_scan.specs.ContentCells.{IsCellOf, tag_of}
use Rattle.fa_mount_scan.specs.ContentReading.{IsContentOf}
use Rattle.fa_mount_scan.specs.declared.slots.content.SlotContent.{SlotContent}
use Rattle.fa_mount_scan.specs.declared.slots.content.SlotContent.TheVariants.{Erased, Copy, Stale}

module _ (bytes : List ℕ) (pages die slot : ℕ) where
  opened_erased : (opened : Opened) → IsOpened bytes opened → content_of pages die slot opened ≡ Erased → IsErased bytes
  opened_erased ErasedBytes is e = is
  opened_erased Bad is e = cc
  opened_erased (Good tag) is e =
      let copy : SlotContent = Copy tag.page (record { seq = tag.seq; kind = tag.kind }) in
      elim (cases_Bool (nat_lt tag.page.0 pages && tag.die.0 == die && tag.slot.0 == slot)) [
        | inl own ↦ let none : copy ≡ Erased = sym (ap (λ b. cond b copy Stale) own) ∙ e in cc
        | inr other ↦ let none : Stale ≡ Erased = sym (ap (λ b. cond b copy Stale) other) ∙ e in cc
      ]

  opened_copy : (opened : Opened) → IsOpened bytes opened → (page : Page) (version : Version)
      → content_of pages die slot opened ≡ Copy page version
      → (page.0 < pages) × IsSlot (tag_of page.0 version die slot) (payload_of bytes) bytes
  opened_copy ErasedBytes is page version e = cc
  opened_copy Bad is page version e = cc
  opened_copy (Good tag) is page version e =
      let copy : SlotContent = Copy tag.page (record { seq = tag.seq; kind = tag.kind }) in
      elim (cases_Bool (nat_lt tag.page.0 pages && tag.die.0 == die && tag.slot.0 == slot)) [
        | inl own ↦
            let same : copy ≡ Copy page version = sym (ap (λ b. cond b copy Stale) own) ∙ e in
            let whole = and_parts (nat_lt tag.page.0 pages && tag.die.0 == die) (tag.slot.0 == slot) own in
            let parts = and_parts (nat_lt tag.page.0 pages) (tag.die.0 == die) whole.0 in
            let pages_same : tag.page ≡ page = cc in
            let made : Version = record { seq = tag.seq; kind = tag.kind } in
            let versions_same : made ≡ version = cc in
            let tags : tag ≡ tag_of page.0 version die slot = same_tag tag (tag_of page.0 version die slot)
            (ap (λ (p : Page). p.0) pages_same) (ap (λ (v : Version). v.seq.0) versions_same) (ap (λ (v : Version). v.kind) versions_same)
            (eqb-true tag.die.0 die parts.1) (eqb-true tag.slot.0 slot whole.1) in (
              subst (λ (p : Page). p.0 < pages) pages_same (ltb-true tag.page.0 pages parts.0),
              subst (λ (t : Tag). IsSlot t (payload_of bytes) bytes) tags is,
            )
        | inr other ↦ let none : Stale ≡ Copy page version = sym (ap (λ b. cond b copy Stale) other) ∙ e in cc
      ]

  opened_cell : (opened : Opened) → IsOpened bytes opened → (cell : Cell) × IsCellOf bytes cell
  opened_cell ErasedBytes is = (Empty, is)
  opened_cell Bad is = (Broken, is)
  opened_cell (Good tag) is =
      (Sealed tag.page.0 (record { seq = tag.seq; kind = tag.kind }) tag.die.0 tag.slot.0 (payload_of bytes), is)

  erased_opened : (opened : Opened) → IsOpened bytes opened → IsErased bytes → content_of pages die slot opened ≡ Erased
  erased_opened ErasedBytes is erased = refl
  erased_opened Bad is erased = absurd (is.0 erased)
  erased_opened (Good tag) is erased = absurd (not_erased tag (payload_of bytes) bytes is erased)

  own_copy : (page : Page) (version : Version) → page.0 < pages → content_of pages die slot (Good (tag_of page.0 version die slot)) ≡ Copy page version
  own_copy page version below =
      ap (λ b. cond b (Copy page version) Stale) (and_from (nat_lt page.0 pages && die == die) (slot == slot)
      (and_from (nat_lt page.0 pages) (die == die) (lt-ltb page.0 pages below) (eq-eqb die die refl)) (eq-eqb slot slot refl))

  copy_opened : (opened : Opened) → IsOpened bytes opened → (page : Page) (version : Version) (payload : List ℕ) → page.0 < pages
      → IsSlot (tag_of page.0 version die slot) payload bytes → content_of pages die slot opened ≡ Copy page version
  copy_opened ErasedBytes is page version payload below sealed = absurd (not_erased (tag_of page.0 version die slot) payload bytes sealed is)
  copy_opened Bad is page version payload below sealed = absurd (is.1 (tag_of page.0 version die slot) payload sealed)
  copy_opened (Good tag) is page version payload below sealed =
      ap (λ (t : Tag). content_of pages die slot (Good t)) (one_spelling tag (tag_of page.0 version die slot) (payload_of bytes) payload bytes is sealed).0
      ∙ own_copy page version below

  module _ (content : SlotContent) (holds : IsContentOf bytes pages die slot content) where
    pub found_cell : (cell : Cell) × IsCellOf bytes cell
    found_cell = opened_cell holds.opened holds.opens

    pub erased_bytes : content ≡ Erased → IsErased bytes
    erased_bytes e = opened_erased holds.opened holds.opens (sym holds.is ∙ e)

    pub copy_bytes : (page : Page) (version : Version) → content ≡ Copy page version
        → (page.0 < pages) × IsSlot (tag_of page.0 version die slot) (payload_of bytes) bytes
    copy_bytes page version e = opened_copy holds.opened holds.opens page version (sym holds.is ∙ e)

    module _ (cell : Cell) (seen : IsCellOf bytes cell) where
      pub erased_is_empty : content ≡ Erased ↔ cell ≡ Empty
      erased_is_empty = (
        λ e. one_cell bytes cell Empty seen (erased_bytes e),
        λ e. holds.is ∙ erased_opened holds.opened holds.opens (subst (IsCellOf bytes) e seen),
      )

      pub copy_is_sealed : (page : Page) (version : Version)
          → content ≡ Copy page version ↔ ((page.0 < pages) × (payload : List ℕ) × (cell ≡ Sealed page.0 version die slot payload))
      copy_is_sealed page version = (
        λ e. let copy = copy_bytes page version e in
            (copy.0, payload_of bytes, one_cell bytes cell (Sealed page.0 version die slot (payload_of bytes)) seen copy.1),
        λ is. holds.is ∙ copy_opened holds.opened holds.opens page version is.1 is.0 (subst (IsCellOf bytes) is.2 seen),
      )
