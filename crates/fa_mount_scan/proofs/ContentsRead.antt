-- What was read of the dies are contents of their array.
use Rattle.std.proofs.Common.{◌≡◌, ℕ, zero, suc, ◌<◌, ◌==◌, ◌&&◌, nat_lt, cond, List, [], ◌∷◌, Some, None, Ok, Err}
use Rattle.std.proofs.Common.{length, sym, ap, subst, ◌∙◌, arith, slice_get, get_or, inl, inr}
use Rattle.std.proofs.lemmas.Bool.{and_parts, cases_Bool, ltb-true}
use Rattle.std.proofs.lemmas.Option.{none-some, same_Some, slice_get-get_or, get_or_from_slice_get}
use Rattle.fa_types.specs.declared.geometry.Geometry.{Geometry}
use Rattle.fa_types.specs.declared.numbers.Page.{Page}
use Rattle.fa_image.specs.Image.{ImageCall, ImageAnswer}
use Rattle.fa_tag.specs.declared.tag.Opened.{Opened}
use Rattle.fa_tag.specs.declared.tag.Opened.TheVariants.{Erased as ErasedBytes, Good, Bad}
use Rattle.fa_machine.specs.declared.places.Version.{Version}
use Rattle.fa_mount_scan.specs.Content.{AreContents, Contents, content_of, slots_on}
use Rattle.fa_mount_scan.specs.ContentReading.{AreOutcomes, HasOutcome, ReadsAt, ReadsSlots, image_read}
use Rattle.fa_mount_scan.specs.Scanned.{AreSettled, Outcome, mounted_of}
use Rattle.fa_mount_scan.specs.declared.slots.content.SlotContent.{SlotContent}
use Rattle.fa_mount_scan.specs.declared.slots.content.SlotContent.TheVariants.{Copy, Stale}
use Rattle.fa_mount_headers.specs.declared.judging.Standing.{Standing}
use Rattle.fa_mount_headers.specs.declared.judging.Standing.TheVariants.{Missing, Live, Spare, Out}
use Rattle.fa_mount_scan.proofs.Filling.{read_die_below, slots_of_found}

-- a copy is of a page of the array
copy_below : (pages die slot : ℕ) (opened : Opened) (page : Page) (version : Version) → content_of pages die slot opened ≡ Copy page version
    → page.0 < pages
copy_below pages die slot ErasedBytes page version e = cc
copy_below pages die slot Bad page version e = cc
copy_below pages die slot (Good tag) page version e =
    let copy : SlotContent = Copy tag.page (record { seq = tag.seq; kind = tag.kind }) in
    elim (cases_Bool (nat_lt tag.page.0 pages && tag.die.0 == die && tag.slot.0 == slot)) [
      | inl own ↦
          let is : copy ≡ Copy page version = sym (ap (λ b. cond b copy Stale) own) ∙ e in
          let same : tag.page ≡ page = cc in
          subst (λ (p : Page). p.0 < pages) same
          (ltb-true tag.page.0 pages (and_parts (nat_lt tag.page.0 pages) (tag.die.0 == die)
          (and_parts (nat_lt tag.page.0 pages && tag.die.0 == die) (tag.slot.0 == slot) own).0).0)
      | inr other ↦
          let is : Stale ≡ Copy page version = sym (ap (λ b. cond b copy Stale) other) ∙ e in
          cc
    ]

module _ {I : Type 0} (made : I → ImageCall → ImageAnswer → I → Type 0) where
  read_below : (pages die first : ℕ) (contents : List SlotContent) (before after : I) → ReadsSlots made pages die first contents before after
      → (slot : ℕ) (page : Page) (version : Version) → slice_get contents slot ≡ Some (Copy page version) → page.0 < pages
  read_below pages die first [] before after reads slot page version found = absurd (none-some (Copy page version) found)
  read_below pages die first (content ∷ contents) before after reads zero page version found =
      copy_below pages die first reads.1.holds.opened page version (sym reads.1.holds.is ∙ same_Some content (Copy page version) found)
  read_below pages die first (content ∷ contents) before after reads (suc slot) page version found =
      read_below pages die (suc first) contents reads.0 after reads.2 slot page version found

  module _ (geometry : Geometry) (images after : List I) (standings : List Standing) (outcomes : List Outcome)
      (read : AreOutcomes made geometry images after standings outcomes) where
    -- what is mounted of a die was read of its image
    reads_of : (die : ℕ) (slots : List SlotContent) (standing : Standing) (outcome : Outcome) → mounted_of standing outcome ≡ Some slots
        → HasOutcome made geometry images after die (image_read standing) outcome
        → (index : ℕ) × ReadsAt made geometry images after die index (Ok slots)
    reads_of die slots Missing outcome is has = absurd (none-some slots is)
    reads_of die slots (Spare index) outcome is has = absurd (none-some slots is)
    reads_of die slots (Out index) outcome is has = absurd (none-some slots is)
    reads_of die slots (Live index) None is has = absurd (none-some slots is)
    reads_of die slots (Live index) (Some (Err fault)) is has = absurd (none-some slots is)
    reads_of die slots (Live index) (Some (Ok found)) is has =
        (index, subst (λ (l : List SlotContent). ReadsAt made geometry images after die index (Ok l)) (same_Some found slots is) has)

    module _ (dies : List Standing) (contents : Contents) (settles : AreSettled standings outcomes dies contents)
        (long : length outcomes ≡ length standings) (all : length standings ≡ geometry.dies) where
      mounted_reads : (die : ℕ) (slots : List SlotContent) → slots_on contents die ≡ Some slots
          → (index : ℕ) × ReadsAt made geometry images after die index (Ok slots)
      mounted_reads die slots on =
          let below = read_die_below contents die slots on in
          let as_many = settles.contents_length in
          let standing = get_or standings die Missing in
          let outcome = get_or outcomes die None in
          let stands = slice_get-get_or standings die Missing (omega (arith, below, as_many, long)) in
          let comes = slice_get-get_or outcomes die None (omega (arith, below, as_many)) in
          let mounts = (settles.each die standing outcome stands comes).1 in
          reads_of die slots standing outcome (sym (get_or_from_slice_get contents die (mounted_of standing outcome) None mounts) ∙ on)
          (read die standing outcome stands comes)

      pub are_contents : AreContents geometry contents
      are_contents = record {
        dies = settles.contents_length ∙ long ∙ all;
        slots = λ die slots on. (mounted_reads die slots on).1.reads.0;
        pages = λ die slot page version copy.
            let found = slots_of_found contents die slot (Copy page version) copy in
            let at = (mounted_reads die found.0 found.1).1 in
            read_below geometry.pages die 0 found.0 at.old at.new at.reads.1 slot page version found.2;
      }
