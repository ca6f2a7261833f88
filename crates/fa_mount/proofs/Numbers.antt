-- The numbers that mounted pages have are within the limits of a tag's.
use Rattle.std.proofs.Common.{◌≡◌, ℕ, zero, suc, ◌<◌, ◌≤◌, ◌==◌, ◌&&◌, ◌^◌, nat_lt, cond, List, [], ◌∷◌, Option, Some, None, Ok, Err}
use Rattle.std.proofs.Common.{length, sym, ap, subst, ◌∙◌, arith, slice_get, get_or, inl, inr}
use Rattle.std.proofs.lemmas.Bool.{cases_Bool}
use Rattle.std.proofs.lemmas.Option.{none-some, same_Some, slice_get-get_or, get_or_from_slice_get}
use Rattle.std.specs.FinMap.{get}
use Rattle.fa_types.specs.declared.geometry.Geometry.{Geometry}
use Rattle.fa_types.specs.declared.numbers.Page.{Page}
use Rattle.fa_image.specs.Image.{ImageCall, ImageAnswer}
use Rattle.fa_tag.specs.declared.tag.Opened.{Opened}
use Rattle.fa_tag.specs.declared.tag.Opened.TheVariants.{Erased as ErasedBytes, Good, Bad}
use Rattle.fa_tag.specs.SlotGrammar.{IsOpened}
use Rattle.fa_machine.specs.State.{MapState}
use Rattle.fa_machine.specs.declared.places.Version.{Version}
use Rattle.fa_mount_scan.specs.Content.{Contents, HasCopy, IsLastOf, IsMountedContent, content_of, slots_on}
use Rattle.fa_mount_scan.specs.ContentReading.{AreOutcomes, HasOutcome, ReadsAt, ReadsSlots, image_read}
use Rattle.fa_mount_scan.specs.Scanned.{AreSettled, Outcome, mounted_of}
use Rattle.fa_mount_scan.specs.declared.slots.content.SlotContent.{SlotContent}
use Rattle.fa_mount_scan.specs.declared.slots.content.SlotContent.TheVariants.{Copy, Stale}
use Rattle.fa_mount_headers.specs.declared.judging.Standing.{Standing}
use Rattle.fa_mount_headers.specs.declared.judging.Standing.TheVariants.{Missing, Live, Spare, Out}
use Rattle.fa_mount_scan.proofs.Filling.{read_die_below, slots_of_found}

-- a number of 1 to 2^62 - 1
abbrev pub Fits : Version → Type 0
Fits version = (1 ≤ version.seq.0) × (version.seq.0 < 2 ^ 62)

copy_fits : (bytes : List ℕ) (pages die slot : ℕ) (opened : Opened) (page : Page) (version : Version) → IsOpened bytes opened
    → content_of pages die slot opened ≡ Copy page version → Fits version
copy_fits bytes pages die slot ErasedBytes page version opens e = cc
copy_fits bytes pages die slot Bad page version opens e = cc
copy_fits bytes pages die slot (Good tag) page version opens e =
    let given : Version = record { seq = tag.seq; kind = tag.kind } in
    let copy : SlotContent = Copy tag.page given in
    elim (cases_Bool (nat_lt tag.page.0 pages && tag.die.0 == die && tag.slot.0 == slot)) [
      | inl own ↦
          let is : copy ≡ Copy page version = sym (ap (λ b. cond b copy Stale) own) ∙ e in
          let same : given ≡ version = cc in
          subst (λ (v : Version). Fits v) same (opens.0.seq_from_one, opens.0.seq_fits)
      | inr other ↦
          let is : Stale ≡ Copy page version = sym (ap (λ b. cond b copy Stale) other) ∙ e in
          cc
    ]

module _ {I : Type 0} (made : I → ImageCall → ImageAnswer → I → Type 0) where
  read_fits : (pages die first : ℕ) (contents : List SlotContent) (before after : I) → ReadsSlots made pages die first contents before after
      → (slot : ℕ) (page : Page) (version : Version) → slice_get contents slot ≡ Some (Copy page version) → Fits version
  read_fits pages die first [] before after reads slot page version found = absurd (none-some (Copy page version) found)
  read_fits pages die first (content ∷ contents) before after reads zero page version found =
      copy_fits reads.1.bytes pages die first reads.1.holds.opened page version reads.1.holds.opens
      (sym reads.1.holds.is ∙ same_Some content (Copy page version) found)
  read_fits pages die first (content ∷ contents) before after reads (suc slot) page version found =
      read_fits pages die (suc first) contents reads.0 after reads.2 slot page version found

  module _ (geometry : Geometry) (images after : List I) (standings : List Standing) (outcomes : List Outcome)
      (read : AreOutcomes made geometry images after standings outcomes) where
    -- what is mounted of a die was read of its image
    reads_of : (die : ℕ) (slots : List SlotContent) (standing : Standing) (outcome : Outcome) → mounted_of standing outcome ≡ Some slots
        → HasOutcome made geometry images after die (image_read standing) outcome
        → (index : ℕ) × ReadsAt made geometry images after die index (Ok slots)
    reads_of die slots Missing outcome is has = absurd (none-some slots is)
    reads_of die slots (Spare index) outcome is has = absurd (none-some slots is)
    reads_of die slots (Out index) outcome is has = absurd (none-some slots is)
    reads_of die slots (Live index) None is has = absurd (none-some slots is)
    reads_of die slots (Live index) (Some (Err fault)) is has = absurd (none-some slots is)
    reads_of die slots (Live index) (Some (Ok found)) is has =
        (index, subst (λ (l : List SlotContent). ReadsAt made geometry images after die index (Ok l)) (same_Some found slots is) has)

    module _ (dies : List Standing) (contents : Contents) (settles : AreSettled standings outcomes dies contents)
        (long : length outcomes ≡ length standings) where
      mounted_reads : (die : ℕ) (slots : List SlotContent) → slots_on contents die ≡ Some slots
          → (index : ℕ) × ReadsAt made geometry images after die index (Ok slots)
      mounted_reads die slots on =
          let below = read_die_below contents die slots on in
          let as_many = settles.contents_length in
          let standing = get_or standings die Missing in
          let outcome = get_or outcomes die None in
          let stands = slice_get-get_or standings die Missing (omega (arith, below, as_many, long)) in
          let comes = slice_get-get_or outcomes die None (omega (arith, below, as_many)) in
          let mounts = (settles.each die standing outcome stands comes).1 in
          reads_of die slots standing outcome (sym (get_or_from_slice_get contents die (mounted_of standing outcome) None mounts) ∙ on)
          (read die standing outcome stands comes)

      copied_fits : (die slot : ℕ) (page : Page) (version : Version) → HasCopy contents page version die slot → Fits version
      copied_fits die slot page version copy =
          let found = slots_of_found contents die slot (Copy page version) copy in
          let at = (mounted_reads die found.0 found.1).1 in
          read_fits geometry.pages die 0 found.0 at.old at.new at.reads.1 slot page version found.2

      pub numbers_fit : (m : MapState) → IsMountedContent geometry contents m → (page : ℕ) (version : Version)
          → get m.versions page ≡ Some version → Fits version
      numbers_fit m content page version is =
          let named : Page = record { 0 = page } in
          let last = subst (λ (o : Option Version). IsLastOf (HasCopy contents named) o) is (content.numbers named) in
          copied_fits last.die last.slot named version last.copied
