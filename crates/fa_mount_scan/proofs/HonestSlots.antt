-- What was found in the slots of images that return what was written.
use Rattle.std.proofs.Common.{◌≡◌, ℕ, zero, suc, ◌+◌, ◌*◌, ◌<◌, Bool, true, false, IsTrue, List, [], ◌∷◌, Option, Some, None, Ok, Err}
use Rattle.std.proofs.Common.{cond, length, map, refl, sym, ap, subst, ◌∙◌, arith, slice_get, inl, inr, get_or}
use Rattle.std.proofs.lemmas.Bool.{and_parts, cases_Bool, false≢true}
use Rattle.std.proofs.lemmas.List.FromFn.{length-map-range_with_len}
use Rattle.std.proofs.lemmas.Option.{none-some, same_Some, slice_get_cases, slice_get_within, slice_get-get_or, get_or_from_slice_get}
use Rattle.std.specs.List.{AllByRecursion, list_all}
use Rattle.std.specs.Option.{option_map_or}
use Rattle.std.specs.Prelude.{option_and_then, option_map, unwrap_or}
use Rattle.fa_types.specs.declared.geometry.Geometry.{Geometry}
use Rattle.fa_image.specs.Image.{ImageState, ImageCall, ImageAnswer, ImageMeets, ReadingSlot, Gave, slot_at}
use Rattle.fa_tag.specs.SlotGrammar.{IsErased}
use Rattle.fa_machine.specs.State.{MapState}
use Rattle.fa_mount_scan.proofs.ContentsRead.{are_contents}
use Rattle.fa_mount_scan.proofs.Filling.{read_die_below, slots_of_found}
use Rattle.fa_mount_scan.proofs.OnlyReading.{die_only_read}
use Rattle.fa_mount_scan.proofs.SlotCells.{erased_bytes}
use Rattle.fa_mount_scan.specs.Content.{Contents, IsMountedContent, slots_on}
use Rattle.fa_mount_scan.specs.ContentReading.{AreOutcomes, HasOutcome, IsContentOf, ReadsAt, ReadsSlots, image_read}
use Rattle.fa_mount_headers.specs.Judged.{standing_of}
use Rattle.fa_mount_scan.specs.MountedWorld.{AreFoundIn, HoldMap, bytes_of, is_spare_of}
use Rattle.fa_mount_scan.specs.Mounting.{Mounts}
use Rattle.fa_mount_scan.specs.Reported.{is_spare}
use Rattle.fa_mount_headers.specs.Rules.{seen_from}
use Rattle.fa_mount_scan.specs.Scanned.{AreSettled, Outcome, is_erased, mounted_of, settled}
use Rattle.fa_mount_scan.specs.declared.slots.content.SlotContent.{SlotContent}
use Rattle.fa_mount_scan.specs.declared.slots.content.SlotContent.TheVariants.{Erased, Copy, Stale}
use Rattle.fa_mount_headers.specs.declared.judging.Standing.{Standing}
use Rattle.fa_mount_headers.specs.declared.judging.Standing.TheVariants.{Missing, Live, Spare, Out}

all_at : {X : Type 0} (P : X → Type 0) (xs : List X) (i : ℕ) (x : X) → AllByRecursion P xs → slice_get xs i ≡ Some x → P x
all_at P [] i x all at = absurd (none-some x at)
all_at P (y ∷ xs) zero x all at = subst P (same_Some y x at) all.0
all_at P (y ∷ xs) (suc i) x all at = all_at P xs i x all.1 at

mapped_at : {X Y : Type 0} (f : X → Y) (xs : List X) (i : ℕ) (x : X) → slice_get xs i ≡ Some x → slice_get (map f xs) i ≡ Some (f x)
mapped_at f [] i x at = absurd (none-some x at)
mapped_at f (y ∷ xs) zero x at = ap (option_map f) at
mapped_at f (y ∷ xs) (suc i) x at = mapped_at f xs i x at

erased_alone : (content : SlotContent) → is_erased content ≡ true → content ≡ Erased
erased_alone Erased e = refl
erased_alone (Copy page version) e = absurd (false≢true e)
erased_alone Stale e = absurd (false≢true e)

all_erased : (slots : List SlotContent) (i : ℕ) (content : SlotContent) → list_all is_erased slots ≡ true → slice_get slots i ≡ Some content
    → content ≡ Erased
all_erased [] i content all at = absurd (none-some content at)
all_erased (x ∷ slots) zero content all at =
    sym (same_Some x content at) ∙ erased_alone x (and_parts (is_erased x) (list_all is_erased slots) all).0
all_erased (x ∷ slots) (suc i) content all at = all_erased slots i content (and_parts (is_erased x) (list_all is_erased slots) all).1 at

spare_index : (standing : Option Standing) → option_map_or is_spare standing false ≡ true → (index : ℕ) × (standing ≡ Some (Spare index))
spare_index None e = absurd (false≢true e)
spare_index (Some Missing) e = absurd (false≢true e)
spare_index (Some (Live index)) e = absurd (false≢true e)
spare_index (Some (Out index)) e = absurd (false≢true e)
spare_index (Some (Spare index)) e = (index, refl)

module _ {I : Type 0} (view : I → ImageState) (honest : I → Bool) (made : I → ImageCall → ImageAnswer → I → Type 0)
    (meets : (before after : I) (call : ImageCall) (answer : ImageAnswer) → made before call answer after
    → ImageMeets (view before) (honest before) call answer (view after) (honest after)) where
  -- an image that is honest was so before its slots were read
  honest_before : (pages die first : ℕ) (contents : List SlotContent) (before after : I) → ReadsSlots made pages die first contents before after
      → IsTrue (honest after) → IsTrue (honest before)
  honest_before pages die first [] before after same fair = subst (λ x. IsTrue (honest x)) same fair
  honest_before pages die first (content ∷ contents) before after reads fair =
      let met = meets before reads.0 (ReadingSlot first) (Gave reads.1.bytes) reads.1.gave in
      met.honest (honest_before pages die (suc first) contents reads.0 after reads.2 fair)

  -- what was found in its slots is what stands there
  pub found_there : (pages die first : ℕ) (contents : List SlotContent) (before after : I) → ReadsSlots made pages die first contents before after
      → IsTrue (honest after) → (i : ℕ) (content : SlotContent) → slice_get contents i ≡ Some content
      → IsContentOf (slot_at (first + i) (view before)) pages die (first + i) content
  found_there pages die first [] before after reads fair i content at = absurd (none-some content at)
  found_there pages die first (x ∷ contents) before after reads fair zero content at =
      let met = meets before reads.0 (ReadingSlot first) (Gave reads.1.bytes) reads.1.gave in
      let bytes = met.told (honest_before pages die (suc first) contents reads.0 after reads.2 fair) in
      let there : IsContentOf (slot_at first (view before)) pages die first x =
      subst (λ (l : List ℕ). IsContentOf l pages die first x) bytes reads.1.holds in
      subst (λ n. IsContentOf (slot_at n (view before)) pages die n content) (omega arith)
      (subst (λ c. IsContentOf (slot_at first (view before)) pages die first c) (same_Some x content at) there)
  found_there pages die first (x ∷ contents) before after reads fair (suc i) content at =
      let met = meets before reads.0 (ReadingSlot first) (Gave reads.1.bytes) reads.1.gave in
      let later = found_there pages die (suc first) contents reads.0 after reads.2 fair i content at in
      subst (λ n. IsContentOf (slot_at n (view before)) pages die n content) (omega arith)
      (subst (λ (image : ImageState). IsContentOf (slot_at (suc first + i) image) pages die (suc first + i) content) met.leads later)

  module _ (geometry : Geometry) (images after : List I) (fair : AllByRecursion (λ image. IsTrue (honest image)) after) where
    -- the image read for a die has in its slots what was found
    image_found : (die index : ℕ) (slots : List SlotContent) → ReadsAt made geometry images after die index (Ok slots)
        → (slot : ℕ) (content : SlotContent) → slice_get slots slot ≡ Some content
        → (image : I) × (slice_get after index ≡ Some image) × IsContentOf (slot_at slot (view image)) geometry.pages die slot content
    image_found die index slots reads slot content at =
        let kept = die_only_read view honest made meets geometry die (Ok slots) reads.old reads.new reads.reads in
        let there : IsContentOf (slot_at slot (view reads.old)) geometry.pages die slot content =
        subst (λ n. IsContentOf (slot_at n (view reads.old)) geometry.pages die n content) (omega arith)
        (found_there geometry.pages die 0 slots reads.old reads.new reads.reads.1
        (all_at (λ image. IsTrue (honest image)) after index reads.new fair reads.is) slot content at) in
        let same : slot_at slot (view reads.old) ≡ slot_at slot (view reads.new) = sym (ap (slot_at slot) kept) in
        (reads.new, reads.is, subst (λ (l : List ℕ). IsContentOf l geometry.pages die slot content) same there)

    -- so the bytes of that die are those of the image
    found_in : (dies : List Standing) (die index : ℕ) (standing : Standing) (slots : List SlotContent) → slice_get dies die ≡ Some standing
        → image_read standing ≡ Some index → ReadsAt made geometry images after die index (Ok slots)
        → (slot : ℕ) (content : SlotContent) → slice_get slots slot ≡ Some content
        → IsContentOf (bytes_of (map view after) dies die slot) geometry.pages die slot content
    found_in dies die index standing slots stands which reads slot content at =
        let found = image_found die index slots reads slot content at in
        let bytes : bytes_of (map view after) dies die slot ≡ slot_at slot (view found.0) =
        ap (λ (o : Option Standing). unwrap_or (option_map (slot_at slot) (option_and_then (slice_get (map view after)) (option_and_then image_read o))) []) stands
        ∙ ap (λ (o : Option ℕ). unwrap_or (option_map (slot_at slot) (option_and_then (slice_get (map view after)) o)) []) which
        ∙ ap (λ (o : Option ImageState). unwrap_or (option_map (slot_at slot) o) []) (mapped_at view after index found.0 found.1) in
        subst (λ (l : List ℕ). IsContentOf l geometry.pages die slot content) (sym bytes) found.2

    -- a die of which slots are mounted stands with the image in which they were found
    live_with : (die : ℕ) (slots : List SlotContent) (standing : Standing) (outcome : Outcome) → mounted_of standing outcome ≡ Some slots
        → HasOutcome made geometry images after die (image_read standing) outcome
        → (index : ℕ) × (image_read (settled standing outcome) ≡ Some index) × ReadsAt made geometry images after die index (Ok slots)
    live_with die slots Missing outcome is has = absurd (none-some slots is)
    live_with die slots (Spare index) outcome is has = absurd (none-some slots is)
    live_with die slots (Out index) outcome is has = absurd (none-some slots is)
    live_with die slots (Live index) None is has = absurd (none-some slots is)
    live_with die slots (Live index) (Some (Err fault)) is has = absurd (none-some slots is)
    live_with die slots (Live index) (Some (Ok found)) is has =
        (index, refl, subst (λ (l : List SlotContent). ReadsAt made geometry images after die index (Ok l)) (same_Some found slots is) has)

    -- of a die that stands as a spare all slots were found erased, and none is mounted
    record IsSpareRead (die index : ℕ) (standing : Standing) (outcome : Outcome) : Type 0 where
      slots : List SlotContent
      blank : list_all is_erased slots ≡ true
      reads : ReadsAt made geometry images after die index (Ok slots)
      apart : mounted_of standing outcome ≡ None

    spare_with : (die index : ℕ) (standing : Standing) (outcome : Outcome) → settled standing outcome ≡ Spare index
        → HasOutcome made geometry images after die (image_read standing) outcome → IsSpareRead die index standing outcome
    spare_with die index Missing outcome is has = cc
    spare_with die index (Out i) outcome is has = cc
    spare_with die index (Live i) None is has = cc
    spare_with die index (Live i) (Some (Err fault)) is has = cc
    spare_with die index (Live i) (Some (Ok slots)) is has = cc
    spare_with die index (Spare i) None is has = cc
    spare_with die index (Spare i) (Some (Err fault)) is has = cc
    spare_with die index (Spare i) (Some (Ok slots)) is has =
        elim (cases_Bool (list_all is_erased slots)) [
          | inl blank ↦
              let same : Spare i ≡ Spare index = sym (ap (λ b. cond b (Spare i) (Out i)) blank) ∙ is in
              let images_same : i ≡ index = cc in
              record {
                slots = slots;
                blank = blank;
                reads = subst (λ n. ReadsAt made geometry images after die n (Ok slots)) images_same has;
                apart = refl;
              }
          | inr used ↦ let other : Out i ≡ Spare index = sym (ap (λ b. cond b (Spare i) (Out i)) used) ∙ is in cc
        ]

    module _ (standings : List Standing) (outcomes : List Outcome) (read : AreOutcomes made geometry images after standings outcomes)
        (dies : List Standing) (contents : Contents) (settles : AreSettled standings outcomes dies contents)
        (long : length outcomes ≡ length standings) (all : length standings ≡ geometry.dies) where
      -- a die of the array, as it stood and as it was read
      record IsDieRead (die : ℕ) : Type 0 where
        standing : Standing
        outcome : Outcome
        has : HasOutcome made geometry images after die (image_read standing) outcome
        stands : slice_get dies die ≡ Some (settled standing outcome)
        mounts : slots_on contents die ≡ mounted_of standing outcome

      die_read : (die : ℕ) → die < geometry.dies → IsDieRead die
      die_read die below =
          let standing = get_or standings die Missing in
          let outcome = get_or outcomes die None in
          let stands = slice_get-get_or standings die Missing (omega (arith, below, all)) in
          let comes = slice_get-get_or outcomes die None (omega (arith, below, all, long)) in
          let each = settles.each die standing outcome stands comes in
          record {
            standing = standing;
            outcome = outcome;
            has = read die standing outcome stands comes;
            stands = each.0;
            mounts = get_or_from_slice_get contents die (mounted_of standing outcome) None each.1;
          }

      found_in_bytes : AreFoundIn (bytes_of (map view after) dies) geometry.pages contents
      found_in_bytes die slot content found =
          let mounted = slots_of_found contents die slot content found in
          let below = read_die_below contents die mounted.0 mounted.1 in
          let as_many = settles.contents_length in
          let at = die_read die (omega (arith, below, as_many, long, all)) in
          let live = live_with die mounted.0 at.standing at.outcome (sym at.mounts ∙ mounted.1) at.has in
          found_in dies die live.0 (settled at.standing at.outcome) mounted.0 at.stands live.1 live.2 slot content mounted.2

      die_below : (die : ℕ) (standing : Standing) → slice_get dies die ≡ Some standing → die < geometry.dies
      die_below die standing at =
          let below = slice_get_within dies die standing at in
          let as_many = settles.dies_length in
          omega (arith, below, as_many, long, all)

      spare_read : (die index : ℕ) → slice_get dies die ≡ Some (Spare index)
          → (at : IsDieRead die) × IsSpareRead die index at.standing at.outcome
      spare_read die index spare =
          let at = die_read die (die_below die (Spare index) spare) in (
            at,
            spare_with die index at.standing at.outcome
                (same_Some (settled at.standing at.outcome) (Spare index) (sym at.stands ∙ spare)) at.has,
          )

      spare_unmounted : (die : ℕ) → is_spare_of dies die ≡ true → (die < geometry.dies) × (slots_on contents die ≡ None)
      spare_unmounted die stands =
          let is = spare_index (slice_get dies die) stands in
          let was = spare_read die is.0 is.1 in
          (die_below die (Spare is.0) is.1, was.0.mounts ∙ was.1.apart)

      spare_erased : (die slot : ℕ) → is_spare_of dies die ≡ true → slot < geometry.blocks * geometry.slots
          → IsErased (bytes_of (map view after) dies die slot)
      spare_erased die slot stands within =
          let is = spare_index (slice_get dies die) stands in
          let was = spare_read die is.0 is.1 in
          let many = was.1.reads.reads.0 in
          elim (slice_get_cases was.1.slots slot).1 [
            | inl found ↦
                erased_bytes (bytes_of (map view after) dies die slot) geometry.pages die slot found.0
                (found_in dies die is.0 (Spare is.0) was.1.slots is.1 refl was.1.reads slot found.0 found.2)
                (all_erased was.1.slots slot found.0 was.1.blank found.2)
            | inr past ↦ absurd (let over = past.0 in omega (arith, over, many, within))
          ]

      pub stand_there : (m : MapState) → IsMountedContent geometry contents m → m.geometry ≡ geometry
          → HoldMap (bytes_of (map view after) dies) (is_spare_of dies) geometry m
      stand_there m content shape = record {
        contents = contents;
        are = are_contents made geometry images after standings outcomes read dies contents settles long all;
        content = content;
        found = found_in_bytes;
        spares = spare_unmounted;
        erased = spare_erased;
      }

  pub mounted_there : {A : Type 0} (copies : ℕ) (unclean : Bool) (before after : List I) (array : List ℕ) (epoch : ℕ) (clean : Bool)
      (dies : List Standing) (m : MapState) → Mounts A view made copies unclean before after array epoch clean dies m
      → length dies ≡ m.geometry.dies → AllByRecursion (λ image. IsTrue (honest image)) after
      → HoldMap (bytes_of (map view after) dies) (is_spare_of dies) m.geometry m
  mounted_there copies unclean before after array epoch clean dies m mounts many fair =
      let geometry = mounts.judged.geometry in
      let scan = mounts.scan in
      let judges = mounts.headers.judges in
      let shape = scan.mounts.shape in
      let standings = ap (λ (l : List Standing). length l) judges.dies
      ∙ length-map-range_with_len (standing_of mounts.judged.mask (seen_from 0 mounts.headers.founds)) 0 geometry.dies in
      let as_many = scan.settles.dies_length in
      let dies_same : m.geometry.dies ≡ geometry.dies = ap (λ (g : Geometry). g.dies) shape in
      subst (λ (g : Geometry). HoldMap (bytes_of (map view after) dies) (is_spare_of dies) g m) (sym shape)
      (stand_there geometry mounts.between after fair mounts.judged.dies.items mounts.outcomes mounts.read dies scan.contents scan.settles
      (omega (arith, many, as_many, standings, dies_same)) standings m scan.mounts shape)
