-- The images of an array that was mounted are those of the world over it.
use Rattle.fa_mount_headers.proofs.Images.{images_of}
use Rattle.fa_mount_headers.specs.Found.{AreOnlyRead, IsOnlyRead, ReadsHeaders}
use Rattle.fa_mount_headers.specs.Judged.{HasImage, IsImageOf as HasHeaderOf}
use Rattle.fa_mount_headers.specs.Rules.{seen_from}
use Rattle.fa_mount_headers.specs.declared.found.Found.{Found}
use Rattle.fa_mount_headers.specs.declared.found.HeaderFound.{HeaderFound}
use Rattle.fa_mount_headers.specs.declared.found.HeaderFound.TheVariants.{Good}
use Rattle.fa_mount_headers.specs.declared.judging.Standing.{Standing}
use Rattle.fa_mount_headers.specs.declared.judging.Standing.TheVariants.{Live, Missing, Out, Spare}
use Rattle.fa_image.specs.Image.{ImageAnswer, ImageCall, ImageMeets, ImageState, IsImage, slot_at}
use Rattle.fa_machine.specs.Beginning.{IsBeginning}
use Rattle.fa_machine.specs.Run.{Happening, Run}
use Rattle.fa_machine.specs.State.{Core, is_live}
use Rattle.fa_machine.specs.World.{World}
use Rattle.fa_laws.proofs.Within.{GeometryLaw}
use Rattle.fa_mount.proofs.Worlds.{mounted_world}
use Rattle.fa_mount.specs.MountsArray.{MountsArray}
use Rattle.fa_mount.specs.Standings.{AreApart, place_on}
use Rattle.fa_mount_headers.specs.Places.{place_of}
use Rattle.fa_mount_close_laws.proofs.DrivenRuns.{drives_run}
use Rattle.fa_mount_close_laws.specs.Drives.{AreHonest, AreImages, Drive, Driven, Drives, acts_of, beginning, events_of}
use Rattle.fa_mount_close_laws.specs.DrivenMounted.{images_on}
use Rattle.fa_mount_scan.proofs.OnlyReading.{die_only_read}
use Rattle.fa_mount_scan.proofs.Readable.{are_readable}
use Rattle.fa_mount_scan.specs.ContentCells.{IsCellOf}
use Rattle.fa_mount_scan.specs.ContentReading.{AreReadable, HasOutcome, ReadsAt, image_read}
use Rattle.fa_mount_scan.specs.MountedWorld.{CopiesAgree, IsMountedWorld, bytes_of, is_spare_of}
use Rattle.fa_mount_scan.specs.Reported.{is_spare}
use Rattle.fa_mount_scan.specs.Scanned.{Outcome, is_erased, mounted_of, settled}
use Rattle.fa_mount_scan.specs.declared.slots.content.SlotContent.{SlotContent}
use Rattle.fa_types.specs.declared.geometry.Geometry.{Geometry}
use Rattle.std.proofs.Common.{Bool, Err, IsTrue, List, None, Ok, Option, Some, [], ap, arith, cond, false, get_or, inl, inr, length, map, refl, slice_get, subst, sym}
use Rattle.std.proofs.Common.{suc, true, unwrap_or, zero, ℕ, ◌<◌, ◌∙◌, ◌∷◌, ◌≡◌, ◌⊎◌, ◌||◌}
use Rattle.std.proofs.lemmas.Bool.{false≢true, or_cases, or_left, or_right}
use Rattle.std.proofs.lemmas.Option.{get_or_from_slice_get, none-some, same_Some, slice_get-get_or, slice_get-map, slice_get_within}
use Rattle.std.specs.FinMap.{contains_key}
use Rattle.std.specs.List.{AllByRecursion, list_all}
use Rattle.std.specs.Option.{option_map_or}
use Rattle.std.specs.Prelude.{is_some, option_and_then, option_map}

module _ {I : Type 0} (made : I → ImageCall → ImageAnswer → I → Type 0) (geometry : Geometry) (images after : List I) (die : ℕ) (image : I) where
  -- the image of a die that is live or a spare was read, and nothing was refused
  record WasRead (standing : Standing) (outcome : Outcome) : Type 0 where
    pub index : ℕ
    pub slots : List SlotContent
    pub which : image_read standing ≡ Some index
    pub reads : ReadsAt made geometry images after die index (Ok slots)
    pub is : slice_get after index ≡ Some image
    pub stands : (is_some (mounted_of standing outcome) ≡ true) ⊎ (is_spare (settled standing outcome) ≡ true)

  was_read : (standing : Standing) (outcome : Outcome) → HasOutcome made geometry images after die (image_read standing) outcome
      → option_and_then (slice_get after) (image_read (settled standing outcome)) ≡ Some image → WasRead standing outcome
  was_read Missing outcome has at = absurd (none-some image at)
  was_read (Out index) outcome has at = absurd (none-some image at)
  was_read (Live index) None has at = absurd has
  was_read (Live index) (Some (Err fault)) has at = absurd (none-some image at)
  was_read (Live index) (Some (Ok slots)) has at =
      record { index = index; slots = slots; which = refl; reads = has; is = at; stands = inl refl }
  was_read (Spare index) None has at = absurd has
  was_read (Spare index) (Some (Err fault)) has at = absurd (none-some image at)
  was_read (Spare index) (Some (Ok slots)) has at = blank (list_all is_erased slots) refl at
    where
      blank : (b : Bool) → list_all is_erased slots ≡ b → option_and_then (slice_get after) (image_read (cond b (Spare index) (Out index))) ≡ Some image
          → WasRead (Spare index) (Some (Ok slots))
      blank true e at = record {
        index = index;
        slots = slots;
        which = refl;
        reads = has;
        is = at;
        stands = inr (ap (λ b. is_spare (cond b (Spare index) (Out index))) e);
      }
      blank false e at = absurd (none-some image at)

stands_at : {I : Type 0} (dies : List Standing) (images : List I) (die : ℕ) (image : I) → images_on dies images die ≡ Some image
    → (standing : Standing) × (slice_get dies die ≡ Some standing)
stands_at dies images die image at = some (slice_get dies die) refl at
  where
    some : (o : Option Standing) → slice_get dies die ≡ o → option_and_then (slice_get images) (option_and_then image_read o) ≡ Some image
        → (standing : Standing) × (slice_get dies die ≡ Some standing)
    some None e at = absurd (none-some image at)
    some (Some standing) e at = (standing, e)

mapped : {I : Type 0} (view : I → ImageState) (images : List I) (image : I) (o : Option ℕ) → option_and_then (slice_get images) o ≡ Some image
    → option_and_then (slice_get (map view images)) o ≡ Some (view image)
mapped view images image None at = absurd (none-some image at)
mapped view images image (Some index) at = slice_get-map view images index ∙ ap (option_map view) at

-- a die has the same image behind the reading of its slots
place_settled : (standing : Standing) (outcome : Outcome) → place_of (settled standing outcome) ≡ place_of standing
place_settled Missing outcome = refl
place_settled (Out index) outcome = refl
place_settled (Live index) None = refl
place_settled (Live index) (Some (Ok slots)) = refl
place_settled (Live index) (Some (Err fault)) = refl
place_settled (Spare index) None = refl
place_settled (Spare index) (Some (Err fault)) = refl
place_settled (Spare index) (Some (Ok slots)) = by (list_all is_erased slots)
  where
    by : (b : Bool) → place_of (cond b (Spare index) (Out index)) ≡ Some index
    by true = refl
    by false = refl

-- of a die that is out nothing is mounted
none_mounted : (standing : Standing) (outcome : Outcome) (index : ℕ) → settled standing outcome ≡ Out index → mounted_of standing outcome ≡ None
none_mounted (Live i) (Some (Ok slots)) index is = absurd (let e : Live i ≡ Out index = is in cc)
none_mounted (Live i) (Some (Err fault)) index is = refl
none_mounted (Live i) None index is = refl
none_mounted standing outcome index is = refl

-- a die with an image has one of whose header it is told
header_at : (founds : List Found) (geometry : Geometry) (array : List ℕ) (die index : ℕ) (standing : Standing)
    → HasImage founds geometry array die standing → place_of standing ≡ Some index → HasHeaderOf founds geometry array die index
header_at founds geometry array die index Missing has which = absurd (none-some index which)
header_at founds geometry array die index (Live i) has which = subst (HasHeaderOf founds geometry array die) (same_Some i index which) has
header_at founds geometry array die index (Spare i) has which = subst (HasHeaderOf founds geometry array die) (same_Some i index which) has
header_at founds geometry array die index (Out i) has which = subst (HasHeaderOf founds geometry array die) (same_Some i index which) has

-- the die of a header that was found
abbrev header_die : HeaderFound → ℕ
header_die (Good header) = header.die.0
header_die found = 0

abbrev found_die : Option Found → ℕ
found_die found = option_map_or (λ (f : Found). header_die f.header) found 0

-- an image whose header was read was made for the geometry that was found
found_before : {I : Type 0} (view : I → ImageState) (made : I → ImageCall → ImageAnswer → I → Type 0) (befores afters : List I)
    (founds : List Found) → ReadsHeaders view made befores afters founds → (index : ℕ) (found : Found) → slice_get founds index ≡ Some found
    → (image : I) × (slice_get befores index ≡ Some image) × ((view image).geometry ≡ found.geometry)
found_before view made befores afters [] reads index found at = absurd (none-some found at)
found_before view made [] afters (x ∷ founds) reads index found at = absurd reads
found_before view made (before ∷ befores) [] (x ∷ founds) reads index found at = absurd reads
found_before view made (before ∷ befores) (after ∷ afters) (x ∷ founds) reads zero found at =
    (before, refl, sym reads.0.geometry ∙ ap (λ (f : Found). f.geometry) (same_Some x found at))
found_before view made (before ∷ befores) (after ∷ afters) (x ∷ founds) reads (suc index) found at =
    found_before view made befores afters founds reads.1 index found at

only_read_at : (befores afters : List ImageState) → AreOnlyRead befores afters → (index : ℕ) (before after : ImageState)
    → slice_get befores index ≡ Some before → slice_get afters index ≡ Some after → IsOnlyRead before after
only_read_at [] [] only index before after was is = absurd (none-some before was)
only_read_at [] (y ∷ afters) only index before after was is = absurd only
only_read_at (x ∷ befores) [] only index before after was is = absurd only
only_read_at (x ∷ befores) (y ∷ afters) only zero before after was is =
    subst (λ (a : ImageState). IsOnlyRead before a) (same_Some y after is)
    (subst (λ (b : ImageState). IsOnlyRead b y) (same_Some x before was) only.0)
only_read_at (x ∷ befores) (y ∷ afters) only (suc index) before after was is =
    only_read_at befores afters only.1 index before after was is

module _ {I A : Type 0} (view : I → ImageState) (honest : I → Bool) (made : I → ImageCall → ImageAnswer → I → Type 0)
    (whole : (image : I) → IsImage (view image))
    (meets : (before after : I) (call : ImageCall) (answer : ImageAnswer) → made before call answer after
    → ImageMeets (view before) (honest before) call answer (view after) (honest after))
    (copies : ℕ) (unclean : Bool) (before after : List I) (array : List ℕ) (dies : List Standing) (core : Core)
    (is : MountsArray A view made copies unclean before after array dies core) (many : length dies ≡ core.page_map.geometry.dies) where
  -- how a die stood before its slots were read, what came of that, and how it stands behind it
  record SettledAt (die : ℕ) : Type 0 where
    pub standing : Standing
    pub outcome : Outcome
    pub stood : slice_get is.mounts.judged.dies.items die ≡ Some standing
    pub came : slice_get is.mounts.outcomes die ≡ Some outcome
    pub stands : slice_get dies die ≡ Some (settled standing outcome)
    pub found : slice_get is.mounts.scan.contents die ≡ Some (mounted_of standing outcome)

  readable : AreReadable view is.mounts.judged.geometry is.mounts.judged.dies.items is.mounts.between
  readable =
      let mounts = is.mounts in
      are_readable view honest made meets before mounts.between mounts.headers.founds (seen_from 0 mounts.headers.founds) mounts.judged
      mounts.headers.read mounts.headers.judges
      (images_of copies unclean mounts.headers.founds mounts.judged mounts.headers.fine mounts.headers.judges)

  settled_at : (die : ℕ) → die < length dies → SettledAt die
  settled_at die below =
      let mounts = is.mounts in
      let settles = mounts.scan.settles in
      let as_many = settles.dies_length in
      let all = readable.dies in
      let begun = ap (λ (c : Core). c.page_map.geometry.dies) is.begins.is in
      let dies_same : is.m.geometry.dies ≡ mounts.judged.geometry.dies = ap (λ (g : Geometry). g.dies) mounts.scan.mounts.shape in
      let standing = get_or mounts.judged.dies.items die Missing in
      let outcome = get_or mounts.outcomes die None in
      let stood = slice_get-get_or mounts.judged.dies.items die Missing (omega (arith, below, all, many, begun, dies_same)) in
      let came = slice_get-get_or mounts.outcomes die None (omega (arith, below, as_many)) in
      let each = settles.each die standing outcome stood came in
      record { standing = standing; outcome = outcome; stood = stood; came = came; stands = each.0; found = each.1 }

  -- a die that is out is none of the dies of which the world sees the images as they were mounted
  pub out_is_neither : (die index : ℕ) → slice_get dies die ≡ Some (Out index)
      → (is_live core.page_map die || contains_key core.spares die) ≡ true → ⊥
  out_is_neither die index out alive =
      let at = settled_at die (slice_get_within dies die (Out index) out) in
      let is_out : settled at.standing at.outcome ≡ Out index = same_Some (settled at.standing at.outcome) (Out index) (sym at.stands ∙ out) in
      elim (or_cases (is_live core.page_map die) (contains_key core.spares die) alive) [
        | inl live ↦
            false≢true
            (sym (ap (λ (c : Core). is_live c.page_map die) is.begins.is ∙ is.mounts.scan.mounts.live die
            ∙ ap is_some (get_or_from_slice_get is.mounts.scan.contents die (mounted_of at.standing at.outcome) None at.found)
            ∙ ap is_some (none_mounted at.standing at.outcome index is_out)) ∙ live)
        | inr spare ↦
            false≢true
            (sym (ap (λ (c : Core). contains_key c.spares die) is.begins.is ∙ is.begins.are_spares die
            ∙ ap (λ (o : Option Standing). option_map_or is_spare o false) out) ∙ spare)
      ]

  -- the image of a die has a header of it, also that of a die that is out
  placed_header : (die index : ℕ) → place_on dies die ≡ Some index
      → HasHeaderOf is.mounts.headers.founds is.mounts.judged.geometry is.mounts.judged.array die index
  placed_header die index place = by (slice_get dies die) refl place
    where
      by : (o : Option Standing) → slice_get dies die ≡ o → option_and_then place_of o ≡ Some index
          → HasHeaderOf is.mounts.headers.founds is.mounts.judged.geometry is.mounts.judged.array die index
      by None none placed = absurd (none-some index placed)
      by (Some standing) some placed =
          let mounts = is.mounts in
          let at = settled_at die (slice_get_within dies die standing some) in
          let which : place_of at.standing ≡ Some index =
          sym (place_settled at.standing at.outcome) ∙ ap place_of (same_Some (settled at.standing at.outcome) standing (sym at.stands ∙ some)) ∙ placed in
          header_at mounts.headers.founds mounts.judged.geometry mounts.judged.array die index at.standing
          (images_of copies unclean mounts.headers.founds mounts.judged mounts.headers.fine mounts.headers.judges die at.standing at.stood) which

  pub placed_apart : AreApart dies
  placed_apart die other index one two =
      let a = placed_header die index one in
      let b = placed_header other index two in
      sym a.2 ∙ ap found_die (sym a.1 ∙ b.1) ∙ b.2

  -- each image was made for the array's geometry
  pub placed_shape : AreOnlyRead (map view before) (map view after) → (die index : ℕ) (image : I) → place_on dies die ≡ Some index
      → slice_get after index ≡ Some image → (view image).geometry ≡ core.page_map.geometry
  placed_shape only die index image place there =
      let mounts = is.mounts in
      let header = placed_header die index place in
      let first = found_before view made before mounts.between mounts.headers.founds mounts.headers.read index
      (record { geometry = mounts.judged.geometry; header = Good header.0 }) header.1 in
      let kept : IsOnlyRead (view first.0) (view image) =
      only_read_at (map view before) (map view after) only index (view first.0) (view image)
      (slice_get-map view before index ∙ ap (option_map view) first.1) (slice_get-map view after index ∙ ap (option_map view) there) in
      ap (λ (s : ImageState). s.geometry) kept ∙ first.2 ∙ sym mounts.scan.mounts.shape
      ∙ sym (ap (λ (c : Core). c.page_map.geometry) is.begins.is)

  record IsReadAs (die : ℕ) (image : I) : Type 0 where
    pub shape : (view image).geometry ≡ core.page_map.geometry
    pub alive : (is_live core.page_map die || contains_key core.spares die) ≡ true

  read_as : (die : ℕ) (image : I) → images_on dies after die ≡ Some image → IsReadAs die image
  read_as die image at =
      let mounts = is.mounts in
      let geometry = mounts.judged.geometry in
      let same : is.m.geometry ≡ geometry = mounts.scan.mounts.shape in
      let there = stands_at dies after die image at in
      let each = settled_at die (slice_get_within dies die there.0 there.1) in
      let read = was_read made geometry mounts.between after die image each.standing each.outcome
      (mounts.read die each.standing each.outcome each.stood each.came)
      (sym (ap (λ (o : Option Standing). option_and_then (slice_get after) (option_and_then image_read o)) each.stands) ∙ at) in
      let first = readable.image die each.standing read.index each.stood read.which in
      let kept = die_only_read view honest made meets geometry die (Ok read.slots) read.reads.old read.reads.new read.reads.reads in
      let core_is : core.page_map.geometry ≡ is.m.geometry = ap (λ (c : Core). c.page_map.geometry) is.begins.is in
      record {
        shape = ap (λ (i : I). (view i).geometry) (same_Some image read.reads.new (sym read.is ∙ read.reads.is))
            ∙ ap (λ (s : ImageState). s.geometry) kept
            ∙ ap (λ (i : I). (view i).geometry) (same_Some read.reads.old first.0 (sym read.reads.was ∙ first.1)) ∙ first.2 ∙ sym same ∙ sym core_is;
        alive = elim read.stands [
          | inl live ↦
              or_left (is_live core.page_map die) (contains_key core.spares die)
              (ap (λ (c : Core). is_live c.page_map die) is.begins.is ∙ mounts.scan.mounts.live die
              ∙ ap is_some (get_or_from_slice_get mounts.scan.contents die (mounted_of each.standing each.outcome) None each.found) ∙ live)
          | inr spare ↦
              or_right (is_live core.page_map die) (contains_key core.spares die)
              (ap (λ (c : Core). contains_key c.spares die) is.begins.is ∙ is.begins.are_spares die
              ∙ ap (λ (o : Option Standing). option_map_or is_spare o false) each.stands ∙ spare)
        ];
      }

  have_images : (w : World) → w.core ≡ core → IsMountedWorld (bytes_of (map view after) dies) (is_spare_of dies) w
      → AreImages view w (images_on dies after)
  have_images w same mounted die image at =
      let read = read_as die image at in record {
        shape = read.shape ∙ sym (ap (λ (c : Core). c.page_map.geometry) same);
        cells = λ slot within.
            subst (λ (l : List ℕ). IsCellOf l ((w.images die).seen slot))
            (ap (λ (o : Option ImageState). unwrap_or (option_map (slot_at slot) o) [])
            (mapped view after image (option_and_then image_read (slice_get dies die)) at))
            (mounted.cells die slot (ap (λ (c : Core). is_live c.page_map die || contains_key c.spares die) same ∙ read.alive) within);
      }

  -- the world of which what was mounted is
  pub mounted_begins : CopiesAgree (bytes_of (map view after) dies) core.page_map → AllByRecursion (λ image. IsTrue (honest image)) after
      → (first : World) × (first.core ≡ core) × IsMountedWorld (bytes_of (map view after) dies) (is_spare_of dies) first × IsBeginning first
      × AreImages view first (images_on dies after)
  mounted_begins agree fair =
      let world = mounted_world view honest made whole meets copies unclean before after array dies core is many fair agree in
      (world.0, world.1, world.2, world.3, have_images world.0 world.1 world.2)

  pub mounted_runs : GeometryLaw → (drives : List Drive) (last : Driven I) → CopiesAgree (bytes_of (map view after) dies) core.page_map
      → AllByRecursion (λ image. IsTrue (honest image)) after → Drives made array (beginning core (images_on dies after)) drives last
      → AreHonest honest last.images
      → (first : World) × (happenings : List Happening) × (w : World) × (first.core ≡ core)
      × IsMountedWorld (bytes_of (map view after) dies) (is_spare_of dies) first × IsBeginning first × Run first happenings w
      × (events_of happenings ≡ acts_of drives) × (w.core ≡ last.core) × AreImages view w last.images
  mounted_runs law drives last agree fair goes fair_then =
      let world = mounted_world view honest made whole meets copies unclean before after array dies core is many fair agree in
      let first = world.0 in
      let run = drives_run view honest made whole meets array law first (images_on dies after) drives last world.3
      (have_images first world.1 world.2)
      (subst (λ (c : Core). Drives made array (beginning c (images_on dies after)) drives last) (sym world.1) goes) fair_then in
      (first, run.0, run.1, world.1, world.2, world.3, run.2, run.3, run.4, run.5)
