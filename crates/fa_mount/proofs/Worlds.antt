-- The world over what was mounted of images that return what was written.
use Rattle.std.proofs.Common.{◌≡◌, ◌⊎◌, ℕ, zero, suc, ◌+◌, ◌-◌, ◌*◌, ◌<◌, ◌^◌, ◌||◌, inl, inr, Bool, true, false, IsTrue, List, [], ◌∷◌, Option, Some, None, Ok, Err}
use Rattle.std.proofs.Common.{get_or, length, map, refl, replicate, slice_get, sym, ap, subst, ◌∙◌, arith, take, unwrap_or}
use Rattle.std.proofs.lemmas.Bool.{cases_Bool, cases_lt, false≢true}
use Rattle.std.proofs.lemmas.List.{length-replicate, length-take-le}
use Rattle.std.proofs.lemmas.List.FromFn.{get_or-map-range_with_len, length-map-range_with_len}
use Rattle.std.proofs.lemmas.Option.{get_or_from_slice_get, none-some, same_Some, slice_get-get_or, slice_get-map}
use Rattle.std.specs.Cmp.{nat_cmp_total}
use Rattle.std.specs.FinMap.{contains_key, entries, get, get-entries, get-from_entries}
use Rattle.std.specs.List.{AllByRecursion}
use Rattle.std.specs.Prelude.{is_some, option_and_then, option_map, slice_index_or}
use Rattle.fa_core_state.specs.Begun.{begun, numbers_of}
use Rattle.fa_mount_headers.proofs.Images.{images_of}
use Rattle.fa_mount_headers.specs.Rules.{seen_from}
use Rattle.fa_mount_headers.specs.declared.judging.Standing.{Standing}
use Rattle.fa_mount_headers.specs.declared.judging.Standing.TheVariants.{Missing, Live, Spare, Out}
use Rattle.fa_image.specs.Image.{ImageState, ImageCall, ImageAnswer, ImageMeets, IsImage, slot_at, slot_bytes, slot_count}
use Rattle.fa_machine.proofs.Maps.{found_changed, nat_same}
use Rattle.fa_machine.specs.Beginning.{IsBeginning}
use Rattle.fa_machine.specs.Cells.{Cell, Empty}
use Rattle.fa_machine.specs.Maps.{Numbers, below}
use Rattle.fa_machine.specs.Reading.{zeros}
use Rattle.fa_machine.specs.State.{Core, MapState, is_live}
use Rattle.fa_machine.specs.World.{World, plain_page}
use Rattle.fa_machine.specs.declared.places.Version.{Version}
use Rattle.fa_mount.proofs.Mounted.{may_begin}
use Rattle.fa_mount.specs.Begins.{AreSpares, IsGreatestNumber, MayBegin}
use Rattle.fa_mount.specs.MountsArray.{MountsArray}
use Rattle.fa_mount_scan.proofs.Filling.{read_die_below}
use Rattle.fa_mount_scan.proofs.HonestSlots.{mounted_there}
use Rattle.fa_mount_scan.proofs.LastWrites.{found_on}
use Rattle.fa_mount_scan.proofs.MountedFacts.{held_found, live_found, used_within, written_held}
use Rattle.fa_mount_scan.proofs.MountedWorlds.{is_beginning}
use Rattle.fa_mount_scan.proofs.OnlyReading.{die_only_read}
use Rattle.fa_mount_scan.proofs.Readable.{are_readable}
use Rattle.fa_mount_scan.proofs.SlotCells.{copy_bytes, found_cell}
use Rattle.fa_mount_scan.specs.Content.{slots_on}
use Rattle.fa_mount_scan.specs.ContentCells.{IsCellOf}
use Rattle.fa_mount_scan.specs.ContentReading.{HasOutcome, ReadsAt, image_read}
use Rattle.fa_mount_scan.specs.MountedWorld.{CopiesAgree, HoldMap, IsFirstPlain, IsMountedWorld, SlotBytes, bytes_of, is_spare_of}
use Rattle.fa_mount_scan.specs.Mounting.{Mounts}
use Rattle.fa_mount_scan.specs.Scanned.{Outcome, mounted_of, settled}
use Rattle.fa_mount_scan.specs.declared.slots.content.SlotContent.{SlotContent}
use Rattle.fa_mount_scan.specs.declared.slots.content.SlotContent.TheVariants.{Copy}
use Rattle.fa_tag.specs.SlotGrammar.{payload_of}
use Rattle.fa_types.specs.declared.geometry.Geometry.{Geometry}
use Rattle.fa_types.specs.declared.numbers.Page.{Page}

-- the numbers that the pages have, page by page
numbers_get : (m : MapState) (page : ℕ) → get (numbers_of m) page ≡ option_map (λ (v : Version). v.seq.0) (get m.versions page)
numbers_get m page =
    get-from_entries nat_cmp_total (map (λ e. (e.0, e.1.seq.0)) (entries m.versions)) page
    ∙ found_changed nat_cmp_total nat_same (λ (page : ℕ) (version : Version). version.seq.0) page (entries m.versions)
    ∙ sym (ap (option_map (λ (v : Version). v.seq.0)) (get-entries m.versions page))

-- what holds of each value of a function holds of all in the list of them
all_made : {X Y : Type 0} (P : Y → Type 0) (f : X → Y) → ((x : X) → P (f x)) → (xs : List X) → AllByRecursion P (map f xs)
all_made P f each [] = tt
all_made P f each (x ∷ xs) = (each x, all_made P f each xs)

-- a slot of an image has so many bytes
slot_long : (size slot : ℕ) (slots : List (List ℕ)) → AllByRecursion (λ s. length s ≡ size) slots → slot < length slots
    → length (slice_index_or slots slot []) ≡ size
slot_long size slot [] all within = absurd (omega (arith, within))
slot_long size zero (s ∷ slots) all within = all.0
slot_long size (suc slot) (s ∷ slots) all within = slot_long size slot slots all.1 (omega (arith, within))

-- a die of which slots are mounted was live, and stays so
record IsLiveAt (standing : Standing) (outcome : Outcome) : Type 0 where
  index : ℕ
  slots : List SlotContent
  was : standing ≡ Live index
  came : outcome ≡ Some (Ok slots)

live_at : (slots : List SlotContent) (standing : Standing) (outcome : Outcome) → mounted_of standing outcome ≡ Some slots
    → IsLiveAt standing outcome
live_at slots Missing outcome is = absurd (none-some slots is)
live_at slots (Spare index) outcome is = absurd (none-some slots is)
live_at slots (Out index) outcome is = absurd (none-some slots is)
live_at slots (Live index) None is = absurd (none-some slots is)
live_at slots (Live index) (Some (Err fault)) is = absurd (none-some slots is)
live_at slots (Live index) (Some (Ok found)) is = record { index = index; slots = found; was = refl; came = refl }

module _ {I A : Type 0} (view : I → ImageState) (honest : I → Bool) (made : I → ImageCall → ImageAnswer → I → Type 0)
    (whole : (image : I) → IsImage (view image))
    (meets : (before after : I) (call : ImageCall) (answer : ImageAnswer) → made before call answer after
    → ImageMeets (view before) (honest before) call answer (view after) (honest after))
    (copies : ℕ) (unclean : Bool) (before after : List I) (array : List ℕ) (epoch : ℕ) (clean : Bool) (dies : List Standing) (m : MapState)
    (mounts : Mounts A view made copies unclean before after array epoch clean dies m) (many : length dies ≡ m.geometry.dies)
    (fair : AllByRecursion (λ image. IsTrue (honest image)) after) where
  abbrev bytes : SlotBytes
  bytes = bytes_of (map view after) dies

  hold : HoldMap bytes (is_spare_of dies) m.geometry m
  hold = mounted_there view honest made meets copies unclean before after array epoch clean dies m mounts many fair

  -- the image of a live die is made for the array's geometry, and the die's bytes are those of its slots
  record IsImageFor (die : ℕ) : Type 0 where
    image : I
    shape : (view image).geometry ≡ m.geometry
    there : (slot : ℕ) → bytes die slot ≡ slot_at slot (view image)

  read_image : (die : ℕ) (slots : List SlotContent) → slots_on mounts.scan.contents die ≡ Some slots → IsImageFor die
  read_image die slots on =
      let geometry = mounts.judged.geometry in
      let standings = mounts.judged.dies.items in
      let contents = mounts.scan.contents in
      let settles = mounts.scan.settles in
      let same : m.geometry ≡ geometry = mounts.scan.mounts.shape in
      let readable = are_readable view honest made meets before mounts.between mounts.headers.founds (seen_from 0 mounts.headers.founds) mounts.judged
      mounts.headers.read mounts.headers.judges
      (images_of copies unclean mounts.headers.founds mounts.judged mounts.headers.fine mounts.headers.judges) in
      let below = read_die_below contents die slots on in
      let long = settles.contents_length in
      let as_many = settles.dies_length in
      let all = readable.dies in
      let dies_same : m.geometry.dies ≡ geometry.dies = ap (λ (g : Geometry). g.dies) same in
      let stand = get_or standings die Missing in
      let outcome = get_or mounts.outcomes die None in
      let stands = slice_get-get_or standings die Missing (omega (arith, below, long, as_many, all, many, dies_same)) in
      let comes = slice_get-get_or mounts.outcomes die None (omega (arith, below, long)) in
      let each = settles.each die stand outcome stands comes in
      let at = live_at slots stand outcome (sym (get_or_from_slice_get contents die (mounted_of stand outcome) None each.1) ∙ on) in
      let has = mounts.read die stand outcome stands comes in
      let reads : ReadsAt made geometry mounts.between after die at.index (Ok at.slots) =
      subst (λ (o : Outcome). HasOutcome made geometry mounts.between after die (Some at.index) o) at.came
      (subst (λ (s : Standing). HasOutcome made geometry mounts.between after die (image_read s) outcome) at.was has) in
      let image = readable.image die stand at.index stands (ap image_read at.was) in
      let kept = die_only_read view honest made meets geometry die (Ok at.slots) reads.old reads.new reads.reads in
      let now : slice_get dies die ≡ Some (Live at.index) =
      each.0 ∙ ap (λ (s : Standing). Some (settled s outcome)) at.was ∙ ap (λ (o : Outcome). Some (settled (Live at.index) o)) at.came in
      record {
        image = reads.new;
        shape = ap (λ (s : ImageState). s.geometry) kept
            ∙ ap (λ (i : I). (view i).geometry) (same_Some reads.old image.0 (sym reads.was ∙ image.1)) ∙ image.2 ∙ sym same;
        there = λ slot.
            ap (λ (o : Option Standing). unwrap_or (option_map (slot_at slot) (option_and_then (slice_get (map view after)) (option_and_then image_read o))) []) now
            ∙ ap (λ (o : Option ImageState). unwrap_or (option_map (slot_at slot) o) [])
            (slice_get-map view after at.index ∙ ap (option_map view) reads.is);
      }

  image_for : (die : ℕ) → is_live m die ≡ true → IsImageFor die
  image_for die live = go (slots_on mounts.scan.contents die) refl
    where
      go : (o : Option (List SlotContent)) → slots_on mounts.scan.contents die ≡ o → IsImageFor die
      go None on = absurd (false≢true (sym (mounts.scan.mounts.live die ∙ ap is_some on) ∙ live))
      go (Some slots) on = read_image die slots on

  -- so a slot of a live die has a page's bytes and 64 more
  slot_sized : (die slot : ℕ) → is_live m die ≡ true → slot < m.geometry.blocks * m.geometry.slots
      → length (bytes die slot) ≡ m.geometry.page_bytes + 64
  slot_sized die slot live within =
      let at = image_for die live in
      let are = (whole at.image).whole in
      let count : length (view at.image).slots ≡ m.geometry.blocks * m.geometry.slots = are.0 ∙ ap slot_count at.shape in
      ap (λ (l : List ℕ). length l) (at.there slot)
      ∙ slot_long (slot_bytes (view at.image).geometry) slot (view at.image).slots are.1 (omega (arith, within, count))
      ∙ ap slot_bytes at.shape

  -- what the plain array begins with for a page
  record IsFirst (page : ℕ) (number : Option Version) : Type 0 where
    plain : List ℕ
    sized : length plain ≡ m.geometry.page_bytes
    is : IsFirstPlain bytes m page plain number

  first : (page : ℕ) (number : Option Version) → get m.versions page ≡ number → IsFirst page number
  first page None none = record { plain = zeros m; sized = length-replicate m.geometry.page_bytes 0; is = refl }
  first page (Some version) written =
      let named : Page = record { 0 = page } in
      let at = written_held m.geometry hold.contents m hold.are hold.content named version written in
      let found = held_found m.geometry hold.contents m hold.are hold.content at.0 at.1 named version at.2 in
      let copy = copy_bytes (bytes at.0 at.1) m.geometry.pages at.0 at.1 (Copy named version)
      (hold.found at.0 at.1 (Copy named version) found.1) named version refl in
      let within = used_within m.geometry hold.contents m hold.are hold.content at.0 at.1 (ap is_some at.2) in
      let size = slot_sized at.0 at.1 within.0 within.1 in
      record {
        plain = payload_of (bytes at.0 at.1);
        sized = length-take-le (length (bytes at.0 at.1) - 64) (bytes at.0 at.1) (omega (arith, size)) ∙ omega (arith, size);
        is = (at.0, at.1, record { held = at.2; sealed = copy.1 });
      }

  abbrev first_of : ℕ → List ℕ
  first_of page = (first page (get m.versions page) refl).plain

  module _ (spares : Numbers) (are_spares : AreSpares dies spares) (last : ℕ) (is_last : IsGreatestNumber m last) (agree : CopiesAgree bytes m) where
    -- what is seen of a slot of a live die or of a spare
    cell : (die slot : ℕ) → (c : Cell)
        × ((is_live m die || contains_key spares die) ≡ true → slot < m.geometry.blocks * m.geometry.slots → IsCellOf (bytes die slot) c)
    cell die slot =
        elim (cases_Bool (is_live m die)) [
          | inl live ↦ elim (cases_lt slot (m.geometry.blocks * m.geometry.slots)) [
            | inl within ↦
                let found = live_found m.geometry hold.contents m hold.are hold.content die slot live within in
                let c = found_cell (bytes die slot) m.geometry.pages die slot found.1
                (hold.found die slot found.1 (found_on hold.contents die slot found.0 found.2 ∙ found.3)) in
                (c.0, λ alive inside. c.1)
            | inr past ↦ (Empty, λ alive inside. absurd (omega (arith, past, inside)))
          ]
          | inr out ↦ (
            Empty,
            λ alive inside. hold.erased die slot
                (sym (are_spares die) ∙ sym (ap (λ b. b || contains_key spares die) out) ∙ alive) inside,
          )
        ]

    abbrev plain : List (List ℕ)
    plain = map first_of (below m.geometry.pages)

    abbrev world : World
    world = record {
      core = begun copies m (epoch + 1) spares last;
      images = λ die. record { seen = λ slot. (cell die slot).0; header = None };
      works = λ die. None;
      plain = plain;
      payloads = λ page seq. slice_index_or plain page [];
      due = λ die. record { bytes = []; since = 0 };
      values = λ batch page. record { bytes = []; since = 0 };
      told = [];
      moment = 0;
      admitted = λ batch. 0;
    }

    plain_at : (page : ℕ) → page < m.geometry.pages → plain_page world page ≡ first_of page
    plain_at page within = get_or-map-range_with_len first_of 0 m.geometry.pages page page [] within (omega arith)

    may : MayBegin copies dies m
    may = may_begin view made copies unclean before after array epoch clean dies m mounts many

    last_low : (last ≡ 0) ⊎ ((page : ℕ) × (version : Version) × (get m.versions page ≡ Some version) × (version.seq.0 ≡ last)) → last < 2 ^ 62
    last_low (inl none) = subst (λ n. n < 2 ^ 62) (sym none) (omega arith)
    last_low (inr given) = subst (λ n. n < 2 ^ 62) given.3 (may.numbers given.0 given.1 given.2).1

    is_world : IsMountedWorld bytes (is_spare_of dies) world
    is_world = record {
      fresh = refl;
      copies = may.room;
      holds = hold;
      spares = λ die spare. sym (are_spares die) ∙ spare;
      based = numbers_get m;
      last = last_low is_last.given;
      given = is_last.above;
      cells = λ die slot alive within. (cell die slot).1 alive within;
      agree = agree;
      plain = λ page within. subst (λ (l : List ℕ). IsFirstPlain bytes m page l (get m.versions page)) (sym (plain_at page within))
          (first page (get m.versions page) refl).is;
      payloads = λ page version written. refl;
      pages = (
        length-map-range_with_len first_of 0 m.geometry.pages,
        all_made (λ (page : List ℕ). length page ≡ m.geometry.page_bytes) first_of
            (λ page. (first page (get m.versions page) refl).sized) (below m.geometry.pages),
      );
      idle = λ die. refl;
      told = refl;
    }

-- the world over an array that was mounted, which is a beginning
module _ {I A : Type 0} (view : I → ImageState) (honest : I → Bool) (made : I → ImageCall → ImageAnswer → I → Type 0)
    (whole : (image : I) → IsImage (view image))
    (meets : (before after : I) (call : ImageCall) (answer : ImageAnswer) → made before call answer after
    → ImageMeets (view before) (honest before) call answer (view after) (honest after)) where
  pub mounted_world : (copies : ℕ) (unclean : Bool) (before after : List I) (array : List ℕ) (dies : List Standing) (core : Core)
      → MountsArray A view made copies unclean before after array dies core → length dies ≡ core.page_map.geometry.dies
      → AllByRecursion (λ image. IsTrue (honest image)) after → CopiesAgree (bytes_of (map view after) dies) core.page_map
      → (w : World) × (w.core ≡ core) × IsMountedWorld (bytes_of (map view after) dies) (is_spare_of dies) w × IsBeginning w
  mounted_world copies unclean before after array dies core is many fair agree =
      let begins = is.begins in
      let all : length dies ≡ is.m.geometry.dies = many ∙ ap (λ (c : Core). c.page_map.geometry.dies) begins.is in
      let agrees : CopiesAgree (bytes_of (map view after) dies) is.m =
      subst (λ (c : Core). CopiesAgree (bytes_of (map view after) dies) c.page_map) begins.is agree in
      let w = world view honest made whole meets copies unclean before after array is.epoch is.clean dies is.m is.mounts all fair
      begins.spares begins.are_spares begins.last begins.is_last agrees in
      let is_one = is_world view honest made whole meets copies unclean before after array is.epoch is.clean dies is.m is.mounts all fair
      begins.spares begins.are_spares begins.last begins.is_last agrees in
      (w, sym begins.is, is_one, is_beginning (bytes_of (map view after) dies) (is_spare_of dies) w is_one)
