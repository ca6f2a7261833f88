-- What is mounted of the images of the dies that closing left is what the array had.
use Rattle.fa_mount_close_laws.proofs.Beginnings.{mounted_of_last}
use Rattle.fa_mount_close_laws.proofs.Headers.{all_at, all_from, clean_header, found_die, geometry_judged, in_mask_lives, lives_found, map_none, none_at, some_found}
use Rattle.fa_mount_close_laws.proofs.Headers.{IsMarked}
use Rattle.fa_mount_close_laws.proofs.Kept.{Kept}
use Rattle.fa_mount_close_laws.proofs.Marked.{IsLeft, header_fits, hold_all, left_image, was_clean}
use Rattle.fa_mount_close_laws.proofs.Mounting.{agree_again, current_again, same_plain}
use Rattle.fa_mount_close_laws.specs.Closed.{AreOfMask, IsImageAt, WasClosed}
use Rattle.fa_mount_close_laws.specs.LastCells.{AreOfLast, HoldAll}
use Rattle.fa_mount_close_laws.specs.Mounted.{AreCellsOf, LastCopiesAgree}
use Rattle.fa_mount_headers.proofs.Reading.{are_of, are_only_read}
use Rattle.fa_mount_headers.specs.Found.{AreOf, AreOnlyRead}
use Rattle.fa_mount_headers.specs.Judged.{standing_of}
use Rattle.fa_mount_headers.specs.Rules.{is_in, seen_from}
use Rattle.fa_mount_headers.specs.declared.found.Found.{Found}
use Rattle.fa_mount_headers.specs.declared.found.HeaderFound.{HeaderFound}
use Rattle.fa_mount_headers.specs.declared.found.HeaderFound.TheVariants.{Good}
use Rattle.fa_mount_headers.specs.declared.judging.Standing.{Standing}
use Rattle.fa_mount_headers.specs.declared.judging.Standing.TheVariants.{Live, Missing, Out, Spare}
use Rattle.fa_image.specs.Image.{ImageAnswer, ImageCall, ImageMeets, ImageState, IsImage, slot_at}
use Rattle.fa_machine.specs.Beginning.{IsBeginning}
use Rattle.fa_machine.specs.State.{Core, MapState, is_live}
use Rattle.fa_machine.specs.World.{World}
use Rattle.fa_mount.proofs.Worlds.{mounted_world}
use Rattle.fa_mount.specs.Closing.{IsClosedClean}
use Rattle.fa_mount.specs.MountsArray.{MountsArray}
use Rattle.fa_mount_scan.proofs.Filling.{read_die_below}
use Rattle.fa_mount_scan.proofs.HonestSlots.{mounted_there}
use Rattle.fa_mount_scan.proofs.OnlyReading.{die_only_read}
use Rattle.fa_mount_scan.specs.Content.{slots_on}
use Rattle.fa_mount_scan.specs.ContentCells.{IsCellOf}
use Rattle.fa_mount_scan.specs.ContentReading.{HasOutcome, ReadsAt, image_read}
use Rattle.fa_mount_scan.specs.MountedWorld.{CopiesAgree, HoldMap, IsMountedWorld, SlotBytes, bytes_of, is_spare_of}
use Rattle.fa_mount_scan.specs.Scanned.{Outcome, fault_at, is_refused, mounted_of, settled}
use Rattle.fa_mount_scan.specs.declared.slots.content.SlotContent.{SlotContent}
use Rattle.fa_tag.specs.HeaderGrammar.{IsHeader}
use Rattle.fa_tag.specs.declared.header.Header.{Header}
use Rattle.fa_types.specs.declared.geometry.Geometry.{Geometry}
use Rattle.std.proofs.Common.{Bool, Err, IsTrue, List, None, Ok, Option, Some, [], ap, arith, false, get_or, inl, inr, length, map, refl, slice_get, subst, suc}
use Rattle.std.proofs.Common.{sym, true, unwrap_or, zero, ℕ, ◌*◌, ◌<◌, ◌∙◌, ◌∷◌, ◌≡◌}
use Rattle.std.proofs.lemmas.Bool.{cases_Bool, false≢true, true≢false}
use Rattle.std.proofs.lemmas.List.{length-map}
use Rattle.std.proofs.lemmas.List.FromFn.{length-map-range_with_len}
use Rattle.std.proofs.lemmas.Option.{get_or_from_slice_get, none-some, same_Some, slice_get-get_or, slice_get-map}
use Rattle.std.specs.List.{AllByRecursion}
use Rattle.std.specs.Prelude.{is_some, option_and_then, option_map, slice_index_or}

-- a die of which slots are mounted was live, and was read
record IsLiveAt (standing : Standing) (outcome : Outcome) : Type 0 where
  index : ℕ
  slots : List SlotContent
  was : standing ≡ Live index
  came : outcome ≡ Some (Ok slots)

live_at : (slots : List SlotContent) (standing : Standing) (outcome : Outcome) → mounted_of standing outcome ≡ Some slots → IsLiveAt standing outcome
live_at slots Missing outcome is = absurd (none-some slots is)
live_at slots (Spare index) outcome is = absurd (none-some slots is)
live_at slots (Out index) outcome is = absurd (none-some slots is)
live_at slots (Live index) None is = absurd (none-some slots is)
live_at slots (Live index) (Some (Err fault)) is = absurd (none-some slots is)
live_at slots (Live index) (Some (Ok found)) is = record { index = index; slots = found; was = refl; came = refl }

-- what stands in a list of values stands so in the list that was mapped
pub map_some : {X Y : Type 0} (f : X → Y) (xs : List X) (i : ℕ) (y : Y) → slice_get (map f xs) i ≡ Some y → (x : X) × (slice_get xs i ≡ Some x) × (f x ≡ y)
map_some f [] i y at = absurd (none-some y at)
map_some f (x ∷ xs) zero y at = (x, refl, same_Some (f x) y at)
map_some f (x ∷ xs) (suc i) y at = map_some f xs i y at

-- what was only read has the slots that it had
read_back : (xs ys : List ImageState) → AreOnlyRead xs ys → (i : ℕ) (b : ImageState) → slice_get ys i ≡ Some b
    → (a : ImageState) × (slice_get xs i ≡ Some a) × (b.slots ≡ a.slots)
read_back [] [] only i b at = absurd (none-some b at)
read_back [] (y ∷ ys) only i b at = absurd only
read_back (x ∷ xs) [] only i b at = absurd only
read_back (x ∷ xs) (y ∷ ys) only zero b at = (x, refl, sym (ap (λ (s : ImageState). s.slots) (same_Some y b at)) ∙ ap (λ (s : ImageState). s.slots) only.0)
read_back (x ∷ xs) (y ∷ ys) only (suc i) b at = read_back xs ys only.1 i b at

abbrev pub good_in : Header → HeaderFound → Header
good_in other (Good header) = header
good_in other found = other

module _ {I A : Type 0} (view : I → ImageState) (honest : I → Bool) (made : I → ImageCall → ImageAnswer → I → Type 0)
    (whole : (image : I) → IsImage (view image))
    (meets : (before after : I) (call : ImageCall) (answer : ImageAnswer) → made before call answer after
    → ImageMeets (view before) (honest before) call answer (view after) (honest after))
    (w : World) (kept : Kept w) (last : AreOfLast w) (array : List ℕ) (dies : List Standing) (before after : List I) (mask : ℕ)
    (was : WasClosed view made w array dies before after mask) (these : List I) (of : AreOfMask dies mask after these)
    (copies : ℕ) (later : List I) (number : List ℕ) (stands : List Standing) (core : Core)
    (is : MountsArray A view made copies false these later number stands core) (many : length stands ≡ core.page_map.geometry.dies)
    (fair_then : AllByRecursion (λ image. IsTrue (honest image)) is.mounts.between) (fair : AllByRecursion (λ image. IsTrue (honest image)) later) where
  clean : IsClosedClean made w.core array dies before after mask
  clean = (was_clean view honest made meets w array dies before after mask was).1

  abbrev g : Geometry
  g = w.core.page_map.geometry

  abbrev epoch : ℕ
  epoch = (was_clean view honest made meets w array dies before after mask was).1.epoch

  abbrev m : MapState
  m = is.m

  abbrev founds : List Found
  founds = is.mounts.headers.founds

  abbrev bytes : SlotBytes
  bytes = bytes_of (map view later) stands

  abbrev Left : ℕ → I → Type 0
  Left = IsLeft view honest made meets w array dies before after mask was

  fits : (die : ℕ) → is_in mask die ≡ true → IsHeader (clean_header g array epoch mask die)
  fits = header_fits view honest made meets w array dies before after mask was kept

  all : HoldAll w (is_in mask)
  all = hold_all view honest made meets w array dies before after mask was kept

  -- an image of the list is that of a die that is left
  image_left : (i : ℕ) (y : I) → slice_get these i ≡ Some y → (die : ℕ) × (is_in mask die ≡ true) × Left die y
  image_left i y at =
      let e = of.each i y at in
      (e.0, e.1, left_image view honest made meets w array dies before after mask was e.0 e.2.0 y e.1 e.2.1 e.2.2)

  marked : AllByRecursion (IsMarked g array epoch mask) (map view these)
  marked = all_from (IsMarked g array epoch mask) (map view these) (λ i s at.
      let y = map_some view these i s at in
      let left = image_left i y.0 y.1 in
      subst (IsMarked g array epoch mask) y.2 (record { die = left.0; inside = left.1; shape = left.2.shape; bytes = left.2.header }))

  are : AreOf (map view these) founds
  are = are_of view honest made meets these is.mounts.between founds is.mounts.headers.read fair_then

  found_many : length founds ≡ length (map view these)
  found_many = let n = length-map these view in let e = is.mounts.headers.each in omega (arith, n, e)

  some : 0 < length (map view these)
  some = let n = found_many in let e = some_found copies founds is.mounts.headers.fine in omega (arith, n, e)

  shape_judged : is.mounts.judged.geometry ≡ g
  shape_judged = geometry_judged g array epoch mask fits (map view these) founds copies is.mounts.judged marked are found_many is.mounts.headers.fine
      is.mounts.headers.judges some

  shape : m.geometry ≡ g
  shape = is.mounts.scan.mounts.shape ∙ shape_judged

  m_is : core.page_map ≡ m
  m_is = ap (λ (c : Core). c.page_map) is.begins.is

  stands_many : length stands ≡ m.geometry.dies
  stands_many = many ∙ ap (λ (n : MapState). n.geometry.dies) m_is

  found_at : (i die : ℕ) (y : I) → slice_get these i ≡ Some y → is_in mask die ≡ true → Left die y
      → slice_get founds i ≡ Some (record { geometry = g; header = Good (clean_header g array epoch mask die) })
  found_at i die y at inside left =
      found_die g array epoch mask fits (map view these) founds copies is.mounts.judged marked are found_many is.mounts.headers.fine
      is.mounts.headers.judges some i die (view y) (slice_get-map view these i ∙ ap (option_map view) at) inside left.shape left.header

  judged_many : length is.mounts.judged.dies.items ≡ is.mounts.judged.geometry.dies
  judged_many = ap (λ (l : List Standing). length l) is.mounts.headers.judges.dies
      ∙ length-map-range_with_len (standing_of is.mounts.judged.mask (seen_from 0 founds)) 0 is.mounts.judged.geometry.dies

  -- a die that is mounted is one of the mask, and its bytes are what the world sees
  record IsOfWorld (die : ℕ) : Type 0 where
    inside : is_in mask die ≡ true
    cells : (slot : ℕ) → slot < g.blocks * g.slots → IsCellOf (bytes die slot) ((w.images die).seen slot)

  -- a die that is mounted, with the image that was read for it
  record IsReadFor (die : ℕ) : Type 0 where
    index : ℕ
    slots : List SlotContent
    reads : ReadsAt made is.mounts.judged.geometry is.mounts.between later die index (Ok slots)
    live : slice_get is.mounts.judged.dies.items die ≡ Some (Live index)
    now : slice_get stands die ≡ Some (Live index)

  read_for : (die : ℕ) (slots : List SlotContent) → slots_on is.mounts.scan.contents die ≡ Some slots → IsReadFor die
  read_for die slots on =
      let geometry = is.mounts.judged.geometry in
      let standings = is.mounts.judged.dies.items in
      let contents = is.mounts.scan.contents in
      let settles = is.mounts.scan.settles in
      let below = read_die_below contents die slots on in
      let long = settles.contents_length in
      let as_many = settles.dies_length in
      let all_dies = judged_many in
      let enough = stands_many in
      let dies_same : m.geometry.dies ≡ geometry.dies = ap (λ (h : Geometry). h.dies) is.mounts.scan.mounts.shape in
      let stand = get_or standings die Missing in
      let outcome = get_or is.mounts.outcomes die None in
      let stand_at = slice_get-get_or standings die Missing (omega (arith, below, long, as_many, all_dies, enough, dies_same)) in
      let comes = slice_get-get_or is.mounts.outcomes die None (omega (arith, below, long)) in
      let each = settles.each die stand outcome stand_at comes in
      let at = live_at slots stand outcome (sym (get_or_from_slice_get contents die (mounted_of stand outcome) None each.1) ∙ on) in
      let has = is.mounts.read die stand outcome stand_at comes in
      record {
        index = at.index;
        slots = at.slots;
        reads = subst (λ (o : Outcome). HasOutcome made geometry is.mounts.between later die (Some at.index) o) at.came
            (subst (λ (s : Standing). HasOutcome made geometry is.mounts.between later die (image_read s) outcome) at.was has);
        live = stand_at ∙ ap Some at.was;
        now = each.0 ∙ ap (λ (s : Standing). Some (settled s outcome)) at.was ∙ ap (λ (o : Outcome). Some (settled (Live at.index) o)) at.came;
      }

  -- the image as it was before the mount, with the same slots
  image_before : (die : ℕ) (at : IsReadFor die) → (y : I) × (slice_get these at.index ≡ Some y) × ((view at.reads.new).slots ≡ (view y).slots)
  image_before die at =
      let back = read_back (map view these) (map view is.mounts.between)
      (are_only_read view honest made meets these is.mounts.between founds is.mounts.headers.read) at.index (view at.reads.old)
      (slice_get-map view is.mounts.between at.index ∙ ap (option_map view) at.reads.was) in
      let y = map_some view these at.index back.0 back.1 in (
        y.0,
        y.1,
        ap (λ (s : ImageState). s.slots)
            (die_only_read view honest made meets is.mounts.judged.geometry die (Ok at.slots) at.reads.old at.reads.new at.reads.reads)
            ∙ back.2 ∙ sym (ap (λ (s : ImageState). s.slots) y.2),
      )

  -- its header told the die
  same_die : (die d : ℕ) (at : IsReadFor die) (y : I) → slice_get these at.index ≡ Some y → is_in mask d ≡ true → Left d y → d ≡ die
  same_die die d at y there inside left =
      let judged = lives_found g array epoch mask fits (map view these) founds copies is.mounts.judged marked are found_many is.mounts.headers.fine
      is.mounts.headers.judges some die at.index at.live in
      ap (λ (f : Found). (good_in judged.0 f.header).die.0) (same_Some _ _ (sym (found_at at.index d y there inside left) ∙ judged.1)) ∙ judged.2

  bytes_there : (die : ℕ) (at : IsReadFor die) (slots : List (List ℕ)) → (view at.reads.new).slots ≡ slots → (slot : ℕ)
      → bytes die slot ≡ slice_index_or slots slot []
  bytes_there die at slots same slot =
      ap (λ (o : Option Standing). unwrap_or (option_map (slot_at slot) (option_and_then (slice_get (map view later)) (option_and_then image_read o))) []) at.now
      ∙ ap (λ (o : Option ImageState). unwrap_or (option_map (slot_at slot) o) []) (slice_get-map view later at.index ∙ ap (option_map view) at.reads.is)
      ∙ ap (λ (l : List (List ℕ)). slice_index_or l slot []) same

  world_of : (die : ℕ) (at : IsReadFor die) (y : I) → slice_get these at.index ≡ Some y → (view at.reads.new).slots ≡ (view y).slots
      → (d : ℕ) → is_in mask d ≡ true → Left d y → IsOfWorld die
  world_of die at y there slots d inside left =
      let same = same_die die d at y there inside left in
      record {
        inside = ap (is_in mask) (sym same) ∙ inside;
        cells = λ slot low. subst (λ l. IsCellOf l ((w.images die).seen slot)) (sym (bytes_there die at (view y).slots slots slot))
            (subst (λ n. IsCellOf (slot_at slot (view y)) ((w.images n).seen slot)) same (left.cells slot low));
      }

  mounted_die : (die : ℕ) (slots : List SlotContent) → slots_on is.mounts.scan.contents die ≡ Some slots → IsOfWorld die
  mounted_die die slots on =
      let at = read_for die slots on in
      let y = image_before die at in
      let left = image_left at.index y.0 y.1 in
      world_of die at y.0 y.1 y.2 left.0 left.1 left.2

  -- a die of the mask is mounted
  mask_mounted : (die : ℕ) → is_in mask die ≡ true → is_live m die ≡ true
  mask_mounted die inside = by_outcome (get_or is.mounts.outcomes die None) comes
    where
      image : (i : ℕ) × (y : I) × (slice_get these i ≡ Some y) × IsImageAt dies after die y
      image = of.all die inside

      left : Left die image.1
      left = left_image view honest made meets w array dies before after mask was die image.3.0 image.1 inside image.3.1 image.3.2

      low : die < is.mounts.judged.geometry.dies
      low =
          let n = kept.sound.dies.live_inside die (all.live die inside) in
          let e = ap (λ (h : Geometry). h.dies) shape_judged in
          omega (arith, n, e)

      live : (j : ℕ) × (slice_get is.mounts.judged.dies.items die ≡ Some (Live j))
      live = in_mask_lives g array epoch mask fits (map view these) founds copies is.mounts.judged marked are found_many is.mounts.headers.fine
          is.mounts.headers.judges some image.0 die (found_at image.0 die image.1 image.2 inside left) inside low

      comes : slice_get is.mounts.outcomes die ≡ Some (get_or is.mounts.outcomes die None)
      comes = slice_get-get_or is.mounts.outcomes die None (
          let as_many = is.mounts.scan.settles.dies_length in
          let enough = stands_many in
          let dies_same : m.geometry.dies ≡ is.mounts.judged.geometry.dies = ap (λ (h : Geometry). h.dies) is.mounts.scan.mounts.shape in
          let n = low in
          omega (arith, as_many, enough, dies_same, n))

      by_outcome : (outcome : Outcome) → slice_get is.mounts.outcomes die ≡ Some outcome → is_live m die ≡ true
      by_outcome None at = absurd (is.mounts.read die (Live live.0) None live.1 at)
      by_outcome (Some (Err fault)) at =
          absurd (true≢false (all_at (λ o. is_refused o ≡ false) is.mounts.outcomes die (Some (Err fault))
          (none_at is_refused is.mounts.outcomes (map_none (fault_at is.mounts.judged.dies.items) _ is.mounts.scan.no_fault)) at))
      by_outcome (Some (Ok slots)) at =
          let each = is.mounts.scan.settles.each die (Live live.0) (Some (Ok slots)) live.1 at in
          is.mounts.scan.mounts.live die ∙ ap is_some (get_or_from_slice_get is.mounts.scan.contents die (Some slots) None each.1)

  of_world : (die : ℕ) → is_live m die ≡ true → IsOfWorld die
  of_world die live = by_slots (slots_on is.mounts.scan.contents die) refl
    where
      by_slots : (o : Option (List SlotContent)) → slots_on is.mounts.scan.contents die ≡ o → IsOfWorld die
      by_slots None on = absurd (false≢true (sym (is.mounts.scan.mounts.live die ∙ ap is_some on) ∙ live))
      by_slots (Some slots) on = mounted_die die slots on

  -- the dies that are mounted are those of the mask
  lives : (die : ℕ) → is_live m die ≡ is_in mask die
  lives die =
      elim (cases_Bool (is_live m die)) [
        | inl live ↦ live ∙ sym (of_world die live).inside
        | inr out ↦ elim (cases_Bool (is_in mask die)) [
          | inl inside ↦ absurd (false≢true (sym out ∙ mask_mounted die inside))
          | inr outside ↦ out ∙ sym outside
        ]
      ]

  cells : AreCellsOf w (is_in mask) bytes
  cells die slot inside low = (of_world die (lives die ∙ inside)).cells slot low

  hold : HoldMap bytes (is_spare_of stands) m.geometry m
  hold = mounted_there view honest made meets copies false these later number is.epoch is.clean stands m is.mounts stands_many fair

  agree : CopiesAgree bytes m
  agree = current_again w kept last (is_in mask) all bytes (is_spare_of stands) m shape hold lives cells

  -- the world over what was mounted
  pub mounted_again : (v : World) × (v.core ≡ core) × IsMountedWorld bytes (is_spare_of stands) v × IsBeginning v × AreOfLast v × (v.plain ≡ w.plain)
  mounted_again =
      let v = mounted_world view honest made whole meets copies false these later number stands core is many fair
      (subst (λ n. CopiesAgree bytes n) (sym m_is) agree) in
      let v_is : v.0.core.page_map ≡ m = ap (λ (c : Core). c.page_map) v.1 ∙ m_is in (
        v.0,
        v.1,
        v.2,
        v.3,
        mounted_of_last bytes (is_spare_of stands) v.0 v.2
            (subst (λ n. LastCopiesAgree bytes n) (sym v_is) (agree_again w kept last (is_in mask) all bytes (is_spare_of stands) m shape hold lives cells)),
        same_plain w kept last (is_in mask) all bytes (is_spare_of stands) v.0 (ap (λ (n : MapState). n.geometry) v_is ∙ shape)
            (λ die. ap (λ (n : MapState). is_live n die) v_is ∙ lives die) cells v.2,
      )
