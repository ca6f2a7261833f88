-- The store over an array that was just mounted.
use Rattle.fa_solo_laws.specs.Driving.{image_on}
use Rattle.fa_solo_laws.specs.Sessions.{IsStoreOf}
use Rattle.fa_mount_headers.specs.Found.{AreOnlyRead}
use Rattle.fa_mount_headers.specs.declared.judging.Standing.{Standing}
use Rattle.fa_mount_headers.specs.declared.judging.Standing.TheVariants.{Live, Missing, Out, Spare}
use Rattle.fa_image.specs.Image.{ImageAnswer, ImageCall, ImageMeets, ImageState, IsImage, slot_at}
use Rattle.fa_machine.specs.Beginning.{IsBeginning, IsPlainOf, StandsAt}
use Rattle.fa_machine.specs.State.{Core, is_live, used_at}
use Rattle.fa_machine.specs.World.{DieImage, World}
use Rattle.fa_machine.specs.declared.places.Used.{Used}
use Rattle.fa_machine.specs.declared.places.Used.TheVariants.{Held, Reserved, Stale}
use Rattle.fa_machine.specs.declared.places.Version.{Version}
use Rattle.fa_mount.specs.MountsArray.{MountsArray}
use Rattle.fa_mount.specs.Standings.{AreApart}
use Rattle.fa_mount_headers.specs.Places.{place_of}
use Rattle.fa_mount_close_laws.proofs.AnyCell.{any_cell}
use Rattle.fa_mount_close_laws.proofs.MountedImages.{mounted_begins, out_is_neither, placed_apart, placed_shape}
use Rattle.fa_mount_close_laws.specs.Drives.{AreImages}
use Rattle.fa_mount_close_laws.specs.Images.{IsImageOf}
use Rattle.fa_mount_close_laws.specs.DrivenMounted.{images_on}
use Rattle.fa_mount_scan.specs.ContentCells.{IsCellOf}
use Rattle.fa_mount_scan.specs.ContentReading.{image_read}
use Rattle.fa_mount_scan.specs.MountedWorld.{CopiesAgree, IsMountedWorld, SlotBytes, bytes_of, is_spare_of}
use Rattle.fa_solo.specs.Stores.{StoreState}
use Rattle.fa_solo_laws.proofs.Between.{beginning_idle}
use Rattle.fa_solo_laws.specs.Rest.{IsIdle}
use Rattle.std.proofs.Common.{Bool, IsTrue, List, None, Option, Some, ap, length, map, refl, slice_get, subst, sym, true, ℕ, ◌*◌, ◌∙◌, ◌≡◌, ◌||◌}
use Rattle.std.proofs.lemmas.Option.{none-some}
use Rattle.std.specs.FinMap.{contains_key, get}
use Rattle.std.specs.List.{AllByRecursion}
use Rattle.std.specs.Prelude.{[], option_and_then}

-- a world that sees on each die that is out what stands in the slots of its image
module _ {I : Type 0} (view : I → ImageState) (dies : List Standing) (after : List I) where
  abbrev out_image : Option Standing → Option I
  out_image (Some (Out index)) = slice_get after index
  out_image standing = None

  abbrev looked : Option I → DieImage → DieImage
  looked None seen = seen
  looked (Some image) seen = record seen { seen = λ slot. (any_cell (slot_at slot (view image))).0 }

  abbrev with_out : World → World
  with_out w = record w { images = λ die. looked (out_image (slice_get dies die)) (w.images die) }

  same_seen : (w : World) (die : ℕ) → ((index : ℕ) → slice_get dies die ≡ Some (Out index) → ⊥) → (with_out w).images die ≡ w.images die
  same_seen w die none = by (slice_get dies die) refl
    where
      by : (o : Option Standing) → slice_get dies die ≡ o → looked (out_image o) (w.images die) ≡ w.images die
      by None is = refl
      by (Some Missing) is = refl
      by (Some (Live index)) is = refl
      by (Some (Spare index)) is = refl
      by (Some (Out index)) is = absurd (none index is)

  -- each image is one of that world
  all_images : (w : World) → AreImages view w (images_on dies after)
      → ((die index : ℕ) (image : I) → slice_get dies die ≡ Some (Out index) → slice_get after index ≡ Some image
      → (view image).geometry ≡ w.core.page_map.geometry)
      → AreImages view (with_out w) (image_on dies after)
  all_images w are shape die image at = by (slice_get dies die) refl at
    where
      as_it_was : (o : Option Standing) → slice_get dies die ≡ o → out_image o ≡ None
          → option_and_then (slice_get after) (option_and_then image_read o) ≡ Some image → IsImageOf view (with_out w) die image
      as_it_was o is not_out there =
          let one = are die image (ap (λ (x : Option Standing). option_and_then (slice_get after) (option_and_then image_read x)) is ∙ there) in
          let same : (with_out w).images die ≡ w.images die =
          ap (λ (x : Option Standing). looked (out_image x) (w.images die)) is ∙ ap (λ (x : Option I). looked x (w.images die)) not_out in
          record {
            shape = one.shape;
            cells = λ slot within.
                subst (λ (i : DieImage). IsCellOf (slot_at slot (view image)) (i.seen slot)) (sym same) (one.cells slot within);
          }

      by : (o : Option Standing) → slice_get dies die ≡ o → option_and_then (slice_get after) (option_and_then place_of o) ≡ Some image
          → IsImageOf view (with_out w) die image
      by None is there = absurd (none-some image there)
      by (Some Missing) is there = absurd (none-some image there)
      by (Some (Live index)) is there = as_it_was (Some (Live index)) is refl there
      by (Some (Spare index)) is there = as_it_was (Some (Spare index)) is refl there
      by (Some (Out index)) is there =
          let now : (with_out w).images die ≡ looked (Some image) (w.images die) =
          ap (λ (x : Option Standing). looked (out_image x) (w.images die)) is ∙ ap (λ (x : Option I). looked x (w.images die)) there in
          record {
            shape = shape die index image is there;
            cells = λ slot within.
                subst (λ (i : DieImage). IsCellOf (slot_at slot (view image)) (i.seen slot)) (sym now)
                (any_cell (slot_at slot (view image))).1;
          }

  -- no die that is live or a spare is out
  module _ (w : World) (same : (die : ℕ) → (is_live w.core.page_map die || contains_key w.core.spares die) ≡ true
      → (with_out w).images die ≡ w.images die) where
    stands_as : (die slot : ℕ) (o : Option Used) → (with_out w).images die ≡ w.images die → StandsAt w die slot o → StandsAt (with_out w) die slot o
    stands_as die slot None here is = ap (λ (i : DieImage). i.seen slot) here ∙ is
    stands_as die slot (Some Reserved) here is = is
    stands_as die slot (Some (Held page version)) here is = (is.0, ap (λ (i : DieImage). i.seen slot) here ∙ is.1)
    stands_as die slot (Some Stale) here is = is

    plain_as : (page : ℕ) (o : Option Version) → IsPlainOf w page o → IsPlainOf (with_out w) page o
    plain_as page None is = is
    plain_as page (Some version) is = is

    begins_still : IsBeginning w → IsBeginning (with_out w)
    begins_still b = record {
      fresh = b.fresh;
      copies = b.copies;
      enough = b.enough;
      based = b.based;
      last = b.last;
      live = b.live;
      spares = b.spares;
      used = b.used;
      stands = λ die slot alive within.
          stands_as die slot (used_at w.core.page_map die slot) (same die alive) (b.stands die slot alive within);
      once = b.once;
      written = b.written;
      plain = λ page within. plain_as page (get w.core.page_map.versions page) (b.plain page within);
      pages = b.pages;
      idle = b.idle;
      told = b.told;
    }

    mounted_still : (bytes : SlotBytes) (is_spare : ℕ → Bool) → IsMountedWorld bytes is_spare w → IsMountedWorld bytes is_spare (with_out w)
    mounted_still bytes is_spare m = record {
      fresh = m.fresh;
      copies = m.copies;
      holds = m.holds;
      spares = m.spares;
      based = m.based;
      last = m.last;
      given = m.given;
      cells = λ die slot alive within.
          subst (λ (i : DieImage). IsCellOf (bytes die slot) (i.seen slot)) (sym (same die alive)) (m.cells die slot alive within);
      agree = m.agree;
      plain = m.plain;
      payloads = m.payloads;
      pages = m.pages;
      idle = m.idle;
      told = m.told;
    }

module _ {L M I A : Type 0} (view : I → ImageState) (honest : I → Bool) (made : I → ImageCall → ImageAnswer → I → Type 0)
    (whole : (image : I) → IsImage (view image))
    (meets : (before after : I) (call : ImageCall) (answer : ImageAnswer) → made before call answer after
    → ImageMeets (view before) (honest before) call answer (view after) (honest after)) (copies : ℕ) (unclean : Bool) (before after : List I)
    (array : List ℕ) (dies : List Standing) (core : Core) (is : MountsArray A view made copies unclean before after array dies core)
    (only : AreOnlyRead (map view before) (map view after)) (many : length dies ≡ core.page_map.geometry.dies)
    (agree : CopiesAgree (bytes_of (map view after) dies) core.page_map) (fair : AllByRecursion (λ image. IsTrue (honest image)) after)
    (store : StoreState L M I A) (state : store.inner.locked.core ≡ core) (standings : store.inner.dies.items ≡ dies)
    (images : store.inner.images.items ≡ after) (bytes : store.bytes ≡ core.page_map.geometry.pages * core.page_map.geometry.page_bytes)
    (page : store.page_bytes ≡ core.page_map.geometry.page_bytes) where
  pub mounted_store : (w : World) × IsStoreOf view store w × IsBeginning w × IsMountedWorld (bytes_of (map view after) dies) (is_spare_of dies) w
  mounted_store =
      let begun = mounted_begins view honest made whole meets copies unclean before after array dies core is many agree fair in
      let u : World = begun.0 in
      let w : World = with_out view dies after u in
      let same : (die : ℕ) → (is_live u.core.page_map die || contains_key u.core.spares die) ≡ true → w.images die ≡ u.images die =
      λ die alive. same_seen view dies after u die (λ index out.
      out_is_neither view honest made whole meets copies unclean before after array dies core is many die index out
      (sym (ap (λ (c : Core). is_live c.page_map die || contains_key c.spares die) begun.1) ∙ alive)) in
      let there = all_images view dies after u begun.4 (λ die index image out at.
      placed_shape view honest made whole meets copies unclean before after array dies core is many only die index image
      (ap (option_and_then place_of) out) at ∙ sym (ap (λ (c : Core). c.page_map.geometry) begun.1)) in
      let begins = begins_still view dies after u same begun.3 in (
        w,
        record {
          owns = record {
            reached = record { first = w; happenings = []; beginning = begins; run = refl };
            core = begun.1 ∙ sym state;
            images = subst (λ (d : List Standing). AreImages view w (image_on d store.inner.images.items)) (sym standings)
                (subst (λ (l : List I). AreImages view w (image_on dies l)) (sym images) there);
            idle = begun.3.idle;
          };
          bytes = bytes ∙ ap (λ (c : Core). c.page_map.geometry.pages * c.page_map.geometry.page_bytes) (sym begun.1);
          page = page ∙ ap (λ (c : Core). c.page_map.geometry.page_bytes) (sym begun.1);
          idle = subst IsIdle (begun.1 ∙ sym state) (beginning_idle begun.0.core begun.3.fresh);
          apart = subst (λ (d : List Standing). AreApart d) (sym standings)
              (placed_apart view honest made whole meets copies unclean before after array dies core is many);
        },
        begins,
        mounted_still view dies after u same (bytes_of (map view after) dies) (is_spare_of dies) begun.2,
      )
