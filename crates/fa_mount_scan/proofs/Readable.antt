-- The images of judged dies are those that are read.
use Rattle.std.proofs.Common.{◌≡◌, ℕ, zero, suc, List, [], ◌∷◌, Option, Some, length, refl, sym, ap, subst, ◌∙◌, slice_get, Bool}
use Rattle.std.proofs.lemmas.List.FromFn.{length-map-range_with_len}
use Rattle.std.proofs.lemmas.Option.{none-some, same_Some}
use Rattle.fa_types.specs.declared.geometry.Geometry.{Geometry}
use Rattle.fa_image.specs.Counted.{call_counted}
use Rattle.fa_image.specs.Image.{ImageState, ImageCall, ImageAnswer, ImageMeets, ReadingHeader}
use Rattle.fa_tag.specs.declared.header.Header.{Header}
use Rattle.fa_mount_scan.specs.ContentReading.{AreReadable, HasImageOf, image_read}
use Rattle.fa_mount_headers.specs.Found.{ReadsHeaders}
use Rattle.fa_mount_headers.specs.Judged.{HasImage, HaveImages, IsImageOf, IsJudged, standing_of}
use Rattle.fa_mount_headers.specs.declared.found.Found.{Found}
use Rattle.fa_mount_headers.specs.declared.found.HeaderFound.TheVariants.{Good}
use Rattle.fa_mount_headers.specs.declared.judging.Judged.{Judged}
use Rattle.fa_mount_headers.specs.declared.judging.Standing.{Standing}
use Rattle.fa_mount_headers.specs.declared.judging.Standing.TheVariants.{Missing, Live, Spare, Out}
use Rattle.fa_mount_headers.specs.declared.seen.Seen.{Seen}

module _ {I : Type 0} (view : I → ImageState) (honest : I → Bool) (made : I → ImageCall → ImageAnswer → I → Type 0)
    (meets : (before after : I) (call : ImageCall) (answer : ImageAnswer) → made before call answer after
    → ImageMeets (view before) (honest before) call answer (view after) (honest after)) where
  -- an image whose header was read is made for the geometry that was found
  found_image : (befores afters : List I) (founds : List Found) → ReadsHeaders view made befores afters founds
      → (index : ℕ) (found : Found) → slice_get founds index ≡ Some found → HasImageOf view found.geometry afters index
  found_image befores afters [] reads index found at = absurd (none-some found at)
  found_image [] [] (x ∷ founds) reads index found at = absurd reads
  found_image [] (after ∷ afters) (x ∷ founds) reads index found at = absurd reads
  found_image (before ∷ befores) [] (x ∷ founds) reads index found at = absurd reads
  found_image (before ∷ befores) (after ∷ afters) (x ∷ founds) reads zero found at =
      let same : x ≡ found = same_Some x found at in
      let counted = call_counted (view before) (view after) (honest before) (honest after) ReadingHeader reads.0.answer
      (meets before after ReadingHeader reads.0.answer reads.0.read) in
      (after, refl, counted.geometry ∙ sym reads.0.geometry ∙ ap (λ (f : Found). f.geometry) same)
  found_image (before ∷ befores) (after ∷ afters) (x ∷ founds) reads (suc index) found at =
      found_image befores afters founds reads.1 index found at

  -- the image that is read for a die has a header of it
  image_of_die : (founds : List Found) (geometry : Geometry) (array : List ℕ) (die index : ℕ) (standing : Standing)
      → HasImage founds geometry array die standing → image_read standing ≡ Some index → IsImageOf founds geometry array die index
  image_of_die founds geometry array die index Missing has which = absurd (none-some index which)
  image_of_die founds geometry array die index (Out i) has which = absurd (none-some index which)
  image_of_die founds geometry array die index (Live i) has which = subst (IsImageOf founds geometry array die) (same_Some i index which) has
  image_of_die founds geometry array die index (Spare i) has which = subst (IsImageOf founds geometry array die) (same_Some i index which) has

  one_header : (geometry : Geometry) (x y : Header) (found : Option Found) → found ≡ Some (record { geometry = geometry; header = Good x })
      → found ≡ Some (record { geometry = geometry; header = Good y }) → x ≡ y
  one_header geometry x y found is_x is_y =
      let X : Found = record { geometry = geometry; header = Good x } in
      let Y : Found = record { geometry = geometry; header = Good y } in
      let same : X ≡ Y = same_Some X Y (sym is_x ∙ is_y) in
      let headers : Good x ≡ Good y = ap (λ (f : Found). f.header) same in
      cc

  pub are_readable : {A : Type 0} (befores afters : List I) (founds : List Found) (seen : List Seen) (judged : Judged A)
      → ReadsHeaders view made befores afters founds → IsJudged seen judged → HaveImages founds judged
      → AreReadable view judged.geometry judged.dies.items afters
  are_readable befores afters founds seen judged reads is have = record {
    dies = ap (λ (l : List Standing). length l) is.dies ∙ length-map-range_with_len (standing_of judged.mask seen) 0 judged.geometry.dies;
    image = λ die standing index stands which.
        let found = image_of_die founds judged.geometry judged.array die index standing (have die standing stands) which in
        found_image befores afters founds reads index (record { geometry = judged.geometry; header = Good found.0 }) found.1;
    apart = λ die other x y index stands_x stands_y which_x which_y.
        let a = image_of_die founds judged.geometry judged.array die index x (have die x stands_x) which_x in
        let b = image_of_die founds judged.geometry judged.array other index y (have other y stands_y) which_y in
        let same = one_header judged.geometry a.0 b.0 (slice_get founds index) a.1 b.1 in
        sym a.2 ∙ ap (λ (h : Header). h.die.0) same ∙ b.2;
  }
