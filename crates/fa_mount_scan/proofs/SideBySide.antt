-- The images of dies that are read side by side, in halves, and what stands ready for them.
use Rattle.std.proofs.Common.{◌≡◌, ◌≢◌, ℕ, ◌+◌, ◌<◌, suc, inl, inr, List, [], ◌∷◌, ◌++◌, Option, Some, None, length, refl, sym, ap, subst, ◌∙◌, arith, slice_get}
use Rattle.std.specs.Option.{option_map}
use Rattle.std.proofs.lemmas.Bool.{cases_eq, cases_lt}
use Rattle.std.proofs.lemmas.List.{length-set}
use Rattle.std.proofs.lemmas.Option.{none-some, same_Some}
use Rattle.fa_types.specs.declared.geometry.Geometry.{Geometry}
use Rattle.fa_image.specs.Image.{ImageState, ImageCall, ImageAnswer}
use Rattle.fa_mount_headers.specs.declared.judging.Standing.{Standing}
use Rattle.fa_mount_scan.specs.declared.slots.readings.Reading.{Reading}
use Rattle.fa_mount_scan.specs.ContentReading.{AreApart, image_read}
use Rattle.fa_mount_scan.specs.Readings.{AddsReading, AreImagesRead, AreReady, AreReadingsOf, IsRoomy, outcome_from, outcome_of}
use Rattle.fa_mount_scan.proofs.ByDie.{AreUntouched, put_at, put_other, still_there}

-- what comes of a place in a list of readings
pub came_of_place : {A : Type 0} (readings : List (Option (Reading A))) (index : ℕ) (place : Option (Reading A))
    → slice_get readings index ≡ Some place → option_map outcome_of place ≡ outcome_from readings (Some index)
came_of_place readings index None at = let is = at in cc
came_of_place readings index (Some reading) at = let is = at in cc

module _ {I A : Type 0} (view : I → ImageState) (geometry : Geometry) where
  pub as_many_ready : (images : List I) (readings : List (Option (Reading A))) → AreReady view geometry images readings
      → length images ≡ length readings
  as_many_ready [] [] ready = refl
  as_many_ready [] (reading ∷ readings) ready = absurd ready
  as_many_ready (image ∷ images) [] ready = absurd ready
  as_many_ready (image ∷ images) (reading ∷ readings) ready = ap suc (as_many_ready images readings ready.1)

  halves_of : (front back : List I) (first last : List (Option (Reading A))) → length front ≡ length first
      → AreReady view geometry (front ++ back) (first ++ last) → AreReady view geometry front first × AreReady view geometry back last
  halves_of [] back [] last long ready = (tt, ready)
  halves_of [] back (x ∷ first) last long ready = absurd (omega (arith, long))
  halves_of (x ∷ front) back [] last long ready = absurd (omega (arith, long))
  halves_of (x ∷ front) back (y ∷ first) last long ready =
      let more = halves_of front back first last (omega (arith, long)) ready.1 in ((ready.0, more.0), more.1)

  -- both halves of what is ready are
  pub halves_ready : (images front back : List I) (readings first last : List (Option (Reading A))) → images ≡ front ++ back
      → readings ≡ first ++ last → length front ≡ length first → AreReady view geometry images readings
      → AreReady view geometry front first × AreReady view geometry back last
  halves_ready images front back readings first last is are long ready =
      halves_of front back first last long (subst (AreReady view geometry (front ++ back)) are (subst (λ i. AreReady view geometry i readings) is ready))

module _ {I A : Type 0} (made : I → ImageCall → ImageAnswer → I → Type 0) (geometry : Geometry) where
  of_halves : (front : List I) (first : List (Option (Reading A))) (front' : List I) (first' : List (Option (Reading A)))
      (back : List I) (last : List (Option (Reading A))) (back' : List I) (last' : List (Option (Reading A)))
      → AreImagesRead made geometry front first front' first' → AreImagesRead made geometry back last back' last'
      → AreImagesRead made geometry (front ++ back) (first ++ last) (front' ++ back') (first' ++ last')
  of_halves [] [] [] [] back last back' last' one other = other
  of_halves [] [] [] (s ∷ ss) back last back' last' one other = absurd one
  of_halves [] [] (b ∷ bs) ss back last back' last' one other = absurd one
  of_halves [] (r ∷ rs) bs ss back last back' last' one other = absurd one
  of_halves (a ∷ olds) [] bs ss back last back' last' one other = absurd one
  of_halves (a ∷ olds) (r ∷ rs) [] ss back last back' last' one other = absurd one
  of_halves (a ∷ olds) (r ∷ rs) (b ∷ bs) [] back last back' last' one other = absurd one
  of_halves (a ∷ olds) (r ∷ rs) (b ∷ bs) (s ∷ ss) back last back' last' one other =
      (one.0, of_halves olds rs bs ss back last back' last' one.1 other)

  -- where both halves were read, the whole was
  pub halves_read : (images front back front' back' : List I) (readings first last first' last' : List (Option (Reading A)))
      → images ≡ front ++ back → readings ≡ first ++ last → AreImagesRead made geometry front first front' first'
      → AreImagesRead made geometry back last back' last' → AreImagesRead made geometry images readings (front' ++ back') (first' ++ last')
  halves_read images front back front' back' readings first last first' last' is are one other =
      subst (λ i. AreImagesRead made geometry i readings (front' ++ back') (first' ++ last')) (sym is)
      (subst (λ r. AreImagesRead made geometry (front ++ back) r (front' ++ back') (first' ++ last')) (sym are)
      (of_halves front first front' first' back last back' last' one other))

-- a reading is put in for one die more
module _ {A : Type 0} (geometry : Geometry) (standings : List Standing) (apart : AreApart standings) (images die : ℕ) (standing : Standing)
    (at : slice_get standings die ≡ Some standing) (before after : List (Option (Reading A)))
    (old : AreReadingsOf geometry standings die images before) where
  -- a die below the next number is below this one, or it is this one
  each_of : (Holds : ℕ → ℕ → Type 0)
      → ((d index : ℕ) (x : Standing) → d < die → slice_get standings d ≡ Some x → image_read x ≡ Some index → Holds d index)
      → ((index : ℕ) → image_read standing ≡ Some index → Holds die index)
      → (d index : ℕ) (x : Standing) → d < die + 1 → slice_get standings d ≡ Some x → image_read x ≡ Some index → Holds d index
  each_of Holds below this d index x under is which = elim (cases_lt d die) [
    | inl less ↦ below d index x less is which
    | inr on ↦
        let same : die ≡ d = omega (arith, under, on) in
        let one : standing ≡ x = same_Some standing x (sym at ∙ ap (slice_get standings) same ∙ is) in
        subst (λ n. Holds n index) same (this index (ap image_read one ∙ which))
  ]

  pub reading_added : (image : Option ℕ) → image_read standing ≡ image → ((index : ℕ) → image_read standing ≡ Some index → index < images)
      → AddsReading geometry die image before after → AreReadingsOf geometry standings (die + 1) images after
  reading_added None none within same = record {
    as_many = ap (λ (l : List (Option (Reading A))). length l) same ∙ old.as_many;
    each = each_of (λ d index. (reading : Reading A) × (slice_get after index ≡ Some (Some reading)) × (reading.die.0 ≡ d))
        (λ d index x below is which.
        let found = old.each d index x below is which in (found.0, ap (λ (l : List (Option (Reading A))). slice_get l index) same ∙ found.1, found.2))
        (λ index which. absurd (none-some index (sym none ∙ which)));
    only = λ index reading is. old.only index reading (ap (λ (l : List (Option (Reading A))). slice_get l index) (sym same) ∙ is);
  }
  reading_added (Some i) which within adds =
      let room : i < length before = let less = within i which in let long = old.as_many in omega (arith, less, long) in
      let here : slice_get after i ≡ Some (Some adds.0) = ap (λ (l : List (Option (Reading A))). slice_get l i) adds.1 ∙ put_at before i (Some adds.0) room in
      let others : (index : ℕ) → index ≢ i → slice_get after index ≡ slice_get before index =
      λ index other. ap (λ (l : List (Option (Reading A))). slice_get l index) adds.1 ∙ put_other before i (Some adds.0) index other in
      record {
        as_many = ap (λ (l : List (Option (Reading A))). length l) adds.1 ∙ length-set before i (Some adds.0) ∙ old.as_many;
        each = each_of (λ d index. (reading : Reading A) × (slice_get after index ≡ Some (Some reading)) × (reading.die.0 ≡ d))
            (λ d index x below is which_x.
            let found = old.each d index x below is which_x in
            (found.0, others index (λ same. let one = apart d die x standing i is at (which_x ∙ ap Some same) which in omega (arith, below, one)) ∙ found.1, found.2))
            (λ index which_index. (adds.0, ap (slice_get after) (sym (same_Some i index (sym which ∙ which_index))) ∙ here, adds.2));
        only = λ index reading is. elim (cases_eq index i) [
          | inl same ↦
              let one : adds.0 ≡ reading = same_Some adds.0 reading (same_Some (Some adds.0) (Some reading) (sym here ∙ ap (slice_get after) (sym same) ∙ is)) in
              (die, standing, at, which ∙ ap Some (sym same), subst (λ (r : Reading A). IsRoomy geometry r) one adds.3)
          | inr other ↦ old.only index reading (sym (others index other) ∙ is)
        ];
      }

outcome_at : {A : Type 0} (now old : List (Option (Reading A))) (index : ℕ) → slice_get now index ≡ slice_get old index
    → outcome_from now (Some index) ≡ outcome_from old (Some index)
outcome_at now old index same = cc

-- what comes of a die is what came of it before the earlier dies were taken
pub same_outcome : {A : Type 0} (standings : List Standing) (old now : List (Option (Reading A))) (die : ℕ) (standing : Standing)
    → slice_get standings die ≡ Some standing → AreApart standings → AreUntouched standings old now die
    → outcome_from now (image_read standing) ≡ outcome_from old (image_read standing)
same_outcome {A} standings old now die standing at apart untouched = by_image (image_read standing) refl
  where
    by_image : (image : Option ℕ) → image_read standing ≡ image → outcome_from now image ≡ outcome_from old image
    by_image None none = refl
    by_image (Some index) which =
        let same = still_there standings old now old die standing at untouched apart index which in
        outcome_at now old index same
