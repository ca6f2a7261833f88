-- What came of dies whose images were read side by side.
use Rattle.std.proofs.Common.{◌≡◌, ℕ, zero, suc, Bool, List, [], ◌∷◌, Option, Some, None, Result, length, refl, sym, ap, subst, ◌∙◌, arith, slice_get}
use Rattle.std.proofs.lemmas.Option.{none-some, same_Some, slice_get_within}
use Rattle.fa_types.specs.declared.geometry.Geometry.{Geometry}
use Rattle.fa_image.specs.declared.fault.ImageFault.{ImageFault}
use Rattle.fa_image.specs.Image.{ImageState, ImageCall, ImageAnswer, ImageMeets}
use Rattle.fa_mount_scan.specs.declared.slots.content.SlotContent.{SlotContent}
use Rattle.fa_mount_headers.specs.declared.judging.Standing.{Standing}
use Rattle.fa_mount_scan.specs.declared.slots.readings.Reading.{Reading}
use Rattle.fa_mount_scan.specs.ContentReading.{AreOutcomes, AreReadable, EachOnlyRead, HasOutcome, ReadsDie, image_read}
use Rattle.fa_mount_headers.specs.Found.{IsOnlyRead}
use Rattle.fa_mount_scan.specs.Readings.{AreFrom, AreImagesRead, AreReady, AreReadingsOf, IsImageRead, IsReady, outcome_from, outcome_of}
use Rattle.fa_mount_scan.proofs.OnlyReading.{die_only_read, same_read}

module _ {I A : Type 0} (view : I → ImageState) (geometry : Geometry) where
  each_ready : (images : List I) (readings : List (Option (Reading A))) → length images ≡ length readings
      → ((i : ℕ) (image : I) (reading : Option (Reading A)) → slice_get images i ≡ Some image → slice_get readings i ≡ Some reading
      → IsReady view geometry image reading) → AreReady view geometry images readings
  each_ready [] [] long each = tt
  each_ready [] (reading ∷ readings) long each = absurd (omega (arith, long))
  each_ready (image ∷ images) [] long each = absurd (omega (arith, long))
  each_ready (image ∷ images) (reading ∷ readings) long each =
      (each 0 image reading refl refl, each_ready images readings (omega (arith, long)) (λ i x r at found. each (suc i) x r at found))

  -- what was made ready for the dies of an array's images is ready
  pub all_ready : (images : List I) (standings : List Standing) (dies : ℕ) (readings : List (Option (Reading A)))
      → AreReadable view geometry standings images → AreReadingsOf geometry standings dies (length images) readings
      → AreReady view geometry images readings
  all_ready images standings dies readings have made = each_ready images readings (sym made.as_many) by_place
    where
      by_place : (i : ℕ) (image : I) (reading : Option (Reading A)) → slice_get images i ≡ Some image → slice_get readings i ≡ Some reading
          → IsReady view geometry image reading
      by_place i image None at found = tt
      by_place i image (Some reading) at found =
          let of = made.only i reading found in
          let is = have.image of.0 of.1 i of.2 of.3 in
          (ap (λ x. (view x).geometry) (same_Some image is.0 (sym at ∙ is.1)) ∙ is.2, of.4)

module _ {I A : Type 0} (made : I → ImageCall → ImageAnswer → I → Type 0) (geometry : Geometry) where
  -- what is known of the image at an index
  pub record IsReadAt (readings : List (Option (Reading A))) (afters : List I) (reads : List (Option (Reading A))) (i : ℕ) (before : I) : Type 0 where
    pub reading : Option (Reading A)
    pub after : I
    pub read : Option (Reading A)
    pub was : slice_get readings i ≡ Some reading
    pub is : slice_get afters i ≡ Some after
    pub came : slice_get reads i ≡ Some read
    pub reads_it : IsImageRead made geometry before reading after read

  pub read_at : (befores : List I) (readings : List (Option (Reading A))) (afters : List I) (reads : List (Option (Reading A)))
      → AreImagesRead made geometry befores readings afters reads → (i : ℕ) (before : I) → slice_get befores i ≡ Some before
      → IsReadAt readings afters reads i before
  read_at [] readings afters reads all i before at = absurd (none-some before at)
  read_at (b ∷ bs) [] afters reads all i before at = absurd all
  read_at (b ∷ bs) (r ∷ rs) [] reads all i before at = absurd all
  read_at (b ∷ bs) (r ∷ rs) (a ∷ news) [] all i before at = absurd all
  read_at (b ∷ bs) (r ∷ rs) (a ∷ news) (s ∷ ss) all zero before at = record {
    reading = r;
    after = a;
    read = s;
    was = refl;
    is = refl;
    came = refl;
    reads_it = subst (λ (x : I). IsImageRead made geometry x r a s) (same_Some b before at) all.0;
  }
  read_at (b ∷ bs) (r ∷ rs) (a ∷ news) (s ∷ ss) all (suc i) before at =
      let more = read_at bs rs news ss all.1 i before at in
      record {
        reading = more.reading;
        after = more.after;
        read = more.read;
        was = more.was;
        is = more.is;
        came = more.came;
        reads_it = more.reads_it;
      }

  as_many_after : (befores : List I) (readings : List (Option (Reading A))) (afters : List I) (reads : List (Option (Reading A)))
      → AreImagesRead made geometry befores readings afters reads → length afters ≡ length befores
  as_many_after [] [] [] [] all = refl
  as_many_after [] [] [] (s ∷ ss) all = absurd all
  as_many_after [] [] (a ∷ news) reads all = absurd all
  as_many_after [] (r ∷ rs) afters reads all = absurd all
  as_many_after (b ∷ bs) [] afters reads all = absurd all
  as_many_after (b ∷ bs) (r ∷ rs) [] reads all = absurd all
  as_many_after (b ∷ bs) (r ∷ rs) (a ∷ news) [] all = absurd all
  as_many_after (b ∷ bs) (r ∷ rs) (a ∷ news) (s ∷ ss) all = ap suc (as_many_after bs rs news ss all.1)

module _ {I A : Type 0} (view : I → ImageState) (honest : I → Bool) (made : I → ImageCall → ImageAnswer → I → Type 0)
    (meets : (before after : I) (call : ImageCall) (answer : ImageAnswer) → made before call answer after
    → ImageMeets (view before) (honest before) call answer (view after) (honest after)) (geometry : Geometry) where
  image_only_read : (before : I) (reading : Option (Reading A)) (after : I) (read : Option (Reading A))
      → IsImageRead made geometry before reading after read → IsOnlyRead (view before) (view after)
  image_only_read before None after None same = subst (λ (x : I). IsOnlyRead (view before) (view x)) (sym same) (same_read (view before))
  image_only_read before None after (Some read) reads = absurd reads
  image_only_read before (Some reading) after None reads = absurd reads
  image_only_read before (Some reading) after (Some read) reads =
      die_only_read view honest made meets geometry reading.die.0 (outcome_of read) before after reads.1

  -- images that were read side by side were only read
  pub side_only_read : (befores : List I) (readings : List (Option (Reading A))) (afters : List I) (reads : List (Option (Reading A)))
      → AreImagesRead made geometry befores readings afters reads → EachOnlyRead view befores afters
  side_only_read befores readings afters reads all = record {
    as_many = as_many_after made geometry befores readings afters reads all;
    each = λ i image at.
        let one = read_at made geometry befores readings afters reads all i image at in
        (one.after, one.is, image_only_read image one.reading one.after one.read one.reads_it);
  }

module _ {I A : Type 0} (view : I → ImageState) (made : I → ImageCall → ImageAnswer → I → Type 0) (geometry : Geometry)
    (standings : List Standing) (befores : List I) (readings : List (Option (Reading A))) (afters : List I) (reads : List (Option (Reading A)))
    (have : AreReadable view geometry standings befores)
    (ready : AreReadingsOf geometry standings (length standings) (length befores) readings)
    (all : AreImagesRead made geometry befores readings afters reads) where
  -- what came of the reading for a die is what came of the die
  outcome_is : (die index : ℕ) (before after : I) (reading : Reading A) (was : Option (Reading A)) (read : Option (Reading A))
      → was ≡ Some reading → reading.die.0 ≡ die → slice_get befores index ≡ Some before → slice_get afters index ≡ Some after
      → slice_get reads index ≡ Some read → IsImageRead made geometry before was after read
      → HasOutcome made geometry befores afters die (Some index) (outcome_from reads (Some index))
  outcome_is die index before after reading None read is of at new came reads_it = absurd (none-some reading is)
  outcome_is die index before after reading (Some r) None is of at new came reads_it = absurd reads_it
  outcome_is die index before after reading (Some r) (Some read) is of at new came reads_it =
      let told : Some (outcome_of read) ≡ outcome_from reads (Some index) = from_reading read index came in
      let of_die : r.die.0 ≡ die = ap (λ (x : Reading A). x.die.0) (same_Some r reading is) ∙ of in
      subst (HasOutcome made geometry befores afters die (Some index)) told (record {
        old = before;
        new = after;
        was = at;
        is = new;
        reads = subst (λ n. ReadsDie made geometry n (outcome_of read) before after) of_die reads_it.1;
      })
    where
      from_reading : (read : Reading A) (index : ℕ) → slice_get reads index ≡ Some (Some read)
          → Some (outcome_of read) ≡ outcome_from reads (Some index)
      from_reading read index came = cc

  by_image : (die : ℕ) (standing : Standing) → slice_get standings die ≡ Some standing → (image : Option ℕ) → image_read standing ≡ image
      → HasOutcome made geometry befores afters die image (outcome_from reads image)
  by_image die standing stands None none = tt
  by_image die standing stands (Some index) which =
      let made_ready = ready.each die index standing (slice_get_within standings die standing stands) stands which in
      let is = have.image die standing index stands which in
      let one = read_at made geometry befores readings afters reads all index is.0 is.1 in
      outcome_is die index is.0 one.after made_ready.0 one.reading one.read
      (same_Some one.reading (Some made_ready.0) (sym one.was ∙ made_ready.1)) made_ready.2 is.1 one.is one.came one.reads_it

  -- what came of each die is what its image's reading came to
  pub side_outcomes : (outcomes : List (Option (Result (List SlotContent) ImageFault))) → AreFrom reads standings outcomes
      → AreOutcomes made geometry befores afters standings outcomes
  side_outcomes outcomes from = λ die standing outcome stands found.
      subst (HasOutcome made geometry befores afters die (image_read standing)) (sym (from die standing outcome stands found))
      (by_image die standing stands (image_read standing) refl)
