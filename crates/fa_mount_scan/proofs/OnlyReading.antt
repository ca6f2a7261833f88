-- Images that are read keep what they have.
use Rattle.std.proofs.Common.{◌≡◌, ℕ, inl, inr, Bool, List, [], ◌∷◌, Some, Result, Ok, Err, refl, sym, ap, subst, ◌∙◌, arith}
use Rattle.std.proofs.Common.{slice_get, set, map, suc}
use Rattle.std.proofs.lemmas.Bool.{cases_eq}
use Rattle.std.proofs.lemmas.List.{length-set}
use Rattle.std.proofs.lemmas.Option.{same_Some, slice_get_within}
use Rattle.fa_types.specs.declared.geometry.Geometry.{Geometry}
use Rattle.fa_image.specs.declared.fault.ImageFault.{ImageFault}
use Rattle.fa_image.specs.Image.{ImageState, ImageCall, ImageAnswer, ImageMeets}
use Rattle.fa_mount_scan.proofs.ByDie.{put_at, put_other}
use Rattle.fa_mount_scan.specs.ContentReading.{EachOnlyRead, ReadsDie, ReadsSlots}
use Rattle.fa_mount_headers.specs.Found.{AreOnlyRead, IsOnlyRead}
use Rattle.fa_mount_scan.specs.declared.slots.content.SlotContent.{SlotContent}

pub same_read : (image : ImageState) → IsOnlyRead image image
same_read image = refl

pub read_twice : (a b c : ImageState) → IsOnlyRead a b → IsOnlyRead b c → IsOnlyRead a c
read_twice a b c first second = second ∙ ap (λ (x : ImageState). record x { faults = c.faults }) first

pub list_read_twice : (a b c : List ImageState) → AreOnlyRead a b → AreOnlyRead b c → AreOnlyRead a c
list_read_twice [] [] [] first second = tt
list_read_twice [] [] (z ∷ c) first second = absurd second
list_read_twice [] (y ∷ b) c first second = absurd first
list_read_twice (x ∷ a) [] c first second = absurd first
list_read_twice (x ∷ a) (y ∷ b) [] first second = absurd second
list_read_twice (x ∷ a) (y ∷ b) (z ∷ c) first second = (read_twice x y z first.0 second.0, list_read_twice a b c first.1 second.1)

module _ {I : Type 0} (view : I → ImageState) where
  pub none_read : (images : List I) → EachOnlyRead view images images
  none_read images = record { as_many = refl; each = λ index image is. (image, is, same_read (view image)) }

  -- as a list
  pub each_read : (images after : List I) → EachOnlyRead view images after → AreOnlyRead (map view images) (map view after)
  each_read [] [] read = tt
  each_read [] (new ∷ after) read = absurd (let none = read.as_many in omega (arith, none))
  each_read (image ∷ images) [] read = absurd (let none = read.as_many in omega (arith, none))
  each_read (image ∷ images) (new ∷ after) read =
      let first = read.each 0 image refl in (
        subst (λ x. IsOnlyRead (view image) (view x)) (sym (same_Some new first.0 first.1)) first.2,
        each_read images after (record {
          as_many = (let more = read.as_many in omega (arith, more));
          each = λ index x is. read.each (suc index) x is;
        }),
      )

  pub all_read_twice : (a b c : List I) → EachOnlyRead view a b → EachOnlyRead view b c → EachOnlyRead view a c
  all_read_twice a b c first second = record {
    as_many = second.as_many ∙ first.as_many;
    each = λ index image is.
        let one = first.each index image is in
        let two = second.each index one.0 one.1 in
        (two.0, two.1, read_twice (view image) (view one.0) (view two.0) one.2 two.2);
  }

  pub one_read : (images : List I) (index : ℕ) (image new : I) → slice_get images index ≡ Some image → IsOnlyRead (view image) (view new)
      → EachOnlyRead view images (set images index new)
  one_read images index image new is read = record {
    as_many = length-set images index new;
    each = λ i old at. elim (cases_eq i index) [
      | inl same ↦
          let one : image ≡ old = same_Some image old (sym is ∙ ap (slice_get images) (sym same) ∙ at) in
          (new, ap (slice_get (set images index new)) same ∙ put_at images index new (slice_get_within images index image is), subst (λ x. IsOnlyRead (view x) (view new)) one read)
      | inr apart ↦ (old, put_other images index new i apart ∙ at, same_read (view old))
    ];
  }

module _ {I : Type 0} (view : I → ImageState) (honest : I → Bool) (made : I → ImageCall → ImageAnswer → I → Type 0)
    (meets : (before after : I) (call : ImageCall) (answer : ImageAnswer) → made before call answer after
    → ImageMeets (view before) (honest before) call answer (view after) (honest after)) where
  slots_only_read : (pages die first : ℕ) (contents : List SlotContent) (before after : I) → ReadsSlots made pages die first contents before after
      → IsOnlyRead (view before) (view after)
  slots_only_read pages die first [] before after same = subst (λ x. IsOnlyRead (view before) (view x)) (sym same) (same_read (view before))
  slots_only_read pages die first (content ∷ contents) before after reads =
      let met = meets before reads.0 _ _ reads.1.gave in
      read_twice (view before) (view reads.0) (view after) (subst (IsOnlyRead (view before)) (sym met.leads) (same_read (view before)))
      (slots_only_read pages die _ contents reads.0 after reads.2)

  pub die_only_read : (geometry : Geometry) (die : ℕ) (outcome : Result (List SlotContent) ImageFault) (before after : I)
      → ReadsDie made geometry die outcome before after → IsOnlyRead (view before) (view after)
  die_only_read geometry die (Ok contents) before after reads = slots_only_read geometry.pages die 0 contents before after reads.1
  die_only_read geometry die (Err fault) before after stops =
      let met = meets stops.middle after _ _ stops.refused in
      read_twice (view before) (view stops.middle) (view after)
      (slots_only_read geometry.pages die 0 stops.contents before stops.middle stops.read)
      (subst (IsOnlyRead (view stops.middle)) (sym met.leads) refl)
