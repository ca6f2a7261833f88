-- The images of an array that headers are judged to be of.
use Rattle.std.proofs.Common.{◌≡◌, ℕ, zero, suc, ◌+◌, Bool, true, false, not, ◌&&◌, List, [], ◌∷◌, ◌++◌, map, cond, refl, ap, sym, subst, ◌∙◌, arith}
use Rattle.std.proofs.lemmas.Bool.{true≢false}
use Rattle.std.proofs.lemmas.Bool.Decides.{nat_tests}
use Rattle.std.proofs.lemmas.Option.{none-some, same_Some}
use Rattle.std.proofs.lemmas.Slice.Eq.{bytes_eq-Decides}
use Rattle.std.specs.Prelude.{Option, Some, None, find, option_map, ◌==◌, if◌then◌else◌}
use Rattle.std.specs.List.{range_with_len, slice_get}
use Rattle.std.specs.Str.{bytes_eq}
use Rattle.fa_types.specs.declared.geometry.Geometry.{Geometry}
use Rattle.fa_tag.proofs.Headers.{same_geometry}
use Rattle.fa_mount_headers.specs.declared.fault.MountFault.TheVariants.{NoDieLive}
use Rattle.fa_mount_headers.specs.declared.found.Found.{Found}
use Rattle.fa_mount_headers.specs.declared.found.HeaderFound.{HeaderFound}
use Rattle.fa_mount_headers.specs.declared.found.HeaderFound.TheVariants.{Unread, Bad, Good}
use Rattle.fa_mount_headers.specs.declared.judging.Judged.{Judged}
use Rattle.fa_mount_headers.specs.declared.judging.Standing.{Standing}
use Rattle.fa_mount_headers.specs.declared.judging.Standing.TheVariants.{Live, Spare, Out}
use Rattle.fa_mount_headers.specs.declared.seen.Seen.{Seen}
use Rattle.fa_mount_headers.specs.Judged.{IsJudged, IsImageOf, HasImage, HaveImages, first_seen, standing_in, standing_of}
use Rattle.fa_mount_headers.specs.Rules.{first_of, refused, seen_at, seen_from, is_geometry, is_in, of_another_array, of_another_geometry}
use Rattle.fa_mount_headers.specs.Rules.{header_refusal, reading_refusal, seen_refusal}

-- ## Where an image with a header stands

-- the image is among those found, the first of which has an index, and passes a test
record IsFoundAt (p : Seen → Bool) (first : ℕ) (founds : List Found) (x : Seen) : Type 0 where
  place : ℕ
  index : x.index ≡ first + place
  got : slice_get founds place ≡ Some (record { geometry = x.geometry; header = Good x.header })
  passes : p x ≡ true

later : (p : Seen → Bool) (first : ℕ) (found : Found) (founds : List Found) (x : Seen) → IsFoundAt p (suc first) founds x
    → IsFoundAt p first (found ∷ founds) x
later p first found founds x at = record { place = suc at.place; index = omega (arith, at.index); got = at.got; passes = at.passes }

module _ (p : Seen → Bool) (first : ℕ) (geometry : Geometry) (founds : List Found) (x : Seen)
    (others : find p (seen_from (suc first) founds) ≡ Some x → IsFoundAt p (suc first) founds x) where
  by_test : (y : Seen) → y.index ≡ first → (b : Bool) → p y ≡ b → cond b (Some y) (find p (seen_from (suc first) founds)) ≡ Some x
      → IsFoundAt p first (record { geometry = y.geometry; header = Good y.header } ∷ founds) x
  by_test y at true passes is =
      let same : y ≡ x = same_Some y x is in
      subst (λ (z : Seen). IsFoundAt p first (record { geometry = y.geometry; header = Good y.header } ∷ founds) z) same
      (record { place = 0; index = omega (arith, at); got = refl; passes = passes })
  by_test y at false fails is = later p first (record { geometry = y.geometry; header = Good y.header }) founds x (others is)

  by_header : (header : HeaderFound) → find p (seen_at first geometry header ++ seen_from (suc first) founds) ≡ Some x
      → IsFoundAt p first (record { geometry = geometry; header = header } ∷ founds) x
  by_header Unread is = later p first (record { geometry = geometry; header = Unread }) founds x (others is)
  by_header Bad is = later p first (record { geometry = geometry; header = Bad }) founds x (others is)
  by_header (Good header) is =
      let y : Seen = record { index = first; geometry = geometry; header = header } in
      by_test y refl (p y) refl is

find_seen : (p : Seen → Bool) (first : ℕ) (founds : List Found) (x : Seen) → find p (seen_from first founds) ≡ Some x → IsFoundAt p first founds x
find_seen p first [] x is = absurd (none-some x is)
find_seen p first (found ∷ founds) x is =
    by_header p first found.geometry founds x (find_seen p (suc first) founds x) found.header is

-- ## What each header says

-- where none fails a test, each that is found by another passes it
module _ (t q : Seen → Bool) (x : Seen) where
  by_tests : (y : Seen) (others : List Seen) → (find (λ z. not (t z)) others ≡ None → find q others ≡ Some x → t x ≡ true) → (b c : Bool) → t y ≡ b
      → cond (not b) (Some y) (find (λ z. not (t z)) others) ≡ None → cond c (Some y) (find q others) ≡ Some x → t x ≡ true
  by_tests y others rest false c fails none is = absurd (none-some y (sym none))
  by_tests y others rest true true passes none is = subst (λ (z : Seen). t z ≡ true) (same_Some y x is) passes
  by_tests y others rest true false passes none is = rest none is

  all_pass : (seen : List Seen) → find (λ z. not (t z)) seen ≡ None → find q seen ≡ Some x → t x ≡ true
  all_pass [] none is = absurd (none-some x is)
  all_pass (y ∷ others) none is = by_tests y others (all_pass others) (t y) (q y) refl none is

both : (b c : Bool) → (b && c) ≡ true → (b ≡ true) × (c ≡ true)
both true c is = (refl, is)
both false c is = absurd (true≢false (sym is))

geometry_is : (a b : Geometry) → is_geometry a b ≡ true → a ≡ b
geometry_is a b is =
    same_geometry a b (grind (arith, nat_tests)) (grind (arith, nat_tests)) (grind (arith, nat_tests)) (grind (arith, nat_tests))
    (grind (arith, nat_tests)) (grind (arith, nat_tests))

-- ## What follows where nothing is refused

first_none : {X : Type 0} (o : Option X) (others : List (Option X)) → first_of (o ∷ others) ≡ None → (o ≡ None) × (first_of others ≡ None)
first_none None others none = (refl, none)
first_none (Some x) others none = absurd (none-some x (sym none))

map_none : {X Y : Type 0} (f : X → Y) (o : Option X) → option_map f o ≡ None → o ≡ None
map_none f None none = refl
map_none f (Some x) none = absurd (none-some (f x) (sym none))

one_array : (copies : ℕ) (unclean : Bool) (seen : List Seen) (geometry : Geometry) (array : List ℕ) → seen_refusal copies unclean seen ≡ None
    → option_map (λ x. x.header.geometry) (first_seen seen) ≡ Some geometry → option_map (λ x. x.header.array) (first_seen seen) ≡ Some array
    → (of_another_array array seen ≡ None) × (of_another_geometry geometry seen ≡ None)
one_array copies unclean [] geometry array none g a = absurd (none-some (refused NoDieLive) (sym none))
one_array copies unclean (x ∷ others) geometry array none g a =
    let seen = x ∷ others in
    let arrays = first_none (of_another_array x.header.array seen) _ none in
    let geometries = first_none (of_another_geometry x.header.geometry seen) _ arrays.1 in (
      subst (λ (l : List ℕ). of_another_array l seen ≡ None) (same_Some x.header.array array a) arrays.0,
      subst (λ (h : Geometry). of_another_geometry h seen ≡ None) (same_Some x.header.geometry geometry g) geometries.0,
    )

mapped_at : {X : Type 0} (f : ℕ → X) (a n k : ℕ) (x : X) → slice_get (map f (range_with_len a n)) k ≡ Some x → f (a + k) ≡ x
mapped_at f a zero k x is = absurd (none-some x is)
mapped_at f a (suc n) zero x is = ap f (omega arith) ∙ same_Some (f a) x is
mapped_at f a (suc n) (suc k) x is = ap f (omega arith) ∙ mapped_at f (a + 1) n k x is

module _ (founds : List Found) (geometry : Geometry) (array : List ℕ) (die : ℕ) where
  by_marks : (index : ℕ) (b c : Bool) → IsImageOf founds geometry array die index
      → HasImage founds geometry array die (if b then Spare index else if c then Live index else Out index)
  by_marks index true c is = is
  by_marks index false true is = is
  by_marks index false false is = is

  by_found : (mask : ℕ) (o : Option Seen) → find (λ x. x.header.die.0 == die) (seen_from 0 founds) ≡ o
      → of_another_array array (seen_from 0 founds) ≡ None → of_another_geometry geometry (seen_from 0 founds) ≡ None
      → HasImage founds geometry array die (standing_in mask o)
  by_found mask None is arrays geometries = tt
  by_found mask (Some x) is arrays geometries =
      let seen = seen_from 0 founds in
      let d : Seen → Bool = λ y. y.header.die.0 == die in
      let a : Seen → Bool = λ y. bytes_eq y.header.array array in
      let g : Seen → Bool = λ y. is_geometry y.header.geometry geometry && is_geometry y.geometry geometry in
      let at = find_seen d 0 founds x is in
      let of_array : a x ≡ true = all_pass a d x seen (map_none _ _ arrays) is in
      let of_geometry : g x ≡ true = all_pass g d x seen (map_none _ _ geometries) is in
      let parts = both (is_geometry x.header.geometry geometry) (is_geometry x.geometry geometry) of_geometry in
      let got : slice_get founds x.index ≡ Some (record { geometry = geometry; header = Good x.header }) =
      ap (λ (i : ℕ). slice_get founds i) (omega (arith, at.index))
      ∙ at.got
      ∙ ap (λ (h : Geometry). Some (record { geometry = h; header = Good x.header })) (geometry_is x.geometry geometry parts.1) in
      by_marks x.index x.header.spare (is_in mask x.header.die.0) (
        x.header,
        got,
        grind (arith, nat_tests, at.passes),
        geometry_is x.header.geometry geometry parts.0,
        (bytes_eq-Decides x.header.array array).0 of_array,
      )

pub images_of : {A : Type 0} (copies : ℕ) (unclean : Bool) (founds : List Found) (judged : Judged A) → header_refusal copies unclean founds ≡ None
    → IsJudged (seen_from 0 founds) judged → HaveImages founds judged
images_of copies unclean founds judged none is = λ die standing at.
    let seen = seen_from 0 founds in
    let not_refused = (first_none (seen_refusal copies unclean seen) [] (first_none (reading_refusal unclean founds) _ none).1).0 in
    let one = one_array copies unclean seen judged.geometry judged.array not_refused is.geometry is.array in
    let stands : standing_of judged.mask seen die ≡ standing =
    ap (standing_of judged.mask seen) (omega arith)
    ∙ mapped_at (standing_of judged.mask seen) 0 judged.geometry.dies die standing (ap (λ (l : List Standing). slice_get l die) (sym is.dies) ∙ at) in
    subst (HasImage founds judged.geometry judged.array die) stands
    (by_found founds judged.geometry judged.array die judged.mask (find (λ x. x.header.die.0 == die) seen) refl one.0 one.1)
