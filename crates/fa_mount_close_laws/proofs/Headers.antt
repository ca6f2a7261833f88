-- Images with the clean headers of one epoch and mask, as they are found and judged.
use Rattle.fa_mount_headers.proofs.Images.{images_of}
use Rattle.fa_mount_headers.specs.Found.{AreOf, IsFound, IsOf}
use Rattle.fa_mount_headers.specs.Judged.{IsJudged, first_seen, standing_in, standing_of}
use Rattle.fa_mount_headers.specs.Rules.{bad, first_of, greatest_epoch, header_refusal, is_bad_header, is_in, is_unread_header, mask_in}
use Rattle.fa_mount_headers.specs.Rules.{reading_refusal, refused, refused_at, seen_at, seen_from, seen_refusal, unread}
use Rattle.fa_mount_headers.specs.declared.fault.MountFault.TheVariants.{HeaderBad, ImageFault, NoDieLive}
use Rattle.fa_mount_headers.specs.declared.found.Found.{Found}
use Rattle.fa_mount_headers.specs.declared.found.HeaderFound.{HeaderFound}
use Rattle.fa_mount_headers.specs.declared.found.HeaderFound.TheVariants.{Bad, Good, Unread}
use Rattle.fa_mount_headers.specs.declared.judging.Judged.{Judged}
use Rattle.fa_mount_headers.specs.declared.judging.Standing.{Standing}
use Rattle.fa_mount_headers.specs.declared.judging.Standing.TheVariants.{Live, Missing, Out, Spare}
use Rattle.fa_mount_headers.specs.declared.seen.Seen.{Seen}
use Rattle.fa_image.specs.Image.{Gave, ImageState}
use Rattle.fa_machine.proofs.Lists.{found_passes, none_passes}
use Rattle.fa_machine.specs.Among.{Among}
use Rattle.fa_tag.proofs.Headers.{one_header}
use Rattle.fa_tag.specs.HeaderGrammar.{IsHeader, header_bytes}
use Rattle.fa_tag.specs.declared.header.Header.{Header}
use Rattle.fa_types.specs.declared.geometry.Geometry.{Geometry}
use Rattle.std.proofs.Common.{Bool, List, None, Option, Some, [], ap, arith, cond, eq-eqb, eqb-true, false, get_or, inl, inr, length, max, refl, slice_get, suc}
use Rattle.std.proofs.Common.{subst, sym, true, zero, ℕ, ◌+◌, ◌<◌, ◌∙◌, ◌∷◌, ◌≡◌, ◌++◌, ◌⊎◌}
use Rattle.std.proofs.lemmas.Bool.{true≢false}
use Rattle.std.proofs.lemmas.Iterator.Adapters.{position_from-zero}
use Rattle.std.proofs.lemmas.List.FromFn.{get_or-map-range_with_len, length-map-range_with_len}
use Rattle.std.proofs.lemmas.Option.{none-some, same_Some, slice_get-get_or}
use Rattle.std.specs.List.{AllByRecursion, position_from}
use Rattle.std.specs.Prelude.{find, fold, option_map, position, unwrap_or, ◌==◌, if◌then◌else◌}

-- ## Small steps for lists

pub all_from : {X : Type 0} (P : X → Type 0) (xs : List X) → ((i : ℕ) (x : X) → slice_get xs i ≡ Some x → P x) → AllByRecursion P xs
all_from P [] each = tt
all_from P (x ∷ xs) each = (each 0 x refl, all_from P xs (λ i y at. each (suc i) y at))

pub all_at : {X : Type 0} (P : X → Type 0) (xs : List X) (i : ℕ) (x : X) → AllByRecursion P xs → slice_get xs i ≡ Some x → P x
all_at P [] i x all at = absurd (none-some x at)
all_at P (y ∷ xs) zero x all at = subst P (same_Some y x at) all.0
all_at P (y ∷ xs) (suc i) x all at = all_at P xs i x all.1 at

all_among : {X : Type 0} (P : X → Type 0) (xs : List X) (x : X) → AllByRecursion P xs → Among x xs → P x
all_among P [] x all among = absurd among
all_among P (y ∷ xs) x all (inl same) = subst P same all.0
all_among P (y ∷ xs) x all (inr rest) = all_among P xs x all.1 rest

placed_none : {X : Type 0} (p : X → Bool) (i : ℕ) (xs : List X) → position_from p i xs ≡ None → AllByRecursion (λ x. p x ≡ false) xs
placed_none p i [] none = tt
placed_none p i (x ∷ xs) none = by_test (placed_none p (i + 1) xs) (p x) refl none
  where
    by_test : (position_from p (i + 1) xs ≡ None → AllByRecursion (λ x. p x ≡ false) xs) → (b : Bool) → p x ≡ b
        → cond b (Some i) (position_from p (i + 1) xs) ≡ None → AllByRecursion (λ x. p x ≡ false) (x ∷ xs)
    by_test rest true e none = absurd (none-some i (sym none))
    by_test rest false e none = (e, rest none)

-- where no element is found to pass none does
pub none_at : {X : Type 0} (p : X → Bool) (xs : List X) → position p xs ≡ None → AllByRecursion (λ x. p x ≡ false) xs
none_at p xs none = placed_none p 0 xs (sym (position_from-zero p xs) ∙ none)

first_none : {X : Type 0} (o : Option X) (others : List (Option X)) → first_of (o ∷ others) ≡ None → (o ≡ None) × (first_of others ≡ None)
first_none None others none = (refl, none)
first_none (Some x) others none = absurd (none-some x (sym none))

placed_nothing : {X : Type 0} (p : X → Bool) (i : ℕ) (xs : List X) → AllByRecursion (λ x. p x ≡ false) xs → position_from p i xs ≡ None
placed_nothing p i [] all = refl
placed_nothing p i (x ∷ xs) all = ap (λ b. cond b (Some i) (position_from p (i + 1) xs)) all.0 ∙ placed_nothing p (i + 1) xs all.1

pub nowhere : {X : Type 0} (p : X → Bool) (xs : List X) → AllByRecursion (λ x. p x ≡ false) xs → position p xs ≡ None
nowhere p xs all = position_from-zero p xs ∙ placed_nothing p 0 xs all

pub map_none : {X Y : Type 0} (f : X → Y) (o : Option X) → option_map f o ≡ None → o ≡ None
map_none f None none = refl
map_none f (Some x) none = absurd (none-some (f x) (sym none))

-- what was read of images that were not refused
all_read : (copies : ℕ) (founds : List Found) → header_refusal copies false founds ≡ None
    → AllByRecursion (λ found. is_unread_header found.header ≡ false) founds × AllByRecursion (λ found. is_bad_header found.header ≡ false) founds
all_read copies founds none =
    let reading = (first_none (reading_refusal false founds) _ none).0 in
    let parts = first_none (unread founds) _ reading in (
      none_at (λ found. is_unread_header found.header) founds (map_none (refused_at ImageFault) _ parts.0),
      none_at (λ found. is_bad_header found.header) founds (map_none (refused_at HeaderBad) _ (first_none (bad founds) [] parts.1).0),
    )

module _ (g : Geometry) (array : List ℕ) (epoch mask : ℕ) where
  -- the clean header of a die
  abbrev pub clean_header : ℕ → Header
  clean_header die = record { die = record { 0 = die }; geometry = g; clean = true; spare = false; epoch = epoch; mask = mask; array = array }

  -- an image of a die of the mask that was told so
  pub record IsMarked (image : ImageState) : Type 0 where
    pub die : ℕ
    pub inside : is_in mask die ≡ true
    pub shape : image.geometry ≡ g
    pub bytes : image.header ≡ header_bytes 2 (clean_header die)

  -- what was found of one
  abbrev pub IsOfMask : Found → Type 0
  IsOfMask found = (die : ℕ) × (is_in mask die ≡ true) × (found ≡ record { geometry = g; header = Good (clean_header die) })

  module _ (fits : (die : ℕ) → is_in mask die ≡ true → IsHeader (clean_header die)) where
    found_so : (image : ImageState) (die : ℕ) → is_in mask die ≡ true → image.header ≡ header_bytes 2 (clean_header die) → (found : HeaderFound)
        → (found ≡ Unread) ⊎ IsFound (Gave image.header) found → is_unread_header found ≡ false → is_bad_header found ≡ false → found ≡ Good (clean_header die)
    found_so image die inside bytes Unread is read good = absurd (true≢false read)
    found_so image die inside bytes Bad is read good = absurd (true≢false good)
    found_so image die inside bytes (Good h) (inl is) read good = absurd (true≢false (sym (ap is_unread_header is)))
    found_so image die inside bytes (Good h) (inr is) read good =
        ap Good (one_header h (clean_header die) image.header is (fits die inside, inl bytes))

    -- of an image that is known to be told so of this die
    pub found_of : (image : ImageState) (found : Found) (die : ℕ) → is_in mask die ≡ true → image.geometry ≡ g → image.header ≡ header_bytes 2 (clean_header die)
        → IsOf image found → is_unread_header found.header ≡ false → is_bad_header found.header ≡ false
        → found ≡ record { geometry = g; header = Good (clean_header die) }
    found_of image found die inside shape bytes is read good =
        λ i. record { geometry = (is.0 ∙ shape) i; header = found_so image die inside bytes found.header is.1 read good i }

    pub are_of_mask : (images : List ImageState) (founds : List Found) → AllByRecursion IsMarked images → AreOf images founds → length founds ≡ length images
        → AllByRecursion (λ found. is_unread_header found.header ≡ false) founds → AllByRecursion (λ found. is_bad_header found.header ≡ false) founds
        → AllByRecursion IsOfMask founds
    are_of_mask images [] marked of many read good = tt
    are_of_mask [] (found ∷ founds) marked of many read good = absurd of
    are_of_mask (image ∷ images) (found ∷ founds) marked of many read good = (
      (marked.0.die, marked.0.inside, found_of image found marked.0.die marked.0.inside marked.0.shape marked.0.bytes of.0 read.0 good.0),
      are_of_mask images founds marked.1 of.1 (omega (arith, many)) read.1 good.1,
    )

    pub found_at : (images : List ImageState) (founds : List Found) → AreOf images founds → length founds ≡ length images
        → AllByRecursion (λ found. is_unread_header found.header ≡ false) founds → AllByRecursion (λ found. is_bad_header found.header ≡ false) founds
        → (i die : ℕ) (image : ImageState) → slice_get images i ≡ Some image → is_in mask die ≡ true → image.geometry ≡ g
        → image.header ≡ header_bytes 2 (clean_header die) → slice_get founds i ≡ Some (record { geometry = g; header = Good (clean_header die) })
    found_at [] founds of many read good i die image at inside shape bytes = absurd (none-some image at)
    found_at (x ∷ images) [] of many read good i die image at inside shape bytes = absurd (omega (arith, many))
    found_at (x ∷ images) (found ∷ founds) of many read good zero die image at inside shape bytes =
        let same = same_Some x image at in
        ap Some (found_of x found die inside (ap (λ (s : ImageState). s.geometry) same ∙ shape) (ap (λ (s : ImageState). s.header) same ∙ bytes) of.0 read.0 good.0)
    found_at (x ∷ images) (found ∷ founds) of many read good (suc i) die image at inside shape bytes =
        found_at images founds of.1 (omega (arith, many)) read.1 good.1 i die image at inside shape bytes

    -- ## What is seen of them

    abbrev IsSeenOf : Seen → Type 0
    IsSeenOf x = (die : ℕ) × (is_in mask die ≡ true) × (x.header ≡ clean_header die)

    all_seen : (first : ℕ) (founds : List Found) → AllByRecursion IsOfMask founds → AllByRecursion IsSeenOf (seen_from first founds)
    all_seen first [] all = tt
    all_seen first (found ∷ founds) all =
        subst (λ (f : Found). AllByRecursion IsSeenOf (seen_at first f.geometry f.header ++ seen_from (suc first) founds)) (sym all.0.2)
        ((all.0.0, all.0.1, refl), all_seen (suc first) founds all.1)

    pub in_seen : (first : ℕ) (founds : List Found) → AllByRecursion IsOfMask founds → (i die : ℕ)
        → slice_get founds i ≡ Some (record { geometry = g; header = Good (clean_header die) })
        → Among (record { index = first + i; geometry = g; header = clean_header die }) (seen_from first founds)
    in_seen first [] all i die at = absurd (none-some _ at)
    in_seen first (found ∷ founds) all zero die at =
        subst (λ (f : Found). Among (record { index = first + 0; geometry = g; header = clean_header die }) (seen_at first f.geometry f.header ++ seen_from (suc first) founds))
        (sym (same_Some found _ at)) (inl (λ i. record { index = first_is i; geometry = g; header = clean_header die }))
      where
        first_is : first ≡ first + 0
        first_is = omega arith
    in_seen first (found ∷ founds) all (suc i) die at =
        subst (λ (f : Found). Among (record { index = first + suc i; geometry = g; header = clean_header die }) (seen_at first f.geometry f.header ++ seen_from (suc first) founds))
        (sym all.0.2)
        (inr (subst (λ n. Among (record { index = n; geometry = g; header = clean_header die }) (seen_from (suc first) founds)) (omega arith)
        (in_seen (suc first) founds all.1 i die at)))

    epochs : (most : ℕ) (seen : List Seen) → AllByRecursion IsSeenOf seen → max most epoch ≡ epoch
        → (most ≡ epoch) ⊎ (0 < length seen) → fold (λ most x. max most x.header.epoch) most seen ≡ epoch
    epochs most [] all top (inl is) = is
    epochs most [] all top (inr some) = absurd (omega (arith, some))
    epochs most (x ∷ seen) all top some =
        let is : max most x.header.epoch ≡ epoch = ap (λ (h : Header). max most h.epoch) all.0.2 ∙ top in
        ap (λ n. fold (λ most x. max most x.header.epoch) n seen) is ∙ epochs epoch seen all.1 max_itself (inl refl)
      where
        max_itself : max epoch epoch ≡ epoch
        max_itself = omega arith

    mask_is : (seen : List Seen) → AllByRecursion IsSeenOf seen → 0 < length seen → mask_in epoch seen ≡ mask
    mask_is [] all some = absurd (omega (arith, some))
    mask_is (x ∷ seen) all some =
        ap (λ (o : Option Seen). unwrap_or (option_map (λ y. y.header.mask) o) 0)
        (ap (λ b. cond b (Some x) (find (λ y. y.header.epoch == epoch) seen)) (eq-eqb x.header.epoch epoch (ap (λ (h : Header). h.epoch) all.0.2)))
        ∙ ap (λ (h : Header). h.mask) all.0.2

    some_of : (founds : List Found) → AllByRecursion IsOfMask founds → 0 < length founds → 0 < length (seen_from 0 founds)
    some_of [] all more = absurd (omega (arith, more))
    some_of (found ∷ founds) all more =
        subst (λ (f : Found). 0 < length (seen_at 0 f.geometry f.header ++ seen_from 1 founds)) (sym all.0.2) (omega arith)

    pub epoch_seen : (founds : List Found) → AllByRecursion IsOfMask founds → 0 < length founds → greatest_epoch (seen_from 0 founds) ≡ epoch
    epoch_seen founds all more = epochs 0 (seen_from 0 founds) (all_seen 0 founds all) (omega arith) (inr (some_of founds all more))

    pub mask_seen : (founds : List Found) → AllByRecursion IsOfMask founds → 0 < length founds → mask_in epoch (seen_from 0 founds) ≡ mask
    mask_seen founds all more = mask_is (seen_from 0 founds) (all_seen 0 founds all) (some_of founds all more)

    not_bad : (image : ImageState) (die : ℕ) → is_in mask die ≡ true → image.header ≡ header_bytes 2 (clean_header die) → (found : HeaderFound)
        → (found ≡ Unread) ⊎ IsFound (Gave image.header) found → is_bad_header found ≡ false
    not_bad image die inside bytes Unread is = refl
    not_bad image die inside bytes (Good h) is = refl
    not_bad image die inside bytes Bad (inl is) = absurd (true≢false (ap is_bad_header is))
    not_bad image die inside bytes Bad (inr is) = absurd (is (clean_header die) (fits die inside, inl bytes))

    pub none_bad : (images : List ImageState) (founds : List Found) → AllByRecursion IsMarked images → AreOf images founds → length founds ≡ length images
        → AllByRecursion (λ found. is_bad_header found.header ≡ false) founds
    none_bad images [] marked of many = tt
    none_bad [] (found ∷ founds) marked of many = absurd of
    none_bad (image ∷ images) (found ∷ founds) marked of many =
        (not_bad image marked.0.die marked.0.inside marked.0.bytes found.header of.0.1, none_bad images founds marked.1 of.1 (omega (arith, many)))

    -- ## How the dies stand

    module _ {A : Type 0} (images : List ImageState) (founds : List Found) (copies : ℕ) (judged : Judged A) (marked : AllByRecursion IsMarked images)
        (of : AreOf images founds) (many : length founds ≡ length images) (none : header_refusal copies false founds ≡ None)
        (judges : IsJudged (seen_from 0 founds) judged) (some : 0 < length images) where
      abbrev seen : List Seen
      seen = seen_from 0 founds

      pub all_of_mask : AllByRecursion IsOfMask founds
      all_of_mask = are_of_mask images founds marked of many (all_read copies founds none).0 (all_read copies founds none).1

      are_seen : AllByRecursion IsSeenOf seen
      are_seen = all_seen 0 founds all_of_mask

      epoch_judged : judged.epoch ≡ epoch
      epoch_judged = judges.epoch ∙ epoch_seen founds all_of_mask (omega (arith, many, some))

      mask_judged : judged.mask ≡ mask
      mask_judged = judges.mask ∙ ap (λ n. mask_in n seen) epoch_judged ∙ mask_seen founds all_of_mask (omega (arith, many, some))

      pub geometry_judged : judged.geometry ≡ g
      geometry_judged = of_first seen are_seen judges.geometry
        where
          of_first : (xs : List Seen) → AllByRecursion IsSeenOf xs → option_map (λ (x : Seen). x.header.geometry) (first_seen xs) ≡ Some judged.geometry → judged.geometry ≡ g
          of_first [] all is = absurd (none-some judged.geometry is)
          of_first (x ∷ xs) all is = sym (same_Some x.header.geometry judged.geometry is) ∙ ap (λ (h : Header). h.geometry) all.0.2

      -- the image at an index is that of a die of the mask
      pub found_die : (i die : ℕ) (image : ImageState) → slice_get images i ≡ Some image → is_in mask die ≡ true → image.geometry ≡ g
          → image.header ≡ header_bytes 2 (clean_header die) → slice_get founds i ≡ Some (record { geometry = g; header = Good (clean_header die) })
      found_die = found_at images founds of many (all_read copies founds none).0 (all_read copies founds none).1

      stands_at : (die : ℕ) → die < judged.geometry.dies → slice_get judged.dies.items die ≡ Some (standing_of judged.mask seen die)
      stands_at die low =
          let long = ap (λ (l : List Standing). length l) judges.dies ∙ length-map-range_with_len (standing_of judged.mask seen) 0 judged.geometry.dies in
          slice_get-get_or judged.dies.items die Missing (omega (arith, low, long))
          ∙ ap (λ (l : List Standing). Some (get_or l die Missing)) judges.dies
          ∙ ap Some (get_or-map-range_with_len (standing_of judged.mask seen) 0 judged.geometry.dies die die Missing low (omega arith))

      -- a die of the mask with an image is live
      pub in_mask_lives : (i die : ℕ) → slice_get founds i ≡ Some (record { geometry = g; header = Good (clean_header die) }) → is_in mask die ≡ true
          → die < judged.geometry.dies → (j : ℕ) × (slice_get judged.dies.items die ≡ Some (Live j))
      in_mask_lives i die at inside low = by_found (find (λ x. x.header.die.0 == die) seen) refl
        where
          by_found : (o : Option Seen) → find (λ x. x.header.die.0 == die) seen ≡ o → (j : ℕ) × (slice_get judged.dies.items die ≡ Some (Live j))
          by_found None e =
              absurd (true≢false (sym (eq-eqb die die refl) ∙ none_passes (λ x. x.header.die.0 == die) seen e _ (in_seen 0 founds all_of_mask i die at)))
          by_found (Some x) e =
              let passes = found_passes (λ x. x.header.die.0 == die) seen x e in
              let is = all_among IsSeenOf seen x are_seen passes.1 in
              let die_is : x.header.die.0 ≡ die = eqb-true x.header.die.0 die passes.0 in (
                x.index,
                stands_at die low ∙ ap Some (ap (standing_in judged.mask) e
                    ∙ ap {B = Standing} (λ b. if b then Spare x.index else if is_in judged.mask x.header.die.0 then Live x.index else Out x.index)
                    (ap (λ (h : Header). h.spare) is.2)
                    ∙ ap {B = Standing} (λ b. if b then Live x.index else Out x.index) ((λ k. is_in (mask_judged k) (die_is k)) ∙ inside)),
              )

      -- a die that is live has its image at that index
      pub lives_found : (die index : ℕ) → slice_get judged.dies.items die ≡ Some (Live index)
          → (header : Header) × (slice_get founds index ≡ Some (record { geometry = judged.geometry; header = Good header })) × (header.die.0 ≡ die)
      lives_found die index at =
          let has = images_of copies false founds judged none judges die (Live index) at in (has.0, has.1, has.2)

-- images that are mounted are some
pub some_found : (copies : ℕ) (founds : List Found) → header_refusal copies false founds ≡ None → 0 < length founds
some_found copies (found ∷ founds) none = omega arith
some_found copies [] none =
    absurd (none-some (refused NoDieLive) (sym (first_none (seen_refusal copies false []) [] (first_none (reading_refusal false []) (seen_refusal copies false [] ∷ []) none).1).0))
