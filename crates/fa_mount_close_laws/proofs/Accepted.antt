-- The headers that closing wrote are those of an array that is mounted.
use Rattle.fa_mount_close_laws.proofs.Headers.{clean_header}
use Rattle.fa_mount_headers.specs.Rules.{can_hold, die_twice, epoch_refusal, first_of, greatest_epoch, has_earlier}
use Rattle.fa_mount_headers.specs.Rules.{is_clean, is_geometry, is_in, is_unclean_die, mask_in, no_die_live, of_another_array}
use Rattle.fa_mount_headers.specs.Rules.{of_another_geometry, of_another_mask, refused, refused_die, refused_for, seen_at, seen_from}
use Rattle.fa_mount_headers.specs.Rules.{seen_refusal, unclean, without_room}
use Rattle.fa_mount_headers.specs.declared.fault.MountFault.TheVariants.{ArraysDiffer, DieTwice, GeometryDiffers, NoDieLive, Unclean}
use Rattle.fa_mount_headers.specs.declared.found.Found.{Found}
use Rattle.fa_mount_headers.specs.declared.found.HeaderFound.TheVariants.{Good}
use Rattle.fa_mount_headers.specs.declared.seen.Seen.{Seen}
use Rattle.fa_machine.proofs.Lists.{any_some}
use Rattle.fa_machine.specs.Among.{Among}
use Rattle.fa_map_calls.proofs.Ranges.{find_none}
use Rattle.fa_tag.specs.declared.header.Header.{Header}
use Rattle.fa_types.specs.declared.geometry.Geometry.{Geometry}
use Rattle.std.proofs.Common.{Bool, List, None, Option, Some, [], ap, arith, cond, eq-eqb, eqb-true, false, inl, inr, nat_lt, not, refl, slice_get}
use Rattle.std.proofs.Common.{subst, suc, sym, true, ℕ, ◌+◌, ◌∙◌, ◌∷◌, ◌≡◌, ◌++◌}
use Rattle.std.proofs.lemmas.Bool.{and_from, and_parts, cases_Bool, false_from_ne_true, ltb-true, or_from}
use Rattle.std.proofs.lemmas.Slice.Eq.{bytes_eq-Decides}
use Rattle.std.specs.List.{AllByRecursion, list_any}
use Rattle.std.specs.Prelude.{find, option_map, ◌&&◌, ◌==◌, if◌then◌else◌}
use Rattle.std.specs.Str.{bytes_eq}

find_nothing : {X : Type 0} (p : X → Bool) (xs : List X) → AllByRecursion (λ x. p x ≡ false) xs → find p xs ≡ None
find_nothing p [] all = refl
find_nothing p (x ∷ xs) all = ap (λ b. cond b (Some x) (find p xs)) all.0 ∙ find_nothing p xs all.1

any_nothing : {X : Type 0} (p : X → Bool) (xs : List X) → AllByRecursion (λ x. p x ≡ false) xs → list_any p xs ≡ false
any_nothing p [] all = refl
any_nothing p (x ∷ xs) all = or_from (p x) (list_any p xs) all.0 (any_nothing p xs all.1)

and_false : (b : Bool) → (b && false) ≡ false
and_false true = refl
and_false false = refl

all_mapped : {X : Type 0} (P Q : X → Type 0) (xs : List X) → AllByRecursion P xs → ((x : X) → P x → Q x) → AllByRecursion Q xs
all_mapped P Q [] all f = tt
all_mapped P Q (x ∷ xs) all f = (f x all.0, all_mapped P Q xs all.1 f)

pub first_of_none : {X : Type 0} (o : Option X) (others : List (Option X)) → o ≡ None → first_of others ≡ None → first_of (o ∷ others) ≡ None
first_of_none o others none rest = ap (λ p. first_of (p ∷ others)) none ∙ rest

itself : (g : Geometry) → is_geometry g g ≡ true
itself g =
    and_from _ (g.pages == g.pages) (and_from _ (g.page_bytes == g.page_bytes) (and_from _ (g.slots == g.slots) (and_from _ (g.blocks == g.blocks)
    (and_from (g.dies == g.dies) (g.spares == g.spares) (eq-eqb g.dies g.dies refl) (eq-eqb g.spares g.spares refl))
    (eq-eqb g.blocks g.blocks refl)) (eq-eqb g.slots g.slots refl)) (eq-eqb g.page_bytes g.page_bytes refl)) (eq-eqb g.pages g.pages refl)

module _ (g : Geometry) (array : List ℕ) (epoch mask : ℕ) where
  abbrev clean : ℕ → Header
  clean = clean_header g array epoch mask

  abbrev pub good : ℕ → Found
  good die = record { geometry = g; header = Good (clean die) }

  -- what is seen of one of these images, which stands at that place of those that were found
  pub record IsSeenAt (first : ℕ) (founds : List Found) (x : Seen) : Type 0 where
    pub die : ℕ
    pub inside : is_in mask die ≡ true
    pub header : x.header ≡ clean die
    pub shape : x.geometry ≡ g
    pub place : ℕ
    pub index : x.index ≡ first + place
    pub found : slice_get founds place ≡ Some (good die)

  abbrev pub AreGood : List Found → Type 0
  AreGood founds = AllByRecursion (λ found. (die : ℕ) × (is_in mask die ≡ true) × (found ≡ good die)) founds

  seen_later : (first : ℕ) (found : Found) (founds : List Found) (x : Seen) → IsSeenAt (suc first) founds x → IsSeenAt first (found ∷ founds) x
  seen_later first found founds x s = record {
    die = s.die;
    inside = s.inside;
    header = s.header;
    shape = s.shape;
    place = suc s.place;
    index = (let e = s.index in omega (arith, e));
    found = s.found;
  }

  all_seen_at : (first : ℕ) (founds : List Found) → AreGood founds → AllByRecursion (IsSeenAt first founds) (seen_from first founds)
  all_seen_at first [] all = tt
  all_seen_at first (found ∷ founds) all =
      subst (λ (f : Found). AllByRecursion (IsSeenAt first (found ∷ founds)) (seen_at first f.geometry f.header ++ seen_from (suc first) founds)) (sym all.0.2) (
        record { die = all.0.0; inside = all.0.1; header = refl; shape = refl; place = 0; index = omega arith; found = ap Some all.0.2 },
        all_mapped (IsSeenAt (suc first) founds) (IsSeenAt first (found ∷ founds)) (seen_from (suc first) founds) (all_seen_at (suc first) founds all.1)
            (seen_later first found founds),
      )

  module _ (founds : List Found) (all : AreGood founds) (copies : ℕ) (holds : can_hold copies g ≡ true)
      (once : (i j die : ℕ) → slice_get founds i ≡ Some (good die) → slice_get founds j ≡ Some (good die) → i ≡ j)
      (each : (die : ℕ) → is_in mask die ≡ true → (i : ℕ) × Among (record { index = i; geometry = g; header = clean die }) (seen_from 0 founds))
      (some : (die : ℕ) × (is_in mask die ≡ true)) (epoch_is : greatest_epoch (seen_from 0 founds) ≡ epoch) (mask_is : mask_in epoch (seen_from 0 founds) ≡ mask) where
    abbrev seen : List Seen
    seen = seen_from 0 founds

    are : AllByRecursion (IsSeenAt 0 founds) seen
    are = all_seen_at 0 founds all

    no_other : (p : Seen → Bool) → ((x : Seen) → IsSeenAt 0 founds x → p x ≡ false) → find p seen ≡ None
    no_other p fails = find_nothing p seen (all_mapped (IsSeenAt 0 founds) (λ x. p x ≡ false) seen are fails)

    one_array : of_another_array array seen ≡ None
    one_array = ap (option_map (refused_for ArraysDiffer)) (no_other (λ x. not (bytes_eq x.header.array array))
        (λ x s. ap (λ (h : Header). not (bytes_eq h.array array)) s.header ∙ ap not ((bytes_eq-Decides array array).1 refl)))

    one_geometry : of_another_geometry g seen ≡ None
    one_geometry = ap (option_map (refused_for GeometryDiffers)) (no_other (λ x. not (is_geometry x.header.geometry g && is_geometry x.geometry g))
        (λ x s. ap not (and_from (is_geometry x.header.geometry g) (is_geometry x.geometry g)
        (ap (λ (h : Header). is_geometry h.geometry g) s.header ∙ itself g) (ap (λ (h : Geometry). is_geometry h g) s.shape ∙ itself g))))

    none_earlier : (x : Seen) → IsSeenAt 0 founds x → has_earlier seen x.header.die.0 x.index ≡ false
    none_earlier x s = none_any seen are
      where
        apart : (y : Seen) → IsSeenAt 0 founds y → (y.header.die.0 == x.header.die.0 && nat_lt y.index x.index) ≡ false
        apart y t = false_from_ne_true _ (λ both.
            let parts = and_parts (y.header.die.0 == x.header.die.0) (nat_lt y.index x.index) both in
            let dies : t.die ≡ s.die = sym (ap (λ (h : Header). h.die.0) t.header) ∙ eqb-true y.header.die.0 x.header.die.0 parts.0 ∙ ap (λ (h : Header). h.die.0) s.header in
            let same = once t.place s.place s.die (t.found ∙ ap (λ n. Some (good n)) dies) s.found in
            let less = ltb-true y.index x.index parts.1 in
            let a = t.index in
            let b = s.index in
            omega (arith, same, less, a, b))

        none_any : (ys : List Seen) → AllByRecursion (IsSeenAt 0 founds) ys → list_any (λ y. y.header.die.0 == x.header.die.0 && nat_lt y.index x.index) ys ≡ false
        none_any ys all_ys = any_nothing (λ y. y.header.die.0 == x.header.die.0 && nat_lt y.index x.index) ys (all_mapped (IsSeenAt 0 founds) _ ys all_ys apart)

    each_once : die_twice seen ≡ None
    each_once = ap (option_map (refused_for DieTwice)) (no_other (λ x. has_earlier seen x.header.die.0 x.index) none_earlier)

    one_mask : of_another_mask epoch mask seen ≡ None
    one_mask = ap (option_map (refused_for ArraysDiffer)) (no_other (λ x. x.header.epoch == epoch && not (x.header.mask == mask))
        (λ x s. ap (λ (h : Header). h.epoch == epoch && not (h.mask == mask)) s.header
        ∙ ap (λ b. (epoch == epoch) && not b) (eq-eqb mask mask refl) ∙ and_false (epoch == epoch)))

    clean_there : (die : ℕ) → is_in mask die ≡ true → is_clean epoch seen die ≡ true
    clean_there die inside =
        let at = each die inside in
        any_some (λ x. x.header.die.0 == die && not x.header.spare && x.header.epoch == epoch && x.header.clean) seen _ at.1
        (and_from _ true (and_from (die == die && true) (epoch == epoch) (and_from (die == die) true (eq-eqb die die refl) refl) (eq-eqb epoch epoch refl)) refl)

    not_unclean : (die : ℕ) → is_unclean_die epoch mask seen die ≡ false
    not_unclean die =
        elim (cases_Bool (is_in mask die)) [
          | inl inside ↦ ap (λ b. is_in mask die && not b) (clean_there die inside) ∙ and_false (is_in mask die)
          | inr outside ↦ ap (λ b. b && not (is_clean epoch seen die)) outside
        ]

    all_clean : (dies : ℕ) → unclean dies false epoch mask seen ≡ None
    all_clean dies = ap (option_map (refused_die Unclean)) (find_none (is_unclean_die epoch mask seen) 0 dies (λ die low high. not_unclean die))

    one_live : no_die_live mask seen ≡ None
    one_live =
        let at = each some.0 some.1 in
        ap (λ b. if b then None else Some (refused NoDieLive)) (any_some (λ x. not x.header.spare && is_in mask x.header.die.0) seen _ at.1 some.1)

    good_epoch : (dies : ℕ) → epoch_refusal dies false epoch mask seen ≡ None
    good_epoch dies = first_of_none _ _ one_mask (first_of_none _ _ (all_clean dies) (first_of_none _ [] one_live refl))

    pub seen_accepted : seen_refusal copies false seen ≡ None
    seen_accepted = by_first seen are refl
      where
        by_first : (xs : List Seen) → AllByRecursion (IsSeenAt 0 founds) xs → seen ≡ xs → seen_refusal copies false xs ≡ None
        by_first [] all_xs e = absurd (subst (Among (record { index = (each some.0 some.1).0; geometry = g; header = clean some.0 })) e (each some.0 some.1).1)
        by_first (x ∷ others) all_xs e =
            let h = all_xs.0.header in
            subst (λ l. first_of (of_another_array x.header.array l ∷ of_another_geometry x.header.geometry l ∷ without_room copies x ∷ die_twice l
            ∷ epoch_refusal x.header.geometry.dies false (greatest_epoch l) (mask_in (greatest_epoch l) l) l ∷ []) ≡ None) e
            (first_of_none _ _ (ap (λ (k : Header). of_another_array k.array seen) h ∙ one_array)
            (first_of_none _ _ (ap (λ (k : Header). of_another_geometry k.geometry seen) h ∙ one_geometry)
            (first_of_none _ _ (ap (λ b. if b then None else Some (refused_for GeometryDiffers x)) (ap (λ (k : Header). can_hold copies k.geometry) h ∙ holds))
            (first_of_none _ _ each_once
            (first_of_none _ [] (ap (λ n. epoch_refusal x.header.geometry.dies false n (mask_in n seen) seen) epoch_is
            ∙ ap (λ n. epoch_refusal x.header.geometry.dies false epoch n seen) mask_is ∙ good_epoch x.header.geometry.dies) refl)))))
