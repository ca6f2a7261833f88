-- The headers of a new array are those of an array that can be mounted.
use Rattle.std.proofs.Common.{◌≡◌, ℕ, zero, suc, ◌+◌, ◌-◌, ◌<◌, Bool, true, false, not, ◌&&◌, List, [], ◌∷◌, map, refl, ap, sym, subst, ◌∙◌, add-one, zero-add, arith}
use Rattle.std.proofs.lemmas.Bool.{eq-eqb, lt-ltb, ltb-true, ltb-false}
use Rattle.std.proofs.lemmas.Iterator.Adapters.{position_from-zero}
use Rattle.std.proofs.lemmas.List.{map-id}
use Rattle.std.proofs.lemmas.Option.{same_Some}
use Rattle.std.proofs.lemmas.Bool.Decides.{nat_tests}
use Rattle.std.proofs.lemmas.Nat.Bits.{bit_at_ones, bit_at_ones_above}
use Rattle.std.proofs.lemmas.Slice.Eq.{bytes_eq-Decides}
use Rattle.std.specs.Prelude.{Option, Some, None, max, fold, find, is_none, nat_lt, option_map, unwrap_or, position, ◌==◌, if◌then◌else◌}
use Rattle.std.specs.List.{range_with_len}
use Rattle.std.specs.Str.{bytes_eq}
use Rattle.fa_types.specs.declared.geometry.Geometry.{Geometry}
use Rattle.fa_tag.specs.declared.header.Header.{Header}
use Rattle.fa_mount_headers.proofs.Numbers.{range_more}
use Rattle.fa_mount_headers.proofs.Rows.{mapped_alike, none_found, none_passes, one_found, one_passes, none_placed}
use Rattle.fa_mount_headers.specs.FirstHeader.{in_use, mask_below, first_header, live_header, spare_header}
use Rattle.fa_mount_headers.specs.Judged.{IsJudged, first_seen, standing_in, standing_of, standings_of}
use Rattle.fa_mount_headers.specs.NewArray.{IsNew, new_found, new_founds, new_standing}
use Rattle.fa_mount_headers.specs.Rules.{first_of, of_another_array, of_another_geometry, without_room, can_hold, die_twice, has_earlier, is_geometry}
use Rattle.fa_mount_headers.specs.Rules.{epoch_refusal, greatest_epoch, mask_in, of_another_mask, unclean_die, is_unclean_die, is_clean, is_in}
use Rattle.fa_mount_headers.specs.Rules.{no_die_live, seen_from, seen_refusal, reading_refusal, header_refusal, is_unread_header, is_bad_header, refused, refused_at, refused_for, refused_die}
use Rattle.fa_mount_headers.specs.declared.fault.MountFault.TheVariants.{ArraysDiffer, GeometryDiffers, DieTwice}
use Rattle.fa_mount_headers.specs.declared.fault.MountFault.TheVariants.{HeaderBad, ImageFault, NoDieLive, Unclean}
use Rattle.fa_mount_headers.specs.declared.found.Found.{Found}
use Rattle.fa_mount_headers.specs.declared.judging.Judged.{Judged}
use Rattle.fa_mount_headers.specs.declared.judging.Standing.TheVariants.{Live, Spare, Out}
use Rattle.fa_mount_headers.specs.declared.seen.Seen.{Seen}

both : {b c : Bool} → b ≡ true → c ≡ true → (b && c) ≡ true
both {b} {c} one other = ap (λ (x : Bool). x && c) one ∙ other

-- of refusals that none is
first_none : {X : Type 0} {o : Option X} → o ≡ None → (others : List (Option X)) → first_of others ≡ None → first_of (o ∷ others) ≡ None
first_none none others rest = ap (λ x. first_of (x ∷ others)) none ∙ rest

same_geometry : (g : Geometry) → is_geometry g g ≡ true
same_geometry g =
    both (both (both (both (both (eq-eqb g.dies g.dies refl) (eq-eqb g.spares g.spares refl)) (eq-eqb g.blocks g.blocks refl))
    (eq-eqb g.slots g.slots refl)) (eq-eqb g.page_bytes g.page_bytes refl)) (eq-eqb g.pages g.pages refl)

and_false : (b : Bool) → (b && false) ≡ false
and_false true = refl
and_false false = refl

same_bytes : (bytes : List ℕ) → bytes_eq bytes bytes ≡ true
same_bytes bytes = (bytes_eq-Decides bytes bytes).1 refl

apart : (a b : ℕ) → (a == b && nat_lt a b) ≡ false
apart a b = grind (arith, nat_tests)

earlier : (a b : ℕ) → a < b → (a == b) ≡ false
earlier a b less = grind (arith, nat_tests)

module _ (g : Geometry) (array : List ℕ) where
  abbrev seen_of : ℕ → Seen
  seen_of die = record { index = die; geometry = g; header = first_header g array die }

  abbrev all : List Seen
  all = map seen_of (range_with_len 0 g.dies)

  abbrev mask : ℕ
  mask = mask_below (in_use g)

  some_in_use : 0 < in_use g
  some_in_use = omega (arith, g.within.dies_fit.two_in_use)

  some_dies : 0 < g.dies
  some_dies = omega (arith, g.within.dies_fit.least)

  -- ## What the headers say

  by_test : {X : Type 0} (h : Header → X) (die : ℕ) (x : X) → h (live_header g array die) ≡ x → h (spare_header g array die) ≡ x → (b : Bool)
      → h (if b then live_header g array die else spare_header g array die) ≡ x
  by_test h die x live spare true = live
  by_test h die x live spare false = spare

  -- what both kinds of header say
  by_use : {X : Type 0} (h : Header → X) (die : ℕ) (x : X) → h (live_header g array die) ≡ x → h (spare_header g array die) ≡ x
      → h (first_header g array die) ≡ x
  by_use h die x live spare = by_test h die x live spare (nat_lt die (in_use g))

  live_is : (die : ℕ) → die < in_use g → first_header g array die ≡ live_header g array die
  live_is die below = ap (λ (b : Bool). if b then live_header g array die else spare_header g array die) (lt-ltb die (in_use g) below)

  array_of : (die : ℕ) → (first_header g array die).array ≡ array
  array_of die = by_use (λ h. h.array) die array refl refl

  geometry_of : (die : ℕ) → (first_header g array die).geometry ≡ g
  geometry_of die = by_use (λ h. h.geometry) die g refl refl

  die_of : (die : ℕ) → (first_header g array die).die.0 ≡ die
  die_of die = by_use (λ h. h.die.0) die die refl refl

  seen_is : (a n : ℕ) → seen_from a (map (new_found g array) (range_with_len a n)) ≡ map seen_of (range_with_len a n)
  seen_is a zero = refl
  seen_is a (suc n) =
      ap (λ (k : ℕ). seen_of a ∷ seen_from k (map (new_found g array) (range_with_len (a + 1) n))) (sym (add-one a))
      ∙ ap (λ (l : List Seen). seen_of a ∷ l) (seen_is (a + 1) n)

  abbrev others : List Seen
  others = map seen_of (range_with_len 1 (g.dies - 1))

  begins : all ≡ seen_of 0 ∷ others
  begins =
      let whole : g.dies ≡ g.dies - 0 = omega arith in
      ap (λ (n : ℕ). map seen_of (range_with_len 0 n)) whole ∙ ap (map seen_of) (range_more 0 g.dies some_dies)

  -- ## The rules

  one_array : of_another_array array all ≡ None
  one_array =
      ap (option_map (refused_for ArraysDiffer))
      (none_found seen_of (λ x. not (bytes_eq x.header.array array)) 0 g.dies
      (λ die from below. ap not (by_use (λ h. bytes_eq h.array array) die true (same_bytes array) (same_bytes array))))

  one_geometry : of_another_geometry g all ≡ None
  one_geometry =
      let same = same_geometry g in
      ap (option_map (refused_for GeometryDiffers))
      (none_found seen_of (λ x. not (is_geometry x.header.geometry g && is_geometry x.geometry g)) 0 g.dies
      (λ die from below. ap not (both (by_use (λ h. is_geometry h.geometry g) die true same same) same)))

  has_room : (copies : ℕ) → can_hold copies g ≡ true → without_room copies (seen_of 0) ≡ None
  has_room copies holds =
      ap (λ (b : Bool). if b then None else Some (refused_for GeometryDiffers (seen_of 0))) (by_use (λ h. can_hold copies h.geometry) 0 true holds holds)

  one_each : die_twice all ≡ None
  one_each =
      ap (option_map (refused_for DieTwice))
      (none_found seen_of (λ x. has_earlier all x.header.die.0 x.index) 0 g.dies
      (λ die from below. ap (λ (d : ℕ). has_earlier all d die) (die_of die)
      ∙ none_passes seen_of (λ x. x.header.die.0 == die && nat_lt x.index die) 0 g.dies
      (λ other above under. by_use (λ h. h.die.0 == die && nat_lt other die) other false (apart other die) (apart other die))))

  abbrev more : ℕ → Seen → ℕ
  more most x = max most x.header.epoch

  stays_one : (a n : ℕ) → fold more 1 (map seen_of (range_with_len a n)) ≡ 1
  stays_one a zero = refl
  stays_one a (suc n) =
      ap (λ (most : ℕ). fold more most (map seen_of (range_with_len (a + 1) n))) (by_use (λ h. max 1 h.epoch) a 1 refl refl)
      ∙ stays_one (a + 1) n

  epoch_is : greatest_epoch all ≡ 1
  epoch_is =
      ap greatest_epoch begins
      ∙ ap (λ (h : Header). fold more (max 0 h.epoch) others) (live_is 0 some_in_use)
      ∙ stays_one 1 (g.dies - 1)

  mask_is : mask_in 1 all ≡ mask
  mask_is =
      ap (λ (o : Option Seen). unwrap_or (option_map (λ x. x.header.mask) o) 0)
      (one_found seen_of (λ x. x.header.epoch == 1) 0 g.dies 0 some_dies (λ j less. absurd (omega (arith, less)))
      (ap (λ (h : Header). h.epoch == 1) (live_is 0 some_in_use)))
      ∙ ap (λ (h : Header). h.mask) (live_is 0 some_in_use)

  one_mask : of_another_mask 1 mask all ≡ None
  one_mask =
      ap (option_map (refused_for ArraysDiffer))
      (none_found seen_of (λ x. x.header.epoch == 1 && not (x.header.mask == mask)) 0 g.dies
      (λ die from below. by_use (λ h. h.epoch == 1 && not (h.mask == mask)) die false (ap not (eq-eqb mask mask refl)) refl))

  clean_is : (die : ℕ) → die < in_use g → die < g.dies → is_clean 1 all die ≡ true
  clean_is die live below =
      let q : Header → Bool = λ h. h.die.0 == die && not h.spare && h.epoch == 1 && h.clean in
      one_passes seen_of (λ x. q x.header) 0 g.dies die below
      (ap (λ (k : ℕ). q (first_header g array k)) (zero-add die) ∙ ap q (live_is die live) ∙ both (both (both (eq-eqb die die refl) refl) refl) refl)

  not_unclean : (die : ℕ) → die < g.dies → (b : Bool) → nat_lt die (in_use g) ≡ b → is_unclean_die 1 mask all die ≡ false
  not_unclean die below true live =
      ap (λ (b : Bool). is_in mask die && not b) (clean_is die (ltb-true die (in_use g) live) below) ∙ and_false (is_in mask die)
  not_unclean die below false past =
      ap (λ (n : ℕ). n == 1 && not (is_clean 1 all die)) (bit_at_ones_above (in_use g) die (ltb-false die (in_use g) past))

  all_clean : unclean_die g.dies 1 mask all ≡ None
  all_clean =
      ap (find (is_unclean_die 1 mask all)) (sym (map-id (range_with_len 0 g.dies)))
      ∙ none_found (λ die. die) (is_unclean_die 1 mask all) 0 g.dies
      (λ die from below. not_unclean die (omega (arith, below)) (nat_lt die (in_use g)) refl)

  alive : no_die_live mask all ≡ None
  alive =
      let q : Header → Bool = λ h. not h.spare && is_in mask h.die.0 in
      ap (λ (b : Bool). if b then None else Some (refused NoDieLive))
      (one_passes seen_of (λ x. q x.header) 0 g.dies 0 some_dies
      (ap q (live_is 0 some_in_use) ∙ ap (λ (n : ℕ). n == 1) (bit_at_ones (in_use g) 0 some_in_use)))

  good_epoch : epoch_refusal g.dies false 1 mask all ≡ None
  good_epoch = first_none one_mask _ (first_none (ap (option_map (refused_die Unclean)) all_clean) _ (first_none alive [] refl))

  -- what the first four rules, and those of the epoch, come to
  abbrev Fits : List Seen → Type 0
  Fits seen =
      (of_another_array (first_header g array 0).array seen ≡ None) × (of_another_geometry (first_header g array 0).geometry seen ≡ None)
      × (die_twice seen ≡ None)
      × (epoch_refusal (first_header g array 0).geometry.dies false (greatest_epoch seen) (mask_in (greatest_epoch seen) seen) seen ≡ None)

  fits : Fits all
  fits = (
    ap (λ (a : List ℕ). of_another_array a all) (array_of 0) ∙ one_array,
    ap (λ (h : Geometry). of_another_geometry h all) (geometry_of 0) ∙ one_geometry,
    one_each,
    ap (λ (h : Geometry). epoch_refusal h.dies false (greatest_epoch all) (mask_in (greatest_epoch all) all) all) (geometry_of 0)
        ∙ ap (λ (e : ℕ). epoch_refusal g.dies false e (mask_in e all) all) epoch_is
        ∙ ap (λ (m : ℕ). epoch_refusal g.dies false 1 m all) mask_is
        ∙ good_epoch,
  )

  good_seen : (copies : ℕ) → can_hold copies g ≡ true → seen_refusal copies false all ≡ None
  good_seen copies holds =
      let f = subst Fits begins fits in
      ap (seen_refusal copies false) begins
      ∙ first_none f.0 _ (first_none f.1 _ (first_none (has_room copies holds) _ (first_none f.2 _ (first_none f.3 [] refl))))

  all_read : reading_refusal false (new_founds g array) ≡ None
  all_read =
      let founds = new_founds g array in
      let placed : (p : Found → Bool) → ((k : ℕ) → p (new_found g array k) ≡ false) → position p founds ≡ None =
      λ p fails. position_from-zero p founds ∙ none_placed (new_found g array) p 0 g.dies 0 fails in
      first_none (ap (option_map (refused_at ImageFault)) (placed (λ found. is_unread_header found.header) (λ k. refl))) _
      (first_none (ap (option_map (refused_at HeaderBad)) (placed (λ found. is_bad_header found.header) (λ k. refl))) [] refl)

  pub accepted : (copies : ℕ) → can_hold copies g ≡ true → header_refusal copies false (new_founds g array) ≡ None
  accepted copies holds =
      first_none all_read _ (first_none (ap (seen_refusal copies false) (seen_is 0 g.dies) ∙ good_seen copies holds) [] refl)

  -- ## How the dies stand

  stands : (die : ℕ) → (b : Bool) → nat_lt die (in_use g) ≡ b → standing_in mask (Some (seen_of die)) ≡ (if b then Live die else Spare die)
  stands die true live =
      let below = ltb-true die (in_use g) live in
      ap (λ (h : Header). if h.spare then Spare die else if is_in mask h.die.0 then Live die else Out die) (live_is die below)
      ∙ ap (λ (n : ℕ). if n == 1 then Live die else Out die) (bit_at_ones (in_use g) die below)
  stands die false past =
      let spare : first_header g array die ≡ spare_header g array die =
      ap (λ (b : Bool). if b then live_header g array die else spare_header g array die) past in
      ap (λ (h : Header). if h.spare then Spare die else if is_in mask h.die.0 then Live die else Out die) spare

  standing_is : (die : ℕ) → die < g.dies → standing_of mask all die ≡ new_standing g die
  standing_is die below =
      let found = one_found seen_of (λ x. x.header.die.0 == die) 0 g.dies die below
      (λ j less. ap (λ (d : ℕ). d == die) (die_of (0 + j)) ∙ earlier (0 + j) die (omega (arith, less)))
      (ap (λ (d : ℕ). d == die) (die_of (0 + die)) ∙ eq-eqb (0 + die) die (zero-add die)) in
      ap (standing_in mask) found
      ∙ ap (λ (k : ℕ). standing_in mask (Some (seen_of k))) (zero-add die)
      ∙ stands die (nat_lt die (in_use g)) refl

  standings_are : standings_of mask all g.dies ≡ map (new_standing g) (range_with_len 0 g.dies)
  standings_are = mapped_alike (standing_of mask all) (new_standing g) 0 g.dies (λ die from below. standing_is die (omega (arith, below)))

  judged_seen : {A : Type 0} (judged : Judged A) → IsJudged all judged → IsNew g array judged
  judged_seen judged is =
      let geometry : judged.geometry ≡ g =
      sym (same_Some (first_header g array 0).geometry judged.geometry
      (ap (λ (l : List Seen). option_map (λ x. x.header.geometry) (first_seen l)) (sym begins) ∙ is.geometry))
      ∙ geometry_of 0 in
      let number : judged.array ≡ array =
      sym (same_Some (first_header g array 0).array judged.array
      (ap (λ (l : List Seen). option_map (λ x. x.header.array) (first_seen l)) (sym begins) ∙ is.array))
      ∙ array_of 0 in
      let epoch : judged.epoch ≡ 1 = is.epoch ∙ epoch_is in
      let live : judged.mask ≡ mask = is.mask ∙ ap (λ (e : ℕ). mask_in e all) epoch ∙ mask_is in
      record {
        of_geometry = geometry;
        of_array = number;
        first_epoch = epoch;
        all_in_use = live;
        closed = is.clean
            ∙ ap (λ (h : Geometry). is_none (unclean_die h.dies judged.epoch judged.mask all)) geometry
            ∙ ap (λ (e : ℕ). is_none (unclean_die g.dies e judged.mask all)) epoch
            ∙ ap (λ (m : ℕ). is_none (unclean_die g.dies 1 m all)) live
            ∙ ap is_none all_clean;
        standing = is.dies
            ∙ ap (λ (h : Geometry). standings_of judged.mask all h.dies) geometry
            ∙ ap (λ (m : ℕ). standings_of m all g.dies) live
            ∙ standings_are;
      }

  pub judged_new : {A : Type 0} (judged : Judged A) → IsJudged (seen_from 0 (new_founds g array)) judged → IsNew g array judged
  judged_new judged is = judged_seen judged (subst (λ (l : List Seen). IsJudged l judged) (seen_is 0 g.dies) is)
