-- How the dies of what was recovered stand: a live one has an image that its mask names, without the mark of a spare; and one that the mask names is
-- live or a spare.
use Rattle.fa_crash.proofs.Live.{mounted_live}
use Rattle.fa_image.specs.Image.{ImageAnswer, ImageCall, ImageState}
use Rattle.fa_machine.proofs.Lists.{found_passes, none_passes}
use Rattle.fa_machine.specs.Among.{Among}
use Rattle.fa_machine.specs.State.{MapState, is_live}
use Rattle.fa_mount_headers.specs.Judged.{standing_in, standing_of}
use Rattle.fa_mount_headers.specs.Rules.{greatest_epoch, is_in, mask_in, seen_from}
use Rattle.fa_mount_headers.specs.declared.judging.Standing.{Standing}
use Rattle.fa_mount_headers.specs.declared.judging.Standing.TheVariants.{Live, Missing, Out, Spare}
use Rattle.fa_mount_headers.specs.declared.seen.Seen.{Seen}
use Rattle.fa_mount_scan.proofs.Filling.{read_die_below}
use Rattle.fa_mount_scan.specs.Content.{slots_on}
use Rattle.fa_mount_scan.specs.ContentReading.{HasOutcome, image_read}
use Rattle.fa_mount_scan.specs.MountedWorld.{is_spare_of}
use Rattle.fa_mount_scan.specs.Mounting.{Mounts}
use Rattle.fa_mount_scan.specs.Recovering.{is_unread_die, is_unused, is_used_spare, outcome_at, standing_at}
use Rattle.fa_mount_scan.specs.Reported.{is_spare as stands_as_spare}
use Rattle.fa_mount_scan.specs.Scanned.{Outcome, is_refused, mounted_of, settled}
use Rattle.fa_mount_scan.specs.declared.slots.content.SlotContent.{SlotContent}
use Rattle.fa_types.specs.declared.geometry.Geometry.{Geometry}
use Rattle.std.proofs.Common.{Bool, List, None, Option, Some, ap, arith, eq-eqb, eqb-true, false, inl, inr, length, map, not, refl, slice_get, subst, sym, true, ℕ, ◌<◌, ◌∙◌, ◌≡◌}
use Rattle.std.proofs.lemmas.Bool.{cases_Bool, false≢true, true≢false}
use Rattle.std.proofs.lemmas.List.FromFn.{get_or-map-range_with_len, length-map-range_with_len}
use Rattle.std.proofs.lemmas.Option.{get_or_from_slice_get, none-some, slice_get-get_or}
use Rattle.std.specs.List.{range_with_len}
use Rattle.std.specs.Option.{option_map_or}
use Rattle.std.specs.Prelude.{Err, Ok, find, if◌then◌else◌, is_some, ◌&&◌, ◌==◌}

-- a standing that is live, of a die with an image
pub record IsSeenLive (mask : ℕ) (seen : List Seen) (die : ℕ) : Type 0 where
  pub x : Seen
  pub among : Among x seen
  pub die_is : x.header.die.0 ≡ die
  pub inside : is_in mask die ≡ true
  pub plain : x.header.spare ≡ false

live_in : (mask index : ℕ) (x : Seen) → standing_in mask (Some x) ≡ Live index → (is_in mask x.header.die.0 ≡ true) × (x.header.spare ≡ false)
live_in mask index x e = at x.header.spare refl (is_in mask x.header.die.0) refl
  where
    by_marks : Bool → Bool → Standing
    by_marks spare inside = if spare then Spare x.index else if inside then Live x.index else Out x.index

    at : (a : Bool) → x.header.spare ≡ a → (b : Bool) → is_in mask x.header.die.0 ≡ b
        → (is_in mask x.header.die.0 ≡ true) × (x.header.spare ≡ false)
    at false p true q = (q, p)
    at true p b q = let other : Spare x.index ≡ Live index = sym (ap (λ a. by_marks a (is_in mask x.header.die.0)) p) ∙ e in cc
    at false p false q = let other : Out x.index ≡ Live index = sym (λ i. by_marks (p i) (q i)) ∙ e in cc

pub seen_live : (mask : ℕ) (seen : List Seen) (die index : ℕ) → standing_of mask seen die ≡ Live index → IsSeenLive mask seen die
seen_live mask seen die index e = at (find (λ (x : Seen). x.header.die.0 == die) seen) refl
  where
    at : (o : Option Seen) → find (λ (x : Seen). x.header.die.0 == die) seen ≡ o → IsSeenLive mask seen die
    at None f = let other : Missing ≡ Live index = sym (ap (standing_in mask) f) ∙ e in cc
    at (Some x) f =
        let found = found_passes (λ (x : Seen). x.header.die.0 == die) seen x f in
        let same = eqb-true x.header.die.0 die found.0 in
        let l = live_in mask index x (sym (ap (standing_in mask) f) ∙ e) in
        record { x = x; among = found.1; die_is = same; inside = sym (ap (is_in mask) same) ∙ l.0; plain = l.1 }

-- one that is in the mask, of a die with an image, is live or a spare
pub data StandsInMask (standing : Standing) : Type 0 where
  AsLive : (index : ℕ) → standing ≡ Live index → StandsInMask standing
  AsSpare : (index : ℕ) → standing ≡ Spare index → StandsInMask standing

pub stands_in_mask : (mask : ℕ) (seen : List Seen) (die : ℕ) (x : Seen) → Among x seen → x.header.die.0 ≡ die → is_in mask die ≡ true
    → StandsInMask (standing_of mask seen die)
stands_in_mask mask seen die x among same inside = at (find (λ (x : Seen). x.header.die.0 == die) seen) refl
  where
    at : (o : Option Seen) → find (λ (x : Seen). x.header.die.0 == die) seen ≡ o → StandsInMask (standing_of mask seen die)
    at None f = absurd (true≢false (sym (eq-eqb x.header.die.0 die same) ∙ none_passes (λ (x : Seen). x.header.die.0 == die) seen f x among))
    at (Some y) f =
        let found = found_passes (λ (x : Seen). x.header.die.0 == die) seen y f in
        let here : is_in mask y.header.die.0 ≡ true = ap (is_in mask) (eqb-true y.header.die.0 die found.0) ∙ inside in
        elim (cases_Bool y.header.spare) [
          | inl spare ↦ AsSpare y.index (ap (standing_in mask) f
              ∙ ap (λ b. if b then Spare y.index else if is_in mask y.header.die.0 then Live y.index else Out y.index) spare)
          | inr plain ↦ AsLive y.index (ap (standing_in mask) f
              ∙ (λ i. if plain i then Spare y.index else if here i then Live y.index else Out y.index))
        ]

-- and as live where no image of it has the mark
pub plain_stands : (mask : ℕ) (seen : List Seen) (x : Seen) → Among x seen → is_in mask x.header.die.0 ≡ true
    → ((y : Seen) → Among y seen → y.header.die.0 ≡ x.header.die.0 → y.header.spare ≡ false)
    → (index : ℕ) × (standing_of mask seen x.header.die.0 ≡ Live index)
plain_stands mask seen x among inside plain = at (find (λ (y : Seen). y.header.die.0 == x.header.die.0) seen) refl
  where
    at : (o : Option Seen) → find (λ (y : Seen). y.header.die.0 == x.header.die.0) seen ≡ o
        → (index : ℕ) × (standing_of mask seen x.header.die.0 ≡ Live index)
    at None f =
        let out = none_passes (λ (y : Seen). y.header.die.0 == x.header.die.0) seen f x among in
        absurd (true≢false (sym (eq-eqb x.header.die.0 x.header.die.0 refl) ∙ out))
    at (Some y) f =
        let found = found_passes (λ (y : Seen). y.header.die.0 == x.header.die.0) seen y f in
        let same = eqb-true y.header.die.0 x.header.die.0 found.0 in
        let no_mark = plain y found.1 same in
        let here : is_in mask y.header.die.0 ≡ true = ap (is_in mask) same ∙ inside in (
          y.index,
          ap (standing_in mask) f ∙ (λ i. if no_mark i then Spare y.index else if here i then Live y.index else Out y.index),
        )

-- a die of which slots are mounted was live, and was read
record IsLiveAt (standing : Standing) (outcome : Outcome) : Type 0 where
  index : ℕ
  slots : List SlotContent
  was : standing ≡ Live index
  came : outcome ≡ Some (Ok slots)

live_at : (slots : List SlotContent) (standing : Standing) (outcome : Outcome) → mounted_of standing outcome ≡ Some slots
    → IsLiveAt standing outcome
live_at slots Missing outcome is = absurd (none-some slots is)
live_at slots (Spare index) outcome is = absurd (none-some slots is)
live_at slots (Out index) outcome is = absurd (none-some slots is)
live_at slots (Live index) None is = absurd (none-some slots is)
live_at slots (Live index) (Some (Err fault)) is = absurd (none-some slots is)
live_at slots (Live index) (Some (Ok found)) is = record { index = index; slots = found; was = refl; came = refl }

module _ {I : Type 0} (A : Type 0) (view : I → ImageState) (made : I → ImageCall → ImageAnswer → I → Type 0) (copies : ℕ) (before after : List I)
    (array : List ℕ) (epoch : ℕ) (clean : Bool) (dies : List Standing) (m : MapState)
    (mounts : Mounts A view made copies true before after array epoch clean dies m) (many : length dies ≡ m.geometry.dies) where
  abbrev seen : List Seen
  seen = seen_from 0 mounts.headers.founds

  abbrev mask : ℕ
  mask = mask_in (greatest_epoch seen) seen

  abbrev standings : List Standing
  standings = mounts.judged.dies.items

  mask_is : mounts.judged.mask ≡ mask
  mask_is = mounts.headers.judges.mask ∙ ap (λ e. mask_in e seen) mounts.headers.judges.epoch

  shape : m.geometry ≡ mounts.judged.geometry
  shape = mounts.scan.mounts.shape

  -- the standing of each die, by its header
  stand_is : (die : ℕ) → die < m.geometry.dies → slice_get standings die ≡ Some (standing_of mask seen die)
  stand_is die low =
      let inside : die < mounts.judged.geometry.dies = subst (λ (g : Geometry). die < g.dies) shape low in
      let standing : ℕ → Standing = standing_of mounts.judged.mask seen in
      let long = length-map-range_with_len standing 0 mounts.judged.geometry.dies in
      ap (λ (l : List Standing). slice_get l die) mounts.headers.judges.dies
      ∙ slice_get-get_or (map standing (range_with_len 0 mounts.judged.geometry.dies)) die (standing die) (omega (arith, inside, long))
      ∙ ap Some (get_or-map-range_with_len standing 0 mounts.judged.geometry.dies die die (standing die) inside (omega arith))
      ∙ ap Some (ap (λ n. standing_of n seen die) mask_is)

  -- what came of it
  outcome_is : (die : ℕ) → die < m.geometry.dies → slice_get mounts.outcomes die ≡ Some (outcome_at mounts.outcomes die)
  outcome_is die low =
      let long = mounts.scan.settles.dies_length in
      slice_get-get_or mounts.outcomes die None (omega (arith, low, long, many))

  pub live_seen : (die : ℕ) → is_live m die ≡ true → IsSeenLive mask seen die
  live_seen die alive = at (slots_on mounts.scan.contents die) refl
    where
      at : (o : Option (List SlotContent)) → slots_on mounts.scan.contents die ≡ o → IsSeenLive mask seen die
      at None e = absurd (false≢true (sym (mounts.scan.mounts.live die ∙ ap is_some e) ∙ alive))
      at (Some slots) e =
          let below_all = read_die_below mounts.scan.contents die slots e in
          let contents_long = mounts.scan.settles.contents_length in
          let dies_long = mounts.scan.settles.dies_length in
          let low : die < m.geometry.dies = omega (arith, below_all, contents_long, dies_long, many) in
          let each = mounts.scan.settles.each die (standing_of mask seen die) (outcome_at mounts.outcomes die) (stand_is die low) (outcome_is die low) in
          let l = live_at slots (standing_of mask seen die) (outcome_at mounts.outcomes die)
          (sym (get_or_from_slice_get mounts.scan.contents die (mounted_of (standing_of mask seen die) (outcome_at mounts.outcomes die)) None each.1) ∙ e) in
          seen_live mask seen die l.index l.was

  -- where no die of the mask was refused a read or is a used spare
  module _ (read : (die : ℕ) → die < m.geometry.dies → is_unread_die mask standings mounts.outcomes die ≡ false)
      (unused : (die : ℕ) → die < m.geometry.dies → is_used_spare mask standings mounts.outcomes die ≡ false) where
    pub read_live : (die index : ℕ) → die < m.geometry.dies → is_in mask die ≡ true → standing_of mask seen die ≡ Live index → is_live m die ≡ true
    read_live die index low inside stands = at (outcome_at mounts.outcomes die) refl
      where
        at : (o : Outcome) → outcome_at mounts.outcomes die ≡ o → is_live m die ≡ true
        at None e = absurd (subst (λ (s : Standing). HasOutcome made mounts.judged.geometry mounts.between after die (image_read s) None) stands
            (mounts.read die (standing_of mask seen die) None (stand_is die low) (outcome_is die low ∙ ap Some e)))
        at (Some (Err fault)) e = absurd (true≢false (sym (λ i. inside i && is_refused (e i)) ∙ read die low))
        at (Some (Ok slots)) e =
            mounted_live A view made copies true before after array epoch clean dies m mounts die index slots low stands (outcome_is die low ∙ ap Some e)

    pub spare_settled : (die index : ℕ) → die < m.geometry.dies → is_in mask die ≡ true → standing_of mask seen die ≡ Spare index
        → is_spare_of dies die ≡ true
    spare_settled die index low inside stands =
        let each = mounts.scan.settles.each die (standing_of mask seen die) (outcome_at mounts.outcomes die) (stand_is die low) (outcome_is die low) in
        ap (λ (o : Option Standing). option_map_or stands_as_spare o false) each.0
        ∙ ap (λ s. stands_as_spare (settled s (outcome_at mounts.outcomes die))) stands
        ∙ by_outcome (outcome_at mounts.outcomes die) was_unused
      where
        stands_here : standing_at standings die ≡ Spare index
        stands_here = get_or_from_slice_get standings die (standing_of mask seen die) Missing (stand_is die low) ∙ stands

        was_unused : is_unused (Spare index) (outcome_at mounts.outcomes die) ≡ true
        was_unused = elim (cases_Bool (is_unused (Spare index) (outcome_at mounts.outcomes die))) [
          | inl is ↦ is
          | inr used_up ↦
              let used : is_used_spare mask standings mounts.outcomes die ≡ true =
              (λ i. inside i && stands_as_spare (stands_here i) && not (is_unused (stands_here i) (outcome_at mounts.outcomes die))) ∙ ap not used_up in
              absurd (true≢false (sym used ∙ unused die low))
        ]

        by_outcome : (o : Outcome) → is_unused (Spare index) o ≡ true → stands_as_spare (settled (Spare index) o) ≡ true
        by_outcome None e = absurd (false≢true e)
        by_outcome (Some (Err fault)) e = absurd (false≢true e)
        by_outcome (Some (Ok slots)) e = ap (λ b. stands_as_spare (if b then Spare index else Out index)) e
