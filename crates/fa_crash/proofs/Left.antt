-- What is recovered of images that are there: of each live die what stands there, and each die that the newest headers name.
use Rattle.fa_crash.specs.Flushed.{is_of_array}
use Rattle.fa_crash.specs.Headers.{IsNewest, NameOurs, names}
use Rattle.fa_crash.proofs.Masked.{mask_seen}
use Rattle.fa_crash.proofs.Refused.{HasFirst, all_read, all_unused, has_first, mask_there}
use Rattle.fa_crash.proofs.Stands.{AsLive, AsSpare, StandsInMask, live_seen, read_live, spare_settled, stands_in_mask}
use Rattle.fa_crash.specs.Behind.{AreThere}
use Rattle.fa_crash.specs.Left.{AreLeft}
use Rattle.fa_image.specs.Image.{ImageAnswer, ImageCall, ImageState}
use Rattle.fa_machine.specs.Among.{Among}
use Rattle.fa_machine.specs.Beginning.{IsBeginning}
use Rattle.fa_machine.specs.Cells.{Cell}
use Rattle.fa_machine.specs.State.{Core, MapState, is_live}
use Rattle.fa_machine.specs.World.{HeaderTells, World}
use Rattle.fa_mount.specs.RecoversArray.{RecoversArray}
use Rattle.fa_mount_headers.specs.Judged.{standing_of}
use Rattle.fa_mount_headers.specs.Rules.{greatest_epoch, is_in, mask_in, seen_from}
use Rattle.fa_mount_headers.specs.declared.judging.Standing.{Standing}
use Rattle.fa_mount_headers.specs.declared.judging.Standing.TheVariants.{Live}
use Rattle.fa_mount_headers.specs.declared.seen.Seen.{Seen}
use Rattle.fa_mount_scan.specs.ContentCells.{IsCellOf}
use Rattle.fa_mount_scan.specs.MountedWorld.{SlotBytes, is_spare_of}
use Rattle.fa_mount_scan.specs.Mounting.{Mounts}
use Rattle.fa_mount_scan.specs.Recovering.{is_unread_die, is_used_spare, slots_refusal}
use Rattle.fa_types.specs.declared.geometry.Geometry.{Geometry}
use Rattle.std.proofs.Common.{Bool, List, None, ap, arith, false, inl, inr, length, refl, subst, sym, true, ℕ, ◌*◌, ◌<◌, ◌∙◌, ◌≡◌, ◌⊎◌}
use Rattle.std.proofs.lemmas.Bool.{or_cases}
use Rattle.std.proofs.lemmas.List.FromFn.{length-map-range_with_len}
use Rattle.std.specs.FinMap.{contains_key}
use Rattle.std.specs.Prelude.{◌||◌}

module _ {I : Type 0} (A : Type 0) (view : I → ImageState) (made : I → ImageCall → ImageAnswer → I → Type 0) (copies : ℕ) (before after : List I)
    (array : List ℕ) (dies : List Standing) (core : Core) (recovers : RecoversArray A view made copies before after array dies core)
    (many : length dies ≡ core.page_map.geometry.dies) (first w : World) (t : ℕ → HeaderTells) (cells : ℕ → ℕ → Cell) (bytes : SlotBytes)
    (b : IsBeginning first) (l : AreThere first t cells (seen_from 0 recovers.mounts.mounts.headers.founds) bytes)
    (newest_ours : NameOurs first t) where
  abbrev seen : List Seen
  seen = seen_from 0 recovers.mounts.mounts.headers.founds

  abbrev m : MapState
  m = recovers.mounts.m

  abbrev mounts : Mounts A view made copies true before after array recovers.mounts.epoch recovers.mounts.clean dies m
  mounts = recovers.mounts.mounts

  abbrev mask : ℕ
  mask = mask_in (greatest_epoch seen) seen

  pub map_is : core.page_map ≡ m
  map_is = ap (λ (c : Core). c.page_map) recovers.mounts.begins.is

  all : length dies ≡ m.geometry.dies
  all = many ∙ ap (λ (x : MapState). x.geometry.dies) map_is

  pub head : HasFirst seen mounts.judged.geometry
  head = has_first seen mounts.judged.geometry mounts.headers.judges.geometry

  pub shape : m.geometry ≡ first.core.page_map.geometry
  shape = mounts.scan.mounts.shape ∙ sym head.geometry_is ∙ l.shape head.x head.among

  -- the newest header, whose mask is that of the images
  abbrev NewestSeen : Type 0
  NewestSeen = (y : Seen) × Among y seen × (y.header.epoch ≡ greatest_epoch seen) × (mask ≡ y.header.mask)

  abbrev pub newest : NewestSeen
  newest = mask_seen seen head.x head.among

  abbrev pub top : ℕ
  top = newest.0.header.die.0

  pub top_epoch : (t top).epoch ≡ greatest_epoch seen
  top_epoch = sym (l.epochs newest.0 newest.1) ∙ newest.2

  pub top_mask : mask ≡ (t top).live
  top_mask = newest.3 ∙ l.masks newest.0 newest.1

  pub is_newest : IsNewest t top
  is_newest other = let low = l.newest other in let e = top_epoch in omega (arith, low, e)

  pub inside_named : (die : ℕ) → is_in mask die ≡ true → names (t top).live die ≡ true
  inside_named die inside = ap (λ live. names live die) (sym top_mask) ∙ inside

  pub ours : (die : ℕ) → is_in mask die ≡ true → is_of_array first die ≡ true
  ours die inside = newest_ours top die is_newest (inside_named die inside)

  die_low : (die : ℕ) → is_of_array first die ≡ true → die < m.geometry.dies
  die_low die there = subst (λ (g : Geometry). die < g.dies) (sym shape) (elim (or_cases (is_live first.core.page_map die) (contains_key first.core.spares die) there) [
    | inl alive ↦ b.live die alive
    | inr spare ↦ (b.spares die spare).0
  ])

  -- a live die
  pub record LiveDie (die : ℕ) : Type 0 where
    pub x : Seen
    pub among : Among x seen
    pub die_is : x.header.die.0 ≡ die
    pub inside : is_in mask die ≡ true
    pub plain : x.header.spare ≡ false
    pub there : is_of_array first die ≡ true

  pub live_die : (die : ℕ) → is_live m die ≡ true → LiveDie die
  live_die die alive =
      let s = live_seen A view made copies before after array recovers.mounts.epoch recovers.mounts.clean dies m mounts all die alive in
      record { x = s.x; among = s.among; die_is = s.die_is; inside = s.inside; plain = s.plain; there = ours die s.inside }

  pub are_left : w.core.page_map.geometry ≡ first.core.page_map.geometry → AreLeft first w cells bytes m
  are_left kept = record {
    shape = shape ∙ sym kept;
    ours = λ die alive. (live_die die alive).there;
    left = λ die slot alive inside.
        let d = live_die die alive in
        subst (λ (n : ℕ). IsCellOf (bytes n slot) (cells n slot)) d.die_is
        (l.slots d.x slot d.among (ap (is_in mask) d.die_is ∙ d.inside)
        (subst (λ (g : Geometry). slot < g.blocks * g.slots) shape inside));
  }

  -- a die of the mask is live or a spare
  standings_long : length mounts.judged.dies.items ≡ m.geometry.dies
  standings_long = ap length mounts.headers.judges.dies ∙ length-map-range_with_len (standing_of mounts.judged.mask seen) 0 mounts.judged.geometry.dies
      ∙ sym (ap (λ (g : Geometry). g.dies) mounts.scan.mounts.shape)

  mask_same : mounts.judged.mask ≡ mask
  mask_same = mounts.headers.judges.mask ∙ ap (λ e. mask_in e seen) mounts.headers.judges.epoch

  fine : slots_refusal copies mask mounts.judged.dies.items mounts.outcomes ≡ None
  fine = ap (λ n. slots_refusal copies n mounts.judged.dies.items mounts.outcomes) (sym mask_same) ∙ recovers.slots

  read : (die : ℕ) → die < m.geometry.dies → is_unread_die mask mounts.judged.dies.items mounts.outcomes die ≡ false
  read die low = let long = standings_long in all_read copies mask mounts.judged.dies.items mounts.outcomes fine die (omega (arith, low, long))

  unused : (die : ℕ) → die < m.geometry.dies → is_used_spare mask mounts.judged.dies.items mounts.outcomes die ≡ false
  unused die low = let long = standings_long in all_unused copies mask mounts.judged.dies.items mounts.outcomes fine die (omega (arith, low, long))

  pub live_again : (die index : ℕ) → is_in mask die ≡ true → standing_of mask seen die ≡ Live index → is_live m die ≡ true
  live_again die index inside stands =
      read_live A view made copies before after array recovers.mounts.epoch recovers.mounts.clean dies m mounts all read unused die index
      (die_low die (ours die inside)) inside stands

  pub mask_live : (die : ℕ) → is_in mask die ≡ true → (is_live m die ≡ true) ⊎ (is_spare_of dies die ≡ true)
  mask_live die inside =
      let low = die_low die (ours die inside) in
      let low_judged : die < mounts.judged.geometry.dies = subst (λ (g : Geometry). die < g.dies) mounts.scan.mounts.shape low in
      let there = mask_there copies seen mounts.judged.geometry head recovers.headers die low_judged inside in
      by_standing (stands_in_mask mask seen die there.0 there.1 there.2 inside)
    where
      by_standing : StandsInMask (standing_of mask seen die) → (is_live m die ≡ true) ⊎ (is_spare_of dies die ≡ true)
      by_standing (AsLive index stands) = inl (live_again die index inside stands)
      by_standing (AsSpare index stands) =
          inr (spare_settled A view made copies before after array recovers.mounts.epoch recovers.mounts.clean dies m mounts all read unused die index
          (die_low die (ours die inside)) inside stands)

  -- the spares of the array that was recovered
  pub spare_there : (die : ℕ) → is_spare_of dies die ≡ true → contains_key core.spares die ≡ true
  spare_there die spare =
      ap (λ (c : Core). contains_key c.spares die) recovers.mounts.begins.is ∙ recovers.mounts.begins.are_spares die ∙ spare

  pub epoch_low : (die : ℕ) → (t die).epoch < core.epoch
  epoch_low die =
      let low = l.newest die in
      let is = mounts.identity.1 in
      let judged = mounts.headers.judges.epoch in
      let up = ap (λ (c : Core). c.epoch) recovers.mounts.begins.is in
      omega (arith, low, is, judged, up)

  pub live_now : (next : World) → next.core ≡ core → (die : ℕ) → is_live next.core.page_map die ≡ true → is_live m die ≡ true
  live_now next same die alive = sym (ap (λ (c : Core). is_live c.page_map die) same ∙ ap (λ (x : MapState). is_live x die) map_is) ∙ alive

  pub there_again : (next : World) → next.core ≡ core → (die : ℕ) → is_in mask die ≡ true → is_of_array next die ≡ true
  there_again next same die inside =
      ap (λ (c : Core). is_live c.page_map die || contains_key c.spares die) same
      ∙ elim (mask_live die inside) [
        | inl alive ↦ ap (λ a. a || contains_key core.spares die) (ap (λ (x : MapState). is_live x die) map_is ∙ alive)
        | inr spare ↦ right (is_live core.page_map die) (contains_key core.spares die) (spare_there die spare)
      ]
    where
      right : (x y : Bool) → y ≡ true → (x || y) ≡ true
      right true y e = refl
      right false y e = e
