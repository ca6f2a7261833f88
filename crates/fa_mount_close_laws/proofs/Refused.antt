-- Why what closing left may not be mounted: an image refuses a read, memory is refused, or the epoch is too great.
use Rattle.fa_mount_close_laws.proofs.Accepted.{first_of_none, good, seen_accepted}
use Rattle.fa_mount_close_laws.proofs.Again.{good_in, map_some}
use Rattle.fa_mount_close_laws.proofs.Headers.{IsMarked, all_at, all_from, are_of_mask, clean_header, epoch_seen, found_at, found_die, geometry_judged, in_mask_lives}
use Rattle.fa_mount_close_laws.proofs.Headers.{in_seen, map_none, mask_seen, none_at, none_bad, nowhere}
use Rattle.fa_mount_close_laws.proofs.Kept.{Kept}
use Rattle.fa_mount_close_laws.proofs.Marked.{IsLeft, header_fits, hold_all, left_image, was_clean}
use Rattle.fa_mount_close_laws.specs.Closed.{AreOfMask, IsImageAt, WasClosed}
use Rattle.fa_mount_close_laws.specs.LastCells.{HoldAll}
use Rattle.fa_mount_headers.proofs.Reading.{are_of}
use Rattle.fa_mount_headers.specs.Found.{AreOf, ReadsHeaders}
use Rattle.fa_mount_headers.specs.Rules.{bad, can_hold, first_of, header_refusal, is_bad_header, is_in, is_unread_header, refused_at}
use Rattle.fa_mount_headers.specs.Rules.{seen_from, seen_refusal}
use Rattle.fa_mount_headers.specs.declared.fault.MountFault.TheVariants.{HeaderBad, ImageFault, NoMemory}
use Rattle.fa_mount_headers.specs.declared.fault.MountRefused.{MountRefused}
use Rattle.fa_mount_headers.specs.declared.found.Found.{Found}
use Rattle.fa_mount_headers.specs.declared.judging.Judged.{Judged}
use Rattle.fa_mount_headers.specs.declared.judging.Standing.{Standing}
use Rattle.fa_mount_headers.specs.declared.judging.Standing.TheVariants.{Live}
use Rattle.fa_image.specs.Image.{ImageAnswer, ImageCall, ImageMeets, ImageState}
use Rattle.fa_machine.proofs.Lists.{among-range, any_some, found_passes, none_passes}
use Rattle.fa_machine.specs.Among.{Among}
use Rattle.fa_machine.specs.Maps.{below}
use Rattle.fa_machine.specs.World.{World}
use Rattle.fa_mount.proofs.Bits.{fits_below}
use Rattle.fa_mount.specs.MountsArray.{IsTooLate, RefusesArray}
use Rattle.fa_mount_scan.specs.ContentReading.{AreOutcomes}
use Rattle.fa_mount_scan.specs.Mounting.{RefusesMount, SayArray}
use Rattle.fa_mount_scan.specs.Scanned.{IsNoneLive, IsScanRefused, Outcome, fault_at, is_refused}
use Rattle.fa_tag.specs.HeaderGrammar.{IsHeader}
use Rattle.fa_types.specs.declared.geometry.Geometry.{Geometry}
use Rattle.std.proofs.Common.{Bool, Err, IsTrue, List, None, Ok, Option, Some, [], ap, arith, false, get_or, inl, inr, length, map, refl, slice_get, subst, suc}
use Rattle.std.proofs.Common.{sym, true, zero, ℕ, ◌<◌, ◌∙◌, ◌∷◌, ◌≡◌, ◌≤◌, ◌⊎◌}
use Rattle.std.proofs.lemmas.Bool.{false≢true, true≢false}
use Rattle.std.proofs.lemmas.List.{length-map}
use Rattle.std.proofs.lemmas.Option.{none-some, same_Some, slice_get-get_or, slice_get-map, slice_get_cases, slice_get_within}
use Rattle.std.specs.List.{AllByRecursion}
use Rattle.std.specs.Prelude.{find, is_some, option_map, position}

among_at : {X : Type 0} (xs : List X) (i : ℕ) (x : X) → slice_get xs i ≡ Some x → Among x xs
among_at [] i x at = absurd (none-some x at)
among_at (y ∷ xs) zero x at = inl (same_Some y x at)
among_at (y ∷ xs) (suc i) x at = inr (among_at xs i x at)

module _ {I : Type 0} (view : I → ImageState) (honest : I → Bool) (made : I → ImageCall → ImageAnswer → I → Type 0)
    (meets : (before after : I) (call : ImageCall) (answer : ImageAnswer) → made before call answer after
    → ImageMeets (view before) (honest before) call answer (view after) (honest after))
    (w : World) (kept : Kept w) (array : List ℕ) (dies : List Standing) (before after : List I) (mask : ℕ)
    (was : WasClosed view made w array dies before after mask) (these : List I) (of : AreOfMask dies mask after these)
    (copies : ℕ) (holds : can_hold copies w.core.page_map.geometry ≡ true) (later : List I)
    (fair : (read : List I) (founds : List Found) → ReadsHeaders view made these read founds → AllByRecursion (λ image. IsTrue (honest image)) read) where
  abbrev g : Geometry
  g = w.core.page_map.geometry

  abbrev epoch : ℕ
  epoch = (was_clean view honest made meets w array dies before after mask was).1.epoch

  abbrev Left : ℕ → I → Type 0
  Left = IsLeft view honest made meets w array dies before after mask was

  abbrev good_of : ℕ → Found
  good_of = good g array epoch mask

  fits : (die : ℕ) → is_in mask die ≡ true → IsHeader (clean_header g array epoch mask die)
  fits = header_fits view honest made meets w array dies before after mask was kept

  all : HoldAll w (is_in mask)
  all = hold_all view honest made meets w array dies before after mask was kept

  left_at : (die : ℕ) (y : I) → is_in mask die ≡ true → IsImageAt dies after die y → Left die y
  left_at die y inside at = left_image view honest made meets w array dies before after mask was die at.0 y inside at.1 at.2

  marked : AllByRecursion (IsMarked g array epoch mask) (map view these)
  marked = all_from (IsMarked g array epoch mask) (map view these) (λ i s at.
      let y = map_some view these i s at in
      let e = of.each i y.0 y.1 in
      let left = left_at e.0 y.0 e.1 e.2 in
      subst (IsMarked g array epoch mask) y.2 (record { die = e.0; inside = e.1; shape = left.shape; bytes = left.header }))

  -- some die is left
  some_die : (die : ℕ) × (is_in mask die ≡ true)
  some_die = by_found (find (is_in mask) (below g.dies)) refl
    where
      by_found : (o : Option ℕ) → find (is_in mask) (below g.dies) ≡ o → (die : ℕ) × (is_in mask die ≡ true)
      by_found (Some die) e = (die, (found_passes (is_in mask) (below g.dies) die e).0)
      by_found None e =
          let none = fits_below 0 mask (λ die inside.
          let low = kept.sound.dies.live_inside die (all.live die inside) in
          absurd (false≢true (sym (none_passes (is_in mask) (below g.dies) e die (among-range 0 g.dies die (omega arith) (omega (arith, low)))) ∙ inside))) in
          let more = (was_clean view honest made meets w array dies before after mask was).1.some in
          absurd (omega (arith, none, more))

  module _ (read : List I) (founds : List Found) (reads : ReadsHeaders view made these read founds) (many : length founds ≡ length these) where
    are : AreOf (map view these) founds
    are = are_of view honest made meets these read founds reads (fair read founds reads)

    found_many : length founds ≡ length (map view these)
    found_many = let n = length-map these view in omega (arith, n, many)

    some : 0 < length founds
    some =
        let at = of.all some_die.0 some_die.1 in
        let n = slice_get_within these at.0 at.1 at.2 in
        omega (arith, n, many)

    none_is_bad : AllByRecursion (λ found. is_bad_header found.header ≡ false) founds
    none_is_bad = none_bad g array epoch mask fits (map view these) founds marked are found_many

    module _ (were : AllByRecursion (λ found. is_unread_header found.header ≡ false) founds) where
      all_good : AllByRecursion (λ found. (die : ℕ) × (is_in mask die ≡ true) × (found ≡ good_of die)) founds
      all_good = are_of_mask g array epoch mask fits (map view these) founds marked are found_many were none_is_bad

      good_at : (i die : ℕ) (y : I) → slice_get these i ≡ Some y → is_in mask die ≡ true → Left die y → slice_get founds i ≡ Some (good_of die)
      good_at i die y at inside left =
          found_at g array epoch mask fits (map view these) founds are found_many were none_is_bad i die (view y)
          (slice_get-map view these i ∙ ap (option_map view) at) inside left.shape left.header

      -- whose image stands at a place, by what was found there
      its_image : (i die : ℕ) → slice_get founds i ≡ Some (good_of die) → (y : I) × (slice_get these i ≡ Some y) × IsImageAt dies after die y
      its_image i die found = by_place (slice_get_cases these i).1
        where
          by_place : ((x : I) × (i < length these) × (slice_get these i ≡ Some x) × (get_or these i x ≡ x)) ⊎ ((length these ≤ i) × (slice_get these i ≡ None))
              → (y : I) × (slice_get these i ≡ Some y) × IsImageAt dies after die y
          by_place (inr past) = absurd (let n = slice_get_within founds i (good_of die) found in let p = past.0 in omega (arith, n, p, many))
          by_place (inl at) =
              let e = of.each i at.0 at.2 in
              let other = good_at i e.0 at.0 at.2 e.1 (left_at e.0 at.0 e.1 e.2) in
              let same : e.0 ≡ die = ap (λ (f : Found). (good_in (clean_header g array epoch mask die) f.header).die.0) (same_Some _ _ (sym other ∙ found)) in
              (at.0, at.2, subst (λ d. IsImageAt dies after d at.0) same e.2)

      once : (i j die : ℕ) → slice_get founds i ≡ Some (good_of die) → slice_get founds j ≡ Some (good_of die) → i ≡ j
      once i j die a b =
          let x = its_image i die a in
          let y = its_image j die b in
          let index : x.2.0 ≡ y.2.0 = same_Some x.2.0 y.2.0 (sym x.2.1 ∙ y.2.1) in
          let same : x.0 ≡ y.0 = same_Some x.0 y.0 (sym x.2.2 ∙ ap (slice_get after) index ∙ y.2.2) in
          of.once i j x.0 x.1 (y.1 ∙ ap Some (sym same))

      each : (die : ℕ) → is_in mask die ≡ true
          → (i : ℕ) × Among (record { index = i; geometry = g; header = clean_header g array epoch mask die }) (seen_from 0 founds)
      each die inside =
          let at = of.all die inside in
          (_, in_seen g array epoch mask fits 0 founds all_good at.0 die (good_at at.0 die at.1 at.2 inside (left_at die at.1 inside at.3)))

      accepted : header_refusal copies false founds ≡ None
      accepted =
          first_of_none _ _
          (first_of_none _ _ (ap (option_map (refused_at ImageFault)) (nowhere (λ found. is_unread_header found.header) founds were))
          (first_of_none _ [] (ap (option_map (refused_at HeaderBad)) (nowhere (λ found. is_bad_header found.header) founds none_is_bad)) refl))
          (first_of_none _ [] (seen_accepted g array epoch mask founds all_good copies holds once each some_die
          (epoch_seen g array epoch mask fits founds all_good some) (mask_seen g array epoch mask fits founds all_good some)) refl)

    -- by its headers such an array is refused only where one was not read
    pub by_headers : (refusal : MountRefused) → header_refusal copies false founds ≡ Some refusal → refusal.fault ≡ ImageFault
    by_headers refusal is = by_unread (position (λ found. is_unread_header found.header) founds) refl
      where
        by_unread : (o : Option ℕ) → position (λ found. is_unread_header found.header) founds ≡ o → refusal.fault ≡ ImageFault
        by_unread None e = absurd (none-some refusal (sym (accepted (none_at (λ found. is_unread_header found.header) founds e)) ∙ is))
        by_unread (Some i) e =
            let here : Some (refused_at ImageFault i) ≡ Some refusal =
            sym (ap (λ u. first_of (first_of (option_map (refused_at ImageFault) u ∷ bad founds ∷ []) ∷ seen_refusal copies false (seen_from 0 founds) ∷ [])) e) ∙ is in
            ap (λ (r : MountRefused). r.fault) (sym (same_Some (refused_at ImageFault i) refusal here))

  -- a die of the mask was read, so some die is live
  some_live : {A : Type 0} (between : List I) (judged : Judged A) (say : SayArray A view made copies false these between judged) (outcomes : List Outcome)
      → AreOutcomes made judged.geometry between later judged.dies.items outcomes → IsNoneLive judged.dies.items false outcomes → ⊥
  some_live between judged say outcomes read none =
      by_outcome (get_or outcomes die None) (slice_get-get_or outcomes die None (let n = slice_get_within judged.dies.items die _ live.1 in let e = none.all in omega (arith, n, e)))
    where
      die : ℕ
      die = some_die.0

      long : 0 < length (map view these)
      long =
          let n = found_many between say.founds say.read say.each in
          let e = some between say.founds say.read say.each in
          omega (arith, n, e)

      at : (i : ℕ) × (y : I) × (slice_get these i ≡ Some y) × IsImageAt dies after die y
      at = of.all die some_die.1

      left : Left die at.1
      left = left_at die at.1 some_die.1 at.3

      founds_at : slice_get say.founds at.0 ≡ Some (good_of die)
      founds_at = found_die g array epoch mask fits (map view these) say.founds copies judged marked (are between say.founds say.read say.each)
          (found_many between say.founds say.read say.each) say.fine say.judges long at.0 die (view at.1)
          (slice_get-map view these at.0 ∙ ap (option_map view) at.2) some_die.1 left.shape left.header

      low : die < judged.geometry.dies
      low =
          let n = kept.sound.dies.live_inside die (all.live die some_die.1) in
          let e = ap (λ (h : Geometry). h.dies) (geometry_judged g array epoch mask fits (map view these) say.founds copies judged marked
          (are between say.founds say.read say.each) (found_many between say.founds say.read say.each) say.fine say.judges long) in
          omega (arith, n, e)

      live : (j : ℕ) × (slice_get judged.dies.items die ≡ Some (Live j))
      live = in_mask_lives g array epoch mask fits (map view these) say.founds copies judged marked (are between say.founds say.read say.each)
          (found_many between say.founds say.read say.each) say.fine say.judges long at.0 die founds_at some_die.1 low

      by_outcome : (outcome : Outcome) → slice_get outcomes die ≡ Some outcome → ⊥
      by_outcome None o = read die (Live live.0) None live.1 o
      by_outcome (Some (Err fault)) o =
          true≢false (all_at (λ x. is_refused x ≡ false) outcomes die (Some (Err fault))
          (none_at is_refused outcomes (map_none (fault_at judged.dies.items) _ none.no_fault)) o)
      by_outcome (Some (Ok slots)) o =
          let each = none.settles.each die (Live live.0) (Some (Ok slots)) live.1 o in
          false≢true (sym none.none_live ∙ any_some is_some none.contents (Some slots) (among_at none.contents die (Some slots) each.1) refl)

  by_image : (standings : List Standing) (outcomes : List Outcome) (refusal : MountRefused) (o : Option ℕ) → option_map (fault_at standings) o ≡ Some refusal
      → refusal.fault ≡ ImageFault
  by_image standings outcomes refusal None is = absurd (none-some refusal is)
  by_image standings outcomes refusal (Some i) is = ap (λ (r : MountRefused). r.fault) (sym (same_Some (fault_at standings i) refusal is))

  by_scan : {A : Type 0} (between : List I) (judged : Judged A) (say : SayArray A view made copies false these between judged) (outcomes : List Outcome)
      → AreOutcomes made judged.geometry between later judged.dies.items outcomes → (refusal : MountRefused) → IsScanRefused judged.dies.items false outcomes refusal
      → refusal.fault ≡ ImageFault
  by_scan between judged say outcomes read refusal (inl is) = by_image judged.dies.items outcomes refusal _ is
  by_scan between judged say outcomes read refusal (inr none) = absurd (some_live between judged say outcomes read none.0)

  by_mount : (A : Type 0) (refusal : MountRefused) → RefusesMount A view made copies false these later refusal → (refusal.fault ≡ ImageFault) ⊎ (refusal.fault ≡ NoMemory)
  by_mount A refusal (inl is) = inr (ap (λ (r : MountRefused). r.fault) is)
  by_mount A refusal (inr (inl h)) = inl (by_headers later h.0 h.1 h.2 refusal h.3)
  by_mount A refusal (inr (inr r)) = inl (by_scan r.0 r.1 r.2 r.3 r.4 refusal r.5)

  pub refused_for_images : (A : Type 0) (refusal : MountRefused) → RefusesArray A view made copies false these later refusal
      → (refusal.fault ≡ ImageFault) ⊎ (refusal.fault ≡ NoMemory) ⊎ IsTooLate A view made copies false these later refusal
  refused_for_images A refusal (inr late) = inr (inr late)
  refused_for_images A refusal (inl mount) =
      elim (by_mount A refusal mount) [
        | inl image ↦ inl image
        | inr memory ↦ inr (inl memory)
      ]
