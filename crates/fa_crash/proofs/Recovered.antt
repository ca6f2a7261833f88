-- Recovering is not refused for what the headers say, where the dies of the mask are all there.
use Rattle.fa_crash.specs.Headers.{AreFirstHeaders, AreToldAlike, tells}
use Rattle.fa_crash.proofs.Masked.{mask_seen}
use Rattle.fa_crash.specs.HeadersLeft.{AreHeadersLeft}
use Rattle.fa_crash.specs.AllThere.{AreOfOneArray, HaveDiesOfMask}
use Rattle.fa_machine.proofs.Lists.{any_some}
use Rattle.fa_machine.specs.Among.{Among}
use Rattle.fa_machine.specs.State.{is_live}
use Rattle.fa_machine.specs.World.{HeaderTells, World}
use Rattle.fa_mount_headers.specs.Recovering.{is_missed_die, missed_die, whole_refusal}
use Rattle.fa_mount_headers.specs.Rules.{epoch_refusal, first_of, greatest_epoch, has_live_die, is_in, mask_in}
use Rattle.fa_mount_headers.specs.Rules.{of_another_mask, refused, refused_die, refused_for}
use Rattle.fa_mount_headers.specs.declared.fault.MountFault.TheVariants.{ArraysDiffer, NoDieLive, Unclean}
use Rattle.fa_mount_headers.specs.declared.seen.Seen.{Seen}
use Rattle.std.proofs.Common.{Bool, List, None, Option, Some, [], ap, arith, cond, eq-eqb, eqb-true, false, inl, inr, not, refl, sym, true, ℕ, ◌∙◌, ◌∷◌, ◌≡◌, ◌≤◌}
use Rattle.std.proofs.lemmas.Bool.{and_from}
use Rattle.std.specs.List.{list_any, range_with_len}
use Rattle.std.specs.Prelude.{find, if◌then◌else◌, option_map, unwrap_or, ◌&&◌, ◌==◌}

pub find_none : {X : Type 0} (p : X → Bool) (xs : List X) → ((x : X) → Among x xs → p x ≡ false) → find p xs ≡ None
find_none p [] none = refl
find_none p (x ∷ xs) none = ap (λ b. cond b (Some x) (find p xs)) (none x (inl refl)) ∙ find_none p xs (λ y i. none y (inr i))

module _ (first : World) (told : ℕ → HeaderTells) (t : AreFirstHeaders first told) (alike : AreToldAlike told) (heads : ℕ → Option HeaderTells)
    (written : (die other : ℕ) (h l : HeaderTells) → heads die ≡ Some h → heads other ≡ Some l → h.epoch ≡ l.epoch → h.live ≡ l.live)
    (later : (die : ℕ) (h : HeaderTells) → heads die ≡ Some h → first.core.epoch ≤ h.epoch)
    (seen : List Seen) (left : AreHeadersLeft first told heads seen) (x : Seen) (among : Among x seen) where
  abbrev mask : ℕ
  mask = mask_in (greatest_epoch seen) seen

  tells_alike : (die other : ℕ) → (tells told heads die).epoch ≡ (tells told heads other).epoch
      → (tells told heads die).live ≡ (tells told heads other).live
  tells_alike die other same = at (heads die) refl (heads other) refl
    where
      tells_as : (d : ℕ) (o : Option HeaderTells) → heads d ≡ o → tells told heads d ≡ unwrap_or o (told d)
      tells_as d o e = ap (λ (o : Option HeaderTells). unwrap_or o (told d)) e

      at : (a : Option HeaderTells) → heads die ≡ a → (b : Option HeaderTells) → heads other ≡ b
          → (tells told heads die).live ≡ (tells told heads other).live
      at (Some h) e (Some l) g =
          ap (λ (h : HeaderTells). h.live) (tells_as die (Some h) e)
          ∙ written die other h l e g (sym (ap (λ (h : HeaderTells). h.epoch) (tells_as die (Some h) e)) ∙ same ∙ ap (λ (h : HeaderTells). h.epoch) (tells_as other (Some l) g))
          ∙ sym (ap (λ (h : HeaderTells). h.live) (tells_as other (Some l) g))
      at None e None g =
          ap (λ (h : HeaderTells). h.live) (tells_as die None e)
          ∙ alike die other (sym (ap (λ (h : HeaderTells). h.epoch) (tells_as die None e)) ∙ same ∙ ap (λ (h : HeaderTells). h.epoch) (tells_as other None g))
          ∙ sym (ap (λ (h : HeaderTells). h.live) (tells_as other None g))
      at (Some h) e None g =
          let order : h.epoch ≡ (told other).epoch =
          sym (ap (λ (h : HeaderTells). h.epoch) (tells_as die (Some h) e)) ∙ same
          ∙ ap (λ (h : HeaderTells). h.epoch) (tells_as other None g) in
          let low = later die h e in
          let old = t.older other in absurd (omega (arith, order, low, old))
      at None e (Some l) g =
          let order : (told die).epoch ≡ l.epoch =
          sym (ap (λ (h : HeaderTells). h.epoch) (tells_as die None e)) ∙ same
          ∙ ap (λ (h : HeaderTells). h.epoch) (tells_as other (Some l) g) in
          let low = later other l g in
          let old = t.older die in absurd (omega (arith, order, low, old))

  -- each header of the greatest epoch has its mask
  mask_is : (z : Seen) → Among z seen → z.header.epoch ≡ greatest_epoch seen → z.header.mask ≡ mask
  mask_is z i e =
      let m = mask_seen seen x among in
      let mine = left z i in
      let its = left m.0 m.1 in
      mine.mask ∙ tells_alike z.header.die.0 m.0.header.die.0 (sym mine.epoch ∙ e ∙ sym m.2 ∙ its.epoch) ∙ sym its.mask ∙ sym m.3

  same_masks : of_another_mask (greatest_epoch seen) mask seen ≡ None
  same_masks = ap (option_map (refused_for ArraysDiffer)) (find_none _ seen (λ z i. at z i (z.header.epoch == greatest_epoch seen) refl))
    where
      at : (z : Seen) → Among z seen → (b : Bool) → (z.header.epoch == greatest_epoch seen) ≡ b
          → (z.header.epoch == greatest_epoch seen && not (z.header.mask == mask)) ≡ false
      at z i false e = ap (λ b. b && not (z.header.mask == mask)) e
      at z i true e =
          ap (λ b. b && not (z.header.mask == mask)) e
          ∙ ap not (eq-eqb z.header.mask mask (mask_is z i (eqb-true z.header.epoch (greatest_epoch seen) e)))

  module _ (inside : is_in mask x.header.die.0 ≡ true) (plain : x.header.spare ≡ false) (all : HaveDiesOfMask seen) where
    some_live : has_live_die mask seen ≡ true
    some_live = any_some (λ (x : Seen). not x.header.spare && is_in mask x.header.die.0) seen x among (and_from (not x.header.spare) (is_in mask x.header.die.0) (ap not plain) inside)

    fine_epoch : (dies : ℕ) → epoch_refusal dies true (greatest_epoch seen) mask seen ≡ None
    fine_epoch dies = λ i. first_of (same_masks i ∷ None ∷ (if some_live i then None else Some (refused NoDieLive)) ∷ [])

    none_missed : (dies : ℕ) → missed_die dies mask seen ≡ None
    none_missed dies = find_none (is_missed_die mask seen) (range_with_len 0 dies) (λ die i. at die (is_in mask die) refl)
      where
        at : (die : ℕ) (b : Bool) → is_in mask die ≡ b → is_missed_die mask seen die ≡ false
        at die false e = ap (λ b. b && not (list_any (λ (x : Seen). x.header.die.0 == die) seen)) e
        at die true e =
            let found = all die e in
            ap (λ b. b && not (list_any (λ (x : Seen). x.header.die.0 == die) seen)) e
            ∙ ap not (any_some (λ (x : Seen). x.header.die.0 == die) seen found.0 found.1 (eq-eqb found.0.header.die.0 die found.2))

-- of images of one array
pub not_refused : (copies : ℕ) (seen : List Seen) → AreOfOneArray copies seen
    → ((dies : ℕ) → epoch_refusal dies true (greatest_epoch seen) (mask_in (greatest_epoch seen) seen) seen ≡ None)
    → ((dies : ℕ) → missed_die dies (mask_in (greatest_epoch seen) seen) seen ≡ None) → whole_refusal copies seen ≡ None
not_refused copies [] one epoch dies = absurd one
not_refused copies (y ∷ others) one epoch dies =
    λ i. first_of (first_of (one.0 i ∷ one.1 i ∷ one.2 i ∷ one.3 i ∷ epoch y.header.geometry.dies i ∷ [])
    ∷ option_map (refused_die Unclean) (dies y.header.geometry.dies i) ∷ [])

pub recovers : (first : World) (told : ℕ → HeaderTells) (t : AreFirstHeaders first told) (alike : AreToldAlike told) (heads : ℕ → Option HeaderTells)
    (written : (die other : ℕ) (h l : HeaderTells) → heads die ≡ Some h → heads other ≡ Some l → h.epoch ≡ l.epoch → h.live ≡ l.live)
    (later : (die : ℕ) (h : HeaderTells) → heads die ≡ Some h → first.core.epoch ≤ h.epoch)
    (seen : List Seen) (left : AreHeadersLeft first told heads seen) (x : Seen) (among : Among x seen)
    → is_in (mask_in (greatest_epoch seen) seen) x.header.die.0 ≡ true → x.header.spare ≡ false → HaveDiesOfMask seen → (copies : ℕ)
    → AreOfOneArray copies seen
    → whole_refusal copies seen ≡ None
recovers first told t alike heads written later seen left x among inside plain all copies one =
    not_refused copies seen one (fine_epoch first told t alike heads written later seen left x among inside plain all)
    (none_missed first told t alike heads written later seen left x among inside plain all)

-- a die that was live as the array was mounted, or has written its header, has no mark of a spare
pub plain_holder : (first : World) (told : ℕ → HeaderTells) (heads : ℕ → Option HeaderTells) (seen : List Seen) (left : AreHeadersLeft first told heads seen)
    (x : Seen) (among : Among x seen) → (heads x.header.die.0 ≡ None → is_live first.core.page_map x.header.die.0 ≡ true)
    → x.header.spare ≡ false
plain_holder first told heads seen left x among ours = at (heads x.header.die.0) refl
  where
    at : (o : Option HeaderTells) → heads x.header.die.0 ≡ o → x.header.spare ≡ false
    at (Some h) e = ((left x among).written h e).0
    at None e = (left x among).used (ours e)
