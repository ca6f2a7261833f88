-- Recovering is not refused for what the slots hold, where the dies of the mask were read and few dies are out.
use Rattle.fa_crash.specs.HeadersLeft.{AreHeadersLeft}
use Rattle.fa_crash.proofs.Recovered.{find_none}
use Rattle.fa_crash.specs.Read.{AreSparesMarked, IsReadLeft}
use Rattle.fa_machine.proofs.Lists.{among_low, found_passes}
use Rattle.fa_machine.specs.Among.{Among}
use Rattle.fa_machine.specs.Beginning.{IsBeginning, StandsAt}
use Rattle.fa_machine.specs.Cells.{Cell, Empty}
use Rattle.fa_machine.specs.Maps.{below}
use Rattle.fa_machine.specs.State.{is_live, used_at}
use Rattle.fa_machine.specs.World.{HeaderTells, World}
use Rattle.fa_machine.specs.declared.places.Used.{Used}
use Rattle.fa_mount_headers.specs.Judged.{standing_in, standing_of, standings_of}
use Rattle.fa_mount_headers.specs.Rules.{first_of, greatest_epoch, is_in, mask_in}
use Rattle.fa_mount_headers.specs.declared.fault.MountRefused.{MountRefused}
use Rattle.fa_mount_headers.specs.declared.judging.Standing.{Standing}
use Rattle.fa_mount_headers.specs.declared.judging.Standing.TheVariants.{Live, Missing, Out, Spare}
use Rattle.fa_mount_headers.specs.declared.seen.Seen.{Seen}
use Rattle.fa_mount_scan.specs.ContentCells.{IsCellOf}
use Rattle.fa_mount_scan.specs.ContentReading.{IsContentOf}
use Rattle.fa_mount_scan.specs.Recovering.{is_gone, is_unread_die, is_unused, is_used_spare, outcome_at, slots_refusal, standing_at, too_few, used_spare_at}
use Rattle.fa_mount_scan.specs.Reported.{is_spare}
use Rattle.fa_mount_scan.specs.Scanned.{IsNoneLive, IsScanRefused, Outcome, fault_at, is_erased, is_refused}
use Rattle.fa_mount_scan.specs.declared.slots.content.SlotContent.{SlotContent}
use Rattle.fa_mount_scan.specs.declared.slots.content.SlotContent.TheVariants.{Erased}
use Rattle.std.proofs.Common.{Bool, List, None, Option, Some, [], ap, arith, eqb-true, false, inl, inr, length, not, refl, slice_get, subst, suc, sym, true, zero, ℕ, ◌*◌, ◌<◌, ◌∙◌, ◌∷◌, ◌≡◌}
use Rattle.std.proofs.lemmas.Bool.{and_from, false≢true, or_left, or_right, true≢false}
use Rattle.std.proofs.lemmas.Option.{none-some, same_Some, slice_get-get_or}
use Rattle.std.proofs.lemmas.List.FromFn.{get_or-map-range_with_len, length-map-range_with_len}
use Rattle.std.specs.FinMap.{contains_key}
use Rattle.std.specs.List.{list_all, list_any}
use Rattle.std.specs.Prelude.{Ok, count_by, find, if◌then◌else◌, is_some, option_map, ◌&&◌, ◌==◌, ◌↔◌}

abbrev pub ErasedLaw : Type 0
ErasedLaw = (bytes : List ℕ) (pages die slot : ℕ) (content : SlotContent) (cell : Cell)
    → IsContentOf bytes pages die slot content → IsCellOf bytes cell → content ≡ Erased ↔ cell ≡ Empty

all_erased : (slots : List SlotContent) → ((slot : ℕ) (content : SlotContent) → slice_get slots slot ≡ Some content → content ≡ Erased)
    → list_all is_erased slots ≡ true
all_erased [] each = refl
all_erased (c ∷ cs) each = and_from (is_erased c) (list_all is_erased cs) (ap is_erased (each zero c refl)) (all_erased cs (λ slot content e. each (suc slot) content e))

module _ (erased_law : ErasedLaw) (first : World) (b : IsBeginning first) (told : ℕ → HeaderTells) (heads : ℕ → Option HeaderTells) (cells : ℕ → ℕ → Cell)
    (as_mounted : (die slot : ℕ) → heads die ≡ None → cells die slot ≡ (first.images die).seen slot)
    (seen : List Seen) (left : AreHeadersLeft first told heads seen) (marked : AreSparesMarked first seen) (dies : ℕ) (outcomes : List Outcome)
    (read : (die : ℕ) → is_in (mask_in (greatest_epoch seen) seen) die ≡ true → IsReadLeft first.core.page_map.geometry cells die (outcome_at outcomes die)) where
  abbrev mask : ℕ
  mask = mask_in (greatest_epoch seen) seen

  abbrev standings : List Standing
  standings = standings_of mask seen dies

  none_unread : find (is_unread_die mask standings outcomes) (below (length standings)) ≡ None
  none_unread = find_none (is_unread_die mask standings outcomes) (below (length standings)) (λ die i. at die (is_in mask die) refl)
    where
      at : (die : ℕ) (c : Bool) → is_in mask die ≡ c → is_unread_die mask standings outcomes die ≡ false
      at die false e = ap (λ b. b && is_refused (outcome_at outcomes die)) e
      at die true e = ap (λ b. b && is_refused (outcome_at outcomes die)) e ∙ ap is_refused (read die e).is

  -- a die with the mark of a spare has not been written to
  spare_empty : (x : Seen) → Among x seen → x.header.spare ≡ true → (slot : ℕ)
      → slot < first.core.page_map.geometry.blocks * first.core.page_map.geometry.slots
      → cells x.header.die.0 slot ≡ Empty
  spare_empty x among mark slot low = as_mounted x.header.die.0 slot (unwritten (heads x.header.die.0) refl)
      ∙ empty (used_at first.core.page_map x.header.die.0 slot) refl
    where
      unwritten : (o : Option HeaderTells) → heads x.header.die.0 ≡ o → heads x.header.die.0 ≡ None
      unwritten None e = e
      unwritten (Some h) e = absurd (true≢false (sym mark ∙ ((left x among).written h e).0))

      spare : contains_key first.core.spares x.header.die.0 ≡ true
      spare = marked x among mark

      empty : (o : Option Used) → used_at first.core.page_map x.header.die.0 slot ≡ o → (first.images x.header.die.0).seen slot ≡ Empty
      empty None e = subst (StandsAt first x.header.die.0 slot) e
          (b.stands x.header.die.0 slot (or_right (is_live first.core.page_map x.header.die.0) (contains_key first.core.spares x.header.die.0) spare) low)
      empty (Some used) e = absurd (false≢true (sym (b.spares x.header.die.0 spare).1 ∙ (b.used x.header.die.0 slot (ap is_some e)).0))

  spare_unused : (x : Seen) → Among x seen → x.header.spare ≡ true → is_in mask x.header.die.0 ≡ true → (index : ℕ)
      → is_unused (Spare index) (outcome_at outcomes x.header.die.0) ≡ true
  spare_unused x among mark inside index =
      let r = read x.header.die.0 inside in
      ap (is_unused (Spare index)) r.is ∙ all_erased r.slots (λ slot content e.
      let cell = r.each slot content e in
      (erased_law cell.1.0 first.core.page_map.geometry.pages x.header.die.0 slot content (cells x.header.die.0 slot) cell.1.1 cell.1.2).1
      (spare_empty x among mark slot cell.0))

  none_used : find (is_used_spare mask standings outcomes) (below (length standings)) ≡ None
  none_used = find_none (is_used_spare mask standings outcomes) (below (length standings)) (λ die i. at die i (is_in mask die) refl)
    where
      standing_is : (die : ℕ) → Among die (below (length standings)) → standing_at standings die ≡ standing_of mask seen die
      standing_is die i =
          let low = among_low 0 (length standings) die i in
          let long = length-map-range_with_len (standing_of mask seen) 0 dies in
          get_or-map-range_with_len (standing_of mask seen) 0 dies die die Missing (omega (arith, low, long)) (omega arith)

      by_mark : (die : ℕ) (x : Seen) → Among x seen → x.header.die.0 ≡ die → is_in mask die ≡ true → (c : Bool) → x.header.spare ≡ c
          → (is_spare (standing_in mask (Some x)) && not (is_unused (standing_in mask (Some x)) (outcome_at outcomes die))) ≡ false
      by_mark die x among same inside true mark =
          (λ i. is_spare (if mark i then Spare x.index else if is_in mask x.header.die.0 then Live x.index else Out x.index)
          && not (is_unused (if mark i then Spare x.index else if is_in mask x.header.die.0 then Live x.index else Out x.index) (outcome_at outcomes die)))
          ∙ ap not (subst (λ (n : ℕ). is_unused (Spare x.index) (outcome_at outcomes n) ≡ true) same
          (spare_unused x among mark (ap (is_in mask) same ∙ inside) x.index))
      by_mark die x among same inside false mark =
          (λ i. is_spare (if mark i then Spare x.index else if is_in mask x.header.die.0 then Live x.index else Out x.index)
          && not (is_unused (if mark i then Spare x.index else if is_in mask x.header.die.0 then Live x.index else Out x.index) (outcome_at outcomes die)))
          ∙ plain (is_in mask x.header.die.0)
        where
          plain : (c : Bool)
              → (is_spare (if c then Live x.index else Out x.index) && not (is_unused (if c then Live x.index else Out x.index) (outcome_at outcomes die))) ≡ false
          plain true = refl
          plain false = refl

      by_seen : (die : ℕ) → is_in mask die ≡ true → (o : Option Seen) → find (λ (x : Seen). x.header.die.0 == die) seen ≡ o
          → (is_spare (standing_in mask o) && not (is_unused (standing_in mask o) (outcome_at outcomes die))) ≡ false
      by_seen die inside None e = refl
      by_seen die inside (Some x) e =
          let found = found_passes (λ (x : Seen). x.header.die.0 == die) seen x e in
          by_mark die x found.1 (eqb-true x.header.die.0 die found.0) inside x.header.spare refl

      at : (die : ℕ) → Among die (below (length standings)) → (c : Bool) → is_in mask die ≡ c
          → is_used_spare mask standings outcomes die ≡ false
      at die i false e = ap (λ b. b && is_spare (standing_at standings die) && not (is_unused (standing_at standings die) (outcome_at outcomes die))) e
      at die i true e =
          ap (λ b. b && is_spare (standing_at standings die) && not (is_unused (standing_at standings die) (outcome_at outcomes die))) e
          ∙ ap (λ s. is_spare s && not (is_unused s (outcome_at outcomes die))) (standing_is die i)
          ∙ by_seen die e (find (λ (x : Seen). x.header.die.0 == die) seen) refl

  pub slots_fine : (copies : ℕ) → too_few copies (count_by (is_gone mask standings outcomes) (below (length standings))) ≡ None
      → slots_refusal copies mask standings outcomes ≡ None
  slots_fine copies few =
      λ i. first_of (option_map (fault_at standings) (none_unread i) ∷ option_map (used_spare_at standings) (none_used i) ∷ few i ∷ [])

any_at : {X : Type 0} (p : X → Bool) (xs : List X) (k : ℕ) (x : X) → slice_get xs k ≡ Some x → p x ≡ true → list_any p xs ≡ true
any_at p [] k x e t = absurd (none-some x e)
any_at p (y ∷ ys) zero x e t = or_left (p y) (list_any p ys) (ap p (same_Some y x e) ∙ t)
any_at p (y ∷ ys) (suc k) x e t = or_right (p y) (list_any p ys) (any_at p ys k x e t)

-- where a die that stands as live was read, some die is live
not_none_live : (standings : List Standing) (outcomes : List Outcome) (die index : ℕ) (slots : List SlotContent) → die < length standings
    → standing_at standings die ≡ Live index → outcome_at outcomes die ≡ Some (Ok slots) → IsNoneLive standings true outcomes → ⊥
not_none_live standings outcomes die index slots low stands read none =
    let all = none.all in
    let s : slice_get standings die ≡ Some (Live index) = slice_get-get_or standings die Missing low ∙ ap Some stands in
    let o : slice_get outcomes die ≡ Some (Some (Ok slots)) = slice_get-get_or outcomes die None (omega (arith, low, all)) ∙ ap Some read in
    let found = (none.settles.each die (Live index) (Some (Ok slots)) s o).1 in
    false≢true (sym none.none_live ∙ any_at is_some none.contents die (Some slots) found refl)

-- nor is it refused since no die would be live
pub some_live : (seen : List Seen) (dies die index : ℕ) (outcomes : List Outcome) (slots : List SlotContent) → die < dies
    → standing_of (mask_in (greatest_epoch seen) seen) seen die ≡ Live index → outcome_at outcomes die ≡ Some (Ok slots) → (refusal : MountRefused)
    → IsScanRefused (standings_of (mask_in (greatest_epoch seen) seen) seen dies) true outcomes refusal → ⊥
some_live seen dies die index outcomes slots low stands read refusal (inl told) = none-some refusal told
some_live seen dies die index outcomes slots low stands read refusal (inr none) =
    let standing : ℕ → Standing = standing_of (mask_in (greatest_epoch seen) seen) seen in
    let long = length-map-range_with_len standing 0 dies in
    not_none_live (standings_of (mask_in (greatest_epoch seen) seen) seen dies) outcomes die index slots (omega (arith, low, long))
    (get_or-map-range_with_len standing 0 dies die die Missing low (omega arith) ∙ stands) read none.0
