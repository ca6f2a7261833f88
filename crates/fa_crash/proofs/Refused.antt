-- What it says of images that recovering was not refused.
use Rattle.fa_crash.proofs.Masked.{some_passes}
use Rattle.fa_machine.proofs.Lists.{among-range, none_passes}
use Rattle.fa_machine.specs.Among.{Among}
use Rattle.fa_machine.specs.Maps.{below}
use Rattle.fa_mount_headers.specs.Judged.{first_seen}
use Rattle.fa_mount_headers.specs.Recovering.{is_missed_die, missed, missed_die, missed_of, whole_refusal}
use Rattle.fa_mount_headers.specs.Rules.{first_of, greatest_epoch, is_in, mask_in, refused_die, seen_refusal}
use Rattle.fa_mount_headers.specs.declared.fault.MountFault.TheVariants.{Unclean}
use Rattle.fa_mount_headers.specs.declared.judging.Standing.{Standing}
use Rattle.fa_mount_headers.specs.declared.seen.Seen.{Seen}
use Rattle.fa_mount_scan.specs.Recovering.{is_gone, is_unread_die, is_used_spare, slots_refusal, too_few, used_spare_at}
use Rattle.fa_mount_scan.specs.Scanned.{Outcome, fault_at}
use Rattle.fa_types.specs.declared.geometry.Geometry.{Geometry}
use Rattle.std.proofs.Common.{List, None, Option, Some, [], ap, arith, eqb-true, false, inl, inr, length, not, refl, sym, true, ℕ, ◌<◌, ◌∙◌, ◌∷◌, ◌≡◌}
use Rattle.std.proofs.lemmas.Bool.{cases_Bool, true≢false}
use Rattle.std.proofs.lemmas.Option.{none-some, same_Some}
use Rattle.std.specs.List.{list_any, range_with_len}
use Rattle.std.specs.Prelude.{count_by, find, option_and_then, option_map, ◌&&◌, ◌==◌}

first_none : {X : Type 0} (o : Option X) (rest : List (Option X)) → first_of (o ∷ rest) ≡ None → (o ≡ None) × (first_of rest ≡ None)
first_none None rest e = (refl, e)
first_none (Some x) rest e = absurd (none-some x (sym e))

mapped_none : {X Y : Type 0} (f : X → Y) (o : Option X) → option_map f o ≡ None → o ≡ None
mapped_none f None e = refl
mapped_none f (Some x) e = absurd (none-some (f x) (sym e))

-- the first image that has a header, and its geometry
pub record HasFirst (seen : List Seen) (geometry : Geometry) : Type 0 where
  pub x : Seen
  pub among : Among x seen
  pub is : first_seen seen ≡ Some x
  pub geometry_is : x.header.geometry ≡ geometry

pub has_first : (seen : List Seen) (geometry : Geometry) → option_map (λ (x : Seen). x.header.geometry) (first_seen seen) ≡ Some geometry
    → HasFirst seen geometry
has_first [] geometry e = absurd (none-some geometry e)
has_first (x ∷ others) geometry e = record { x = x; among = inl refl; is = refl; geometry_is = same_Some x.header.geometry geometry e }

module _ (copies : ℕ) (seen : List Seen) (geometry : Geometry) (head : HasFirst seen geometry) (none : whole_refusal copies seen ≡ None) where
  abbrev mask : ℕ
  mask = mask_in (greatest_epoch seen) seen

  not_missed : missed_die geometry.dies mask seen ≡ None
  not_missed =
      let parts = first_none (seen_refusal copies true seen) (missed seen ∷ []) none in
      let miss = (first_none (missed seen) [] parts.1).0 in
      mapped_none (refused_die Unclean) (missed_die geometry.dies mask seen)
      (sym (ap (λ (g : Geometry). missed_of g.dies mask seen) head.geometry_is)
      ∙ sym (ap (option_and_then (λ (x : Seen). missed_of x.header.geometry.dies mask seen)) head.is) ∙ miss)

  -- each die of the mask has an image with a header
  pub mask_there : (die : ℕ) → die < geometry.dies → is_in mask die ≡ true → (x : Seen) × Among x seen × (x.header.die.0 ≡ die)
  mask_there die low inside =
      let out = none_passes (is_missed_die mask seen) (range_with_len 0 geometry.dies) not_missed die
      (among-range 0 geometry.dies die (omega arith) (omega (arith, low))) in
      elim (cases_Bool (list_any (λ (x : Seen). x.header.die.0 == die) seen)) [
        | inl some ↦ let found = some_passes (λ (x : Seen). x.header.die.0 == die) seen some in (found.0, found.1, eqb-true found.0.header.die.0 die found.2)
        | inr nobody ↦ absurd (true≢false (sym (λ i. inside i && not (nobody i)) ∙ out))
      ]

module _ (copies mask : ℕ) (standings : List Standing) (outcomes : List Outcome) (none : slots_refusal copies mask standings outcomes ≡ None) where
  abbrev all : List ℕ
  all = below (length standings)

  parts : (find (is_unread_die mask standings outcomes) all ≡ None) × (find (is_used_spare mask standings outcomes) all ≡ None)
  parts =
      let rest = option_map (used_spare_at standings) (find (is_used_spare mask standings outcomes) all)
      ∷ too_few copies (count_by (is_gone mask standings outcomes) all) ∷ [] in
      let one = first_none (option_map (fault_at standings) (find (is_unread_die mask standings outcomes) all)) rest none in
      let two = first_none (option_map (used_spare_at standings) (find (is_used_spare mask standings outcomes) all))
      (too_few copies (count_by (is_gone mask standings outcomes) all) ∷ []) one.1 in (
        mapped_none (fault_at standings) (find (is_unread_die mask standings outcomes) all) one.0,
        mapped_none (used_spare_at standings) (find (is_used_spare mask standings outcomes) all) two.0,
      )

  pub all_read : (die : ℕ) → die < length standings → is_unread_die mask standings outcomes die ≡ false
  all_read die low = none_passes (is_unread_die mask standings outcomes) all parts.0 die
      (among-range 0 (length standings) die (omega arith) (omega (arith, low)))

  pub all_unused : (die : ℕ) → die < length standings → is_used_spare mask standings outcomes die ≡ false
  all_unused die low = none_passes (is_used_spare mask standings outcomes) all parts.1 die
      (among-range 0 (length standings) die (omega arith) (omega (arith, low)))
