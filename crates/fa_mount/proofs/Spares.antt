-- Of a die that stands as a spare nothing is mounted.
use Rattle.std.proofs.Common.{below_more, cond, ◌+◌, ◌≡◌, ℕ, ◌<◌, ◌≤◌, true, false, List, Option, Some, None, Ok, Err, length, refl, sym, ap, ◌∙◌, arith, slice_get, get_or, inl, inr}
use Rattle.std.proofs.lemmas.Bool.{cases_Bool, cases_lt, cond-false, cond-true, false≢true}
use Rattle.std.proofs.lemmas.Option.{same_Some, slice_get-get_or, slice_get_within, slice_get_past, get_or_from_slice_get}
use Rattle.std.specs.FinMap.{contains_key, empty, get-empty, insert}
use Rattle.std.specs.Option.{option_map_or}
use Rattle.std.specs.Ordering.{nat_cmp}
use Rattle.std.specs.Prelude.{is_some}
use Rattle.fa_mount_headers.specs.declared.judging.Standing.{Standing}
use Rattle.fa_mount_headers.specs.declared.judging.Standing.TheVariants.{Missing, Live, Spare, Out}
use Rattle.fa_machine.specs.Maps.{Numbers}
use Rattle.fa_mount.specs.Begins.{AreSpares}
use Rattle.fa_set.proofs.Changed.{inserted_here, inserted_other}
use Rattle.fa_machine.specs.State.{MapState, is_live}
use Rattle.fa_types.specs.declared.geometry.Geometry.{Geometry}
use Rattle.fa_mount_scan.specs.Content.{Contents, IsMountedContent}
use Rattle.fa_mount_scan.specs.MountedWorld.{is_spare_of}
use Rattle.fa_mount_scan.specs.Reported.{is_spare}
use Rattle.fa_mount_scan.specs.Scanned.{AreSettled, Outcome, mounted_of, settled}

pub spare_index : (standing : Option Standing) → option_map_or is_spare standing false ≡ true → (index : ℕ) × (standing ≡ Some (Spare index))
spare_index None e = absurd (false≢true e)
spare_index (Some Missing) e = absurd (false≢true e)
spare_index (Some (Live index)) e = absurd (false≢true e)
spare_index (Some (Out index)) e = absurd (false≢true e)
spare_index (Some (Spare index)) e = (index, refl)

-- a die past the end of the list stands as no spare
pub none_past : (dies : List Standing) (die : ℕ) → length dies ≤ die → is_spare_of dies die ≡ false
none_past dies die past = ap (λ (o : Option Standing). option_map_or is_spare o false) (slice_get_past dies die past)

none_with : (index : ℕ) (standing : Standing) (outcome : Outcome) → settled standing outcome ≡ Spare index → mounted_of standing outcome ≡ None
none_with index Missing outcome is = refl
none_with index (Out i) outcome is = refl
none_with index (Spare i) outcome is = refl
none_with index (Live i) None is = refl
none_with index (Live i) (Some (Err fault)) is = refl
none_with index (Live i) (Some (Ok slots)) is = cc

pub spare_not_live : (geometry : Geometry) (standings : List Standing) (outcomes : List Outcome) (dies : List Standing) (contents : Contents)
    (m : MapState) → AreSettled standings outcomes dies contents → length outcomes ≡ length standings → IsMountedContent geometry contents m
    → (die : ℕ) → is_spare_of dies die ≡ true → is_live m die ≡ false
spare_not_live geometry standings outcomes dies contents m settles long content die stands =
    let is = spare_index (slice_get dies die) stands in
    let below = slice_get_within dies die (Spare is.0) is.1 in
    let as_many = settles.dies_length in
    let standing = get_or standings die Missing in
    let outcome = get_or outcomes die None in
    let each = settles.each die standing outcome (slice_get-get_or standings die Missing (omega (arith, below, as_many, long)))
    (slice_get-get_or outcomes die None (omega (arith, below, as_many))) in
    let was = none_with is.0 standing outcome (same_Some (settled standing outcome) (Spare is.0) (sym each.0 ∙ is.1)) in
    content.live die ∙ ap is_some (get_or_from_slice_get contents die (mounted_of standing outcome) None each.1 ∙ was)

-- a set has the dies below one that stand as spares, and no others
pub record AreSparesBelow (dies : List Standing) (spares : Numbers) (end : ℕ) : Type 0 where
  pub below : (die : ℕ) → die < end → contains_key spares die ≡ is_spare_of dies die
  pub none : (die : ℕ) → end ≤ die → contains_key spares die ≡ false

pub no_spares : (dies : List Standing) (spares : Numbers) → spares ≡ empty → AreSparesBelow dies spares 0
no_spares dies spares is = record {
  below = λ die low. absurd (omega (arith, low));
  none = λ die past. ap (λ (m : Numbers). contains_key m die) is ∙ ap is_some (get-empty nat_cmp die);
}

pub one_more_spare : (dies : List Standing) (old new : Numbers) (end : ℕ) (standing : Standing) → slice_get dies end ≡ Some standing
    → new ≡ cond (is_spare standing) (insert old end tt) old → AreSparesBelow dies old end → AreSparesBelow dies new (end + 1)
one_more_spare dies old new end standing at is before =
    let is_here : is_spare_of dies end ≡ is_spare standing = ap (λ (o : Option Standing). option_map_or is_spare o false) at in
    elim (cases_Bool (is_spare standing)) [
      | inl stands ↦
          let now : new ≡ insert old end tt = is ∙ cond-true (is_spare standing) (insert old end tt) old stands in
          let other = λ (die : ℕ) (apart : die ≡ end → ⊥). ap (λ (m : Numbers). contains_key m die) now ∙ inserted_other old end die apart in
          record {
            below = below_more _ _ (λ die low. other die (λ same. omega (arith, low, same)) ∙ before.below die low)
                (ap (λ (m : Numbers). contains_key m end) now ∙ inserted_here old end ∙ sym (is_here ∙ stands));
            none = λ die past. other die (λ same. omega (arith, past, same)) ∙ before.none die (omega (arith, past));
          }
      | inr is_none ↦
          let now : new ≡ old = is ∙ cond-false (is_spare standing) (insert old end tt) old is_none in
          let same = λ (die : ℕ). ap (λ (m : Numbers). contains_key m die) now in
          record {
            below = below_more _ _ (λ die low. same die ∙ before.below die low)
                (same end ∙ before.none end (omega arith) ∙ sym (is_here ∙ is_none));
            none = λ die past. same die ∙ before.none die (omega (arith, past));
          }
    ]

pub all_spares : (dies : List Standing) (spares : Numbers) → AreSparesBelow dies spares (length dies) → AreSpares dies spares
all_spares dies spares are die =
    elim (cases_lt die (length dies)) [
      | inl low ↦ are.below die low
      | inr past ↦ are.none die past ∙ sym (none_past dies die past)
    ]

pub spare_within : (dies : List Standing) (die : ℕ) → is_spare_of dies die ≡ true → die < length dies
spare_within dies die stands = let is = spare_index (slice_get dies die) stands in slice_get_within dies die (Spare is.0) is.1
