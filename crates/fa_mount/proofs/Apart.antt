-- Dies that have images of their own.
use Rattle.std.proofs.Common.{◌≡◌, ◌<◌, ◌≤◌, ℕ, List, Some, length, inl, inr, refl, arith}
use Rattle.std.proofs.lemmas.Bool.{cases_order}
use Rattle.std.proofs.lemmas.Option.{slice_get_within}
use Rattle.std.specs.Prelude.{None, Option, option_and_then, slice_get}
use Rattle.fa_mount_headers.specs.declared.judging.Standing.{Standing}
use Rattle.fa_mount.specs.Standings.{AreApart, SharePlace, place_on}
use Rattle.fa_mount_headers.specs.Places.{place_of}

some_standing : (o : Option Standing) (index : ℕ) → option_and_then place_of o ≡ Some index → (standing : Standing) × (o ≡ Some standing)
some_standing None index is = cc
some_standing (Some standing) index is = (standing, refl)

placed_within : (dies : List Standing) (die index : ℕ) → place_on dies die ≡ Some index → die < length dies
placed_within dies die index is =
    let stands = some_standing (slice_get dies die) index is in slice_get_within dies die stands.0 stands.1

-- where no die has the place of one below it, all have places of their own
pub apart_from_below : (dies : List Standing) (end : ℕ) → length dies ≤ end
    → ((die : ℕ) → die < end → ((other : ℕ) × (other < die) × SharePlace dies die other) → ⊥) → AreApart dies
apart_from_below dies end all none die other index at at_other =
    let low = placed_within dies die index at in
    let low_other = placed_within dies other index at_other in
    elim (cases_order die other) [
      | inl same ↦ same
      | inr (inl less) ↦ absurd (none other (omega (arith, low_other, all)) (die, less, (index, at_other, at)))
      | inr (inr more) ↦ absurd (none die (omega (arith, low, all)) (other, more, (index, at, at_other)))
    ]
