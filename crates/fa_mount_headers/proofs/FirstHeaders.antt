-- The headers of a new array are in the grammar.
use Rattle.std.proofs.Common.{◌≡◌, ℕ, ◌-◌, ◌≤◌, ◌<◌, ◌^◌, Bool, true, false, List, length, lit≤, refl, arith}
use Rattle.std.specs.Prelude.{nat_lt, if◌then◌else◌}
use Rattle.std.proofs.Math.Pow.{pow_mono}
use Rattle.std.proofs.lemmas.Bool.{ltb-true}
use Rattle.std.proofs.lemmas.Nat.Bits.{bit_at_ones}
use Rattle.fa_types.specs.declared.geometry.Geometry.{Geometry}
use Rattle.fa_tag.specs.HeaderGrammar.{IsHeader}
use Rattle.fa_mount_headers.specs.FirstHeader.{in_use, first_header, live_header, spare_header}

module _ (g : Geometry) (array : List ℕ) (die : ℕ) (whole : length array ≡ 16) where
  pub live_fits : die < in_use g → IsHeader (live_header g array die)
  live_fits below =
      let few : 2 ^ (g.dies - g.spares) ≤ 2 ^ g.dies = pow_mono (omega arith) in
      let some : 1 ≤ 2 ^ (g.dies - g.spares) = pow_mono {i = 0} (omega arith) in record {
        die = omega (arith, below);
        live_dies = omega (arith, few, some);
        role = (lit≤ tt, lit≤ tt, bit_at_ones (g.dies - g.spares) die below);
        array = whole;
      }

  spare_fits : die < g.dies → IsHeader (spare_header g array die)
  spare_fits below =
      let some : 1 ≤ 2 ^ g.dies = pow_mono {i = 0} (omega arith) in
      record { die = below; live_dies = some; role = (refl, refl); array = whole }

  by_test : die < g.dies → (b : Bool) → nat_lt die (in_use g) ≡ b → IsHeader (if b then live_header g array die else spare_header g array die)
  by_test below true live = live_fits (ltb-true die (in_use g) live)
  by_test below false past = spare_fits below

  pub first_fits : die < g.dies → IsHeader (first_header g array die)
  first_fits below = by_test below (nat_lt die (in_use g)) refl
