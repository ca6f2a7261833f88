-- The code of a page map's state, by which a proof tells two states apart.
use Rattle.std.specs.Prelude.{refl}
use Rattle.std.specs.Coded.{Coded, code_by, coded×, coded_ℕ}
use Rattle.std.specs.FinMap.{FinMap, code}
use Rattle.std.specs.Ordering.{nat_cmp}
use base.Stored.{coded_unit}
use Rattle.fa_machine.specs.Maps.{Numbers, place_cmp}
use Rattle.fa_machine.specs.State.{MapState}
use Rattle.fa_machine.specs.declared.places.Used.{Used}
use Rattle.fa_machine.specs.declared.places.Version.{Version}
use Rattle.fa_machine.specs.contracts.places.Used as UsedContract
use Rattle.fa_machine.specs.contracts.places.Version as VersionContract
use Rattle.fa_types.specs.declared.geometry.Geometry.{Geometry}
use Rattle.fa_types.specs.contracts.geometry.Geometry as GeometryContract

abbrev Parts : Type 0
Parts = Geometry × (Numbers × (FinMap nat_cmp Version × FinMap place_cmp Used))

abbrev parts_code : Coded Parts
parts_code =
    coded× (GeometryContract.the_row).coded
    (coded× (code coded_ℕ coded_unit)
    (coded× (code coded_ℕ (VersionContract.the_row).coded) (code (coded× coded_ℕ coded_ℕ) (UsedContract.the_row).coded)))

-- a state is stored as its parts
abbrev pub map_state_code : Coded MapState
map_state_code = code_by Parts parts_code (λ m. (m.geometry, (m.live, (m.versions, m.used))))
    (λ p. record { geometry = p.0; live = p.1.0; versions = p.1.1.0; used = p.1.1.1 }) (λ _. refl)
