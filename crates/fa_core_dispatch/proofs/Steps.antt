-- What the collector's jobs rest on.
use Rattle.fa_machine.specs.Collecting.{is_erased_outside, move_place}
use Rattle.fa_machine.specs.State.{Core, MapState}
use Rattle.fa_machine.specs.declared.jobs.Flight.{Flight}
use Rattle.fa_machine.specs.declared.jobs.Flight.TheVariants.{Erase, Header, Move, Program, Read, Sync}
use Rattle.fa_map_calls.proofs.Ranges.{find_below}
use Rattle.fa_core_dispatch.specs.Begins.{IsOfCollector, MayBegin}
use Rattle.std.proofs.Common.{None, Option, Some, arith, ℕ, ◌*◌, ◌<◌, ◌≡◌}
use Rattle.std.specs.Prelude.{IfSome}

-- a slot to move to is the die's
pub place_inside : (m : MapState) (die block slot : ℕ) → move_place m die block ≡ Some slot → slot < m.geometry.blocks * m.geometry.slots
place_inside m die block slot is =
    let low = find_below (is_erased_outside m die block) 0 (m.geometry.blocks * m.geometry.slots) slot is in omega (arith, low)

begins : (core : Core) (die : ℕ) (flight : Flight) → IsOfCollector core.page_map flight → MayBegin core die flight
begins core die (Move page version from to) is = is
begins core die (Erase block) is = tt
begins core die (Header epoch live) is = absurd is
begins core die (Read batch page version slot) is = absurd is
begins core die (Program page version slot) is = absurd is
begins core die (Sync flushes) is = absurd is

pub may_begin : (core : Core) (die : ℕ) (job : Option Flight) → IfSome job (λ flight. IsOfCollector core.page_map flight)
    → IfSome job (λ flight. MayBegin core die flight)
may_begin core die None is = is
may_begin core die (Some flight) is = begins core die flight is
