-- What a job that is handed out rests on.
use Rattle.std.specs.Prelude.{◌≡◌, ℕ, ◌*◌, ◌<◌, Bool, true, false, Some}
use Rattle.std.specs.FinMap.{get}
use Rattle.fa_machine.specs.State.{Core, MapState}
use Rattle.fa_machine.specs.declared.jobs.Flight.{Flight}
use Rattle.fa_machine.specs.declared.jobs.Flight.TheVariants.{Move, Erase, Read, Program}
use Rattle.fa_core_state.specs.Tracked.{unstarted}

-- a job of the collector, of which a move goes to a slot of the die
abbrev pub IsOfCollector : MapState → Flight → Type 0
IsOfCollector m (Move page version from to) = to.0 < m.geometry.blocks * m.geometry.slots
IsOfCollector m (Erase block) = Unit {0}
IsOfCollector m flight = ⊥

-- A move goes to a slot of the die, and a read is booked in this round and was not started. A program is none of these jobs, since
-- it brings its bytes.
abbrev pub MayBegin : Core → ℕ → Flight → Type 0
MayBegin core die (Move page version from to) = to.0 < core.page_map.geometry.blocks * core.page_map.geometry.slots
MayBegin core die (Read batch page version slot) =
    get core.calendar.bookings (die, core.calendar.round) ≡ Some (unstarted batch.0 page.0)
MayBegin core die (Program page version slot) = ⊥
MayBegin core die flight = Unit {0}

-- whether the job is a read
abbrev pub is_read : Flight → Bool
is_read (Read batch page version slot) = true
is_read flight = false
