-- What contracts see of the array's state: the machine's own.
use Rattle.fa_core_batches.specs.Batches.{batches_of}
use Rattle.fa_core_bookings.specs.Bookings.{calendar_of}
use Rattle.fa_core_tables.specs.Claims.{claims_of}
use Rattle.fa_machine.specs.State.{Core, MapState}
use Rattle.fa_core_tables.specs.Dies.{by_die}
use Rattle.fa_core_tables.specs.Logs.{base_of, history_of}
use Rattle.fa_core_tables.specs.Waits.{waiting_of}
use Rattle.fa_set.specs.Members.{members}
use Rattle.fa_core_state.specs.declared.state.State.{State}

module _ {M A : Type 0} (view : M → MapState) where
  abbrev pub core_of : State M A → Core
  core_of state = record {
    copies = state.copies.number;
    page_map = view state.page_map;
    calendar = calendar_of state.bookings;
    epoch = state.epoch;
    behind = members state.behind;
    spares = members state.spares;
    stepped = members state.stepped;
    last = state.last;
    waiting = waiting_of state.waiting;
    jobs = by_die state.jobs;
    copying = state.copying;
    claims = claims_of state.claims;
    batches = batches_of state.batches;
    flushes = state.flushes;
    asked = by_die state.asked;
    synced = by_die state.synced;
    base = base_of state.log;
    history = history_of state.log;
  }
