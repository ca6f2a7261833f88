-- The array's state as it is mounted, over what the images hold.
use Rattle.std.specs.Prelude.{ℕ, [], None, map}
use Rattle.std.specs.FinMap.{FinMap, empty, entries, from_entries}
use Rattle.std.specs.Ordering.{nat_cmp}
use Rattle.fa_machine.specs.Maps.{Numbers}
use Rattle.fa_machine.specs.State.{Core, MapState}

-- the numbers that the pages have
abbrev pub numbers_of : MapState → FinMap nat_cmp ℕ
numbers_of m = from_entries (map (λ e. (e.0, e.1.seq.0)) (entries m.versions))

-- Nothing is under way: round 1, the header of each live die behind, and a history that begins with the pages' numbers.
abbrev pub begun : ℕ → MapState → ℕ → Numbers → ℕ → Core
begun copies m epoch spares last = record {
  copies = copies;
  page_map = m;
  calendar = record { round = 1; bookings = empty; windows = empty };
  epoch = epoch;
  behind = m.live;
  spares = spares;
  stepped = empty;
  last = last;
  waiting = [];
  jobs = empty;
  copying = None;
  claims = empty;
  batches = empty;
  flushes = 0;
  asked = empty;
  synced = empty;
  base = record { numbers = numbers_of m; commits = 0; starts = 0 };
  history = [];
}
