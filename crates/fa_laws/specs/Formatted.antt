-- The array as it is formatted: two dies, nothing written, all slots erased, and a plain array of zeros.
use Rattle.std.specs.Prelude.{ℕ, [], ◌∷◌, None, Ok, replicate}
use Rattle.std.specs.Ordering.{nat_cmp}
use Rattle.std.specs.FinMap.{FinMap, empty, insert}
use Rattle.fa_types.specs.declared.geometry.Geometry.{Geometry}
use Rattle.fa_machine.specs.Cells.{Empty}
use Rattle.fa_machine.specs.State.{Core, MapState}
use Rattle.fa_machine.specs.Step.{Act, Admit}
use Rattle.fa_machine.specs.World.{World}

-- both dies of an array of two are live
abbrev pub new_map : Geometry → MapState
new_map geometry = record { geometry = geometry; live = insert (insert empty 0 tt) 1 tt; versions = empty; used = empty }

-- a state over a page map, with two copies of a page, no spare and nothing under way
abbrev pub new_core : ℕ → MapState → FinMap nat_cmp ℕ → Core
new_core last m numbers = record {
  copies = 2;
  page_map = m;
  calendar = record { round = 1; bookings = empty; windows = empty };
  epoch = 1;
  behind = m.live;
  spares = empty;
  stepped = empty;
  last = last;
  waiting = [];
  jobs = empty;
  copying = None;
  claims = empty;
  batches = empty;
  flushes = 0;
  asked = empty;
  synced = empty;
  base = record { numbers = numbers; commits = 0; starts = 0 };
  history = [];
}

abbrev pub formatted : Geometry → World
formatted geometry = record {
  core = new_core 0 (new_map geometry) empty;
  images = λ die. record { seen = λ slot. Empty; header = None };
  works = λ die. None;
  plain = replicate geometry.pages (replicate geometry.page_bytes 0);
  payloads = λ page seq. [];
  due = λ die. record { bytes = []; since = 0 };
  values = λ batch page. record { bytes = []; since = 0 };
  told = [];
  moment = 0;
  admitted = λ batch. 0;
}

-- the admission of one page that was never written: nothing is planned, in no round
abbrev pub admits_one : Geometry → ℕ → Act
admits_one geometry page =
    Admit (page ∷ []) (Ok (record { batch = record { 0 = 0 }; planned = record { rounds = 0; places = []; shortage = [] } }))
