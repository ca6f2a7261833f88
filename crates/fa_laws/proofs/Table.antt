-- A state told by lists: for each of its maps the list of its entries, in order.
use Rattle.fa_machine.specs.Maps.{place_cmp}
use Rattle.fa_machine.specs.State.{Core, OpenClaim, OpenBatch, WaitingProgram}
use Rattle.fa_machine.specs.declared.answers.HistoryEntry.{HistoryEntry}
use Rattle.fa_machine.specs.declared.jobs.Flight.{Flight}
use Rattle.fa_machine.specs.declared.places.Booking.{Booking}
use Rattle.fa_machine.specs.declared.places.Copying.{Copying}
use Rattle.fa_machine.specs.declared.places.Used.{Used}
use Rattle.fa_machine.specs.declared.places.Version.{Version}
use Rattle.fa_types.specs.declared.window.Window.{Window as WindowOf}
use Rattle.fa_types.specs.declared.geometry.Geometry.{Geometry}
use Rattle.std.proofs.Common.{Bool, List, Option, true, false, ℕ}
use Rattle.std.specs.FinMap.{from_sorted, is_sorted}
use Rattle.std.specs.Ordering.{nat_cmp}
use Rattle.std.specs.Prelude.{T, ◌&&◌}

pub record Table : Type 0 where
  pub copies : ℕ
  pub live : List (ℕ × Unit {0})
  pub versions : List (ℕ × Version)
  pub used : List ((ℕ × ℕ) × Used)
  pub round : ℕ
  pub bookings : List ((ℕ × ℕ) × Booking)
  pub windows : List (ℕ × WindowOf)
  pub epoch : ℕ
  pub behind : List (ℕ × Unit {0})
  pub spares : List (ℕ × Unit {0})
  pub stepped : List (ℕ × Unit {0})
  pub last : ℕ
  pub waiting : List WaitingProgram
  pub jobs : List (ℕ × Flight)
  pub copying : Option Copying
  pub claims : List (ℕ × OpenClaim)
  pub batches : List (ℕ × OpenBatch)
  pub flushes : ℕ
  pub asked : List (ℕ × ℕ)
  pub synced : List (ℕ × ℕ)
  pub based : List (ℕ × ℕ)
  pub commits : ℕ
  pub starts : ℕ
  pub history : List HistoryEntry

-- the state with these entries
abbrev pub core_of : Geometry → Table → Core
core_of geometry t = record {
  copies = t.copies;
  page_map = record { geometry = geometry; live = from_sorted t.live; versions = from_sorted t.versions; used = from_sorted t.used };
  calendar = record { round = t.round; bookings = from_sorted t.bookings; windows = from_sorted t.windows };
  epoch = t.epoch;
  behind = from_sorted t.behind;
  spares = from_sorted t.spares;
  stepped = from_sorted t.stepped;
  last = t.last;
  waiting = t.waiting;
  jobs = from_sorted t.jobs;
  copying = t.copying;
  claims = from_sorted t.claims;
  batches = from_sorted t.batches;
  flushes = t.flushes;
  asked = from_sorted t.asked;
  synced = from_sorted t.synced;
  base = record { numbers = from_sorted t.based; commits = t.commits; starts = t.starts };
  history = t.history;
}

-- the lists are in order
abbrev pub is_ordered : Table → Bool
is_ordered t =
    is_sorted nat_cmp t.live && (is_sorted nat_cmp t.versions && (is_sorted place_cmp t.used && (is_sorted place_cmp t.bookings
    && (is_sorted nat_cmp t.windows && (is_sorted nat_cmp t.behind && (is_sorted nat_cmp t.stepped && (is_sorted nat_cmp t.jobs
    && (is_sorted nat_cmp t.claims && (is_sorted nat_cmp t.batches && (is_sorted nat_cmp t.asked && is_sorted nat_cmp t.synced))))))))))

pub record Ordered (t : Table) : Type 0 where
  pub live : T (is_sorted nat_cmp t.live)
  pub versions : T (is_sorted nat_cmp t.versions)
  pub used : T (is_sorted place_cmp t.used)
  pub bookings : T (is_sorted place_cmp t.bookings)
  pub windows : T (is_sorted nat_cmp t.windows)
  pub behind : T (is_sorted nat_cmp t.behind)
  pub stepped : T (is_sorted nat_cmp t.stepped)
  pub jobs : T (is_sorted nat_cmp t.jobs)
  pub claims : T (is_sorted nat_cmp t.claims)
  pub batches : T (is_sorted nat_cmp t.batches)
  pub asked : T (is_sorted nat_cmp t.asked)
  pub synced : T (is_sorted nat_cmp t.synced)

both : (a b : Bool) → T (a && b) → T a × T b
both true b h = (tt, h)
both false b h = absurd h

pub in_order : (t : Table) → T (is_ordered t) → Ordered t
in_order t h =
    let a = both (is_sorted nat_cmp t.live) _ h in
    let b = both (is_sorted nat_cmp t.versions) _ a.1 in
    let c = both (is_sorted place_cmp t.used) _ b.1 in
    let d = both (is_sorted place_cmp t.bookings) _ c.1 in
    let e = both (is_sorted nat_cmp t.windows) _ d.1 in
    let f = both (is_sorted nat_cmp t.behind) _ e.1 in
    let g = both (is_sorted nat_cmp t.stepped) _ f.1 in
    let i = both (is_sorted nat_cmp t.jobs) _ g.1 in
    let j = both (is_sorted nat_cmp t.claims) _ i.1 in
    let k = both (is_sorted nat_cmp t.batches) _ j.1 in
    let l = both (is_sorted nat_cmp t.asked) (is_sorted nat_cmp t.synced) k.1 in
    record {
      live = a.0;
      versions = b.0;
      used = c.0;
      bookings = d.0;
      windows = e.0;
      behind = f.0;
      stepped = g.0;
      jobs = i.0;
      claims = j.0;
      batches = k.0;
      asked = l.0;
      synced = l.1;
    }
