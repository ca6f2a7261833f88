-- What holds of each world that a run leads to.
use Rattle.fa_laws.proofs.Scene.{Owned, Scene, Sound}
use Rattle.fa_machine.specs.Among.{Among, tally}
use Rattle.fa_machine.specs.Maps.{Numbers}
use Rattle.fa_machine.specs.Placement.{order_of}
use Rattle.fa_machine.specs.Reading.{zeros}
use Rattle.fa_machine.specs.State.{Base, CalendarState, Core, OpenBatch, OpenClaim, Reservation}
use Rattle.fa_machine.specs.Step.{Act}
use Rattle.fa_machine.specs.World.{Due, Told, Work, World, followed, plain_page}
use Rattle.fa_machine.specs.declared.answers.HistoryEntry.{HistoryEntry}
use Rattle.fa_machine.specs.declared.ids.BatchId.{BatchId}
use Rattle.fa_machine.specs.declared.jobs.Flight.{Flight}
use Rattle.fa_machine.specs.declared.jobs.Flight.TheVariants.{Read}
use Rattle.fa_machine.specs.declared.places.Copying.{Copying}
use Rattle.fa_machine.specs.declared.places.Version.{Version}
use Rattle.fa_types.specs.declared.numbers.Page.{Page}
use Rattle.fa_types.specs.declared.numbers.Slot.{Slot}
use Rattle.std.proofs.Common.{List, None, Option, Some, [], arith, length, suc, ℕ, ◌/◌, ◌<◌, ◌∷◌, ◌≡◌, ◌≤◌}
use Rattle.std.specs.FinMap.{FinMap, contains_key, get, values}
use Rattle.std.specs.Ordering.{nat_cmp}
use Rattle.std.specs.Prelude.{option_and_then, option_map, slice_index_or, ◌==◌}

abbrev pub owned_claim : OpenClaim → Option Owned
owned_claim c = option_map {T = Reservation} (λ r. record { page = c.page; version = r.version; targets = r.targets }) c.reserved

-- what is reserved under each claim, and under the copy under way
abbrev pub owned_of : Option Copying → FinMap nat_cmp OpenClaim → Option ℕ → Option Owned
owned_of copying claims None =
    option_map {T = Copying} (λ c. record { page = c.page.0; version = c.version; targets = c.target ∷ [] }) copying
owned_of copying claims (Some id) = option_and_then owned_claim (get claims id)

abbrev pub scene_of : World → Scene
scene_of w = record {
  bytes = record {
    seen = λ die slot. (w.images die).seen slot;
    payloads = w.payloads;
    last = w.core.last;
    zero_page = zeros w.core.page_map;
    pages = w.core.page_map.geometry.pages;
  };
  places = record {
    used = λ die slot. get w.core.page_map.used (die, slot);
    live = λ die. contains_key w.core.page_map.live die;
    spare = λ die. contains_key w.core.spares die;
    own = owned_of w.core.copying w.core.claims;
  };
  waiting = w.core.waiting;
  works = w.works;
  due = λ die. (w.due die).bytes;
  number = λ page. get w.core.page_map.versions page;
  plain = λ page. slice_index_or w.plain page [];
  in_block = λ block slot. slot / w.core.page_map.geometry.slots == block;
}

-- the jobs of the state are those that the world is at
abbrev pub AreAt : FinMap nat_cmp Flight → (ℕ → Option Work) → Type 0
AreAt jobs works = (die : ℕ) → get jobs die ≡ option_map {T = Work} (λ k. k.job.flight) (works die)

abbrev pub AreInside : ℕ → FinMap nat_cmp OpenClaim → Type 0
AreInside pages claims = (id : ℕ) (c : OpenClaim) → get claims id ≡ Some c → c.page < pages

-- what was told is what was reserved
abbrev pub AreTold : (ℕ → ℕ → List ℕ) → ℕ → List Told → Type 0
AreTold payloads last told = (t : Told) → Among t told → (t.bytes ≡ payloads t.page t.seq) × (t.seq ≤ last)

-- no die stands twice in the order of a page
abbrev pub AreOrdered : Core → Type 0
AreOrdered core = (page die : ℕ) → tally (λ d. d == die) (order_of core.copies core.page_map page) ≤ 1

-- answers are what is due, and what is due is not older than the batch
pub record AreAnswered (batches : FinMap nat_cmp OpenBatch) (admitted : ℕ → ℕ) (values : ℕ → ℕ → Due) (works : ℕ → Option Work)
    (due : ℕ → Due) (moment : ℕ) : Type 0 where
  pub since : (batch : ℕ) (b : OpenBatch) → get batches batch ≡ Some b → admitted batch ≤ moment
  pub answers : (batch : ℕ) (b : OpenBatch) (page : ℕ) (bytes : List ℕ) → get batches batch ≡ Some b → get b.answers page ≡ Some bytes
      → (bytes ≡ (values batch page).bytes) × (admitted batch ≤ (values batch page).since)
  pub reading : (die : ℕ) (work : Work) (batch : BatchId) (page : Page) (version : Version) (slot : Slot) (b : OpenBatch)
      → works die ≡ Some work → work.job.flight ≡ Read batch page version slot → get batches batch.0 ≡ Some b
      → admitted batch.0 ≤ (due die).since

-- what the plain array has of a page that was never written is zeros
abbrev pub AreUnwritten : World → Type 0
AreUnwritten w = (page : ℕ) → page < w.core.page_map.geometry.pages → get w.core.page_map.versions page ≡ None → plain_page w page ≡ zeros w.core.page_map

pub record Holds (w : World) : Type 0 where
  pub sound : Sound (scene_of w)
  pub jobs : AreAt w.core.jobs w.works
  pub claims : AreInside w.core.page_map.geometry.pages w.core.claims
  pub told : AreTold w.payloads w.core.last w.told
  pub ordered : AreOrdered w.core
  pub plain : length w.plain ≡ w.core.page_map.geometry.pages
  pub unwritten : AreUnwritten w
  pub answered : AreAnswered w.core.batches w.admitted w.values w.works w.due w.moment

-- a moment later
pub later : (batches : FinMap nat_cmp OpenBatch) (admitted : ℕ → ℕ) (values : ℕ → ℕ → Due) (works : ℕ → Option Work)
    (due : ℕ → Due) (moment : ℕ) → AreAnswered batches admitted values works due moment → AreAnswered batches admitted values works due (suc moment)
later batches admitted values works due moment a = record {
  since = λ batch b e. let n = a.since batch b e in omega (arith, n);
  answers = a.answers;
  reading = a.reading;
}

-- the world after an event
abbrev pub next : Act → Core → World → World
next act core w = record (followed act w) { core = core; moment = suc w.moment }

-- An event that changes only what nothing here rests on.
pub quiet : (w : World) → Holds w → (calendar : CalendarState) (epoch : ℕ) (behind stepped : Numbers) (flushes : ℕ)
    (asked synced : FinMap nat_cmp ℕ) (base : Base) (history : List HistoryEntry)
    → Holds (record w {
      core = record (w.core) {
        calendar = calendar;
        epoch = epoch;
        behind = behind;
        stepped = stepped;
        flushes = flushes;
        asked = asked;
        synced = synced;
        base = base;
        history = history;
      };
      moment = suc w.moment;
    })
quiet w h calendar epoch behind stepped flushes asked synced base history = record {
  sound = h.sound;
  jobs = h.jobs;
  claims = h.claims;
  told = h.told;
  ordered = h.ordered;
  plain = h.plain;
  unwritten = h.unwritten;
  answered = later w.core.batches w.admitted w.values w.works w.due w.moment h.answered;
}

pub still : (w : World) → Holds w → Holds (record w { moment = suc w.moment })
still w h = quiet w h w.core.calendar w.core.epoch w.core.behind w.core.stepped w.core.flushes w.core.asked w.core.synced w.core.base w.core.history
