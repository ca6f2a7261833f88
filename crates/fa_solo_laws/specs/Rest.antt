-- An array at which nothing is open, one that is at rest, and the plans by which the pages of a range can be read.
use Rattle.std.specs.Prelude.{◌≡◌, ◌⊎◌, ℕ, ◌+◌, ◌-◌, true, false, List, None}
use Rattle.std.specs.List.{range_with_len}
use Rattle.std.specs.FinMap.{contains_key, empty, insert, remove}
use Rattle.fa_batch_terms.specs.Plan.{IsPlan}
use Rattle.fa_batch_terms.specs.declared.place.Place.{Place}
use Rattle.fa_machine.specs.Collecting.{victim}
use Rattle.fa_machine.specs.Looks.{wants_window}
use Rattle.fa_machine.specs.Placement.{is_thin}
use Rattle.fa_machine.specs.Reading.{entries_for, to_read}
use Rattle.fa_machine.specs.Rounds.{is_closed}
use Rattle.fa_machine.specs.State.{Core, is_live}
use Rattle.fa_shared_steps.specs.Ranges.{first_page, past_page}
use Rattle.fa_shared_steps.specs.Tasks.{bytes_from}
use Rattle.fa_shared_steps.specs.declared.range.Range.{Range}

-- No job, no claim, no batch and no copy is open.
pub record IsIdle (core : Core) : Type 0 where
  pub jobs : core.jobs ≡ empty
  pub claims : core.claims ≡ empty
  pub batches : core.batches ≡ empty
  pub copying : core.copying ≡ None

-- No live die wants a window, none that has one has a block to collect, and no page is thin.
pub record IsAtRest (core : Core) : Type 0 where
  pub windows : (die : ℕ) → wants_window core.page_map die ≡ false
  pub steps : (die : ℕ) → is_live core.page_map die ≡ true → contains_key core.calendar.windows die ≡ true → victim core.page_map die ≡ None
  pub copies : (page : ℕ) → is_thin core.copies core.page_map page ≡ false

-- the range of the array with this offset and length, in bytes
abbrev pub range_in : Core → ℕ → ℕ → Range
range_in core offset len = bytes_from core.page_map.geometry.page_bytes offset len

-- the pages with a byte of the range, rising
abbrev pub pages_of : Range → List ℕ
pages_of r = range_with_len (first_page r) (past_page r - first_page r)

-- These places are a plan of the pages as the calendar stands: each page that has bytes is read once, at a die that holds it and in a round
-- of the die that is open now, and no two are read at one die in one round. Pages that have no bytes are not read.
abbrev pub IsPlanFor : Core → List ℕ → List Place → Type 0
IsPlanFor core pages places =
    IsPlan (entries_for core.page_map (to_read core.page_map pages)) core.calendar.round (is_closed core.page_map core.calendar) places

-- The epoch and the live dies are the same. Or a die went out or came in, and the epoch is the next one.
abbrev pub CountsDies : Core → Core → Type 0
CountsDies old new =
    ((new.epoch ≡ old.epoch) × (new.page_map.live ≡ old.page_map.live))
    ⊎ ((new.epoch ≡ old.epoch + 1) × ((die : ℕ)
    × ((new.page_map.live ≡ remove old.page_map.live die) ⊎ (new.page_map.live ≡ insert old.page_map.live die tt))))
