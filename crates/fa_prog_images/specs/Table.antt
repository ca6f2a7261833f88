-- The table of the dies of an array: a row for each.
use Rattle.std.specs.Prelude.{◌≡◌, ℕ, zero, suc, ◌+◌, Bool, List, [], ◌∷◌, codes, slice_get, is_none}
use Rattle.std.specs.Prelude.{Option, Some, None, option_map, option_and_then, unwrap_or}
use Rattle.fa_machine.specs.declared.places.Used.{Used}
use Rattle.fa_machine.specs.Collecting.{count_in}
use Rattle.fa_machine.specs.Copies.{is_held_slot, is_stale_slot}
use Rattle.fa_machine.specs.State.{MapState}
use Rattle.fa_mount_headers.specs.declared.found.Found.{Found}
use Rattle.fa_mount_headers.specs.declared.found.HeaderFound.{HeaderFound}
use Rattle.fa_mount_headers.specs.declared.found.HeaderFound.TheVariants.{Unread, Bad, Good}
use Rattle.fa_mount_headers.specs.declared.judging.Standing.{Standing}
use Rattle.fa_mount_headers.specs.declared.judging.Standing.TheVariants.{Missing, Live, Spare, Out}
use Rattle.fa_tag.specs.declared.header.Header.{Header}
use Rattle.fa_prog_images.specs.declared.table.DieRow.{DieRow}
use Rattle.fa_prog_images.specs.declared.table.SlotCounts.{SlotCounts}

-- which image is that of a die, if it has one
abbrev pub image_of : Standing → Option ℕ
image_of Missing = None
image_of (Live index) = Some index
image_of (Spare index) = Some index
image_of (Out index) = Some index

-- the path of an image that was opened from the path at its place
abbrev pub path_at : List (List ℕ) → List ℕ → ℕ → Option (List ℕ)
path_at paths places index = option_and_then (slice_get paths) (slice_get places index)

-- the header that was found of an image, if it has one
abbrev pub good_header : HeaderFound → Option Header
good_header (Good header) = Some header
good_header Unread = None
good_header Bad = None

abbrev pub header_of : List Found → ℕ → Option Header
header_of founds index = option_and_then (λ found. good_header found.header) (slice_get founds index)

-- how a die stands, in a word
abbrev pub state_text : Standing → List ℕ
state_text Missing = codes "missing"
state_text (Live index) = codes "live"
state_text (Spare index) = codes "spare"
state_text (Out index) = codes "out"

-- the numbers of the first blocks, added
abbrev pub sum_below : (ℕ → ℕ) → ℕ → ℕ
sum_below number zero = 0
sum_below number (suc n) = sum_below number n + number n

-- how many slots of a die are in such a state
abbrev pub slots_in_state : MapState → ℕ → (Option Used → Bool) → ℕ
slots_in_state m die test = sum_below (λ block. count_in m die block test) m.geometry.blocks

abbrev pub slots_on : MapState → ℕ → SlotCounts
slots_on m die = record {
  erased = slots_in_state m die is_none;
  current = slots_in_state m die is_held_slot;
  stale = slots_in_state m die is_stale_slot;
}

-- the slots of a die were read where it is live or a spare
abbrev pub slots_read : MapState → ℕ → Standing → Option SlotCounts
slots_read m die (Live index) = Some (slots_on m die)
slots_read m die (Spare index) = Some (slots_on m die)
slots_read m die Missing = None
slots_read m die (Out index) = None

-- how a die stands
abbrev pub standing_of : List Standing → ℕ → Standing
standing_of dies die = unwrap_or (slice_get dies die) Missing

module _ (paths : List (List ℕ)) (places : List ℕ) (founds : List Found) (dies : List Standing) (m : MapState) where
  -- what is known of a die
  pub record IsRow (die : ℕ) (row : DieRow) : Type 0 where
    pub of_die : row.die.0 ≡ die
    pub path : option_map (λ path. path.now) row.path ≡ option_and_then (path_at paths places) (image_of (standing_of dies die))
    pub state : row.state.now ≡ state_text (standing_of dies die)
    pub header : row.header ≡ option_and_then (header_of founds) (image_of (standing_of dies die))
    pub slots : row.slots ≡ slots_read m die (standing_of dies die)

  -- the rows of the dies from one on
  abbrev pub AreRowsFrom : ℕ → List DieRow → Type 0
  AreRowsFrom die [] = Unit {0}
  AreRowsFrom die (row ∷ rows) = IsRow die row × AreRowsFrom (suc die) rows
