-- What contracts see of the open batches.
use Rattle.std.specs.FinMap.{FinMap, from_entries}
use Rattle.std.specs.Option.{option_map_or}
use Rattle.std.specs.Ordering.{nat_cmp}
use Rattle.std.specs.Prelude.{ℕ, Option, map, option_map}
use Rattle.fa_core_batches.specs.Pages.{batch_in, list_at, page_at, room_in}
use Rattle.fa_core_batches.specs.declared.batches.Batches.{Batches}
use Rattle.fa_core_batches.specs.declared.page.PageState.{PageState}
use Rattle.fa_machine.specs.State.{OpenBatch}

module _ {A : Type 0} where
  -- the batches by their numbers
  abbrev pub batches_of : Batches A → FinMap nat_cmp OpenBatch
  batches_of batches = from_entries (map (λ e. (e.0, batch_in batches.pages.entries e.0 e.1)) batches.lists.entries)

  -- how a page of a batch stands; none where no such batch is open, or where it has no such page
  abbrev pub state_of : Batches A → ℕ → ℕ → Option PageState
  state_of batches batch page = option_map (λ p. p.state) (page_at batches.pages.entries batch page)

  -- for how many more pages a batch has room
  abbrev pub room_of : Batches A → ℕ → ℕ
  room_of batches batch = option_map_or (λ list. room_in list) (list_at batches.lists.entries batch) 0

  -- the number of the next batch, and the bytes of a page
  abbrev pub next_of : Batches A → ℕ
  next_of batches = batches.next

  abbrev pub bytes_of : Batches A → ℕ
  bytes_of batches = batches.page_bytes
