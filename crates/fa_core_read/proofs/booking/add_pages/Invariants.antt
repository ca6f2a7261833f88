use Rattle.fa_core_batches.specs.Batches.{batches_of, bytes_of, next_of, room_of, state_of}
use Rattle.fa_machine.specs.Maps.{insert_all}
use Rattle.fa_machine.specs.Reading.{at_once}
use Rattle.fa_core_read.proofs.booking.add_pages.Given as goal
use Rattle.fa_core_read.specs.Opened.{opened_state}
use Rattle.fa_types.specs.declared.numbers.Page.{Page}
use Rattle.std.proofs.Common.{length, map, ℕ, ◌+◌, ◌≡◌}
use Rattle.std.specs.FinMap.{empty, insert}
use Rattle.std.specs.Prelude.{if◌then◌else◌, replicate, ◌==◌, take}

abbrev pub invariant-loop-page : goal.invariant-loop-page
invariant-loop-page g l =
    let pages = map (λ (page : Page). page.0) (take l.page-index l.pages) in
    (batches_of l.batches ≡ insert (batches_of l.fn.batches) l.batch.0 (record {
      pages = pages;
      answers = insert_all (at_once (g.M.Map.view l.page_map) pages) (replicate (bytes_of l.fn.batches) 0) empty;
    }))
    × ((b p : ℕ) → state_of l.batches b p
    ≡ (if b == l.batch.0 then opened_state (g.M.Map.view l.page_map) pages p else state_of l.fn.batches b p))
    × (room_of l.batches l.batch.0 + l.page-index ≡ length l.pages)
    × (next_of l.batches ≡ next_of l.fn.batches) × (bytes_of l.batches ≡ bytes_of l.fn.batches)
