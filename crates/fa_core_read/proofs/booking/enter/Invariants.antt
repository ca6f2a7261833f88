use Rattle.fa_core_batches.specs.Batches.{batches_of, bytes_of, next_of, state_of}
use Rattle.fa_core_read.proofs.booking.enter.Given as goal
use Rattle.fa_core_read.specs.Opened.{placed_state}
use Rattle.std.proofs.Common.{ℕ, ◌≡◌}
use Rattle.std.specs.Prelude.{if◌then◌else◌, ◌==◌, take}

abbrev pub invariant-loop-place : goal.invariant-loop-place
invariant-loop-place g l =
    (batches_of l.batches ≡ batches_of l.fn.batches)
    × ((b p : ℕ) → state_of l.batches b p
    ≡ (if b == l.batch.0 then placed_state (take l.place-index l.places) p (state_of l.fn.batches b p) else state_of l.fn.batches b p))
    × (next_of l.batches ≡ next_of l.fn.batches) × (bytes_of l.batches ≡ bytes_of l.fn.batches)
