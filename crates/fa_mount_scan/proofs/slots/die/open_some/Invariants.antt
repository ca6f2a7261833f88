use Rattle.std.proofs.Common.{◌≡◌, ◌+◌, ◌<◌, ℕ, length, slice_index_or}
use Rattle.fa_mount_scan.specs.ContentReading.{IsContentOf}
use Rattle.fa_mount_scan.specs.ReadingAhead.{slot_of}
use Rattle.fa_mount_scan.specs.declared.slots.content.SlotContent.TheVariants.{Stale}
use Rattle.fa_mount_scan.proofs.slots.die.open_some.Given as goal

abbrev pub invariant-found : goal.invariant-found
invariant-found l = (length l.found ≡ l.count)
    × ((k : ℕ) → k < l.i → IsContentOf (slot_of l.bytes l.buffer k) l.pages l.die.0 (l.first + k) (slice_index_or l.found k Stale))
