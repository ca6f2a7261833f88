-- Reads whose slots are opened behind them.
use Rattle.std.specs.Prelude.{◌≡◌, ◌<◌, ◌≤◌, ℕ, zero, suc, List, [], ◌∷◌, length, slice_index_or}
use Rattle.fa_core_outcome.specs.declared.outcome.Outcome.{Outcome as JobOutcome}
use Rattle.fa_core_outcome.specs.declared.outcome.Outcome.TheVariants.{Read as WasRead}
use Rattle.fa_tag.specs.SlotGrammar.{IsOpened}
use Rattle.fa_tag.specs.declared.tag.Opened.{Opened}
use Rattle.fa_jobs.specs.Opens.{Opens}
use Rattle.fa_workers_making.specs.declared.bench.MadeJob.{MadeJob}
use Rattle.fa_workers_making.specs.declared.job_memory.JobMemory.{JobMemory}

module _ {A : Type 0} where
  -- What a read gave is opened, where its memory has room for the page. Every other outcome stays, with its memory.
  abbrev pub OpensRead : JobMemory A → JobOutcome → JobMemory A → JobOutcome → Type 0
  OpensRead memory (WasRead opened) after outcome = length memory.buffer.items ≤ length memory.scratch.items
      → Opens memory.scratch.items (length memory.buffer.items) outcome after.buffer.items
  OpensRead memory before after outcome = (outcome ≡ before) × (after ≡ memory)

  -- So it is of a job that was made, which stays one of its die.
  abbrev pub OpensMade : MadeJob A → MadeJob A → Type 0
  OpensMade old new = (new.die ≡ old.die) × OpensRead old.memory old.outcome new.memory new.outcome

  -- So it is of each of them.
  abbrev pub OpensReads : List (MadeJob A) → List (MadeJob A) → Type 0
  OpensReads old new =
      (length new ≡ length old) × ((k : ℕ) (made : MadeJob A) → k < length old
      → OpensMade (slice_index_or old k made) (slice_index_or new k made))

  -- the bytes of a slot in the memory of a place, or others where there are fewer
  abbrev pub bytes_or : List ℕ → List (MadeJob A) → ℕ → List ℕ
  bytes_or others [] place = others
  bytes_or others (made ∷ rest) zero = made.memory.scratch.items
  bytes_or others (made ∷ rest) (suc place) = bytes_or others rest place

  -- the same, with those of the first memory where there are fewer
  abbrev pub bytes_at : List (MadeJob A) → ℕ → List ℕ
  bytes_at [] place = []
  bytes_at (made ∷ rest) place = bytes_or made.memory.scratch.items (made ∷ rest) place

  -- These are what stands in the first memories, as slots, for as many as there are of them.
  abbrev pub AreOpenedAt : List (MadeJob A) → List Opened → Type 0
  AreOpenedAt made opened = (k : ℕ) (d : Opened) → k < 8 → IsOpened (bytes_at made k) (slice_index_or opened k d)
