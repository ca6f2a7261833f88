-- Where a request may have to wait, and what becomes of one that waits for room in vain.
use Rattle.std.specs.Prelude.{◌≡◌, ◌⊎◌, Bool, true, false, Some}
use Rattle.fa_machine.specs.Reading.{is_late}
use Rattle.fa_machine.specs.State.{Core}
use Rattle.fa_shared_steps.specs.declared.stage.Stage.{Stage}
use Rattle.fa_shared_steps.specs.declared.stage.Stage.TheVariants.{Asking, Reading, Claiming, Reserving, Committing, Abandoning}
use Rattle.fa_shared_steps.specs.declared.stage.Stage.TheVariants.{Releasing, Flushing}
use Rattle.fa_types.specs.declared.blocks.BlockFault.{BlockFault}
use Rattle.fa_types.specs.declared.blocks.BlockFault.TheVariants.{NoMemory, Spent}

-- Why no die is collected by which room would come: for want of memory, or since too few rounds are left.
abbrev pub HasNoWindow : Core → BlockFault → Type 0
HasNoWindow core fault = (fault ≡ NoMemory) ⊎ ((fault ≡ Spent) × (is_late core.calendar ≡ true))

module _ {A : Type 0} where
  -- whether a request may have to wait at a stage
  abbrev pub waits : Stage A → Bool
  waits (Asking purpose pages) = true
  waits (Reading purpose batch) = true
  waits (Claiming page) = true
  waits (Reserving held wish) = true
  waits (Committing held wish) = true
  waits (Abandoning held wish) = true
  waits (Flushing flush) = true
  waits stage = false

  -- whether it waits for room, if it waits
  abbrev pub wants_room : Stage A → Bool
  wants_room (Reserving held wish) = true
  wants_room stage = false

  -- whether it waits for a flush
  abbrev pub awaits_flush : Stage A → Bool
  awaits_flush (Flushing flush) = true
  awaits_flush stage = false

  -- A page that waits for room is released, and the request is refused so.
  abbrev pub without_room : BlockFault → Stage A → Stage A
  without_room fault (Reserving held wish) = Releasing held (Some fault)
  without_room fault stage = stage
