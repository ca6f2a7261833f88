-- What a crash may take back: what was written to the images of dies since they were last synced.
use Rattle.std.specs.Prelude.{ℕ, Bool, ◌==◌, if◌then◌else◌, List, [], ◌∷◌, Option, Some, option_and_then}
use Rattle.std.specs.Option.{option_map_or}
use Rattle.std.specs.FinMap.{get}
use Rattle.fa_machine.specs.Cells.{Cell}
use Rattle.fa_machine.specs.Collecting.{is_in_block}
use Rattle.fa_machine.specs.Run.{Happening, Event, ImageCall}
use Rattle.fa_machine.specs.State.{Core}
use Rattle.fa_machine.specs.World.{World, JobCall, ProgramsSlot, ErasesBlock, WritesHeader, Syncs, Gave, Accepted, Refused}
use Rattle.fa_machine.specs.World.{HeaderTells, next_call, with_value}

pub record Unsynced : Type 0 where
  -- the cells that a slot had since its image's last accepted sync or header, by die and slot; the present one is left out
  pub since : ℕ → ℕ → List Cell
  -- the headers that an image had since then, and those that it refused, by die; the present one is left out
  pub heads : ℕ → List (Option HeaderTells)
  -- the number that a page had then, by die and page; 0 where it had none
  pub kept : ℕ → ℕ → ℕ

-- the number of a page's last write, 0 where it was never written
abbrev pub number_of : Core → ℕ → ℕ
number_of core page = option_map_or (λ version. version.seq.0) (get core.page_map.versions page) 0

-- nothing: the images were synced, and not written to since
abbrev pub nothing_unsynced : World → Unsynced
nothing_unsynced w = record { since = λ die slot. []; heads = λ die. []; kept = λ die page. number_of w.core page }

-- an accepted sync or header makes all of its die durable
abbrev pub made_durable : World → ℕ → Unsynced → Unsynced
made_durable w die u = record {
  since = with_value die (λ slot. []) u.since;
  heads = with_value die [] u.heads;
  kept = with_value die (number_of w.core) u.kept;
}

-- a write of some slots of a die: each had the cell before
abbrev pub written_to : World → ℕ → (ℕ → Bool) → Unsynced → Unsynced
written_to w die names u = record u {
  since = with_value die (λ slot. if names slot then (w.images die).seen slot ∷ u.since die slot else u.since die slot) u.since;
}

-- What is unsynced behind a call of a die's image. A program or an erase counts whether it was accepted or refused.
abbrev pub behind_call : World → ℕ → JobCall → Gave → Unsynced → Unsynced
behind_call w die (ProgramsSlot slot cell) gave u = written_to w die (λ s. s == slot) u
behind_call w die (ErasesBlock block) gave u = written_to w die (is_in_block w.core.page_map block) u
behind_call w die (WritesHeader epoch live) Accepted u = made_durable w die u
behind_call w die (WritesHeader epoch live) Refused u =
    record u { heads = with_value die ((w.images die).header ∷ Some (record { epoch = epoch; live = live }) ∷ u.heads die) u.heads }
behind_call w die Syncs Accepted u = made_durable w die u
behind_call w die call gave u = u

-- the call that the job of a die makes next
abbrev pub call_of : World → ℕ → Option JobCall
call_of w die = option_and_then (λ k. next_call die k.job k.gave) (w.works die)

-- what is unsynced behind something that happens: no event writes to an image
abbrev pub unsynced_behind : World → Happening → Unsynced → Unsynced
unsynced_behind w (Event act) u = u
unsynced_behind w (ImageCall die gave) u = option_map_or (λ call. behind_call w die call gave u) (call_of w die) u
