-- The events of flushes and of the history: FlushBegin, FlushState, Fold.
use Rattle.std.specs.Prelude.{◌≡◌, ℕ, ◌+◌, ◌^◌, Bool, true, false, not, ◌==◌, ◌&&◌}
use Rattle.std.specs.Prelude.{◌||◌, nat_le, if◌then◌else◌, [], map, slice_index_or, Result, Ok, Err, unwrap_or}
use Rattle.std.specs.List.{list_any, list_all}
use Rattle.std.specs.FinMap.{get, keys}
use Rattle.fa_machine.specs.declared.answers.Flush.{Flush}
use Rattle.fa_machine.specs.declared.answers.FlushState.{FlushState}
use Rattle.fa_machine.specs.declared.answers.FlushState.TheVariants.{Waiting, Synced, NoDie}
use Rattle.fa_machine.specs.declared.refusals.FlushRefused.{FlushRefused}
use Rattle.fa_machine.specs.declared.refusals.FlushRefused.TheVariants.{Spent}
use Rattle.fa_machine.specs.History.{folded}
use Rattle.fa_machine.specs.Maps.{below, insert_all}
use Rattle.fa_machine.specs.State.{Core, is_live, dies_of}

-- FlushBegin: each live die is asked for a sync. 2^62 flushes are the most.
abbrev pub BeginsFlush : Core → Result Flush FlushRefused → Core → Type 0
BeginsFlush old (Ok flush) new =
    ((old.flushes == 2 ^ 62) ≡ false) × (flush.number ≡ old.flushes + 1) × (flush.live ≡ map (is_live old.page_map) (below 64))
    × (new ≡ record old { flushes = old.flushes + 1; asked = insert_all (keys old.page_map.live) (old.flushes + 1) old.asked })
BeginsFlush old (Err Spent) new = ((old.flushes == 2 ^ 62) ≡ true) × (new ≡ old)

-- whether a flush no longer waits for a die: it was not live then, is out, or has ended a sync taken since
abbrev pub has_synced : Core → Flush → ℕ → Bool
has_synced core flush die =
    not (slice_index_or flush.live die false) || not (is_live core.page_map die) || nat_le flush.number (unwrap_or (get core.synced die) 0)

-- How a flush stands. It is synced only where a die that was live when it began is live still.
abbrev pub flush_state : Core → Flush → FlushState
flush_state core flush =
    if not (list_any (λ die. slice_index_or flush.live die false && is_live core.page_map die) (dies_of core.page_map)) then NoDie
    else (if list_all (has_synced core flush) (dies_of core.page_map) then Synced else Waiting)

-- Fold: the history is taken into its base.
abbrev pub Folds : Core → Core → Type 0
Folds old new = new ≡ record old { base = folded old.base old.history; history = [] }
