-- Spares that are brought in.
use Rattle.std.specs.Prelude.{◌≡◌, ◌⊎◌, ℕ, ◌-◌, ◌<◌, Bool, true, false, ◌&&◌, nat_le, nat_lt, count_by, Ok}
use Rattle.std.specs.FinMap.{contains_key}
use Rattle.fa_machine.specs.Maps.{below}
use Rattle.fa_machine.specs.State.{Core, MapState, is_live}
use Rattle.fa_machine.specs.Step.{SpareIn, Step}

-- how many of the dies below a number are live
abbrev pub live_below : MapState → ℕ → ℕ
live_below m dies = count_by (is_live m) (below dies)

-- A die is live, and fewer than are to be in use.
abbrev pub wants_spare : MapState → Bool
wants_spare m =
    nat_le 1 (live_below m m.geometry.dies) && nat_lt (live_below m m.geometry.dies) (m.geometry.dies - m.geometry.spares)

-- no spare: the die is live, or is none of the spares
abbrev pub IsNoSpare : Core → ℕ → Type 0
IsNoSpare core die = (is_live core.page_map die ≡ true) ⊎ (contains_key core.spares die ≡ false)

-- The die is brought in, if it is a spare.
pub data BringsInOne (old : Core) (die : ℕ) (brought : Bool) (new : Core) : Type 0 where
  Brought : brought ≡ true → Step old (SpareIn die (Ok tt)) new → BringsInOne old die brought new
  NoSpare : brought ≡ false → IsNoSpare old die → new ≡ old → BringsInOne old die brought new

-- The lowest spare is brought in, where the array wants one.
pub data BringsIn (old : Core) (brought : Bool) (new : Core) : Type 0 where
  Lowest : (die : ℕ) → brought ≡ true → wants_spare old.page_map ≡ true → ((lower : ℕ) → lower < die → IsNoSpare old lower)
      → Step old (SpareIn die (Ok tt)) new → BringsIn old brought new
  WantsNone : brought ≡ false → wants_spare old.page_map ≡ false → new ≡ old → BringsIn old brought new
  HasNone : brought ≡ false → ((die : ℕ) → die < old.page_map.geometry.dies → IsNoSpare old die) → new ≡ old → BringsIn old brought new
