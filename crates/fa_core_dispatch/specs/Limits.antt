-- How large the numbers of an array may be.
use Rattle.std.specs.Prelude.{ℕ, ◌*◌, ◌^◌, ◌<◌, ◌≤◌}
use Rattle.fa_machine.specs.State.{Core}

-- the limits of a geometry, of the numbers and of the epoch
pub record HasLimits (core : Core) : Type 0 where
  pub dies : core.page_map.geometry.dies ≤ 64
  pub pages : core.page_map.geometry.pages ≤ 1048576
  pub slots : core.page_map.geometry.blocks * core.page_map.geometry.slots ≤ 1048576
  pub last : core.last < 2 ^ 62
  pub epoch : core.epoch ≤ 2 ^ 62
