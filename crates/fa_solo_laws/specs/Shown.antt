-- An array as a block store that nobody else calls: what its callers see of it.
use Rattle.std.specs.Prelude.{ℕ, ◌*◌, ◌-◌, ◌^◌, Bool, true, not, ◌==◌, ◌&&◌, ◌||◌, nat_lt, count_by}
use Rattle.std.specs.FinMap.{len}
use Rattle.fa_machine.specs.Copies.{is_lost}
use Rattle.fa_machine.specs.Placement.{copies_asked, has_room}
use Rattle.fa_machine.specs.Reading.{is_late}
use Rattle.fa_machine.specs.State.{Core, MapState, dies_of}
use Rattle.fa_machine.specs.World.{World}
use Rattle.fa_shared_lock.specs.Founded.{may_collect}
use Rattle.fa_types.specs.Plain.{export}
use Rattle.fa_types.specs.Store.{Store}

-- how many live dies have room
abbrev pub roomy : MapState → ℕ
roomy m = count_by (has_room m) (dies_of m)

-- A write asks for more dies than have room, and none that has no room can be collected.
abbrev pub is_crowded : Core → Bool
is_crowded core = nat_lt (roomy core.page_map) (copies_asked core.copies core.page_map) && not (may_collect core.page_map)

-- no number is left, so few rounds are left that nothing is planned, or no flush is left
abbrev pub is_spent : Core → Bool
is_spent core = core.last == 2 ^ 62 - 1 || is_late core.calendar || core.flushes == 2 ^ 62

-- A page is lost where it was written and no live die holds it.
abbrev pub store_of : World → Store
store_of w = record {
  size = w.core.page_map.geometry.pages * w.core.page_map.geometry.page_bytes;
  page_bytes = w.core.page_map.geometry.page_bytes;
  alone = true;
  lost = is_lost w.core.page_map;
  content = export w.plain;
  no_die_live = len w.core.page_map.live == 0;
  no_room = is_crowded w.core;
  spent = is_spent w.core;
}
