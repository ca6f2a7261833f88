-- A page map's part of the array's state after one call.
use Rattle.fa_machine.specs.declared.places.Used.TheVariants.{Reserved, Held, Stale}
use Rattle.fa_machine.specs.State.{MapState}
use Rattle.fa_map_calls.specs.Changes.{with_used, made_current, renewed, brought_in, dropped, without_block}
use Rattle.fa_map.specs.declared.change.Change.{Change}
use Rattle.fa_map.specs.declared.change.Change.TheVariants.{Take, MakeCurrent, Renew, Hold, MakeStale, BringIn, DropDie, EraseBlock}

-- the state after a change
abbrev pub changed : Change → MapState → MapState
changed (Take die slot) m = with_used die.0 slot.0 Reserved m
changed (MakeCurrent page version die slot) m = made_current page version die.0 slot.0 m
changed (Renew page version) m = renewed page.0 version m
changed (Hold page version die slot) m = with_used die.0 slot.0 (Held page version) m
changed (MakeStale die slot) m = with_used die.0 slot.0 Stale m
changed (BringIn die) m = brought_in die.0 m
changed (DropDie die) m = dropped die.0 m
changed (EraseBlock die block) m = without_block die.0 block.0 m
