-- What a page map in tables shows, and how many looks its last slot took.
use Rattle.std.specs.Prelude.{ℕ}
use Rattle.fa_machine.specs.State.{MapState}
use Rattle.fa_map.specs.declared.page_map.PageMap.{PageMap}

module _ {A : Type 0} where
  abbrev pub page_view : PageMap A → MapState
  page_view map = map.history.shown

  abbrev pub looks_of : PageMap A → ℕ
  looks_of map = map.last_looks
