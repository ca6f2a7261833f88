-- What a plain page map shows.
use Rattle.fa_machine.specs.State.{MapState}
use Rattle.fa_plain_map.specs.declared.plain_map.PlainMap.{PlainMap}

module _ {A : Type 0} where
  abbrev pub plain_view : PlainMap A → MapState
  plain_view map = map.history.shown
