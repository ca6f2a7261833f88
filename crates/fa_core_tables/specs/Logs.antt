-- What contracts see of a log: the history, and the base that it goes on from.
use Rattle.std.specs.Prelude.{List}
use Rattle.fa_machine.specs.State.{Base}
use Rattle.fa_machine.specs.declared.answers.HistoryEntry.{HistoryEntry}
use Rattle.fa_core_tables.specs.declared.log.Log.{Log}

module _ {A : Type 0} where
  abbrev pub history_of : Log A → List HistoryEntry
  history_of log = log.entries.items

  abbrev pub base_of : Log A → Base
  base_of log = log.base.shown
