use Rattle.toml.proofs.Views.{table_get}
use Rattle.fa_settings.proofs.table.value_at.Goals as goal

pub returns : goal.returns
returns c = rw (← c.name.ensures) (table_get c.get.result c.name.result.now c.args.table.now.entries c.get.ensures.value)
