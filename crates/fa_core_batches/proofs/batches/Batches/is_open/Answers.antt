use Rattle.std.proofs.Common.{◌∙◌}
use Rattle.fa_core_batches.proofs.Opened.{open_at}
use Rattle.fa_core_batches.proofs.batches.Batches.is_open.Goals as goal

pub returns : goal.returns
returns g c = c.contains_key.ensures ∙ open_at c.args.self.now.lists.entries c.args.self.now.pages.entries c.args.batch.0
