use Rattle.fa_core_batches.proofs.Counts.{torn_is}
use Rattle.fa_core_batches.proofs.Opened.{has_list}
use Rattle.std.proofs.Common.{sym, ◌∙◌}
use Rattle.std.proofs.lemmas.Option.{none-some}
use Rattle.fa_core_batches.proofs.batches.Batches.has_torn.Goals as goal

pub returns-in-Some : goal.returns-in-Some
returns-in-Some g c =
    torn_is _ _ _ _ c.args.self.now.whole c.args.self.now.counted c.args.batch.0 c.in-Some.list.now (sym c.in-Some.ensures.value)

pub returns-in-None : goal.returns-in-None
returns-in-None g c =
    let list = has_list c.args.self.now.lists.entries c.args.self.now.pages.entries c.args.batch.0 c.requires in
    absurd (none-some list.0 (c.in-None.ensures.value ∙ list.1))
