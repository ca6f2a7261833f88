use Rattle.fa_machine.proofs.NumberTables.{none_in, no_entries}
use Rattle.fa_core_batches.specs.Pages.{batch_in}
use Rattle.fa_core_batches.proofs.batches.Batches.is_empty.Goals as goal

pub returns : goal.returns
returns g c =
    let es = c.args.self.now.lists.entries in
    let f = batch_in c.args.self.now.pages.entries in
    (λ is. none_in f es (c.is_empty.ensures.0 is), λ none. c.is_empty.ensures.1 (no_entries f es none))
