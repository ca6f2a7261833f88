use Rattle.fa_core_batches.proofs.Placed.{written}
use Rattle.fa_core_batches.specs.Pages.{with_state}
use Rattle.std.proofs.Common.{rules}
use Rattle.fa_core_batches.proofs.pages.set_state.Goals as goal

pub returns-clause-pages : goal.returns-clause-pages
returns-clause-pages g c =
    written c.args.pages.now.entries _ c.args.batch.0 c.args.page.0 (with_state c.args.state) c.in_ok-entry.entry.now
    c.in_ok-entry.ensures.value ((c.get_mut.follows.holds _).3 (search rules)).0
