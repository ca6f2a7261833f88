use Rattle.fa_core_batches.proofs.Placed.{written}
use Rattle.fa_core_batches.specs.Pages.{page_at, with_answer}
use Rattle.std.proofs.Common.{ap, rules, ◌∙◌, ◌≡◌}
use Rattle.std.specs.Prelude.{if◌then◌else◌, option_map, ◌&&◌, ◌==◌}
use Rattle.fa_core_batches.proofs.pages.set_answer.Goals as goal

pub returns-clause-pages : goal.returns-clause-pages
returns-clause-pages g c b p =
    let same : c.swap.new.x ≡ c.args.buffer.now = search rules in
    let old = c.args.pages.now.entries in
    written old _ c.args.batch.0 c.args.page.0 (with_answer c.swap.new.x) c.in_ok-entry.entry.now
    c.in_ok-entry.ensures.value ((c.get_mut.follows.holds _).3 (search rules)).0 b p
    ∙ ap (λ v. if b == c.args.batch.0 && p == c.args.page.0 then option_map (with_answer v) (page_at old b p) else page_at old b p) same
