use Rattle.std.proofs.Common.{ap, ◌∙◌}
use Rattle.std.specs.FinMap.{contains_key, remove}
use Rattle.fa_machine.specs.Maps.{Numbers}
use Rattle.fa_set.specs.Members.{members}
use Rattle.fa_map.specs.Found.{rank_index}
use Rattle.fa_map.proofs.Found.{removed_else, removed_here}
use Rattle.fa_map.proofs.finder.take_rank.Goals as goal

pub returns-then-is_clean-clause-here : goal.returns-then-is_clean-clause-here
returns-then-is_clean-clause-here g c = λ rank least.
    let s = c.args.blocks.now in
    let k = c.args.geometry in
    ap (λ (m : Numbers). contains_key m (rank_index k c.args.die.0 rank c.args.block))
    (c.remove.ensures.members ∙ ap (λ k. remove (members s) k) c.rank_index-index.ensures.index)
    ∙ removed_here k c.args.die.0 c.args.block c.requires.block c.args.counts c.requires.few (members s)
    c.requires.was rank least

pub returns-then-is_clean-clause-others : goal.returns-then-is_clean-clause-others
returns-then-is_clean-clause-others g c = λ d r b least inside apart.
    let s = c.args.blocks.now in
    ap (λ (m : Numbers). contains_key m (rank_index c.args.geometry d r b))
    (c.remove.ensures.members ∙ ap (λ k. remove (members s) k) c.rank_index-index.ensures.index)
    ∙ removed_else c.args.geometry c.args.die.0 c.args.block c.requires.block c.args.counts c.requires.few (members s) d r b least inside apart
