use Rattle.std.proofs.Common.{ap, ◌∙◌}
use Rattle.std.specs.FinMap.{contains_key}
use Rattle.fa_map.specs.Found.{rank_index}
use Rattle.fa_map.specs.Sets.{Sets}
use Rattle.fa_map.proofs.finder.Finder.put_block.Goals as goal

pub returns-clause-others : goal.returns-clause-others
returns-clause-others g c = λ d r b least inside apart.
    c.add_rank.ensures.others d r b least inside apart ∙ c.take_rank.ensures.others d r b least inside apart
    ∙ ap (λ (v : Sets). contains_key v.blocks (rank_index c.args.geometry d r b)) c.self.view_is
