use Rattle.std.proofs.Common.{◌+◌, ◌*◌, ap, ◌∙◌, arith}
use Rattle.std.proofs.lemmas.List.{get_or_default}
use Rattle.fa_map.specs.Entries.{count_of, no_counts}
use Rattle.fa_map_calls.proofs.Indices.{index_fits}
use Rattle.fa_map.proofs.tables.Tables.counts.Goals as goal

pub returns : goal.returns
returns g c = λ state.
    let s = c.args.self.now in
    let fits = index_fits c.args.die.0 c.args.block s.geometry.dies s.geometry.blocks c.requires.die c.requires.block in
    ap (count_of state) (c.index.ensures ∙ get_or_default s.counts.items (c.args.die.0 * s.geometry.blocks + c.args.block) c.index.result.now no_counts (omega (arith, fits, s.sound.tallied.blocks)))
    ∙ s.sound.tallied.counted c.args.die.0 c.args.block state c.requires.die c.requires.block
