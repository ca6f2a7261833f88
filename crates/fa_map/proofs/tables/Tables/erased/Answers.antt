use Rattle.std.proofs.Common.{◌∙◌, arith}
use Rattle.std.proofs.lemmas.List.{get_or_default}
use Rattle.fa_map.proofs.tables.Tables.erased.Goals as goal

pub returns : goal.returns
returns g c =
    let s = c.args.self.now in
    c.index.ensures ∙ get_or_default s.erased.items c.args.die.0 c.index.result.now 0 (omega (arith, c.requires, s.sound.tallied.dies))
    ∙ s.sound.tallied.free c.args.die.0 c.requires
