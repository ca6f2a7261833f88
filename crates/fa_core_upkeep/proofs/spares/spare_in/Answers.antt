use Rattle.std.proofs.Common.{sym, ◌∙◌}
use Rattle.fa_core_upkeep.proofs.spares.spare_in.Goals as goal

pub bring_in-requires-clause-out : goal.bring_in-requires-clause-out
bring_in-requires-clause-out g c = c.requires.sound.dies.apart c.args.die.0 (sym c.contains.ensures ∙ c.if-contains.true)
