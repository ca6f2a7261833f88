use Rattle.std.proofs.Common.{rules, ◌∙◌, [], ◌∷◌, take}
use Rattle.fa_core_tables.proofs.Three.{three_of}
use Rattle.fa_machine.specs.Taking.{mark as rule_mark}
use Rattle.fa_core_tables.proofs.targets.Targets.mark.Goals as goal

pub returns : goal.returns
returns c =
    (λ i. take c.args.self.now.count (c.marked.ensures i ∷ c.marked-2.ensures i ∷ c.marked-3.ensures i ∷ []))
    ∙ three_of (rule_mark c.args.die.0 c.args.slot.0) c.args.self.now.items _ c.args.self.now.count (search rules)
