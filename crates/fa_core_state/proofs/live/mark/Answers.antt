use Rattle.fa_set.specs.Members.{Numbers, members}
use Rattle.fa_set.proofs.Changed.{inserted_here, inserted_other, removed_here, removed_other}
use Rattle.std.proofs.Common.{ap, sym, ◌∙◌}
use Rattle.std.specs.FinMap.{contains_key}
use Rattle.fa_core_state.proofs.live.mark.Goals as goal

pub returns-then-is_live-clause-here : goal.returns-then-is_live-clause-here
returns-then-is_live-clause-here g c =
    ap (λ (m : Numbers). contains_key m c.args.die.0) c.insert.ensures.members ∙ inserted_here (members c.args.set.now) c.args.die.0
    ∙ sym (sym c.is_live.ensures ∙ c.if-is_live.true)

pub returns-then-is_live-clause-others : goal.returns-then-is_live-clause-others
returns-then-is_live-clause-others g c k apart =
    ap (λ (m : Numbers). contains_key m k) c.insert.ensures.members ∙ inserted_other (members c.args.set.now) c.args.die.0 k apart

pub returns-else-is_live-clause-here : goal.returns-else-is_live-clause-here
returns-else-is_live-clause-here g c =
    ap (λ (m : Numbers). contains_key m c.args.die.0) c.remove.ensures.members ∙ removed_here (members c.args.set.now) c.args.die.0
    ∙ sym (sym c.is_live.ensures ∙ c.if-is_live.false)

pub returns-else-is_live-clause-others : goal.returns-else-is_live-clause-others
returns-else-is_live-clause-others g c k apart =
    ap (λ (m : Numbers). contains_key m k) c.remove.ensures.members ∙ removed_other (members c.args.set.now) c.args.die.0 k apart
