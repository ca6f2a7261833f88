use Rattle.fa_shared_request.proofs.Counts.{goes_further, turned_on}
use Rattle.fa_shared_turns.proofs.turning.turn_further.Goals as goal

pub returns-then-matches : goal.returns-then-matches
returns-then-matches g c =
    goes_further _ _ _ _ _ _ c.loop.invariant
    (turned_on _ _ _ _ _ _ c.make_turn-turn.ensures.turned c.make_turn-turn.ensures.task c.make_turn-turn.ensures.account.number)

pub returns-then-not-matches : goal.returns-then-not-matches
returns-then-not-matches g c =
    goes_further _ _ _ _ _ _ c.loop.invariant
    (turned_on _ _ _ _ _ _ c.make_turn-turn.ensures.turned c.make_turn-turn.ensures.task c.make_turn-turn.ensures.account.number)

pub loop-preserved : goal.loop-preserved
loop-preserved g c =
    goes_further _ _ _ _ _ _ c.loop.invariant
    (turned_on _ _ _ _ _ _ c.make_turn-turn.ensures.turned c.make_turn-turn.ensures.task c.make_turn-turn.ensures.account.number)
