use Rattle.std.proofs.Common.{refl}
use Rattle.fa_solo.proofs.Asked.{runs_turn_seen}
use Rattle.fa_solo.proofs.requests.turn.Goals as goal

pub returns : goal.returns
returns g c = λ bytes.
    runs_turn_seen _ bytes _ _ _ _ _ _ c.give_back.ensures.op c.give_back.ensures.locked c.make_turn.ensures.turned c.make_turn.ensures.task
    c.make_turn.ensures.answer c.make_turn.ensures.account refl refl
