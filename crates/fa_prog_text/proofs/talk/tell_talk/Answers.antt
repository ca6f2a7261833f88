use Rattle.fa_prog_text.proofs.TalkLemmas.{refused_talk}
use Rattle.fa_prog_text.proofs.talk.tell_talk.Goals as goal

pub returns-in-Err : goal.returns-in-Err
returns-in-Err g c = refused_talk _ _ _ _ _ _ (c.refuse_text.ensures c.args.text.now c.in-Err.ensures.fault)
