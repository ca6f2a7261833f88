use Rattle.fa_crash.proofs.Among.{among_alone, among_run, before_first, has_flushed, others_any}
use Rattle.fa_crash.proofs.Promised.{promised}
use Rattle.fa_crash.proofs.requests.a_flush_promises_each_page.Goals as goal
use Rattle.fa_machine.specs.Run.{Happening}
use Rattle.fa_solo_laws.specs.Asked.{happenings_of}

-- anything may happen
abbrev IsAny : Happening → Type 0
IsAny happening = Unit {0}

pub returns : goal.returns
returns g c = record {
  run = λ t seat bytes before after turns asked. among_run g.row.A.Denot t seat bytes before turns after asked;
  promised = λ first earlier t seat page bytes before after turns u v begins cells led flushes early asked ended run written.
      promised (record {
        numbers = c.numbers_are_kept.ensures;
        raises = c.a_commit_raises_the_number.ensures;
        sound = c.a_step_keeps_sound.ensures;
      })
      c.a_beginning_is_sound.ensures first before.world earlier u begins cells led page IsAny (happenings_of turns) after.world v
      (has_flushed g.row.A.Denot IsAny (λ flush. tt) t seat bytes flushes before turns after early asked (others_any turns) ended) run written;
  beginning = λ t flushes. before_first g.row.A.Denot t flushes;
  alone = λ t seat bytes before after turns asked. among_alone g.row.A.Denot t seat bytes before turns after asked;
}
