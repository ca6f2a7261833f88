use Rattle.fa_cmds.specs.declared.request.Command.TheVariants.{Flush, Trim, WriteZeroes}
use Rattle.fa_session.specs.Announced.{send_flush, send_trim, send_write_zeroes}
use Rattle.fa_session.proofs.Announcing.{by_its_bit, exactly, fua}
use Rattle.fa_session.proofs.laws.flags_announce_what_may_be_done.Goals as goal

pub returns-clause-flush : goal.returns-clause-flush
returns-clause-flush c = by_its_bit Flush send_flush (λ is. is) (λ is. is)

pub returns-clause-trim : goal.returns-clause-trim
returns-clause-trim c = by_its_bit Trim send_trim (λ is. is) (λ is. is)

pub returns-clause-write_zeroes : goal.returns-clause-write_zeroes
returns-clause-write_zeroes c = by_its_bit WriteZeroes send_write_zeroes (λ is. is) (λ is. is)

pub returns-clause-fua : goal.returns-clause-fua
returns-clause-fua c = fua

pub returns-clause-exactly : goal.returns-clause-exactly
returns-clause-exactly c = exactly
