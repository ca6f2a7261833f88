use Rattle.std.proofs.Common.{length, map, subst, ◌≡◌}
use Rattle.fa_shared_lock.specs.Only.{IsPart, dies_told}
use Rattle.fa_workers.proofs.Opened.{opens_kept}
use Rattle.fa_workers_making.specs.Begun.{OpensReads}
use Rattle.fa_workers.specs.Held.{numbers_of, told_of}
use Rattle.fa_workers.proofs.helping.HelperHands.work.Goals as goal

pub returns-clause-part : goal.returns-clause-part
returns-clause-part g c =
    let lifted = c.lift_all.new.made in
    opens_kept lifted.items c.open_reads.new.made lifted.len
    (subst (λ made. OpensReads made c.open_reads.new.made) c.as_mut_slice.ensures.value c.open_reads.ensures)
    (subst (λ made. length made ≡ lifted.len) c.as_mut_slice.ensures.value c.as_mut_slice.ensures.len)
    (numbers_of c.args.self.now.memory.dies.items)
    (subst (λ dies. IsPart (dies_told (map told_of lifted.items)) (numbers_of dies)) c.as_slice-dies-2.ensures.value c.lift_all.ensures)
