use Rattle.fa_laws.proofs.Pending.{read_gives}
use Rattle.fa_laws.proofs.reads.a_read_gives_the_page_of_its_take.Goals as goal

pub returns : goal.returns
returns c w middle last after die seat job batch page version slot happenings cell reached took is run none done =
    read_gives w middle last after die seat job batch page version slot happenings cell reached took is run none done
