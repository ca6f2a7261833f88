use Rattle.fa_solo_laws.proofs.Going.{Laws}
use Rattle.fa_solo_laws.proofs.ReadServes.{read_gives}
use Rattle.fa_solo_laws.proofs.request_reads.wrong_reads_are_none.Goals as goal

pub returns : goal.returns
returns g c =
    let laws : Laws = record {
      lives = c.live_dies_are_kept.ensures;
      spares = c.spares_are_kept.ensures;
      numbers = c.numbers_are_kept.ensures;
      geometry = c.the_geometry_is_kept.ensures;
      falls = c.the_last_number_never_falls.ensures;
    } in
    record {
      bytes = λ offset count seat bytes before after turns h other ended asked.
          other (read_gives g.row.A.Denot laws offset count before h seat bytes turns after asked ended).0;
      lost = λ offset count seat page bytes before after turns h lost met ended asked.
          (read_gives g.row.A.Denot laws offset count before h seat bytes turns after asked ended).1 page lost met;
    }
