use Rattle.fa_solo_laws.proofs.Going.{Laws}
use Rattle.fa_solo_laws.proofs.ReadServes.{read_gives, read_on_end, read_refused}
use Rattle.fa_solo_laws.proofs.request_reads.a_read_serves.Goals as goal

pub returns : goal.returns
returns g c =
    let laws : Laws = record {
      lives = c.live_dies_are_kept.ensures;
      spares = c.spares_are_kept.ensures;
      numbers = c.numbers_are_kept.ensures;
      geometry = c.the_geometry_is_kept.ensures;
      falls = c.the_last_number_never_falls.ensures;
    } in
    record {
      gave = λ offset count seat bytes before after turns h asked ended. read_gives g.row.A.Denot laws offset count before h seat bytes turns after asked ended;
      refused = λ offset count seat bytes before after turns fault h asked ended.
          read_refused g.row.A.Denot laws offset count before h seat bytes turns after asked fault ended;
      plain = λ offset count seat bytes before after turns h asked. (read_on_end g.row.A.Denot laws offset count before h seat bytes turns after asked).goes.plain;
    }
