use Rattle.fa_solo_laws.proofs.Going.{Laws}
use Rattle.fa_solo_laws.proofs.Serving.{request_strays, write_serves}
use Rattle.fa_types.specs.declared.blocks.BlockFault.TheVariants.{NoRoom, Spent}
use Rattle.std.proofs.Common.{None, Some, sym, ◌∙◌}
use Rattle.std.proofs.lemmas.Bool.{false≢true}
use Rattle.fa_solo_laws.proofs.requests.wrong_requests_are_none.Goals as goal

pub returns : goal.returns
returns g c =
    let laws : Laws = record {
      lives = c.live_dies_are_kept.ensures;
      spares = c.spares_are_kept.ensures;
      numbers = c.numbers_are_kept.ensures;
      geometry = c.the_geometry_is_kept.ensures;
      falls = c.the_last_number_never_falls.ensures;
    } in
    record {
      strays = λ request seat bytes before middle after turns h many asked strays.
          request_strays g.row.A.Denot laws before request h seat bytes many turns middle after asked strays;
      bytes = λ offset count seat i fua bytes before after turns h many low there other ended asked.
          other ((write_serves g.row.A.Denot laws before offset count fua h seat bytes many turns after asked None ended).content i low there);
      room = λ offset count seat fua bytes before after turns h many room ended asked.
          false≢true (sym room ∙ (write_serves g.row.A.Denot laws before offset count fua h seat bytes many turns after asked (Some NoRoom) ended).0);
      spent = λ offset count seat fua bytes before after turns h many left ended asked.
          false≢true (sym left ∙ (write_serves g.row.A.Denot laws before offset count fua h seat bytes many turns after asked (Some Spent) ended).0);
    }
