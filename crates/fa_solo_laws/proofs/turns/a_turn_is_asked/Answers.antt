use Rattle.fa_solo_laws.proofs.OneTurn.{turn_asked}
use Rattle.std.proofs.Common.{refl}
use Rattle.fa_solo_laws.proofs.turns.a_turn_is_asked.Goals as goal

pub returns : goal.returns
returns g c = record {
  turned = λ t bytes answer before after w new stage next turned.
      turn_asked g.row.L.Denot g.row.A.Denot t bytes answer before after w new stage next turned;
  prepared = λ t seat bytes answer given w stage next made. (record { world = w; stage = next; answer = given }, (refl, made), refl);
}
