use Rattle.fa_solo_laws.proofs.Going.{Laws}
use Rattle.fa_solo_laws.proofs.Serving.{asked_reached, request_meets, request_serves}
use Rattle.fa_solo_laws.proofs.PlainBytes.{export_long}
use Rattle.fa_solo_laws.proofs.Sized.{page_some, reached_sized}
use Rattle.fa_laws.proofs.Answering.{reached_holds}
use Rattle.std.proofs.Common.{[], ap, refl, sym, ◌*◌, ◌∙◌}
use Rattle.std.proofs.lemmas.Option.{none-some}
use Rattle.fa_machine.specs.State.{Core}
use Rattle.fa_solo_laws.proofs.requests.a_request_serves.Goals as goal

pub returns : goal.returns
returns g c =
    let laws : Laws = record {
      lives = c.live_dies_are_kept.ensures;
      spares = c.spares_are_kept.ensures;
      numbers = c.numbers_are_kept.ensures;
      geometry = c.the_geometry_is_kept.ensures;
      falls = c.the_last_number_never_falls.ensures;
    } in
    record {
      serves = λ request seat bytes before after turns end h many asked ended.
          request_serves g.row.A.Denot laws before request h seat bytes many turns after asked end ended;
      meets = λ request seat bytes before after turns end h many asked ended.
          request_meets g.row.A.Denot laws before request h seat bytes many turns after asked end ended;
      reached = λ t seat bytes before after turns reached asked. asked_reached g.row.A.Denot laws before t seat bytes before turns after reached asked;
      calm = λ w begins. (
        record { first = w; happenings = []; beginning = begins; run = refl },
        λ copying is lost. none-some copying (sym (ap (λ (core : Core). core.copying) begins.fresh) ∙ is),
      );
      whole = λ w reached. record {
        some_bytes = page_some w.core.page_map.geometry;
        sized = λ alone. export_long w.core.page_map.geometry.page_bytes w.plain (reached_sized laws.geometry w reached)
            ∙ ap (λ n. n * w.core.page_map.geometry.page_bytes) (reached_holds w reached).plain;
      };
    }
