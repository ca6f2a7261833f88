use Rattle.std.proofs.Common.{◌∙◌, ◌*◌, ap}
use Rattle.fa_machine.specs.State.{Core}
use Rattle.fa_solo_job.specs.House.{House}
use Rattle.flasharr.proofs.conversation.converse.Goals as goal

pub returns-in-Ok : goal.returns-in-Ok
returns-in-Ok g c =
    let its_core = ap (λ (h : House g.row.I.Denot). h.core) c.in-Ok.ensures.house in
    c.served.ensures _ _ _ _
    (record {
      core_is = its_core;
      number = c.in-Ok.ensures.number;
      dies_are = ap (λ v. v.items) c.in-Ok.ensures.dies;
      images_are = ap (λ (h : House g.row.I.Denot). h.images) c.in-Ok.ensures.house;
      bytes = c.in-Ok.ensures.bytes ∙ ap (λ (k : Core). k.page_map.geometry.pages * k.page_map.geometry.page_bytes) its_core;
      page_bytes = c.in-Ok.ensures.page ∙ ap (λ (k : Core). k.page_map.geometry.page_bytes) its_core;
    })
