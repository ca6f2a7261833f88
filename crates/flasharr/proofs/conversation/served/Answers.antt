use Rattle.std.proofs.Common.{◌∙◌, ◌+◌, ◌^◌, ◌≤◌, ap, arith, map, refl, subst}
use Rattle.std.specs.FinMap.{len}
use Rattle.fa_machine.specs.State.{Core}
use Rattle.flasharr.proofs.Said.{closes_by, session_by}
use Rattle.flasharr.proofs.Seen.{session_seen}
use Rattle.fa_faults.specs.Faults.{faults_of}
use Rattle.fa_solo.specs.Stores.{StoreMakes, seen_of}
use Rattle.fa_solo_job.specs.House.{House}
use Rattle.flasharr.proofs.conversation.served.Goals as goal

pub returns : goal.returns
returns g c array dies core images begins =
    let first = seen_of c.args.store in
    let last = seen_of c.serve_stream-end.new.blocks in
    let house = c.into_parts-array.ensures.house in
    let its_core = ap (λ (h : House g.row.I.Denot). h.core) house in
    let its_images = c.as_mut_slice.ensures.value ∙ ap (λ (h : House g.row.I.Denot). h.images) house in (
      faults_of last.inner.faults,
      record {
        left = c.serve_stream-end.new.reader.now;
        first = first;
        last = last;
        images = c.close-closed.new.images;
        begins = begins;
        session = session_by _ _ _ _ _ _ _ _ _ _ _ _ c.as_str-export.ensures.value c.new-written.ensures.items
            (session_seen _ (StoreMakes g.I.Image.made) seen_of (λ before after call answer it. it) _ _ _ _ _ _ c.serve_stream-end.ensures);
        kept = refl;
        epoch = (
          subst (λ (k : Core). 1 ≤ k.epoch) its_core c.into_parts-array.ensures.whole.ready.epoch,
          subst (λ (k : Core). k.epoch + len k.page_map.live ≤ 2 ^ 62) its_core (let room = c.into_parts-array.ensures.whole.fitted.epoch in omega (arith, room)),
        );
        closes = closes_by g.I.Image.made _ _ _ _ _ _ _ _ _ _ its_core c.into_parts-array.ensures.number (ap (λ v. v.items) c.into_parts-array.ensures.dies) its_images
            c.close-closed.ensures.closes;
        slots = c.close-closed.ensures.slots ∙ ap (map (λ image. (g.I.Image.view image).slots)) its_images;
        as_honest = c.close-closed.ensures.honest ∙ ap (map g.I.Image.honest) its_images;
      },
      c.faults-faults.ensures,
    )
