use Rattle.std.proofs.Common.{◌∙◌, Some, ap, refl, sym}
use Rattle.std.proofs.lemmas.Option.{get_or_from_slice_get}
use Rattle.fa_solo_job.proofs.Taken.{ran_by}
use Rattle.fa_solo_job.proofs.running.call_image.Goals as goal

pub returns-clause-ran : goal.returns-clause-ran
returns-clause-ran g c = let placed = c.requires.placed in
    let same = c.index_mut.ensures.value ∙ get_or_from_slice_get c.args.inner.now.images.items c.args.place placed.image c.index_mut.result.now placed.image_is in record {
      before = c.index_mut.result.now;
      after = c.run_job.new.image;
      image_is = placed.image_is ∙ ap Some (sym same);
      ran = ran_by _ _ _ _ _ _ _ _ _ _ _ _ (ap (λ i. (g.I.Image.view i).geometry) same ∙ placed.shape)
          (c.array_id-array.ensures ∙ c.array.ensures.number)
          refl
          c.run_job.ensures.ran;
      images_are = refl;
    }
