use Rattle.std.proofs.Common.{◌∙◌, ◌<◌, ap, length, rules, sym, Some}
use Rattle.std.proofs.lemmas.Option.{slice_get-get_or}
use Rattle.fa_solo_job.proofs.inner.Inner.place.Goals as goal

pub returns : goal.returns
returns g c =
    let inside : c.in_ok-place.place < length c.args.self.now.images.items = search rules in record {
      place_is = search rules;
      inside = inside;
      image = c.index.result.now;
      image_is = slice_get-get_or c.args.self.now.images.items c.in_ok-place.place c.index.result.now inside
          ∙ ap Some (sym c.index.ensures);
      shape = c.is_of.ensures c.if-not-is_of.false ∙ c.geometry.ensures;
    }
