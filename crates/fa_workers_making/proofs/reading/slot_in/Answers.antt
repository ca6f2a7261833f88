use Rattle.std.proofs.Common.{◌∙◌}
use Rattle.fa_workers_making.proofs.Begun.{bytes_in, first_past}
use Rattle.fa_workers_making.proofs.reading.slot_in.Goals as goal

pub returns-then-place-made : goal.returns-then-place-made
returns-then-place-made g c =
    c.as_slice.ensures.value
    ∙ first_past c.args.made.now c.args.place c.index-made-0.result c.if-made-eq0.false c.if-place-made.true

pub returns : goal.returns
returns g c = c.as_slice-2.ensures.value ∙ bytes_in c.args.made.now c.args.place c.index-made-place.result c.if-place-made.false
