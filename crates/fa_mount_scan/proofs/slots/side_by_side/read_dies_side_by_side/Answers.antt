use Rattle.std.proofs.Common.{List, Option, length, sym, subst, arith}
use Rattle.std.proofs.lemmas.Option.{slice_get_within}
use Rattle.fa_mount_scan.specs.Readings.{AreReadingsOf}
use Rattle.fa_mount_scan.specs.declared.slots.readings.Reading.{Reading}
use Rattle.fa_mount_scan.proofs.SideOutcomes.{all_ready, side_only_read, side_outcomes}
use Rattle.fa_mount_scan.proofs.slots.side_by_side.read_dies_side_by_side.Goals as goal

-- src/side_by_side.rt:32:5
pub read_images-requires-clause-ready : goal.read_images-requires-clause-ready
read_images-requires-clause-ready g c κs within =
    all_ready g.I.Image.view c.args.geometry c.args.images.now c.args.standings.now (length c.args.standings.now) c.as_mut_slice-ready.result.now
    c.requires.readable
    (subst (λ (l : List (Option (Reading g.row.A.Denot))). AreReadingsOf c.args.geometry c.args.standings.now (length c.args.standings.now) (length c.args.images.now) l)
    (sym c.as_mut_slice-ready.ensures.value) c.in_ok-readings.ensures)

-- src/side_by_side.rt:33:5
pub take_outcomes-requires-clause-within : goal.take_outcomes-requires-clause-within
take_outcomes-requires-clause-within g c = λ die index standing stands which.
    let is = c.requires.readable.image die standing index stands which in
    let within = slice_get_within c.args.images.now index is.0 is.1 in
    let made = c.in_ok-readings.ensures.as_many in
    let lent = c.as_mut_slice-ready.ensures.len in
    let back = c.read_images.auto.readings in
    omega (arith, within, made, lent, back)

-- src/side_by_side.rt:33:5
pub returns-in_err-take_outcomes-clause-only_read :
    goal.returns-in_err-take_outcomes-clause-only_read
returns-in_err-take_outcomes-clause-only_read g c =
    let here = g.met.I.Image g.world.𝓛 g.world.𝓜 g.world.𝓡 ((λ s x. x), (λ x. x), (λ x. x), λ x. x) in
    side_only_read g.I.Image.view g.I.Image.honest g.I.Image.made here.meets c.args.geometry c.args.images.now c.as_mut_slice-ready.result.now
    c.read_images.new.images c.read_images.new.readings c.read_images.ensures

-- src/side_by_side.rt:17:1
pub returns-clause-outcomes : goal.returns-clause-outcomes
returns-clause-outcomes g c =
    side_outcomes g.I.Image.view g.I.Image.made c.args.geometry c.args.standings.now c.args.images.now c.as_mut_slice-ready.result.now
    c.read_images.new.images c.read_images.new.readings c.requires.readable
    (subst (λ (l : List (Option (Reading g.row.A.Denot))). AreReadingsOf c.args.geometry c.args.standings.now (length c.args.standings.now) (length c.args.images.now) l)
    (sym c.as_mut_slice-ready.ensures.value) c.in_ok-readings.ensures) c.read_images.ensures c.take_outcomes.new.outcomes.items
    c.in_ok-take_outcomes.ensures.each

-- src/side_by_side.rt:17:1
pub returns-clause-only_read : goal.returns-clause-only_read
returns-clause-only_read g c =
    let here = g.met.I.Image g.world.𝓛 g.world.𝓜 g.world.𝓡 ((λ s x. x), (λ x. x), (λ x. x), λ x. x) in
    side_only_read g.I.Image.view g.I.Image.honest g.I.Image.made here.meets c.args.geometry c.args.images.now c.as_mut_slice-ready.result.now
    c.read_images.new.images c.read_images.new.readings c.read_images.ensures
