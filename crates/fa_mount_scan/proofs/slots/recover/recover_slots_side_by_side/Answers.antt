use Rattle.std.proofs.Common.{◌∙◌, inl, inr, sym, ap}
use Rattle.fa_types.specs.declared.geometry.Geometry.{Geometry}
use Rattle.fa_mount_scan.proofs.OnlyReading.{each_read}
use Rattle.fa_mount_scan.proofs.SlotsScanned.{as_many_of, contents_of, either, on_ok, outcomes_of}
use Rattle.fa_mount_scan.proofs.slots.recover.recover_slots_side_by_side.Goals as goal

pub recover_outcomes-requires-clause-contents : goal.recover_outcomes-requires-clause-contents
recover_outcomes-requires-clause-contents g c =
    contents_of g.I.Image.made c.args.judged.geometry c.args.images.now c.read_dies_side_by_side.new.images _ c.args.judged.dies.items c.in-Ok.outcomes.items
    c.as_slice-standings.ensures.value c.in-Ok.ensures.outcomes c.in-Ok.ensures.length c.requires.images.dies

pub returns-in-Ok-clause-scanned : goal.returns-in-Ok-clause-scanned
returns-in-Ok-clause-scanned g c =
    let read = outcomes_of g.I.Image.made c.args.judged.geometry c.args.images.now c.read_dies_side_by_side.new.images _ c.args.judged.dies.items
    c.in-Ok.outcomes.items c.as_slice-standings.ensures.value c.in-Ok.ensures.outcomes c.in-Ok.ensures.length in
    either _ _ _ _ c.recover_outcomes.result c.recover_outcomes.ensures.scanned
    (λ mounted scan. (c.in-Ok.outcomes.items, read, scan.0, scan.1))
    (λ refusal why. elim why [ inl none ↦ inl none | inr is ↦ inr (c.in-Ok.outcomes.items, read, is) ])

pub returns-in-Ok-clause-dies : goal.returns-in-Ok-clause-dies
returns-in-Ok-clause-dies g c =
    let many = as_many_of g.I.Image.made c.args.judged.geometry c.args.images.now c.read_dies_side_by_side.new.images _ c.args.judged.dies.items
    c.in-Ok.outcomes.items c.as_slice-standings.ensures.value c.in-Ok.ensures.outcomes c.in-Ok.ensures.length in
    on_ok _ _ _ c.recover_outcomes.result c.recover_outcomes.ensures.scanned
    (λ mounted scan. scan.0.settles.dies_length ∙ many ∙ c.requires.images.dies ∙ sym (ap (λ (g : Geometry). g.dies) scan.0.mounts.shape))

pub returns-in-Ok-clause-only_read : goal.returns-in-Ok-clause-only_read
returns-in-Ok-clause-only_read g c = each_read g.I.Image.view c.args.images.now c.read_dies_side_by_side.new.images c.read_dies_side_by_side.ensures.only_read

pub returns-in-Err-clause-only_read : goal.returns-in-Err-clause-only_read
returns-in-Err-clause-only_read g c = each_read g.I.Image.view c.args.images.now c.read_dies_side_by_side.new.images c.read_dies_side_by_side.ensures.only_read
