use Rattle.std.proofs.Common.{inl, inr}
use Rattle.fa_mount_scan.proofs.SlotsScanned.{either, refused_of}
use Rattle.fa_mount_scan.proofs.slots.recover.recover_outcomes.Goals as goal

pub returns-in-Some-clause-scanned : goal.returns-in-Some-clause-scanned
returns-in-Some-clause-scanned g c =
    inr (inl (refused_of c.args.copies.number c.args.judged.mask _ _ _ _ _ _ c.as_slice-standings.ensures.value c.as_slice.ensures.value
    c.slots_refusal.ensures c.in-Some.is))

pub returns-in-None-clause-scanned : goal.returns-in-None-clause-scanned
returns-in-None-clause-scanned g c =
    let none = refused_of c.args.copies.number c.args.judged.mask _ _ _ _ _ _ c.as_slice-standings.ensures.value c.as_slice.ensures.value
    c.slots_refusal.ensures c.in-None.is in
    either _ _ _ _ c.mount_outcomes.result c.mount_outcomes.ensures.scanned
    (λ mounted scan. (scan, none))
    (λ refusal why. elim why [ inl memory ↦ inl memory | inr is ↦ inr (inr is) ])
