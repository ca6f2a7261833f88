use Rattle.std.proofs.Common.{◌∙◌, Some, ap}
use Rattle.std.proofs.lemmas.Option.{slice_get-get_or}
use Rattle.fa_mount_scan.specs.declared.slots.content.SlotContent.{SlotContent}
use Rattle.fa_mount_scan.specs.declared.slots.content.SlotContent.TheVariants.{Erased}
use Rattle.fa_mount_scan.proofs.Merging.{found_holder, found_other, found_stale}
use Rattle.fa_mount_scan.proofs.slots.map.mount_slot.Goals as goal

pub returns-in-Stale-clause-mounted : goal.returns-in-Stale-clause-mounted
returns-in-Stale-clause-mounted g c =
    (found_stale c.args.last.now c.args.slots.now c.args.die.0 c.args.slot _ _ c.requires.before c.make_stale.ensures
    (slice_get-get_or c.args.slots.now c.args.slot Erased c.requires.slot ∙ ap (λ (x : SlotContent). Some x) c.in-Stale.is)).0

pub returns-in-Stale-clause-others : goal.returns-in-Stale-clause-others
returns-in-Stale-clause-others g c =
    (found_stale c.args.last.now c.args.slots.now c.args.die.0 c.args.slot _ _ c.requires.before c.make_stale.ensures
    (slice_get-get_or c.args.slots.now c.args.slot Erased c.requires.slot ∙ ap (λ (x : SlotContent). Some x) c.in-Stale.is)).1

pub returns-then-is_first-clause-mounted : goal.returns-then-is_first-clause-mounted
returns-then-is_first-clause-mounted g c =
    (found_holder c.args.last.now c.args.slots.now c.args.die.0 c.args.slot _ _ c.requires.before (g.met.M.Map.whole c.args.map.now)
    c.in-Copy.page c.in-Copy.version c.make_current.ensures
    (slice_get-get_or c.args.slots.now c.args.slot Erased c.requires.slot ∙ ap (λ (x : SlotContent). Some x) c.in-Copy.is)
    (c.is_first.ensures.last c.if-is_first.true) (c.is_first.ensures.first c.if-is_first.true)).0

pub returns-then-is_first-clause-others : goal.returns-then-is_first-clause-others
returns-then-is_first-clause-others g c =
    (found_holder c.args.last.now c.args.slots.now c.args.die.0 c.args.slot _ _ c.requires.before (g.met.M.Map.whole c.args.map.now)
    c.in-Copy.page c.in-Copy.version c.make_current.ensures
    (slice_get-get_or c.args.slots.now c.args.slot Erased c.requires.slot ∙ ap (λ (x : SlotContent). Some x) c.in-Copy.is)
    (c.is_first.ensures.last c.if-is_first.true) (c.is_first.ensures.first c.if-is_first.true)).1

pub returns-else-is_first-clause-mounted : goal.returns-else-is_first-clause-mounted
returns-else-is_first-clause-mounted g c =
    (found_other c.args.last.now c.args.slots.now c.args.die.0 c.args.slot _ _ c.requires.before c.make_stale-else-is_first.ensures
    c.in-Copy.page c.in-Copy.version
    (slice_get-get_or c.args.slots.now c.args.slot Erased c.requires.slot ∙ ap (λ (x : SlotContent). Some x) c.in-Copy.is)
    (c.is_first.ensures.other c.if-is_first.false)).0

pub returns-else-is_first-clause-others : goal.returns-else-is_first-clause-others
returns-else-is_first-clause-others g c =
    (found_other c.args.last.now c.args.slots.now c.args.die.0 c.args.slot _ _ c.requires.before c.make_stale-else-is_first.ensures
    c.in-Copy.page c.in-Copy.version
    (slice_get-get_or c.args.slots.now c.args.slot Erased c.requires.slot ∙ ap (λ (x : SlotContent). Some x) c.in-Copy.is)
    (c.is_first.ensures.other c.if-is_first.false)).1
