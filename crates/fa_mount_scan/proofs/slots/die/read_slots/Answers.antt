use Rattle.std.proofs.Common.{◌≡◌, ◌+◌, ◌*◌, ◌/◌, ℕ, List, length, arith, subst}
use Rattle.fa_mount_scan.specs.ContentReading.{ReadsSlots, StopsAfter, StopsReading}
use Rattle.fa_mount_scan.specs.declared.slots.content.SlotContent.{SlotContent}
use Rattle.fa_mount_scan.proofs.ReadAhead.{if_err, on_ok, read_behind, stops_behind}
use Rattle.fa_mount_scan.proofs.slots.die.read_slots.Goals as goal

pub returns-in-Ok-clause-read : goal.returns-in-Ok-clause-read
returns-in-Ok-clause-read g c =
    let done : List SlotContent = c.read_eights.new.contents in
    let first : ℕ = 8 * (length c.args.contents.now / 8) in
    let size : first ≡ 0 + length done = omega (arith, c.read_eights.auto.contents, c.split_at_mut-eights.ensures.front_len) in
    on_ok (ReadsSlots g.I.Image.made c.args.pages c.args.die.0 first c.read_some.new.found c.read_eights.new.image c.read_some.new.image) _ c.read_some.result
    (λ held. read_behind g.I.Image.made c.args.pages c.args.die.0 0 done c.read_some.new.found c.args.image.now c.read_eights.new.image c.read_some.new.image
    c.in-Ok.ensures.read
    (subst (λ (n : ℕ). ReadsSlots g.I.Image.made c.args.pages c.args.die.0 n c.read_some.new.found c.read_eights.new.image c.read_some.new.image) size held))
    c.read_some.ensures.read

pub returns-in-Ok-clause-refused : goal.returns-in-Ok-clause-refused
returns-in-Ok-clause-refused g c =
    let done : List SlotContent = c.read_eights.new.contents in
    let first : ℕ = 8 * (length c.args.contents.now / 8) in
    let size : first ≡ length done = omega (arith, c.read_eights.auto.contents, c.split_at_mut-eights.ensures.front_len) in
    if_err (λ fault. StopsAfter g.I.Image.made c.args.pages c.args.die.0 first fault c.read_eights.new.image c.read_some.new.image)
    (λ fault. StopsReading g.I.Image.made c.args.pages c.args.die.0 fault c.args.image.now c.read_some.new.image) c.read_some.result
    (λ fault held. stops_behind g.I.Image.made c.args.pages c.args.die.0 done fault c.args.image.now c.read_eights.new.image c.read_some.new.image
    c.in-Ok.ensures.read
    (subst (λ (n : ℕ). StopsAfter g.I.Image.made c.args.pages c.args.die.0 n fault c.read_eights.new.image c.read_some.new.image) size held))
    c.read_some.ensures.refused
