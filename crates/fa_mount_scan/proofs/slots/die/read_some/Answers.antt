use Rattle.std.proofs.Common.{◌≡◌, ◌∙◌, ◌+◌, ◌/◌, ◌++◌, ℕ, List, Some, length, drop, arith, ap, subst, sym, append-nil}
use Rattle.std.proofs.lemmas.List.{drop_all, length-take-le}
use Rattle.std.specs.Prelude.{IfSome, Option}
use Rattle.fa_image.specs.Image.{ReadingSlot, Refused}
use Rattle.fa_image.specs.declared.fault.ImageFault.{ImageFault}
use Rattle.fa_mount_scan.specs.ContentReading.{ReadsSlots}
use Rattle.fa_mount_scan.specs.ReadingAhead.{ReadsAhead}
use Rattle.fa_mount_scan.specs.declared.slots.content.SlotContent.{SlotContent}
use Rattle.fa_mount_scan.proofs.ReadAhead.{ahead_read}
use Rattle.fa_mount_scan.proofs.slots.die.read_some.Goals as goal

pub returns-in-None-clause-read : goal.returns-in-None-clause-read
returns-in-None-clause-read g c =
    let read = c.read_ahead-ahead.ensures.all c.in-None.is in
    let count : ℕ = length c.args.found.now in
    let new : List SlotContent = c.open_some.new.found in
    let size : length new ≡ count =
    c.open_some.auto.found ∙ length-take-le c.read_ahead-ahead.result.read c.args.found.now c.read_ahead-ahead.ensures.few ∙ read.0 in
    let whole : new ++ drop c.read_ahead-ahead.result.read c.args.found.now ≡ new =
    ap (λ (l : List SlotContent). new ++ l) (drop_all c.read_ahead-ahead.result.read c.args.found.now (omega (arith, read.0))) ∙ append-nil new in
    subst (λ (l : List SlotContent). ReadsSlots g.I.Image.made c.args.pages c.args.die.0 c.args.first l c.args.image.now c.read_ahead-ahead.new.image) (sym whole)
    (ahead_read g.I.Image.made c.args.pages c.args.die.0 (length c.args.buffer.now / 8) c.args.first c.read_ahead-ahead.new.buffer new c.args.image.now c.read_ahead-ahead.new.image
    (subst (λ (n : ℕ). ReadsAhead g.I.Image.made (length c.args.buffer.now / 8) c.args.first n c.read_ahead-ahead.new.buffer c.args.image.now c.read_ahead-ahead.new.image) (sym size) read.1)
    c.open_some.ensures)

pub returns-in-Some-clause-refused : goal.returns-in-Some-clause-refused
returns-in-Some-clause-refused g c =
    let made = g.I.Image.made in
    let ahead = c.read_ahead-ahead.result in
    let bytes : ℕ = length c.args.buffer.now / 8 in
    let buffer : List ℕ = c.read_ahead-ahead.new.buffer in
    let before = c.args.image.now in
    let after = c.read_ahead-ahead.new.image in
    let new : List SlotContent = c.open_some.new.found in
    let size : length new ≡ ahead.read =
    c.open_some.auto.found ∙ length-take-le ahead.read c.args.found.now c.read_ahead-ahead.ensures.few in
    let P : Option ImageFault → Type 0 =
    λ o. IfSome o (λ f. (middle : g.row.I.Denot) × ReadsAhead made bytes c.args.first ahead.read buffer before middle
    × made middle (ReadingSlot (c.args.first + ahead.read)) (Refused f) after) in
    let some : P (Some c.in-Some.fault) = subst P c.in-Some.is c.read_ahead-ahead.ensures.refused in
    record {
      contents = new;
      middle = some.0;
      read = ahead_read made c.args.pages c.args.die.0 bytes c.args.first buffer new before some.0
          (subst (λ (n : ℕ). ReadsAhead made bytes c.args.first n buffer before some.0) (sym size) some.1) c.open_some.ensures;
      refused = subst (λ (n : ℕ). made some.0 (ReadingSlot (c.args.first + n)) (Refused c.in-Some.fault) after) (sym size) some.2;
    }
