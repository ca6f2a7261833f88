use Rattle.std.proofs.Common.{◌≡◌, ◌∙◌, ◌+◌, ◌-◌, arith, refl, sym}
use Rattle.fa_mount_scan.proofs.ReadAhead.{more_refused, one_ahead}
use Rattle.fa_mount_scan.proofs.slots.die.+read_ahead.Goals as goal

pub returns-in-Ok-clause-all : goal.returns-in-Ok-clause-all
returns-in-Ok-clause-all g t c = λ none.
    let read = c.read_ahead.ensures.all (sym c.one_more.ensures.fault ∙ none) in
    let some : c.args.count ≡ (c.args.count - 1) + 1 = omega arith in (
      omega (arith, read.0),
      one_ahead g.I.Image.made c.args.bytes c.args.first (c.args.first + 1) c.args.count (c.args.count - 1) c.read_slot.new.into c.read_ahead.new.buffer
          c.args.image.now c.read_slot.new.self c.read_ahead.new.image refl some (omega (arith, c.read_slot.auto.into, c.split_at_mut-part.ensures.front_len)) c.in-Ok.ensures.gave read.1,
    )

pub returns-in-Ok-clause-refused : goal.returns-in-Ok-clause-refused
returns-in-Ok-clause-refused g t c =
    more_refused g.I.Image.made c.args.bytes c.args.first c.read_ahead.result.read c.one_more.result.read c.read_ahead.result.fault c.one_more.result.fault
    c.read_slot.new.into c.read_ahead.new.buffer c.args.image.now c.read_slot.new.self c.read_ahead.new.image c.one_more.ensures.read c.one_more.ensures.fault
    (omega (arith, c.read_slot.auto.into, c.split_at_mut-part.ensures.front_len)) c.in-Ok.ensures.gave c.read_ahead.ensures.refused
