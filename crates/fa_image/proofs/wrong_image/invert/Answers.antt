use Rattle.std.proofs.Common.{◌<◌, ◌-◌, ℕ, length, arith, get_or}
use Rattle.std.proofs.lemmas.List.{get_or_default}
use Rattle.std.proofs.lemmas.List.Edits.{map_over_more}
use Rattle.fa_image.proofs.wrong_image.invert.Goals as goal

pub loop-byte-preserved : goal.loop-byte-preserved
loop-byte-preserved c =
    let lt : c.loop-byte.byte-index < length c.args.bytes.now = omega arith in
    let inside : c.loop-byte.byte-index < length c.loop-byte.bytes = omega arith in
    let byte = get_or c.loop-byte.bytes c.loop-byte.byte-index 0 in
    map_over_more (λ (b : ℕ). 255 - b) c.args.bytes.now c.loop-byte.bytes c.loop-byte.byte-index byte lt c.loop-byte.invariant
    (get_or_default c.loop-byte.bytes c.loop-byte.byte-index 0 byte inside)
