use Rattle.std.proofs.Common.{◌≡◌, ℕ, length, subst, arith}
use Rattle.fa_mount_scan.specs.ContentMerging.{AreLastBefore}
use Rattle.fa_mount_scan.proofs.slots.map.last_writes.Goals as goal

pub note_die-requires-clause-pages : goal.note_die-requires-clause-pages
note_die-requires-clause-pages g c = λ die slot page version found.
    let below = c.requires die slot page version found in
    let long = c.loop-die.invariant.long in
    omega (arith, below, long)

pub returns-clause-last : goal.returns-clause-last
returns-clause-last g c =
    let P : ℕ → Type 0 = λ n. AreLastBefore c.args.contents.now n 0 c.loop-die.last.items in
    let end : c.loop-die.die ≡ length c.args.contents.now = omega arith in
    subst P end c.loop-die.invariant.last
