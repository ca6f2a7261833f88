use Rattle.std.proofs.Common.{ℕ, ◌≤◌, sym, ap, arith}
use Rattle.std.specs.Prelude.{◌==◌}
use Rattle.std.proofs.lemmas.Nat.Bits.{bit_at_above}
use Rattle.fa_mount_headers.proofs.rules.is_in.Goals as goal

pub returns-in-None : goal.returns-in-None
returns-in-None c =
    let past : 64 ≤ c.args.die = omega (arith, c.in-None.ensures, c.from.ensures) in
    sym (ap (λ (n : ℕ). n == 1) (bit_at_above c.args.mask 64 c.args.die c.ranges.mask.fits past))
