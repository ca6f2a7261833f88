use Rattle.std.proofs.Common.{◌≡◌, ◌%◌, arith, refl}
use Rattle.fa_lanes.proofs.alone.next_word.Goals as goal

pub returns : goal.returns
returns c =
    let at : c.args.place % 16 ≡ c.args.place = omega arith in
    record { value = rw (at, c.small_sigma1.ensures, c.small_sigma0.ensures) refl; window = refl }
