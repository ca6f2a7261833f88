use Rattle.std.proofs.Common.{◌≡◌, ℕ, ◌<◌, length, sym, subst, arith, rules}
use Rattle.fa_tag.specs.HeaderGrammar.{IsHeader}
use Rattle.fa_mount_headers.proofs.FirstHeaders.{live_fits}
use Rattle.fa_mount_headers.specs.FirstHeader.{in_use, live_header}
use Rattle.fa_mount_headers.proofs.first_header.first_header.Goals as goal

pub returns-clause-fits : goal.returns-clause-fits
returns-clause-fits c =
    let g = c.args.geometry in
    let whole : length c.args.array ≡ 16 = search rules in
    let below : c.args.die.0 < in_use g = omega (arith, c.if-from-in_use.false, c.from.ensures) in
    let P : ℕ → Type 0 = λ mask. IsHeader (record (live_header g c.args.array c.args.die.0) { mask = mask }) in
    subst P (sym c.mask_below.ensures) (live_fits g c.args.array c.args.die.0 whole below)
