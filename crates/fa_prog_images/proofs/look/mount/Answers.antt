use Rattle.std.proofs.Common.{subst, sym}
use Rattle.std.specs.Result.{MatchResult}
use Rattle.fa_mount_headers.specs.Found.{IsReadOf}
use Rattle.fa_prog_images.specs.Mount.{MountsArray, RefusesArray}
use Rattle.fa_prog_images.proofs.look.mount.Goals as goal

pub returns-in-Ok-scan_expected : goal.returns-in-Ok-scan_expected
returns-in-Ok-scan_expected g c =
    let read = subst (IsReadOf g.I.Image.view g.I.Image.made c.args.images.now c.read_expected.new.images) (sym c.as_slice.ensures.value)
    c.in-Ok.ensures.0 in
    let mounts = subst (λ r. MatchResult r
    (MountsArray g.I.Image.view g.I.Image.made c.args.settings.now c.args.terms c.args.images.now c.scan_expected.new.images c.as_slice.result.now)
    (RefusesArray g.I.Image.view g.I.Image.made c.args.settings.now c.args.terms c.args.images.now c.scan_expected.new.images))
    c.in-Ok-scan_expected.is (c.scan_expected.ensures c.args.images.now read) in
    subst (λ founds. MountsArray g.I.Image.view g.I.Image.made c.args.settings.now c.args.terms c.args.images.now
    c.scan_expected.new.images founds c.in-Ok-scan_expected.mounted) c.as_slice.ensures.value mounts

pub returns-in-Err-scan_expected : goal.returns-in-Err-scan_expected
returns-in-Err-scan_expected g c =
    let read = subst (IsReadOf g.I.Image.view g.I.Image.made c.args.images.now c.read_expected.new.images) (sym c.as_slice.ensures.value)
    c.in-Ok.ensures.0 in
    subst (λ r. MatchResult r
    (MountsArray g.I.Image.view g.I.Image.made c.args.settings.now c.args.terms c.args.images.now c.scan_expected.new.images c.as_slice.result.now)
    (RefusesArray g.I.Image.view g.I.Image.made c.args.settings.now c.args.terms c.args.images.now c.scan_expected.new.images))
    c.in-Err-scan_expected.is (c.scan_expected.ensures c.args.images.now read)
