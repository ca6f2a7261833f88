use Rattle.std.proofs.Common.{◌≡◌, inr}
use Rattle.fa_mount_scan.proofs.SlotsScanned.{either}
use Rattle.fa_prog_images.proofs.ByTerms.{plain, plain_refused, whole, whole_refused}
use Rattle.fa_settings.specs.declared.terms.Terms.TheVariants.{Closed, Unclean, Whole}
use Rattle.fa_prog_images.proofs.look.scan_expected.Goals as goal

pub returns-in-Closed : goal.returns-in-Closed
returns-in-Closed g c = λ before read.
    let view = g.I.Image.view in
    let made = g.I.Image.made in
    let settings = c.args.settings.now in
    let after = c.scan_found_side_by_side.new.images in
    let founds = c.args.founds.now in
    let is = c.in-Closed.is in
    either _ _ _ _ c.scan_found_side_by_side.result (c.scan_found_side_by_side.ensures.mounts before read)
    (λ mounted by. plain view made settings c.args.terms before after Closed is founds mounted c.requires.expected
    (λ same. absurd (let e : Closed ≡ Whole = same in cc)) by)
    (λ refusal why. inr (inr (
      founds,
      c.args.images.now,
      read,
      c.requires.expected,
      plain_refused view made settings c.args.terms before after Closed is refusal why,
    )))

pub returns-in-Whole : goal.returns-in-Whole
returns-in-Whole g c = λ before read.
    let view = g.I.Image.view in
    let made = g.I.Image.made in
    let settings = c.args.settings.now in
    let after = c.recover_found_side_by_side.new.images in
    let founds = c.args.founds.now in
    let is = c.in-Whole.is in
    either _ _ _ _ c.recover_found_side_by_side.result (c.recover_found_side_by_side.ensures.recovers before read)
    (λ mounted by. whole view made settings c.args.terms before after is founds mounted c.requires.expected by)
    (λ refusal why. inr (inr (
      founds,
      c.args.images.now,
      read,
      c.requires.expected,
      whole_refused view made settings c.args.terms before after is refusal why,
    )))

pub returns-in-Unclean : goal.returns-in-Unclean
returns-in-Unclean g c = λ before read.
    let view = g.I.Image.view in
    let made = g.I.Image.made in
    let settings = c.args.settings.now in
    let after = c.scan_found_side_by_side-in-Unclean.new.images in
    let founds = c.args.founds.now in
    let is = c.in-Unclean.is in
    either _ _ _ _ c.scan_found_side_by_side-in-Unclean.result (c.scan_found_side_by_side-in-Unclean.ensures.mounts before read)
    (λ mounted by. plain view made settings c.args.terms before after Unclean is founds mounted c.requires.expected
    (λ same. absurd (let e : Unclean ≡ Whole = same in cc)) by)
    (λ refusal why. inr (inr (
      founds,
      c.args.images.now,
      read,
      c.requires.expected,
      plain_refused view made settings c.args.terms before after Unclean is refusal why,
    )))
