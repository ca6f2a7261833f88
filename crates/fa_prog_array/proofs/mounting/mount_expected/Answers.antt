use Rattle.std.proofs.Common.{◌≡◌, refl}
use Rattle.fa_core.specs.Array.{number_of, state_of}
use Rattle.fa_map.specs.PageView.{page_view}
use Rattle.fa_prog_array.proofs.Mounted.{plain, whole}
use Rattle.fa_settings.specs.declared.terms.Terms.TheVariants.{Closed, Unclean, Whole}
use Rattle.fa_prog_array.proofs.mounting.mount_expected.Goals as goal

pub returns-in-Closed-clause-mounts : goal.returns-in-Closed-clause-mounts
returns-in-Closed-clause-mounts g c = λ before read.
    plain g.I.Image.view g.I.Image.made c.args.settings.now c.args.terms (λ m. number_of m.array) (λ m. m.dies.items)
    (λ m. state_of page_view m.array) before c.args.images.now c.mount_found_side_by_side.new.images c.args.founds.now read c.requires.expected
    Closed c.in-Closed.is (λ same. absurd (let e : Closed ≡ Whole = same in cc)) c.mount_found_side_by_side.result
    (c.mount_found_side_by_side.ensures.mounts before read)

pub returns-in-Whole-clause-mounts : goal.returns-in-Whole-clause-mounts
returns-in-Whole-clause-mounts g c = λ before read.
    whole g.I.Image.view g.I.Image.made c.args.settings.now c.args.terms (λ m. number_of m.array) (λ m. m.dies.items)
    (λ m. state_of page_view m.array) before c.args.images.now c.recover_found_side_by_side.new.images c.args.founds.now read c.requires.expected
    Whole c.in-Whole.is refl c.recover_found_side_by_side.result (c.recover_found_side_by_side.ensures.recovers before read)

pub returns-in-Unclean-clause-mounts : goal.returns-in-Unclean-clause-mounts
returns-in-Unclean-clause-mounts g c = λ before read.
    plain g.I.Image.view g.I.Image.made c.args.settings.now c.args.terms (λ m. number_of m.array) (λ m. m.dies.items)
    (λ m. state_of page_view m.array) before c.args.images.now c.mount_found_side_by_side-in-Unclean.new.images c.args.founds.now read
    c.requires.expected Unclean c.in-Unclean.is (λ same. absurd (let e : Unclean ≡ Whole = same in cc))
    c.mount_found_side_by_side-in-Unclean.result (c.mount_found_side_by_side-in-Unclean.ensures.mounts before read)
