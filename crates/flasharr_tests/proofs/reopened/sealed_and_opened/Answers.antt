use Rattle.std.proofs.Common.{◌∙◌, inl}
use Rattle.flasharr_tests.proofs.reopened.sealed_and_opened.Goals as goal

pub returns : goal.returns
returns g c honest =
    c.open.ensures.good c.args.tag c.args.payload.now
    (c.requires.tag, c.requires.kind, inl (c.in_ok-image.ensures honest ∙ c.seal.ensures))
