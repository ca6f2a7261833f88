-- The two parts are those of the header.
use Rattle.std.proofs.Common.{◌∙◌, ap, ℕ, List, ◌++◌}
use Rattle.fa_tag.specs.SlotGrammar.{with_digest}
use Rattle.fa_tag.specs.HeaderGrammar.{shape_fields}
use Rattle.fa_tag.proofs.header.sealed.Goals as goal

pub returns : goal.returns
returns c =
    c.with_digest.ensures
    ∙ ap (λ (l : List ℕ). with_digest (l ++ c.state_bytes.result)) c.shape_bytes.ensures
    ∙ ap (λ (l : List ℕ). with_digest (shape_fields c.args.format c.args.header.now ++ l)) c.state_bytes.ensures
