-- In either version the numbers are those behind the version's letters.
use Rattle.std.proofs.Common.{◌≡◌, subst}
use Rattle.std.proofs.lemmas.Bool.{false≢true}
use Rattle.fa_tag.specs.declared.tag.Tag.{Tag}
use Rattle.fa_tag.specs.SlotGrammar.{AreFields}
use Rattle.fa_tag.proofs.Slots.{letters_of}
use Rattle.fa_tag.proofs.fields.tag_in.Goals as goal

pub returns-in_err-tag-clause-only : goal.returns-in_err-tag-clause-only
returns-in_err-tag-clause-only c tag is fields =
    let spelled = letters_of tag c.args.bytes.now fields in
    let none = c.in_err-tag.ensures.only tag spelled.0 is spelled.1 in
    cc none

pub returns-else-are_fields-clause-only : goal.returns-else-are_fields-clause-only
returns-else-are_fields-clause-only c tag is fields =
    let spelled = letters_of tag c.args.bytes.now fields in
    let found = c.in_ok-tag.ensures.only tag spelled.0 is spelled.1 in
    let same : tag ≡ c.in_ok-tag.tag = cc found in
    absurd (false≢true (c.if-are_fields.ensures.1 (subst (λ (t : Tag). AreFields t c.args.bytes.now) same fields)))
