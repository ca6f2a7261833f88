-- A header that spells the bytes is the one that was read, so neither test refuses it.
use Rattle.std.proofs.Common.{◌≡◌, subst}
use Rattle.std.proofs.lemmas.Bool.{false≢true}
use Rattle.fa_tag.specs.declared.header.Header.{Header}
use Rattle.fa_tag.specs.HeaderGrammar.{SpellsHeader}
use Rattle.fa_tag.proofs.header.open_header.Goals.{else-is_in_grammar-via-then-is_in_grammar+else-is_spelled, else-is_in_grammar-via-else-is_in_grammar}
use Rattle.fa_tag.proofs.header.open_header.Goals as goal

pub returns-else-is_in_grammar-clause-only : goal.returns-else-is_in_grammar-clause-only
returns-else-is_in_grammar-clause-only c header spells =
    let found = c.in_ok-header.ensures header spells in
    let same : header ≡ c.in_ok-header.header = cc found in
    let own : SpellsHeader c.in_ok-header.header c.args.bytes.now = subst (λ (h : Header). SpellsHeader h c.args.bytes.now) same spells in
    elim c.else-is_in_grammar.branch [
      | else-is_in_grammar-via-then-is_in_grammar+else-is_spelled w ↦ absurd (false≢true (w.if-is_spelled.ensures.1 own.1))
      | else-is_in_grammar-via-else-is_in_grammar w ↦ absurd (false≢true (w.if-is_in_grammar.ensures.1 own.0))
    ]
