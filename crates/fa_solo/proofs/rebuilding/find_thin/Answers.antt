use Rattle.std.proofs.Common.{ap, sym, ◌∙◌}
use Rattle.std.proofs.lemmas.Bool.{false≢true}
use Rattle.std.proofs.Common.{option_map}
use Rattle.std.specs.FinMap.{get}
use Rattle.fa_machine.specs.declared.places.Version.{Version}
use Rattle.fa_types.specs.declared.numbers.Seq.{Seq}
use Rattle.fa_machine.specs.State.{Core}
use Rattle.fa_machine.specs.Step.{is_page}
use Rattle.fa_solo.proofs.Thin.{page_told, seq_told, thin_told}
use Rattle.fa_solo.proofs.rebuilding.find_thin.Goals as goal

pub returns-clause-page : goal.returns-clause-page
returns-clause-page g c =
    page_told _ _ c.next_thin.result c.array.ensures.state c.next_thin.ensures c.in_ok-page.page c.in_ok-page.field-0-1 c.in_ok-page.was

pub returns-clause-thin : goal.returns-clause-thin
returns-clause-thin g c =
    thin_told _ _ c.next_thin.result c.array.ensures.state c.next_thin.ensures c.in_ok-page.page c.in_ok-page.field-0-1 c.in_ok-page.was

pub unreachable-requires : goal.unreachable-requires
unreachable-requires g c =
    false≢true (sym c.if-not-is_page.true ∙ c.is_page.ensures ∙ ap (λ (k : Core). is_page k c.in_ok-page.page.0) c.array-2.ensures.state
    ∙ page_told _ c.args.locked.now.core c.next_thin.result c.array.ensures.state c.next_thin.ensures c.in_ok-page.page c.in_ok-page.field-0-1
    c.in_ok-page.was)

pub unreachable-requires-in_default : goal.unreachable-requires-in_default
unreachable-requires-in_default g c =
    seq_told _ c.args.locked.now.core c.next_thin.result c.array.ensures.state c.next_thin.ensures c.in_ok-page.page c.in_ok-page.field-0-1
    c.in_ok-page.was c.seq.result
    (c.seq.ensures ∙ ap (λ (k : Core). option_map {T = Version} {U = Seq} (λ version. version.seq) (get k.page_map.versions c.in_ok-page.page.0)) c.array-3.ensures.state)
    c.in_default.is
