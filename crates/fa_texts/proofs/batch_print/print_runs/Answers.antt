use Rattle.std.proofs.Common.{ℕ, map, string_bytes, sym, arith, subst}
use Rattle.std.proofs.lemmas.List.{map_more, take_all}
use Rattle.fa_closed.specs.declared.closed.Run.{Run}
use Rattle.fa_texts.specs.BatchText.{closed_line}
use Rattle.fa_texts.specs.Text.{PrintsLines}
use Rattle.fa_texts.proofs.Printed.{prints_behind, prints_none}
use Rattle.fa_texts.proofs.batch_print.print_runs.Goals as goal

pub loop-run-init : goal.loop-run-init
loop-run-init g c = prints_none (string_bytes c.args.out.now)

pub loop-run-preserved : goal.loop-run-preserved
loop-run-preserved g c =
    let none : Run = record { die = record { 0 = 0 }; first = record { 0 = 0 }; last = record { 0 = 0 } } in
    let i : ℕ = c.loop-run.run-index in
    subst (λ v. PrintsLines (string_bytes c.args.out.now) (string_bytes c.print_run.new.out) v) (sym (map_more closed_line c.args.closed.now i none (omega arith)))
    (prints_behind c.loop-run.invariant c.in_ok-print_run.ensures)

pub returns : goal.returns
returns g c =
    subst (λ v. PrintsLines (string_bytes c.args.out.now) (string_bytes c.loop-run.out) (map closed_line v)) (take_all c.loop-run.run-index c.args.closed.now (omega arith)) c.loop-run.invariant
