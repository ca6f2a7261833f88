use Rattle.std.proofs.Common.{arith}
use Rattle.std.proofs.lemmas.Result.{err_from_is_err_and}
use Rattle.fa_prog_text.proofs.Lines.{lines-step, lines-end, fault-of_line}
use Rattle.fa_prog_text.proofs.hex_lines.read_hex_lines.Goals as goal

pub returns-in_err-append_line-clause-line : goal.returns-in_err-append_line-clause-line
returns-in_err-append_line-clause-line g c =
    let passed = err_from_is_err_and c.from_residual.result c.from_residual.ensures.1 in
    rw (passed.1, passed.2)
    (fault-of_line c.lines.number c.lines.bytes.items c.lines.rest.now c.in-Some.behind.now c.in-Some.line.now _ c.in_err-append_line.field-0.0 c.in-Some.ensures.lines c.lines.invariant.spelled c.in_err-append_line.ensures.line)

pub lines-preserved : goal.lines-preserved
lines-preserved g c = record {
  spelled = lines-step c.lines.number c.lines.bytes.items c.append_line.new.bytes.items c.lines.rest.now c.in-Some.behind.now c.in-Some.line.now _ _ c.in_ok-append_line.ensures.appended c.in-Some.ensures.lines c.in_ok-append_line.ensures.ok c.lines.invariant.spelled;
  small = omega (arith, c.in-Some.ensures.less, c.lines.invariant.small);
}

pub returns-clause-bytes : goal.returns-clause-bytes
returns-clause-bytes g c = lines-end c.lines.number c.lines.bytes.items c.lines.rest.now _ c.in_default.ensures.lines c.lines.invariant.spelled
