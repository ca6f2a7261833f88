use Rattle.std.proofs.Common.{◌-◌, ◌<◌, length, arith, sym, ◌∙◌, eq-eqb, eqb-true}
use Rattle.std.proofs.lemmas.Bool.{eqb-false, ltb-true, lt-ltb}
use Rattle.fa_cert.proofs.Placed.{last_is_late}
use Rattle.fa_cert.proofs.checker.take_rounds.Goals as goal

pub overflow_sub-result : goal.overflow_sub-result
overflow_sub-result c =
    let some : 0 < length c.args.places.now = (let no = eqb-false (length c.args.places.now) 0 (sym c.is_empty.ensures ∙ c.if-is_empty.false) in omega (arith, no)) in
    let late = last_is_late c.args.now.0 c.args.places.now some c.requires in
    omega (arith, late.0, c.last_round-last.ensures)

pub returns-then-rounds-gt0-clause-taken : goal.returns-then-rounds-gt0-clause-taken
returns-then-rounds-gt0-clause-taken c =
    let some : 0 < length c.args.places.now = (let no = eqb-false (length c.args.places.now) 0 (sym c.is_empty.ensures ∙ c.if-is_empty.false) in omega (arith, no)) in
    let late = last_is_late c.args.now.0 c.args.places.now some c.requires in (
      λ t. let e = eqb-true (c.last_round-last.result - c.args.now.0) (c.args.rounds - 1) t in omega (arith, late.0, late.1, c.last_round-last.ensures, e),
      λ e. eq-eqb (c.last_round-last.result - c.args.now.0) (c.args.rounds - 1) (omega (arith, late.0, late.1, c.last_round-last.ensures, e)),
    )

pub returns-else-rounds-gt0-clause-taken : goal.returns-else-rounds-gt0-clause-taken
returns-else-rounds-gt0-clause-taken c =
    let some : 0 < length c.args.places.now = (let no = eqb-false (length c.args.places.now) 0 (sym c.is_empty.ensures ∙ c.if-is_empty.false) in omega (arith, no)) in
    let late = last_is_late c.args.now.0 c.args.places.now some c.requires in (
      λ t. let e = ltb-true 0 c.args.rounds t in absurd (omega arith),
      λ e. lt-ltb 0 c.args.rounds (omega (arith, late.0, late.1, c.last_round-last.ensures, e)),
    )
