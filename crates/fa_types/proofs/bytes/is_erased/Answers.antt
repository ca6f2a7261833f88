use Rattle.std.proofs.Common.{ap, arith, length, sym, ◌-◌, ◌==◌, ◌∙◌}
use Rattle.std.specs.List.{list_all}
use Rattle.fa_types.proofs.Erased.{all_means, last_tells, part_fails, part_passes}
use Rattle.fa_types.proofs.bytes.is_erased.Goals as goal

pub loop-at-preserved : goal.loop-at-preserved
loop-at-preserved c =
    let invariant = c.loop-at.invariant in
    let passes = sym (c.all_ff.ensures ∙ ap (list_all (λ byte. byte == 0xff)) c.part.ensures) ∙ c.if-not-all_ff.false in (
      (let more = c.loop-at-test.true in omega (arith, more, invariant.0)),
      invariant.1 ∙ part_passes c.loop-at.at 64 c.args.bytes.now passes,
    )

pub returns-clause-test : goal.returns-clause-test
returns-clause-test c =
    let bytes = c.args.bytes.now in
    c.all_ff-2.ensures ∙ last_tells c.loop-at.at (length bytes - c.loop-at.at) bytes (omega arith) ∙ sym c.loop-at.invariant.1

pub returns-clause-all : goal.returns-clause-all
returns-clause-all c = rw (sym (returns-clause-test c)) at (all_means c.args.bytes.now)

pub returns-then-not-all_ff-clause-test : goal.returns-then-not-all_ff-clause-test
returns-then-not-all_ff-clause-test c =
    let fails = sym (c.all_ff.ensures ∙ ap (list_all (λ byte. byte == 0xff)) c.part.ensures) ∙ c.if-not-all_ff.true in
    sym (c.loop-at.invariant.1 ∙ part_fails c.loop-at.at 64 c.args.bytes.now fails)

pub returns-then-not-all_ff-clause-all : goal.returns-then-not-all_ff-clause-all
returns-then-not-all_ff-clause-all c = rw (sym (returns-then-not-all_ff-clause-test c)) at (all_means c.args.bytes.now)
