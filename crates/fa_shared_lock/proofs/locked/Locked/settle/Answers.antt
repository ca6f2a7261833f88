use Rattle.fa_shared_lock.proofs.Only.{only_behind}
use Rattle.fa_shared_lock.proofs.locked.Locked.settle.Goals as goal
use Rattle.fa_shared_lock.specs.Locked.{LockedState}
use Rattle.fa_shared_lock.specs.Only.{IsAdvance, NoMore}
use Rattle.std.proofs.Common.{ap, refl, ◌∙◌, arith}

pub loop-init : goal.loop-init
loop-init g c = (refl, refl, refl, NoMore, omega arith)

pub loop-preserved : goal.loop-preserved
loop-preserved g c = (
  c.pass.ensures.rest ∙ ap (λ (s : LockedState). record s { core = c.pass.new.self.core }) c.loop.invariant.0,
  c.pass.ensures.commits ∙ c.loop.invariant.1,
  c.pass.ensures.number ∙ c.loop.invariant.2,
  only_behind IsAdvance c.args.self.now.core c.loop.self.core c.pass.new.self.core c.loop.invariant.3 c.pass.ensures.only,
  omega (arith, c.loop.invariant.4, c.pass.ensures.passed c.if-not-pass.false),
)

pub returns-then-not-pass-clause-only : goal.returns-then-not-pass-clause-only
returns-then-not-pass-clause-only g c =
    only_behind IsAdvance c.args.self.now.core c.loop.self.core c.pass.new.self.core c.loop.invariant.3 c.pass.ensures.only
