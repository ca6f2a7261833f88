use Rattle.fa_mount.proofs.Spares.{AreSparesBelow, all_spares, no_spares, one_more_spare}
use Rattle.fa_set.specs.Members.{members}
use Rattle.std.proofs.Common.{arith, length, subst, ◌<◌, ◌≡◌, ◌∙◌}
use Rattle.std.proofs.lemmas.Option.{slice_get-get_or}
use Rattle.fa_mount.proofs.beginning.spares_of.Goals as goal

pub loop-die-init : goal.loop-die-init
loop-die-init g c = (c.in_ok-spares.ensures.bound, no_spares c.args.dies.now (members c.in_ok-spares.spares) c.in_ok-spares.ensures.empty)

pub loop-die-preserved : goal.loop-die-preserved
loop-die-preserved g c =
    let low : c.loop-die.die < length c.args.dies.now = omega arith in (
      c.add_spare.ensures.bound ∙ c.loop-die.invariant.0,
      one_more_spare c.args.dies.now (members c.loop-die.spares) (members c.add_spare.new.spares) c.loop-die.die _
          (slice_get-get_or c.args.dies.now c.loop-die.die _ low) c.add_spare.ensures.members c.loop-die.invariant.1,
    )

pub returns-clause-spares : goal.returns-clause-spares
returns-clause-spares g c =
    let past = c.loop-die-test.false in
    let most = c.loop-die.auto.die-end in
    let all : c.loop-die.die ≡ length c.args.dies.now = omega (arith, past, most) in
    all_spares c.args.dies.now (members c.loop-die.spares)
    (subst (λ n. AreSparesBelow c.args.dies.now (members c.loop-die.spares) n) all c.loop-die.invariant.1)
