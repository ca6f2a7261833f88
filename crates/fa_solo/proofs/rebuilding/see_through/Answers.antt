use Rattle.std.proofs.Common.{arith, refl, sym, ◌+◌}
use Rattle.std.proofs.lemmas.Bool.{false≢true}
use Rattle.fa_solo.proofs.Settled.{looks_none, looks_pending, settles_commit, settles_endless, settles_over}
use Rattle.fa_solo.proofs.rebuilding.see_through.Goals as goal

pub loop-looks-init : goal.loop-looks-init
loop-looks-init g c = (0, omega arith, looks_none _ _)

pub loop-looks-preserved : goal.loop-looks-preserved
loop-looks-preserved g c = (
  c.loop-looks.invariant.0 + 1,
  omega (arith, c.loop-looks.invariant.1),
  looks_pending _ c.loop-looks.invariant.0 _ _ _ _ c.in-Some.answer c.loop-looks.invariant.2 (c.is_pending.ensures.yes c.if-not-is_pending.false)
      (record { step = c.in-Some.ensures.some; left = c.commit_copy.ensures.rest; images = refl; dies = refl }) c.work.ensures.does,
)

pub returns-in_default : goal.returns-in_default
returns-in_default g c = (
  settles_over _ c.loop-looks.invariant.0 _ _ _ c.loop-looks.invariant.2 c.in_default.ensures.none.0 c.in_default.ensures.none.1
      c.commit_copy.ensures.rest refl refl,
  λ is. absurd (false≢true (sym is)),
)

pub returns-then-not-is_pending : goal.returns-then-not-is_pending
returns-then-not-is_pending g c = (
  settles_commit _ c.loop-looks.invariant.0 _ _ _ c.in-Some.answer c.loop-looks.invariant.2
      (record { step = c.in-Some.ensures.some; left = c.commit_copy.ensures.rest; images = refl; dies = refl })
      (c.is_pending.ensures.no c.if-not-is_pending.true),
  λ is. absurd (false≢true (sym is)),
)

pub returns : goal.returns
returns g c =
    let endless = settles_endless _ c.loop-looks.invariant.0 _ _ c.loop-looks.invariant.2 (omega (arith, c.loop-looks.invariant.1)) in
    (endless.0, λ is. endless.1)
