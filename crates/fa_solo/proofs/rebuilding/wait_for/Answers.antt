use Rattle.std.proofs.Common.{ap, inl, inr, sym, ◌+◌, ◌≡◌, ◌∙◌}
use Rattle.fa_machine.specs.Reading.{results}
use Rattle.fa_machine.specs.State.{Core}
use Rattle.fa_machine.specs.declared.answers.ReadState.TheVariants.{Ready, Torn, Waiting}
use Rattle.fa_solo.proofs.Settled.{awaits_more, awaits_none}
use Rattle.fa_solo.proofs.rebuilding.wait_for.Goals as goal

pub loop-looks-init : goal.loop-looks-init
loop-looks-init g c = awaits_none _ _ _

pub loop-looks-preserved : goal.loop-looks-preserved
loop-looks-preserved g c = awaits_more _ c.args.batch.0 c.loop-looks.looks _ _ _ c.loop-looks.invariant
    (ap (λ (k : Core). results k c.args.batch.0) (sym c.array.ensures.state) ∙ sym c.results.ensures ∙ c.in-Waiting.is) c.work.ensures.does

pub returns-in-Ready-clause-waits : goal.returns-in-Ready-clause-waits
returns-in-Ready-clause-waits g c = (c.loop-looks.looks, (c.loop-looks.invariant, λ is. let e : Ready ≡ Waiting = is in cc))

pub returns-in-Torn-clause-waits : goal.returns-in-Torn-clause-waits
returns-in-Torn-clause-waits g c = (c.loop-looks.looks, (c.loop-looks.invariant, λ is. let e : Torn ≡ Waiting = is in cc))

pub returns-in-Ready-clause-ready : goal.returns-in-Ready-clause-ready
returns-in-Ready-clause-ready g c = λ is.
    ap (λ (k : Core). results k c.args.batch.0) (sym c.array.ensures.state) ∙ sym c.results.ensures ∙ c.in-Ready.is

pub returns-then-not-work-clause-waits : goal.returns-then-not-work-clause-waits
returns-then-not-work-clause-waits g c =
    let stands : c.results-then-not-work.result ≡ Waiting → results c.work.new.inner.locked.core c.args.batch.0 ≡ Waiting =
    λ is. ap (λ (k : Core). results k c.args.batch.0) (sym c.array-then-not-work.ensures.state) ∙ sym c.results-then-not-work.ensures ∙ is in (
      c.loop-looks.looks + 1,
      (
        awaits_more _ c.args.batch.0 c.loop-looks.looks _ _ _ c.loop-looks.invariant
            (ap (λ (k : Core). results k c.args.batch.0) (sym c.array.ensures.state) ∙ sym c.results.ensures ∙ c.in-Waiting.is) c.work.ensures.does,
        λ is. inl (stands is, c.work.ensures.stuck c.if-not-work.true (stands is)),
      ),
    )

pub returns-clause-waits : goal.returns-clause-waits
returns-clause-waits g c = (c.loop-looks.looks, (c.loop-looks.invariant, λ is. inr c.loop-looks-test.false))
