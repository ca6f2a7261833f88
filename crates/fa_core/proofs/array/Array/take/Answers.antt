use Rattle.fa_core.proofs.Whole.{whole_after}
use Rattle.std.proofs.Math.Nat.{mul-le-mul}
use Rattle.fa_machine.specs.Step.{Take}
use Rattle.fa_core_outcome.specs.Handed.{handed_of}
use Rattle.fa_core.specs.Array.{number_of, state_of}
use Rattle.fa_machine.specs.Taking.{Takes}
use Rattle.std.proofs.Common.{IfSome, None, Option, Some, arith, refl, rules, subst, ◌*◌, ◌<◌, ◌≡◌, ◌≤◌, ◌^◌}
use Rattle.fa_machine.specs.State.{Core}
use Rattle.fa_core_state.specs.Core.{core_of}
use Rattle.fa_core_dispatch.specs.Limits.{HasLimits}
use Rattle.fa_types.specs.declared.geometry.Geometry.{Geometry}
use Rattle.std.specs.Prelude.{option_map}
use Rattle.fa_core.proofs.array.Array.take.Goals as goal

pub returns-clause-whole : goal.returns-clause-whole
returns-clause-whole g c =
    let keeps = c.an_event_keeps.ensures in
    whole_after g.M.Map.view c.args.self.now _ (Take c.args.die.0 c.args.seat (option_map handed_of c.take-job.result)) (search rules) keeps.sound keeps.programs keeps.history
    keeps.geometry c.requires.whole c.take-job.ensures.fitted refl

limits_of : (core : Core) (g : Geometry) → g ≡ core.page_map.geometry → core.last < 2 ^ 62 → core.epoch ≤ 2 ^ 62 → HasLimits core
limits_of core g is last epoch = record {
  dies = subst (λ (k : Geometry). k.dies ≤ 64) is g.within.dies_fit.most;
  pages = subst (λ (k : Geometry). k.pages ≤ 1048576) is g.within.pages_fit.most;
  slots = subst (λ (k : Geometry). k.blocks * k.slots ≤ 1048576) is (mul-le-mul g.within.blocks_fit.1 g.within.slots_fit.1);
  last = last;
  epoch = epoch;
}

some_is : {X : Type 0} (o : Option X) (P : X → Type 0) → ((x : X) → o ≡ Some x → P x) → IfSome o P
some_is None P each = tt
some_is (Some x) P each = each x refl

pub returns-clause-fits : goal.returns-clause-fits
returns-clause-fits g c =
    let old = state_of g.M.Map.view c.args.self.now in
    let new = core_of g.M.Map.view c.take-job.new.state in
    some_is c.take-job.result _ (λ job is. c.what_is_handed_out_fits.ensures old new c.args.die.0 c.args.seat (handed_of job)
    (number_of c.args.self.now) c.requires.whole.sound c.requires.whole.ready (limits_of old c.geometry-geometry.result c.geometry-geometry.ensures
    c.requires.whole.fitted.last (let epoch = c.requires.whole.fitted.epoch in omega (arith, epoch))) c.is_a_number.ensures
    (subst (λ o. Takes old c.args.die.0 c.args.seat (option_map handed_of o) new) is c.take-job.ensures.takes))
