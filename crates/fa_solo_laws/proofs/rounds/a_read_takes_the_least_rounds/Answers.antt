use Rattle.fa_batch_terms.specs.Plan.{rounds_of}
use Rattle.fa_batch_terms.specs.declared.place.Place.{Place}
use Rattle.fa_laws.proofs.InTimes.{reached_timely}
use Rattle.fa_laws.proofs.Timely.{TimelyCore}
use Rattle.fa_laws.specs.Reached.{IsReached}
use Rattle.fa_machine.specs.Looks.{wants_window}
use Rattle.fa_machine.specs.Placement.{is_thin}
use Rattle.fa_machine.specs.State.{Core, MapState, OpenBatch}
use Rattle.fa_machine.specs.World.{World}
use Rattle.fa_machine.specs.declared.jobs.Flight.{Flight}
use Rattle.fa_solo_laws.proofs.Admitting.{CertificateLaw, no_more_rounds}
use Rattle.fa_solo_laws.proofs.ClosedRounds.{IsQuiet}
use Rattle.fa_solo_laws.proofs.Stages.{ArePlannedInTime}
use Rattle.fa_image.specs.Image.{ImageAnswer, ImageCall}
use Rattle.fa_shared_steps.specs.declared.request.Task.{Task}
use Rattle.fa_solo.specs.Calls.{MakesWhole}
use Rattle.fa_solo_job.specs.declared.inner.Inner.{Inner}
use Rattle.fa_solo_laws.proofs.Between.{call_idle}
use Rattle.fa_solo_laws.proofs.WholeReads.{whole_behind, whole_unlooked}
use Rattle.fa_solo_laws.specs.Standing.{vain_looks}
use Rattle.fa_types.specs.Store.{Gave, Refused}
use Rattle.fa_types.specs.declared.blocks.BlockFault.TheVariants.{Lost}
use Rattle.fa_solo_laws.specs.Rest.{IsAtRest, IsIdle, IsPlanFor, pages_of, range_in}
use Rattle.std.proofs.Common.{List, [], ap, arith, inl, inr, refl, subst, ℕ, ◌+◌, ◌∙◌, ◌≡◌, ◌≤◌}
use Rattle.std.specs.FinMap.{FinMap, get, get-empty}
use Rattle.std.specs.Ordering.{nat_cmp}
use Rattle.fa_solo_laws.proofs.rounds.a_read_takes_the_least_rounds.Goals as goal

-- nothing is under way at an array that is idle and at rest
quiet_at : (w : World) (core : Core) → IsReached w → w.core ≡ core → IsIdle core → IsAtRest core → IsQuiet core.page_map core.copies core
quiet_at w core reached is idle rest = record {
  map = refl;
  copies_are = refl;
  good = record { timely = subst TimelyCore is (reached_timely w reached); all = λ d r b e. tt };
  free = λ die. ap (λ (jobs : FinMap nat_cmp Flight). get jobs die) idle.jobs ∙ get-empty nat_cmp die;
  calm = rest.steps;
  closed = λ batch. ap (λ (batches : FinMap nat_cmp OpenBatch). get batches batch) idle.batches ∙ get-empty nat_cmp batch;
}

-- and it is at rest, where the map is as it was
rests_at : (old new : Core) → IsAtRest old → IsQuiet old.page_map old.copies new → IsAtRest new
rests_at old new rest quiet = record {
  windows = λ die. ap (λ (m : MapState). wants_window m die) quiet.map ∙ rest.windows die;
  steps = quiet.calm;
  copies = λ page. (λ i. is_thin (quiet.copies_are i) (quiet.map i) page) ∙ rest.copies page;
}

-- a call that is answered, and behind which no copy was looked at in vain, is not given up
idle_still : {L M I A : Type 0} (made : I → ImageCall → ImageAnswer → I → Type 0) (task : Task) (bytes given : List ℕ) (old new : Inner L M I A)
    → (call : MakesWhole made task bytes (Gave given) old new) → IsIdle old.locked.core → vain_looks made task bytes (Gave given) old new call ≡ 0
    → IsIdle new.locked.core
idle_still made task bytes given old new call idle none =
    elim (call_idle made task bytes (Gave given) old new call idle) [
      | inl still ↦ still
      | inr (inl (most, is)) ↦ absurd (let e : Gave given ≡ Refused Lost = is in cc)
      | inr (inr many) ↦ absurd (omega (arith, many, none))
    ]

-- a batch that is admitted before anything else is planned in no more rounds than any plan of its pages has
planned_least : CertificateLaw → (first : Core) (pages : List ℕ) (places : List Place) → IsPlanFor first pages places
    → ArePlannedInTime first.page_map first.copies first (λ round. round ≤ first.calendar.round + rounds_of first.calendar.round places) pages
planned_least law first pages places is_plan old new admitted before step =
    let few = no_more_rounds law first.page_map first old before.quiet.map before.keeps pages places is_plan admitted.planned
    step.does.0.2 in
    let same = before.keeps.round in
    omega (arith, few, same)

pub returns : goal.returns
returns g c = record {
  rounds = λ old new offset len given places w reached is idle rest few whole same is_plan.
      let core : Core = old.locked.core in
      let behind = whole_behind g.I.Image.made old new offset len given
      (quiet_at w core reached is idle rest) rest.windows rest.copies
      (λ round. round ≤ core.calendar.round + rounds_of core.calendar.round places) (omega arith)
      (planned_least c.certificate_is_least.ensures core (pages_of (range_in core offset len)) places is_plan)
      (omega (arith, few)) whole same in
      let low = behind.round in let in_time = behind.is_in_time in omega (arith, low, in_time);
  rest = λ old new offset len given w reached is idle rest few whole same.
      let core : Core = old.locked.core in
      let quiet = quiet_at w core reached is idle rest in (
        idle_still g.I.Image.made _ [] given old new whole idle
            (whole_unlooked g.I.Image.made old new offset len given quiet rest.windows rest.copies
            (λ round. Unit {0}) tt (λ before after admitted is step. tt) (omega (arith, few)) whole same),
        rests_at core new.locked.core rest
            (whole_behind g.I.Image.made old new offset len given quiet rest.windows rest.copies
            (λ round. Unit {0}) tt (λ before after admitted is step. tt) (omega (arith, few)) whole same).quiet,
      );
}
