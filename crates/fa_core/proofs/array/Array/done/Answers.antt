use Rattle.fa_core.proofs.Allowed.{is_whole_read}
use Rattle.fa_core.proofs.Whole.{whole_after}
use Rattle.fa_core.specs.Array.{state_of}
use Rattle.fa_core_outcome.specs.Outcomes.{outcome_of}
use Rattle.fa_machine.specs.Cells.{is_of_kind}
use Rattle.fa_machine.specs.Step.{Done, is_sized_read}
use Rattle.std.proofs.Common.{false, refl}
use Rattle.std.proofs.lemmas.Bool.{and_from}
use Rattle.std.specs.FinMap.{get}
use Rattle.std.specs.Option.{option_map_or}
use Rattle.fa_core.proofs.array.Array.done.Goals as goal

pub returns-clause-step : goal.returns-clause-step
returns-clause-step g c =
    let core = state_of g.M.Map.view c.args.self.now in
    let outcome = outcome_of c.args.outcome c.args.buffer.now.items in
    record {
      allows = and_from (option_map_or (λ job. is_of_kind job outcome) (get core.jobs c.args.die.0) false) (is_sized_read core outcome)
          c.requires.kind (is_whole_read core c.args.outcome c.args.buffer.now.items c.requires.sized);
      does = c.done.ensures.ends;
    }

pub returns-clause-whole : goal.returns-clause-whole
returns-clause-whole g c =
    let keeps = c.an_event_keeps.ensures in
    let core = state_of g.M.Map.view c.args.self.now in
    let outcome = outcome_of c.args.outcome c.args.buffer.now.items in
    whole_after g.M.Map.view c.args.self.now _ (Done c.args.die.0 outcome)
    (record {
      allows = and_from (option_map_or (λ job. is_of_kind job outcome) (get core.jobs c.args.die.0) false) (is_sized_read core outcome)
          c.requires.kind (is_whole_read core c.args.outcome c.args.buffer.now.items c.requires.sized);
      does = c.done.ensures.ends;
    }) keeps.sound keeps.programs keeps.history keeps.geometry c.requires.whole c.done.ensures.fitted refl
