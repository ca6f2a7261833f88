use Rattle.fa_core_complete.proofs.Ended.{busy, fault_ends, wrong_ends}
use Rattle.fa_core_complete.proofs.ending.done.Goals as goal
use Rattle.fa_core_outcome.specs.Outcomes.{outcome_of}
use Rattle.fa_core_outcome.specs.declared.outcome.Outcome.{Outcome}
use Rattle.fa_machine.specs.Cells.{is_of_kind}
use Rattle.fa_machine.specs.declared.jobs.Flight.{Flight}
use Rattle.fa_core_state.specs.Core.{core_of}
use Rattle.std.proofs.Common.{List, Option, ap, false, sym, true, ℕ, ◌∙◌, ◌≡◌}
use Rattle.std.specs.FinMap.{get}
use Rattle.std.specs.Option.{option_map_or}

-- whether an outcome is one of a job
abbrev fits : Option Flight → List ℕ → Outcome → Type 0
fits job payload outcome = option_map_or (λ (flight : Flight). is_of_kind flight (outcome_of outcome payload)) job false ≡ true

same_kind : (job : Option Flight) (payload : List ℕ) (a b : Outcome) → a ≡ b → fits job payload a → fits job payload b
same_kind job payload a b is kind =
    ap (λ o. option_map_or (λ (flight : Flight). is_of_kind flight (outcome_of o payload)) job false) (sym is) ∙ kind

pub read_done-requires-clause-kind : goal.read_done-requires-clause-kind
read_done-requires-clause-kind g c =
    same_kind (get (core_of g.M.Map.view c.args.state.now).jobs c.args.die.0) c.args.buffer.now.items _ _ c.in-Read.is c.requires.kind

pub program_done-requires-clause-kind : goal.program_done-requires-clause-kind
program_done-requires-clause-kind g c =
    same_kind (get (core_of g.M.Map.view c.args.state.now).jobs c.args.die.0) c.args.buffer.now.items _ _ c.in-Programmed.is c.requires.kind

pub move_done-requires-clause-kind : goal.move_done-requires-clause-kind
move_done-requires-clause-kind g c =
    same_kind (get (core_of g.M.Map.view c.args.state.now).jobs c.args.die.0) c.args.buffer.now.items _ _ c.in-Moved.is c.requires.kind

pub erase_done-requires-clause-kind : goal.erase_done-requires-clause-kind
erase_done-requires-clause-kind g c =
    same_kind (get (core_of g.M.Map.view c.args.state.now).jobs c.args.die.0) c.args.buffer.now.items _ _ c.in-Erased.is c.requires.kind

pub header_done-requires-clause-kind : goal.header_done-requires-clause-kind
header_done-requires-clause-kind g c =
    same_kind (get (core_of g.M.Map.view c.args.state.now).jobs c.args.die.0) c.args.buffer.now.items _ _ c.in-HeaderWritten.is
    c.requires.kind

pub sync_done-requires-clause-kind : goal.sync_done-requires-clause-kind
sync_done-requires-clause-kind g c =
    same_kind (get (core_of g.M.Map.view c.args.state.now).jobs c.args.die.0) c.args.buffer.now.items _ _ c.in-Synced.is c.requires.kind

pub lose_die-requires-clause-live : goal.lose_die-requires-clause-live
lose_die-requires-clause-live g c =
    busy (core_of g.M.Map.view c.args.state.now) c.requires.sound c.args.die.0 (outcome_of c.args.outcome c.args.buffer.now.items)
    c.requires.kind

pub lose_die-requires-in-Wrong-clause-live : goal.lose_die-requires-in-Wrong-clause-live
lose_die-requires-in-Wrong-clause-live g c =
    busy (core_of g.M.Map.view c.args.state.now) c.requires.sound c.args.die.0 (outcome_of c.args.outcome c.args.buffer.now.items)
    c.requires.kind

pub returns-in-Fault-clause-ends : goal.returns-in-Fault-clause-ends
returns-in-Fault-clause-ends g c =
    let core = core_of g.M.Map.view c.args.state.now in
    fault_ends core (core_of g.M.Map.view c.lose_die.new.state) c.args.die.0 c.lose_die.ensures.dropped (get core.jobs c.args.die.0)
    c.args.outcome c.args.buffer.now.items c.in-Fault.field-0 c.in-Fault.is c.requires.kind

pub returns-in-Wrong-clause-ends : goal.returns-in-Wrong-clause-ends
returns-in-Wrong-clause-ends g c =
    let core = core_of g.M.Map.view c.args.state.now in
    wrong_ends core (core_of g.M.Map.view c.lose_die-in-Wrong.new.state) c.args.die.0 c.lose_die-in-Wrong.ensures.dropped
    (get core.jobs c.args.die.0) c.args.outcome c.args.buffer.now.items c.in-Wrong.is c.requires.kind
