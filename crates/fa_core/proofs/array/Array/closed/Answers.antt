use Rattle.fa_closed.specs.Closed.{is_closed}
use Rattle.fa_core.specs.Array.{state_of}
use Rattle.fa_machine.specs.Rounds.{is_taken}
use Rattle.fa_machine.specs.State.{CalendarState}
use Rattle.fa_core_read.proofs.Released.{without_none}
use Rattle.std.proofs.Common.{subst, ℕ, ◌≡◌, ◌≤◌}
use Rattle.std.specs.Prelude.{IfOk}
use Rattle.fa_core.proofs.array.Array.closed.Goals as goal

pub returns-clause-closed : goal.returns-clause-closed
returns-clause-closed g c =
    let calendar = (state_of g.M.Map.view c.args.self.now).calendar in
    subst (λ (k : CalendarState). IfOk c.closed.result (λ closed. (die round : ℕ) → calendar.round ≤ round
    → is_closed closed die round ≡ is_taken k die round)) (without_none calendar) c.closed.ensures.closed
