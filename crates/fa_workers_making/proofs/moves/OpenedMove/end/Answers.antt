use Rattle.std.proofs.Common.{subst, sym, length, List, ℕ, ◌+◌, ◌≡◌}
use Rattle.fa_core_outcome.specs.Handed.{handed_of}
use Rattle.fa_core_outcome.specs.declared.outcome.Outcome.{Outcome}
use Rattle.fa_workers_making.specs.Beginning.{EndsMove}
use Rattle.fa_workers_making.proofs.moves.OpenedMove.end.Goals as goal

pub returns-clause-ends : goal.returns-clause-ends
returns-clause-ends g c =
    let order = c.args.self.order in
    let Ends : Outcome → List ℕ → Type 0 = λ outcome bytes.
    (g.I.Image.view c.args.image.now).geometry ≡ order.geometry → length bytes ≡ order.geometry.page_bytes + 64
    → EndsMove g.I.Image.made order.geometry order.array order.die.0 (handed_of order.job) outcome bytes c.args.image.now c.end_move-outcome.new.image in
    subst (λ outcome. Ends outcome c.args.self.slot) (sym c.made.ensures.outcome)
    (subst (λ bytes. Ends c.end_move-outcome.result bytes) c.slot.view_is c.end_move-outcome.ensures.ends)
