use Rattle.std.proofs.Common.{rules}
use Rattle.std.proofs.lemmas.List.Sorted.{IsNonDecreasingBy-from_sort_by_key}
use Rattle.fa_plan.specs.declared.layout.Seat.{Seat}
use Rattle.fa_plan.proofs.Seats.{seats_rise}
use Rattle.fa_plan.proofs.planner.seats_of.Goals as goal

pub returns-clause-rising : goal.returns-clause-rising
returns-clause-rising g c =
    let seats = c.sort_unstable_by_key.new.self.items in
    seats_rise c.args.batch.now c.args.given.now c.in_ok-seats.seats.items seats c.in_ok-seats.ensures c.sort_unstable_by_key.ensures.permutation c.requires.sound.fine.once
    (IsNonDecreasingBy-from_sort_by_key (λ (x : Seat). x.page.0) seats c.sort_unstable_by_key.ensures.sorted (λ a r q k. search rules))
