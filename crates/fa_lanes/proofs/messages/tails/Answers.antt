use Rattle.std.proofs.Common.{ℕ}
use Rattle.std.proofs.lemmas.List.{take_rest}
use Rattle.fa_lanes.specs.Lanes.{message}
use Rattle.fa_lanes.proofs.Loading.{each_lane}
use Rattle.fa_lanes.proofs.messages.tails.Goals as goal

pub returns-clause-tails : goal.returns-clause-tails
returns-clause-tails c =
    let rest = λ (l : ℕ). take_rest (message c.args.messages.now l) c.args.from in
    each_lane _ (rest 0) (rest 1) (rest 2) (rest 3) (rest 4) (rest 5) (rest 6) (rest 7)
