use Rattle.std.proofs.Common.{◌≡◌, take, max}
use Rattle.std.specs.List.{fold}
use Rattle.fa_cert.proofs.checker.last_round.Given as goal

abbrev pub invariant-loop-place : goal.invariant-loop-place
invariant-loop-place l = l.last ≡ fold (λ last x. max last x.round.0) 0 (take l.place-index l.places)
