use Rattle.std.proofs.Common.{◌≡◌, map}
use Rattle.fa_tag.proofs.payload.payloads_of.Given as goal

abbrev pub invariant-loop : goal.invariant-loop
invariant-loop g l = l.digests.items ≡ map (λ b. b.items) l.contents.items
