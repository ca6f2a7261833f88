use Rattle.std.proofs.Common.{◌≡◌, length, map, take}
use Rattle.fa_tag.proofs.payload_digest.begin_eight.Given as goal

abbrev pub invariant-payloads : goal.invariant-payloads
invariant-payloads l = (length l.digests ≡ length l.payloads) × (take l.i l.digests ≡ take l.i (map (λ payload. payload.now) l.payloads))
