use Rattle.std.proofs.Common.{◌≡◌, ◌*◌, length, map, take}
use Rattle.fa_tag.proofs.payload_digest.PayloadDigest.begin_all.Given as goal

abbrev pub invariant-eights : goal.invariant-eights
invariant-eights l = (length l.digests ≡ length l.payloads) × (take (8 * l.i) l.digests ≡ take (8 * l.i) (map (λ payload. payload.now) l.payloads))

abbrev pub invariant-rest : goal.invariant-rest
invariant-rest l = (length l.digests ≡ length l.payloads) × (take l.i l.digests ≡ take l.i (map (λ payload. payload.now) l.payloads))
