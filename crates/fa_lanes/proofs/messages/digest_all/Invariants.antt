use Rattle.std.proofs.Common.{◌≡◌, ◌*◌, length, map, take}
use Rattle.sha2.specs.Sha256.{sha256}
use Rattle.fa_lanes.proofs.messages.digest_all.Given as goal

abbrev pub invariant-eights : goal.invariant-eights
invariant-eights l = (length l.out ≡ length l.messages) × (take (8 * l.i) l.out ≡ take (8 * l.i) (map (λ m. sha256 m.now) l.messages))

abbrev pub invariant-rest : goal.invariant-rest
invariant-rest l = (length l.out ≡ length l.messages) × (take l.i l.out ≡ take l.i (map (λ m. sha256 m.now) l.messages))
