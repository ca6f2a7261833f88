use Rattle.std.proofs.Common.{◌≡◌, length, map, take}
use Rattle.fa_tag.proofs.payload.digests_of.Given as goal

-- a digest was begun for each slice, and the slices are those of the lists so far
abbrev pub invariant-loop-bytes : goal.invariant-loop-bytes
invariant-loop-bytes g l =
    (length l.digests.items ≡ length l.slices.items) × (map (λ s. s.now) l.slices.items ≡ map (λ b. b.items) (take l.bytes-index l.contents))
