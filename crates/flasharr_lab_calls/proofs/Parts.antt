-- Parts of messages that have one length.
use Rattle.std.proofs.Common.{◌≡◌, ◌-◌, ◌+◌, All, ℕ, List, drop, length, take}
use Rattle.std.proofs.lemmas.List.Elements.{All-drop, All-take}
use Rattle.std.specs.Borrow.{Bor}

-- eight of them that follow one another have it too
pub eight_of : (bytes first : ℕ) (parts : List (Bor (List ℕ))) → All (λ part. length part.now ≡ bytes) parts
    → All (λ part. length part.now ≡ bytes) (take (first + 8 - first) (drop first parts))
eight_of bytes first parts all =
    let P = λ (part : Bor (List ℕ)). length part.now ≡ bytes in
    All-take P (first + 8 - first) (drop first parts) (All-drop P first parts all)
