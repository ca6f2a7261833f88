-- Images of an array whose dies are all there.
use Rattle.std.specs.Prelude.{◌≡◌, ℕ, true, List, [], ◌∷◌, None}
use Rattle.fa_machine.specs.Among.{Among}
use Rattle.fa_mount_headers.specs.Rules.{die_twice, greatest_epoch, is_in, mask_in, of_another_array, of_another_geometry, without_room}
use Rattle.fa_mount_headers.specs.declared.seen.Seen.{Seen}

-- The headers are of one array and one geometry, with room for so many copies, and no two are of one die.
abbrev pub AreOfOneArray : ℕ → List Seen → Type 0
AreOfOneArray copies [] = ⊥
AreOfOneArray copies (x ∷ others) =
    let seen = x ∷ others in
    (of_another_array x.header.array seen ≡ None) × (of_another_geometry x.header.geometry seen ≡ None)
    × (without_room copies x ≡ None) × (die_twice seen ≡ None)

-- each die of the mask of the greatest epoch has an image with a header
abbrev pub HaveDiesOfMask : List Seen → Type 0
HaveDiesOfMask seen = (die : ℕ) → is_in (mask_in (greatest_epoch seen) seen) die ≡ true → (x : Seen) × Among x seen × (x.header.die.0 ≡ die)
