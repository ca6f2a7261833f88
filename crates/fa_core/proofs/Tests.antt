-- The tests of conditions.
use Rattle.std.proofs.Common.{Bool, Option, Some, ap, false, ◌∙◌, ◌≡◌}
use Rattle.std.specs.Option.{option_map_or}
use Rattle.std.specs.Prelude.{◌&&◌}

-- what a test of what was found says, and another with it
pub found_passes : {X : Type 0} (found : Option X) (x : X) (test : X → Bool) (other answer : Bool) → found ≡ Some x → test x ≡ answer
    → (option_map_or test found false && other) ≡ (answer && other)
found_passes found x test other answer is passes =
    ap (λ o. option_map_or test o false && other) is ∙ ap (λ b. b && other) passes
