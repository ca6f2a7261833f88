-- Lists of what happened, one longer at the end.
use Rattle.std.proofs.Common.{List, [], append_assoc, ◌∷◌, ◌≡◌}
use Rattle.std.specs.List.{AllByRecursion}
use Rattle.std.specs.Prelude.{◌++◌}

-- one more behind one that is named
pub behind_one : {X : Type 0} (before : List X) (one : X) (behind : List X) (x : X)
    → (before ++ one ∷ behind) ++ x ∷ [] ≡ before ++ one ∷ (behind ++ x ∷ [])
behind_one before one behind x = append_assoc before (one ∷ behind) (x ∷ [])

pub all_and_one : {X : Type 0} (P : X → Type 0) (xs : List X) (x : X) → AllByRecursion P xs → P x → AllByRecursion P (xs ++ x ∷ [])
all_and_one P [] x all p = (p, tt)
all_and_one P (y ∷ ys) x all p = (all.0, all_and_one P ys x all.1 p)
