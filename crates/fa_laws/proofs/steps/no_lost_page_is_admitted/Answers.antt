use Rattle.std.proofs.Common.{◌≡◌, Bool, true, false, cond, ◌||◌, List, [], ◌∷◌, Some, None, refl, sym}
use Rattle.std.specs.Prelude.{find}
use Rattle.std.specs.List.{list_any}
use Rattle.std.proofs.lemmas.Option.{none-some}
use Rattle.fa_machine.specs.Copies.{is_lost}
use Rattle.fa_laws.proofs.steps.no_lost_page_is_admitted.Goals as goal

-- where nothing is found, nothing passes
nothing_passes : {X : Type 0} (p : X → Bool) (xs : List X) → find p xs ≡ None → list_any p xs ≡ false
nothing_passes p [] e = refl
nothing_passes {X} p (y ∷ ys) e =
    elim (p y) as (λ b. cond b (Some y) (find p ys) ≡ None → (b || list_any p ys) ≡ false) [
      | true ↦ λ same. absurd (none-some y (sym same))
      | false ↦ λ same. nothing_passes p ys same
    ] e

pub returns : goal.returns
returns c old new pages admitted admits = nothing_passes (is_lost old.page_map) pages admits.0.0
