-- Slots of live dies that pass a test.
use Rattle.fa_machine.specs.State.{MapState, is_live}
use Rattle.fa_machine.specs.declared.places.Target.{Target}
use Rattle.fa_core_commit.specs.Holding.{live_of}
use Rattle.std.proofs.Common.{Bool, List, [], ap, cond, false, refl, true, ◌∷◌, ◌≡◌}
use Rattle.std.specs.List.{list_any}
use Rattle.std.specs.Prelude.{◌&&◌, ◌||◌}

-- whether one of those of live dies passes
pub any_live : (m : MapState) (test : Target → Bool) (ts : List Target)
    → list_any (λ (t : Target). is_live m t.die.0 && test t) ts ≡ list_any test (live_of m ts)
any_live m test [] = refl
any_live m test (t ∷ ts) = go (is_live m t.die.0) (any_live m test ts)
  where
    go : (b : Bool) → list_any (λ (t : Target). is_live m t.die.0 && test t) ts ≡ list_any test (live_of m ts)
        → ((b && test t) || list_any (λ (t : Target). is_live m t.die.0 && test t) ts)
        ≡ list_any test (cond b (t ∷ live_of m ts) (live_of m ts))
    go true rest = ap (λ b. test t || b) rest
    go false rest = rest
