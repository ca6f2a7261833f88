-- What each happening keeps, a run keeps.
use Rattle.fa_machine.specs.Run.{Happening, Happens, Run}
use Rattle.fa_machine.specs.World.{World}
use Rattle.std.proofs.Common.{List, [], subst, sym, ◌∷◌}
use Rattle.std.specs.Prelude.{◌++◌}

pub run_keeps : (P : World → Type 0) → ((before : World) (happening : Happening) (after : World) → P before → Happens before happening after → P after)
    → (first : World) (happenings : List Happening) (last : World) → P first → Run first happenings last → P last
run_keeps P step first [] last holds run = subst P (sym run) holds
run_keeps P step first (happening ∷ happenings) last holds run =
    run_keeps P step run.0 happenings last (step first happening run.0 holds run.1) run.2

-- one run behind another
pub runs_on : (first : World) (one : List Happening) (middle : World) (two : List Happening) (last : World) → Run first one middle → Run middle two last
    → Run first (one ++ two) last
runs_on first [] middle two last before after = subst (λ (v : World). Run v two last) before after
runs_on first (happening ∷ one) middle two last before after = (before.0, before.1, runs_on before.0 one middle two last before.2 after)
