use Rattle.std.proofs.Common.{◌≡◌, None, List, Option, length, subst, sym, ap, All, refl, arith}
use Rattle.std.proofs.lemmas.List.{length_push}
use Rattle.std.proofs.lemmas.List.Elements.{All-push}
use Rattle.fa_mount_scan.specs.declared.slots.readings.Reading.{Reading}
use Rattle.fa_mount_scan.proofs.slots.readings.none_ready.Goals as goal

pub loop-preserved : goal.loop-preserved
loop-preserved g c =
    let before : List (Option (Reading g.row.A.Denot)) = c.loop.readings.items in
    let pushed = c.in_ok-push.ensures.items in
    let long = c.loop.invariant.0 in
    let more = length_push before None in (
      (let as_many = ap length pushed in omega (arith, as_many, more, long)),
      subst (λ (l : List (Option (Reading g.row.A.Denot))). All (λ reading. reading ≡ None) l) (sym pushed)
          (All-push (λ reading. reading ≡ None) before None c.loop.invariant.1 refl),
    )
