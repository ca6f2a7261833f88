use Rattle.std.proofs.Common.{◌<◌, ◌≡◌, ◌∙◌, ap, arith, below_more, refl, sym, true, ℕ, Some}
use Rattle.std.proofs.lemmas.Bool.{false≢true}
use Rattle.fa_core.specs.Array.{state_of}
use Rattle.fa_machine.specs.State.{is_live}
use Rattle.fa_mount.specs.Standings.{place_on}
use Rattle.fa_types.specs.declared.geometry.Geometry.{Geometry}
use Rattle.fa_mount.proofs.fitting.have_images.Goals as goal
use Rattle.fa_mount.proofs.fitting.have_images.Goals.{else-is_live-via-then-is_live+else-not-has_image, else-is_live-via-else-is_live}

pub loop-die-preserved : goal.loop-die-preserved
loop-die-preserved g c =
    let m = (state_of g.M.Map.view c.args.array.now).page_map in
    let here : is_live m c.loop-die.die ≡ true → (index : ℕ) × (place_on c.args.dies.now c.loop-die.die ≡ Some index) × (index < c.args.images) =
    λ lives. elim c.else-is_live.branch [
      | else-is_live-via-then-is_live+else-not-has_image w ↦ w.has_image.ensures.0 w.if-not-has_image.false
      | else-is_live-via-else-is_live w ↦ absurd (false≢true (sym w.if-is_live.false ∙ c.is_live.ensures ∙ lives))
    ] in
    below_more _ _ c.loop-die.invariant here

pub returns : goal.returns
returns g c = (
  (λ is die lives.
      let low = (g.met.M.Map.whole c.args.array.now.state.page_map).live die lives in
      c.loop-die.invariant die
      (omega (arith, low, c.loop-die-test.false, ap (λ (x : Geometry). x.dies) c.geometry-die-end.ensures)) lives),
  (λ have. refl),
)
