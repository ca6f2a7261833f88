use Rattle.std.proofs.Common.{ap, arith, sym, ◌∙◌, ◌<◌, ◌≡◌, ℕ, true}
use Rattle.fa_core.specs.Array.{state_of}
use Rattle.fa_mount_headers.specs.Rules.{is_in}
use Rattle.fa_machine.specs.State.{is_live}
use Rattle.fa_mount.proofs.Bits.{live_all, live_more, live_same}
use Rattle.fa_types.specs.declared.geometry.Geometry.{Geometry}
use Rattle.fa_mount.proofs.losing.live_mask.Goals as goal
use Rattle.fa_mount.proofs.losing.live_mask.Goals.{then-is_live, else-is_live}

pub loop-die-preserved : goal.loop-die-preserved
loop-die-preserved g c = λ k.
    let live : ℕ → _ = is_live (state_of g.M.Map.view c.args.array.now).page_map in
    let old = is_in c.loop-die.mask k in
    elim c.if-is_live.branch [
      | then-is_live w ↦
          live_more live c.loop-die.die k (is_in c.if-is_live.mask k) old (c.loop-die.invariant k) (sym c.is_live.ensures ∙ w.if-is_live.true)
          (ap (λ n. is_in n k) w.mask-is ∙ w.with-mask.ensures k)
      | else-is_live w ↦
          live_same live c.loop-die.die k (is_in c.if-is_live.mask k) old (c.loop-die.invariant k) (sym c.is_live.ensures ∙ w.if-is_live.false)
          (ap (λ n. is_in n k) w.mask-is)
    ]

pub returns : goal.returns
returns g c = record {
  live = λ k.
      let m = (state_of g.M.Map.view c.args.array.now).page_map in
      let inside : is_live m k ≡ true → k < c.loop-die.die = λ lives.
      let low = (g.met.M.Map.whole c.args.array.now.state.page_map).live k lives in
      omega (arith, low, c.loop-die-test.false, ap (λ (x : Geometry). x.dies) c.geometry-die-end.ensures) in
      live_all (is_live m) c.loop-die.die k (is_in c.loop-die.mask k) (c.loop-die.invariant k) inside;
}
