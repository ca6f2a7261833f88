use Rattle.std.proofs.Common.{◌≡◌, ◌==◌, ap, sym, ◌∙◌, arith, inl, inr}
use Rattle.std.proofs.lemmas.Bool.{cases_lt}
use Rattle.std.specs.List.{find}
use Rattle.std.specs.Prelude.{◌&&◌}
use Rattle.fa_machine.specs.Maps.{below}
use Rattle.fa_types.specs.declared.geometry.Geometry.{Geometry}
use Rattle.fa_map_calls.proofs.Ranges.{find_none, find_some}
use Rattle.fa_plain_map.proofs.Stalest.{with_stale}
use Rattle.fa_plain_map.proofs.plain_map.PlainMap.block_with.Goals as goal

pub returns-then-is_stale_with : goal.returns-then-is_stale_with
returns-then-is_stale_with g c =
    let s = c.args.self.now in
    let test = with_stale s.history.shown c.args.die.0 c.args.stale in
    let told : (c.counts.result.reserved == 0 && c.counts.result.stale == c.args.stale) ≡ test c.loop-block.block =
    (λ i. c.counts.ensures.1 i == 0 && c.counts.ensures.3 i == c.args.stale) in
    sym (find_some test 0 s.geometry.blocks c.loop-block.block (omega arith) (omega arith)
    (sym told ∙ sym c.is_stale_with.ensures ∙ c.if-is_stale_with.true) (λ k low high. c.loop-block.invariant k high))
    ∙ ap (λ (k : Geometry). find test (below k.blocks)) (sym s.sound.geometry)

pub loop-block-preserved : goal.loop-block-preserved
loop-block-preserved g c = λ k high.
    let s = c.args.self.now in
    elim (cases_lt k c.loop-block.block) [
      | inl early ↦ c.loop-block.invariant k early
      | inr late ↦
          let is : k ≡ c.loop-block.block = omega (arith, late, high) in
          let test = with_stale s.history.shown c.args.die.0 c.args.stale in
          let told : (c.counts.result.reserved == 0 && c.counts.result.stale == c.args.stale) ≡ test c.loop-block.block =
          (λ i. c.counts.ensures.1 i == 0 && c.counts.ensures.3 i == c.args.stale) in
          ap test is ∙ sym told ∙ sym c.is_stale_with.ensures ∙ c.if-is_stale_with.false
    ]

pub returns : goal.returns
returns g c =
    let s = c.args.self.now in
    let test = with_stale s.history.shown c.args.die.0 c.args.stale in
    sym (find_none test 0 s.geometry.blocks (λ k low high. c.loop-block.invariant k (omega (arith, high))))
    ∙ ap (λ (k : Geometry). find test (below k.blocks)) (sym s.sound.geometry)
