use Rattle.std.proofs.Common.{◌≡◌, ◌-◌, ◌<◌, ap, sym, ◌∙◌, arith}
use Rattle.std.specs.List.{find}
use Rattle.fa_machine.specs.Maps.{below}
use Rattle.fa_types.specs.declared.geometry.Geometry.{Geometry}
use Rattle.fa_plain_map.proofs.Stalest.{others_begin, others_end, others_found, others_more, with_stale}
use Rattle.fa_plain_map.proofs.plain_map.PlainMapMap.stalest_block.Goals as goal

pub loop-other-init : goal.loop-other-init
loop-other-init g c = others_begin c.args.self.now.history.shown c.args.die.0

pub returns-in-Some : goal.returns-in-Some
returns-in-Some g c =
    let s = c.args.self.now in
    let m = s.history.shown in
    let slots = ap (λ (k : Geometry). k.slots) s.sound.geometry in
    let told = ap (λ n. find (with_stale m c.args.die.0 (n - c.loop-other.other)) (below m.geometry.blocks)) slots in
    others_found m c.args.die.0 c.loop-other.other (omega (arith, slots)) c.loop-other.invariant c.in-Some.block
    (told ∙ sym c.block_with.ensures ∙ c.in-Some.is)

pub loop-other-preserved : goal.loop-other-preserved
loop-other-preserved g c =
    let s = c.args.self.now in
    let m = s.history.shown in
    let slots = ap (λ (k : Geometry). k.slots) s.sound.geometry in
    let told = ap (λ n. find (with_stale m c.args.die.0 (n - c.loop-other.other)) (below m.geometry.blocks)) slots in
    others_more m c.args.die.0 c.loop-other.other (omega (arith, slots)) c.loop-other.invariant
    (told ∙ sym c.block_with.ensures ∙ c.in_default.is)

pub returns : goal.returns
returns g c =
    let s = c.args.self.now in
    let slots = ap (λ (k : Geometry). k.slots) s.sound.geometry in
    others_end s.history.shown c.args.die.0 c.loop-other.other (omega (arith, slots)) c.loop-other.invariant
