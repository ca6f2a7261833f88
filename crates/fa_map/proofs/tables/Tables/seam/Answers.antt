use Rattle.std.proofs.Common.{◌≡◌, ℕ, ◌<◌, Option, Some, sym, ap, subst, ◌∙◌, arith}
use Rattle.std.proofs.lemmas.Option.{none-some}
use Rattle.fa_map.specs.Chains.{IsNext, behind, entry_of, place_of, target}
use Rattle.fa_map_calls.specs.Plain.{die_slots}
use Rattle.fa_map.specs.declared.entries.Link.{Link}
use Rattle.fa_map.proofs.Chained.{same_place, some_place}
use Rattle.fa_map.proofs.tables.Tables.seam.Goals as goal

-- the place that the loop has come to
there : (next : Link) (die : ℕ) → next.die ≡ Some die → target next ≡ some_place die next.slot
there next die e = ap (λ (o : Option ℕ). place_of o next.slot) e

pub loop-next-init : goal.loop-next-init
loop-next-init g c = record {
  found = λ d slot e. absurd (none-some (d, slot) e);
  follows = c.first-next.ensures;
}

pub next-next-requires-clause-die : goal.next-next-requires-clause-die
next-next-requires-clause-die g c =
    (c.loop-next.invariant.follows.found c.in-Some.other c.loop-next.next.slot (there c.loop-next.next c.in-Some.other c.in-Some.is)).1

pub next-next-requires-clause-slot : goal.next-next-requires-clause-slot
next-next-requires-clause-slot g c =
    (c.loop-next.invariant.follows.found c.in-Some.other c.loop-next.next.slot (there c.loop-next.next c.in-Some.other c.in-Some.is)).2

pub loop-next-smaller : goal.loop-next-smaller
loop-next-smaller g c =
    let is = there c.loop-next.next c.in-Some.other c.in-Some.is in
    let old = c.loop-next.invariant.follows.found c.in-Some.other c.loop-next.next.slot is in
    let now = ap behind is in
    omega (arith, now, old.0, old.1)

pub loop-next-preserved : goal.loop-next-preserved
loop-next-preserved g c =
    let s = c.args.self.now in
    let n = die_slots s.geometry in
    let is = there c.loop-next.next c.in-Some.other c.in-Some.is in
    let old = c.loop-next.invariant.follows.found c.in-Some.other c.loop-next.next.slot is in
    record {
      found = λ d slot e.
          let at = same_place c.in-Some.other c.loop-next.next.slot d slot (sym is ∙ e) in (
            subst (λ k. k < c.args.die) at.0 c.if-other-die.false,
            subst (λ k. k < s.geometry.dies) at.0 old.1,
            subst (λ k. k < n) at.1 old.2,
            (λ i. entry_of s.slots.entries n (sym at.0 i) (sym at.1 i)) ∙ old.3,
          );
      follows =
          subst (λ k. IsNext (entry_of s.slots.entries n) n s.geometry.dies c.args.page k (target c.next-next.result)) (sym (ap behind is))
          (c.next-next.ensures.next old.3);
    }
