use Rattle.std.proofs.Common.{◌≡◌, ℕ, ◌-◌, Option, Some, count_by, ap, arith}
use Rattle.std.specs.List.{range_with_len}
use Rattle.fa_map.specs.Chains.{entry_of, place_of, target}
use Rattle.fa_map.specs.Entries.{die_holds}
use Rattle.fa_map_calls.specs.Plain.{die_slots}
use Rattle.fa_map.specs.declared.entries.Link.{Link}
use Rattle.fa_map.proofs.Chained.{some_place}
use Rattle.fa_map.proofs.Counted.{count_from, counted_here, counted_next, dies_from, fewer}
use Rattle.fa_map_calls.proofs.Ranges.{count_le}
use Rattle.fa_map.proofs.tables.Tables.copies_up_to.Goals as goal

-- the place that the loop has come to
there : (next : Link) (die : ℕ) → next.die ≡ Some die → target next ≡ some_place die next.slot
there next die e = ap (λ (o : Option ℕ). place_of o next.slot) e

pub loop-next-init : goal.loop-next-init
loop-next-init g c =
    let s = c.args.self.now in
    let n = die_slots s.geometry in
    let first = c.first-next.ensures in
    let all = counted_next s.slots.entries n c.args.page s.geometry.dies 0 (target c.first-next.result) first (omega arith) in
    let none_less : s.geometry.dies - 0 ≡ s.geometry.dies = omega arith in
    let same = ap (λ (k : ℕ). count_by (die_holds s.slots.entries n c.args.page) (range_with_len 0 k)) none_less in
    record {
      few = omega arith;
      found = λ d slot e. let old = first.found d slot e in (old.1, old.2, old.3);
      counted = omega (arith, all, same);
    }

pub next-next-requires-clause-die : goal.next-next-requires-clause-die
next-next-requires-clause-die g c =
    (c.loop-next.invariant.found c.in-Some.die c.loop-next.next.slot (there c.loop-next.next c.in-Some.die c.in-Some.is)).0

pub next-next-requires-clause-slot : goal.next-next-requires-clause-slot
next-next-requires-clause-slot g c =
    (c.loop-next.invariant.found c.in-Some.die c.loop-next.next.slot (there c.loop-next.next c.in-Some.die c.in-Some.is)).1

pub overflow_add-copies : goal.overflow_add-copies
overflow_add-copies g c =
    let s = c.args.self.now in
    let most = count_le (die_holds s.slots.entries (die_slots s.geometry) c.args.page) 0 s.geometry.dies in
    omega (arith, most, c.loop-next.invariant.counted)

pub loop-next-smaller : goal.loop-next-smaller
loop-next-smaller g c =
    let s = c.args.self.now in
    let n = die_slots s.geometry in
    let is = there c.loop-next.next c.in-Some.die c.in-Some.is in
    let old = c.loop-next.invariant.found c.in-Some.die c.loop-next.next.slot is in
    let now = ap (dies_from s.geometry.dies) is in
    let less = fewer (entry_of s.slots.entries n) n s.geometry.dies c.args.page c.in-Some.die (target c.next-next.result)
    (c.next-next.ensures.next old.2) old.0 in
    omega (arith, now, less)

pub loop-next-preserved : goal.loop-next-preserved
loop-next-preserved g c =
    let s = c.args.self.now in
    let n = die_slots s.geometry in
    let is = there c.loop-next.next c.in-Some.die c.in-Some.is in
    let old = c.loop-next.invariant.found c.in-Some.die c.loop-next.next.slot is in
    let rest = c.next-next.ensures.next old.2 in
    let now = ap (count_from (die_holds s.slots.entries n c.args.page) s.geometry.dies) is in
    let one = counted_here s.slots.entries n c.args.page s.geometry.dies c.in-Some.die c.loop-next.next.slot old.0 old.1 old.2
    (target c.next-next.result) rest in
    record {
      few = omega (arith, c.loop-next.invariant.few);
      found = λ d slot e. let after = rest.found d slot e in (after.1, after.2, after.3);
      counted = omega (arith, now, one, c.loop-next.invariant.counted);
    }
