use Rattle.std.proofs.Common.{◌≡◌, ◌+◌, ◌*◌, ◌<◌, ◌==◌, ◌&&◌, nat_le, nat_lt, if◌then◌else◌, Bool, true, sym, ap, subst, ◌∙◌, arith, set}
use Rattle.fa_map.specs.Chains.{entry_of}
use Rattle.fa_map_calls.specs.Plain.{die_slots}
use Rattle.fa_map.specs.declared.entries.Entry.TheVariants.{Erased}
use Rattle.fa_types.specs.declared.geometry.Geometry.{Geometry}
use Rattle.fa_map_calls.proofs.Indices.{index_fits, inside}
use Rattle.fa_map.proofs.Swept.{sweep_step, with_true}
use Rattle.fa_map.proofs.tables.Tables.erase_die.Goals as goal

pub loop-slot-preserved : goal.loop-slot-preserved
loop-slot-preserved g c =
    let s = c.args.self.now in
    let n = die_slots s.geometry in
    let same = ap die_slots c.loop-slot.invariant.geometry in
    let dies = ap (λ (k : Geometry). k.dies) c.loop-slot.invariant.geometry in
    let fits = index_fits c.args.die.0 c.loop-slot.slot s.geometry.dies n c.requires c.loop-slot-test.true in
    record {
      geometry = c.put.ensures.geometry ∙ c.loop-slot.invariant.geometry;
      versions = c.put.ensures.versions ∙ c.loop-slot.invariant.versions;
      entries = sweep_step s.slots.entries c.loop-slot.self.slots.entries n (λ _. Erased) c.args.die.0 0 c.loop-slot.slot (omega arith) c.loop-slot-test.true
          (subst (λ k. c.args.die.0 * n + c.loop-slot.slot < k) (sym (c.loop-slot.self.sound.tallied.slots ∙ (λ i. dies i * same i))) fits) c.loop-slot.invariant.entries c.put.new.self.slots.entries
          (c.put.ensures.entries ∙ ap (λ k. set c.loop-slot.self.slots.entries (c.args.die.0 * k + c.loop-slot.slot) Erased) same);
    }

pub returns-clause-entries : goal.returns-clause-entries
returns-clause-entries g c = λ d slot within.
    let s = c.args.self.now in
    let n = die_slots s.geometry in
    let all : (nat_le 0 slot && nat_lt slot c.loop-slot.slot) ≡ true = inside 0 c.loop-slot.slot slot (omega arith) (omega arith) in
    c.loop-slot.invariant.entries d slot within
    ∙ ap (λ (b : Bool). if b then Erased else entry_of s.slots.entries n d slot) (ap (λ (b : Bool). d == c.args.die.0 && b) all ∙ with_true (d == c.args.die.0))
