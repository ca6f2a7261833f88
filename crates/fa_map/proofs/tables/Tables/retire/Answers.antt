use Rattle.std.proofs.Common.{◌≡◌, ℕ, ◌+◌, ◌*◌, ◌<◌, None, Option, Some, length, sym, ap, subst, ◌∙◌, arith, set}
use Rattle.fa_types.specs.declared.geometry.Geometry.{Geometry}
use Rattle.fa_map.specs.Chains.{IsNext, entry_of, place_of, target}
use Rattle.fa_map.specs.Entries.{retired}
use Rattle.fa_map_calls.specs.Plain.{die_slots}
use Rattle.fa_map.specs.declared.entries.Entry.TheVariants.{Current, Stale}
use Rattle.fa_map.specs.declared.entries.Link.{Link}
use Rattle.fa_map.proofs.Chained.{before_none, some_place}
use Rattle.fa_map.proofs.Counted.{dies_from}
use Rattle.fa_map_calls.proofs.Indices.{index_fits}
use Rattle.fa_map.proofs.Swept.{fewer_left, retired_alike, retired_other}
use Rattle.fa_map.proofs.tables.Tables.retire.Goals as goal

-- the place that the loop has come to
there : (next : Link) (die : ℕ) → next.die ≡ Some die → target next ≡ some_place die next.slot
there next die e = ap (λ (o : Option ℕ). place_of o next.slot) e

pub remove_copy-requires-clause-die : goal.remove_copy-requires-clause-die
remove_copy-requires-clause-die g c =
    (c.loop-next.invariant.first.found c.in-Some.die c.loop-next.next.slot (there c.loop-next.next c.in-Some.die c.in-Some.is)).1

pub remove_copy-requires-clause-slot : goal.remove_copy-requires-clause-slot
remove_copy-requires-clause-slot g c =
    (c.loop-next.invariant.first.found c.in-Some.die c.loop-next.next.slot (there c.loop-next.next c.in-Some.die c.in-Some.is)).2

pub loop-next-smaller : goal.loop-next-smaller
loop-next-smaller g c =
    let t = c.loop-next.self in
    let n = die_slots t.geometry in
    let slot = c.loop-next.next.slot in
    let first = target c.first-next-in-Some.result in
    let is = there c.loop-next.next c.in-Some.die c.in-Some.is in
    let old = c.loop-next.invariant.first.found c.in-Some.die slot is in
    let fits : c.in-Some.die * n + slot < length t.slots.entries =
    subst (λ k. c.in-Some.die * n + slot < k) (sym t.sound.tallied.slots) (index_fits c.in-Some.die slot t.geometry.dies n old.1 old.2) in
    let was = subst (IsNext (entry_of t.slots.entries n) n t.geometry.dies c.args.page 0) is c.loop-next.invariant.first in
    let next = subst (λ l. IsNext (entry_of l n) n t.geometry.dies c.args.page 0 first) c.remove_copy.ensures.entries
    (subst (λ (k : Geometry). IsNext (entry_of c.remove_copy.new.self.slots.entries (die_slots k)) (die_slots k) k.dies c.args.page 0 first) c.remove_copy.ensures.geometry
    c.first-next-in-Some.ensures) in
    let less = fewer_left t.slots.entries n t.geometry.dies c.args.page c.in-Some.die slot fits old.2 old.3 first was next
    (λ other inside also. t.sound.chained.once c.in-Some.die other slot c.args.page inside old.2 also old.3) in
    let now = ap (dies_from t.geometry.dies) is in
    let dies = ap (λ (k : Geometry). dies_from k.dies first) c.remove_copy.ensures.geometry in
    omega (arith, less, now, dies)

pub loop-next-preserved : goal.loop-next-preserved
loop-next-preserved g c =
    let t = c.loop-next.self in
    let slot = c.loop-next.next.slot in
    let same = c.loop-next.invariant.geometry in
    let n = die_slots c.args.self.now.geometry in
    let old = c.loop-next.invariant.first.found c.in-Some.die slot (there c.loop-next.next c.in-Some.die c.in-Some.is) in
    let within : slot < n = subst (λ (k : Geometry). slot < die_slots k) same old.2 in
    let held : entry_of t.slots.entries n c.in-Some.die slot ≡ Current c.args.page =
    subst (λ (k : Geometry). entry_of t.slots.entries (die_slots k) c.in-Some.die slot ≡ Current c.args.page) same old.3 in
    let fits : c.in-Some.die * n + slot < length t.slots.entries =
    subst (λ (k : Geometry). c.in-Some.die * die_slots k + slot < length t.slots.entries) same
    (subst (λ k. c.in-Some.die * die_slots t.geometry + slot < k) (sym t.sound.tallied.slots) (index_fits c.in-Some.die slot t.geometry.dies (die_slots t.geometry) old.1 old.2)) in
    let written = c.remove_copy.ensures.entries ∙ ap (λ (k : Geometry). set t.slots.entries (c.in-Some.die * die_slots k + slot) Stale) same in
    record {
      geometry = c.remove_copy.ensures.geometry ∙ same;
      versions = c.remove_copy.ensures.versions ∙ c.loop-next.invariant.versions;
      first = c.first-next-in-Some.ensures;
      same = λ d s inside.
          ap (λ l. retired c.args.page (entry_of l n d s)) written
          ∙ retired_alike t.slots.entries n t.geometry.dies c.args.page c.in-Some.die slot fits within held d s inside
          ∙ c.loop-next.invariant.same d s inside;
    }

pub returns-clause-entries : goal.returns-clause-entries
returns-clause-entries g c = λ die slot within.
    let t = c.loop-next.self in
    let n = die_slots c.args.self.now.geometry in
    let same = c.loop-next.invariant.geometry in
    let none : target c.loop-next.next ≡ None = ap (λ (o : Option ℕ). place_of o c.loop-next.next.slot) c.in_default.is in
    let bare : entry_of t.slots.entries n die slot ≡ Current c.args.page → ⊥ =
    λ is. c.loop-next.invariant.first.between die slot (omega arith) (subst (λ (k : Geometry). slot < die_slots k) (sym same) within) (before_none die (target c.loop-next.next) none)
    (subst (λ (k : Geometry). entry_of t.slots.entries (die_slots k) die slot ≡ Current c.args.page) (sym same) is) in
    sym (retired_other c.args.page (entry_of t.slots.entries n die slot) bare) ∙ c.loop-next.invariant.same die slot within
