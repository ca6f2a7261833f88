use Rattle.std.proofs.Common.{◌≡◌, ℕ, ◌<◌, None, Option, sym, ap, subst, ◌∙◌}
use Rattle.std.proofs.lemmas.Option.{none-some, same_Some}
use Rattle.fa_map.specs.Chains.{entry_of, place_of, target}
use Rattle.fa_map_calls.specs.Plain.{die_slots}
use Rattle.fa_map.proofs.Chained.{same_place, seam_absent, some_place}
use Rattle.fa_map.proofs.tables.Tables.copy_on.Goals as goal

pub returns-then-other-die-clause-some : goal.returns-then-other-die-clause-some
returns-then-other-die-clause-some g c = λ slot e.
    let s = c.args.self.now in
    let is : target c.seam.result.next ≡ some_place c.in-Some.other c.seam.result.next.slot = ap (λ (o : Option ℕ). place_of o c.seam.result.next.slot) c.in-Some.is in
    let old = c.seam.ensures.follows.found c.in-Some.other c.seam.result.next.slot is in
    let same = same_Some c.seam.result.next.slot slot e in (
      subst (λ k. k < die_slots s.geometry) same old.2,
      (λ i. entry_of s.slots.entries (die_slots s.geometry) (sym c.if-other-die.true i) (sym same i)) ∙ old.3,
    )

pub returns-else-other-die-clause-none : goal.returns-else-other-die-clause-none
returns-else-other-die-clause-none g c = λ e slot inside held.
    let s = c.args.self.now in
    let is : target c.seam.result.next ≡ some_place c.in-Some.other c.seam.result.next.slot = ap (λ (o : Option ℕ). place_of o c.seam.result.next.slot) c.in-Some.is in
    seam_absent (entry_of s.slots.entries (die_slots s.geometry)) (die_slots s.geometry) s.geometry.dies c.args.page c.args.die (target c.seam.result.last) (target c.seam.result.next) c.seam.ensures
    (λ d k there same. let at = same_place c.in-Some.other c.seam.result.next.slot d k (sym is ∙ there) in c.if-other-die.false (at.0 ∙ same)) slot inside held

pub returns-in-None-clause-none : goal.returns-in-None-clause-none
returns-in-None-clause-none g c = λ e slot inside held.
    let s = c.args.self.now in
    let is : target c.seam.result.next ≡ None = ap (λ (o : Option ℕ). place_of o c.seam.result.next.slot) c.in-None.is in
    seam_absent (entry_of s.slots.entries (die_slots s.geometry)) (die_slots s.geometry) s.geometry.dies c.args.page c.args.die (target c.seam.result.last) (target c.seam.result.next) c.seam.ensures
    (λ d k there same. none-some (d, k) (sym is ∙ there)) slot inside held
