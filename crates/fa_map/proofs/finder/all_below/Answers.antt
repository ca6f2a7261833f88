use Rattle.std.proofs.Common.{Bool, true, ap, cond, inl, inr, ◌∙◌, arith}
use Rattle.std.proofs.lemmas.Bool.{cases_eq, eq-eqb, ne_eqb}
use Rattle.std.specs.FinMap.{contains_key}
use Rattle.fa_machine.specs.Maps.{Numbers}
use Rattle.fa_set.specs.Members.{members}
use Rattle.fa_map.proofs.Few.{member_put}
use Rattle.fa_map.proofs.finder.all_below.Goals as goal

pub loop-number-preserved : goal.loop-number-preserved
loop-number-preserved g c = record {
  bound = c.insert.ensures.bound ∙ c.loop-number.invariant.bound;
  all = λ k below.
      let old = members c.loop-number.set in
      ap (λ (m : Numbers). contains_key m k) c.insert.ensures.members ∙ member_put old c.loop-number.number k true
      ∙ elim (cases_eq k c.loop-number.number) [
        | inl is ↦ ap (λ (b : Bool). cond b true (contains_key old k)) (eq-eqb k c.loop-number.number is)
        | inr apart ↦
            ap (λ (b : Bool). cond b true (contains_key old k)) (ne_eqb k c.loop-number.number apart)
            ∙ c.loop-number.invariant.all k (omega (arith, below, apart))
      ];
}
