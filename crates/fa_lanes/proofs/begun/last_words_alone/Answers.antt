use Rattle.std.proofs.Common.{rules, ◌≡◌, ◌++◌, inl, inr, arith, sym, ◌∙◌}
use Rattle.std.proofs.lemmas.Bool.{cases_lt}
use Rattle.std.proofs.lemmas.List.{get_or-set_same, get_or-set_other}
use Rattle.sha2.specs.Sha256.{padding}
use Rattle.fa_lanes.proofs.Loading.{word_of_block}
use Rattle.fa_lanes.proofs.begun.last_words_alone.Goals as goal

pub load-preserved : goal.load-preserved
load-preserved c = (
  search rules,
  λ n is i lt. elim (cases_lt i c.load.k) [
    | inl a ↦ get_or-set_other c.load.words c.load.k i c.word.result 0 (omega arith) ∙ c.load.invariant.1 n is i a
    | inr b ↦
        let e : c.load.k ≡ i = omega arith in
        rw (← e) (get_or-set_same c.load.words c.load.k c.word.result 0 (omega arith) ∙ c.word.ensures n is)
  ],
)

pub returns : goal.returns
returns c = λ n is. record {
  count = c.load.invariant.0;
  each = λ k fits. c.load.invariant.1 n is k (omega arith) ∙ sym (word_of_block (c.args.tail.now ++ padding n) c.args.at k fits);
}
