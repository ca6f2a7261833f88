use Rattle.std.proofs.Common.{ℕ, ◌+◌, ◌++◌, ◌∙◌, length, arith, refl, subst}
use Rattle.sha2.specs.Sha256.{hash_after, padding}
use Rattle.fa_lanes.specs.Hashing.{IsPadding}
use Rattle.fa_lanes.proofs.Chaining.{digest_of_begun, finished_from, taken_next}
use Rattle.fa_lanes.proofs.Tails.{length_padded}
use Rattle.fa_lanes.proofs.begun.Begun.finish.Goals as goal

pub rounds-init : goal.rounds-init
unfolding hash_after
rounds-init c = λ n is. refl

pub rounds-preserved : goal.rounds-preserved
rounds-preserved c = λ n is.
    taken_next c.args.self.hash (c.args.tail.now ++ padding n) c.rounds.i _ _ _ (omega arith) (c.rounds.invariant n is)
    (c.compress.ensures _ (c.last_words_alone-words.ensures n is))

pub returns : goal.returns
returns c = λ payload is.
    let tail = c.args.tail.now in
    let n : ℕ = c.args.self.bytes + length tail in
    let own : IsPadding c.new-padding.result n (length tail) =
    subst (λ (k : ℕ). IsPadding c.new-padding.result (c.args.self.bytes + k) k) c.length_of.ensures.length c.new-padding.ensures in
    let size = length_padded tail n c.new-padding.result.end own.end in
    let digest = c.digest_of.ensures in
    digest_of_begun payload tail c.args.self.hash _ n is.whole (omega (arith, is.bytes)) is.hash
    (digest ∙ finished_from c.args.self.hash (tail ++ padding n) c.rounds.hash c.rounds.i (c.rounds.invariant n own) (omega arith))
