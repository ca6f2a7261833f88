use Rattle.std.proofs.Common.{◌≡◌, ◌++◌, ap, refl, ◌∙◌, arith, List, ℕ, [], ◌<◌, length}
use Rattle.std.proofs.lemmas.List.Elements.{All-get_or}
use Rattle.sha2.specs.Sha256.{digest_bytes, hash_after, padding}
use Rattle.fa_lanes.specs.Lanes.{lane, message}
use Rattle.fa_lanes.specs.Hashing.{IsPadding, finished}
use Rattle.fa_lanes.proofs.Chaining.{finished_from, taken_next}
use Rattle.fa_lanes.proofs.Loading.{each_lane}
use Rattle.fa_lanes.proofs.Tails.{length_padded}
use Rattle.fa_lanes.proofs.hash.finish_states.Goals as goal

pub rounds-init : goal.rounds-init
unfolding hash_after
rounds-init c = λ n all l lt. refl

pub rounds-preserved : goal.rounds-preserved
rounds-preserved c = λ n all l lt.
    taken_next _ (message c.args.tails.now l ++ padding n) c.rounds.i _ _ _ (omega arith) (c.rounds.invariant n all l lt)
    (c.compress.ensures _ l lt (c.last_words-block.ensures n all l lt))

pub returns-clause-size : goal.returns-clause-size
returns-clause-size c = refl

pub returns-clause-digests : goal.returns-clause-digests
returns-clause-digests c = λ n all.
    let done : (l : ℕ) → l < 8 → digest_bytes (lane c.rounds.state l) 8 ≡ finished (lane c.args.state l) (message c.args.tails.now l ++ padding n) =
    λ l lt.
    let own = All-get_or (λ tail. IsPadding c.args.padding.now n (length tail.now)) c.args.tails.now l (record { ref_ptr = (0, 0); now = [] }) (omega arith) all in
    let size = length_padded (message c.args.tails.now l) n c.args.padding.now.end own.end in
    finished_from (lane c.args.state l) (message c.args.tails.now l ++ padding n) (lane c.rounds.state l) c.rounds.i (c.rounds.invariant n all l lt) (omega arith) in
    let bytes = λ (hash : List ℕ). digest_bytes hash 8 in
    each_lane _
    (c.digest_of.ensures ∙ ap bytes c.state_of.ensures ∙ done 0 (omega arith))
    (c.digest_of-2.ensures ∙ ap bytes c.state_of-2.ensures ∙ done 1 (omega arith))
    (c.digest_of-3.ensures ∙ ap bytes c.state_of-3.ensures ∙ done 2 (omega arith))
    (c.digest_of-4.ensures ∙ ap bytes c.state_of-4.ensures ∙ done 3 (omega arith))
    (c.digest_of-5.ensures ∙ ap bytes c.state_of-5.ensures ∙ done 4 (omega arith))
    (c.digest_of-6.ensures ∙ ap bytes c.state_of-6.ensures ∙ done 5 (omega arith))
    (c.digest_of-7.ensures ∙ ap bytes c.state_of-7.ensures ∙ done 6 (omega arith))
    (c.digest_of-8.ensures ∙ ap bytes c.state_of-8.ensures ∙ done 7 (omega arith))
