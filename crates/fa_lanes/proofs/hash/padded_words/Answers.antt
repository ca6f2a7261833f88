use Rattle.std.proofs.Common.{ℕ, [], ◌<◌, arith, length, refl}
use Rattle.std.proofs.lemmas.List.Elements.{All-get_or}
use Rattle.fa_lanes.specs.Hashing.{IsPadding}
use Rattle.fa_lanes.proofs.Loading.{each_lane}
use Rattle.fa_lanes.proofs.hash.padded_words.Goals as goal

pub returns : goal.returns
returns c = λ n all.
    let own = λ (l : ℕ) (lt : l < 8). All-get_or (λ tail. IsPadding c.args.padding.now n (length tail.now)) c.args.tails.now l (record { ref_ptr = (0, 0); now = [] }) (omega arith) all in record {
      size = refl;
      each = each_lane _ (c.word.ensures n (own 0 (omega arith))) (c.word-2.ensures n (own 1 (omega arith))) (c.word-3.ensures n (own 2 (omega arith)))
          (c.word-4.ensures n (own 3 (omega arith))) (c.word-5.ensures n (own 4 (omega arith))) (c.word-6.ensures n (own 5 (omega arith)))
          (c.word-7.ensures n (own 6 (omega arith))) (c.word-8.ensures n (own 7 (omega arith)));
    }
