use Rattle.std.proofs.Common.{◌+◌, ◌*◌}
use Rattle.sha2.specs.Sha256.{word_at}
use Rattle.fa_lanes.specs.Lanes.{message}
use Rattle.fa_lanes.proofs.WideLoading.{WideLoaded}
use Rattle.fa_lanes.proofs.four.block_words.Given as goal

abbrev pub invariant-load : goal.invariant-load
invariant-load l = WideLoaded l.w l.k (λ i k. word_at (message l.messages i) (l.at + 4 * k))
