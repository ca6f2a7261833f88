use Rattle.std.proofs.Common.{◌+◌, ◌*◌}
use Rattle.sha2.specs.Sha256.{word_at}
use Rattle.fa_lanes.specs.Lanes.{message}
use Rattle.fa_lanes.proofs.Loading.{Loaded}
use Rattle.fa_lanes.proofs.hash.block_words.Given as goal

abbrev pub invariant-load : goal.invariant-load
invariant-load l = Loaded l.w l.k (λ i k. word_at (message l.messages i) (l.at + 4 * k))
