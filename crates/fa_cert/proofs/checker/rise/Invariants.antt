use Rattle.std.proofs.Common.{◌≡◌, ◌<◌, take, length, slice_index_or}
use Rattle.std.specs.List.{All}
use Rattle.fa_batch_terms.specs.Plan.{AreApart}
use Rattle.fa_cert.proofs.checker.rise.Given as goal

abbrev pub invariant-loop-place : goal.invariant-loop-place
invariant-loop-place l = record {
  long : length l.free ≡ 256;
  below : All (λ x. x.round.0 < slice_index_or l.free x.die.0 0) (take l.place-index l.places);
  apart : AreApart (take l.place-index l.places);
}
