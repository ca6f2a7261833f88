use Rattle.std.proofs.Common.{◌≡◌, ℕ, ◌==◌, ◌≤◌, false, take, length, slice_index_or}
use Rattle.std.specs.List.{list_any}
use Rattle.fa_batch_terms.specs.Certificate.{AreNamed, holds_any}
use Rattle.fa_cert.specs.Marks.{AreMarks}
use Rattle.fa_cert.proofs.checker.named_holders.Given as goal

abbrev pub invariant-loop-page : goal.invariant-loop-page
invariant-loop-page g l = record {
  long : length l.named ≡ 1024;
  marked : AreMarks l.batch (λ page. list_any (λ p. p.0 == page) (take l.page-index l.pages)) l.named;
  named : AreNamed l.batch (take l.page-index l.pages);
  dies_long : length l.dies ≡ 256;
  holders : (die : ℕ) → slice_index_or l.dies die false ≡ holds_any l.batch (take l.page-index l.pages) die;
  near : l.likely ≤ length l.batch;
}
