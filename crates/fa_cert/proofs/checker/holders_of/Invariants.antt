use Rattle.std.proofs.Common.{◌≡◌, ℕ, false, take, length, slice_index_or}
use Rattle.fa_batch_terms.specs.Certificate.{holds_any}
use Rattle.fa_cert.proofs.checker.holders_of.Given as goal

abbrev pub invariant-loop-page : goal.invariant-loop-page
invariant-loop-page g l = (length l.marks ≡ 256) × ((die : ℕ) → slice_index_or l.marks die false ≡ holds_any l.batch (take l.page-index l.pages) die)
