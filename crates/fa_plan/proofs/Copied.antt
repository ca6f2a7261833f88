-- A batch that is copied, entry by entry.
use Rattle.std.proofs.Common.{◌≡◌, ℕ, zero, suc, ◌<◌, List, [], ◌∷◌, ◌++◌, length, take, IfSome, arith, ap, ◌∙◌}
use Rattle.std.specs.List.{slice_get}
use Rattle.fa_types.specs.declared.numbers.Die.{Die}
use Rattle.fa_types.specs.declared.numbers.Page.{Page}
use Rattle.fa_batch_terms.specs.Batch.{Entry}

-- The entries up to one are those before it, and itself.
pub copied_more : (batch : List Entry) (i : ℕ) (page : Page) (holders : List Die) → i < length batch
    → IfSome (slice_get batch i) (λ e. e.page ≡ page) → IfSome (slice_get batch i) (λ e. e.holders ≡ holders)
    → take (suc i) batch ≡ take i batch ++ record { page = page; holders = holders } ∷ []
copied_more [] i page holders h p q = absurd (omega arith)
copied_more (e ∷ rest) zero page holders h p q =
    ap (λ v. record { page = v; holders = e.holders } ∷ []) p ∙ ap (λ v. record { page = page; holders = v } ∷ []) q
copied_more (e ∷ rest) (suc i) page holders h p q = ap (λ v. e ∷ v) (copied_more rest i page holders (omega arith) p q)
