-- The entries of a batch, by their pages and holders.
use Rattle.std.proofs.Common.{◌≡◌, ℕ, ◌<◌, [], List, length, get_or, IfSome, slice_get, subst, ap₂}
use Rattle.std.proofs.lemmas.Option.{slice_get-get_or}
use Rattle.fa_types.specs.declared.numbers.Die.{Die}
use Rattle.fa_types.specs.declared.numbers.Page.{Page}
use Rattle.fa_batch_terms.specs.Batch.{Entry}

-- an entry, for where there is none
abbrev pub no_entry : Entry
no_entry = record { page = record { 0 = 0 }; holders = [] }

abbrev entry_of : Page → List Die → Entry
entry_of page holders = record { page = page; holders = holders }

-- the entry at an index, by its page and its holders
pub entry_there : (batch : List Entry) (i : ℕ) {page : Page} {holders : List Die} → i < length batch → IfSome (slice_get batch i) (λ e. e.page ≡ page)
    → IfSome (slice_get batch i) (λ e. e.holders ≡ holders) → get_or batch i no_entry ≡ record { page = page; holders = holders }
entry_there batch i {page} {holders} below named held =
    let at = slice_get-get_or batch i no_entry below in
    ap₂ entry_of (subst (λ o. IfSome o (λ e. e.page ≡ page)) at named) (subst (λ o. IfSome o (λ e. e.holders ≡ holders)) at held)
