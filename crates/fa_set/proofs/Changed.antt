-- Sets in which a number came in or went.
use Rattle.std.proofs.Common.{◌≡◌, ℕ, Some, None, true, false, ap, cond, eq-eqb, refl, ◌∙◌}
use Rattle.std.proofs.lemmas.Bool.{ne_eqb}
use Rattle.std.specs.Cmp.{nat_cmp_total, unsigned_tied}
use Rattle.std.specs.FinMap.{contains_key, get, get-insert, get-remove, insert, remove}
use Rattle.std.specs.Prelude.{is_some}
use Rattle.fa_set.specs.Members.{Numbers}

module _ (m : Numbers) (n : ℕ) where
  pub inserted_here : contains_key (insert m n tt) n ≡ true
  inserted_here =
      ap is_some (get-insert nat_cmp_total m n tt n
      ∙ ap (λ b. cond b (Some tt) (get m n)) (unsigned_tied n n ∙ eq-eqb n n refl))

  pub inserted_other : (k : ℕ) → (k ≡ n → ⊥) → contains_key (insert m n tt) k ≡ contains_key m k
  inserted_other k apart =
      ap is_some (get-insert nat_cmp_total m n tt k ∙ ap (λ b. cond b (Some tt) (get m k)) (unsigned_tied k n ∙ ne_eqb k n apart))

  pub removed_here : contains_key (remove m n) n ≡ false
  removed_here =
      ap is_some (get-remove nat_cmp_total m n n ∙ ap (λ b. cond b None (get m n)) (unsigned_tied n n ∙ eq-eqb n n refl))

  pub removed_other : (k : ℕ) → (k ≡ n → ⊥) → contains_key (remove m n) k ≡ contains_key m k
  removed_other k apart =
      ap is_some (get-remove nat_cmp_total m n k ∙ ap (λ b. cond b None (get m k)) (unsigned_tied k n ∙ ne_eqb k n apart))
