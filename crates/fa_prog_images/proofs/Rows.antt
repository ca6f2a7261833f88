-- Rows and sums that grow by one.
use Rattle.std.proofs.Common.{◌≡◌, ℕ, suc, ◌+◌, List, [], ◌∷◌, ◌++◌, map, length, sym, ◌∙◌, subst, add-one, arith}
use Rattle.fa_machine.specs.State.{MapState}
use Rattle.fa_mount_headers.specs.declared.found.Found.{Found}
use Rattle.fa_mount_headers.specs.declared.judging.Standing.{Standing}
use Rattle.fa_prog_images.specs.Table.{AreRowsFrom, IsRow, sum_below}
use Rattle.fa_prog_images.specs.declared.table.DieRow.{DieRow}

pub sum_more : (number : ℕ → ℕ) (n total more sum : ℕ) → total ≡ sum_below number n → more ≡ number n → sum ≡ total + more → sum ≡ sum_below number (n + 1)
sum_more number n total more sum is one all =
    let next : total + more ≡ sum_below number (suc n) = cc in
    all ∙ subst (λ k. total + more ≡ sum_below number k) (sym (add-one n)) next

module _ (paths : List (List ℕ)) (places : List ℕ) (founds : List Found) (dies : List Standing) (m : MapState) where
  rows_on : (first die : ℕ) (rows : List DieRow) (row : DieRow) → die ≡ first + length rows → AreRowsFrom paths places founds dies m first rows
      → IsRow paths places founds dies m die row → AreRowsFrom paths places founds dies m first (rows ++ row ∷ [])
  rows_on first die [] row at all one =
      let here : die ≡ first = omega (arith, at) in
      (subst (λ d. IsRow paths places founds dies m d row) here one, tt)
  rows_on first die (x ∷ rows) row at all one =
      let next : die ≡ suc first + length rows = omega (arith, at) in
      (all.0, rows_on (suc first) die rows row next all.1 one)

  pub rows_more : (die : ℕ) (rows new : List DieRow) (row : DieRow) → length rows ≡ die → new ≡ rows ++ row ∷ []
      → AreRowsFrom paths places founds dies m 0 rows → IsRow paths places founds dies m die row → AreRowsFrom paths places founds dies m 0 new
  rows_more die rows new row at is all one =
      let here : die ≡ 0 + length rows = omega (arith, at) in
      subst (AreRowsFrom paths places founds dies m 0) (sym is) (rows_on 0 die rows row here all one)
