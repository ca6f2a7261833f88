use Rattle.std.proofs.Common.{◌≡◌, ◌++◌, map}
use Rattle.fa_prog_images.proofs.document.place_rows.Given as goal

-- the rows so far, and the places that are left, are all places of the page
abbrev pub invariant-loop-die : goal.invariant-loop-die
invariant-loop-die g l = map (λ row. (row.die, row.slot)) l.rows.items ++ l.die-iterator ≡ l.page.places
