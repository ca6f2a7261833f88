-- The bytes of a slot are one cell.
use Rattle.std.proofs.Common.{◌≡◌, ℕ, List, refl, ap, ◌∙◌}
use Rattle.fa_machine.specs.declared.places.Version.{Version}
use Rattle.fa_machine.specs.Cells.{Cell, Empty, Sealed, Broken}
use Rattle.fa_tag.proofs.Slots.{not_erased, one_spelling}
use Rattle.fa_tag.specs.declared.tag.Tag.{Tag}
use Rattle.fa_mount_scan.specs.ContentCells.{IsCellOf, tag_of}

cell_of : Tag → List ℕ → Cell
cell_of tag payload = Sealed tag.page.0 (record { seq = tag.seq; kind = tag.kind }) tag.die.0 tag.slot.0 payload

same_cell : (p q : ℕ) (v w : Version) (d e s t : ℕ) (x y : List ℕ) → (tag_of p v d s ≡ tag_of q w e t) × (x ≡ y)
    → Sealed p v d s x ≡ Sealed q w e t y
unfolding cell_of
same_cell p q v w d e s t x y same =
    ap (λ (tag : Tag). cell_of tag x) same.0 ∙ ap (cell_of (tag_of q w e t)) same.1

pub one_cell : (bytes : List ℕ) (a b : Cell) → IsCellOf bytes a → IsCellOf bytes b → a ≡ b
one_cell bytes Empty Empty is_a is_b = refl
one_cell bytes Empty (Sealed q w e t y) is_a is_b = absurd (not_erased (tag_of q w e t) y bytes is_b is_a)
one_cell bytes Empty Broken is_a is_b = absurd (is_b.0 is_a)
one_cell bytes (Sealed p v d s x) Empty is_a is_b = absurd (not_erased (tag_of p v d s) x bytes is_a is_b)
one_cell bytes (Sealed p v d s x) (Sealed q w e t y) is_a is_b =
    same_cell p q v w d e s t x y (one_spelling (tag_of p v d s) (tag_of q w e t) x y bytes is_a is_b)
one_cell bytes (Sealed p v d s x) Broken is_a is_b = absurd (is_b.1 (tag_of p v d s) x is_a)
one_cell bytes Broken Empty is_a is_b = absurd (is_a.0 is_b)
one_cell bytes Broken (Sealed q w e t y) is_a is_b = absurd (is_a.1 (tag_of q w e t) y is_b)
one_cell bytes Broken Broken is_a is_b = refl
