-- Slots that are opened together.
use Rattle.std.specs.Prelude.{List, [], ◌∷◌}
use Rattle.std.specs.Borrow.{Bor}
use Rattle.std.specs.Prelude.{ℕ}
use Rattle.fa_tag.specs.declared.tag.Opened.{Opened}
use Rattle.fa_tag.specs.SlotGrammar.{IsOpened}

-- each slot's bytes are what was answered for it
abbrev pub AreOpened : List (Bor (List ℕ)) → List Opened → Type 0
AreOpened [] [] = Unit {0}
AreOpened (slot ∷ slots) (opened ∷ others) = IsOpened slot.now opened × AreOpened slots others
AreOpened slots opened = ⊥
