-- Slots that are opened one part after the other.
use Rattle.std.proofs.Common.{◌≡◌, ap, refl, suc, ℕ, ◌+◌, ◌-◌, ◌<◌, List, [], ◌∷◌, ◌++◌, take, drop, length, slice_index_or, slice_set, subst, sym}
use Rattle.std.proofs.lemmas.List.{take-append-drop, take_more, take_more_set, take_rest}
use Rattle.std.specs.Borrow.{Bor}
use Rattle.fa_lanes.specs.Lanes.{message}
use Rattle.fa_tag.specs.declared.tag.Opened.{Opened}
use Rattle.fa_tag.specs.SlotGrammar.{IsOpened}
use Rattle.fa_tag.specs.OpenedTogether.{AreOpened}

-- those behind others
pub both_opened : (slots more : List (Bor (List ℕ))) (opened others : List Opened) → AreOpened slots opened → AreOpened more others
    → AreOpened (slots ++ more) (opened ++ others)
both_opened [] more [] others first second = second
both_opened [] more (o ∷ opened) others first second = elim first [ ]
both_opened (s ∷ slots) more [] others first second = elim first [ ]
both_opened (s ∷ slots) more (o ∷ opened) others first second = (first.0, both_opened slots more opened others first.1 second)

-- all of them, where the first n are and those behind them
pub parts_opened : (slots : List (Bor (List ℕ))) (n : ℕ) (front back : List Opened) → AreOpened (take n slots) front
    → AreOpened (take (length slots - n) (drop n slots)) back → AreOpened slots (front ++ back)
parts_opened slots n front back first second =
    subst (λ (l : List (Bor (List ℕ))). AreOpened l (front ++ back)) (take-append-drop n slots)
    (both_opened (take n slots) (drop n slots) front back first
    (subst (λ (l : List (Bor (List ℕ))). AreOpened l back) (take_rest slots n) second))

-- as many answers as slots
pub same_size : (slots : List (Bor (List ℕ))) (opened : List Opened) → AreOpened slots opened → length opened ≡ length slots
same_size [] [] are = refl
same_size [] (o ∷ opened) are = elim are [ ]
same_size (s ∷ slots) [] are = elim are [ ]
same_size (s ∷ slots) (o ∷ opened) are = ap (λ (n : ℕ). suc n) (same_size slots opened are.1)

-- one more
pub one_more_opened : (slots : List (Bor (List ℕ))) (opened : List Opened) (i : ℕ) (answer : Opened) → i < length slots → i < length opened
    → AreOpened (take i slots) (take i opened) → IsOpened (message slots i) answer
    → AreOpened (take (i + 1) slots) (take (i + 1) (slice_set opened i answer))
one_more_opened slots opened i answer within long before is =
    let none : Bor (List ℕ) = record { ref_ptr = (0, 0); now = [] } in
    let one : AreOpened (slice_index_or slots i none ∷ []) (answer ∷ []) = (is, tt) in
    subst (λ (l : List Opened). AreOpened (take (i + 1) slots) l) (sym (take_more_set opened i answer long))
    (subst (λ (l : List (Bor (List ℕ))). AreOpened l (take i opened ++ answer ∷ [])) (sym (take_more slots i none within))
    (both_opened (take i slots) (slice_index_or slots i none ∷ []) (take i opened) (answer ∷ []) before one))
