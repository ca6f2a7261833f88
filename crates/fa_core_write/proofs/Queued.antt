-- Three programs at most, queued one by one.
use Rattle.fa_machine.specs.State.{WaitingProgram}
use Rattle.fa_machine.specs.declared.places.Target.{Target}
use Rattle.std.proofs.Common.{List, [], ap, arith, drop, length, map, refl, take, ◌++◌, ◌≤◌, ◌∙◌, ◌∷◌, ◌≡◌}
use Rattle.std.proofs.lemmas.List.{append_assoc}

module _ (f : Target → WaitingProgram) where
  in_pieces : (slots : List Target) → length slots ≤ 3
      → map f (take 1 (drop 0 slots)) ++ (map f (take 1 (drop 1 slots)) ++ map f (take 1 (drop 2 slots))) ≡ map f slots
  in_pieces [] few = refl
  in_pieces (a ∷ []) few = refl
  in_pieces (a ∷ b ∷ []) few = refl
  in_pieces (a ∷ b ∷ c ∷ []) few = refl
  in_pieces (a ∷ b ∷ c ∷ d ∷ rest) few = absurd (omega (arith, few))

  pub queued_each : (first ready one two three : List WaitingProgram) (slots : List Target) → length slots ≤ 3 → ready ≡ first
      → one ≡ ready ++ map f (take 1 (drop 0 slots)) → two ≡ one ++ map f (take 1 (drop 1 slots))
      → three ≡ two ++ map f (take 1 (drop 2 slots)) → three ≡ first ++ map f slots
  queued_each first ready one two three slots few made a b c =
      let x = map f (take 1 (drop 0 slots)) in let y = map f (take 1 (drop 1 slots)) in let z = map f (take 1 (drop 2 slots)) in
      c ∙ ap (λ l. l ++ z) (b ∙ ap (λ l. l ++ y) (a ∙ ap (λ l. l ++ x) made))
      ∙ append_assoc (first ++ x) y z ∙ append_assoc first x (y ++ z) ∙ ap (λ l. first ++ l) (in_pieces slots few)
