-- What batches gave, told by their pages and bytes.
use Rattle.std.proofs.Common.{◌≡◌, ◌++◌, ◌∙◌, ◌∷◌, [], ℕ, List, false, Some, length, map, refl, sym, ap, inl, inr}
use Rattle.std.proofs.lemmas.List.Concat.{flat_map-cons}
use Rattle.std.proofs.lemmas.List.Folds.{list_all-map}
use Rattle.std.specs.List.{flat_map, list_all}
use Rattle.fa_shared_steps.specs.Prepared.{SortsAnswer, after_batch, has_part}
use Rattle.fa_shared_steps.specs.Ranges.{part_of}
use Rattle.fa_shared_steps.specs.declared.range.Range.{Range}
use Rattle.fa_shared_steps.specs.declared.stage.Stage.{Stage}
use Rattle.fa_shared_steps.specs.declared.stage.Stage.TheVariants.{Ended}
use Rattle.fa_types.specs.declared.blocks.BlockFault.TheVariants.{Lost}

-- the pieces of mapped elements
flat_mapped : {X Y Z : Type 0} (f : Y → List Z) (h : X → Y) (xs : List X) → flat_map f (map h xs) ≡ flat_map (λ x. f (h x)) xs
flat_mapped f h [] = refl
flat_mapped f h (x ∷ xs) =
    flat_map-cons f (h x) (map h xs) ∙ (ap (λ rest. f (h x) ++ rest) (flat_mapped f h xs) ∙ sym (flat_map-cons (λ y. f (h y)) x xs))

pub sorted : {A X : Type 0} (r : Range) (page : ℕ) (told : X → ℕ × List ℕ) (given : List X) (before after : List ℕ) (next : Stage A)
    → after ≡ before ++ flat_map (λ e. part_of r (told e).0 (told e).1) given → next ≡ after_batch r page after
    → SortsAnswer r page (map told given) before next after
sorted r page told given before after next grown goes =
    inl (grown ∙ ap (λ rest. before ++ rest) (sym (flat_mapped (λ e. part_of r e.0 e.1) told given)), goes)

pub short : {A X : Type 0} (r : Range) (page : ℕ) (told : X → ℕ × List ℕ) (given : List X) (before after : List ℕ) (next : Stage A)
    → list_all (λ e. has_part r (told e).0 (length (told e).1)) given ≡ false → next ≡ Ended (Some Lost)
    → SortsAnswer r page (map told given) before next after
short r page told given before after next not_all ends =
    inr (inr (list_all-map (λ e. has_part r e.0 (length e.1)) told given ∙ not_all, ends))
