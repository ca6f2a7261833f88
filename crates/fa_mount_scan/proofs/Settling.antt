-- One die more is settled.
use Rattle.std.proofs.Common.{◌≡◌, ℕ, ◌+◌, inl, inr, List, [], ◌∷◌, ◌++◌, Some, length, sym, ap, subst, ◌∙◌, arith, slice_get}
use Rattle.std.proofs.lemmas.List.{get_or_append_left, get_or_push, length_push}
use Rattle.std.proofs.lemmas.Option.{same_Some, slice_get-get_or, slice_get_within, get_or_from_slice_get}
use Rattle.fa_mount_scan.specs.Content.{Contents}
use Rattle.fa_mount_scan.specs.Scanned.{AreSettled, Outcome, mounted_of, settled}
use Rattle.fa_mount_headers.specs.declared.judging.Standing.{Standing}
use Rattle.fa_mount_scan.proofs.ByDie.{slice_get_push}

pushed_before : {X : Type 0} (xs : List X) (x y : X) (i : ℕ) → slice_get xs i ≡ Some y → slice_get (xs ++ x ∷ []) i ≡ Some y
pushed_before xs x y i at =
    let below = slice_get_within xs i y at in
    slice_get-get_or (xs ++ x ∷ []) i y (let long = length_push xs x in omega (arith, long, below))
    ∙ ap Some (get_or_append_left xs (x ∷ []) y i below ∙ get_or_from_slice_get xs i y y at)

pushed_at : {X : Type 0} (xs : List X) (x : X) (i : ℕ) → i ≡ length xs → slice_get (xs ++ x ∷ []) i ≡ Some x
pushed_at xs x i last =
    slice_get-get_or (xs ++ x ∷ []) i x (let long = length_push xs x in omega (arith, long, last)) ∙ ap Some (get_or_push xs x x i (sym last))

pub one_more_settled : (standings : List Standing) (outcomes : List Outcome) (dies : List Standing) (contents : Contents)
    (standing : Standing) (outcome : Outcome) → slice_get standings (length outcomes) ≡ Some standing → AreSettled standings outcomes dies contents
    → AreSettled standings (outcomes ++ outcome ∷ []) (dies ++ settled standing outcome ∷ []) (contents ++ mounted_of standing outcome ∷ [])
one_more_settled standings outcomes dies contents standing outcome at before = record {
  dies_length = length_push dies (settled standing outcome) ∙ ap (λ n. n + 1) before.dies_length ∙ sym (length_push outcomes outcome);
  contents_length = length_push contents (mounted_of standing outcome) ∙ ap (λ n. n + 1) before.contents_length ∙ sym (length_push outcomes outcome);
  each = λ die x o is found. elim (slice_get_push outcomes outcome o die found) [
    | inl old ↦
        let was = before.each die x o is old.1 in (
          pushed_before dies (settled standing outcome) (settled x o) die was.0,
          pushed_before contents (mounted_of standing outcome) (mounted_of x o) die was.1,
        )
    | inr new ↦
        let one : standing ≡ x = same_Some standing x (sym at ∙ ap (slice_get standings) (sym new.0) ∙ is) in
        let both = λ (y : Standing) (p : Outcome). (slice_get (dies ++ settled standing outcome ∷ []) die ≡ Some (settled y p))
        × (slice_get (contents ++ mounted_of standing outcome ∷ []) die ≡ Some (mounted_of y p)) in
        subst (λ y. both y o) one (subst (λ p. both standing p) new.1 (
          pushed_at dies (settled standing outcome) die (new.0 ∙ sym before.dies_length),
          pushed_at contents (mounted_of standing outcome) die (new.0 ∙ sym before.contents_length),
        ))
  ];
}
