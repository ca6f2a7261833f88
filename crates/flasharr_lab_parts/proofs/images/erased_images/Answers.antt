use Rattle.std.proofs.Common.{◌≡◌, ◌+◌, ◌<◌, ◌≤◌, ◌++◌, ℕ, List, [], ◌∷◌, length, length-append, refl, ap, arith, subst, sym, ◌∙◌}
use Rattle.std.specs.List.{AllByRecursion}
use Rattle.flasharr_lab_parts.proofs.images.erased_images.Goals as goal

all_pushed : {X : Type 0} (P : X → Type 0) (xs : List X) (x : X) → AllByRecursion P xs → P x → AllByRecursion P (xs ++ x ∷ [])
all_pushed P [] x all here = (here, tt)
all_pushed P (y ∷ xs) x all here = (all.0, all_pushed P xs x all.1 here)

one_longer : {X : Type 0} (xs : List X) (x : X) (n : ℕ) → length xs ≡ n → length (xs ++ x ∷ []) ≡ n + 1
one_longer xs x n long = length-append xs (x ∷ []) ∙ ap (λ k. k + 1) long

one_further : (n m : ℕ) → n < m → n + 1 ≤ m
one_further n m below = omega arith

pub loop-die-preserved : goal.loop-die-preserved
loop-die-preserved g c =
    let P = λ (image : g.row.I.Denot). (g.I.Image.view image).geometry ≡ c.args.geometry in
    let x = c.in_ok-erased_image.field-0 in
    let xs = c.loop-die.images.items in
    let pushed = sym c.in_ok-push.ensures.items in record {
      long = subst (λ (items : List g.row.I.Denot). length items ≡ c.loop-die.die + 1) pushed
          (one_longer xs x c.loop-die.die c.loop-die.invariant.long);
      end = refl;
      order = one_further c.loop-die.die c.args.geometry.dies c.loop-die-test.true;
      shape = subst (AllByRecursion P) pushed (all_pushed P xs x c.loop-die.invariant.shape c.in_ok-erased_image.ensures);
    }
