-- Equations of lists, taken apart, and what is known of an answer.
use Rattle.std.proofs.Common.{◌≡◌, ◌≢◌, false, Option, Some, None, is_some, List, [], ◌∷◌, length, refl, ap, subst, arith}
use Rattle.std.specs.Option.{MatchOption}

pub first_same : {X : Type 0} {x y : X} {xs ys : List X} → x ∷ xs ≡ y ∷ ys → x ≡ y
first_same is = cc

pub rest_same : {X : Type 0} {x y : X} {xs ys : List X} → x ∷ xs ≡ y ∷ ys → xs ≡ ys
rest_same is = cc

pub some_left : {X : Type 0} {x : X} {xs : List X} → x ∷ xs ≢ []
some_left is = let no = ap (λ l. length l) is in omega (arith, no)

-- What an answer says, once it is known which it is.
pub where_none : {X : Type 0} {r : Option X} (P : Type 0) (Q : X → Type 0) → r ≡ None → MatchOption r P Q → P
where_none P Q is h = subst (λ v. MatchOption v P Q) is h

pub where_some : {X : Type 0} {r : Option X} (P : Type 0) (Q : X → Type 0) (x : X) → r ≡ Some x → MatchOption r P Q → Q x
where_some P Q x is h = subst (λ v. MatchOption v P Q) is h

-- what is not something is nothing
pub nothing : {X : Type 0} (o : Option X) → is_some o ≡ false → o ≡ None
nothing None h = refl
nothing (Some x) h = cc
