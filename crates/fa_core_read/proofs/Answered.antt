-- What two clauses say of an answer.
use Rattle.std.specs.Prelude.{Err, IfOk, Ok, OnErr, Result}

pub ok_both : {X E : Type 0} (P Q R : X → Type 0) → ((x : X) → P x → Q x → R x) → (r : Result X E) → IfOk r P → IfOk r Q → IfOk r R
ok_both P Q R go (Ok x) p q = go x p q
ok_both P Q R go (Err e) p q = p

pub on_err_of : {X E : Type 0} (P : Type 0) → P → (r : Result X E) → OnErr r P
on_err_of P p (Ok x) = tt
on_err_of P p (Err e) = p

pub ok_one : {X E : Type 0} (P Q : X → Type 0) → ((x : X) → P x → Q x) → (r : Result X E) → IfOk r P → IfOk r Q
ok_one P Q go (Ok x) p = go x p
ok_one P Q go (Err e) p = p
