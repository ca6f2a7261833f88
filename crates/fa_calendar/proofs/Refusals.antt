-- Clauses of calls that answer a result.
use Rattle.std.proofs.Common.{◌≡◌, true, Result, Ok, Err, ap}
use Rattle.std.specs.Prelude.{OnErr, IsErrOf}
use Rattle.std.specs.Result.{is_err}

pub on_err : {X E P : Type 0} (r : Result X E) → is_err r ≡ true → OnErr r P → P
on_err (Ok x) is h = cc
on_err (Err e) is h = h

-- an error is the same whatever the value would have been
pub err_as : {X Y E : Type 0} (e f : E) → IsErrOf {T = X} (Err e) f → IsErrOf {T = Y} (Err e) f
err_as {X} {Y} {E} e f is = let same : e ≡ f = cc in ap (λ (x : E). let r : Result Y E = Err x in r) same
