-- Dies have enough open places in time, since few of their rounds are closed.
use Rattle.std.proofs.Common.{◌≡◌, ℕ, zero, suc, ◌+◌, ◌-◌, ◌≤◌, Bool, true, false, cond, not, List, refl, ap, arith}
use Rattle.fa_types.specs.Open.{rounds_that, open_among, FewClosed}
use Rattle.fa_batch_terms.specs.Certificate.{open_places}
use Rattle.fa_cert_places.specs.OpenCounts.{marked}
use Rattle.fa_cert_places.proofs.Marked.{places-yes, places-grow}
use Rattle.fa_closed.proofs.Windows.{rounds_that-join}
use Rattle.fa_plan.specs.Bound.{IsSomeMarked, places_of}

-- each round is open or closed
pub open_or_closed : (closed : ℕ → Bool) (first n : ℕ) → rounds_that (λ round. not (closed round)) first n + rounds_that closed first n ≡ n
open_or_closed closed first zero = refl
open_or_closed closed first (suc n) =
    let rest = open_or_closed closed (suc first) n in
    let here : (b : Bool) → cond {A = ℕ} (not b) 1 0 + cond {A = ℕ} b 1 0 ≡ 1 = λ b. elim b as (λ v. cond {A = ℕ} (not v) 1 0 + cond {A = ℕ} v 1 0 ≡ 1) [ true ↦ refl | false ↦ refl ] in
    let at = here (closed first) in
    omega (arith, rest, at)

-- a die has no fewer open rounds in more rounds
pub open_grows : (current : ℕ) (closed : ℕ → ℕ → Bool) (die n m : ℕ) → n ≤ m → open_among current closed die n ≤ open_among current closed die m
open_grows current closed die n m more =
    let parts = rounds_that-join (λ round. not (closed die round)) current n (m - n) in
    let e : n + (m - n) ≡ m = omega arith in
    let same = ap (λ k. open_among current closed die k) e in
    omega (arith, parts, same)

module _ (current : ℕ) (closed : ℕ → ℕ → Bool) (few : FewClosed current closed) (marks : List Bool) (some : IsSomeMarked marks) where
  -- the marked dies have an open place in each round but those that may be closed
  pub places_in_time : (rounds : ℕ) → rounds ≤ places_of current closed marks rounds + 1048576
  places_in_time rounds =
      let die : ℕ = some.die in
      let opens = open_or_closed (closed die) current rounds in
      let shut = few die rounds in
      let at = places-yes current closed marks rounds die some.is_marked in
      let grow = places-grow current closed marks rounds (die + 1) (256 - (die + 1)) in
      let known = some.known in
      let e : (die + 1) + (256 - (die + 1)) ≡ 256 = omega arith in
      let same = ap (λ n. open_places current closed (marked marks n) rounds) e in
      omega (arith, opens, shut, at, grow, same)
