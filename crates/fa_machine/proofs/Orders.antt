-- No die stands twice in the order of a page.
use Rattle.fa_machine.proofs.Lists.{tally-append, tally-filter-le}
use Rattle.fa_machine.specs.Among.{tally}
use Rattle.fa_machine.specs.Maps.{is_one_of}
use Rattle.fa_machine.specs.Placement.{home_1, home_2, home_3, homes, order_of}
use Rattle.fa_machine.specs.State.{MapState, dies_of}
use Rattle.std.proofs.Common.{Bool, List, [], ap, arith, cond, eq-eqb, eqb-true, false, inl, inr, not, refl, subst, suc, sym, true}
use Rattle.std.proofs.Common.{zero, ℕ, ◌%◌, ◌++◌, ◌+◌, ◌-◌, ◌/◌, ◌<◌, ◌∙◌, ◌∷◌, ◌≡◌, ◌≤◌, ◌⊎◌}
use Rattle.std.proofs.lemmas.Bool.{cases_Bool, cases_eq, cases_lt, false≢true, ne_eqb, or_left, or_right, true≢false}
use Rattle.std.proofs.lemmas.List.{reverse-append}
use Rattle.std.specs.List.{range_with_len}
use Rattle.std.specs.Prelude.{filter, if◌then◌else◌, reverse, ◌==◌}
use Rattle.std.proofs.Math.Nat.{mod-eq_of_lt, mod-lt, add-mod_right}

-- what is below twice a number is its remainder, or that and the number
mod_cases : (s m : ℕ) → 0 < m → s < m + m → ((s < m) × (s % m ≡ s)) ⊎ ((m ≤ s) × (s % m + m ≡ s))
mod_cases s m some high =
    elim (cases_lt s m) [
      | inl low ↦ inl (low, mod-eq_of_lt low)
      | inr past ↦
          let d : ℕ = s - m in
          let small : d < m = omega arith in
          let whole : s ≡ d + m = omega arith in
          let e : s % m ≡ d = ap (λ n. n % m) whole ∙ add-mod_right d m ∙ mod-eq_of_lt small in
          inr (past, omega (arith, e, past))
    ]

second_apart : (m page : ℕ) → 2 ≤ m → home_1 m page ≡ home_2 m page → ⊥
second_apart m page two same =
    let low : page % m < m = mod-lt page (omega arith) in
    let step : (page / m) % (m - 1) < m - 1 = mod-lt (page / m) (omega arith) in
    elim (mod_cases (home_1 m page + 1 + (page / m) % (m - 1)) m (omega arith) (omega arith)) [
      | inl e ↦ let is = e.1 in omega (arith, same, is, low, step)
      | inr e ↦ let is = e.1 in omega (arith, same, is, low, step)
    ]

next_cases : (m n : ℕ) → n < m → 2 ≤ m → ((n + 1) % m ≡ n + 1) × (n + 1 < m) ⊎ ((n + 1) % m ≡ 0) × (n + 1 ≡ m)
next_cases m n low two =
    elim (mod_cases (n + 1) m (omega arith) (omega arith)) [
      | inl e ↦ inl (e.1, e.0)
      | inr e ↦ let is = e.1 in let past = e.0 in inr (omega (arith, is, past, low), omega (arith, past, low))
    ]

third_if : (m a b next : ℕ) → 3 ≤ m → a < m → b < m → next ≡ (b + 1) % m → (a ≡ b → ⊥) → (same : Bool) → (next == a) ≡ same
    → ((if same then (next + 1) % m else next) ≡ a → ⊥) × ((if same then (next + 1) % m else next) ≡ b → ⊥)
third_if m a b next three low_a low_b is apart true e =
    let at = eqb-true next a e in
    elim (next_cases m b low_b (omega arith)) [
      | inl f ↦ elim (next_cases m next (omega (arith, f.0, f.1, is)) (omega arith)) [
        | inl g ↦ (λ s. let x = f.0 in let y = g.0 in omega (arith, x, y, s, at, is), λ s. let x = f.0 in let y = g.0 in omega (arith, x, y, s, at, is))
        | inr g ↦ (λ s. let x = f.0 in let y = g.0 in let z = g.1 in omega (arith, x, y, z, s, at, is), λ s. let x = f.0 in let y = g.0 in let z = g.1 in let u = f.1 in omega (arith, x, y, z, u, s, at, is))
      ]
      | inr f ↦ elim (next_cases m next (omega (arith, f.0, f.1, is)) (omega arith)) [
        | inl g ↦ (λ s. let x = f.0 in let y = g.0 in omega (arith, x, y, s, at, is), λ s. let x = f.0 in let y = g.0 in let z = f.1 in omega (arith, x, y, z, s, at, is))
        | inr g ↦ (λ s. let x = f.0 in let y = g.0 in let z = g.1 in omega (arith, x, y, z, s, at, is), λ s. let x = f.0 in let y = g.0 in let z = g.1 in omega (arith, x, y, z, s, at, is))
      ]
    ]
third_if m a b next three low_a low_b is apart false e = (
  λ s. true≢false (sym (eq-eqb next a s) ∙ e),
  λ s. elim (next_cases m b low_b (omega arith)) [
    | inl f ↦ let x = f.0 in omega (arith, x, s, is)
    | inr f ↦ let x = f.0 in let y = f.1 in omega (arith, x, y, s, is)
  ],
)

third_apart : (m page : ℕ) → 3 ≤ m → (home_3 m page ≡ home_1 m page → ⊥) × (home_3 m page ≡ home_2 m page → ⊥)
third_apart m page three =
    third_if m (home_1 m page) (home_2 m page) ((home_2 m page + 1) % m) three (mod-lt page (omega arith)) (mod-lt _ (omega arith)) refl
    (second_apart m page (omega arith)) ((home_2 m page + 1) % m == home_1 m page) refl

one_of_two : (a b d : ℕ) → (a ≡ b → ⊥) → tally (λ n. n == d) (a ∷ b ∷ []) ≤ 1
one_of_two a b d apart =
    elim (cases_eq a d) [
      | inl same ↦
          let x : ◌≡◌ {A = ℕ} (if a == d then 1 else 0) 1 = ap {B = ℕ} (λ t. if t then 1 else 0) (eq-eqb a d same) in
          let y : ◌≡◌ {A = ℕ} (if b == d then 1 else 0) 0 = ap {B = ℕ} (λ t. if t then 1 else 0) (ne_eqb b d (λ e. apart (same ∙ sym e))) in
          omega (arith, x, y)
      | inr away ↦
          let x : ◌≡◌ {A = ℕ} (if a == d then 1 else 0) 0 = ap {B = ℕ} (λ t. if t then 1 else 0) (ne_eqb a d away) in
          let y = at_most (b == d) in
          omega (arith, x, y)
    ]
  where
    at_most : (t : Bool) → (if t then 1 else 0) ≤ 1
    at_most true = omega arith
    at_most false = omega arith

one_of_three : (a b c d : ℕ) → (a ≡ b → ⊥) → (c ≡ a → ⊥) → (c ≡ b → ⊥) → tally (λ n. n == d) (a ∷ b ∷ c ∷ []) ≤ 1
one_of_three a b c d ab ca cb =
    elim (cases_eq c d) [
      | inr away ↦
          let z : ◌≡◌ {A = ℕ} (if c == d then 1 else 0) 0 = ap {B = ℕ} (λ t. if t then 1 else 0) (ne_eqb c d away) in
          let two = one_of_two a b d ab in omega (arith, z, two)
      | inl same ↦
          let x : ◌≡◌ {A = ℕ} (if a == d then 1 else 0) 0 = ap {B = ℕ} (λ t. if t then 1 else 0) (ne_eqb a d (λ e. ca (same ∙ sym e))) in
          let y : ◌≡◌ {A = ℕ} (if b == d then 1 else 0) 0 = ap {B = ℕ} (λ t. if t then 1 else 0) (ne_eqb b d (λ e. cb (same ∙ sym e))) in
          let z : ◌≡◌ {A = ℕ} (if c == d then 1 else 0) 1 = ap {B = ℕ} (λ t. if t then 1 else 0) (eq-eqb c d same) in
          omega (arith, x, y, z)
    ]

homes_apart : (copies m page d : ℕ) → (copies ≡ 2) ⊎ (copies ≡ 3) → copies ≤ m → tally (λ n. n == d) (homes copies m page) ≤ 1
homes_apart copies m page d (inl two) enough =
    subst (λ n. tally (λ k. k == d) (homes n m page) ≤ 1) (sym two) (one_of_two (home_1 m page) (home_2 m page) d (second_apart m page (omega arith)))
homes_apart copies m page d (inr three) enough =
    let t = third_apart m page (omega arith) in
    subst (λ n. tally (λ k. k == d) (homes n m page) ≤ 1) (sym three)
    (one_of_three (home_1 m page) (home_2 m page) (home_3 m page) d (second_apart m page (omega arith)) t.0 t.1)

none_below : (d a n : ℕ) → d < a → tally (λ k. k == d) (range_with_len a n) ≡ 0
none_below d a zero low = refl
none_below d a (suc n) low =
    let x : ◌≡◌ {A = ℕ} (if a == d then 1 else 0) 0 = ap {B = ℕ} (λ t. if t then 1 else 0) (ne_eqb a d (λ e. absurd (omega (arith, e, low)))) in
    let rest = none_below d (a + 1) n (omega arith) in omega (arith, x, rest)

range_once : (d a n : ℕ) → tally (λ k. k == d) (range_with_len a n) ≤ 1
range_once d a zero = omega arith
range_once d a (suc n) =
    elim (cases_eq a d) [
      | inl same ↦
          let x : ◌≡◌ {A = ℕ} (if a == d then 1 else 0) 1 = ap {B = ℕ} (λ t. if t then 1 else 0) (eq-eqb a d same) in
          let rest = none_below d (a + 1) n (omega (arith, same)) in omega (arith, x, rest)
      | inr away ↦
          let x : ◌≡◌ {A = ℕ} (if a == d then 1 else 0) 0 = ap {B = ℕ} (λ t. if t then 1 else 0) (ne_eqb a d away) in
          let rest = range_once d (a + 1) n in omega (arith, x, rest)
    ]

tally-reverse : {X : Type 0} (p : X → Bool) (xs : List X) → tally p (reverse xs) ≡ tally p xs
tally-reverse p [] = refl
tally-reverse p (x ∷ xs) =
    let turned : tally p (reverse (x ∷ xs)) ≡ tally p (reverse xs ++ x ∷ []) = ap (tally p) (reverse-append (x ∷ []) xs) in
    let sum = tally-append p (reverse xs) (x ∷ []) in
    let rest = tally-reverse p xs in
    omega (arith, turned, sum, rest)

-- a die that is one of the first is none of the others
none_left : (first : List ℕ) (d : ℕ) (xs : List ℕ) → is_one_of first d ≡ true → tally (λ k. k == d) (filter (λ k. not (is_one_of first k)) xs) ≡ 0
none_left first d [] one = refl
none_left first d (x ∷ xs) one =
    elim (cases_Bool (is_one_of first x)) [
      | inl taken ↦ ap {B = ℕ} (λ b. tally (λ k. k == d) (cond (not b) (x ∷ filter (λ k. not (is_one_of first k)) xs) (filter (λ k. not (is_one_of first k)) xs))) taken
          ∙ none_left first d xs one
      | inr left ↦
          let other : ◌≡◌ {A = ℕ} (if x == d then 1 else 0) 0 = ap {B = ℕ} (λ t. if t then 1 else 0)
          (ne_eqb x d (λ same. false≢true (sym left ∙ ap (is_one_of first) same ∙ one))) in
          let rest = none_left first d xs one in
          ap {B = ℕ} (λ b. tally (λ k. k == d) (cond (not b) (x ∷ filter (λ k. not (is_one_of first k)) xs) (filter (λ k. not (is_one_of first k)) xs))) left
          ∙ omega (arith, other, rest)
    ]

some_first : (d : ℕ) (xs : List ℕ) → 1 ≤ tally (λ k. k == d) xs → is_one_of xs d ≡ true
some_first d [] h = absurd (omega arith)
some_first d (x ∷ xs) h =
    elim (cases_Bool (x == d)) [
      | inl here ↦ or_left (x == d) _ here
      | inr away ↦
          let z : ◌≡◌ {A = ℕ} (if x == d then 1 else 0) 0 = ap {B = ℕ} (λ t. if t then 1 else 0) away in
          or_right (x == d) _ (some_first d xs (omega (arith, z, h)))
    ]

pub order_once : (copies : ℕ) (m : MapState) → (copies ≡ 2) ⊎ (copies ≡ 3) → copies ≤ m.geometry.dies - m.geometry.spares
    → (page die : ℕ) → tally (λ d. d == die) (order_of copies m page) ≤ 1
order_once copies m which enough page die =
    let first = homes copies (m.geometry.dies - m.geometry.spares) page in
    let behind = filter (λ d. not (is_one_of first d)) (reverse (dies_of m)) in
    let sum = tally-append (λ d. d == die) first behind in
    let one = homes_apart copies (m.geometry.dies - m.geometry.spares) page die which enough in
    let rest = tally-filter-le (λ d. d == die) (λ d. not (is_one_of first d)) (reverse (dies_of m)) in
    let turned = tally-reverse (λ d. d == die) (dies_of m) in
    let range = range_once die 0 m.geometry.dies in
    elim (cases_lt 0 (tally (λ d. d == die) first)) [
      | inr none ↦ omega (arith, sum, none, rest, turned, range)
      | inl some ↦
          let z = none_left first die (reverse (dies_of m)) (some_first die first some) in
          omega (arith, sum, one, z)
    ]
