-- The dies that are marked in a table are the holders of pages, and tell whether these are a shortage.
use Rattle.std.proofs.Common.{◌≡◌, ℕ, zero, suc, ◌-◌, ◌<◌, ◌≤◌, inl, inr, Bool, true, false, cond, IsTrue, List, [], ◌∷◌, ◌++◌, length, get_or, nat_eq, eq-eqb, refl, sym, ap, ◌∙◌, arith}
use Rattle.std.specs.List.{sum_by, count_by}
use Rattle.std.proofs.lemmas.List.Sums.{sum_by-cons, sum_by-append}
use Rattle.std.proofs.lemmas.Bool.{cases_eq, cases_lt, ne_eqb}
use Rattle.std.proofs.lemmas.List.{get_or_past}
use Rattle.fa_types.specs.Open.{open_among}
use Rattle.fa_types.specs.declared.numbers.Page.{Page}
use Rattle.fa_batch_terms.specs.Batch.{Entry}
use Rattle.fa_batch_terms.specs.Certificate.{AreNamed, AreTheHolders, ShowsNoFewer, holds_any, open_places}
use Rattle.fa_cert_places.specs.OpenCounts.{marked}
use Rattle.fa_batch_terms.proofs.Counting.{count_by-cons}

-- each marked die is there once, and no other
count-past : (marks : List Bool) (die n : ℕ) → n ≤ die → count_by (λ d. nat_eq d die) (marked marks n) ≡ 0
unfolding marked
count-past marks die zero h = refl
count-past marks die (suc n) h =
    let rest = count-past marks die n (omega arith) in
    let other = ne_eqb n die (λ e. let no : ⊥ = omega arith in no) in
    let split = count_by-cons (λ d. nat_eq d die) n (marked marks n) in
    let head = ap (λ b. cond {A = ℕ} b 1 0) other in
    let at : (b : Bool) → count_by (λ d. nat_eq d die) (cond b (n ∷ marked marks n) (marked marks n)) ≡ 0 =
    λ b. elim b as (λ v. count_by (λ d. nat_eq d die) (cond v (n ∷ marked marks n) (marked marks n)) ≡ 0) [ true ↦ omega (arith, split, head, rest) | false ↦ rest ] in
    at (get_or marks n false)

count-at : (marks : List Bool) (die n : ℕ) → die < n → count_by (λ d. nat_eq d die) (marked marks n) ≡ cond (get_or marks die false) 1 0
unfolding marked
count-at marks die zero h = absurd (omega arith)
count-at marks die (suc n) h =
    let split = count_by-cons (λ d. nat_eq d die) n (marked marks n) in
    elim (cases_eq n die) [
      | inl same ↦
          (let none = count-past marks die n (omega arith) in
          let head = ap (λ b. cond {A = ℕ} b 1 0) (eq-eqb n die same) in
          let at : (b : Bool) → count_by (λ d. nat_eq d die) (cond b (n ∷ marked marks n) (marked marks n)) ≡ cond b 1 0 =
          λ b. elim b as (λ v. count_by (λ d. nat_eq d die) (cond v (n ∷ marked marks n) (marked marks n)) ≡ cond v 1 0) [ true ↦ omega (arith, split, head, none) | false ↦ none ] in
          at (get_or marks n false) ∙ ap (λ k. cond {A = ℕ} (get_or marks k false) 1 0) same)
      | inr other ↦
          (let rest = count-at marks die n (omega arith) in
          let head = ap (λ b. cond {A = ℕ} b 1 0) (ne_eqb n die other) in
          let at : (b : Bool) → count_by (λ d. nat_eq d die) (cond b (n ∷ marked marks n) (marked marks n)) ≡ cond (get_or marks die false) 1 0 =
          λ b. elim b as (λ v. count_by (λ d. nat_eq d die) (cond v (n ∷ marked marks n) (marked marks n)) ≡ cond (get_or marks die false) 1 0) [ true ↦ omega (arith, split, head, rest) | false ↦ rest ] in
          at (get_or marks n false))
    ]

-- a list that has an element can be parted at it
part : (n : ℕ) (ys : List ℕ) → 1 ≤ count_by (λ d. nat_eq d n) ys → (before : List ℕ) × ((after : List ℕ) × (ys ≡ before ++ n ∷ after))
part n [] h = absurd (omega arith)
part n (y ∷ ys) h =
    let split = count_by-cons (λ d. nat_eq d n) y ys in
    elim (cases_eq y n) [
      | inl same ↦ ([], (ys, ap (λ v. v ∷ ys) same))
      | inr other ↦ (let head = ap (λ b. cond {A = ℕ} b 1 0) (ne_eqb y n other) in
          let rest = part n ys (omega (arith, split, head, h)) in
          (y ∷ rest.0, (rest.1.0, ap (λ v. y ∷ v) rest.1.1)))
    ]

-- two lists that have each number equally often have one sum
pub sum_by-same_counts : (f : ℕ → ℕ) (xs ys : List ℕ) → ((n : ℕ) → count_by (λ d. nat_eq d n) xs ≡ count_by (λ d. nat_eq d n) ys) → sum_by f xs ≡ sum_by f ys
sum_by-same_counts f [] [] same = refl
sum_by-same_counts f [] (y ∷ ys) same =
    let split = count_by-cons (λ d. nat_eq d y) y ys in
    let head = ap (λ b. cond {A = ℕ} b 1 0) (eq-eqb y y refl) in
    let none = same y in
    absurd (omega (arith, split, head, none))
sum_by-same_counts f (x ∷ xs) ys same =
    let split = count_by-cons (λ d. nat_eq d x) x xs in
    let head = ap (λ b. cond {A = ℕ} b 1 0) (eq-eqb x x refl) in
    let there = same x in
    let cut = part x ys (omega (arith, split, head, there)) in
    let before : List ℕ = cut.0 in
    let after : List ℕ = cut.1.0 in
    let is : ys ≡ before ++ x ∷ after = cut.1.1 in
    let rest = sum_by-same_counts f xs (before ++ after) (λ n.
    let a = count_by-cons (λ d. nat_eq d n) x xs in
    let b = ap (λ v. count_by (λ d. nat_eq d n) v) is ∙ sum_by-append (λ d. cond (nat_eq d n) 1 0) before (x ∷ after) in
    let c = count_by-cons (λ d. nat_eq d n) x after in
    let d = sum_by-append (λ d. cond (nat_eq d n) 1 0) before after in
    let e = same n in
    omega (arith, a, b, c, d, e)) in
    let a = sum_by-cons f x xs in
    let b = ap (λ v. sum_by f v) is ∙ sum_by-append f before (x ∷ after) in
    let c = sum_by-cons f x after in
    let d = sum_by-append f before after in
    omega (arith, rest, a, b, c, d)

module _ (batch : List Entry) (current : ℕ) (closed : ℕ → ℕ → Bool) (pages : List Page) (marks : List Bool) (long : length marks ≡ 256) (are : (die : ℕ) → get_or marks die false ≡ holds_any batch pages die) where
  -- the dies that are marked are the holders
  pub are_the_holders : AreTheHolders batch pages (marked marks 256)
  are_the_holders die =
      elim (cases_lt die 256) [
        | inl below ↦ count-at marks die 256 below ∙ ap (λ b. cond {A = ℕ} b 1 0) (are die)
        | inr past ↦ (let none : get_or marks die false ≡ false = get_or_past marks die false (omega (arith, long)) in
            count-past marks die 256 past ∙ ap (λ b. cond {A = ℕ} b 1 0) (sym none ∙ are die))
      ]

  -- the answer on their open places is that on the shortage
  pub shows_iff : (number : ℕ) (r : Bool) → 0 < number → AreNamed batch pages
      → (IsTrue r → open_places current closed (marked marks 256) (number - 1) < length pages)
      → (open_places current closed (marked marks 256) (number - 1) < length pages → IsTrue r)
      → (IsTrue r → ShowsNoFewer batch current closed number pages) × (ShowsNoFewer batch current closed number pages → IsTrue r)
  shows_iff zero r some named to from = absurd (omega arith)
  shows_iff (suc n) r some named to from =
      let less_one : suc n - 1 ≡ n = omega arith in
      let places = ap (λ k. open_places current closed (marked marks 256) k) less_one in (
        λ t. let less = to t in record { named = named; many = (marked marks 256, are_the_holders, omega (arith, less, places)) },
        λ shortage.
            let same = sum_by-same_counts (λ die. open_among current closed die n) shortage.many.0 (marked marks 256) (λ die. shortage.many.1 die ∙ sym (are_the_holders die)) in
            let less : open_places current closed shortage.many.0 n < length pages = shortage.many.2 in
            from (omega (arith, same, less, places)),
      )
