-- Where the first line of an input ends, and what stands behind it.
use Rattle.std.proofs.Common.{◌≡◌, ◌≢◌, ℕ, suc, ◌+◌, ◌-◌, ◌<◌, ◌≤◌, inl, inr, Bool, true, false, cond, not, Some, None, List, [], ◌∷◌, length, take, drop, nat_lt, ◌==◌, refl, sym, ap, ◌∙◌, subst, arith, length-drop}
use Rattle.std.specs.List.{position, position_or_len, onto_first}
use Rattle.std.proofs.lemmas.Bool.{cases_lt, lt-ltb, le-ltb, cond-true, cond-false}
use Rattle.std.proofs.Math.Seq.{take-length}
use Rattle.fa_io.specs.Lines.{lines_of}

module _ {X : Type 0} (p : X → Bool) where
  -- what an answer of `position` says of the first index at which an element passes
  pub found_index : (xs : List X) (k : ℕ) → position p xs ≡ Some k → (position_or_len p xs ≡ k) × (k < length xs)
  found_index xs k at =
      let first : ℕ = position_or_len p xs in
      elim (cases_lt first (length xs)) [
        | inl found ↦
            (let some = cond-true (nat_lt first (length xs)) (Some first) None (lt-ltb first (length xs) found) in
            let same : first ≡ k = cc in
            (same, omega arith))
        | inr past ↦
            (let none = cond-false (nat_lt first (length xs)) (Some first) None (le-ltb first (length xs) past) in
            let no : ⊥ = cc in
            absurd no)
      ]

  -- where none passes
  pub no_index : (xs : List X) → position p xs ≡ None → length xs ≤ position_or_len p xs
  no_index xs at =
      let first : ℕ = position_or_len p xs in
      elim (cases_lt first (length xs)) [
        | inl found ↦
            (let some = cond-true (nat_lt first (length xs)) (Some first) None (lt-ltb first (length xs) found) in
            let no : ⊥ = cc in
            absurd no)
        | inr past ↦ past
      ]

-- what stands from an index on, as a range gives it
pub rest_is : (bs : List ℕ) (k : ℕ) → take (length bs - k) (drop k bs) ≡ drop k bs
rest_is bs k = ap (λ n. take n (drop k bs)) (sym (length-drop k bs)) ∙ take-length (drop k bs)

-- The first line of an input.
first_line : (bs : List ℕ) → position_or_len (λ b. b == 10) bs < length bs
    → lines_of bs ≡ take (position_or_len (λ b. b == 10) bs) bs ∷ lines_of (drop (position_or_len (λ b. b == 10) bs + 1) bs)
first_line [] h = absurd (omega arith)
first_line (b ∷ bs) h =
    let pl : ℕ = position_or_len (λ x. x == 10) bs in
    elim (b == 10) as (λ v. cond (not v) (1 + pl) 0 < suc (length bs)
    → cond v ([] ∷ lines_of bs) (onto_first b (lines_of bs)) ≡ take (cond (not v) (1 + pl) 0) (b ∷ bs) ∷ lines_of (drop (cond (not v) (1 + pl) 0 + 1) (b ∷ bs))) [
      | true ↦ λ _. refl
      | false ↦ λ below.
          (let rest = first_line bs (omega arith) in
          let one : 1 + pl ≡ suc pl = omega arith in
          let two : 1 + pl + 1 ≡ suc (pl + 1) = omega arith in
          ap (λ v. onto_first b v) rest ∙ sym (ap (λ n. take n (b ∷ bs) ∷ lines_of (drop (1 + pl + 1) (b ∷ bs))) one ∙ ap (λ n. (b ∷ take pl bs) ∷ lines_of (drop n (b ∷ bs))) two))
    ] h

only_line : (b : ℕ) (bs : List ℕ) → length (b ∷ bs) ≤ position_or_len (λ x. x == 10) (b ∷ bs) → lines_of (b ∷ bs) ≡ (b ∷ bs) ∷ []
only_line b [] h =
    elim (b == 10) as (λ v. 1 ≤ cond (not v) (1 + 0) 0 → cond v ([] ∷ []) (onto_first b []) ≡ (b ∷ []) ∷ []) [ true ↦ λ no. absurd (omega arith) | false ↦ λ _. refl ] h
only_line b (c ∷ bs) h =
    let pl : ℕ = position_or_len (λ x. x == 10) (c ∷ bs) in
    elim (b == 10) as (λ v. suc (length (c ∷ bs)) ≤ cond (not v) (1 + pl) 0 → cond v ([] ∷ lines_of (c ∷ bs)) (onto_first b (lines_of (c ∷ bs))) ≡ (b ∷ c ∷ bs) ∷ []) [
      | true ↦ λ no. absurd (omega arith)
      | false ↦ λ past. ap (λ v. onto_first b v) (only_line c bs (omega arith))
    ] h

-- an input with a line feed has the line in front of it, and then the lines behind it
pub line_cut : (bs : List ℕ) (k : ℕ) → position (λ b. b == 10) bs ≡ Some k → lines_of bs ≡ take k bs ∷ lines_of (take (length bs - (k + 1)) (drop (k + 1) bs))
line_cut bs k at =
    let index = found_index (λ b. b == 10) bs k at in
    subst (λ n. lines_of bs ≡ take n bs ∷ lines_of (drop (n + 1) bs)) index.0 (first_line bs (omega (arith, index.0, index.1)))
    ∙ ap (λ v. take k bs ∷ lines_of v) (sym (rest_is bs (k + 1)))

-- bytes with no line feed are one line
pub line_whole : (bs : List ℕ) → 0 < length bs → position (λ b. b == 10) bs ≡ None → lines_of bs ≡ bs ∷ []
line_whole [] some none = absurd (omega arith)
line_whole (b ∷ bs) some none = only_line b bs (no_index (λ x. x == 10) (b ∷ bs) none)

-- bytes have a line
pub some_line : (bs : List ℕ) → length bs ≢ 0 → (first : List ℕ) × (rest : List (List ℕ)) × (lines_of bs ≡ first ∷ rest)
some_line [] some = absurd (some refl)
some_line (b ∷ bs) some = elim (b == 10) as (λ v. (first : List ℕ) × (rest : List (List ℕ)) × (cond v ([] ∷ lines_of bs) (onto_first b (lines_of bs)) ≡ first ∷ rest)) [
  | true ↦ ([], lines_of bs, refl)
  | false ↦ first_of (lines_of bs)
]
  where
    first_of : (lines : List (List ℕ)) → (first : List ℕ) × (rest : List (List ℕ)) × (onto_first b lines ≡ first ∷ rest)
    first_of [] = (b ∷ [], [], refl)
    first_of (line ∷ lines) = (b ∷ line, lines, refl)
