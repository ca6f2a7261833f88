-- Reads whose slots are opened after they were read.
use Rattle.std.proofs.Common.{ap, arith, refl, subst, sym, Bor, List, [], None, Option, Some, inl, inr, length, slice_set, slice_index_or, suc, zero, ℕ, ◌+◌, ◌<◌, ◌≤◌, ◌≡◌, ◌∙◌, ◌∷◌}
use Rattle.fa_tag.specs.OpenedTogether.{AreOpened}
use Rattle.fa_tag.specs.SlotGrammar.{IsOpened}
use Rattle.fa_tag.specs.declared.tag.Opened.{Opened}
use Rattle.fa_workers_making.specs.Begun.{AreOpenedAt, OpensMade, bytes_at, bytes_or}
use Rattle.std.proofs.lemmas.Bool.{cases_eq}
use Rattle.std.proofs.lemmas.List.{get_or-set_other, get_or-set_same, get_or_default}
use Rattle.std.specs.Option.{option_copied}
use Rattle.std.specs.Prelude.{IfSome}
use Rattle.fa_workers_making.specs.declared.bench.MadeJob.{MadeJob}

-- what stands at a place was opened
opened_in : (slots : List (Bor (List ℕ))) (opened : List Opened) (k : ℕ) (b : Bor (List ℕ)) (d : Opened) → AreOpened slots opened
    → k < length slots → IsOpened (slice_index_or slots k b).now (slice_index_or opened k d)
opened_in [] opened k b d are within = absurd (omega (arith, within))
opened_in (s ∷ slots) [] k b d are within = absurd are
opened_in (s ∷ slots) (o ∷ opened) zero b d are within = are.0
opened_in (s ∷ slots) (o ∷ opened) (suc k) b d are within = opened_in slots opened k b d are.1 (omega (arith, within))

-- eight slots, place by place
eight_at : (bytes : ℕ → List ℕ) (s0 s1 s2 s3 s4 s5 s6 s7 : Bor (List ℕ)) → s0.now ≡ bytes 0 → s1.now ≡ bytes 1 → s2.now ≡ bytes 2 → s3.now ≡ bytes 3 → s4.now ≡ bytes 4 → s5.now ≡ bytes 5 → s6.now ≡ bytes 6 → s7.now ≡ bytes 7
    → (k : ℕ) (b : Bor (List ℕ)) → k < 8 → (slice_index_or (s0 ∷ s1 ∷ s2 ∷ s3 ∷ s4 ∷ s5 ∷ s6 ∷ s7 ∷ []) k b).now ≡ bytes k
eight_at bytes s0 s1 s2 s3 s4 s5 s6 s7 e0 e1 e2 e3 e4 e5 e6 e7 zero b within = e0
eight_at bytes s0 s1 s2 s3 s4 s5 s6 s7 e0 e1 e2 e3 e4 e5 e6 e7 (suc zero) b within = e1
eight_at bytes s0 s1 s2 s3 s4 s5 s6 s7 e0 e1 e2 e3 e4 e5 e6 e7 (suc (suc zero)) b within = e2
eight_at bytes s0 s1 s2 s3 s4 s5 s6 s7 e0 e1 e2 e3 e4 e5 e6 e7 (suc (suc (suc zero))) b within = e3
eight_at bytes s0 s1 s2 s3 s4 s5 s6 s7 e0 e1 e2 e3 e4 e5 e6 e7 (suc (suc (suc (suc zero)))) b within = e4
eight_at bytes s0 s1 s2 s3 s4 s5 s6 s7 e0 e1 e2 e3 e4 e5 e6 e7 (suc (suc (suc (suc (suc zero))))) b within = e5
eight_at bytes s0 s1 s2 s3 s4 s5 s6 s7 e0 e1 e2 e3 e4 e5 e6 e7 (suc (suc (suc (suc (suc (suc zero)))))) b within = e6
eight_at bytes s0 s1 s2 s3 s4 s5 s6 s7 e0 e1 e2 e3 e4 e5 e6 e7 (suc (suc (suc (suc (suc (suc (suc zero))))))) b within = e7
eight_at bytes s0 s1 s2 s3 s4 s5 s6 s7 e0 e1 e2 e3 e4 e5 e6 e7 (suc (suc (suc (suc (suc (suc (suc (suc k)))))))) b within = absurd (omega (arith, within))

-- eight slots that were opened together, place by place
pub eight_opened : (bytes : ℕ → List ℕ) (opened : List Opened) (s0 s1 s2 s3 s4 s5 s6 s7 : Bor (List ℕ)) → s0.now ≡ bytes 0 → s1.now ≡ bytes 1 → s2.now ≡ bytes 2 → s3.now ≡ bytes 3 → s4.now ≡ bytes 4 → s5.now ≡ bytes 5 → s6.now ≡ bytes 6 → s7.now ≡ bytes 7
    → AreOpened (s0 ∷ s1 ∷ s2 ∷ s3 ∷ s4 ∷ s5 ∷ s6 ∷ s7 ∷ []) opened → (k : ℕ) (d : Opened) → k < 8
    → IsOpened (bytes k) (slice_index_or opened k d)
eight_opened bytes opened s0 s1 s2 s3 s4 s5 s6 s7 e0 e1 e2 e3 e4 e5 e6 e7 are k d within =
    subst (λ (x : List ℕ). IsOpened x (slice_index_or opened k d)) (eight_at bytes s0 s1 s2 s3 s4 s5 s6 s7 e0 e1 e2 e3 e4 e5 e6 e7 k s0 within)
    (opened_in (s0 ∷ s1 ∷ s2 ∷ s3 ∷ s4 ∷ s5 ∷ s6 ∷ s7 ∷ []) opened k s0 d are within)

four_at : (bytes : ℕ → List ℕ) (s0 s1 s2 s3 : Bor (List ℕ)) → s0.now ≡ bytes 0 → s1.now ≡ bytes 1 → s2.now ≡ bytes 2 → s3.now ≡ bytes 3
    → (k : ℕ) (b : Bor (List ℕ)) → k < 4 → (slice_index_or (s0 ∷ s1 ∷ s2 ∷ s3 ∷ []) k b).now ≡ bytes k
four_at bytes s0 s1 s2 s3 e0 e1 e2 e3 zero b within = e0
four_at bytes s0 s1 s2 s3 e0 e1 e2 e3 (suc zero) b within = e1
four_at bytes s0 s1 s2 s3 e0 e1 e2 e3 (suc (suc zero)) b within = e2
four_at bytes s0 s1 s2 s3 e0 e1 e2 e3 (suc (suc (suc zero))) b within = e3
four_at bytes s0 s1 s2 s3 e0 e1 e2 e3 (suc (suc (suc (suc k)))) b within = absurd (omega (arith, within))

-- four slots that were opened together, place by place
pub four_opened : (bytes : ℕ → List ℕ) (opened : List Opened) (s0 s1 s2 s3 : Bor (List ℕ)) → s0.now ≡ bytes 0 → s1.now ≡ bytes 1 → s2.now ≡ bytes 2 → s3.now ≡ bytes 3
    → AreOpened (s0 ∷ s1 ∷ s2 ∷ s3 ∷ []) opened → (k : ℕ) (d : Opened) → k < 4 → IsOpened (bytes k) (slice_index_or opened k d)
four_opened bytes opened s0 s1 s2 s3 e0 e1 e2 e3 are k d within =
    subst (λ (x : List ℕ). IsOpened x (slice_index_or opened k d)) (four_at bytes s0 s1 s2 s3 e0 e1 e2 e3 k s0 within)
    (opened_in (s0 ∷ s1 ∷ s2 ∷ s3 ∷ []) opened k s0 d are within)

-- four of them, and the first again for the other places
pub first_again : (bytes : ℕ → List ℕ) (o0 o1 o2 o3 : Opened) → IsOpened (bytes 0) o0 → IsOpened (bytes 1) o1 → IsOpened (bytes 2) o2 → IsOpened (bytes 3) o3
    → ((k : ℕ) → 4 ≤ k → bytes k ≡ bytes 0) → (k : ℕ) (d : Opened) → k < 8
    → IsOpened (bytes k) (slice_index_or (o0 ∷ o1 ∷ o2 ∷ o3 ∷ o0 ∷ o0 ∷ o0 ∷ o0 ∷ []) k d)
first_again bytes o0 o1 o2 o3 i0 i1 i2 i3 past zero d within = i0
first_again bytes o0 o1 o2 o3 i0 i1 i2 i3 past (suc zero) d within = i1
first_again bytes o0 o1 o2 o3 i0 i1 i2 i3 past (suc (suc zero)) d within = i2
first_again bytes o0 o1 o2 o3 i0 i1 i2 i3 past (suc (suc (suc zero))) d within = i3
first_again bytes o0 o1 o2 o3 i0 i1 i2 i3 past (suc (suc (suc (suc zero)))) d within = subst (λ b. IsOpened b o0) (sym (past 4 (omega arith))) i0
first_again bytes o0 o1 o2 o3 i0 i1 i2 i3 past (suc (suc (suc (suc (suc zero))))) d within = subst (λ b. IsOpened b o0) (sym (past 5 (omega arith))) i0
first_again bytes o0 o1 o2 o3 i0 i1 i2 i3 past (suc (suc (suc (suc (suc (suc zero)))))) d within = subst (λ b. IsOpened b o0) (sym (past 6 (omega arith))) i0
first_again bytes o0 o1 o2 o3 i0 i1 i2 i3 past (suc (suc (suc (suc (suc (suc (suc zero))))))) d within = subst (λ b. IsOpened b o0) (sym (past 7 (omega arith))) i0
first_again bytes o0 o1 o2 o3 i0 i1 i2 i3 past (suc (suc (suc (suc (suc (suc (suc (suc k)))))))) d within = absurd (omega (arith, within))

module _ {A : Type 0} where
  bytes_within : (others : List ℕ) (made : List (MadeJob A)) (k : ℕ) (m : MadeJob A) → k < length made
      → (slice_index_or made k m).memory.scratch.items ≡ bytes_or others made k
  bytes_within others [] k m within = absurd (omega (arith, within))
  bytes_within others (first ∷ made) zero m within = refl
  bytes_within others (first ∷ made) (suc k) m within = bytes_within others made k m (omega (arith, within))

  pub bytes_in : (made : List (MadeJob A)) (k : ℕ) (m : MadeJob A) → k < length made
      → (slice_index_or made k m).memory.scratch.items ≡ bytes_at made k
  bytes_in [] k m within = absurd (omega (arith, within))
  bytes_in (first ∷ made) k m within = bytes_within first.memory.scratch.items (first ∷ made) k m within

  pub none_past : (made : List (MadeJob A)) (k : ℕ) → length made ≡ 0 → [] ≡ bytes_at made k
  none_past [] k none = refl
  none_past (first ∷ made) k none = absurd (omega (arith, none))

  others_past : (others : List ℕ) (made : List (MadeJob A)) (k : ℕ) → length made ≤ k → others ≡ bytes_or others made k
  others_past others [] k past = refl
  others_past others (first ∷ made) zero past = absurd (omega (arith, past))
  others_past others (first ∷ made) (suc k) past = others_past others made k (omega (arith, past))

  -- past the last one stands what stands in the first
  pub first_past : (made : List (MadeJob A)) (k : ℕ) (m : MadeJob A) → (length made ≡ 0 → ⊥) → length made ≤ k
      → (slice_index_or made 0 m).memory.scratch.items ≡ bytes_at made k
  first_past [] k m some past = absurd (some refl)
  first_past (first ∷ made) k m some past = others_past first.memory.scratch.items (first ∷ made) k past

  -- what was opened together, at a place whose memory is as it was
  pub together_at : (made now : List (MadeJob A)) (all : Option (List Opened)) (lent : Option (Bor (List Opened))) (k : ℕ) (m : MadeJob A)
      → option_copied lent ≡ all → IfSome all (λ opened. AreOpenedAt made opened) → k < length made
      → slice_index_or now k m ≡ slice_index_or made k m
      → IfSome lent (λ r. (d : Opened) → k < 8 → IsOpened (slice_index_or now k m).memory.scratch.items (slice_index_or r.now k d))
  together_at made now all None k m lends are within same = tt
  together_at made now all (Some r) k m lends are within same = λ d few.
      subst (λ (x : List ℕ). IsOpened x (slice_index_or r.now k d))
      (sym (ap (λ (j : MadeJob A). j.memory.scratch.items) same ∙ bytes_in made k m within))
      (subst (λ a. IfSome a (λ opened. AreOpenedAt made opened)) (sym lends) are k d few)

  -- what was opened at a place is what stood there at first, whatever is told where nothing stands
  pub opened_here : (old now : List (MadeJob A)) (i : ℕ) (d m job : MadeJob A) → i < length now
      → ((j : MadeJob A) → slice_index_or now i j ≡ slice_index_or old i j) → OpensMade (slice_index_or now i d) job
      → OpensMade (slice_index_or old i m) job
  opened_here old now i d m job within left opens = subst (λ x. OpensMade x job) (get_or_default now i d m within ∙ left m) opens

  -- one more read is opened
  pub opens_more : (old now : List (MadeJob A)) (i : ℕ) (job : MadeJob A) → i < length now
      → ((m : MadeJob A) → OpensMade (slice_index_or old i m) job)
      → ((k : ℕ) (m : MadeJob A) → k < i → OpensMade (slice_index_or old k m) (slice_index_or now k m))
      → (k : ℕ) (m : MadeJob A) → k < i + 1 → OpensMade (slice_index_or old k m) (slice_index_or (slice_set now i job) k m)
  opens_more old now i job within opens opened k m past = elim (cases_eq k i) [
    | inl same ↦
        subst (λ n. OpensMade (slice_index_or old n m) (slice_index_or (slice_set now i job) n m)) (sym same)
        (subst (λ x. OpensMade (slice_index_or old i m) x) (sym (get_or-set_same now i job m within)) (opens m))
    | inr other ↦
        subst (λ x. OpensMade (slice_index_or old k m) x) (sym (get_or-set_other now i k job m other))
        (opened k m (omega (arith, past, other)))
  ]

  -- so it does whichever place past the last one is looked at
  pub same_past : (made : List (MadeJob A)) (k : ℕ) → length made ≤ k → bytes_at made k ≡ bytes_at made 0
  same_past [] k past = refl
  same_past (first ∷ made) k past = sym (others_past first.memory.scratch.items (first ∷ made) k past)
