-- What streams did in two steps, one after the other, and bytes of which the end may be missing.
use Rattle.std.proofs.Common.{◌≡◌, ◌≢◌, ℕ, ◌+◌, ◌-◌, ◌<◌, List, [], ◌∷◌, ◌++◌, ◌≤◌, length, take, drop, length-append, length-take-le, arith, Option, Result, Ok, Err, refl, sym, ap, ◌∙◌, subst, append_assoc, append-nil, take-append-drop}
use Rattle.std.proofs.lemmas.List.{take-append-le, take_rest}
use Rattle.std.proofs.Math.Seq.{take-append-add}
use Rattle.std.specs.Io.KnownBytes.{Consumes, Appends}
use borrow.Rule.Slice.PartMut.{put_mid, post_of}
use Rattle.std.proofs.KnownBytes.{Appends-trans, Consumes-trans}
use Rattle.fa_io.specs.Streams.{Streams, Reads, Writes, WritesPart, IsCut, Sends}

-- what stands at the front after a write behind the front
pub take-put_mid-more : (a k n : ℕ) (xs ys : List ℕ) → a ≤ length xs → n ≤ length ys → take (a + n) (put_mid a k xs ys) ≡ take a xs ++ take n ys
take-put_mid-more a k n xs ys within fits =
    ap (λ m. take (m + n) (put_mid a k xs ys)) (sym (length-take-le a xs within))
    ∙ take-append-add (take a xs) (ys ++ post_of a k xs) n
    ∙ ap (λ rest. take a xs ++ rest) (take-append-le n ys (post_of a k xs) fits)

-- one step, and then another that begins where the first one ends
abbrev pub joined : Streams → Streams → Streams
joined s t = record { left_before = s.left_before; left_after = t.left_after; held_before = s.held_before; held_after = t.held_after }

-- the second step begins where the first one ends
abbrev pub IsNext : Streams → Streams → Type 0
IsNext s t = (t.left_before ≡ s.left_after) × (t.held_before ≡ s.held_after)

-- more behind what is not empty is not empty
some-append : (xs ys : List ℕ) → xs ≢ [] → xs ++ ys ≢ []
some-append [] ys some same = some refl
some-append (x ∷ xs) ys some same = cc

-- a cut in the first part is one in both
pub IsCut-front : (old new : Option (List ℕ)) (xs ys : List ℕ) → IsCut old new xs → IsCut old new (xs ++ ys)
IsCut-front old new xs ys cut = record {
  sent = cut.sent;
  missing = cut.missing ++ ys;
  all = ap (λ front. front ++ ys) cut.all ∙ append_assoc cut.sent cut.missing ys;
  some_missing = some-append cut.missing ys cut.some_missing;
  appended = cut.appended;
}

-- a cut in the second part, when the first was written
pub IsCut-behind : (old middle new : Option (List ℕ)) (xs ys : List ℕ) → Appends old middle xs → IsCut middle new ys → IsCut old new (xs ++ ys)
IsCut-behind old middle new xs ys first cut = record {
  sent = xs ++ cut.sent;
  missing = cut.missing;
  all = ap (λ end. xs ++ end) cut.all ∙ sym (append_assoc xs cut.sent cut.missing);
  some_missing = cut.some_missing;
  appended = Appends-trans old middle new xs cut.sent first cut.appended;
}

-- the second part was sent, or cut, when the first was written
pub Sends-behind : {E : Type 0} (old middle new : Option (List ℕ)) (xs ys : List ℕ) (r : Result (Unit {0}) E) → Appends old middle xs → Sends middle new ys r → Sends old new (xs ++ ys) r
Sends-behind old middle new xs ys (Ok done) first second = Appends-trans old middle new xs ys first second
Sends-behind old middle new xs ys (Err failed) first second = IsCut-behind old middle new xs ys first second

-- the first n bytes of the rest go to what was sent
pub moves_front : (all sent rest : List ℕ) (n : ℕ) → all ≡ sent ++ rest → all ≡ (sent ++ take n rest) ++ take (length rest - n) (drop n rest)
moves_front all sent rest n e =
    e ∙ ap (λ l. sent ++ l) (sym (take-append-drop n rest)) ∙ sym (append_assoc sent (take n rest) (drop n rest)) ∙ ap (λ l. (sent ++ take n rest) ++ l) (sym (take_rest rest n))

-- more bytes than the first rest are that rest and the front of the second
take-beyond : (n : ℕ) (rest second : List ℕ) → length rest < n → take n (rest ++ second) ≡ rest ++ take (n - length rest) second
take-beyond n rest second more =
    let whole : n ≡ length rest + (n - length rest) = omega (arith, more) in
    ap (λ m. take m (rest ++ second)) whole ∙ take-append-add rest second (n - length rest)

-- all of a first part and some of a second were written, and then the rest of the second was sent, or cut
pub Sends-beyond : {E : Type 0} (old middle next new : Option (List ℕ)) (first sent rest second : List ℕ) (n : ℕ) (r : Result (Unit {0}) E) → first ≡ sent ++ rest → length rest < n
    → Appends old middle sent → Appends middle next (take n (rest ++ second)) → Sends next new (take (length second - (n - length rest)) (drop (n - length rest) second)) r → Sends old new (first ++ second) r
Sends-beyond old middle next new first sent rest second n r all more before taken behind =
    let k = n - length rest in
    let front = sent ++ (rest ++ take k second) in
    let wrote : Appends old next front = Appends-trans old middle next sent (rest ++ take k second) before (subst (Appends middle next) (take-beyond n rest second more) taken) in
    let sends : Sends next new (drop k second) r = subst (λ bytes. Sends next new bytes r) (take_rest second k) behind in
    let same : front ++ drop k second ≡ first ++ second =
    append_assoc sent (rest ++ take k second) (drop k second)
    ∙ ap (λ l. sent ++ l) (append_assoc rest (take k second) (drop k second) ∙ ap (λ l. rest ++ l) (take-append-drop k second))
    ∙ sym (append_assoc sent rest second)
    ∙ ap (λ l. l ++ second) (sym all) in
    subst (λ bytes. Sends old new bytes r) same (Sends-behind old next new front (drop k second) r wrote sends)

-- none of a first part is left, and then the second was sent, or cut
pub Sends-none_left : {E : Type 0} (old middle new : Option (List ℕ)) (first sent rest second : List ℕ) (r : Result (Unit {0}) E) → first ≡ sent ++ rest → length rest ≡ 0
    → Appends old middle sent → Sends middle new second r → Sends old new (first ++ second) r
Sends-none_left old middle new first sent [] second r all none before behind =
    subst (λ front. Sends old new (front ++ second) r) (sym (all ∙ append-nil sent)) (Sends-behind old middle new sent second r before behind)
Sends-none_left old middle new first sent (x ∷ rest) second r all none before behind = absurd (omega (arith, none))

-- no more is missing than there was
pub missing-le : (old new : Option (List ℕ)) (bytes : List ℕ) → (cut : IsCut old new bytes) → length cut.missing ≤ length bytes
missing-le old new bytes cut = omega (arith, simp length-append at (ap length cut.all))

module _ (s t : Streams) where
  pub Reads-joined : (xs ys : List ℕ) → IsNext s t → Reads s xs → Reads t ys → Reads (joined s t) (xs ++ ys)
  Reads-joined xs ys next first second =
      Consumes-trans s.left_before s.left_after t.left_after xs ys first (subst (λ a. Consumes a t.left_after ys) next.0 second)

  pub Writes-joined : (xs ys : List ℕ) → IsNext s t → Writes s xs → Writes t ys → Writes (joined s t) (xs ++ ys)
  Writes-joined xs ys next first second =
      Appends-trans s.held_before s.held_after t.held_after xs ys first (subst (λ h. Appends h t.held_after ys) next.1 second)

  pub WritesPart-joined : (xs ys : List ℕ) → IsNext s t → Writes s xs → WritesPart t ys → WritesPart (joined s t) (xs ++ ys)
  WritesPart-joined xs ys next first second =
      IsCut-behind s.held_before s.held_after t.held_after xs ys first (subst (λ h. IsCut h t.held_after ys) next.1 second)
