-- Slots in bytes that are read and written in part.
use Rattle.std.proofs.Common.{◌≡◌, ℕ, zero, suc, ◌+◌, ◌-◌, ◌*◌, ◌<◌, ◌≤◌, List, [], ◌∷◌, ◌++◌, length, take, drop, replicate}
use Rattle.std.proofs.Common.{slice_index_or, refl, ap, sym, subst, ◌∙◌, zero-add, arith, append_assoc, length-take, length-drop}
use Rattle.std.proofs.Math.Nat.{add-mul, zero-mul, mul-le-mul_right}
use Rattle.std.proofs.lemmas.List.{take_at, drop_at, take-append-drop, take-append-le, drop-append-le, drop-drop}
use Rattle.std.proofs.lemmas.List.{length-replicate, replicate-append-replicate, take_all}
use Rattle.fa_types.specs.Store.{with_bytes, bytes_at}
use Rattle.fa_image.specs.Cut.{cut, length-cut}
use Rattle.fa_image.specs.Image.{with_slots}

-- a part of the slots has its bytes within those of all
pub part_fits : (at k count size : ℕ) → at + k ≤ count → at * size + k * size ≤ count * size
part_fits at k count size fits =
    let most : (at + k) * size ≤ count * size = mul-le-mul_right size fits in
    let sum : (at + k) * size ≡ at * size + k * size = add-mul at k size in
    omega arith

-- what is cut off two lists, one behind the other
cut-append : (a b size : ℕ) (x y : List ℕ) → length x ≡ a * size → cut (a + b) size (x ++ y) ≡ cut a size x ++ cut b size y
unfolding cut
cut-append zero b size [] y is = ap (λ (n : ℕ). cut n size y) (zero-add b)
cut-append zero b size (v ∷ x) y is = absurd (omega (arith, is))
cut-append (suc a) b size x y is =
    let whole : length x ≡ a * size + size = grind arith in
    let rest : length (drop size x) ≡ a * size = length-drop size x ∙ omega arith in
    let more : suc a + b ≡ suc (a + b) = omega arith in
    ap (λ (n : ℕ). cut n size (x ++ y)) more
    ∙ ap (λ (l : List ℕ). l ∷ cut (a + b) size (drop size (x ++ y))) (take-append-le size x y (omega arith))
    ∙ ap (λ (l : List ℕ). take size x ∷ cut (a + b) size l) (drop-append-le size x y (omega arith))
    ∙ ap (λ (l : List (List ℕ)). take size x ∷ l) (cut-append a b size (drop size x) y rest)

pub cut-one : (size : ℕ) (bytes : List ℕ) → length bytes ≡ size → cut 1 size bytes ≡ bytes ∷ []
unfolding cut
cut-one size bytes is = ap (λ (l : List ℕ). l ∷ []) (take_all size bytes (omega arith))

pub cut-replicate : (k size v : ℕ) → cut k size (replicate (k * size) v) ≡ replicate k (replicate size v)
unfolding cut
cut-replicate zero size v = refl
cut-replicate (suc k) size v =
    let one = replicate size v in
    let others = replicate (k * size) v in
    let sum : suc k * size ≡ size + k * size = grind arith in
    let parts : replicate (suc k * size) v ≡ one ++ others =
    ap (λ (n : ℕ). replicate n v) sum ∙ sym (replicate-append-replicate size (k * size) v) in
    ap (λ (l : List ℕ). take size l ∷ cut k size (drop size l)) parts
    ∙ ap (λ (l : List ℕ). l ∷ cut k size (drop size (one ++ others))) (take_at one others size (length-replicate size v))
    ∙ ap (λ (l : List ℕ). one ∷ cut k size l) (drop_at one others size (length-replicate size v))
    ∙ ap (λ (l : List (List ℕ)). one ∷ l) (cut-replicate k size v)

pub slot-cut : (count size i : ℕ) (flat : List ℕ) → i < count → slice_index_or (cut count size flat) i [] ≡ bytes_at (i * size) size flat
unfolding cut
slot-cut zero size i flat below = absurd (omega (arith, below))
slot-cut (suc count) size zero flat below = ap (λ (n : ℕ). take size (drop n flat)) (sym (zero-mul size))
slot-cut (suc count) size (suc i) flat below =
    let sum : size + i * size ≡ suc i * size = grind arith in
    slot-cut count size i (drop size flat) (omega (arith, below))
    ∙ ap (λ (l : List ℕ). take size l) (drop-drop (i * size) size flat ∙ ap (λ (n : ℕ). drop n flat) sum)

-- the slots of a front and of what is behind it
cut-split : (a b size : ℕ) (flat : List ℕ) → length flat ≡ (a + b) * size
    → cut (a + b) size flat ≡ cut a size (take (a * size) flat) ++ cut b size (drop (a * size) flat)
cut-split a b size flat is =
    let sum : (a + b) * size ≡ a * size + b * size = add-mul a b size in
    ap (λ (l : List ℕ). cut (a + b) size l) (sym (take-append-drop (a * size) flat))
    ∙ cut-append a b size (take (a * size) flat) (drop (a * size) flat) (length-take (a * size) flat ∙ omega arith)

take-cut : (a b size : ℕ) (flat : List ℕ) → length flat ≡ (a + b) * size
    → take a (cut (a + b) size flat) ≡ cut a size (take (a * size) flat)
take-cut a b size flat is =
    ap (λ (l : List (List ℕ)). take a l) (cut-split a b size flat is)
    ∙ take_at (cut a size (take (a * size) flat)) (cut b size (drop (a * size) flat)) a (length-cut a size (take (a * size) flat))

drop-cut : (a b size : ℕ) (flat : List ℕ) → length flat ≡ (a + b) * size
    → drop a (cut (a + b) size flat) ≡ cut b size (drop (a * size) flat)
drop-cut a b size flat is =
    ap (λ (l : List (List ℕ)). drop a l) (cut-split a b size flat is)
    ∙ drop_at (cut a size (take (a * size) flat)) (cut b size (drop (a * size) flat)) a (length-cut a size (take (a * size) flat))

-- the same, where k slots and m more follow the first ones
put_between : (at k m size : ℕ) (bytes flat : List ℕ) → length bytes ≡ k * size → length flat ≡ (at + (k + m)) * size
    → cut (at + (k + m)) size (with_bytes (at * size) bytes flat) ≡ with_slots at (cut k size bytes) (cut (at + (k + m)) size flat)
put_between at k m size bytes flat is whole =
    let sum : (at + (k + m)) * size ≡ at * size + (k + m) * size = add-mul at (k + m) size in
    let second : (k + m) * size ≡ k * size + m * size = add-mul k m size in
    let both : (at + k) * size ≡ at * size + k * size = add-mul at k size in
    let regroup : (at + k) + m ≡ at + (k + m) = omega arith in
    let front = take (at * size) flat in
    let back = drop (at * size + length bytes) flat in
    let front_len : length front ≡ at * size = length-take (at * size) flat ∙ omega arith in
    let front_is : take at (cut (at + (k + m)) size flat) ≡ cut at size front = take-cut at (k + m) size flat whole in
    let whole' : length flat ≡ ((at + k) + m) * size = whole ∙ ap (λ (n : ℕ). n * size) (sym regroup) in
    let place : at * size + length bytes ≡ (at + k) * size = omega arith in
    let back_is : drop (at + length (cut k size bytes)) (cut (at + (k + m)) size flat) ≡ cut m size back =
    ap (λ (n : ℕ). drop (at + n) (cut (at + (k + m)) size flat)) (length-cut k size bytes)
    ∙ ap (λ (n : ℕ). drop (at + k) (cut n size flat)) (sym regroup)
    ∙ drop-cut (at + k) m size flat whole'
    ∙ ap (λ (n : ℕ). cut m size (drop n flat)) (sym place) in
    ap (λ (l : List ℕ). cut (at + (k + m)) size l) (append_assoc front bytes back)
    ∙ cut-append at (k + m) size front (bytes ++ back) front_len
    ∙ ap (λ (l : List (List ℕ)). cut at size front ++ l) (cut-append k m size bytes back is)
    ∙ sym (append_assoc (cut at size front) (cut k size bytes) (cut m size back))
    ∙ ap (λ (l : List (List ℕ)). (l ++ cut k size bytes) ++ cut m size back) (sym front_is)
    ∙ ap (λ (l : List (List ℕ)). (take at (cut (at + (k + m)) size flat) ++ cut k size bytes) ++ l) (sym back_is)

-- bytes of k slots that are written from an index on
pub cut-with_bytes : (count size at k : ℕ) (bytes flat : List ℕ) → at + k ≤ count → length bytes ≡ k * size → length flat ≡ count * size
    → cut count size (with_bytes (at * size) bytes flat) ≡ with_slots at (cut k size bytes) (cut count size flat)
cut-with_bytes count size at k bytes flat fits is whole =
    let parts : at + (k + (count - (at + k))) ≡ count = omega arith in
    let P : ℕ → Type 0 =
    λ n. length flat ≡ n * size → cut n size (with_bytes (at * size) bytes flat) ≡ with_slots at (cut k size bytes) (cut n size flat) in
    subst P parts
    (put_between at k (count - (at + k)) size bytes flat is) whole
