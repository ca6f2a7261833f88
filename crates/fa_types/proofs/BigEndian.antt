-- Numbers and the bytes that spell them, the highest first, and bytes in parts.
use Rattle.std.proofs.Common.{inl, inr, ◌/◌, ◌%◌, ◌≡◌, ℕ, zero, suc, ◌+◌, ◌*◌, ◌^◌, ◌<◌, ◌≤◌, List, [], ◌∷◌, length, take, drop, get_or, length-drop, get_or-drop, refl, sym, ap, ◌∙◌, arith, ◌++◌}
use Rattle.std.proofs.Math.Nat.{add-mul-mod_self_right, add-mul-div_right, pow-suc, one-le-pow, div-one, add_comm}
use Rattle.std.proofs.lemmas.Bool.{cases_lt}
use Rattle.std.proofs.lemmas.List.{get_or-take, get_or_past, length-take, take_all}
use Rattle.std.proofs.lemmas.Nat.{pow-add, div-mul-add}
use Rattle.std.proofs.Math.Nat.{mod-eq_of_lt}
use Rattle.std.proofs.Math.Seq.{take-append_seam, drop-append_seam}
use Rattle.std.specs.Int.{byte_at, bytes_high_first}
use Rattle.byteorder.specs.Endian.{big_bytes, big_from, big_number}
use Rattle.byteorder.specs.Numbers.{big_from-cons, big_from-lt, big_from-take}

-- each of them is a byte
abbrev pub AreBytes : List ℕ → Type 0
AreBytes xs = (i : ℕ) → get_or xs i 0 < 256

-- a byte of a number, by its index
byte_at-pow : (k x : ℕ) → byte_at k x ≡ x / 256 ^ k % 256
byte_at-pow zero x = ap (λ (y : ℕ). y % 256) (sym (div-one x))
byte_at-pow (suc k) x = refl

pow_pos : (n : ℕ) → 0 < 256 ^ n
pow_pos n = let h = one-le-pow n 256 (omega arith) in omega arith

-- a multiple of a higher power does not change a low byte
byte_at-above : (k d a r : ℕ) → byte_at k (a * 256 ^ (k + suc d) + r) ≡ byte_at k r
byte_at-above k d a r =
    let split : a * 256 ^ (k + suc d) ≡ (a * 256 ^ d * 256) * 256 ^ k =
    ap (λ p. a * p) (pow-add 256 k (suc d) ∙ ap (λ p. 256 ^ k * p) (pow-suc 256 d)) ∙ grind arith in
    let swap : a * 256 ^ (k + suc d) + r ≡ r + (a * 256 ^ d * 256) * 256 ^ k =
    add_comm (a * 256 ^ (k + suc d)) r ∙ ap (λ p. r + p) split in
    byte_at-pow k (a * 256 ^ (k + suc d) + r)
    ∙ ap (λ y. y / 256 ^ k % 256) swap
    ∙ ap (λ y. y % 256) (add-mul-div_right r (a * 256 ^ d * 256) (pow_pos k))
    ∙ add-mul-mod_self_right (r / 256 ^ k) (a * 256 ^ d) 256
    ∙ sym (byte_at-pow k r)

-- nor does it change the bytes below it
bytes-above : (k d a r : ℕ) → bytes_high_first k (a * 256 ^ (k + d) + r) ≡ bytes_high_first k r
bytes-above zero d a r = refl
bytes-above (suc k) d a r =
    let same : suc k + d ≡ k + suc d = omega arith in
    ap (λ n. bytes_high_first (suc k) (a * 256 ^ n + r)) same
    ∙ ap (λ b. b ∷ bytes_high_first k (a * 256 ^ (k + suc d) + r)) (byte_at-above k d a r)
    ∙ ap (λ bs. byte_at k r ∷ bs) (bytes-above k (suc d) a r)

-- the bytes of the number that bytes spell are those bytes
pub big_bytes-big_number : (n : ℕ) (xs : List ℕ) → AreBytes xs → n ≤ length xs → big_bytes n (big_number n xs) ≡ take n xs
big_bytes-big_number zero xs bytes long = refl
big_bytes-big_number (suc n) [] bytes long = absurd (omega arith)
big_bytes-big_number (suc n) (x ∷ xs) bytes long =
    let rest : AreBytes xs = λ i. bytes (suc i) in
    let small = big_from-lt 0 n xs rest in
    let first = bytes 0 in
    let top : byte_at n (x * 256 ^ n + big_from 0 n xs) ≡ x =
    byte_at-pow n (x * 256 ^ n + big_from 0 n xs)
    ∙ ap (λ y. y % 256) (div-mul-add x (256 ^ n) (big_from 0 n xs) small)
    ∙ mod-eq_of_lt first in
    let low : bytes_high_first n (x * 256 ^ n + big_from 0 n xs) ≡ take n xs =
    ap (λ m. bytes_high_first n (x * 256 ^ m + big_from 0 n xs)) (let e : n ≡ n + 0 = omega arith in e)
    ∙ bytes-above n 0 x (big_from 0 n xs)
    ∙ big_bytes-big_number n xs rest (omega arith) in
    ap (λ r. bytes_high_first (suc n) (x * 256 ^ n + r)) (big_from-cons 0 n x xs)
    ∙ ap (λ b. b ∷ bytes_high_first n (x * 256 ^ n + big_from 0 n xs)) top
    ∙ ap (λ bs. x ∷ bs) low

-- bytes from an offset on are bytes
pub AreBytes-drop : (a : ℕ) (xs : List ℕ) → AreBytes xs → AreBytes (drop a xs)
AreBytes-drop a xs bytes i = rw get_or-drop (bytes (a + i))

-- as many bytes as are asked for are all of them
pub big_bytes-whole : (n : ℕ) (bytes : List ℕ) → length bytes ≡ n → AreBytes bytes → big_bytes n (big_number n bytes) ≡ bytes
big_bytes-whole n bytes long fits = big_bytes-big_number n bytes fits (omega arith) ∙ take_all n bytes (omega arith)

-- and so are the first so many of them
pub AreBytes-take : (n : ℕ) (xs : List ℕ) → AreBytes xs → AreBytes (take n xs)
AreBytes-take n xs bytes i = elim (cases_lt i n) [
  | inl below ↦ rw (get_or-take n xs i 0 below) (bytes i)
  | inr above ↦
      let past : get_or (take n xs) i 0 ≡ 0 = get_or_past (take n xs) i 0 (omega (arith, length-take n xs)) in
      omega (arith, past)
]

-- the bytes of a number that was read at an offset of others
pub big_bytes-read : (a n x : ℕ) (xs : List ℕ) → AreBytes xs → a + n ≤ length xs → x ≡ big_number n (take n (drop a xs)) → big_bytes n x ≡ take n (drop a xs)
big_bytes-read a n x xs bytes long read =
    ap (big_bytes n) (read ∙ big_from-take 0 n n (drop a xs) (omega arith))
    ∙ big_bytes-big_number n (drop a xs) (AreBytes-drop a xs bytes) (rw length-drop (omega arith))

-- equal lists whose first parts are as long as one another have equal parts
pub append-parts : (a b c d : List ℕ) → length a ≡ length c → a ++ b ≡ c ++ d → (a ≡ c) × (b ≡ d)
append-parts a b c d long same = (
  sym (take-append_seam a b) ∙ ap (λ n. take n (a ++ b)) long ∙ ap (take (length c)) same ∙ take-append_seam c d,
  sym (drop-append_seam a b) ∙ ap (λ n. drop n (a ++ b)) long ∙ ap (drop (length c)) same ∙ drop-append_seam c d,
)
