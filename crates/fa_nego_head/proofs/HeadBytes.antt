-- The bytes that stand before an option's data, taken apart.
use Rattle.std.proofs.Common.{◌≡◌, ℕ, List, ◌++◌, length, take, drop, sym, ap, ◌∙◌, arith, append_assoc}
use Rattle.std.proofs.lemmas.List.{take-append-drop, drop-drop, length-take, length-drop}
use Rattle.byteorder.specs.Endian.{big_bytes, big_number}
use Rattle.byteorder.specs.Numbers.{big_from-take}
use Rattle.fa_nego_head.specs.Heads.{head_bytes}
use Rattle.fa_types.proofs.BigEndian.{AreBytes, AreBytes-take, AreBytes-drop, big_bytes-whole}

-- 16 bytes are their first 8, the next 4 and the last 4
split_16 : (bytes : List ℕ) → bytes ≡ take 8 bytes ++ take 4 (drop 8 bytes) ++ drop 12 bytes
split_16 bytes =
    sym (rw append_assoc (ap (λ rest. take 8 bytes ++ rest) (rw (← drop-drop 4 8 bytes) (take-append-drop 4 (drop 8 bytes))) ∙ take-append-drop 8 bytes))

-- three parts, each the same
joined : (a a' b b' c c' : List ℕ) → a ≡ a' → b ≡ b' → c ≡ c' → a ++ b ++ c ≡ a' ++ b' ++ c'
joined a a' b b' c c' p q r = cc

-- 16 bytes that begin with the magic number say an option's number and a length
pub head_from_bytes : (bytes : List ℕ) (option len : ℕ) → length bytes ≡ 16 → AreBytes bytes → big_number 8 bytes ≡ 0x49484156454f5054
    → option ≡ big_number 4 (drop 8 bytes) → len ≡ big_number 4 (drop 12 bytes) → bytes ≡ head_bytes option len
unfolding head_bytes
head_from_bytes bytes option len long fits magic is_option is_len =
    let first : big_bytes 8 0x49484156454f5054 ≡ take 8 bytes =
    ap (big_bytes 8) (sym magic ∙ sym (big_from-take 0 8 8 bytes (omega arith))) ∙ big_bytes-whole 8 (take 8 bytes) (omega (arith, length-take 8 bytes)) (AreBytes-take 8 bytes fits) in
    let second : big_bytes 4 option ≡ take 4 (drop 8 bytes) =
    ap (big_bytes 4) (is_option ∙ sym (big_from-take 0 4 4 (drop 8 bytes) (omega arith))) ∙ big_bytes-whole 4 (take 4 (drop 8 bytes)) (omega (arith, length-take 4 (drop 8 bytes), length-drop 8 bytes)) (AreBytes-take 4 (drop 8 bytes) (AreBytes-drop 8 bytes fits)) in
    let third : big_bytes 4 len ≡ drop 12 bytes =
    ap (big_bytes 4) is_len ∙ big_bytes-whole 4 (drop 12 bytes) (omega (arith, length-drop 12 bytes)) (AreBytes-drop 12 bytes fits) in
    split_16 bytes ∙ sym (joined (big_bytes 8 0x49484156454f5054) (take 8 bytes) (big_bytes 4 option) (take 4 (drop 8 bytes)) (big_bytes 4 len) (drop 12 bytes) first second third)
