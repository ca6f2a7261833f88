-- What stands before an option's data.
use Rattle.std.proofs.Common.{◌≡◌, ℕ, ◌^◌, ◌<◌, List, ◌++◌, length, take, drop, refl, sym, ap, ◌∙◌}
use Rattle.byteorder.specs.Endian.{big_bytes, big_number}
use Rattle.byteorder.specs.Numbers.{big_number-reads_back}
use Rattle.fa_nego_head.specs.Heads.{head_bytes}

-- there are 16 bytes of it
pub length-head_bytes : (option len : ℕ) → length (head_bytes option len) ≡ 16
unfolding head_bytes
length-head_bytes option len = refl

-- the first 8 of them are the magic number
pub take-head_bytes : (option len : ℕ) (rest : List ℕ) → take 8 (head_bytes option len ++ rest) ≡ big_bytes 8 0x49484156454f5054
unfolding head_bytes
take-head_bytes option len rest = refl

-- the option's number stands in it
pub option_in_head : (option len : ℕ) (rest : List ℕ) → option < 2 ^ 32 → big_number 4 (drop 8 (head_bytes option len ++ rest)) ≡ option
unfolding head_bytes
option_in_head option len rest fits = big_number-reads_back 4 option (big_bytes 4 len ++ rest) fits

-- the length stands in it
pub length_in_head : (option len : ℕ) (rest : List ℕ) → len < 2 ^ 32 → big_number 4 (drop 12 (head_bytes option len ++ rest)) ≡ len
unfolding head_bytes
length_in_head option len rest fits = big_number-reads_back 4 len rest fits

-- it is told apart from what follows
pub rest_of_head : (option len : ℕ) (rest : List ℕ) → drop 16 (head_bytes option len ++ rest) ≡ rest
unfolding head_bytes
rest_of_head option len rest = refl

-- Two that begin the same bytes are one.
pub record SameHead (option len option' len' : ℕ) (rest rest' : List ℕ) : Type 0 where
  pub same_option : option ≡ option'
  pub same_len : len ≡ len'
  pub same_rest : rest ≡ rest'

pub same_head : (option len option' len' : ℕ) (rest rest' : List ℕ) → option < 2 ^ 32 → len < 2 ^ 32 → option' < 2 ^ 32 → len' < 2 ^ 32
    → head_bytes option len ++ rest ≡ head_bytes option' len' ++ rest' → SameHead option len option' len' rest rest'
same_head option len option' len' rest rest' o l o' l' same = record {
  same_option = sym (option_in_head option len rest o) ∙ ap (λ bytes. big_number 4 (drop 8 bytes)) same ∙ option_in_head option' len' rest' o';
  same_len = sym (length_in_head option len rest l) ∙ ap (λ bytes. big_number 4 (drop 12 bytes)) same ∙ length_in_head option' len' rest' l';
  same_rest = sym (rest_of_head option len rest) ∙ ap (drop 16) same ∙ rest_of_head option' len' rest';
}
