-- What the data of an INFO or GO asks for.
use Rattle.std.proofs.Common.{◌≡◌, ℕ, zero, suc, ◌+◌, ◌-◌, ◌*◌, ◌/◌, ◌^◌, ◌<◌, ◌≤◌, List, [], ◌∷◌, ◌++◌, length, take, drop, get_or, refl, sym, ap, ◌∙◌, arith, append_assoc, length-append}
use Rattle.std.specs.List.{AllByRecursion}
use Rattle.std.proofs.lemmas.List.{nil_from_length, drop_at, take_at, take_all, length-drop}
use Rattle.byteorder.specs.Endian.{big_bytes, big_number}
use Rattle.byteorder.specs.Numbers.{big_from-lt, big_number-reads_back}
use Rattle.fa_nego.specs.Negotiation.{Asked, IsAsked, AsksFor, asked_bytes, kinds_bytes}
use Rattle.fa_nego.specs.Heard.{AreKinds}
use Rattle.fa_types.proofs.BigEndian.{AreBytes, AreBytes-take, big_bytes-whole}

length-kinds_bytes : (kinds : List ℕ) → length (kinds_bytes kinds) ≡ 2 * length kinds
length-kinds_bytes [] = omega arith
length-kinds_bytes (kind ∷ kinds) = omega (arith, length-kinds_bytes kinds)

-- The kinds that stand in some bytes.
record HasKinds (bytes : List ℕ) (n : ℕ) : Type 0 where
  kinds : List ℕ
  count : length kinds ≡ n
  each : AllByRecursion (λ kind. kind < 2 ^ 16) kinds
  spelled : kinds_bytes kinds ≡ bytes

-- twice as many bytes are so many kinds
has_kinds : (n : ℕ) (bytes : List ℕ) → length bytes ≡ 2 * n → AreBytes bytes → HasKinds bytes n
has_kinds zero bytes len fits = record {
  kinds = [];
  count = refl;
  each = tt;
  spelled = sym (nil_from_length bytes (omega arith));
}
has_kinds (suc n) [] len fits = absurd (omega arith)
has_kinds (suc n) (a ∷ []) len fits = absurd (omega arith)
has_kinds (suc n) (a ∷ b ∷ bytes) len fits =
    let rest = has_kinds n bytes (omega arith) (λ i. fits (suc (suc i))) in
    let front = AreBytes-take 2 (a ∷ b ∷ bytes) fits in
    record {
      kinds = big_number 2 (a ∷ b ∷ []) ∷ rest.kinds;
      count = ap suc rest.count;
      each = (big_from-lt 0 2 (a ∷ b ∷ []) front, rest.each);
      spelled = ap (λ first. first ++ kinds_bytes rest.kinds) (big_bytes-whole 2 (a ∷ b ∷ []) refl front) ∙ ap (λ others. a ∷ b ∷ others) rest.spelled;
    }

-- What data that asks for something is.
pub record IsSpelled (given : List ℕ) (asked : Asked) : Type 0 where
  pub len : length given ≡ 6 + length asked.name + 2 * length asked.kinds
  pub name_len : big_number 4 (take 4 given) ≡ length asked.name
  pub name : take (length asked.name) (drop 4 given) ≡ asked.name
  pub count : big_number 2 (take 2 (drop (length asked.name) (drop 4 given))) ≡ length asked.kinds

length-asked_bytes : (asked : Asked) → length (asked_bytes asked) ≡ 6 + length asked.name + 2 * length asked.kinds
unfolding asked_bytes
length-asked_bytes asked =
    let all = length-append (asked.name ++ big_bytes 2 (length asked.kinds)) (kinds_bytes asked.kinds) in
    let front = length-append asked.name (big_bytes 2 (length asked.kinds)) in
    omega (arith, all, front, length-kinds_bytes asked.kinds)

name_len-asked_bytes : (asked : Asked) → IsAsked asked → big_number 4 (take 4 (asked_bytes asked)) ≡ length asked.name
unfolding asked_bytes
name_len-asked_bytes asked is = big_number-reads_back 4 (length asked.name) [] is.name

name-asked_bytes : (asked : Asked) → take (length asked.name) (drop 4 (asked_bytes asked)) ≡ asked.name
unfolding asked_bytes
name-asked_bytes asked =
    let count = big_bytes 2 (length asked.kinds) in
    ap (take (length asked.name)) (append_assoc asked.name count (kinds_bytes asked.kinds)) ∙ take_at asked.name (count ++ kinds_bytes asked.kinds) (length asked.name) refl

count-asked_bytes : (asked : Asked) → IsAsked asked → big_number 2 (take 2 (drop (length asked.name) (drop 4 (asked_bytes asked)))) ≡ length asked.kinds
unfolding asked_bytes
count-asked_bytes asked is =
    let count = big_bytes 2 (length asked.kinds) in
    let behind : drop (length asked.name) ((asked.name ++ count) ++ kinds_bytes asked.kinds) ≡ count ++ kinds_bytes asked.kinds =
    ap (drop (length asked.name)) (append_assoc asked.name count (kinds_bytes asked.kinds)) ∙ drop_at asked.name (count ++ kinds_bytes asked.kinds) (length asked.name) refl in
    ap (λ bytes. big_number 2 (take 2 bytes)) behind ∙ big_number-reads_back 2 (length asked.kinds) [] is.kinds

pub is_spelled : (given : List ℕ) (asked : Asked) → AsksFor given asked → IsSpelled given asked
is_spelled given asked asks = record {
  len = ap length asks.1 ∙ length-asked_bytes asked;
  name_len = ap (λ bytes. big_number 4 (take 4 bytes)) asks.1 ∙ name_len-asked_bytes asked asks.0;
  name = ap (λ bytes. take (length asked.name) (drop 4 bytes)) asks.1 ∙ name-asked_bytes asked;
  count = ap (λ bytes. big_number 2 (take 2 (drop (length asked.name) (drop 4 bytes)))) asks.1 ∙ count-asked_bytes asked asks.0;
}

-- four parts, each the same
joined : (a a' b b' c c' d d' : List ℕ) → a ≡ a' → b ≡ b' → c ≡ c' → d ≡ d' → a ++ b ++ c ++ d ≡ a' ++ b' ++ c' ++ d'
joined a a' b b' c c' d d' p q r s = cc

asked_bytes-is : (asked : Asked) → asked_bytes asked ≡ big_bytes 4 (length asked.name) ++ asked.name ++ big_bytes 2 (length asked.kinds) ++ kinds_bytes asked.kinds
unfolding asked_bytes
asked_bytes-is asked = refl

-- These parts ask for the name, and for the kinds that the last part spells.
pub asks_for : (given len name count kinds : List ℕ) → given ≡ len ++ name ++ count ++ kinds → AreBytes len → AreBytes count → AreBytes kinds
    → length len ≡ 4 → length count ≡ 2 → big_number 4 len ≡ length name → length kinds ≡ 2 * big_number 2 count
    → (asked : Asked) × AsksFor given asked × (asked.name ≡ name) × AreKinds kinds asked.kinds
asks_for given len name count kinds parts len_fits count_fits kinds_fits len_len count_len name_len kinds_len =
    let has = has_kinds (big_number 2 count) kinds kinds_len kinds_fits in
    let asked : Asked = record { name = name; kinds = has.kinds } in
    let number : big_bytes 4 (length name) ≡ len = ap (big_bytes 4) (sym name_len) ∙ big_bytes-whole 4 len len_len len_fits in
    let counted : big_bytes 2 (length has.kinds) ≡ count = ap (big_bytes 2) has.count ∙ big_bytes-whole 2 count count_len count_fits in (
      asked,
      (
        record { name = omega (arith, big_from-lt 0 4 len len_fits); kinds = omega (arith, has.count, big_from-lt 0 2 count count_fits); each = has.each },
        parts ∙ sym (asked_bytes-is asked ∙ joined (big_bytes 4 (length name)) len name name (big_bytes 2 (length has.kinds)) count (kinds_bytes has.kinds) kinds number refl counted has.spelled),
      ),
      refl,
      (has.each, has.spelled),
    )

-- the kind at an index stands in their bytes
pub kind_at : (kinds : List ℕ) (i : ℕ) → AllByRecursion (λ kind. kind < 2 ^ 16) kinds → i < length kinds → big_number 2 (drop (2 * i) (kinds_bytes kinds)) ≡ get_or kinds i 0
kind_at [] i each below = absurd (omega arith)
kind_at (kind ∷ kinds) zero each below = big_number-reads_back 2 kind (kinds_bytes kinds) each.0
kind_at (kind ∷ kinds) (suc i) each below =
    let two : 2 * suc i ≡ suc (suc (2 * i)) = omega arith in
    rw two (kind_at kinds i each.1 (omega arith))

-- What is read at an index of some kinds.
pub record KindRead (asked : List ℕ) (i read : ℕ) : Type 0 where
  pub below : i < length asked
  pub is : read ≡ get_or asked i 0

pub kind_read : (bytes asked : List ℕ) (i read : ℕ) → AllByRecursion (λ kind. kind < 2 ^ 16) asked → kinds_bytes asked ≡ bytes → i < length bytes / 2
    → read ≡ big_number 2 (take (length bytes - 2 * i) (drop (2 * i) bytes)) → KindRead asked i read
kind_read bytes asked i read each spelled inside is =
    let below : i < length asked = omega (arith, ap length spelled, length-kinds_bytes asked) in
    record {
      below = below;
      is = is ∙ ap (big_number 2) (take_all (length bytes - 2 * i) (drop (2 * i) bytes) (omega (arith, length-drop (2 * i) bytes)))
          ∙ ap (λ all. big_number 2 (drop (2 * i) all)) (sym spelled) ∙ kind_at asked i each below;
    }

-- there are half as many kinds as bytes
pub few_kinds : (bytes asked : List ℕ) (i : ℕ) → kinds_bytes asked ≡ bytes → length bytes / 2 ≤ i → length asked ≤ i
few_kinds bytes asked i spelled past = omega (arith, ap length spelled, length-kinds_bytes asked)

-- kinds that are spelled alike are the same
pub same_kinds : (kinds kinds' : List ℕ) → AllByRecursion (λ kind. kind < 2 ^ 16) kinds → AllByRecursion (λ kind. kind < 2 ^ 16) kinds' → kinds_bytes kinds ≡ kinds_bytes kinds' → kinds ≡ kinds'
same_kinds [] [] each each' same = refl
same_kinds [] (kind' ∷ kinds') each each' same = absurd (omega (arith, ap length same))
same_kinds (kind ∷ kinds) [] each each' same = absurd (omega (arith, ap length same))
same_kinds (kind ∷ kinds) (kind' ∷ kinds') each each' same =
    let first : kind ≡ kind' = sym (big_number-reads_back 2 kind (kinds_bytes kinds) each.0) ∙ ap (big_number 2) same ∙ big_number-reads_back 2 kind' (kinds_bytes kinds') each'.0 in
    let rest : kinds ≡ kinds' = same_kinds kinds kinds' each.1 each'.1 (ap (drop 2) same) in
    cc

-- the bytes of the kinds are the last
kinds-asked_bytes : (asked : Asked) → drop (2 + length asked.name) (drop 4 (asked_bytes asked)) ≡ kinds_bytes asked.kinds
unfolding asked_bytes
kinds-asked_bytes asked =
    drop_at (asked.name ++ big_bytes 2 (length asked.kinds)) (kinds_bytes asked.kinds) (2 + length asked.name) (omega (arith, length-append asked.name (big_bytes 2 (length asked.kinds))))

-- Data asks for one thing at most.
pub same_asked : (given : List ℕ) (asked asked' : Asked) → AsksFor given asked → AsksFor given asked' → asked ≡ asked'
same_asked given asked asked' asks asks' =
    let is = is_spelled given asked asks in
    let is' = is_spelled given asked' asks' in
    let len : length asked.name ≡ length asked'.name = sym is.name_len ∙ is'.name_len in
    let name : asked.name ≡ asked'.name = sym is.name ∙ ap (λ n. take n (drop 4 given)) len ∙ is'.name in
    let bytes : kinds_bytes asked.kinds ≡ kinds_bytes asked'.kinds =
    sym (kinds-asked_bytes asked) ∙ ap (λ n. drop (2 + n) (drop 4 (asked_bytes asked))) len ∙ ap (λ all. drop (2 + length asked'.name) (drop 4 all)) (sym asks.1 ∙ asks'.1) ∙ kinds-asked_bytes asked' in
    let kinds : asked.kinds ≡ asked'.kinds = same_kinds asked.kinds asked'.kinds asks.0.each asks'.0.each bytes in
    ap (λ n. record { name = n; kinds = asked.kinds }) name ∙ ap (λ k. record { name = asked'.name; kinds = k }) kinds
