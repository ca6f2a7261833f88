-- Any bytes are a cell of the array's machine.
use Rattle.byteorder.specs.Endian.{big_number}
use Rattle.fa_machine.specs.Cells.{Broken, Cell, Empty, Sealed}
use Rattle.fa_mount_scan.specs.ContentCells.{IsCellOf}
use Rattle.fa_tag.proofs.Slots.{ReadsTag, cut_slot, letters_of, reads_tag, same_tag}
use Rattle.fa_tag.specs.SlotGrammar.{IsPayloadOf, IsSlot, IsTag, kind_number, payload_of, slot_1, slot_2}
use Rattle.fa_tag.specs.declared.tag.Tag.{Tag}
use Rattle.fa_types.specs.declared.kind.Kind.{Kind}
use Rattle.fa_types.specs.declared.kind.Kind.TheVariants.{Data, Hole}
use Rattle.std.proofs.Common.{All, List, ap, arith, bytes_eq, drop, inl, inr, length, refl, subst, suc, sym, take, zero, ℕ, ◌%◌, ◌-◌, ◌/◌, ◌^◌, ◌∙◌}
use Rattle.std.proofs.Common.{◌≡◌, ◌⊎◌, ◌<◌, ◌≤◌, [], ◌∷◌}
use Rattle.std.proofs.lemmas.Bool.{cases_Bool, cases_eq, cases_lt}
use Rattle.std.proofs.lemmas.Bool.Decides.{not_from_Decides}
use Rattle.std.proofs.lemmas.List.Elements.{All-cons, All-head, All-nil, All-tail}
use Rattle.std.proofs.lemmas.Slice.Eq.{bytes_eq-Decides}

-- it holds, or it does not
abbrev Decided : Type 0 → Type 0
Decided P = P ⊎ (¬ P)

both : {P Q : Type 0} → Decided P → Decided Q → Decided (P × Q)
both (inl p) (inl q) = inl (p, q)
both (inl p) (inr none) = inr (λ h. none h.1)
both (inr none) q = inr (λ h. none h.0)

either : {P Q : Type 0} → Decided P → Decided Q → Decided (P ⊎ Q)
either (inl p) q = inl (inl p)
either (inr none) (inl q) = inl (inr q)
either (inr none) (inr other) = inr (λ h. elim h [
  | inl p ↦ none p
  | inr q ↦ other q
])

is_below : (a b : ℕ) → Decided (a < b)
is_below a b = elim (cases_lt a b) [
  | inl low ↦ inl low
  | inr high ↦ inr (λ low. omega (arith, low, high))
]

is_from : (a b : ℕ) → Decided (a ≤ b)
is_from a b = elim (cases_lt b a) [
  | inl low ↦ inr (λ high. omega (arith, low, high))
  | inr high ↦ inl high
]

all_same : (byte : ℕ) (bytes : List ℕ) → Decided (All (λ b. b ≡ byte) bytes)
all_same byte [] = inl (All-nil (λ b. b ≡ byte))
all_same byte (x ∷ bytes) = elim (both (cases_eq x byte) (all_same byte bytes)) [
  | inl are ↦ inl (All-cons (λ b. b ≡ byte) x bytes are.0 are.1)
  | inr none ↦ inr (λ all. none (All-head (λ b. b ≡ byte) x bytes all, All-tail (λ b. b ≡ byte) x bytes all))
]

same_bytes : (xs ys : List ℕ) → Decided (xs ≡ ys)
same_bytes xs ys = elim (cases_Bool (bytes_eq xs ys)) [
  | inl e ↦ inl ((bytes_eq-Decides xs ys).0 e)
  | inr e ↦ inr (not_from_Decides (bytes_eq xs ys) (bytes_eq-Decides xs ys) e)
]

is_tag : (tag : Tag) → Decided (IsTag tag)
is_tag tag =
    elim (both (is_below tag.page.0 1048576) (both (is_from 1 tag.seq.0) (both (is_below tag.seq.0 (2 ^ 62))
    (both (is_below tag.die.0 64) (is_below tag.slot.0 1048576))))) [
      | inl are ↦ inl (record {
        page_fits = are.0;
        seq_from_one = are.1.0;
        seq_fits = are.1.1.0;
        die_fits = are.1.1.1.0;
        slot_fits = are.1.1.1.1;
      })
      | inr none ↦ inr (λ (is : IsTag tag). none (is.page_fits, (is.seq_from_one, (is.seq_fits, (is.die_fits, is.slot_fits)))))
    ]

is_data : (kind : Kind) → Decided (kind ≡ Data)
is_data Data = inl refl
is_data Hole = inr (λ e. cc)

is_payload : (kind : Kind) (payload : List ℕ) → Decided (IsPayloadOf kind payload)
is_payload Data payload = inl tt
is_payload Hole payload = all_same 0 payload

is_slot : (tag : Tag) (payload bytes : List ℕ) → Decided (IsSlot tag payload bytes)
is_slot tag payload bytes = elim (both (is_tag tag) (both (is_payload tag.kind payload)
    (either (same_bytes bytes (slot_2 tag payload)) (both (is_data tag.kind) (same_bytes bytes (slot_1 tag payload)))))) [
      | inl are ↦ inl (are.0, are.1.0, are.1.1)
      | inr none ↦ inr (λ is. none (is.0, (is.1, is.2)))
    ]

-- the 32 bytes where a slot has its fields
abbrev fields_in : List ℕ → List ℕ
fields_in bytes = drop (length (take (length bytes - 32) bytes) - 32) (take (length bytes - 32) bytes)

abbrev kind_in : ℕ → Kind
kind_in zero = Data
kind_in (suc n) = Hole

kind_back : (kind : Kind) → kind_in (kind_number kind) ≡ kind
kind_back Data = refl
kind_back Hole = refl

-- the numbers that stand where a tag has its own
abbrev numbers_in : List ℕ → Tag
numbers_in fields = record {
  page = record { 0 = big_number 8 (drop 8 fields) };
  seq = record { 0 = big_number 8 (drop 16 fields) };
  kind = kind_in (big_number 4 (drop 4 fields));
  die = record { 0 = big_number 8 (drop 24 fields) / 4294967296 };
  slot = record { 0 = big_number 8 (drop 24 fields) % 4294967296 };
}

-- a slot's tag is the one that its fields have, and its payload stands before them
only_slot : (tag : Tag) (payload bytes : List ℕ) → IsSlot tag payload bytes
    → IsSlot (numbers_in (fields_in bytes)) (payload_of bytes) bytes
only_slot tag payload bytes slot =
    let own = cut_slot tag payload bytes slot in
    let spelled = letters_of tag own.fields own.version in
    let reads : ReadsTag own.fields tag = subst (λ (b : List ℕ). ReadsTag b tag) (sym spelled.1) (reads_tag spelled.0 tag slot.0) in
    let there : ReadsTag (fields_in bytes) tag = subst (λ (b : List ℕ). ReadsTag b tag) (sym own.cut.behind) reads in
    let same : tag ≡ numbers_in (fields_in bytes) = same_tag tag (numbers_in (fields_in bytes)) (sym there.page) (sym there.seq)
    (sym (ap kind_in there.kind ∙ kind_back tag.kind)) (sym there.die) (sym there.slot) in
    subst (λ (t : Tag). IsSlot t (payload_of bytes) bytes) same
    (subst (λ (p : List ℕ). IsSlot tag p bytes) (sym own.cut.body) slot)

pub any_cell : (bytes : List ℕ) → (cell : Cell) × IsCellOf bytes cell
any_cell bytes = elim (all_same 0xff bytes) [
  | inl erased ↦ (Empty, erased)
  | inr written ↦ elim (is_slot (numbers_in (fields_in bytes)) (payload_of bytes) bytes) [
    | inl slot ↦
        let tag = numbers_in (fields_in bytes) in
        (Sealed tag.page.0 (record { seq = tag.seq; kind = tag.kind }) tag.die.0 tag.slot.0 (payload_of bytes), slot)
    | inr none ↦ (Broken, (written, λ tag payload slot. none (only_slot tag payload bytes slot)))
  ]
]
