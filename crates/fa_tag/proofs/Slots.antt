-- What the bytes of a slot say.
use Rattle.std.proofs.Common.{◌≡◌, ℕ, ◌+◌, ◌-◌, ◌*◌, ◌/◌, ◌%◌, ◌<◌, ◌^◌, ◌≤◌, ◌⊎◌, inl, inr, List, [], ◌++◌, length, take, drop, refl, ap, sym, subst, ◌∙◌, arith, lit<, append_assoc, length-append, length-take}
use Rattle.std.proofs.lemmas.List.{take_at, take-take, take-append-drop}
use Rattle.std.proofs.lemmas.List.Elements.{All-drop, All-take, All-get_or, All-same}
use Rattle.std.proofs.lemmas.Nat.{div-mul-add, mod-mul-add}
use Rattle.byteorder.specs.Endian.{big_number, big_bytes}
use Rattle.byteorder.specs.Numbers.{big_number-reads_back}
use Rattle.sha2.specs.Sha256.{sha256}
use Rattle.sha2.proofs.Facts256.{length-sha256}
use Rattle.fa_types.specs.declared.kind.Kind.{Kind}
use Rattle.fa_types.specs.declared.kind.Kind.TheVariants.{Data, Hole}
use Rattle.fa_tag.specs.declared.tag.Tag.{Tag}
use Rattle.fa_tag.specs.SlotGrammar.{IsTag, IsPayloadOf, kind_number, tag_bytes, place_number, with_digest, fields_1, fields_2, slot_1, slot_2}
use Rattle.fa_tag.specs.SlotGrammar.{IsSlot, AreFields, IsErased, payload_of}
use Rattle.fa_tag.proofs.Cuts.{front_of, back_of}

-- a kind is its number
pub same_kind : (a b : Kind) → kind_number a ≡ kind_number b → a ≡ b
same_kind Data Data same = refl
same_kind Data Hole same = absurd (omega (arith, same))
same_kind Hole Data same = absurd (omega (arith, same))
same_kind Hole Hole same = refl

kind_fits : (kind : Kind) → kind_number kind < 256 ^ 4
kind_fits Data = omega arith
kind_fits Hole = omega arith

-- the numbers that 32 bytes have at the places of a tag's fields
pub record ReadsTag (bytes : List ℕ) (tag : Tag) : Type 0 where
  pub kind : big_number 4 (drop 4 bytes) ≡ kind_number tag.kind
  pub page : big_number 8 (drop 8 bytes) ≡ tag.page.0
  pub seq : big_number 8 (drop 16 bytes) ≡ tag.seq.0
  pub die : big_number 8 (drop 24 bytes) / 4294967296 ≡ tag.die.0
  pub slot : big_number 8 (drop 24 bytes) % 4294967296 ≡ tag.slot.0

place_reads : (letters number : ℕ) (tag : Tag) → IsTag tag
    → big_number 8 (drop 24 (tag_bytes letters number tag)) ≡ tag.die.0 * 4294967296 + tag.slot.0
place_reads letters number tag is = big_number-reads_back 8 (place_number tag.die.0 tag.slot.0) [] (omega arith)

pub reads_tag : (letters : ℕ) (tag : Tag) → IsTag tag → ReadsTag (tag_bytes letters (kind_number tag.kind) tag) tag
reads_tag letters tag is =
    let number = kind_number tag.kind in
    record {
      kind = big_number-reads_back 4 number (big_bytes 8 tag.page.0 ++ big_bytes 8 tag.seq.0 ++ big_bytes 8 (place_number tag.die.0 tag.slot.0)) (kind_fits tag.kind);
      page = big_number-reads_back 8 tag.page.0 (big_bytes 8 tag.seq.0 ++ big_bytes 8 (place_number tag.die.0 tag.slot.0)) (omega arith);
      seq = big_number-reads_back 8 tag.seq.0 (big_bytes 8 (place_number tag.die.0 tag.slot.0)) (omega arith);
      die = ap (λ (n : ℕ). n / 4294967296) (place_reads letters number tag is) ∙ div-mul-add tag.die.0 4294967296 tag.slot.0 (omega arith);
      slot = ap (λ (n : ℕ). n % 4294967296) (place_reads letters number tag is) ∙ mod-mul-add tag.die.0 4294967296 tag.slot.0 (omega arith);
    }

-- in either version the fields stand behind the version's letters
pub letters_of : (tag : Tag) (bytes : List ℕ) → AreFields tag bytes
    → (letters : ℕ) × (bytes ≡ tag_bytes letters (kind_number tag.kind) tag)
letters_of tag bytes (inl newest) = (0x534c5432, newest)
letters_of tag bytes (inr oldest) = (0x534c5431, oldest.1 ∙ ap (λ (kind : Kind). tag_bytes 0x534c5431 (kind_number kind) tag) (sym oldest.0))

reads_fields : (tag : Tag) (bytes : List ℕ) → IsTag tag → AreFields tag bytes → ReadsTag bytes tag
reads_fields tag bytes is fields =
    let spelled = letters_of tag bytes fields in
    subst (λ (b : List ℕ). ReadsTag b tag) (sym spelled.1) (reads_tag spelled.0 tag is)

-- a tag is its kind and its four numbers
pub same_tag : (a b : Tag) → a.page.0 ≡ b.page.0 → a.seq.0 ≡ b.seq.0 → a.kind ≡ b.kind → a.die.0 ≡ b.die.0
    → a.slot.0 ≡ b.slot.0 → a ≡ b
same_tag a b page seq kind die slot =
    let E : ℕ → ℕ → Kind → ℕ → ℕ → Tag = λ p q k d s. record { page = record { 0 = p }; seq = record { 0 = q }; kind = k; die = record { 0 = d }; slot = record { 0 = s } } in
    ap (λ (p : ℕ). E p a.seq.0 a.kind a.die.0 a.slot.0) page ∙ ap (λ (q : ℕ). E b.page.0 q a.kind a.die.0 a.slot.0) seq
    ∙ ap (λ (k : Kind). E b.page.0 b.seq.0 k a.die.0 a.slot.0) kind
    ∙ ap (λ (d : ℕ). E b.page.0 b.seq.0 b.kind d a.slot.0) die ∙ ap (λ (s : ℕ). E b.page.0 b.seq.0 b.kind b.die.0 s) slot

-- the fields say all of a tag
one_tag : (a b : Tag) (bytes : List ℕ) → IsTag a → IsTag b → AreFields a bytes → AreFields b bytes → a ≡ b
one_tag a b bytes is_a is_b fields_a fields_b =
    let own = reads_fields a bytes is_a fields_a in
    let other = reads_fields b bytes is_b fields_b in
    same_tag a b (sym own.page ∙ other.page) (sym own.seq ∙ other.seq) (same_kind a.kind b.kind (sym own.kind ∙ other.kind))
    (sym own.die ∙ other.die) (sym own.slot ∙ other.slot)

-- a payload, fields of 32 bytes and the digest of both, cut where they meet
pub record IsCut (payload fields bytes : List ℕ) : Type 0 where
  pub size : length bytes ≡ length payload + 64
  pub body : take (length bytes - 64) bytes ≡ payload
  pub front : take (length bytes - 32) bytes ≡ payload ++ fields
  pub before : take (length (take (length bytes - 32) bytes) - 32) (take (length bytes - 32) bytes) ≡ payload
  pub behind : drop (length (take (length bytes - 32) bytes) - 32) (take (length bytes - 32) bytes) ≡ fields
  pub digest : drop (length bytes - 32) bytes ≡ sha256 (payload ++ fields)

cut_spelling : (payload fields : List ℕ) → length fields ≡ 32 → IsCut payload fields (with_digest (payload ++ fields))
cut_spelling payload fields has =
    let front = payload ++ fields in
    let size : length (front ++ sha256 front) ≡ length payload + 64 = omega (arith, length-append front (sha256 front), length-append payload fields, length-sha256 front) in
    let first = front_of front (sha256 front) 32 (length-sha256 front) in
    record {
      size = size;
      body = ap (λ (l : List ℕ). take (length (front ++ sha256 front) - 64) l) (append_assoc payload fields (sha256 front))
          ∙ take_at payload (fields ++ sha256 front) (length (front ++ sha256 front) - 64) (omega arith);
      front = first;
      before = ap (λ (l : List ℕ). take (length l - 32) l) first ∙ front_of payload fields 32 has;
      behind = ap (λ (l : List ℕ). drop (length l - 32) l) first ∙ back_of payload fields 32 has;
      digest = back_of front (sha256 front) 32 (length-sha256 front);
    }

-- a slot's bytes are a payload, fields of its tag in one of the versions, and a digest
pub record IsCutSlot (tag : Tag) (payload bytes : List ℕ) : Type 0 where
  pub fields : List ℕ
  pub version : AreFields tag fields
  pub cut : IsCut payload fields bytes

cut_version : (tag : Tag) (payload bytes : List ℕ)
    → (bytes ≡ slot_2 tag payload) ⊎ ((tag.kind ≡ Data) × (bytes ≡ slot_1 tag payload)) → IsCutSlot tag payload bytes
cut_version tag payload bytes (inl newest) = record {
  fields = fields_2 tag;
  version = inl refl;
  cut = subst (λ (b : List ℕ). IsCut payload (fields_2 tag) b) (sym newest) (cut_spelling payload (fields_2 tag) refl);
}
cut_version tag payload bytes (inr oldest) = record {
  fields = fields_1 tag;
  version = inr (oldest.0, refl);
  cut = subst (λ (b : List ℕ). IsCut payload (fields_1 tag) b) (sym oldest.1) (cut_spelling payload (fields_1 tag) refl);
}

pub cut_slot : (tag : Tag) (payload bytes : List ℕ) → IsSlot tag payload bytes → IsCutSlot tag payload bytes
cut_slot tag payload bytes slot = cut_version tag payload bytes slot.2

-- fields of a tag, with a payload in front and the digest of both behind, are a slot in the same version
slot_of_version : (tag : Tag) (payload fields bytes : List ℕ) → AreFields tag fields → bytes ≡ with_digest (payload ++ fields)
    → (bytes ≡ slot_2 tag payload) ⊎ ((tag.kind ≡ Data) × (bytes ≡ slot_1 tag payload))
slot_of_version tag payload fields bytes (inl newest) is = inl (is ∙ ap (λ (f : List ℕ). with_digest (payload ++ f)) newest)
slot_of_version tag payload fields bytes (inr oldest) is = inr (oldest.0, is ∙ ap (λ (f : List ℕ). with_digest (payload ++ f)) oldest.1)

-- bytes whose last 32 are the digest of those before, which end in the fields of a tag
pub slot_from_parts : (tag : Tag) (bytes : List ℕ) → IsTag tag → 64 ≤ length bytes
    → IsPayloadOf tag.kind (take (length (take (length bytes - 32) bytes) - 32) (take (length bytes - 32) bytes))
    → AreFields tag (drop (length (take (length bytes - 32) bytes) - 32) (take (length bytes - 32) bytes))
    → drop (length bytes - 32) bytes ≡ sha256 (take (length bytes - 32) bytes)
    → IsSlot tag (payload_of bytes) bytes
slot_from_parts tag bytes is long kind fields digest =
    let front = take (length bytes - 32) bytes in
    let behind = drop (length front - 32) front in
    let size : length front ≡ length bytes - 32 = omega (arith, length-take (length bytes - 32) bytes) in
    let body : take (length front - 32) front ≡ payload_of bytes = take-take (length front - 32) (length bytes - 32) bytes (omega arith) ∙ ap (λ (n : ℕ). take n bytes) (omega arith) in
    let whole : front ≡ payload_of bytes ++ behind = sym (take-append-drop (length front - 32) front) ∙ ap (λ (l : List ℕ). l ++ behind) body in
    let sealed : bytes ≡ with_digest (payload_of bytes ++ behind) =
    sym (take-append-drop (length bytes - 32) bytes) ∙ ap (λ (l : List ℕ). front ++ l) digest ∙ ap with_digest whole in
    (is, subst (λ (l : List ℕ). IsPayloadOf tag.kind l) body kind, slot_of_version tag (payload_of bytes) behind bytes fields sealed)

-- bytes that are cut in two ways were cut at the same places
same_fields : (x y f g bytes : List ℕ) → IsCut x f bytes → IsCut y g bytes → f ≡ g
same_fields x y f g bytes a b = sym a.behind ∙ b.behind

-- one tag and one payload
pub one_spelling : (a b : Tag) (x y bytes : List ℕ) → IsSlot a x bytes → IsSlot b y bytes → (a ≡ b) × (x ≡ y)
one_spelling a b x y bytes slot_a slot_b =
    let own = cut_slot a x bytes slot_a in
    let other = cut_slot b y bytes slot_b in
    let same : own.fields ≡ other.fields = same_fields x y own.fields other.fields bytes own.cut other.cut in
    (one_tag a b own.fields slot_a.0 slot_b.0 own.version (subst (λ (f : List ℕ). AreFields b f) (sym same) other.version), sym own.cut.body ∙ other.cut.body)

-- the letters tell the versions apart
pub versions_apart : (a b : Tag) (x y : List ℕ) → slot_1 a x ≡ slot_2 b y → ⊥
versions_apart a b x y same =
    let other = subst (λ (l : List ℕ). IsCut y (fields_2 b) l) (sym same) (cut_spelling y (fields_2 b) refl) in
    let fields : fields_1 a ≡ fields_2 b = same_fields x y (fields_1 a) (fields_2 b) (slot_1 a x) (cut_spelling x (fields_1 a) refl) other in
    let letters : big_number 4 (fields_1 a) ≡ big_number 4 (fields_2 b) = ap (big_number 4) fields in
    let first : big_number 4 (fields_1 a) ≡ 0x534c5431 = big_number-reads_back 4 0x534c5431 (drop 4 (fields_1 a)) (omega arith) in
    let second : big_number 4 (fields_2 b) ≡ 0x534c5432 = big_number-reads_back 4 0x534c5432 (drop 4 (fields_2 b)) (omega arith) in
    omega arith

-- a tag has no ff where its fields begin
first_byte : (tag : Tag) (fields : List ℕ) → AreFields tag fields → IsErased fields → ⊥
first_byte tag fields (inl newest) erased =
    let P : ℕ → Type 0 = λ byte. byte ≡ 255 in
    omega (arith, All-get_or P (fields_2 tag) 0 0 (lit< tt) (All-same P (fields_2 tag) fields (sym newest) erased))
first_byte tag fields (inr oldest) erased =
    let P : ℕ → Type 0 = λ byte. byte ≡ 255 in
    omega (arith, All-get_or P (fields_1 tag) 0 0 (lit< tt) (All-same P (fields_1 tag) fields (sym oldest.1) erased))

-- an erased slot has ff where a tag begins
pub not_erased : (tag : Tag) (payload bytes : List ℕ) → IsSlot tag payload bytes → IsErased bytes → ⊥
not_erased tag payload bytes slot erased =
    let P : ℕ → Type 0 = λ byte. byte ≡ 255 in
    let own = cut_slot tag payload bytes slot in
    let front = take (length bytes - 32) bytes in
    let behind = All-drop P (length front - 32) front (All-take P (length bytes - 32) bytes erased) in
    first_byte tag own.fields own.version (All-same P own.fields _ (sym own.cut.behind) behind)
