-- What the bytes of a header say.
use Rattle.std.proofs.Common.{◌≡◌, ℕ, ◌^◌, ◌<◌, ◌≤◌, Bool, true, false, not, nat_eq, ◌⊎◌, inl, inr, bit_and, List, ◌++◌, take, drop, refl, ap, sym, subst, ◌∙◌, arith}
use Rattle.std.proofs.lemmas.List.{take_at}
use Rattle.byteorder.specs.Endian.{big_number}
use Rattle.byteorder.specs.Numbers.{big_number-reads_back}
use Rattle.std.proofs.Props.{props}
use Rattle.std.proofs.Math.Nat.{pow-le-pow_right}
use Rattle.std.proofs.lemmas.Bool.Decides.{nat_tests}
use Rattle.std.specs.Prelude.{IsTrue, MatchBool, IfOk, IfErr, Result, Ok, Err, Some}
use Rattle.std.specs.Result.{result_ok, OkIff}
use Rattle.std.specs.Int.{bit_at}
use Rattle.fa_types.specs.declared.geometry.GeometryFault.{GeometryFault}
use Rattle.fa_types.specs.declared.geometry.GeometryFault.TheVariants.{Dies, Blocks, Slots, PageBytes, Pages, Copies}
use Rattle.sha2.specs.Sha256.{sha256}
use Rattle.fa_types.specs.Geometry.{IsGeometry, is_page_size, IsFirstFault}
use Rattle.fa_types.specs.declared.geometry.Geometry.{Geometry}
use Rattle.fa_tag.specs.declared.header.Header.{Header}
use Rattle.fa_tag.specs.HeaderGrammar.{IsHeader, SpellsHeader, header_bytes, marks_number, shape_fields, state_fields}

-- the numbers of a geometry, and what its limits say of them
Numbers : Type 0
Numbers = ℕ × ℕ × ℕ × ℕ × ℕ × ℕ

abbrev Fit : Numbers → Type 0
unfolding Numbers
Fit n = IsGeometry n.0 n.1 n.2 n.3 n.4 n.5

abbrev shaped : (n : Numbers) → Fit n → Geometry
unfolding Numbers
shaped n fit = record { dies = n.0; spares = n.1; blocks = n.2; slots = n.3; page_bytes = n.4; pages = n.5; within = fit }

Fit-prop : (n : Numbers) → IsProp (Fit n)
unfolding Numbers
Fit-prop n = hlevel props

same_shape : (m n : Numbers) → m ≡ n → (p : Fit m) (q : Fit n) → shaped m p ≡ shaped n q
same_shape m n e p q = subst (λ (n : Numbers). (q : Fit n) → shaped m p ≡ shaped n q) e (λ (q : Fit m). ap (shaped m) (Fit-prop m p q)) q

-- a geometry is its six numbers
pub same_geometry : (a b : Geometry) → a.dies ≡ b.dies → a.spares ≡ b.spares → a.blocks ≡ b.blocks → a.slots ≡ b.slots
    → a.page_bytes ≡ b.page_bytes → a.pages ≡ b.pages → a ≡ b
unfolding Numbers
same_geometry a b dies spares blocks slots page_bytes pages =
    let m : Numbers = (a.dies, a.spares, a.blocks, a.slots, a.page_bytes, a.pages) in
    let n : Numbers = (b.dies, b.spares, b.blocks, b.slots, b.page_bytes, b.pages) in
    let e : m ≡ n =
    ap (λ (x : ℕ). (x, a.spares, a.blocks, a.slots, a.page_bytes, a.pages)) dies
    ∙ ap (λ (x : ℕ). (b.dies, x, a.blocks, a.slots, a.page_bytes, a.pages)) spares
    ∙ ap (λ (x : ℕ). (b.dies, b.spares, x, a.slots, a.page_bytes, a.pages)) blocks
    ∙ ap (λ (x : ℕ). (b.dies, b.spares, b.blocks, x, a.page_bytes, a.pages)) slots
    ∙ ap (λ (x : ℕ). (b.dies, b.spares, b.blocks, b.slots, x, a.pages)) page_bytes
    ∙ ap (λ (x : ℕ). (b.dies, b.spares, b.blocks, b.slots, b.page_bytes, x)) pages in
    same_shape m n e a.within b.within

-- the marks as they are read from their number
clean_reads : (clean spare : Bool) → not (nat_eq (bit_and (marks_number clean spare) 1) 0) ≡ clean
clean_reads true true = refl
clean_reads true false = refl
clean_reads false true = refl
clean_reads false false = refl

spare_reads : (clean spare : Bool) → not (nat_eq (bit_and (marks_number clean spare) 2) 0) ≡ spare
spare_reads true true = refl
spare_reads true false = refl
spare_reads false true = refl
spare_reads false false = refl

marks_fit : (clean spare : Bool) → marks_number clean spare < 256 ^ 4
marks_fit true true = omega arith
marks_fit true false = omega arith
marks_fit false true = omega arith
marks_fit false false = omega arith

-- what the bytes have at the places of a header's fields
pub record ReadsHeader (bytes : List ℕ) (header : Header) : Type 0 where
  pub die : big_number 4 (drop 12 bytes) ≡ header.die.0
  pub dies : big_number 4 (drop 16 bytes) ≡ header.geometry.dies
  pub spares : big_number 4 (drop 20 bytes) ≡ header.geometry.spares
  pub blocks : big_number 4 (drop 24 bytes) ≡ header.geometry.blocks
  pub slots : big_number 4 (drop 28 bytes) ≡ header.geometry.slots
  pub page_bytes : big_number 4 (drop 32 bytes) ≡ header.geometry.page_bytes
  pub clean : not (nat_eq (bit_and (big_number 4 (drop 36 bytes)) 1) 0) ≡ header.clean
  pub spare : not (nat_eq (bit_and (big_number 4 (drop 36 bytes)) 2) 0) ≡ header.spare
  pub pages : big_number 8 (drop 40 bytes) ≡ header.geometry.pages
  pub epoch : big_number 8 (drop 48 bytes) ≡ header.epoch
  pub mask : big_number 8 (drop 56 bytes) ≡ header.mask
  pub array : take 16 (drop 64 bytes) ≡ header.array

page_size_fits : (n : ℕ) → IsTrue (is_page_size n) → n < 256 ^ 4
page_size_fits n is = grind (arith, nat_tests)

epoch_of_role : (spare : Bool) (epoch : ℕ) (P Q : Type 0) → MatchBool spare ((epoch ≡ 0) × P) ((1 ≤ epoch) × (epoch ≤ 2 ^ 62) × Q) → epoch ≤ 2 ^ 62
epoch_of_role true epoch P Q role = omega (arith, role.0)
epoch_of_role false epoch P Q role = role.1

epoch_fits : (header : Header) → IsHeader header → header.epoch < 256 ^ 8
epoch_fits header is =
    let most : header.epoch ≤ 2 ^ 62 = epoch_of_role header.spare header.epoch (header.mask ≡ 0) (bit_at header.mask header.die.0 ≡ 1) is.role in
    omega arith

mask_fits : (header : Header) → IsHeader header → header.mask < 256 ^ 8
mask_fits header is =
    let most : 2 ^ header.geometry.dies ≤ 2 ^ 64 = pow-le-pow_right (omega arith) header.geometry.within.dies_fit.most in
    omega (arith, is.live_dies)

pub reads_header : (format : ℕ) (header : Header) → IsHeader header → ReadsHeader (header_bytes format header) header
reads_header format header is =
    let limits = header.geometry.within in
    let bytes = header_bytes format header in
    let marks : big_number 4 (drop 36 bytes) ≡ marks_number header.clean header.spare = big_number-reads_back 4 (marks_number header.clean header.spare) (drop 40 bytes) (marks_fit header.clean header.spare) in
    record {
      die = big_number-reads_back 4 header.die.0 (drop 16 bytes) (omega (arith, is.die, limits.dies_fit.most));
      dies = big_number-reads_back 4 header.geometry.dies (drop 20 bytes) (omega (arith, limits.dies_fit.most));
      spares = big_number-reads_back 4 header.geometry.spares (drop 24 bytes) (omega (arith, limits.dies_fit.two_in_use, limits.dies_fit.most));
      blocks = big_number-reads_back 4 header.geometry.blocks (drop 28 bytes) (omega (arith, limits.blocks_fit.1));
      slots = big_number-reads_back 4 header.geometry.slots (drop 32 bytes) (omega (arith, limits.slots_fit.1));
      page_bytes = big_number-reads_back 4 header.geometry.page_bytes (drop 36 bytes) (page_size_fits header.geometry.page_bytes limits.page_fits);
      clean = ap (λ (n : ℕ). not (nat_eq (bit_and n 1) 0)) marks ∙ clean_reads header.clean header.spare;
      spare = ap (λ (n : ℕ). not (nat_eq (bit_and n 2) 0)) marks ∙ spare_reads header.clean header.spare;
      pages = big_number-reads_back 8 header.geometry.pages (drop 48 bytes) (omega (arith, limits.pages_fit.most));
      epoch = big_number-reads_back 8 header.epoch (drop 56 bytes) (epoch_fits header is);
      mask = big_number-reads_back 8 header.mask (drop 64 bytes) (mask_fits header is);
      array = take_at header.array (sha256 (shape_fields format header ++ state_fields header)) 16 is.array;
    }

-- in either format
reads_format : (bytes : List ℕ) (header : Header) → IsHeader header
    → (bytes ≡ header_bytes 2 header) ⊎ (bytes ≡ header_bytes 1 header) → ReadsHeader bytes header
reads_format bytes header is (inl newest) = subst (λ (b : List ℕ). ReadsHeader b header) (sym newest) (reads_header 2 header is)
reads_format bytes header is (inr oldest) = subst (λ (b : List ℕ). ReadsHeader b header) (sym oldest) (reads_header 1 header is)

pub reads_spelled : (bytes : List ℕ) (header : Header) → SpellsHeader header bytes → ReadsHeader bytes header
reads_spelled bytes header spells = reads_format bytes header spells.0 spells.1

-- the number of the format tells the formats apart
pub formats_apart : (a b : Header) → header_bytes 1 a ≡ header_bytes 2 b → ⊥
formats_apart a b same =
    let format : List ℕ → ℕ = λ bytes. big_number 4 (drop 8 bytes) in
    let first : format (header_bytes 1 a) ≡ 1 = big_number-reads_back 4 1 (drop 12 (header_bytes 1 a)) (omega arith) in
    let second : format (header_bytes 2 b) ≡ 2 = big_number-reads_back 4 2 (drop 12 (header_bytes 2 b)) (omega arith) in
    let both : format (header_bytes 1 a) ≡ format (header_bytes 2 b) = ap format same in
    omega arith

-- a geometry's numbers have no fault
no_fault : (g : Geometry) (fault : GeometryFault) → IsFirstFault g.dies g.spares g.blocks g.slots g.page_bytes g.pages fault → ⊥
no_fault g Dies first = first g.within.dies_fit
no_fault g Blocks first = first.1 g.within.blocks_fit
no_fault g Slots first = first.2 g.within.slots_fit
no_fault g PageBytes first = first.3 g.within.page_fits
no_fault g Pages first = first.4 g.within.pages_fit
no_fault g Copies first = first

-- what `Geometry::new` gives of a geometry's numbers
module _ (g : Geometry) (dies spares blocks slots page_bytes pages : ℕ)
    (dies_are : dies ≡ g.dies) (spares_are : spares ≡ g.spares) (blocks_are : blocks ≡ g.blocks) (slots_are : slots ≡ g.slots)
    (page_bytes_are : page_bytes ≡ g.page_bytes) (pages_are : pages ≡ g.pages) where
  pub geometry_found : (r : Result Geometry GeometryFault)
      → IfOk r (λ h. (h.dies ≡ dies) × (h.spares ≡ spares) × (h.blocks ≡ blocks) × (h.slots ≡ slots) × (h.page_bytes ≡ page_bytes) × (h.pages ≡ pages))
      → IfErr r (IsFirstFault dies spares blocks slots page_bytes pages) → result_ok r ≡ Some g
  geometry_found (Ok h) is none = ap Some (same_geometry h g (is.0 ∙ dies_are) (is.1 ∙ spares_are) (is.2 ∙ blocks_are) (is.3 ∙ slots_are) (is.4 ∙ page_bytes_are) (is.5 ∙ pages_are))
  geometry_found (Err fault) none is =
      absurd (no_fault g fault (subst (λ (n : ℕ). IsFirstFault g.dies g.spares g.blocks g.slots g.page_bytes n fault) pages_are
      (subst (λ (n : ℕ). IsFirstFault g.dies g.spares g.blocks g.slots n pages fault) page_bytes_are
      (subst (λ (n : ℕ). IsFirstFault g.dies g.spares g.blocks n page_bytes pages fault) slots_are
      (subst (λ (n : ℕ). IsFirstFault g.dies g.spares n slots page_bytes pages fault) blocks_are
      (subst (λ (n : ℕ). IsFirstFault g.dies n blocks slots page_bytes pages fault) spares_are
      (subst (λ (n : ℕ). IsFirstFault n spares blocks slots page_bytes pages fault) dies_are is)))))))

-- a header is its seven fields
pub same_header : (a b : Header) → a.die.0 ≡ b.die.0 → a.geometry ≡ b.geometry → a.clean ≡ b.clean → a.spare ≡ b.spare
    → a.epoch ≡ b.epoch → a.mask ≡ b.mask → a.array ≡ b.array → a ≡ b
same_header a b die geometry clean spare epoch mask array =
    let E : ℕ → Geometry → Bool → Bool → ℕ → ℕ → List ℕ → Header = λ d g c s e m i. record { die = record { 0 = d }; geometry = g; clean = c; spare = s; epoch = e; mask = m; array = i } in
    ap (λ (d : ℕ). E d a.geometry a.clean a.spare a.epoch a.mask a.array) die
    ∙ ap (λ (g : Geometry). E b.die.0 g a.clean a.spare a.epoch a.mask a.array) geometry
    ∙ ap (λ (c : Bool). E b.die.0 b.geometry c a.spare a.epoch a.mask a.array) clean
    ∙ ap (λ (s : Bool). E b.die.0 b.geometry b.clean s a.epoch a.mask a.array) spare
    ∙ ap (λ (e : ℕ). E b.die.0 b.geometry b.clean b.spare e a.mask a.array) epoch
    ∙ ap (λ (m : ℕ). E b.die.0 b.geometry b.clean b.spare b.epoch m a.array) mask
    ∙ ap (λ (i : List ℕ). E b.die.0 b.geometry b.clean b.spare b.epoch b.mask i) array

-- the bytes of one header are those of no other
pub one_header : (a b : Header) (bytes : List ℕ) → SpellsHeader a bytes → SpellsHeader b bytes → a ≡ b
one_header a b bytes spells_a spells_b =
    let r = reads_spelled bytes a spells_a in
    let s = reads_spelled bytes b spells_b in
    same_header a b (sym r.die ∙ s.die)
    (same_geometry a.geometry b.geometry (sym r.dies ∙ s.dies) (sym r.spares ∙ s.spares) (sym r.blocks ∙ s.blocks) (sym r.slots ∙ s.slots) (sym r.page_bytes ∙ s.page_bytes) (sym r.pages ∙ s.pages))
    (sym r.clean ∙ s.clean) (sym r.spare ∙ s.spare) (sym r.epoch ∙ s.epoch) (sym r.mask ∙ s.mask) (sym r.array ∙ s.array)

-- a number that was taken as a smaller one is that number
pub same_number : {E : Type 0} (r : Result ℕ E) (P : Type 0) (n d : ℕ) → OkIff r P n → Some d ≡ result_ok r → d ≡ n
same_number (Ok x) P n d iff is = cc
same_number (Err e) P n d iff is = cc
