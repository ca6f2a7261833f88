-- Slots that were read ahead are read once what they hold is known.
use Rattle.std.proofs.Common.{◌≡◌, ℕ, zero, suc, ◌+◌, ◌*◌, ◌<◌, List, [], ◌∷◌, ◌++◌, length, take, drop, slice_index_or, refl, ap, subst, sym, ◌∙◌, arith, add-zero, length-append}
use Rattle.std.proofs.Math.Nat.{suc-mul}
use Rattle.std.proofs.Math.Seq.{drop-append_seam}
use Rattle.std.specs.Prelude.{Err, IfErr, IfSome, None, Ok, OnOk, Option, Result, Some}
use Rattle.std.specs.Borrow.{Bor}
use Rattle.fa_lanes.specs.Lanes.{message}
use Rattle.fa_tag.specs.OpenedTogether.{AreOpened}
use Rattle.fa_tag.specs.SlotGrammar.{IsOpened}
use Rattle.fa_tag.specs.declared.tag.Opened.{Opened}
use Rattle.std.proofs.lemmas.List.{drop-drop, take_at}
use Rattle.fa_image.specs.Image.{ImageCall, ImageAnswer, ReadingSlot, Gave, Refused}
use Rattle.fa_image.specs.declared.fault.ImageFault.{ImageFault}
use Rattle.fa_mount_scan.specs.ContentReading.{IsContentOf, ReadsSlots, StopsAfter, StopsReading}
use Rattle.fa_mount_scan.specs.ReadingAhead.{ReadsAhead, slot_of}
use Rattle.fa_mount_scan.specs.declared.slots.content.SlotContent.{SlotContent}
use Rattle.fa_mount_scan.specs.declared.slots.content.SlotContent.TheVariants.{Stale}

-- the part behind the first is the first of what is behind it
next_part : (bytes : ℕ) (buffer : List ℕ) (i : ℕ) → slot_of bytes (drop bytes buffer) i ≡ slot_of bytes buffer (suc i)
next_part bytes buffer i =
    let far : bytes + i * bytes ≡ suc i * bytes = omega (arith, suc-mul i bytes) in
    ap (take bytes) (drop-drop (i * bytes) bytes buffer ∙ ap (λ (n : ℕ). drop n buffer) far)

first_part : (bytes : ℕ) (buffer : List ℕ) → slot_of bytes buffer 0 ≡ take bytes buffer
first_part bytes buffer = ap (λ (n : ℕ). take bytes (drop n buffer)) (let none : 0 * bytes ≡ 0 = omega arith in none)

-- what was read ahead, with what each of its parts holds
pub ahead_read : {I : Type 0} (made : I → ImageCall → ImageAnswer → I → Type 0) (pages die bytes first : ℕ) (buffer : List ℕ)
    (contents : List SlotContent) (before after : I) → ReadsAhead made bytes first (length contents) buffer before after
    → ((i : ℕ) → i < length contents → IsContentOf (slot_of bytes buffer i) pages die (first + i) (slice_index_or contents i Stale))
    → ReadsSlots made pages die first contents before after
ahead_read made pages die bytes first buffer [] before after read holds = read
ahead_read made pages die bytes first buffer (content ∷ contents) before after read holds = (
  read.0,
  record {
    bytes = take bytes buffer;
    gave = read.1;
    holds = subst (λ (n : ℕ). IsContentOf (take bytes buffer) pages die n content) (add-zero first)
        (subst (λ (part : List ℕ). IsContentOf part pages die (first + 0) content) (first_part bytes buffer) (holds 0 (omega arith)));
  },
  ahead_read made pages die bytes (suc first) (drop bytes buffer) contents read.0 after read.2
      (λ i lt. subst (λ (part : List ℕ). IsContentOf part pages die (suc first + i) (slice_index_or contents i Stale)) (sym (next_part bytes buffer i))
      (subst (λ (n : ℕ). IsContentOf (slot_of bytes buffer (suc i)) pages die n (slice_index_or contents i Stale)) (omega arith) (holds (suc i) (omega arith)))),
)

-- more slots were read behind others
pub read_behind : {I : Type 0} (made : I → ImageCall → ImageAnswer → I → Type 0) (pages die first : ℕ) (contents more : List SlotContent)
    (before middle after : I) → ReadsSlots made pages die first contents before middle
    → ReadsSlots made pages die (first + length contents) more middle after
    → ReadsSlots made pages die first (contents ++ more) before after
read_behind made pages die first [] more before middle after none second =
    subst (λ (n : ℕ). ReadsSlots made pages die n more before after) (add-zero first)
    (subst (λ x. ReadsSlots made pages die (first + 0) more x after) none second)
read_behind made pages die first (content ∷ contents) more before middle after one second = (
  one.0,
  one.1,
  read_behind made pages die (suc first) contents more one.0 middle after one.2
      (subst (λ (n : ℕ). ReadsSlots made pages die n more middle after) (omega arith) second),
)

-- reading stops among the slots behind others
pub stops_behind : {I : Type 0} (made : I → ImageCall → ImageAnswer → I → Type 0) (pages die : ℕ) (contents : List SlotContent)
    (fault : ImageFault) (before middle after : I) → ReadsSlots made pages die 0 contents before middle
    → StopsAfter made pages die (length contents) fault middle after → StopsReading made pages die fault before after
stops_behind made pages die contents fault before middle after read stops = record {
  contents = contents ++ stops.contents;
  middle = stops.middle;
  read = read_behind made pages die 0 contents stops.contents before middle stops.middle read
      (subst (λ (n : ℕ). ReadsSlots made pages die n stops.contents middle stops.middle) (omega arith) stops.read);
  refused = subst (λ (n : ℕ). made stops.middle (ReadingSlot n) (Refused fault) after) (sym (length-append contents stops.contents)) stops.refused;
}

-- one more slot was read ahead of others
pub one_ahead : {I : Type 0} (made : I → ImageCall → ImageAnswer → I → Type 0) (bytes first next count fewer : ℕ) (part rest : List ℕ)
    (before middle after : I) → next ≡ first + 1 → count ≡ fewer + 1 → length part ≡ bytes → made before (ReadingSlot first) (Gave part) middle
    → ReadsAhead made bytes next fewer rest middle after → ReadsAhead made bytes first count (part ++ rest) before after
one_ahead {I = I} made bytes first next count fewer part rest before middle after is_next is_count size gave read =
    let front : part ≡ take bytes (part ++ rest) = sym (take_at part rest bytes size) in
    let back : rest ≡ drop bytes (part ++ rest) = sym (drop-append_seam part rest) ∙ ap (λ (n : ℕ). drop n (part ++ rest)) size in
    let more : count ≡ suc fewer = omega arith in
    let far : next ≡ suc first = omega arith in
    subst (λ (n : ℕ). ReadsAhead made bytes first n (part ++ rest) before after) (sym more) (
      middle,
      subst (λ (l : List ℕ). made before (ReadingSlot first) (Gave l) middle) front gave,
      subst (λ (n : ℕ). ReadsAhead made bytes n fewer (drop bytes (part ++ rest)) middle after) far
          (subst (λ (l : List ℕ). ReadsAhead made bytes next fewer l middle after) back read),
    )

-- the answer for a slot among those opened together
pub opened_at : (slots : List (Bor (List ℕ))) (opened : List Opened) (i : ℕ) (other : Opened) → AreOpened slots opened → i < length slots
    → IsOpened (message slots i) (slice_index_or opened i other)
opened_at [] [] i other are lt = absurd (omega arith)
opened_at [] (o ∷ opened) i other are lt = elim are [ ]
opened_at (s ∷ slots) [] i other are lt = elim are [ ]
opened_at (s ∷ slots) (o ∷ opened) zero other are lt = are.0
opened_at (s ∷ slots) (o ∷ opened) (suc i) other are lt = opened_at slots opened i other are.1 (omega arith)

-- one more slot was read ahead of others, of which a read was refused
pub more_refused : {I : Type 0} (made : I → ImageCall → ImageAnswer → I → Type 0) (bytes first fewer count : ℕ)
    (fault same : Option ImageFault) (part rest : List ℕ) (before middle after : I) → count ≡ fewer + 1 → same ≡ fault → length part ≡ bytes
    → made before (ReadingSlot first) (Gave part) middle
    → IfSome fault (λ f. (end : I) × ReadsAhead made bytes (first + 1) fewer rest middle end × made end (ReadingSlot (first + 1 + fewer)) (Refused f) after)
    → IfSome same (λ f. (end : I) × ReadsAhead made bytes first count (part ++ rest) before end × made end (ReadingSlot (first + count)) (Refused f) after)
more_refused {I = I} made bytes first fewer count fault same part rest before middle after is_count is_fault size gave refused =
    let P : Option ImageFault → Type 0 =
    λ o. IfSome o (λ f. (end : I) × ReadsAhead made bytes first count (part ++ rest) before end × made end (ReadingSlot (first + count)) (Refused f) after) in
    subst P (sym is_fault) (moved fault refused)
  where
    moved : (o : Option ImageFault)
        → IfSome o (λ f. (end : I) × ReadsAhead made bytes (first + 1) fewer rest middle end × made end (ReadingSlot (first + 1 + fewer)) (Refused f) after)
        → IfSome o (λ f. (end : I) × ReadsAhead made bytes first count (part ++ rest) before end × made end (ReadingSlot (first + count)) (Refused f) after)
    moved None none = none
    moved (Some f) some = (
      some.0,
      one_ahead made bytes first (first + 1) count fewer part rest before middle some.0 refl is_count size gave some.1,
      subst (λ (n : ℕ). made some.0 (ReadingSlot n) (Refused f) after) (omega arith) some.2,
    )

-- what follows for a result from what holds of it
pub on_ok : {A E : Type 0} (P Q : Type 0) (result : Result A E) → (P → Q) → OnOk result P → OnOk result Q
on_ok P Q (Ok a) follows holds = follows holds
on_ok P Q (Err e) follows holds = holds

pub if_err : {A E : Type 0} (P Q : E → Type 0) (result : Result A E) → ((e : E) → P e → Q e) → IfErr result P → IfErr result Q
if_err P Q (Ok a) follows holds = holds
if_err P Q (Err e) follows holds = follows e holds
