-- Sealed bytes are cut into the parts that the slot was made of.
use Rattle.std.proofs.Common.{◌≡◌, ◌∙◌, refl, sym, ap, subst, ℕ, ◌-◌, List, length, take, drop, arith}
use Rattle.std.proofs.lemmas.Bool.{false≢true}
use Rattle.sha2.specs.Sha256.{sha256}
use Rattle.fa_tag.specs.declared.tag.Tag.{Tag}
use Rattle.fa_tag.specs.SlotGrammar.{IsPayloadOf, AreFields}
use Rattle.fa_tag.proofs.Slots.{IsCutSlot, cut_slot, slot_from_parts}
use Rattle.fa_tag.proofs.tag.sealed_tag.Goals.{else-is_payload_of-via-then-is_payload_of+else-is_made_digest_of, else-is_payload_of-via-else-is_payload_of}
use Rattle.fa_tag.proofs.tag.sealed_tag.Goals as goal

-- the fields of a slot stand behind its front's payload
module _ (tag : Tag) (payload bytes front fields : List ℕ) (own : IsCutSlot tag payload bytes)
    (is_front : front ≡ take (length bytes - 32) bytes) where
  fields_are : fields ≡ drop (length front - 32) front → AreFields tag fields
  fields_are behind =
      subst (λ (f : List ℕ). AreFields tag f) (sym (behind ∙ ap (λ (l : List ℕ). drop (length l - 32) l) is_front ∙ own.cut.behind)) own.version

  payload_is : (piece : List ℕ) → piece ≡ take (length front - 32) front → piece ≡ payload
  payload_is piece before = before ∙ ap (λ (l : List ℕ). take (length l - 32) l) is_front ∙ own.cut.before

  digest_is : (digest : List ℕ) → digest ≡ drop (length bytes - 32) bytes → digest ≡ sha256 front
  digest_is digest behind = behind ∙ own.cut.digest ∙ sym (ap sha256 (is_front ∙ own.cut.front))

pub returns-then-bytes-lt-TAG_BYTES-clause-only : goal.returns-then-bytes-lt-TAG_BYTES-clause-only
returns-then-bytes-lt-TAG_BYTES-clause-only c tag payload slot =
    let own = cut_slot tag payload c.args.bytes.now slot in
    absurd (omega (arith, own.cut.size))

pub returns-in_err-tag-clause-only : goal.returns-in_err-tag-clause-only
returns-in_err-tag-clause-only c tag payload slot =
    let own = cut_slot tag payload c.args.bytes.now slot in
    let none = c.in_err-tag.ensures.only tag slot.0 (fields_are tag payload c.args.bytes.now c.split_at.result.0.now c.split_at-2.result.1.now own c.split_at.ensures.front c.split_at-2.ensures.back) in
    cc none

pub returns-then-is_made_digest_of-clause-found : goal.returns-then-is_made_digest_of-clause-found
returns-then-is_made_digest_of-clause-found c =
    let bytes = c.args.bytes.now in
    let tag = c.in_ok-tag.tag in
    let front : c.split_at.result.0.now ≡ take (length bytes - 32) bytes = c.split_at.ensures.front in
    let before = c.split_at-2.ensures.front ∙ ap (λ (l : List ℕ). take (length l - 32) l) front in
    let behind = c.split_at-2.ensures.back ∙ ap (λ (l : List ℕ). drop (length l - 32) l) front in
    let digest = sym c.split_at.ensures.back ∙ c.if-is_made_digest_of.ensures.0 refl ∙ ap sha256 front in
    slot_from_parts tag bytes c.in_ok-tag.ensures.found.0 (omega arith)
    (subst (λ (l : List ℕ). IsPayloadOf tag.kind l) before (c.if-is_payload_of.ensures.0 refl))
    (subst (λ (l : List ℕ). AreFields tag l) behind c.in_ok-tag.ensures.found.1)
    digest

pub returns-then-is_made_digest_of-clause-only : goal.returns-then-is_made_digest_of-clause-only
returns-then-is_made_digest_of-clause-only c tag payload slot =
    let own = cut_slot tag payload c.args.bytes.now slot in
    c.in_ok-tag.ensures.only tag slot.0 (fields_are tag payload c.args.bytes.now c.split_at.result.0.now c.split_at-2.result.1.now own c.split_at.ensures.front c.split_at-2.ensures.back)

pub returns-else-is_payload_of-clause-only : goal.returns-else-is_payload_of-clause-only
returns-else-is_payload_of-clause-only c tag payload slot =
    let bytes = c.args.bytes.now in
    let front = c.split_at.result.0.now in
    let own = cut_slot tag payload bytes slot in
    let found = c.in_ok-tag.ensures.only tag slot.0 (fields_are tag payload bytes front c.split_at-2.result.1.now own c.split_at.ensures.front c.split_at-2.ensures.back) in
    let same : tag ≡ c.in_ok-tag.tag = cc found in
    let piece = payload_is tag payload bytes front c.split_at-2.result.1.now own c.split_at.ensures.front c.split_at-2.result.0.now c.split_at-2.ensures.front in
    let kind : IsPayloadOf c.in_ok-tag.tag.kind payload = subst (λ (t : Tag). IsPayloadOf t.kind payload) same slot.1 in
    elim c.else-is_payload_of.branch [
      | else-is_payload_of-via-then-is_payload_of+else-is_made_digest_of w ↦
          absurd (false≢true (w.if-is_made_digest_of.ensures.1 (digest_is tag payload bytes front front own c.split_at.ensures.front c.split_at.result.1.now c.split_at.ensures.back)))
      | else-is_payload_of-via-else-is_payload_of w ↦
          absurd (false≢true (w.if-is_payload_of.ensures.1 (subst (λ (l : List ℕ). IsPayloadOf c.in_ok-tag.tag.kind l) (sym piece) kind)))
    ]
