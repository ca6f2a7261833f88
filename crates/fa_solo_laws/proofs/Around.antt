-- A call that serves, with what writes nothing before it and behind it.
use Rattle.fa_types.specs.Store.{Answer, Call, Done, Flushing, Gave, HasCause, Holds, IsCovered, IsCutShort, IsMet, IsUnwritten, IsWritten, IsZeroed}
use Rattle.fa_types.specs.Store.{Reading, Refused, Serves, StopsAfter, Store, Trimming, Writing, Zeroing, bytes_at, whole_length, whole_offset, with_bytes}
use Rattle.fa_types.specs.declared.blocks.BlockFault.{BlockFault}
use Rattle.std.proofs.Common.{Bool, List, ap, false, inl, inr, length, refl, subst, sym, take, true, ℕ, ◌/◌, ◌<◌, ◌∙◌, ◌≡◌}
use Rattle.std.proofs.lemmas.Bool.{cases_Bool, false≢true}
use Rattle.std.specs.Prelude.{replicate, slice_index}

-- The store has the same bytes. More pages may be lost now.
pub record IsKept (before after : Store) : Type 0 where
  pub size : after.size ≡ before.size
  pub page_bytes : after.page_bytes ≡ before.page_bytes
  pub content : after.content ≡ before.content
  pub lost : (page : ℕ) → before.lost page ≡ true → after.lost page ≡ true

pub kept_same : (store : Store) → IsKept store store
kept_same store = record { size = refl; page_bytes = refl; content = refl; lost = λ page is. is }

pub kept_unwritten : (before after : Store) → IsKept before after → IsUnwritten before after
kept_unwritten before after kept = record {
  content = λ i low here. ap (λ (l : List ℕ). slice_index l i) kept.content;
  lost = kept.lost;
}

was_not_lost : (before after : Store) → IsKept before after → (i : ℕ) → after.lost (i / after.page_bytes) ≡ false
    → before.lost (i / before.page_bytes) ≡ false
was_not_lost before after kept i not_lost =
    let here : before.lost (i / after.page_bytes) ≡ false =
    elim (cases_Bool (before.lost (i / after.page_bytes))) [
      | inl lost ↦ absurd (false≢true (sym not_lost ∙ kept.lost (i / after.page_bytes) lost))
      | inr none ↦ none
    ] in
    subst (λ (n : ℕ). before.lost (i / n) ≡ false) kept.page_bytes here

module _ (a b c d : Store) (first : IsKept a b) (last : IsKept c d) where
  holds : (bytes these : List ℕ) → bytes ≡ these → Holds c bytes → Holds d these
  holds bytes these same is i low here =
      ap (λ (l : List ℕ). slice_index l i) last.content
      ∙ is i (subst (λ (n : ℕ). i < n) last.size low) (was_not_lost c d last i here) ∙ ap (λ (l : List ℕ). slice_index l i) same

  unwritten : IsUnwritten b c → IsUnwritten a d
  unwritten is = record {
    content = holds b.content a.content first.content is.content;
    lost = λ page lost. last.lost page (is.lost page (first.lost page lost));
  }

  written : (offset : ℕ) (bytes : List ℕ) → IsWritten b c offset bytes → IsWritten a d offset bytes
  written offset bytes is = record {
    content = holds (with_bytes offset bytes b.content) (with_bytes offset bytes a.content) (ap (with_bytes offset bytes) first.content) is.content;
    lost = λ page lost. elim (is.lost page (first.lost page lost)) [
      | inl still ↦ inl (last.lost page still)
      | inr covered ↦ inr (subst (λ (n : ℕ). IsCovered n offset (length bytes) page) first.page_bytes covered)
    ];
    whole = λ page lost met. subst (λ (n : ℕ). IsCovered n offset (length bytes) page) first.page_bytes
        (is.whole page (first.lost page lost) (subst (λ (n : ℕ). IsMet n offset (length bytes) page) (sym first.page_bytes) met));
  }

  abbrev Causes : BlockFault → Type 0
  Causes fault = (offset len : ℕ) → HasCause c offset len fault → HasCause d offset len fault

  cut_short : (offset : ℕ) (bytes : List ℕ) (fua : Bool) (fault : BlockFault) → Causes fault → IsCutShort b offset bytes fua fault c
      → IsCutShort a offset bytes fua fault d
  cut_short offset bytes fua fault causes (cause, (n, stops, is)) = (
    causes offset (length bytes) cause,
    (n, subst (λ (p : ℕ). StopsAfter p offset (length bytes) fua fault n) first.page_bytes stops, written offset (take n bytes) is),
  )

  zeroed : (offset len : ℕ) (fua : Bool) (answer : Answer) → ((fault : BlockFault) → answer ≡ Refused fault → Causes fault)
      → IsZeroed b offset len fua answer c → IsZeroed a offset len fua answer d
  zeroed offset len fua (Gave bytes) causes is = absurd is
  zeroed offset len fua Done causes is = written offset (replicate len 0) is
  zeroed offset len fua (Refused fault) causes is = cut_short offset (replicate len 0) fua fault (causes fault refl) is

  -- What a refusal rests on is so still behind it.
  pub serves_around : (call : Call) (answer : Answer) → ((fault : BlockFault) → answer ≡ Refused fault → Causes fault) → Serves b call answer c
      → Serves a call answer d
  serves_around (Reading offset len) (Gave bytes) causes is = (
    is.0 ∙ ap (bytes_at offset len) first.content,
    λ page lost met. is.1 page (first.lost page lost) (subst (λ (n : ℕ). IsMet n offset len page) (sym first.page_bytes) met),
    unwritten is.2,
  )
  serves_around (Reading offset len) (Refused fault) causes is = (causes fault refl offset len is.0, unwritten is.1)
  serves_around (Reading offset len) Done causes is = absurd is
  serves_around (Writing offset bytes fua) Done causes is = written offset bytes is
  serves_around (Writing offset bytes fua) (Refused fault) causes is = cut_short offset bytes fua fault (causes fault refl) is
  serves_around (Writing offset bytes fua) (Gave given) causes is = absurd is
  serves_around (Zeroing offset len fua hole) answer causes is = zeroed offset len fua answer causes is
  serves_around (Trimming offset len fua) answer causes is =
      subst (λ (n : ℕ). IsZeroed a (whole_offset n offset) (whole_length n offset len) fua answer d) first.page_bytes
      (zeroed (whole_offset b.page_bytes offset) (whole_length b.page_bytes offset len) fua answer causes is)
  serves_around Flushing Done causes is = unwritten is
  serves_around Flushing (Refused fault) causes is = (causes fault refl 0 0 is.0, unwritten is.1)
  serves_around Flushing (Gave given) causes is = absurd is
