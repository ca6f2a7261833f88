-- The last write of each page, place by place.
use Rattle.std.proofs.Common.{◌≡◌, ◌≢◌, ℕ, ◌+◌, ◌<◌, ◌⊎◌, inl, inr, List, Option, Some, None, option_and_then, slice_get, length}
use Rattle.std.proofs.Common.{refl, sym, ap, subst, ◌∙◌, arith, cond, Bool, true, false, get_or, set, nat_lt}
use Rattle.std.proofs.lemmas.Bool.{cases_eq, cases_lt, lt-ltb, le-ltb}
use Rattle.std.proofs.lemmas.Option.{none-some, same_Some, slice_get_within}
use Rattle.std.proofs.lemmas.List.{get_or_default, get_or-set_same, get_or-set_other}
use Rattle.fa_types.specs.declared.numbers.Page.{Page}
use Rattle.fa_machine.specs.declared.places.Version.{Version}
use Rattle.fa_mount_scan.specs.declared.slots.content.SlotContent.{SlotContent}
use Rattle.fa_mount_scan.specs.declared.slots.content.SlotContent.TheVariants.{Erased, Copy, Stale}
use Rattle.fa_mount_scan.specs.Content.{Contents, HasCopy, IsBefore, IsLastOf, IsLastWrite, NamePages, found_at, slots_on}
use Rattle.fa_mount_scan.specs.ContentMerging.{AreLastBefore, HasCopyBefore, is_newer, last_in, noted}

-- what was found on a die whose slots are known
pub found_on : (contents : Contents) (die slot : ℕ) (slots : List SlotContent) → slots_on contents die ≡ Some slots
    → found_at contents die slot ≡ slice_get slots slot
found_on contents die slot slots on = ap (λ o. option_and_then (λ (l : List SlotContent). slice_get l slot) o) on

-- a die's entry, as it was read
pub die_read : (contents : Contents) (die : ℕ) (entry : Option (List SlotContent)) → die < length contents
    → entry ≡ get_or contents die entry → slots_on contents die ≡ entry
die_read contents die entry within is = get_or_default contents die None entry within ∙ sym is

-- a copy on a die is of a page that the contents may name
pub names_page : (contents : Contents) (die slot pages : ℕ) (slots : List SlotContent) (content : SlotContent)
    → slots_on contents die ≡ Some slots → slice_get slots slot ≡ Some content → NamePages contents pages
    → (page : Page) (version : Version) → content ≡ Copy page version → page.0 < pages
names_page contents die slot pages slots content on found names page version is =
    names die slot page version (found_on contents die slot slots on ∙ found ∙ ap (λ (x : SlotContent). Some x) is)

-- the slots of a die are found in it
pub within_die : (contents : Contents) (die : ℕ) (slots : List SlotContent) → slots_on contents die ≡ Some slots
    → (s : ℕ) (content : SlotContent) → found_at contents die s ≡ Some content → s < length slots
within_die contents die slots on s content found = slice_get_within slots s content (sym (found_on contents die s slots on) ∙ found)

-- nothing is found on a die that was not read
pub nothing_on : (contents : Contents) (die : ℕ) → slots_on contents die ≡ None
    → (s : ℕ) (content : SlotContent) → found_at contents die s ≡ Some content → s < 0
nothing_on contents die on s content found =
    absurd (none-some content (sym (ap (λ o. option_and_then (λ (l : List SlotContent). slice_get l s) o) on) ∙ found))

-- two sets of copies that are the same have the same last write
pub same_last : (P Q : Version → ℕ → ℕ → Type 0) → ((v : Version) (d s : ℕ) → P v d s → Q v d s)
    → ((v : Version) (d s : ℕ) → Q v d s → P v d s) → (last : Option Version) → IsLastOf P last → IsLastOf Q last
same_last P Q to from None is = λ v d s q. is v d s (from v d s q)
same_last P Q to from (Some version) is = record {
  die = is.die;
  slot = is.slot;
  copied = to version is.die is.slot is.copied;
  greatest = λ v d s q. is.greatest v d s (from v d s q);
  lowest = λ v d s q. is.lowest v d s (from v d s q);
}

-- one slot further, a place is before the slot or is the slot
pub one_further : (d s die slot : ℕ) → IsBefore d s die (slot + 1) → IsBefore d s die slot ⊎ ((d ≡ die) × (s ≡ slot))
one_further d s die slot (inl below) = inl (inl below)
one_further d s die slot (inr at) =
    elim (cases_lt s slot) [
      | inl before ↦ inl (inr (at.0, before))
      | inr on ↦ let below = at.1 in inr (at.0, omega (arith, below, on))
    ]

pub before_further : (d s die slot : ℕ) → IsBefore d s die slot → IsBefore d s die (slot + 1)
before_further d s die slot (inl below) = inl below
before_further d s die slot (inr at) = let below = at.1 in inr (at.0, omega (arith, below))

-- no two places are each before the other
pub not_both : (d s die slot : ℕ) → IsBefore d s die slot → IsBefore die slot d s → ⊥
not_both d s die slot (inl a) (inl b) = omega (arith, a, b)
not_both d s die slot (inl a) (inr b) = let same = b.0 in omega (arith, a, same)
not_both d s die slot (inr a) (inl b) = let same = a.0 in omega (arith, same, b)
not_both d s die slot (inr a) (inr b) = let low = a.1 in let high = b.1 in omega (arith, low, high)

pub not_itself : (d s die slot : ℕ) → d ≡ die → s ≡ slot → IsBefore d s die slot → ⊥
not_itself d s die slot here there (inl a) = omega (arith, a, here)
not_itself d s die slot here there (inr a) = let low = a.1 in omega (arith, low, there)

-- One more copy, of which the last write takes note if it is newer.
module _ (P Q : Version → ℕ → ℕ → Type 0) (version : Version) (die slot : ℕ)
    (to : (v : Version) (d s : ℕ) → P v d s → Q v d s)
    (from : (v : Version) (d s : ℕ) → Q v d s → P v d s ⊎ ((v ≡ version) × (d ≡ die) × (s ≡ slot)))
    (before : (v : Version) (d s : ℕ) → P v d s → IsBefore d s die slot)
    (here : Q version die slot) where
  newest : ((v : Version) (d s : ℕ) → P v d s → v.seq.0 < version.seq.0) → IsLastWrite Q version
  newest all = record {
    die = die;
    slot = slot;
    copied = here;
    greatest = λ v d s q. elim (from v d s q) [
      | inl p ↦ let low = all v d s p in omega (arith, low)
      | inr is ↦ let same = ap (λ (w : Version). w.seq.0) is.0 in omega (arith, same)
    ];
    lowest = λ v d s q tied. elim (from v d s q) [
      | inl p ↦ let low = all v d s p in absurd (omega (arith, low, tied))
      | inr is ↦ not_itself d s die slot is.1 is.2
    ];
  }

  pub one_more_copy : (last : Option Version) → IsLastOf P last → IsLastOf Q (cond (is_newer version last) (Some version) last)
  one_more_copy None is = newest (λ v d s p. absurd (is v d s p))
  one_more_copy (Some b) is =
      elim (cases_lt b.seq.0 version.seq.0) [
        | inl newer ↦
            let now : nat_lt b.seq.0 version.seq.0 ≡ true = lt-ltb b.seq.0 version.seq.0 newer in
            subst (λ t. IsLastOf Q (cond t (Some version) (Some b))) (sym now)
            (newest (λ v d s p. let low = is.greatest v d s p in omega (arith, low, newer)))
        | inr older ↦
            let now : nat_lt b.seq.0 version.seq.0 ≡ false = le-ltb b.seq.0 version.seq.0 older in
            subst (λ t. IsLastOf Q (cond t (Some version) (Some b))) (sym now) (record {
              die = is.die;
              slot = is.slot;
              copied = to b is.die is.slot is.copied;
              greatest = λ v d s q. elim (from v d s q) [
                | inl p ↦ is.greatest v d s p
                | inr at ↦ let same = ap (λ (w : Version). w.seq.0) at.0 in omega (arith, same, older)
              ];
              lowest = λ v d s q tied. elim (from v d s q) [
                | inl p ↦ is.lowest v d s p tied
                | inr at ↦ λ earlier. not_both is.die is.slot d s
                    (let there = before b is.die is.slot is.copied in subst (λ x. IsBefore is.die is.slot x s) (sym at.1) (subst (λ y. IsBefore is.die is.slot die y) (sym at.2) there)) earlier
              ];
            })
      ]

pub same_page : (p q : Page) → p.0 ≡ q.0 → p ≡ q
same_page p q is = ap (λ (n : ℕ). let page : Page = record { 0 = n } in page) is

-- The slot behind the places that were looked at.
module _ (contents : Contents) (die slot : ℕ) (slots : List SlotContent) (on : slots_on contents die ≡ Some slots)
    (last : List (Option Version)) (before : AreLastBefore contents die slot last) where
  -- a copy at the next place is what was found there
  at_slot : (content : SlotContent) → slice_get slots slot ≡ Some content → (page : Page) (v : Version) (d s : ℕ)
      → HasCopyBefore contents die (slot + 1) page v d s
      → HasCopyBefore contents die slot page v d s ⊎ ((content ≡ Copy page v) × (d ≡ die) × (s ≡ slot))
  at_slot content found page v d s copy =
      elim (one_further d s die slot copy.1) [
        | inl earlier ↦ inl (copy.0, earlier)
        | inr at ↦
            let there : found_at contents die slot ≡ Some (Copy page v) =
            sym (ap (λ x. found_at contents x slot) at.0) ∙ sym (ap (λ y. found_at contents d y) at.1) ∙ copy.0 in
            inr (same_Some content (Copy page v) (sym found ∙ sym (found_on contents die slot slots on) ∙ there), at.0, at.1)
      ]

  further : (page : Page) (v : Version) (d s : ℕ) → HasCopyBefore contents die slot page v d s → HasCopyBefore contents die (slot + 1) page v d s
  further page v d s copy = (copy.0, before_further d s die slot copy.1)

  -- a page of which there is no copy at the next place has the last write that it had
  none_here : (content : SlotContent) → slice_get slots slot ≡ Some content → (page : Page)
      → ((v : Version) → content ≡ Copy page v → ⊥)
      → IsLastOf (HasCopyBefore contents die (slot + 1) page) (last_in last page.0)
  none_here content found page none =
      same_last (HasCopyBefore contents die slot page) (HasCopyBefore contents die (slot + 1) page) (further page)
      (λ v d s copy. elim (at_slot content found page v d s copy) [ inl earlier ↦ earlier | inr here ↦ absurd (none v here.0) ])
      (last_in last page.0) (before page)

  copy_here : (page : Page) (version : Version) → slice_get slots slot ≡ Some (Copy page version)
      → IsLastOf (HasCopyBefore contents die (slot + 1) page) (cond (is_newer version (last_in last page.0)) (Some version) (last_in last page.0))
  copy_here page version found =
      one_more_copy (HasCopyBefore contents die slot page) (HasCopyBefore contents die (slot + 1) page) version die slot
      (further page)
      (λ v d s copy. elim (at_slot (Copy page version) found page v d s copy) [
        | inl earlier ↦ inl earlier
        | inr here ↦ let same : version ≡ v = (let e = here.0 in cc) in inr (sym same, here.1, here.2)
      ])
      (λ v d s copy. copy.1)
      (found_on contents die slot slots on ∙ found, inr (refl, omega arith))
      (last_in last page.0) (before page)

  written : (page : Page) (version : Version) → page.0 < length last → slice_get slots slot ≡ Some (Copy page version)
      → (b : Bool) → is_newer version (last_in last page.0) ≡ b
      → AreLastBefore contents die (slot + 1) (cond b (set last page.0 (Some version)) last)
  written page version fits found b newer p =
      elim (cases_eq p.0 page.0) [
        | inl same ↦
            let here : p ≡ page = same_page p page same in
            let is = copy_here page version found in
            subst (λ q. IsLastOf (HasCopyBefore contents die (slot + 1) q) (last_in (cond b (set last page.0 (Some version)) last) q.0)) (sym here)
            (subst (λ o. IsLastOf (HasCopyBefore contents die (slot + 1) page) o) (sym (now b newer)) is)
        | inr other ↦
            subst (λ o. IsLastOf (HasCopyBefore contents die (slot + 1) p) o) (sym (apart b other))
            (none_here (Copy page version) found p (λ v e. other (ap (λ (q : Page). q.0) (let h = e in cc))))
      ]
    where
      now : (b : Bool) → is_newer version (last_in last page.0) ≡ b
          → last_in (cond b (set last page.0 (Some version)) last) page.0
          ≡ cond (is_newer version (last_in last page.0)) (Some version) (last_in last page.0)
      now true newer = get_or-set_same last page.0 (Some version) None fits ∙ sym (ap (λ t. cond t (Some version) (last_in last page.0)) newer)
      now false newer = sym (ap (λ t. cond t (Some version) (last_in last page.0)) newer)

      apart : (b : Bool) → p.0 ≢ page.0 → last_in (cond b (set last page.0 (Some version)) last) p.0 ≡ last_in last p.0
      apart true other = get_or-set_other last page.0 p.0 (Some version) None other
      apart false other = refl

  pub noted_slot : (content : SlotContent) → slice_get slots slot ≡ Some content
      → ((page : Page) (version : Version) → content ≡ Copy page version → page.0 < length last)
      → AreLastBefore contents die (slot + 1) (noted content last)
  noted_slot Erased found fits = λ page. none_here Erased found page (λ v e. cc)
  noted_slot Stale found fits = λ page. none_here Stale found page (λ v e. cc)
  noted_slot (Copy page version) found fits = written page version (fits page version refl) found (is_newer version (last_in last page.0)) refl

-- all slots of a die were looked at
pub next_die : (contents : Contents) (die n : ℕ) (last : List (Option Version))
    → ((s : ℕ) (content : SlotContent) → found_at contents die s ≡ Some content → s < n)
    → AreLastBefore contents die n last → AreLastBefore contents (die + 1) 0 last
next_die contents die n last within before = λ page.
    same_last (HasCopyBefore contents die n page) (HasCopyBefore contents (die + 1) 0 page)
    (λ v d s copy. (copy.0, to d s copy.1))
    (λ v d s copy. (copy.0, from page v d s copy.0 copy.1))
    (last_in last page.0) (before page)
  where
    to : (d s : ℕ) → IsBefore d s die n → IsBefore d s (die + 1) 0
    to d s (inl below) = inl (omega (arith, below))
    to d s (inr at) = let here = at.0 in inl (omega (arith, here))

    from : (page : Page) (v : Version) (d s : ℕ) → HasCopy contents page v d s → IsBefore d s (die + 1) 0 → IsBefore d s die n
    from page v d s copy (inr at) = let low = at.1 in absurd (omega (arith, low))
    from page v d s copy (inl below) =
        elim (cases_lt d die) [
          | inl lower ↦ inl lower
          | inr on ↦
              let same : d ≡ die = omega (arith, below, on) in
              inr (same, within s (Copy page v) (sym (ap (λ x. found_at contents x s) same) ∙ copy))
        ]

-- before any place there is no copy
pub none_before : (contents : Contents) (last : List (Option Version)) → ((page : ℕ) → last_in last page ≡ None)
    → AreLastBefore contents 0 0 last
none_before contents last none = λ page.
    subst (λ o. IsLastOf (HasCopyBefore contents 0 0 page) o) (sym (none page.0)) (λ v d s copy. nowhere d s copy.1)
  where
    nowhere : (d s : ℕ) → IsBefore d s 0 0 → ⊥
    nowhere d s (inl below) = omega (arith, below)
    nowhere d s (inr at) = let low = at.1 in omega (arith, low)
