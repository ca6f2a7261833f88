-- The links that are written in slots' rows, as the links of a page's chain change.
use Rattle.std.proofs.Common.{◌≡◌, ◌⊎◌, ℕ, ◌+◌, ◌*◌, ◌<◌, ◌≤◌, Bool, true, false, List, Option, Some, None, ap, arith, inl, inr, length, refl, replicate, set, sym, subst, ◌∙◌}
use Rattle.std.specs.Prelude.{if◌then◌else◌, is_some}
use Rattle.std.proofs.lemmas.Bool.{cases_Bool, cases_eq, false≢true}
use Rattle.std.proofs.lemmas.List.{get_or-set_other, length-set}
use Rattle.fa_map.specs.Chains.{AreSeconds, AreWritten, IsChained, IsNext, IsSecond}
use Rattle.fa_map.specs.Chains.{entry_of, follower, link_at, link_from, no_link, second_at, target}
use Rattle.fa_map.specs.Entries.{is_current_entry, rewritten, with_first_two, with_link}
use Rattle.fa_map.specs.declared.entries.Entry.{Entry}
use Rattle.fa_map.specs.declared.entries.Entry.TheVariants.{Current}
use Rattle.fa_map.specs.declared.entries.Link.{Link}
use Rattle.fa_map.specs.declared.entries.Second.{Second}
use Rattle.fa_map.proofs.Chained.{before_none, next_low, same_page, same_place, some_place}
use Rattle.fa_map_calls.proofs.Changed.{place_cases}
use Rattle.fa_map_calls.proofs.Indices.{index_apart}
use Rattle.fa_map.proofs.Renewed.{IsHolder, follower_apart, follower_written, is_place, next_holder}
use Rattle.fa_map.proofs.Tallied.{entry_other, entry_same}

nothing : (o : Option (ℕ × ℕ)) → is_some o ≡ false → o ≡ None
nothing None e = refl
nothing (Some place) e = absurd (false≢true (sym e))

-- nothing stands behind the second place of a page with no third
pub no_third : (links : List Link) (n : ℕ) (first : Option (ℕ × ℕ)) (second : Second) → IsSecond links n first second → second.more ≡ false
    → (d s : ℕ) → target second.place ≡ some_place d s → link_from links n d s ≡ None
no_third links n first second kept none d s at =
    nothing (link_from links n d s) (sym (kept.more ∙ ap (λ (o : Option (ℕ × ℕ)). is_some (follower links n o)) at) ∙ none)

-- a page with no third copy is held by its first two places alone
pub two_holders : (st : ℕ → ℕ → Entry) (n dies pages page : ℕ) (links heads : List Link) (second : Second)
    → IsChained st (link_at heads) (link_from links n) n dies pages → IsSecond links n (link_at heads page) second → second.more ≡ false
    → (d s : ℕ) → s < n → st d s ≡ Current page → (link_at heads page ≡ some_place d s) ⊎ (target second.place ≡ some_place d s)
two_holders st n dies pages page links heads second chained kept none d s within is =
    let first = next_low st n dies page 0 (link_at heads page) leads d s (omega arith) within is in
    from_first first.0 first.1 first.2 first.3
  where
    leads : IsNext st n dies page 0 (link_at heads page)
    leads = chained.heads page (chained.fits d s page within is).1

    alike : (d0 s0 : ℕ) → d ≡ d0 → s0 < n → st d0 s0 ≡ Current page → (o : Option (ℕ × ℕ)) → o ≡ some_place d0 s0 → o ≡ some_place d s
    alike d0 s0 same fits held o e =
        let slot : s0 ≡ s = chained.once d0 s0 s page fits within held ((λ i. st (sym same i) s) ∙ is) in
        e ∙ (λ i. some_place (sym same i) (slot i))

    from_second : (d1 s1 : ℕ) → target second.place ≡ some_place d1 s1 → d1 ≤ d → s1 < n → st d1 s1 ≡ Current page
        → target second.place ≡ some_place d s
    from_second d1 s1 at early fits held =
        elim (cases_eq d d1) [
          | inl same ↦ alike d1 s1 same fits held (target second.place) at
          | inr past ↦ absurd ((chained.links d1 s1 page fits held).between d s (omega (arith, past, early)) within
              (before_none d (link_from links n d1 s1) (no_third links n (link_at heads page) second kept none d1 s1 at)) is)
        ]

    behind_first : (d0 s0 d1 s1 : ℕ) → link_at heads page ≡ some_place d0 s0 → link_from links n d0 s0 ≡ some_place d1 s1
        → target second.place ≡ some_place d1 s1
    behind_first d0 s0 d1 s1 at next = kept.place ∙ ap (follower links n) at ∙ next

    from_first : (d0 s0 : ℕ) → link_at heads page ≡ some_place d0 s0 → d0 ≤ d
        → (link_at heads page ≡ some_place d s) ⊎ (target second.place ≡ some_place d s)
    from_first d0 s0 at early =
        let held = leads.found d0 s0 at in
        elim (cases_eq d d0) [
          | inl same ↦ inl (alike d0 s0 same held.2 held.3 (link_at heads page) at)
          | inr apart ↦
              let follows = chained.links d0 s0 page held.2 held.3 in
              let next = next_low st n dies page (d0 + 1) (link_from links n d0 s0) follows d s (omega (arith, apart, early)) within is in
              let also = follows.found next.0 next.1 next.2 in
              inr (from_second next.0 next.1 (behind_first d0 s0 next.0 next.1 at next.2) next.3 also.2 also.3)
        ]

-- nothing stands behind a copy of such a page that is not its first
pub last_holder : (st : ℕ → ℕ → Entry) (n dies pages page : ℕ) (links heads : List Link) (second : Second)
    → IsChained st (link_at heads) (link_from links n) n dies pages → IsSecond links n (link_at heads page) second → second.more ≡ false
    → (d s : ℕ) → s < n → st d s ≡ Current page → (link_at heads page ≡ some_place d s → ⊥) → link_from links n d s ≡ None
last_holder st n dies pages page links heads second chained kept none d s within is off =
    elim (two_holders st n dies pages page links heads second chained kept none d s within is) [
      | inl at ↦ absurd (off at)
      | inr at ↦ no_third links n (link_at heads page) second kept none d s at
    ]

-- the link of a place's slot, where the one of another place was written
other_link : (n : ℕ) (place : Option (ℕ × ℕ)) (link : Link) (links : List Link) (d s : ℕ) → s < n → ((e t : ℕ) → place ≡ Some (e, t) → t < n)
    → (place ≡ some_place d s → ⊥) → link_from (with_link place n link links) n d s ≡ link_from links n d s
other_link n place link links d s within fits off =
    follower_apart n place (some_place d s) link links fits (λ e t at. subst (λ k. k < n) (same_place d s e t at).1 within)
    (λ e t a b. off (a ∙ sym b))

-- and where it was its own
own_link : (dies n : ℕ) (place : Option (ℕ × ℕ)) (link : Link) (links : List Link) (d s : ℕ) → length links ≡ dies * n → d < dies → s < n
    → place ≡ some_place d s → link_from (with_link place n link links) n d s ≡ target link
own_link dies n place link links d s long low within at =
    ap (λ (o : Option (ℕ × ℕ)). link_from (with_link o n link links) n d s) at ∙ follower_written dies n d s link links long low within

length-with_link : (n : ℕ) (place : Option (ℕ × ℕ)) (link : Link) (links : List Link) → length (with_link place n link links) ≡ length links
length-with_link n None link links = refl
length-with_link n (Some place) link links = length-set links (place.0 * n + place.1) link

length-first_two : (n : ℕ) (first : Option (ℕ × ℕ)) (second : Second) (written : List Link)
    → length (with_first_two first n second written) ≡ length written
length-first_two n first second written = by_more second.more
  where
    by_more : (b : Bool)
        → length (if b then written else with_link (target second.place) n no_link (with_link first n second.place written)) ≡ length written
    by_more true = refl
    by_more false =
        length-with_link n (target second.place) no_link (with_link first n second.place written) ∙ length-with_link n first second.place written

pub length-rewritten : (n : ℕ) (first last : Option (ℕ × ℕ)) (link : Link) (second : Second) (more : Bool) (written : List Link)
    → length (rewritten first last n link second more written) ≡ length written
length-rewritten n first last link second true written =
    length-with_link n last link (with_first_two first n second written) ∙ length-first_two n first second written
length-rewritten n first last link second false written = refl

-- the place, if there is one, has one of a die's n slots
abbrev HasSlot : ℕ → Option (ℕ × ℕ) → Type 0
HasSlot n place = (d s : ℕ) → place ≡ Some (d, s) → s < n

module _ (dies n : ℕ) (first last : Option (ℕ × ℕ)) (link : Link) (second : Second) (links written : List Link) (d s : ℕ) (within : s < n)
    (first_fits : HasSlot n first) (second_fits : HasSlot n (target second.place)) (last_fits : HasSlot n last) where
  -- what is written once the first two places' links are, and of a page that had no third
  abbrev two : List Link
  two = with_first_two first n second written

  abbrev both : List Link
  both = with_link (target second.place) n no_link (with_link first n second.place written)

  -- what is written of a slot that is none of these
  written_apart : (more : Bool) → (first ≡ some_place d s → ⊥) → (target second.place ≡ some_place d s → ⊥) → (last ≡ some_place d s → ⊥)
      → link_from (rewritten first last n link second more written) n d s ≡ link_from written n d s
  written_apart false a b c = refl
  written_apart true a b c =
      other_link n last link two d s within last_fits c ∙ by_more second.more
    where
      by_more : (b : Bool) → link_from (if b then written else both) n d s ≡ link_from written n d s
      by_more true = refl
      by_more false =
          other_link n (target second.place) no_link (with_link first n second.place written) d s within second_fits b
          ∙ other_link n first second.place written d s within first_fits a

  -- what is written of a slot agrees with its link, if it did, or if it is one of the first two places of a page that had no third
  pub written_agrees : (more : Bool) → more ≡ true → length links ≡ dies * n → length written ≡ dies * n → d < dies → IsSecond links n first second
      → (link_from written n d s ≡ link_from links n d s)
      ⊎ ((second.more ≡ false) × ((first ≡ some_place d s) ⊎ (target second.place ≡ some_place d s)))
      → link_from (rewritten first last n link second more written) n d s ≡ link_from (with_link last n link links) n d s
  written_agrees false is long as_long low kept told = absurd (false≢true is)
  written_agrees true is long as_long low kept told =
      elim (is_place last d s) [
        | inl at ↦ own_link dies n last link two d s (length-first_two n first second written ∙ as_long) low within at
            ∙ sym (own_link dies n last link links d s long low within at)
        | inr off ↦ other_link n last link two d s within last_fits off ∙ by_more second.more refl
            ∙ sym (other_link n last link links d s within last_fits off)
      ]
    where
      old : (second.more ≡ true) ⊎ ((first ≡ some_place d s → ⊥) × (target second.place ≡ some_place d s → ⊥))
          → link_from written n d s ≡ link_from links n d s
      old why = elim told [
        | inl agrees ↦ agrees
        | inr those ↦ elim why [
          | inl more ↦ absurd (false≢true (sym those.0 ∙ more))
          | inr none ↦ elim those.1 [ inl at ↦ absurd (none.0 at) | inr at ↦ absurd (none.1 at) ]
        ]
      ]

      by_more : (b : Bool) → second.more ≡ b → link_from (if b then written else both) n d s ≡ link_from links n d s
      by_more true e = old (inl e)
      by_more false e = elim (is_place (target second.place) d s) [
        | inl at ↦
            own_link dies n (target second.place) no_link (with_link first n second.place written) d s
            (length-with_link n first second.place written ∙ as_long) low within at
            ∙ sym (no_third links n first second kept e d s at)
        | inr off ↦
            other_link n (target second.place) no_link (with_link first n second.place written) d s within second_fits off
            ∙ elim (is_place first d s) [
              | inl at ↦ own_link dies n first second.place written d s as_long low within at ∙ kept.place ∙ ap (follower links n) at
              | inr away ↦ other_link n first second.place written d s within first_fits away ∙ old (inr (away, off))
            ]
      ]

-- no link was written yet
pub new_written : (entries : List Entry) (links written : List Link) (seconds : List Second) (n count : ℕ) → links ≡ replicate count no_link
    → written ≡ replicate count no_link → AreWritten entries links written seconds n
new_written entries links written seconds n count a b = record {
  long = ap length b ∙ sym (ap length a);
  same = λ page die slot within is more. ap (λ (l : List Link). link_from l n die slot) (b ∙ sym a);
}

-- a slot that holds a page, after one came to hold none, held it before
pub stood : (entries : List Entry) (n die slot : ℕ) (e : Entry) → die * n + slot < length entries → slot < n → is_current_entry e ≡ false
    → (page d s : ℕ) → s < n → entry_of (set entries (die * n + slot) e) n d s ≡ Current page → entry_of entries n d s ≡ Current page
stood entries n die slot e fits low plain page d s within is =
    elim (place_cases d s die slot) [
      | inl at ↦ absurd (false≢true (sym plain ∙ ap is_current_entry (sym (entry_same entries n die slot d s e fits at.0 at.1) ∙ is)))
      | inr apart ↦ sym (entry_other entries n die slot d s e low within apart) ∙ is
    ]

-- entries in which a slot holds no page that it did not hold before
pub written_alike : (entries entries' : List Entry) (links links' written written' : List Link) (seconds : List Second) (n : ℕ)
    → ((page d s : ℕ) → s < n → entry_of entries' n d s ≡ Current page → entry_of entries n d s ≡ Current page) → links' ≡ links
    → written' ≡ written → AreWritten entries links written seconds n → AreWritten entries' links' written' seconds n
written_alike entries entries' links links' written written' seconds n from a b old =
    subst (λ l. AreWritten entries' l written' seconds n) (sym a) (subst (λ l. AreWritten entries' links l seconds n) (sym b) (record {
      long = old.long;
      same = λ page d s within is more. old.same page d s within (from page d s within is) more;
    }))

-- a slot that holds no copy, of which the link is set and written
pub written_free : (entries : List Entry) (links written : List Link) (seconds : List Second) (n die slot : ℕ) (link : Link) → slot < n
    → ((page : ℕ) → entry_of entries n die slot ≡ Current page → ⊥) → AreWritten entries links written seconds n
    → AreWritten entries (set links (die * n + slot) link) (set written (die * n + slot) link) seconds n
written_free entries links written seconds n die slot link low free old = record {
  long = length-set written (die * n + slot) link ∙ old.long ∙ sym (length-set links (die * n + slot) link);
  same = λ page d s within is more.
      let off : d * n + s ≡ die * n + slot → ⊥ =
      λ k. let at = index_apart d s die slot n within low k in free page ((λ i. entry_of entries n (sym at.0 i) (sym at.1 i)) ∙ is) in
      ap target (get_or-set_other written (die * n + slot) (d * n + s) link no_link off) ∙ old.same page d s within is more
      ∙ sym (ap target (get_or-set_other links (die * n + slot) (d * n + s) link no_link off));
}

-- One page's chain gets other links, and what is kept of its second place was renewed. What is written follows.
module _ (entries : List Entry) (n dies pages page : ℕ) (links own heads : List Link) (seconds seconds' : List Second)
    (chained : IsChained (entry_of entries n) (link_at heads) (link_from links n) n dies pages) (known : page < pages)
    (was : AreSeconds links heads seconds n pages) (kept : IsSecond own n (link_at heads page) (second_at seconds page))
    (long : length own ≡ dies * n) (last : Option (ℕ × ℕ)) (link : Link)
    (holds : (d s : ℕ) → last ≡ Some (d, s) → (d < dies) × (s < n) × (entry_of entries n d s ≡ Current page))
    (others : (p : ℕ) → (p ≡ page → ⊥) → second_at seconds' p ≡ second_at seconds p) (written : List Link)
    (agreed : AreWritten entries own written seconds n) where
  abbrev st : ℕ → ℕ → Entry
  st = entry_of entries n

  abbrev first : Option (ℕ × ℕ)
  first = link_at heads page

  abbrev second : Second
  second = second_at seconds page

  abbrev now : List Link
  now = rewritten first last n link second (second_at seconds' page).more written

  first_held : IsHolder st n dies page 0 first
  first_held = (chained.heads page known).found

  second_held : IsHolder st n dies page 0 (target second.place)
  second_held = subst (IsHolder st n dies page 0) (sym (was.behind page known).place)
      (next_holder st n dies pages page 0 (link_at heads) links first chained first_held)

  pub rewritten_long : length now ≡ length (with_link last n link own)
  rewritten_long = length-rewritten n first last link second (second_at seconds' page).more written ∙ agreed.long ∙ sym (length-with_link n last link own)

  -- a slot that may hold no copy of the page so far, and of which the link is written
  pub rewritten_new : (d s : ℕ) → d < dies → s < n → link_from written n d s ≡ link_from own n d s → (second_at seconds' page).more ≡ true
      → link_from now n d s ≡ link_from (with_link last n link own) n d s
  rewritten_new d s low within agrees more =
      written_agrees dies n first last link second own written d s within (λ e t at. (first_held e t at).2) (λ e t at. (second_held e t at).2)
      (λ e t at. (holds e t at).1) (second_at seconds' page).more more long (agreed.long ∙ long) low kept (inl agrees)

  pub rewritten_old : (p d s : ℕ) → s < n → st d s ≡ Current p → (second_at seconds' p).more ≡ true
      → link_from now n d s ≡ link_from (with_link last n link own) n d s
  rewritten_old p d s within is more =
      elim (cases_eq p page) [
        | inr apart ↦
            written_apart dies n first last link second own written d s within (λ e t at. (first_held e t at).2) (λ e t at. (second_held e t at).2)
            (λ e t at. (holds e t at).1) (second_at seconds' page).more (λ at. apart (same_page p page (sym is ∙ (first_held d s at).3)))
            (λ at. apart (same_page p page (sym is ∙ (second_held d s at).3))) (λ at. apart (same_page p page (sym is ∙ (holds d s at).2)))
            ∙ agreed.same p d s within is (sym (ap (λ (k : Second). k.more) (others p apart)) ∙ more)
            ∙ sym (other_link n last link own d s within (λ e t at. (holds e t at).1) (λ at. apart (same_page p page (sym is ∙ (holds d s at).2))))
        | inl same ↦ of_page (is ∙ ap Current same) (sym (ap (λ (q : ℕ). (second_at seconds' q).more) same) ∙ more)
      ]
    where
      of_page : st d s ≡ Current page → (second_at seconds' page).more ≡ true → link_from now n d s ≡ link_from (with_link last n link own) n d s
      of_page held more' =
          written_agrees dies n first last link second own written d s within (λ e t at. (first_held e t at).2) (λ e t at. (second_held e t at).2)
          (λ e t at. (holds e t at).1) (second_at seconds' page).more more' long (agreed.long ∙ long) (chained.fits d s page within held).0 kept
          (elim (cases_Bool second.more) [
            | inl three ↦ inl (agreed.same page d s within held three)
            | inr two ↦ inr (two, two_holders st n dies pages page links heads second chained (was.behind page known) two d s within held)
          ])

  -- once no slot came to hold the page
  pub written_kept : AreWritten entries (with_link last n link own) now seconds' n
  written_kept = record { long = rewritten_long; same = rewritten_old }

  -- once a slot, of which the link is written, came to hold it
  pub written_added : (die slot : ℕ) → die < dies → slot < n → die * n + slot < length entries → link_from written n die slot ≡ link_from own n die slot
      → AreWritten (set entries (die * n + slot) (Current page)) (with_link last n link own) now seconds' n
  written_added die slot low within fits agrees = record {
    long = rewritten_long;
    same = λ p d s inside is more. elim (place_cases d s die slot) [
      | inl at ↦
          rewritten_new d s (subst (λ k. k < dies) (sym at.0) low) inside
          ((λ i. link_from written n (at.0 i) (at.1 i)) ∙ agrees ∙ (λ i. link_from own n (sym at.0 i) (sym at.1 i)))
          (ap (λ (q : ℕ). (second_at seconds' q).more) (of_page p d s at.0 at.1 is) ∙ more)
      | inr apart ↦ rewritten_old p d s inside (sym (entry_other entries n die slot d s (Current page) within inside apart) ∙ is) more
    ];
  }
    where
      of_page : (p d s : ℕ) → d ≡ die → s ≡ slot → entry_of (set entries (die * n + slot) (Current page)) n d s ≡ Current p → page ≡ p
      of_page p d s a b is = same_page page p (sym (entry_same entries n die slot d s (Current page) fits a b) ∙ is)
