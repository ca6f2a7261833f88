-- What is kept of a page's second place, once a link of the page's chain was written.
use Rattle.std.proofs.Common.{◌≡◌, ◌⊎◌, ℕ, ◌+◌, ◌*◌, ◌<◌, ◌≤◌, Bool, List, Option, Some, None, ap, arith, inl, inr, length, refl, set, subst, sym, ◌∙◌}
use Rattle.std.specs.Prelude.{is_some}
use Rattle.std.proofs.lemmas.List.{get_or-set_same, get_or-set_other}
use Rattle.std.proofs.lemmas.Option.{none-some}
use Rattle.fa_map.specs.Chains.{AreInside, IsChained, IsInside, IsSecond}
use Rattle.fa_map.specs.Chains.{follower, link_at, link_from, no_link, place_of, target}
use Rattle.fa_map.specs.Entries.{with_head, with_link}
use Rattle.fa_map.specs.declared.entries.Entry.{Entry}
use Rattle.fa_map.specs.declared.entries.Entry.TheVariants.{Current}
use Rattle.fa_map.specs.declared.entries.Link.{Link}
use Rattle.fa_map.specs.declared.entries.Second.{Second}
use Rattle.fa_map.proofs.Chained.{same_place, some_place}
use Rattle.fa_map_calls.proofs.Changed.{place_cases}
use Rattle.fa_map_calls.proofs.Indices.{index_apart, index_fits}

-- what stands behind a place is as it was, where the link behind another place was written
pub follower_apart : (n : ℕ) (last place : Option (ℕ × ℕ)) (link : Link) (links : List Link) → ((d s : ℕ) → last ≡ Some (d, s) → s < n)
    → ((d s : ℕ) → place ≡ Some (d, s) → s < n) → ((d s : ℕ) → last ≡ Some (d, s) → place ≡ Some (d, s) → ⊥)
    → follower (with_link last n link links) n place ≡ follower links n place
follower_apart n None place link links a b off = refl
follower_apart n (Some (d0, s0)) None link links a b off = refl
follower_apart n (Some (d0, s0)) (Some (d, s)) link links a b off =
    ap target (get_or-set_other links (d0 * n + s0) (d * n + s) link no_link
    (λ e. let at = index_apart d s d0 s0 n (b d s refl) (a d0 s0 refl) e in off d0 s0 refl (λ i. some_place (at.0 i) (at.1 i))))

-- behind a place stands what was written there
pub follower_written : (dies n d s : ℕ) (link : Link) (links : List Link) → length links ≡ dies * n → d < dies → s < n
    → follower (with_link (some_place d s) n link links) n (some_place d s) ≡ target link
follower_written dies n d s link links long a b =
    ap target (get_or-set_same links (d * n + s) link no_link (subst (λ k. d * n + s < k) (sym long) (index_fits d s dies n a b)))

-- the place, if there is one, is on a die from one on, and its slot holds the page
abbrev pub IsHolder : (ℕ → ℕ → Entry) → ℕ → ℕ → ℕ → ℕ → Option (ℕ × ℕ) → Type 0
IsHolder st n dies page from place = (d s : ℕ) → place ≡ Some (d, s) → (from ≤ d) × (d < dies) × (s < n) × (st d s ≡ Current page)

-- behind a place of a page's chain the dies are higher
pub next_holder : (st : ℕ → ℕ → Entry) (n dies pages page from : ℕ) (head : ℕ → Option (ℕ × ℕ)) (links : List Link) (place : Option (ℕ × ℕ))
    → IsChained st head (link_from links n) n dies pages → IsHolder st n dies page from place
    → IsHolder st n dies page from (follower links n place)
next_holder st n dies pages page from head links None chained holds d s e = absurd (none-some (d, s) e)
next_holder st n dies pages page from head links (Some (d0, s0)) chained holds d s e =
    let was = holds d0 s0 refl in
    let old = (chained.links d0 s0 page was.2 was.3).found d s e in
    (omega (arith, was.0, old.0), old.1, old.2, old.3)

-- the link behind a place on a lower die was written
pub follower_above : (st : ℕ → ℕ → Entry) (n dies page die : ℕ) (last place : Option (ℕ × ℕ)) (link : Link) (links : List Link)
    → ((d s : ℕ) → last ≡ Some (d, s) → (d < die) × (d < dies) × (s < n) × (st d s ≡ Current page))
    → ((d s : ℕ) → place ≡ Some (d, s) → (die ≤ d) × (s < n))
    → follower (with_link last n link links) n place ≡ follower links n place
follower_above st n dies page die last place link links below above =
    follower_apart n last place link links (λ d s e. (below d s e).2) (λ d s e. (above d s e).1)
    (λ d s a b. let less = (below d s a).0 in let more = (above d s b).0 in omega (arith, less, more))

-- the link of a slot that holds no copy was written
pub follower_free : (st : ℕ → ℕ → Entry) (n dies page from die slot : ℕ) (place : Option (ℕ × ℕ)) (link : Link) (links : List Link)
    → slot < n → (st die slot ≡ Current page → ⊥) → IsHolder st n dies page from place
    → follower (set links (die * n + slot) link) n place ≡ follower links n place
follower_free st n dies page from die slot place link links within free holds =
    follower_apart n (some_place die slot) place link links
    (λ d s e. subst (λ k. k < n) (same_place die slot d s e).1 within) (λ d s e. (holds d s e).2)
    (λ d s a b. let at = same_place die slot d s a in free ((λ i. st (at.0 i) (at.1 i)) ∙ (holds d s b).3))

-- what is kept of a page's second place, after the link of such a slot was written
pub second_free : (st : ℕ → ℕ → Entry) (n dies pages page die slot : ℕ) (link : Link) (links heads : List Link) (second : Second)
    → IsChained st (link_at heads) (link_from links n) n dies pages → page < pages → slot < n → (st die slot ≡ Current page → ⊥)
    → IsSecond links n (link_at heads page) second → IsSecond (set links (die * n + slot) link) n (link_at heads page) second
second_free st n dies pages page die slot link links heads second chained known within free was = record {
  place = was.place ∙ sym (follower_free st n dies page 0 die slot (link_at heads page) link links within free first);
  more = was.more ∙ ap is_some (sym (follower_free st n dies page 0 die slot (target second.place) link links within free
      (subst (IsHolder st n dies page 0) (sym was.place)
      (next_holder st n dies pages page 0 (link_at heads) links (link_at heads page) chained first))));
}
  where
    first : IsHolder st n dies page 0 (link_at heads page)
    first = (chained.heads page known).found

-- whether a link leads anywhere
pub leads : (place : Option ℕ) (slot : ℕ) → is_some place ≡ is_some (place_of place slot)
leads None slot = refl
leads (Some die) slot = refl

-- what is kept of the page's second place after the link was written, by where that link stands
pub record IsChosen (last head : Option (ℕ × ℕ)) (was : Second) (link following : Link) (is_followed : Bool) (new : Second) : Type 0 where
  pub first : last ≡ None → new ≡ record { place = following; more = is_followed }
  pub second : (place : ℕ × ℕ) → last ≡ Some place → head ≡ Some place → new ≡ record { place = link; more = is_some (target following) }
  pub third : (place : ℕ × ℕ) → last ≡ Some place → (head ≡ Some place → ⊥) → target was.place ≡ Some place
      → new ≡ record { place = was.place; more = is_some (target link) }
  pub further : (place : ℕ × ℕ) → last ≡ Some place → (head ≡ Some place → ⊥) → (target was.place ≡ Some place → ⊥) → new ≡ was

-- whether an option of places is this one
pub is_place : (o : Option (ℕ × ℕ)) (d s : ℕ) → (o ≡ some_place d s) ⊎ (o ≡ some_place d s → ⊥)
is_place None d s = inr (none-some (d, s))
is_place (Some (d', s')) d s =
    elim (place_cases d' s' d s) [
      | inl at ↦ inl (λ i. some_place (at.0 i) (at.1 i))
      | inr apart ↦ inr (λ e. let at = same_place d' s' d s e in apart at.0 at.1)
    ]

module _ (dies n page : ℕ) (links heads : List Link) (link following : Link) (is_followed : Bool) (was new : Second)
    (known : page < length heads) (long : length links ≡ dies * n) (fits : IsInside dies n (link_at heads page))
    (inside : AreInside dies n links)
    (kept : IsSecond links n (link_at heads page) was) where
  abbrev written : Option (ℕ × ℕ) → List Link
  written last = with_link last n link links

  abbrev first : Option (ℕ × ℕ) → Option (ℕ × ℕ)
  first last = link_at (with_head last page link heads) page

  second_inside : IsInside dies n (target was.place)
  second_inside = subst (IsInside dies n) (sym kept.place) (led (link_at heads page))
    where
      led : (place : Option (ℕ × ℕ)) → IsInside dies n (follower links n place)
      led None d s e = absurd (none-some (d, s) e)
      led (Some (d0, s0)) d s e = inside (d0 * n + s0) d s e

  behind_some : (d0 s0 : ℕ) → d0 < dies → s0 < n → target following ≡ follower (written (some_place d0 s0)) n (target link)
      → is_followed ≡ is_some (follower (written (some_place d0 s0)) n (target following))
      → IsChosen (some_place d0 s0) (link_at heads page) was link following is_followed new
      → IsSecond (written (some_place d0 s0)) n (link_at heads page) new
  behind_some d0 s0 a b follows more chosen =
      elim (is_place (link_at heads page) d0 s0) [
        | inl at_first ↦ subst (IsSecond (written (some_place d0 s0)) n (link_at heads page)) (sym (chosen.second (d0, s0) refl at_first)) (record {
          place = sym (ap (follower (written (some_place d0 s0)) n) at_first ∙ follower_written dies n d0 s0 link links long a b);
          more = ap is_some follows;
        })
        | inr off ↦ elim (is_place (target was.place) d0 s0) [
          | inl at_second ↦ subst (IsSecond (written (some_place d0 s0)) n (link_at heads page)) (sym (chosen.third (d0, s0) refl off at_second)) (record {
            place = kept.place ∙ sym (stays (link_at heads page) fits off);
            more = ap is_some (sym (ap (follower (written (some_place d0 s0)) n) at_second ∙ follower_written dies n d0 s0 link links long a b));
          })
          | inr past ↦ subst (IsSecond (written (some_place d0 s0)) n (link_at heads page)) (sym (chosen.further (d0, s0) refl off past)) (record {
            place = kept.place ∙ sym (stays (link_at heads page) fits off);
            more = kept.more ∙ ap is_some (sym (stays (target was.place) second_inside past));
          })
        ]
      ]
    where
      stays : (place : Option (ℕ × ℕ)) → IsInside dies n place → (place ≡ some_place d0 s0 → ⊥)
          → follower (written (some_place d0 s0)) n place ≡ follower links n place
      stays place within apart = follower_apart n (some_place d0 s0) place link links
          (λ d s e. let at = same_place d0 s0 d s e in subst (λ k. k < n) at.1 b) (λ d s e. (within d s e).1) (λ d s e is. apart (is ∙ sym e))

  pub second_chosen : (last : Option (ℕ × ℕ)) → IsInside dies n last → target following ≡ follower (written last) n (target link)
      → is_followed ≡ is_some (follower (written last) n (target following)) → IsChosen last (link_at heads page) was link following is_followed new
      → IsSecond (written last) n (first last) new
  second_chosen None within follows more chosen = subst (IsSecond links n (first None)) (sym (chosen.first refl)) (record {
    place = follows ∙ sym (ap (follower links n) (ap target (get_or-set_same heads page link no_link known)));
    more = more;
  })
  second_chosen (Some (d, s)) within follows more chosen =
      let at = within d s refl in behind_some d s at.0 at.1 follows more chosen
