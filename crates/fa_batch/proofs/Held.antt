-- The entries of a batch, from its list of pages and the list of all holders.
use Rattle.std.proofs.Common.{◌≡◌, ℕ, zero, suc, ◌+◌, ◌-◌, ◌<◌, ◌≤◌, Bool, not, cond, Some, None, IfSome, List, [], ◌∷◌, ◌++◌, length, take, drop, map, set, get_or, nat_lt, ◌==◌, refl, sym, ap, ◌∙◌, subst, arith, length-append}
use Rattle.std.specs.List.{slice_range, slice_get, position, prefix_len}
use Rattle.std.proofs.lemmas.Slice.{between_to_end}
use Rattle.std.proofs.lemmas.List.{drop_at, drop-append-le, take-append-le, length-drop, length-map, map-append, length_push}
use Rattle.fa_types.specs.declared.numbers.Die.{Die}
use Rattle.fa_types.specs.declared.numbers.Page.{Page}
use Rattle.fa_batch.specs.declared.batch.HeldPage.{HeldPage}
use Rattle.fa_batch_terms.specs.Batch.{Entry, with_holder}
use Rattle.fa_batch.specs.Index.{begin_from, entries_from, entries_of, AreEndsFrom, pages_of, entry_index}

module _ {X : Type 0} where
  -- the part that was added
  between_added : (xs ys : List X) (a b : ℕ) → a ≡ length xs → b ≡ length xs + length ys → slice_range (xs ++ ys) a b ≡ ys
  between_added xs ys a b begin end =
      let whole = length-append xs ys in
      between_to_end (xs ++ ys) a b (omega arith) ∙ drop_at xs ys a (sym begin)

  -- a part of what was there before
  between_before : (xs ys : List X) (a b : ℕ) → a ≤ b → b ≤ length xs → slice_range (xs ++ ys) a b ≡ slice_range xs a b
  between_before xs ys a b order within =
      let rest = length-drop a xs in
      ap (λ v. take (b - a) v) (drop-append-le a xs ys (omega arith)) ∙ take-append-le (b - a) (drop a xs) ys (omega arith)

  -- a part up to the end, and one more element
  between_more : (xs : List X) (y : X) (a b : ℕ) → a ≤ b → b ≡ length xs → slice_range (xs ++ y ∷ []) a (b + 1) ≡ slice_range xs a b ++ y ∷ []
  between_more xs y a b order end =
      let whole = length_push xs y in
      between_to_end (xs ++ y ∷ []) a (b + 1) (omega arith) ∙ drop-append-le a xs (y ∷ []) (omega arith)
      ∙ ap (λ v. v ++ y ∷ []) (sym (between_to_end xs a b (omega arith)))

abbrev entry : Page → List Die → Entry
entry page holders = record { page = page; holders = holders }

pub ends_le : (begin : ℕ) (held : List HeldPage) (n : ℕ) → AreEndsFrom begin held n → begin ≤ n
ends_le begin [] n ends = omega arith
ends_le begin (h ∷ held) n ends = let rest = ends_le h.end held n ends.1 in let here : begin ≤ h.end = ends.0 in omega arith

-- the holders of an entry are a part of the list of all
pub part_of : (begin : ℕ) (held : List HeldPage) (n i : ℕ) (d : HeldPage) → AreEndsFrom begin held n → i < length held
    → (begin_from begin held i d ≤ (get_or held i d).end) × ((get_or held i d).end ≤ n)
part_of begin [] n i d ends below = absurd (omega arith)
part_of begin (h ∷ held) n zero d ends below = (ends.0, ends_le h.end held n ends.1)
part_of begin (h ∷ held) n (suc zero) d ends below = part_of h.end held n zero d ends.1 (omega arith)
part_of begin (h ∷ held) n (suc (suc i)) d ends below = part_of h.end held n (suc i) d ends.1 (omega arith)

-- the entry at an index
pub entry_from : (begin : ℕ) (held : List HeldPage) (holders : List Die) (i : ℕ) (d : HeldPage) → i < length held
    → slice_get (entries_from begin held holders) i
    ≡ Some (record { page = (get_or held i d).page; holders = slice_range holders (begin_from begin held i d) (get_or held i d).end })
entry_from begin [] holders i d below = absurd (omega arith)
entry_from begin (h ∷ held) holders zero d below = refl
entry_from begin (h ∷ held) holders (suc zero) d below = entry_from h.end held holders zero d (omega arith)
entry_from begin (h ∷ held) holders (suc (suc i)) d below = entry_from h.end held holders (suc i) d (omega arith)

pub length-entries : (begin : ℕ) (held : List HeldPage) (holders : List Die) → length (entries_from begin held holders) ≡ length held
length-entries begin [] holders = refl
length-entries begin (h ∷ held) holders = ap (λ n. suc n) (length-entries h.end held holders)

-- one more entry, with its holders
pub ends-push : (begin : ℕ) (held : List HeldPage) (n : ℕ) (h : HeldPage) → AreEndsFrom begin held n → n ≤ h.end → AreEndsFrom begin (held ++ h ∷ []) h.end
ends-push begin [] n h ends more = let here : begin ≡ n = ends in (omega arith, refl)
ends-push begin (g ∷ held) n h ends more = (ends.0, ends-push g.end held n h ends.1 more)

pub entries-push : (begin : ℕ) (held : List HeldPage) (holders more : List Die) (h : HeldPage) → AreEndsFrom begin held (length holders)
    → h.end ≡ length holders + length more
    → entries_from begin (held ++ h ∷ []) (holders ++ more) ≡ entries_from begin held holders ++ record { page = h.page; holders = more } ∷ []
entries-push begin [] holders more h ends end =
    ap (λ (v : List Die). entry h.page v ∷ []) (between_added holders more begin h.end ends end)
entries-push begin (g ∷ held) holders more h ends end =
    let within = ends_le g.end held (length holders) ends.1 in
    ap (λ (v : List Die). entry g.page v ∷ entries_from g.end (held ++ h ∷ []) (holders ++ more))
    (between_before holders more begin g.end ends.0 within)
    ∙ ap (λ v. entry g.page (slice_range holders begin g.end) ∷ v) (entries-push g.end held holders more h ends.1 end)

-- one more holder of the last entry
pub ends-hold : (begin : ℕ) (held : List HeldPage) (n last : ℕ) (h : HeldPage) → AreEndsFrom begin held n → last + 1 ≡ length held → n ≤ h.end
    → AreEndsFrom begin (set held last h) h.end
ends-hold begin [] n last h ends is more = absurd (omega arith)
ends-hold begin (g ∷ []) n zero h ends is more = let here : begin ≤ g.end = ends.0 in let there : g.end ≡ n = ends.1 in (omega arith, refl)
ends-hold begin (g ∷ []) n (suc last) h ends is more = absurd (omega arith)
ends-hold begin (g ∷ next ∷ held) n zero h ends is more = absurd (omega arith)
ends-hold begin (g ∷ next ∷ held) n (suc last) h ends is more = (ends.0, ends-hold g.end (next ∷ held) n last h ends.1 (omega arith) more)

pub entries-hold : (begin : ℕ) (held : List HeldPage) (holders : List Die) (die : Die) (last : ℕ) (h d : HeldPage) → AreEndsFrom begin held (length holders)
    → last + 1 ≡ length held → h.page ≡ (get_or held last d).page → h.end ≡ length holders + 1
    → entries_from begin (set held last h) (holders ++ die ∷ []) ≡ with_holder (entries_from begin held holders) die
entries-hold begin [] holders die last h d ends is page end = absurd (omega arith)
entries-hold begin (g ∷ []) holders die zero h d ends is page end =
    let here : begin ≤ g.end = ends.0 in
    let last : g.end ≡ length holders = ends.1 in
    let one_more : h.end ≡ g.end + 1 = omega (arith, end, last) in
    ap (λ (v : Page). entry v (slice_range (holders ++ die ∷ []) begin h.end) ∷ []) page
    ∙ ap (λ (v : List Die). entry g.page v ∷ [])
    (ap (λ n. slice_range (holders ++ die ∷ []) begin n) one_more ∙ between_more holders die begin g.end here last)
entries-hold begin (g ∷ []) holders die (suc last) h d ends is page end = absurd (omega arith)
entries-hold begin (g ∷ next ∷ held) holders die zero h d ends is page end = absurd (omega arith)
entries-hold begin (g ∷ next ∷ held) holders die (suc last) h d ends is page end =
    let within = ends_le g.end (next ∷ held) (length holders) ends.1 in
    ap (λ (v : List Die). entry g.page v ∷ entries_from g.end (set (next ∷ held) last h) (holders ++ die ∷ []))
    (between_before holders (die ∷ []) begin g.end ends.0 within)
    ∙ ap (λ v. entry g.page (slice_range holders begin g.end) ∷ v)
    (entries-hold g.end (next ∷ held) holders die last h d ends.1 (omega arith) page end)

-- the pages of the entries
pub pages-entries : (begin : ℕ) (held : List HeldPage) (holders : List Die) → map (λ e. e.page.0) (entries_from begin held holders) ≡ pages_of held
pages-entries begin [] holders = refl
pages-entries begin (h ∷ held) holders = ap (λ v. h.page.0 ∷ v) (pages-entries h.end held holders)

prefix_len-map : {X Y : Type 0} (f : X → Y) (p : Y → Bool) (xs : List X) → prefix_len p (map f xs) ≡ prefix_len (λ x. p (f x)) xs
prefix_len-map f p [] = refl
prefix_len-map f p (x ∷ xs) = ap (λ n. cond (p (f x)) (1 + n) 0) (prefix_len-map f p xs)

pub position-map : {X Y : Type 0} (f : X → Y) (p : Y → Bool) (xs : List X) → position p (map f xs) ≡ position (λ x. p (f x)) xs
position-map f p xs =
    let place = prefix_len-map f (λ y. not (p y)) xs in
    let size = length-map xs f in
    ap (λ n. cond (nat_lt n (length (map f xs))) (Some n) None) place
    ∙ ap (λ n. cond (nat_lt (prefix_len (λ x. not (p (f x))) xs) n) (Some (prefix_len (λ x. not (p (f x))) xs)) None) size

-- the first entry of a page
pub index-entries : (held : List HeldPage) (holders : List Die) (page : ℕ) → position (λ p. p == page) (pages_of held) ≡ entry_index (entries_of held holders) page
index-entries held holders page =
    ap (λ v. position (λ p. p == page) v) (sym (pages-entries 0 held holders)) ∙ position-map (λ (e : Entry). e.page.0) (λ p. p == page) (entries_of held holders)

-- the pages stay where an entry is set that has the same page
pub pages-set : (held : List HeldPage) (i : ℕ) (h d : HeldPage) → i < length held → h.page ≡ (get_or held i d).page → pages_of (set held i h) ≡ pages_of held
pages-set [] i h d below page = refl
pages-set (g ∷ held) zero h d below page = ap (λ (v : Page). v.0 ∷ pages_of held) page
pages-set (g ∷ held) (suc i) h d below page = ap (λ v. g.page.0 ∷ v) (pages-set held i h d (omega arith) page)

pub same_length : (batch : List Entry) (held : List HeldPage) (holders : List Die) → entries_of held holders ≡ batch → length batch ≡ length held
same_length batch held holders is = ap (λ v. length v) (sym is) ∙ length-entries 0 held holders

-- the holders of an entry, as the code finds them
pub located : (batch : List Entry) (held read : List HeldPage) (holders all : List Die) (i begin : ℕ) (h : HeldPage) → entries_of held holders ≡ batch
    → AreEndsFrom 0 held (length holders) → i < length batch → h ≡ get_or held i h → read ≡ held → ((d : HeldPage) → begin ≡ begin_from 0 read i d) → all ≡ holders
    → (begin ≤ h.end) × (h.end ≤ length all) × IfSome (slice_get batch i) (λ e. e.holders ≡ take (h.end - begin) (drop begin all))
located batch held read holders all i begin h is ends below at same begins whole =
    let size = same_length batch held holders is in
    let first : begin ≡ begin_from 0 held i h = begins h ∙ ap (λ v. begin_from 0 v i h) same in
    let part = part_of 0 held (length holders) i h ends (omega arith) in
    let last : h.end ≡ (get_or held i h).end = ap (λ (v : HeldPage). v.end) at in
    let bound : length all ≡ length holders = ap (λ v. length v) whole in
    let there = sym (ap (λ v. slice_get v i) is) ∙ entry_from 0 held holders i h (omega arith) in (
      omega (arith, part.0),
      omega (arith, part.1),
      subst (λ o. IfSome o (λ (e : Entry). e.holders ≡ take (h.end - begin) (drop begin all))) (sym there)
          (ap (λ n. slice_range holders n (get_or held i h).end) (sym first) ∙ ap (λ n. slice_range holders begin n) (sym last) ∙ ap (λ v. slice_range v begin h.end) (sym whole)),
    )

-- a page with its holders was added
pub pushed : (held held' : List HeldPage) (holders holders' more : List Die) (page : Page) → AreEndsFrom 0 held (length holders)
    → held' ≡ held ++ record { page = page; end = length holders' } ∷ [] → holders' ≡ holders ++ more
    → AreEndsFrom 0 held' (length holders') × (entries_of held' holders' ≡ entries_of held holders ++ record { page = page; holders = more } ∷ [])
    × (pages_of held' ≡ pages_of held ++ page.0 ∷ [])
pushed held held' holders holders' more page ends is all =
    let h : HeldPage = record { page = page; end = length holders' } in
    let size : length holders' ≡ length holders + length more = ap (λ v. length v) all ∙ length-append holders more in (
      subst (λ v. AreEndsFrom 0 v (length holders')) (sym is) (ends-push 0 held (length holders) h ends (omega arith)),
      ap (λ v. entries_of v holders') is ∙ ap (λ v. entries_of (held ++ h ∷ []) v) all ∙ entries-push 0 held holders more h ends size,
      ap (λ v. pages_of v) is ∙ map-append (λ (v : HeldPage). v.page.0) held (h ∷ []),
    )

-- a holder was added to the last entry
pub one_held : (held : List HeldPage) (holders holders' : List Die) (die : Die) (last : ℕ) (h d : HeldPage) → AreEndsFrom 0 held (length holders)
    → holders' ≡ holders ++ die ∷ [] → last + 1 ≡ length held → h.page ≡ (get_or held last d).page → h.end ≡ length holders'
    → AreEndsFrom 0 (set held last h) (length holders') × (entries_of (set held last h) holders' ≡ with_holder (entries_of held holders) die)
    × (pages_of (set held last h) ≡ pages_of held)
one_held held holders holders' die last h d ends all is page end =
    let size : length holders' ≡ length holders + 1 = ap (λ v. length v) all ∙ length_push holders die in (
      subst (λ n. AreEndsFrom 0 (set held last h) n) end (ends-hold 0 held (length holders) last h ends is (omega arith)),
      ap (λ v. entries_of (set held last h) v) all ∙ entries-hold 0 held holders die last h d ends is page (omega arith),
      pages-set held last h d (omega arith) page,
    )

-- the entry of a page, where the list of pages has it
pub index-batch : (batch : List Entry) (held : List HeldPage) (holders : List Die) (page : ℕ) → entries_of held holders ≡ batch
    → position (λ p. p == page) (pages_of held) ≡ entry_index batch page
index-batch batch held holders page is = index-entries held holders page ∙ ap (λ b. entry_index b page) is
