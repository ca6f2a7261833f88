-- The pages that a walk reached, and that they are too many for the open places of the dies that hold them.
use Rattle.std.proofs.Common.{◌≡◌, ℕ, zero, suc, ◌+◌, ◌<◌, ◌≤◌, inl, inr, Bool, true, false, cond, ◌&&◌, List, [], ◌∷◌, length, get_or, nat_eq, ◌==◌, refl, sym, ap, ◌∙◌, subst, arith, eq-eqb, eqb-true}
use Rattle.std.specs.List.{AllByRecursion, count_by, list_any, sum_by}
use Rattle.std.proofs.lemmas.Bool.{and_from, and_parts, cases_lt, cases_eq, or_cases, or_left, or_right, ne_eqb}
use Rattle.std.proofs.lemmas.List.{get_or_past}
use Rattle.std.proofs.lemmas.List.Elements.{recursion_from_All}
use Rattle.std.proofs.lemmas.List.Folds.{list_any_at}
use Rattle.std.proofs.lemmas.List.Sums.{sum_by-cons, sum_by-le-sum_by}
use Rattle.fa_types.specs.Open.{open_among}
use Rattle.fa_types.specs.declared.numbers.Die.{Die}
use Rattle.fa_types.specs.declared.numbers.Page.{Page}
use Rattle.fa_batch_terms.specs.Batch.{AreFine, Entry, holds, is_among, times_named}
use Rattle.fa_batch_terms.specs.Certificate.{AreNamed, AreTheHolders, holds_any, open_places}
use Rattle.fa_cert_places.specs.OpenCounts.{AreOpenCounts, marked}
use Rattle.fa_batch_terms.proofs.Counting.{AllByRecursion-of, AllByRecursion-weaker, count-from-any, count_by-cons, count_by-le-on, sum_by-add, sum_by-le-on}
use Rattle.fa_cert.proofs.Marked.{are_the_holders, shows_iff, sum_by-same_counts}
use Rattle.fa_plan_search.specs.declared.walk.Walk.{Walk}
use Rattle.fa_plan.specs.Bound.{IsFirstEnough, IsSomeMarked, places_of}
use Rattle.fa_plan_search.specs.Reading.{can_read, load_of, no_die, no_entry}
use Rattle.fa_plan_search.specs.Search.{IsAtItsEnd, has_reached}
use Rattle.fa_plan_search.specs.Pages.{AreReached, IsReachedPage, pages_of}
use Rattle.fa_plan.specs.Shortage.{AreTooFew, IsRaised}
use Rattle.fa_plan_search.proofs.Walks.{among_at, reached_is_known}

-- the pages of a batch are named as often as it names them
pub times_of_pages : (batch : List Entry) (page : ℕ) → count_by (λ p. p.0 == page) (pages_of batch) ≡ times_named batch page
times_of_pages [] page = refl
times_of_pages (e ∷ batch) page =
    let one = count_by-cons (λ (p : Page). p.0 == page) e.page (pages_of batch) in
    let other = count_by-cons (λ (v : Entry). v.page.0 == page) e batch in
    let rest = times_of_pages batch page in
    omega (arith, one, other, rest)

-- the page at an index is named
pub is_named_at : (batch : List Entry) (i : ℕ) → i < length batch → 1 ≤ times_named batch (get_or batch i no_entry).page.0
is_named_at batch i below =
    count-from-any (λ (e : Entry). e.page.0 == (get_or batch i no_entry).page.0) batch
    (list_any_at (λ (e : Entry). e.page.0 == (get_or batch i no_entry).page.0) batch i no_entry below (eq-eqb (get_or batch i no_entry).page.0 (get_or batch i no_entry).page.0 refl))

-- what holds a named page is named with it
held_is_named : (batch : List Entry) (page die : ℕ) → holds batch page die ≡ true → 1 ≤ times_named batch page
held_is_named [] page die held = cc
held_is_named (e ∷ batch) page die held =
    let split = count_by-cons (λ (v : Entry). v.page.0 == page) e batch in
    elim (or_cases (nat_eq e.page.0 page && is_among e.holders die) (holds batch page die) held) [
      | inl here ↦ (let one = ap (λ b. cond {A = ℕ} b 1 0) (and_parts (nat_eq e.page.0 page) (is_among e.holders die) here).0 in omega (arith, split, one))
      | inr later ↦ (let rest = held_is_named batch page die later in omega (arith, split, rest))
    ]

-- a page that is named once is held by the dies of its entry
pub reads_if_holds : (batch : List Entry) (i die : ℕ) → i < length batch → times_named batch (get_or batch i no_entry).page.0 ≤ 1 → holds batch (get_or batch i no_entry).page.0 die ≡ true → can_read batch i die ≡ true
reads_if_holds [] i die below once held = absurd (omega arith)
reads_if_holds (e ∷ batch) zero die below once held =
    elim (or_cases (nat_eq e.page.0 e.page.0 && is_among e.holders die) (holds batch e.page.0 die) held) [
      | inl here ↦ (and_parts (nat_eq e.page.0 e.page.0) (is_among e.holders die) here).1
      | inr later ↦
          (let split = count_by-cons (λ (v : Entry). v.page.0 == e.page.0) e batch in
          let one = ap (λ b. cond {A = ℕ} b 1 0) (eq-eqb e.page.0 e.page.0 refl) in
          let more = held_is_named batch e.page.0 die later in
          absurd (omega (arith, split, one, more, once)))
    ]
reads_if_holds (e ∷ batch) (suc i) die below once held =
    let page = (get_or batch i no_entry).page.0 in
    let split = count_by-cons (λ (v : Entry). v.page.0 == page) e batch in
    elim (or_cases (nat_eq e.page.0 page && is_among e.holders die) (holds batch page die) held) [
      | inl here ↦
          (let one = ap (λ b. cond {A = ℕ} b 1 0) (and_parts (nat_eq e.page.0 page) (is_among e.holders die) here).0 in
          let more = is_named_at batch i (omega arith) in
          absurd (omega (arith, split, one, more, once)))
      | inr later ↦ reads_if_holds batch i die (omega arith) (omega (arith, split, once)) later
    ]

pub holds_if_reads : (batch : List Entry) (i die : ℕ) → i < length batch → can_read batch i die ≡ true → holds batch (get_or batch i no_entry).page.0 die ≡ true
holds_if_reads batch i die below reads =
    list_any_at (λ (e : Entry). e.page.0 == (get_or batch i no_entry).page.0 && is_among e.holders die) batch i no_entry below
    (and_from (nat_eq (get_or batch i no_entry).page.0 (get_or batch i no_entry).page.0) (can_read batch i die) (eq-eqb (get_or batch i no_entry).page.0 (get_or batch i no_entry).page.0 refl) reads)

-- the pages that were reached are named
page_is_named : (batch : List Entry) (given : List Die) (w : Walk) (page : Page) → IsReachedPage batch given w page → 1 ≤ times_named batch page.0
page_is_named batch given w page at = subst (λ (v : Page). 1 ≤ times_named batch v.0) at.is (is_named_at batch at.index at.within)

pub reached_are_named : (batch : List Entry) (given : List Die) (w : Walk) (pages : List Page) → ((page : ℕ) → times_named batch page ≤ 1) → AreReached batch given w pages → AreNamed batch pages
reached_are_named batch given w pages once are = record {
  known = λ k d below. page_is_named batch given w (get_or pages k d) (are.each k d below);
  once = λ page. let a = are.once page in let b = once page in omega (arith, a, b);
}

-- what one element gives, where some element does
any_gives : {X : Type 0} (p : X → Bool) (C : Type 0) (xs : List X) → AllByRecursion (λ x. p x ≡ true → C) xs → list_any p xs ≡ true → C
any_gives p C [] each some = cc
any_gives p C (x ∷ xs) each some = elim (or_cases (p x) (list_any p xs) some) [ inl here ↦ each.0 here | inr later ↦ any_gives p C xs each.1 later ]

-- what holds of each number that a list has
of_each : (P : ℕ → Type 0) (xs : List ℕ) → ((x : ℕ) → 1 ≤ count_by (λ d. d == x) xs → P x) → AllByRecursion P xs
of_each P [] each = tt
of_each P (x ∷ xs) each = (
  each x (let split = count_by-cons (λ d. d == x) x xs in let one = ap (λ b. cond {A = ℕ} b 1 0) (eq-eqb x x refl) in omega (arith, split, one)),
  of_each P xs (λ y some. each y (let split = count_by-cons (λ d. d == y) x xs in omega (arith, split, some))),
)

sum_of_none : (xs : List ℕ) → sum_by (λ x. 0) xs ≡ 0
sum_of_none [] = refl
sum_of_none (x ∷ xs) = let split = sum_by-cons (λ (v : ℕ). 0) x xs in let rest = sum_of_none xs in omega (arith, split, rest)

-- no die has an open place in no rounds
pub none_open : (current : ℕ) (closed : ℕ → ℕ → Bool) (dies : List ℕ) → open_places current closed dies 0 ≡ 0
none_open current closed dies = sum_of_none dies

-- dies of a list, each there at most once and marked, have no more pages than marked ones have
loads_within : (marks : ℕ → Bool) (dies : List ℕ) → ((die : ℕ) → count_by (λ d. d == die) dies ≤ cond (marks die) 1 0) → (given : List Die) → sum_by (load_of given) dies ≤ count_by (λ d. marks d.0) given
loads_within marks dies once [] = let none = sum_of_none dies in omega (arith, none)
loads_within marks dies once (d ∷ given) =
    let rest = loads_within marks dies once given in
    let split = count_by-cons (λ (v : Die). marks v.0) d given in
    let le = sum_by-le-sum_by (load_of (d ∷ given)) (λ x. cond (d.0 == x) 1 0 + load_of given x) dies (λ x. let s = count_by-cons (λ (v : Die). v.0 == x) d given in omega (arith, s)) in
    let parts = sum_by-add (λ x. cond (d.0 == x) 1 0) (load_of given) dies in
    let turn = count_by-le-on (λ x. d.0 == x) (λ x. x == d.0) dies (AllByRecursion-of (λ x. (d.0 == x) ≡ true → (x == d.0) ≡ true) (λ x e. eq-eqb x d.0 (sym (eqb-true d.0 x e))) dies) in
    let few = once d.0 in
    omega (arith, rest, split, le, parts, turn, few)

module _ (batch : List Entry) (given : List Die) (w : Walk) (open_counts : List ℕ) (pages : List Page) (once : (page : ℕ) → times_named batch page ≤ 1)
    (tables : length w.seen ≡ 256) (end : IsAtItsEnd batch given open_counts w) (are : AreReached batch given w pages) where
  -- the walk reached each die that holds a page that it reached
  holder_is_reached : (die : ℕ) → holds_any batch pages die ≡ true → has_reached w die ≡ true
  holder_is_reached die some =
      any_gives (λ (p : Page). holds batch p.0 die) (has_reached w die ≡ true) pages
      (AllByRecursion-weaker (IsReachedPage batch given w) (λ p. holds batch p.0 die ≡ true → has_reached w die ≡ true)
      (λ p at held.
      let held_at = ap (λ (v : Page). holds batch v.0 die) at.is ∙ held in
      end.followed at.index at.reached die (reads_if_holds batch at.index die at.within (once (get_or batch at.index no_entry).page.0) held_at))
      pages (recursion_from_All (IsReachedPage batch given w) pages are.each)) some

  -- so their open places are as many as the pages that they read, and one page more was reached
  pub reached_are_too_many : (current : ℕ) (closed : ℕ → ℕ → Bool) (rounds : ℕ) → AreOpenCounts current closed rounds open_counts → AreTooFew batch current closed rounds pages
  reached_are_too_many current closed rounds are_open_counts dies whose =
      let full = sum_by-le-on (λ die. open_among current closed die rounds) (load_of given) dies
      (of_each (λ die. open_among current closed die rounds ≤ load_of given die) dies (λ die some.
      let mark : (b : Bool) → holds_any batch pages die ≡ b → 1 ≤ cond b 1 0 → holds_any batch pages die ≡ true =
      λ b. elim b as (λ v. holds_any batch pages die ≡ v → 1 ≤ cond v 1 0 → holds_any batch pages die ≡ true) [ true ↦ λ e _. e | false ↦ λ _ wrong. absurd (omega (arith, wrong)) ] in
      let held = mark (holds_any batch pages die) refl (let is = whose die in omega (arith, some, is)) in
      let there = holder_is_reached die held in
      let room = are_open_counts die (let known = reached_is_known w die there in omega (arith, known, tables)) in
      let most = end.full die there in
      omega (arith, room, most))) in
      let loads = loads_within (has_reached w) dies (λ die.
      let is = whose die in
      let at : (b c : Bool) → holds_any batch pages die ≡ b → has_reached w die ≡ c → cond {A = ℕ} b 1 0 ≤ cond c 1 0 =
      λ b c. elim b as (λ v. holds_any batch pages die ≡ v → has_reached w die ≡ c → cond {A = ℕ} v 1 0 ≤ cond c 1 0) [
        | true ↦ λ e f. (let there = holder_is_reached die e in let so = ap (λ v. cond {A = ℕ} v 1 0) (sym f ∙ there) in omega (arith, so))
        | false ↦ λ _ _. omega arith
      ] in
      let le = at (holds_any batch pages die) (has_reached w die) refl refl in
      omega (arith, is, le)) given in
      let many = are.many in
      omega (arith, full, loads, many)

-- Which dies hold pages, as a table.
module _ (batch : List Entry) (pages : List Page) (marks : List Bool) (long : length marks ≡ 256) (are : (die : ℕ) → get_or marks die false ≡ holds_any batch pages die) where
  -- a page that is named has a holder
  some_holder : (entries : List Entry) (page : ℕ) → AllByRecursion (λ e. 0 < length e.holders) entries → 1 ≤ times_named entries page → (die : ℕ) × (holds entries page die ≡ true)
  some_holder [] page held named = absurd (omega arith)
  some_holder (e ∷ entries) page held named =
      let split = count_by-cons (λ (v : Entry). v.page.0 == page) e entries in
      elim (cases_eq e.page.0 page) [
        | inl same ↦ (
          (get_or e.holders 0 no_die).0,
          or_left (nat_eq e.page.0 page && is_among e.holders (get_or e.holders 0 no_die).0) (holds entries page (get_or e.holders 0 no_die).0)
              (and_from (nat_eq e.page.0 page) (is_among e.holders (get_or e.holders 0 no_die).0) (eq-eqb e.page.0 page same) (among_at e.holders 0 held.0)),
        )
        | inr other ↦
            (let none = ap (λ b. cond {A = ℕ} b 1 0) (ne_eqb e.page.0 page other) in
            let rest = some_holder entries page held.1 (omega (arith, split, none, named)) in
            (rest.0, or_right (nat_eq e.page.0 page && is_among e.holders rest.0) (holds entries page rest.0) rest.1))
      ]

  pub some_marked : AreFine batch → AreNamed batch pages → 0 < length pages → IsSomeMarked marks
  some_marked fine named some =
      let p : Page = get_or pages 0 (record { 0 = 0 }) in
      let holder = some_holder batch p.0 (recursion_from_All (λ e. 0 < length e.holders) batch fine.held) (named.known 0 (record { 0 = 0 }) some) in
      let at : get_or marks holder.0 false ≡ true = are holder.0 ∙ list_any_at (λ (v : Page). holds batch v.0 holder.0) pages 0 (record { 0 = 0 }) some holder.1 in
      record {
        die = holder.0;
        known = elim (cases_lt holder.0 256) [
          | inl below ↦ below
          | inr past ↦ (let no_mark = get_or_past marks holder.0 false (omega (arith, past, long)) in let wrong : ⊥ = cc in absurd wrong)
        ];
        is_marked = at;
      }

  module _ (current : ℕ) (closed : ℕ → ℕ → Bool) where
    holders : AreTheHolders batch pages (marked marks 256)
    holders = are_the_holders batch current closed pages marks long are

    pub marked_are_few : (rounds : ℕ) → AreTooFew batch current closed rounds pages → places_of current closed marks rounds < length pages
    marked_are_few rounds few = few (marked marks 256) holders

    pub raised_from_first : AreNamed batch pages → (low rounds : ℕ) → IsFirstEnough current closed marks (length pages) low rounds → IsRaised batch current closed pages low rounds
    raised_from_first named low rounds first = record {
      later = first.later;
      limit = first.limit;
      shows = (shows_iff batch current closed pages marks long are rounds true (let later = first.later in omega (arith, later)) named (λ _. first.fewer) (λ _. refl)).0 refl;
      enough = λ dies whose.
          let same = sum_by-same_counts (λ die. open_among current closed die rounds) dies (marked marks 256) (λ die. whose die ∙ sym (holders die)) in
          let enough = first.enough in
          omega (arith, same, enough);
    }
