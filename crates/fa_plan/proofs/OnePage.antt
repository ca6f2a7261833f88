-- A batch of one page: the dies that hold it, each once, and why no plan has fewer rounds.
use Rattle.std.proofs.Common.{◌≡◌, ℕ, zero, suc, ◌+◌, ◌-◌, ◌<◌, ◌≤◌, inl, inr, Bool, true, false, cond, ◌&&◌, ◌||◌, ◌==◌, nat_eq, not, IsTrue, IfSome, slice_get, get_or, List, [], ◌∷◌, ◌++◌, length, refl, sym, ap, ◌∙◌, subst, arith, add-one, eq-eqb, le-ltb, nat_lt}
use Rattle.std.specs.List.{All, AllByRecursion, count_by, list_any, sum_by}
use Rattle.std.proofs.lemmas.Bool.{and_from, and_right, cases_eq, cases_lt, ne_eqb, or_left}
use Rattle.std.proofs.lemmas.List.{get_or_default}
use Rattle.std.proofs.lemmas.List.Elements.{All-from_recursion, recursion_from_All}
use Rattle.std.proofs.lemmas.List.Sums.{sum_by-cons}
use Rattle.fa_types.specs.Open.{IsNthOpen, IsOpen, FewClosed, open_among, rounds_that}
use Rattle.fa_types.specs.declared.numbers.Die.{Die}
use Rattle.fa_types.specs.declared.numbers.Page.{Page}
use Rattle.fa_types.specs.declared.numbers.Round.{Round}
use Rattle.fa_batch_terms.specs.Batch.{Entry, holds, is_among, times_named}
use Rattle.fa_batch_terms.specs.Certificate.{AreTheHolders, IsCertificate, IsShortage, ShowsNoFewer, holds_any, open_places}
use Rattle.fa_batch_terms.specs.Plan.{AreFirstRounds, is_earlier_page, rounds_of, times_placed}
use Rattle.fa_batch_terms.specs.declared.place.Place.{Place}
use Rattle.fa_batch_terms.proofs.Counting.{count_by-cons}
use Rattle.fa_closed.proofs.Windows.{rounds_that-join}
use Rattle.fa_plan_search.specs.Pages.{pages_of}
use Rattle.fa_plan_search.specs.Reading.{no_die}
use Rattle.fa_plan_search.proofs.Walks.{among_at}
use Rattle.fa_plan.specs.Alone.{IsOpenFirst}
use Rattle.fa_plan.specs.Bound.{IsSimpleBound}
use Rattle.fa_plan.proofs.Bounds.{open_grows, open_or_closed}

-- the numbers of dies, each once
abbrev distinct : List Die → List ℕ
distinct [] = []
distinct (d ∷ dies) = cond {A = List ℕ} (is_among dies d.0) (distinct dies) (d.0 ∷ distinct dies)

one_if : Bool → ℕ
one_if b = cond {A = ℕ} b 1 0

distinct_count : (dies : List Die) (x : ℕ) → count_by (λ d. d == x) (distinct dies) ≡ cond {A = ℕ} (is_among dies x) 1 0
distinct_count [] x = refl
distinct_count (d ∷ dies) x =
    let rest = distinct_count dies x in
    let split = count_by-cons (λ (v : ℕ). v == x) d.0 (distinct dies) in
    let Here : Bool → Type 0 = λ b. count_by (λ v. v == x) (cond {A = List ℕ} b (distinct dies) (d.0 ∷ distinct dies)) ≡ cond {A = ℕ} (nat_eq d.0 x || is_among dies x) 1 0 in
    elim (cases_eq d.0 x) [
      | inl same ↦
          (let is : nat_eq d.0 x ≡ true = eq-eqb d.0 x same in
          let whole = ap (λ v. cond {A = ℕ} v 1 0) (or_left (nat_eq d.0 x) (is_among dies x) is) in
          let at : (b : Bool) → is_among dies d.0 ≡ b → Here b =
          λ b. elim b as (λ v. is_among dies d.0 ≡ v → Here v) [
            | true ↦ λ e. rest ∙ ap (λ v. cond {A = ℕ} v 1 0) (ap (λ n. is_among dies n) (sym same) ∙ e) ∙ sym whole
            | false ↦ λ e.
                (let none = ap (λ v. cond {A = ℕ} v 1 0) (ap (λ n. is_among dies n) (sym same) ∙ e) in
                let one = ap (λ v. cond {A = ℕ} v 1 0) is in
                omega (arith, split, rest, none, one, whole))
          ] in
          at (is_among dies d.0) refl)
      | inr other ↦
          (let is : nat_eq d.0 x ≡ false = ne_eqb d.0 x other in
          let whole = ap (λ v. cond {A = ℕ} (v || is_among dies x) 1 0) is in
          let none = ap (λ v. cond {A = ℕ} v 1 0) is in
          let at : (b : Bool) → is_among dies d.0 ≡ b → Here b =
          λ b. elim b as (λ v. is_among dies d.0 ≡ v → Here v) [
            | true ↦ λ e. rest ∙ sym whole
            | false ↦ λ e. omega (arith, split, rest, none, whole)
          ] in
          at (is_among dies d.0) refl)
    ]

-- the only page is held by the dies of its entry
held_alone : (e : Entry) (die : ℕ) → holds_any (e ∷ []) (e.page ∷ []) die ≡ is_among e.holders die
held_alone e die =
    let last : (b : Bool) → ((b || false) || false) ≡ b = λ b. elim b as (λ v. ((v || false) || false) ≡ v) [ true ↦ refl | false ↦ refl ] in
    ap (λ t. ((t && is_among e.holders die) || false) || false) (eq-eqb e.page.0 e.page.0 refl) ∙ last (is_among e.holders die)

holders_alone : (e : Entry) → AreTheHolders (e ∷ []) (e.page ∷ []) (distinct e.holders)
holders_alone e die = distinct_count e.holders die ∙ ap (λ v. cond {A = ℕ} v 1 0) (sym (held_alone e die))

-- dies of which none is open have no open place
none_open_among : (current : ℕ) (closed : ℕ → ℕ → Bool) (n : ℕ) (dies : List Die) → AllByRecursion (λ d. open_among current closed d.0 n ≡ 0) dies
    → open_places current closed (distinct dies) n ≡ 0
none_open_among current closed n [] none = refl
none_open_among current closed n (d ∷ dies) none =
    let rest = none_open_among current closed n dies none.1 in
    let here : open_among current closed d.0 n ≡ 0 = none.0 in
    let split = sum_by-cons (λ die. open_among current closed die n) d.0 (distinct dies) in
    let at : (b : Bool) → open_places current closed (cond {A = List ℕ} b (distinct dies) (d.0 ∷ distinct dies)) n ≡ 0 =
    λ b. elim b as (λ v. open_places current closed (cond {A = List ℕ} v (distinct dies) (d.0 ∷ distinct dies)) n ≡ 0) [
      | true ↦ rest
      | false ↦ omega (arith, rest, here, split)
    ] in
    at (is_among dies d.0)

-- what is in a list is part of its sum
part_of_sum : (f : ℕ → ℕ) (xs : List ℕ) (x : ℕ) → 1 ≤ count_by (λ d. d == x) xs → f x ≤ sum_by f xs
part_of_sum f [] x some = absurd (omega (arith, some))
part_of_sum f (y ∷ xs) x some =
    let split = count_by-cons (λ (v : ℕ). v == x) y xs in
    let sum = sum_by-cons f y xs in
    elim (cases_eq y x) [
      | inl same ↦ (let e = ap f same in omega (arith, sum, e))
      | inr other ↦
          (let none = ap (λ v. cond {A = ℕ} v 1 0) (ne_eqb y x other) in
          let rest = part_of_sum f xs x (omega (arith, some, split, none)) in
          omega (arith, sum, rest))
    ]

-- the first open round is not far from the current one, since few rounds are closed
pub first_is_near : (current : ℕ) (closed : ℕ → ℕ → Bool) → FewClosed current closed → (die round : ℕ) → IsNthOpen current closed die 1 round → round ≤ current + 1048576
first_is_near current closed few die round first =
    let from = first.is_open.0 in
    let none = first.before (round - current) (omega (arith, from)) in
    let all = open_or_closed (closed die) current (round - current) in
    let shut = few die (round - current) in
    omega (arith, from, none, all, shut)

-- an earlier round is still one before which none is open
pub none_before_earlier : (current : ℕ) (closed : ℕ → ℕ → Bool) (die earlier later : ℕ) → earlier ≤ later → open_among current closed die (later - current) ≡ 0
    → open_among current closed die (earlier - current) ≡ 0
none_before_earlier current closed die earlier later le none =
    let grows = open_grows current closed die (earlier - current) (later - current) (omega (arith, le)) in omega (arith, grows, none)

at_most_one : (b : Bool) → cond {A = ℕ} b 1 0 ≤ 1
at_most_one b = elim b as (λ v. cond {A = ℕ} v 1 0 ≤ 1) [ true ↦ omega arith | false ↦ omega arith ]

module _ (current : ℕ) (closed : ℕ → ℕ → Bool) (e : Entry) (die : Die) (round : Round) (first : IsOpenFirst current closed e.holders die.0 round.0) where
  abbrev place : Place
  place = record { page = e.page; die = die; round = round }

  itself : nat_eq e.page.0 e.page.0 ≡ true
  itself = eq-eqb e.page.0 e.page.0 refl

  once : cond {A = ℕ} (nat_eq e.page.0 e.page.0) 1 0 ≡ 1
  once = ap (λ v. cond {A = ℕ} v 1 0) itself

  from : current ≤ round.0
  from = first.first.is_open.0

  none_before : open_places current closed (distinct e.holders) (round.0 - current) ≡ 0
  none_before = none_open_among current closed (round.0 - current) e.holders (recursion_from_All (λ d. open_among current closed d.0 (round.0 - current) ≡ 0) e.holders first.none_before)

  shortage : IsShortage (e ∷ []) current closed (round.0 - current) (e.page ∷ [])
  shortage = record {
    named = record {
      known = All-from_recursion (λ (p : Page). 1 ≤ times_named (e ∷ []) p.0) (e.page ∷ []) (omega (arith, once), tt);
      once = λ page. let few = at_most_one (nat_eq e.page.0 page) in omega (arith, few);
    };
    many = (distinct e.holders, holders_alone e, omega (arith, none_before));
  }

  pub certified : IsCertificate (e ∷ []) current closed (round.0 - current + 1) (record { page = e.page; die = die; round = round } ∷ []) (e.page ∷ [])
  certified = record {
    plan = record {
      each = All-from_recursion (λ (v : Entry). 1 ≤ times_placed (place ∷ []) v.page.0) (e ∷ []) (omega (arith, once), tt);
      once = λ page. let few = at_most_one (nat_eq e.page.0 page) in omega (arith, few);
      held = All-from_recursion (λ (x : Place). IsTrue (holds (e ∷ []) x.page.0 x.die.0)) (place ∷ [])
          (or_left (nat_eq e.page.0 e.page.0 && is_among e.holders die.0) false (and_from (nat_eq e.page.0 e.page.0) (is_among e.holders die.0) itself first.one), tt);
      opens = All-from_recursion (λ (x : Place). IsOpen current closed x.die.0 x.round.0) (place ∷ []) (first.first.is_open, tt);
      apart = λ d r. let few = at_most_one (nat_eq die.0 d && nat_eq round.0 r) in omega (arith, few);
    };
    length_is = omega (arith, from);
    least = subst (λ n. ShowsNoFewer (e ∷ []) current closed n (e.page ∷ [])) (sym (add-one (round.0 - current))) shortage;
  }

  -- the die is open in that many rounds
  some_open : 1 ≤ open_among current closed die.0 (round.0 - current + 1)
  some_open =
      let parts = rounds_that-join (λ r. not (closed die.0 r)) current (round.0 - current) 1 in
      let e : current + (round.0 - current) ≡ round.0 = omega (arith, from) in
      let here = ap (λ r. cond {A = ℕ} (not (closed die.0 r)) 1 0) e ∙ ap (λ b. cond {A = ℕ} (not b) 1 0) first.first.is_open.1 in
      omega (arith, parts, here)

  -- so the dies that hold the page are enough in that many
  pub bound_is_low : (least : ℕ) → IsSimpleBound (e ∷ []) current closed least → least ≤ round.0 - current + 1
  bound_is_low least bound =
      elim (cases_lt (round.0 - current + 1) least) [
        | inr low ↦ low
        | inl high ↦
            (let fewer = bound.fewer (round.0 - current + 1) high in
            let held = ap (λ v. cond {A = ℕ} v 1 0) (held_alone e die.0 ∙ first.one) in
            let whose = bound.whose die.0 in
            let part = part_of_sum (λ d. open_among current closed d (round.0 - current + 1)) bound.dies die.0 (omega (arith, whose, held)) in
            absurd (omega (arith, fewer, part, some_open)))
      ]

  first_round : open_among current closed die.0 (round.0 - current) ≡ count_by (is_earlier_page place) (place ∷ [])
  first_round =
      let none = first.first.before (round.0 - current) (omega (arith, from)) in
      let same = ap (λ b. cond {A = ℕ} b 1 0) (and_right (nat_eq die.0 die.0) (nat_lt e.page.0 e.page.0) (le-ltb e.page.0 e.page.0 (omega arith))) in
      omega (arith, none, same)

  pub first_rounds : AreFirstRounds current closed (record { page = e.page; die = die; round = round } ∷ [])
  first_rounds = All-from_recursion (λ (x : Place). open_among current closed x.die.0 (x.round.0 - current) ≡ count_by (is_earlier_page x) (place ∷ [])) (place ∷ [])
      (first_round, tt)

-- the die that is open first, of those below an index
pub record IsFirstBelow (current : ℕ) (closed : ℕ → ℕ → Bool) (dies : List Die) (i die round : ℕ) : Type 0 where
  pub one : IsTrue (is_among dies die)
  pub first : IsNthOpen current closed die 1 round
  pub none : (k : ℕ) (d : Die) → k < i → open_among current closed (get_or dies k d).0 (round - current) ≡ 0

module _ (current : ℕ) (closed : ℕ → ℕ → Bool) (dies : List Die) where
  -- before its first open round a die has none
  before_first : (die round : ℕ) → IsNthOpen current closed die 1 round → open_among current closed die (round - current) ≡ 0
  before_first die round first =
      let from = first.is_open.0 in
      let none = first.before (round - current) (omega (arith, from)) in
      omega (arith, none)

  none_at : (i round : ℕ) → i < length dies → ((k : ℕ) (d : Die) → k < i → open_among current closed (get_or dies k d).0 (round - current) ≡ 0)
      → open_among current closed (get_or dies i no_die).0 (round - current) ≡ 0
      → (k : ℕ) (d : Die) → k < i + 1 → open_among current closed (get_or dies k d).0 (round - current) ≡ 0
  none_at i round below before here k d lt =
      elim (cases_lt k i) [
        | inl low ↦ before k d low
        | inr high ↦
            (let e : k ≡ i = omega (arith, lt, high) in
            ap (λ j. open_among current closed (get_or dies j d).0 (round - current)) e
            ∙ ap (λ (x : Die). open_among current closed x.0 (round - current)) (get_or_default dies i d no_die below) ∙ here)
      ]

  pub first_of_one : (round : ℕ) → 0 < length dies → IsNthOpen current closed (get_or dies 0 no_die).0 1 round → IsFirstBelow current closed dies 1 (get_or dies 0 no_die).0 round
  first_of_one round some first = record {
    one = among_at dies 0 some;
    first = first;
    none = none_at 0 round some (λ k d below. absurd (omega (arith, below))) (before_first (get_or dies 0 no_die).0 round first);
  }

  -- the next die is open earlier
  pub first_is_next : (i die round other : ℕ) → i < length dies → IsFirstBelow current closed dies i die round → IsNthOpen current closed (get_or dies i no_die).0 1 other
      → other < round → IsFirstBelow current closed dies (i + 1) (get_or dies i no_die).0 other
  first_is_next i die round other below was next earlier = record {
    one = among_at dies i below;
    first = next;
    none = none_at i other below (λ k d low. none_before_earlier current closed (get_or dies k d).0 other round (omega (arith, earlier)) (was.none k d low))
        (before_first (get_or dies i no_die).0 other next);
  }

  -- the next die is not
  pub first_stays : (i die round other : ℕ) → i < length dies → IsFirstBelow current closed dies i die round → IsNthOpen current closed (get_or dies i no_die).0 1 other
      → round ≤ other → IsFirstBelow current closed dies (i + 1) die round
  first_stays i die round other below was next later = record {
    one = was.one;
    first = was.first;
    none = none_at i round below was.none
        (none_before_earlier current closed (get_or dies i no_die).0 round other later (before_first (get_or dies i no_die).0 other next));
  }

  pub first_of_all : (i die round : ℕ) → FewClosed current closed → length dies ≤ i → IsFirstBelow current closed dies i die round → IsOpenFirst current closed dies die round
  first_of_all i die round few all is = record {
    one = is.one;
    first = is.first;
    none_before = λ k d below. is.none k d (omega (arith, below, all));
    limit = first_is_near current closed few die round is.first;
  }

-- the plan of a batch that has one page
module _ (current : ℕ) (closed : ℕ → ℕ → Bool) (holders : List Die) (page : Page) (die : Die) (round : Round) (first : IsOpenFirst current closed holders die.0 round.0) where
  abbrev IsItsPlan : List Entry → List Place → List Page → ℕ → Type 0
  IsItsPlan batch places pages rounds = IsCertificate batch current closed rounds places pages × AreFirstRounds current closed places
      × ((least : ℕ) → IsSimpleBound batch current closed least → least ≤ rounds)

  pub planned : (batch : List Entry) (before places : List Place) (pages : List Page) (rounds : ℕ) → length batch ≡ 1
      → IfSome (slice_get batch 0) (λ e. e.holders ≡ holders) → IfSome (slice_get batch 0) (λ e. e.page ≡ page)
      → before ≡ [] → places ≡ before ++ record { page = page; die = die; round = round } ∷ [] → pages ≡ pages_of batch → rounds ≡ round.0 - current + 1
      → IsItsPlan batch places pages rounds
  planned [] before places pages rounds alone held named none are all long = absurd (omega (arith, alone))
  planned (e ∷ []) before places pages rounds alone held named none are all long =
      let own : IsOpenFirst current closed e.holders die.0 round.0 = subst (λ h. IsOpenFirst current closed h die.0 round.0) (sym held) first in
      let is : places ≡ record { page = e.page; die = die; round = round } ∷ [] =
      are ∙ ap (λ (l : List Place). l ++ record { page = page; die = die; round = round } ∷ []) none
      ∙ ap (λ (p : Page). record { page = p; die = die; round = round } ∷ []) (sym named) in
      rw (is, all, long) (certified current closed e die round own, first_rounds current closed e die round own, bound_is_low current closed e die round own)
  planned (e ∷ f ∷ batch) before places pages rounds alone held named none are all long = absurd (omega (arith, alone))
