-- What a walk keeps as it comes to one more die.
use Rattle.std.proofs.Common.{◌≡◌, ◌≢◌, ℕ, ◌+◌, ◌<◌, ◌≤◌, inl, inr, Bool, true, false, cond, List, length, get_or, set, take, Option, Some, None, is_some, IfSome, IfNone, ◌==◌, replicate, refl, sym, ap, ◌∙◌, subst, arith, eq-eqb, eqb-true}
use Rattle.std.specs.List.{count_by, slice_get}
use Rattle.std.proofs.lemmas.Bool.{cases_eq, cases_lt, or_cases}
use Rattle.std.proofs.lemmas.List.{get_or-set_same, get_or-set_other, get_or_past, length-set}
use Rattle.std.proofs.lemmas.List.Sums.{sum_by-set, count_by-le-length}
use Rattle.std.proofs.lemmas.List.Folds.{list_any_at, list_any_more, sum_by-replicate}
use Rattle.std.proofs.lemmas.Option.{slice_get-get_or}
use Rattle.fa_types.specs.declared.numbers.Die.{Die}
use Rattle.fa_batch_terms.specs.Batch.{Entry, is_among}
use Rattle.fa_batch_terms.proofs.Counting.{count_by-two-le}
use Rattle.fa_batch_terms.proofs.Counting.{get_or-replicate_default}
use Rattle.fa_plan_search.specs.declared.walk.Walk.{Walk}
use Rattle.fa_plan_search.specs.Reading.{can_read, die_of, load_of, no_die, no_entry}
use Rattle.fa_plan_search.specs.Search.{AreFull, GoesOn, IsFollowed, IsReached, IsStep, IsWalk, has_reached, rank_of, way_to, with_die}

-- a table in which one more number is marked has one mark more, and had room for it
pub marks_more : (marks : List Bool) (i : ℕ) → i < length marks → get_or marks i false ≡ false → count_by (λ b. b) (set marks i true) ≡ count_by (λ b. b) marks + 1
marks_more marks i below unmarked =
    let step = sum_by-set (λ b. cond b 1 0) marks i true false below in
    let none = ap (λ b. cond {A = ℕ} b 1 0) unmarked in
    omega (arith, step, none)

pub marks_fit : (marks : List Bool) (i : ℕ) → i < length marks → get_or marks i false ≡ false → count_by (λ b. b) marks < length marks
marks_fit marks i below unmarked =
    let more = marks_more marks i below unmarked in
    let few = count_by-le-length (λ b. b) (set marks i true) in
    let long = length-set marks i true in
    omega (arith, more, few, long)

-- a die that was reached has a number in the table
pub reached_is_known : (w : Walk) (die : ℕ) → has_reached w die ≡ true → die < length w.seen
reached_is_known w die so =
    elim (cases_lt die (length w.seen)) [
      | inl below ↦ below
      | inr past ↦ (let no = get_or_past w.seen die false past in let wrong : ⊥ = cc in absurd wrong)
    ]

module _ (batch : List Entry) (given : List Die) (w : Walk) (is : IsWalk batch given w) (die page looks : ℕ) (known : die < 256) (fresh : has_reached w die ≡ false) where
  pub room_in_order : w.count < 256
  room_in_order =
      let fits = marks_fit w.seen die (omega (arith, is.tables.0)) fresh in
      let counted = is.counted in
      omega (arith, fits, counted, is.tables.0)

  pub added_reached : has_reached (with_die w die page looks) die ≡ true
  added_reached = get_or-set_same w.seen die true false (omega (arith, is.tables.0))

  reached_still : (x : ℕ) → has_reached w x ≡ true → has_reached (with_die w die page looks) x ≡ true
  reached_still x so = elim (cases_eq x die) [
    | inl same ↦ ap (λ n. has_reached (with_die w die page looks) n) same ∙ added_reached
    | inr other ↦ get_or-set_other w.seen die x true false other ∙ so
  ]

  not_new : (x : ℕ) → has_reached w x ≡ true → x ≢ die
  not_new x so same = let at = ap (λ n. has_reached w n) same in let wrong : ⊥ = cc in wrong

  pub added_goes_on : GoesOn w (with_die w die page looks)
  added_goes_on = record {
    reached = reached_still;
    ordered = λ k below. get_or-set_other w.order w.count k die 0 (λ e. let wrong : ⊥ = omega arith in wrong);
    longer = omega arith;
  }

  page_still : (p : ℕ) → IsReached given w p → IsReached given (with_die w die page looks) p
  page_still p there = record { within = there.within; taken = λ below. reached_still (die_of given p) (there.taken below) }

  module _ (held : can_read batch page die ≡ true) (there : IsReached given w page) where
    new_step : IsStep batch given (with_die w die page looks) die
    new_step =
        let room = room_in_order in
        let rank = get_or-set_same w.rank die w.count 0 (omega (arith, is.tables.2)) in
        let way = get_or-set_same w.via die page 0 (omega (arith, is.tables.3)) in
        let order = get_or-set_same w.order w.count die 0 (omega (arith, is.tables.1, room)) in
        record {
          known = known;
          ranked = omega (arith, rank);
          ordered = ap (λ n. get_or (set w.order w.count die) n 0) rank ∙ order;
          held = ap (λ n. can_read batch n die) way ∙ held;
          reached = subst (λ n. IsReached given (with_die w die page looks) n) (sym way) (page_still page there);
          earlier = λ below.
              let here : page < length given = omega (arith, way, below) in
              let from : has_reached w (die_of given page) ≡ true = there.taken here in
              let old = get_or-set_other w.rank die (die_of given page) w.count 0 (not_new (die_of given page) from) in
              let step = (is.steps (die_of given page) from).ranked in
              let same = ap (λ n. rank_of (with_die w die page looks) (die_of given n)) way in
              omega (arith, rank, old, step, same);
        }

    old_step : (x : ℕ) → x ≢ die → IsStep batch given w x → IsStep batch given (with_die w die page looks) x
    old_step x other step =
        let rank = get_or-set_other w.rank die x w.count 0 other in
        let way = get_or-set_other w.via die x page 0 other in
        let order = get_or-set_other w.order w.count (rank_of w x) die 0 (λ e. let r = step.ranked in let wrong : ⊥ = omega (arith, r, e) in wrong) in
        record {
          known = step.known;
          ranked = let r = step.ranked in omega (arith, rank, r);
          ordered = ap (λ n. get_or (set w.order w.count die) n 0) rank ∙ order ∙ step.ordered;
          held = ap (λ n. can_read batch n x) way ∙ step.held;
          reached = subst (λ n. IsReached given (with_die w die page looks) n) (sym way) (page_still (way_to w x) step.reached);
          earlier = λ below.
              let here : way_to w x < length given = omega (arith, way, below) in
              let from : has_reached w (die_of given (way_to w x)) ≡ true = step.reached.taken here in
              let old = get_or-set_other w.rank die (die_of given (way_to w x)) w.count 0 (not_new (die_of given (way_to w x)) from) in
              let less = step.earlier here in
              let same = ap (λ n. rank_of (with_die w die page looks) (die_of given n)) way in
              omega (arith, rank, old, less, same);
        }

    pub added_is_walk : looks ≤ load_of given die → IsWalk batch given (with_die w die page looks)
    added_is_walk few = record {
      tables = (length-set w.seen die true ∙ is.tables.0, length-set w.order w.count die ∙ is.tables.1, length-set w.rank die w.count ∙ is.tables.2, length-set w.via die page ∙ is.tables.3);
      steps = λ x so. elim (cases_eq x die) [
        | inl same ↦ subst (λ n. IsStep batch given (with_die w die page looks) n) (sym same) new_step
        | inr other ↦ old_step x other (is.steps x (sym (get_or-set_other w.seen die x true false other) ∙ so))
      ];
      ordered = λ k below. elim (cases_eq k w.count) [
        | inl same ↦ (let room = room_in_order in
            ap (λ n. has_reached (with_die w die page looks) (get_or (set w.order w.count die) n 0)) same
            ∙ ap (λ n. has_reached (with_die w die page looks) n) (get_or-set_same w.order w.count die 0 (omega (arith, is.tables.1, room))) ∙ added_reached)
        | inr other ↦ ap (λ n. has_reached (with_die w die page looks) n) (get_or-set_other w.order w.count k die 0 other)
            ∙ reached_still (get_or w.order k 0) (is.ordered k (omega (arith, below, other)))
      ];
      counted = let more = marks_more w.seen die (omega (arith, is.tables.0)) fresh in let was = is.counted in omega (arith, more, was);
      looks =
          let both = count_by-two-le (λ (d : Die). has_reached w d.0) (λ d. d.0 == die) (λ d. has_reached (with_die w die page looks) d.0)
          (λ d so. reached_still d.0 so)
          (λ d e. ap (λ n. has_reached (with_die w die page looks) n) (sym (sym (eqb-true d.0 die e))) ∙ added_reached)
          (λ d so e. not_new d.0 so (eqb-true d.0 die e)) given in
          let was = is.looks in
          omega (arith, both, was, few);
    }

    pub added_is_full : (open_counts : List ℕ) → AreFull given open_counts w → get_or open_counts die 0 ≤ load_of given die → AreFull given open_counts (with_die w die page looks)
    added_is_full open_counts full here = λ x so. elim (cases_eq x die) [
      | inl same ↦ subst (λ n. get_or open_counts n 0 ≤ load_of given n) (sym same) here
      | inr other ↦ full x (sym (get_or-set_other w.seen die x true false other) ∙ so)
    ]

-- a walk that has only begun
pub begun_is_walk : (batch : List Entry) (given : List Die) (w : Walk) → w.seen ≡ replicate 256 false → w.count ≡ 0 → w.looks ≡ 1 → length w.order ≡ 256 → length w.rank ≡ 256 → length w.via ≡ 256
    → IsWalk batch given w
begun_is_walk batch given w seen count looks order rank via =
    let none : (die : ℕ) → has_reached w die ≡ true → ⊥ = λ die so. (let no = ap (λ s. get_or s die false) seen ∙ get_or-replicate_default 256 die false in let wrong : ⊥ = cc in wrong) in
    record {
      tables = (ap (λ s. length s) seen, order, rank, via);
      steps = λ die so. absurd (none die so);
      ordered = λ k below. absurd (omega (arith, below, count));
      counted = count ∙ sym (ap (λ s. count_by (λ b. b) s) seen ∙ sum_by-replicate (λ b. cond b 1 0) 256 false);
      looks = omega (arith, looks);
    }

pub begun_is_full : (given : List Die) (open_counts : List ℕ) (w : Walk) → w.seen ≡ replicate 256 false → AreFull given open_counts w
begun_is_full given open_counts w seen = λ die so. (let no = ap (λ s. get_or s die false) seen ∙ get_or-replicate_default 256 die false in let wrong : ⊥ = cc in absurd wrong)

-- a walk goes on step by step
pub then : (u v w : Walk) → GoesOn u v → GoesOn v w → GoesOn u w
then u v w first second = record {
  reached = λ die so. second.reached die (first.reached die so);
  ordered = λ k below. second.ordered k (let longer = first.longer in omega (arith, longer, below)) ∙ first.ordered k below;
  longer = let a = first.longer in let b = second.longer in omega (arith, a, b);
}

pub followed_still : (batch : List Entry) (v w : Walk) (page : ℕ) → GoesOn v w → IsFollowed batch v page → IsFollowed batch w page
followed_still batch v w page on followed = λ die holds. on.reached die (followed die holds)

-- the holders of the page at an index
pub holders_are : (batch : List Entry) (page : ℕ) (holders : List Die) → page < length batch → IfSome (slice_get batch page) (λ e. e.holders ≡ holders) → (get_or batch page no_entry).holders ≡ holders
holders_are batch page holders below is = let at = slice_get-get_or batch page no_entry below in subst (λ o. IfSome o (λ e. e.holders ≡ holders)) at is

-- one holder after the other
pub among_at : (dies : List Die) (k : ℕ) → k < length dies → is_among dies (get_or dies k no_die).0 ≡ true
among_at dies k below = list_any_at (λ d. d.0 == (get_or dies k no_die).0) dies k no_die below (eq-eqb (get_or dies k no_die).0 (get_or dies k no_die).0 refl)

pub among_more : (w : Walk) (dies : List Die) (k : ℕ) → k < length dies → ((x : ℕ) → is_among (take k dies) x ≡ true → has_reached w x ≡ true) → has_reached w (get_or dies k no_die).0 ≡ true
    → (x : ℕ) → is_among (take (k + 1) dies) x ≡ true → has_reached w x ≡ true
among_more w dies k below so_far here x among =
    elim (or_cases (is_among (take k dies) x) ((get_or dies k no_die).0 == x) (sym (list_any_more (λ (d : Die). d.0 == x) dies k no_die below) ∙ among)) [
      | inl before ↦ so_far x before
      | inr at ↦ ap (λ n. has_reached w n) (sym (eqb-true (get_or dies k no_die).0 x at)) ∙ here
    ]

-- what holds where nothing was found
pub at_none : {X : Type 0} (o : Option X) (P : Type 0) → is_some o ≡ false → IfNone o P → P
at_none None P not_so holds = holds
at_none (Some x) P not_so holds = cc
