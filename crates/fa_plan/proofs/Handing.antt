-- A page more that is given a die: those that are handed on for it, one after the other, and the last.
use Rattle.std.proofs.Common.{◌≡◌, ◌≢◌, ℕ, ◌+◌, ◌<◌, ◌≤◌, inl, inr, true, cond, List, [], ◌∷◌, ◌++◌, length-append, length, get_or, set, nat_eq, ◌==◌, refl, sym, ap, ◌∙◌, subst, arith, eq-eqb}
use Rattle.std.proofs.lemmas.Bool.{cases_eq, cases_lt, ne_eqb}
use Rattle.std.proofs.lemmas.List.{get_or_append_left, get_or-set_same, get_or-set_other, length-set}
use Rattle.std.proofs.Math.Seq.{get_or-append_seam}
use Rattle.std.proofs.lemmas.List.Sums.{sum_by-set, sum_by_push}
use Rattle.fa_types.specs.declared.numbers.Die.{Die}
use Rattle.fa_batch_terms.specs.Batch.{Entry}
use Rattle.fa_plan_search.specs.declared.walk.Tables.{Tables}
use Rattle.fa_plan_search.specs.declared.walk.Walk.{Walk}
use Rattle.fa_plan.specs.Giving.{AreGiven, AreReaders, IsHandingOn}
use Rattle.fa_plan_search.specs.Reading.{can_read, die_of, load_of, no_die}
use Rattle.fa_plan_search.specs.Search.{HasFound, has_reached, rank_of, way_to}

-- One page more is handed on along a way.
module _ (batch : List Entry) (first : List Die) (w : Walk) (free : ℕ) (given : List Die) (d : Die) (page : ℕ) (so_far : IsHandingOn batch first w free given d page) (below : page < length given) where
  left_is : die_of given page ≡ die_of first (way_to w d.0)
  left_is = ap (λ n. die_of given n) so_far.way ∙ so_far.same d.0 so_far.reached (omega arith)

  on_way : way_to w d.0 < length first
  on_way = let way = so_far.way in let long = so_far.long in omega (arith, way, long, below)

  left_reached : has_reached w (die_of given page) ≡ true
  left_reached = ap (λ n. has_reached w n) left_is ∙ (so_far.walk.steps d.0 so_far.reached).reached.taken on_way

  left_earlier : rank_of w (die_of given page) < rank_of w d.0
  left_earlier = let step = (so_far.walk.steps d.0 so_far.reached).earlier on_way in let at = ap (λ n. rank_of w n) left_is in omega (arith, step, at)

  still_same : (die : ℕ) → has_reached w die ≡ true → rank_of w die ≤ rank_of w (die_of given page) → die_of (set given page d) (way_to w die) ≡ die_of first (way_to w die)
  still_same die so low =
      let earlier = left_earlier in
      let other : way_to w die ≢ page = λ e.
      let way = so_far.way in
      let long = so_far.long in
      let here : way_to w die < length first = omega (arith, e, long, below) in
      let step = (so_far.walk.steps die so).earlier here in
      let at = ap (λ n. rank_of w (die_of first n)) (e ∙ way) in
      let left = ap (λ n. rank_of w n) left_is in
      let wrong : ⊥ = omega (arith, step, at, left, low) in wrong in
      ap (λ (v : Die). v.0) (get_or-set_other given page (way_to w die) d no_die other) ∙ so_far.same die so (omega (arith, low, earlier))

  still_readers : AreReaders batch (set given page d)
  still_readers = λ p under. elim (cases_eq p page) [
    | inl e ↦ ap (λ n. can_read batch n (die_of (set given page d) n)) e
        ∙ ap (λ (v : Die). can_read batch page v.0) (get_or-set_same given page d no_die below)
        ∙ ap (λ n. can_read batch n d.0) so_far.way ∙ (so_far.walk.steps d.0 so_far.reached).held
    | inr other ↦ ap (λ (v : Die). can_read batch p v.0) (get_or-set_other given page p d no_die other) ∙ so_far.readers p (let l = length-set given page d in omega (arith, under, l))
  ]

  pub handed : (left : Die) → left ≡ get_or given page no_die → IsHandingOn batch first w free (set given page d) left (way_to w left.0)
  handed left is = subst (λ (v : Die). IsHandingOn batch first w free (set given page d) v (way_to w v.0)) (sym is) (record {
    walk = so_far.walk;
    reached = left_reached;
    way = refl;
    long = length-set given page d ∙ so_far.long;
    same = still_same;
    readers = still_readers;
    loads = λ die. let step = sum_by-set (λ (v : Die). cond (v.0 == die) 1 0) given page d no_die below in let was = so_far.loads die in omega (arith, step, was);
  })

-- The way has come to its beginning: the first page with no die takes the one that is wanted there.
module _ (batch : List Entry) (first : List Die) (w : Walk) (free : ℕ) (given : List Die) (d : Die) (page : ℕ) (so_far : IsHandingOn batch first w free given d page) (past : length given ≤ page)
    (tables : Tables) (were : AreGiven batch first tables) (next : length first < length batch) (known : free < 256) (found : HasFound first tables.open_counts w free) where
  load_now : (die : ℕ) → load_of (given ++ d ∷ []) die ≡ load_of first die + cond (nat_eq free die) 1 0
  load_now die = let pushed = sum_by_push (λ (v : Die). cond (v.0 == die) 1 0) given d in let was = so_far.loads die in omega (arith, pushed, was)

  reads_first : can_read batch (length given) d.0 ≡ true
  reads_first =
      let step = so_far.walk.steps d.0 so_far.reached in
      let within = step.reached.within in
      let way = so_far.way in
      let long = so_far.long in
      let e : length given ≡ way_to w d.0 = omega (arith, within, way, long, past) in
      ap (λ n. can_read batch n d.0) e ∙ step.held

  more_given : AreGiven batch (given ++ d ∷ []) (record { loads = set tables.loads free (get_or tables.loads free 0 + 1); open_counts = tables.open_counts })
  more_given = record {
    short = let more = length-append given (d ∷ []) in let long = so_far.long in omega (arith, more, long, next);
    long = length-set tables.loads free (get_or tables.loads free 0 + 1) ∙ were.long;
    readers = λ p below. elim (cases_lt p (length given)) [
      | inl before ↦ ap (λ (v : Die). can_read batch p v.0) (get_or_append_left given (d ∷ []) no_die p before) ∙ so_far.readers p before
      | inr after ↦ (let more = length-append given (d ∷ []) in
          let e : p ≡ length given = omega (arith, below, more, after) in
          ap (λ n. can_read batch n (get_or (given ++ d ∷ []) n no_die).0) e ∙ ap (λ (v : Die). can_read batch (length given) v.0) (get_or-append_seam given d [] no_die) ∙ reads_first)
    ];
    loads = λ die below. elim (cases_eq die free) [
      | inl same ↦
          (let at = get_or-set_same tables.loads free (get_or tables.loads free 0 + 1) 0 (let long = were.long in omega (arith, long, known)) in
          let to = ap (λ n. get_or (set tables.loads free (get_or tables.loads free 0 + 1)) n 0) same in
          let was = were.loads free known in
          let here = ap (λ b. cond {A = ℕ} b 1 0) (eq-eqb free die (sym same)) in
          let load = load_now die in
          let back = ap (λ n. load_of first n) same in
          omega (arith, at, to, was, here, load, back))
      | inr other ↦
          (let at = get_or-set_other tables.loads free die (get_or tables.loads free 0 + 1) 0 other in
          let was = were.loads die below in
          let none = ap (λ b. cond {A = ℕ} b 1 0) (ne_eqb free die (λ e. other (sym e))) in
          let load = load_now die in
          omega (arith, at, was, none, load))
    ];
    within = λ die below. elim (cases_eq die free) [
      | inl same ↦
          (let here = ap (λ b. cond {A = ℕ} b 1 0) (eq-eqb free die (sym same)) in
          let load = load_now die in
          let back = ap (λ n. load_of first n) same in
          let open_counts = ap (λ n. get_or tables.open_counts n 0) same in
          let room = found.room in
          omega (arith, here, load, back, open_counts, room))
      | inr other ↦
          (let none = ap (λ b. cond {A = ℕ} b 1 0) (ne_eqb free die (λ e. other (sym e))) in
          let load = load_now die in
          let was = were.within die below in
          omega (arith, none, load, was))
    ];
  }

  pub given_more : (after : List Die) → after ≡ given ++ d ∷ [] → AreGiven batch after (record { loads = set tables.loads free (get_or tables.loads free 0 + 1); open_counts = tables.open_counts })
  given_more after is = subst (λ v. AreGiven batch v (record { loads = set tables.loads free (get_or tables.loads free 0 + 1); open_counts = tables.open_counts })) (sym is) more_given
