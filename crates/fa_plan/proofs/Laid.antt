-- One more page laid into its round, above those that were.
use Rattle.std.proofs.Common.{◌≡◌, ℕ, ◌+◌, ◌-◌, ◌<◌, ◌≤◌, Bool, true, false, cond, List, [], ◌∷◌, ◌++◌, length, get_or, set, inl, inr, take, map, nat_eq, nat_lt, refl, sym, ap, ◌∙◌, subst, arith, eq-eqb, eqb-true}
use Rattle.std.specs.List.{All, count_by, list_any}
use Rattle.std.proofs.lemmas.Bool.{cases_eq, ne_eqb, and_right, and_from, and_parts, le-ltb, lt-ltb, false_from_ne_true}
use Rattle.std.proofs.lemmas.List.{get_or-set_same, get_or-set_other, map_push, take_more, get_or-map, get_or-take, length-map, length-take-le}
use Rattle.std.proofs.lemmas.List.Elements.{All-push, recursion_from_All}
use Rattle.std.proofs.lemmas.List.Folds.{list_any_none}
use Rattle.std.proofs.lemmas.List.Sums.{sum_by_push}
use Rattle.fa_types.specs.Open.{IsNthOpen}
use Rattle.fa_batch_terms.specs.Plan.{AreApart, is_earlier_page}
use Rattle.fa_batch_terms.specs.declared.place.Place.{Place}
use Rattle.fa_batch_terms.proofs.Counting.{AllByRecursion-weaker, count_by-le-on, once-push}
use Rattle.fa_cert.proofs.Placed.{is_at_key, key_has, key_only}
use Rattle.fa_plan.specs.declared.layout.Seat.{Seat}
use Rattle.fa_plan.specs.Layout.{AreRising, IsInTurn, IsLaidOut, is_at_die, seat_of}

-- two open rounds of a die that are one have one number
pub one_number : (current : ℕ) (closed : ℕ → ℕ → Bool) (die n n' round : ℕ) → IsNthOpen current closed die n round → IsNthOpen current closed die n' round → n ≡ n'
one_number current closed die n n' round one other =
    let from : current ≤ round = one.is_open.0 in
    let e : current + (round - current) ≡ round = omega arith in
    let a = one.before (round - current) e in
    let b = other.before (round - current) e in
    omega (arith, a, b)

module _ (current : ℕ) (closed : ℕ → ℕ → Bool) (places : List Place) (y : Place) (lower : All (λ x. x.page.0 < y.page.0) places) where
  -- a higher page is earlier than none
  not_earlier : (x : Place) → x.page.0 ≤ y.page.0 → is_earlier_page x y ≡ false
  not_earlier x below = and_right (nat_eq y.die.0 x.die.0) (nat_lt y.page.0 x.page.0) (le-ltb y.page.0 x.page.0 below)

  rank_same : (x : Place) → x.page.0 < y.page.0 → count_by (is_earlier_page x) (places ++ y ∷ []) ≡ count_by (is_earlier_page x) places
  rank_same x below =
      let pushed = sum_by_push (λ v. cond (is_earlier_page x v) 1 0) places y in
      let none = ap (λ b. cond {A = ℕ} b 1 0) (not_earlier x (omega arith)) in
      omega (arith, pushed, none)

  rank_of_new : count_by (is_earlier_page y) (places ++ y ∷ []) ≡ count_by (is_at_die y.die.0) places
  rank_of_new =
      let pushed = sum_by_push (λ v. cond (is_earlier_page y v) 1 0) places y in
      let none = ap (λ b. cond {A = ℕ} b 1 0) (not_earlier y (omega arith)) in
      let low = recursion_from_All (λ x. x.page.0 < y.page.0) places lower in
      let one = count_by-le-on (is_earlier_page y) (is_at_die y.die.0) places
      (AllByRecursion-weaker (λ x. x.page.0 < y.page.0) (λ x. is_earlier_page y x ≡ true → is_at_die y.die.0 x ≡ true)
      (λ x _ e. (and_parts (nat_eq x.die.0 y.die.0) (nat_lt x.page.0 y.page.0) e).0) places low) in
      let other = count_by-le-on (is_at_die y.die.0) (is_earlier_page y) places
      (AllByRecursion-weaker (λ x. x.page.0 < y.page.0) (λ x. is_at_die y.die.0 x ≡ true → is_earlier_page y x ≡ true)
      (λ x less e. and_from (nat_eq x.die.0 y.die.0) (nat_lt x.page.0 y.page.0) e (lt-ltb x.page.0 y.page.0 less)) places low) in
      omega (arith, pushed, none, one, other)

  module _ (known : y.die.0 < 256) (turns : All (IsInTurn current closed places) places) (nth : IsNthOpen current closed y.die.0 (count_by (is_at_die y.die.0) places + 1) y.round.0) where
    turns_more : All (IsInTurn current closed (places ++ y ∷ [])) (places ++ y ∷ [])
    turns_more = All-push (IsInTurn current closed (places ++ y ∷ [])) places y
        (λ k d below.
        let x = get_or places k d in
        let was = turns k d below in
        let same = rank_same x (lower k d below) in
        let pushed = sum_by_push (λ v. cond (is_at_die x.die.0 v) 1 0) places y in
        let among = was.among in
        record {
          known = was.known;
          nth = subst (λ n. IsNthOpen current closed x.die.0 (n + 1) x.round.0) (sym same) was.nth;
          among = omega (arith, same, pushed, among);
        })
        (let pushed = sum_by_push (λ v. cond (is_at_die y.die.0 v) 1 0) places y in
        let here = ap (λ b. cond {A = ℕ} b 1 0) (eq-eqb y.die.0 y.die.0 refl) in
        let rank = rank_of_new in
        record {
          known = known;
          nth = subst (λ n. IsNthOpen current closed y.die.0 (n + 1) y.round.0) (sym rank) nth;
          among = omega (arith, rank, pushed, here);
        })

    fresh : list_any (is_at_key (y.die.0, y.round.0)) places ≡ false
    fresh = list_any_none (is_at_key (y.die.0, y.round.0)) places (λ k d below.
        let x = get_or places k d in
        let was = turns k d below in
        false_from_ne_true (is_at_key (y.die.0, y.round.0) x) (λ e.
        let parts = and_parts (nat_eq x.die.0 y.die.0) (nat_eq x.round.0 y.round.0) e in
        let die = eqb-true x.die.0 y.die.0 parts.0 in
        let round = eqb-true x.round.0 y.round.0 parts.1 in
        let there = subst (λ r. IsNthOpen current closed y.die.0 (count_by (is_earlier_page x) places + 1) r) round
        (subst (λ n. IsNthOpen current closed n (count_by (is_earlier_page x) places + 1) x.round.0) die was.nth) in
        let number = one_number current closed y.die.0 (count_by (is_earlier_page x) places + 1) (count_by (is_at_die y.die.0) places + 1) y.round.0 there nth in
        let among = was.among in
        let same = ap (λ n. count_by (is_at_die n) places) die in
        let wrong : ⊥ = omega (arith, number, among, same) in wrong))

    apart_more : AreApart places → AreApart (places ++ y ∷ [])
    apart_more apart = λ die round. once-push is_at_key (λ x. (x.die.0, x.round.0)) key_has key_only places y fresh (λ k. apart k.0 k.1) (die, round)

-- the pages laid so far are lower than the next
pub lower_so_far : (seats : List Seat) (i : ℕ) (s : Seat) → i < length seats → AreRising seats → (places : List Place) → map seat_of places ≡ take i seats
    → (length places ≡ i) × All (λ x. x.page.0 < (get_or seats i s).page.0) places
lower_so_far seats i s below rising places same =
    let long = sym (length-map places seat_of) ∙ ap (λ v. length v) same ∙ length-take-le i seats (omega arith) in (
      long,
      λ k d under.
          let at = sym (get_or-map seat_of places k d s under) ∙ ap (λ v. get_or v k s) same ∙ get_or-take i seats k s (omega (arith, long)) in
          subst (λ (v : Seat). v.page.0 < (get_or seats i s).page.0) (sym at) (rising k i s (omega (arith, long)) below),
    )

pub laid_more : (current : ℕ) (closed : ℕ → ℕ → Bool) (seats : List Seat) (i : ℕ) (s : Seat) → i < length seats → AreRising seats → (places : List Place) (y : Place)
    → seat_of y ≡ get_or seats i s → y.die.0 < 256 → IsLaidOut current closed (take i seats) places
    → IsNthOpen current closed y.die.0 (count_by (is_at_die y.die.0) places + 1) y.round.0 → IsLaidOut current closed (take (i + 1) seats) (places ++ y ∷ [])
laid_more current closed seats i s below rising places y is known laid nth =
    let low = subst (λ (v : Seat). All (λ (x : Place). x.page.0 < v.page.0) places) (sym is) (lower_so_far seats i s below rising places laid.same).1 in
    record {
      same = map_push seat_of places y ∙ ap (λ v. v ++ seat_of y ∷ []) laid.same ∙ ap (λ v. take i seats ++ v ∷ []) is ∙ sym (take_more seats i s below);
      turns = turns_more current closed places y low known laid.turns nth;
      apart = apart_more current closed places y low known laid.turns nth laid.apart;
    }

pub laid_none : (current : ℕ) (closed : ℕ → ℕ → Bool) (seats : List Seat) → IsLaidOut current closed (take 0 seats) []
laid_none current closed seats = record { same = refl; turns = λ k d below. absurd (omega arith); apart = λ die round. omega arith }

-- the table of how many places each die has, with one more
pub taken_more : (taken : List ℕ) (places : List Place) (y : Place) → length taken ≡ 256 → y.die.0 < 256 → ((die : ℕ) → die < 256 → get_or taken die 0 ≡ count_by (is_at_die die) places)
    → (die : ℕ) → die < 256 → get_or (set taken y.die.0 (get_or taken y.die.0 0 + 1)) die 0 ≡ count_by (is_at_die die) (places ++ y ∷ [])
taken_more taken places y long known are die below =
    let pushed = sum_by_push (λ v. cond (is_at_die die v) 1 0) places y in
    let was = are die below in
    elim (cases_eq die y.die.0) [
      | inl same ↦
          (let here = ap (λ b. cond {A = ℕ} b 1 0) (eq-eqb y.die.0 die (sym same)) in
          let at = get_or-set_same taken y.die.0 (get_or taken y.die.0 0 + 1) 0 (omega (arith, long, known)) in
          let to = ap (λ n. get_or (set taken y.die.0 (get_or taken y.die.0 0 + 1)) n 0) same in
          let from = ap (λ n. get_or taken n 0) same in
          omega (arith, pushed, was, here, at, to, from))
      | inr other ↦
          (let none = ap (λ b. cond {A = ℕ} b 1 0) (ne_eqb y.die.0 die (λ e. other (sym e))) in
          let at = get_or-set_other taken y.die.0 die (get_or taken y.die.0 0 + 1) 0 other in
          omega (arith, pushed, was, none, at))
    ]
