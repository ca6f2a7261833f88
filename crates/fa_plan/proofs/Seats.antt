-- The pages of a batch at their dies, in any order, and a plan of them.
use Rattle.std.proofs.Common.{◌≡◌, ℕ, ◌+◌, ◌-◌, ◌<◌, ◌≤◌, inl, inr, Bool, cond, IsTrue, List, [], ◌∷◌, ◌++◌, length, get_or, take, map, ◌==◌, refl, sym, ap, ◌∙◌, subst, arith, eq-eqb}
use Rattle.std.specs.List.{All, AllByRecursion, count_by}
use Rattle.std.specs.List.Sorted.{IsPermutation}
use Rattle.std.proofs.lemmas.Bool.{cases_eq, cases_lt}
use Rattle.std.proofs.lemmas.List.{get_or-map, get_or_default, length-map, map_push, take_more, get_or-take, length-take-le}
use Rattle.std.proofs.lemmas.List.Elements.{recursion_from_All}
use Rattle.std.proofs.lemmas.List.Folds.{list_any_at}
use Rattle.std.proofs.lemmas.List.Sorted.{All-permutation, sum_by-IsPermutation, length_permutation}
use Rattle.std.proofs.lemmas.List.Sums.{sum_by_more_le}
use Rattle.fa_types.specs.Open.{open_among}
use Rattle.fa_types.specs.declared.numbers.Die.{Die}
use Rattle.fa_types.specs.declared.numbers.Page.{Page}
use Rattle.fa_batch_terms.specs.Batch.{Entry, IsSound, holds, times_named}
use Rattle.fa_batch_terms.specs.Certificate.{IsCertificate, ShowsNoFewer}
use Rattle.fa_batch_terms.specs.Plan.{AreFirstRounds, IsPlan, rounds_of, times_placed}
use Rattle.fa_batch_terms.specs.declared.place.Place.{Place}
use Rattle.fa_batch_terms.proofs.Counting.{AllByRecursion-weaker, count_by-cons, count-from-any}
use Rattle.fa_cert.proofs.Shortages.{no_fewer}
use Rattle.fa_plan.specs.declared.layout.Seat.{Seat}
use Rattle.fa_cert_places.specs.OpenCounts.{AreOpenCounts}
use Rattle.fa_plan_search.specs.Pages.{pages_of}
use Rattle.fa_plan.specs.Layout.{AreRising, IsInTurn, IsLaidOut, is_at_die, seat_of}
use Rattle.fa_plan.specs.Progress.{AreSeats}
use Rattle.fa_plan.specs.Giving.{AreReaders, AreWithinOpenCounts}
use Rattle.fa_plan_search.specs.Reading.{die_of, load_of, no_die, no_entry}
use Rattle.fa_plan.proofs.Bounds.{open_grows}
use Rattle.fa_plan.proofs.Reached.{holds_if_reads, is_named_at, times_of_pages}

-- a count of what a function makes
count_by-map : {X Y : Type 0} (f : X → Y) (p : Y → Bool) (xs : List X) → count_by p (map f xs) ≡ count_by (λ x. p (f x)) xs
count_by-map f p [] = refl
count_by-map f p (x ∷ xs) =
    let one = count_by-cons p (f x) (map f xs) in
    let other = count_by-cons (λ v. p (f v)) x xs in
    let rest = count_by-map f p xs in
    omega (arith, one, other, rest)

no_seat : Seat
no_seat = record { page = record { 0 = 0 }; die = record { 0 = 0 } }

-- one page more with its die
pub seats_more : (batch : List Entry) (given : List Die) (i : ℕ) (seats : List Seat) (page : Page) (d e : Die) → i < length batch → i < length given → (get_or batch i no_entry).page ≡ page → get_or given i e ≡ d
    → AreSeats (take i batch) (take i given) seats → AreSeats (take (i + 1) batch) (take (i + 1) given) (seats ++ record { page = page; die = d } ∷ [])
seats_more batch given i seats page d e below under is at so_far = record {
  pages = map_push (λ (s : Seat). s.page) seats (record { page = page; die = d }) ∙ ap (λ v. v ++ page ∷ []) so_far.pages
      ∙ ap (λ v. pages_of (take i batch) ++ v ∷ []) (sym is) ∙ sym (map_push (λ (v : Entry). v.page) (take i batch) (get_or batch i no_entry))
      ∙ ap pages_of (sym (take_more batch i no_entry below));
  dies = map_push (λ (s : Seat). s.die) seats (record { page = page; die = d }) ∙ ap (λ v. v ++ d ∷ []) so_far.dies
      ∙ ap (λ v. take i given ++ v ∷ []) (sym at) ∙ sym (take_more given i e under);
}

module _ (batch : List Entry) (given : List Die) (listed seats : List Seat) (are : AreSeats batch given listed) (order : IsPermutation listed seats) where
  -- how often a page and a die stand among them
  pub times_seated : (page : ℕ) → count_by (λ (s : Seat). s.page.0 == page) seats ≡ times_named batch page
  times_seated page =
      sum_by-IsPermutation (λ (s : Seat). cond (s.page.0 == page) 1 0) listed seats order
      ∙ sym (count_by-map (λ (s : Seat). s.page) (λ p. p.0 == page) listed) ∙ ap (λ v. count_by (λ (p : Page). p.0 == page) v) are.pages ∙ times_of_pages batch page

  pub load_seated : (die : ℕ) → count_by (λ (s : Seat). s.die.0 == die) seats ≡ load_of given die
  load_seated die =
      sum_by-IsPermutation (λ (s : Seat). cond (s.die.0 == die) 1 0) listed seats order
      ∙ sym (count_by-map (λ (s : Seat). s.die) (λ d. d.0 == die) listed) ∙ ap (λ v. load_of v die) are.dies

  pub seats_long : length seats ≡ length batch
  seats_long = length_permutation listed seats order ∙ sym (length-map listed (λ s. s.page)) ∙ ap (λ v. length v) are.pages ∙ length-map batch (λ e. e.page)

  -- in order of their pages, no two are alike
  pub seats_rise : ((page : ℕ) → times_named batch page ≤ 1) → ((i j : ℕ) (d : Seat) → i ≤ j → j < length seats → (get_or seats i d).page.0 ≤ (get_or seats j d).page.0) → AreRising seats
  seats_rise once up i j d less below =
      let low = up i j d (omega arith) below in
      let at = get_or seats j d in
      elim (cases_eq (get_or seats i d).page.0 at.page.0) [
        | inl same ↦
            (let front = count-from-any (λ (s : Seat). s.page.0 == at.page.0) (take j seats)
            (list_any_at (λ (s : Seat). s.page.0 == at.page.0) (take j seats) i d (let long = length-take-le j seats (omega arith) in omega (arith, long, less))
            (ap (λ (s : Seat). s.page.0 == at.page.0) (get_or-take j seats i d less) ∙ eq-eqb (get_or seats i d).page.0 at.page.0 same)) in
            let both = sum_by_more_le (λ (s : Seat). cond (s.page.0 == at.page.0) 1 0) seats j d below in
            let here = ap (λ b. cond {A = ℕ} b 1 0) (eq-eqb at.page.0 at.page.0 refl) in
            let times = times_seated at.page.0 in
            let few = once at.page.0 in
            absurd (omega (arith, front, both, here, times, few)))
        | inr other ↦ omega (arith, low, other)
      ]

  -- each die holds its page
  seats_are_held : AreReaders batch given → length given ≡ length batch → All (λ s. IsTrue (holds batch s.page.0 s.die.0)) listed
  seats_are_held readers all k d below =
      let s = get_or listed k d in
      let long : length listed ≡ length batch = sym (length-map listed (λ s. s.page)) ∙ ap (λ v. length v) are.pages ∙ length-map batch (λ e. e.page) in
      let under : k < length batch = omega (arith, long, below) in
      let page : s.page ≡ (get_or batch k no_entry).page =
      sym (get_or-map (λ (v : Seat). v.page) listed k d no_entry.page below) ∙ ap (λ v. get_or v k no_entry.page) are.pages ∙ get_or-map (λ (e : Entry). e.page) batch k no_entry no_entry.page under in
      let die : s.die ≡ get_or given k no_die =
      sym (get_or-map (λ (v : Seat). v.die) listed k d no_die below) ∙ ap (λ v. get_or v k no_die) are.dies in
      ap (λ (p : Page). holds batch p.0 s.die.0) page ∙ ap (λ (v : Die). holds batch (get_or batch k no_entry).page.0 v.0) die
      ∙ holds_if_reads batch k (die_of given k) under (readers k (omega (arith, all, under)))

  -- Places for these seats.
  module _ (current : ℕ) (closed : ℕ → ℕ → Bool) (places : List Place) (laid : IsLaidOut current closed seats places) where
    times_here : (page : ℕ) → times_placed places page ≡ times_named batch page
    times_here page = sym (count_by-map seat_of (λ s. s.page.0 == page) places) ∙ ap (λ v. count_by (λ (s : Seat). s.page.0 == page) v) laid.same ∙ times_seated page

    load_here : (die : ℕ) → count_by (is_at_die die) places ≡ load_of given die
    load_here die = sym (count_by-map seat_of (λ s. s.die.0 == die) places) ∙ ap (λ v. count_by (λ (s : Seat). s.die.0 == die) v) laid.same ∙ load_seated die

    pub is_plan : IsSound batch → AreReaders batch given → length given ≡ length batch → IsPlan batch current closed places
    is_plan sound readers all = record {
      each = λ k d below. let named = is_named_at batch k below in let same = ap (λ (e : Entry). times_placed places e.page.0) (get_or_default batch k d no_entry below) in
          let times = times_here (get_or batch k no_entry).page.0 in omega (arith, named, same, times);
      once = λ page. let times = times_here page in let few = sound.fine.once page in omega (arith, times, few);
      held = λ k d below.
          let held = All-permutation (λ (s : Seat). IsTrue (holds batch s.page.0 s.die.0)) listed seats order (seats_are_held readers all) in
          let long = sym (length-map places seat_of) ∙ ap (λ v. length v) laid.same in
          let at = sym (get_or-map seat_of places k d no_seat below) ∙ ap (λ v. get_or v k no_seat) laid.same in
          subst (λ (s : Seat). IsTrue (holds batch s.page.0 s.die.0)) (sym at) (held k no_seat (omega (arith, long, below)));
      opens = λ k d below. (laid.turns k d below).nth.is_open;
      apart = laid.apart;
    }

    pub are_first : AreFirstRounds current closed places
    are_first k d below =
        let x = get_or places k d in
        let nth = (laid.turns k d below).nth in
        let from : current ≤ x.round.0 = nth.is_open.0 in
        let count = nth.before (x.round.0 - current) (omega (arith, from)) in
        omega (arith, count)

    -- a page whose turn comes within the rounds is read within them
    in_rounds : (rounds : ℕ) → ((x : Place) → x.die.0 < 256 → count_by (is_at_die x.die.0) places ≤ open_among current closed x.die.0 rounds) → AllByRecursion (λ x. x.round.0 + 1 - current ≤ rounds) places
    in_rounds rounds room = AllByRecursion-weaker (IsInTurn current closed places) (λ x. x.round.0 + 1 - current ≤ rounds)
        (λ x turn.
        let from : current ≤ x.round.0 = turn.nth.is_open.0 in
        elim (cases_lt x.round.0 (current + rounds)) [
          | inl before ↦ omega (arith, before, from)
          | inr after ↦
              (let m = x.round.0 - current in
              let number = turn.nth.before m (omega (arith, from)) in
              let grows = open_grows current closed x.die.0 rounds m (omega (arith, after, from)) in
              let among = turn.among in
              let fits = room x turn.known in
              absurd (omega (arith, number, grows, among, fits)))
        ])
        places (recursion_from_All (IsInTurn current closed places) places laid.turns)

    rounds_within : (rounds : ℕ) (xs : List Place) → AllByRecursion (λ x. x.round.0 + 1 - current ≤ rounds) xs → rounds_of current xs ≤ rounds
    rounds_within rounds [] all = omega arith
    rounds_within rounds (x ∷ xs) all = let rest = rounds_within rounds xs all.1 in let here : x.round.0 + 1 - current ≤ rounds = all.0 in omega (arith, rest, here)

    pub is_certificate : IsSound batch → AreReaders batch given → length given ≡ length batch → (open_counts : List ℕ) (number : ℕ) (pages : List Page)
        → AreWithinOpenCounts given open_counts → AreOpenCounts current closed number open_counts → ShowsNoFewer batch current closed number pages → IsCertificate batch current closed number places pages
    is_certificate sound readers all open_counts number pages within are_open_counts shows =
        let plan = is_plan sound readers all in
        let low = no_fewer batch current closed number pages shows places plan in
        let high = rounds_within number places (in_rounds number (λ x known.
        let load = load_here x.die.0 in
        let fits = within x.die.0 known in
        let room = are_open_counts x.die.0 known in
        omega (arith, load, fits, room))) in
        record { plan = plan; length_is = omega (arith, low, high); least = shows }
