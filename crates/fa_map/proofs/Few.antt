-- The pages that few dies hold, as entries change.
use Rattle.std.proofs.Common.{◌≡◌, ◌⊎◌, ℕ, ◌+◌, ◌*◌, ◌-◌, ◌<◌, ◌≤◌, ◌==◌, min, if◌then◌else◌, Bool, true, false, List, length, set, ap, cond, inl, inr, refl, sym, ◌∙◌, arith}
use Rattle.std.proofs.lemmas.Bool.{cases_eq, cases_lt, eq-eqb, ne_eqb}
use Rattle.std.specs.FinMap.{contains_key, insert, remove}
use Rattle.std.specs.List.{find, range_with_len}
use Rattle.std.specs.Prelude.{is_some}
use Rattle.fa_machine.specs.Maps.{Numbers}
use Rattle.fa_machine.proofs.Maps.{get-insert_same, get-insert_other, get-remove_same, get-remove_other}
use Rattle.fa_types.specs.declared.geometry.Geometry.{Geometry}
use Rattle.fa_map.specs.Chains.{entry_at, entry_of}
use Rattle.fa_map.specs.Entries.{copies_in, die_holds, is_copy_of, is_current_entry}
use Rattle.fa_map.specs.Few.{AreFew, Few, IsCounted, IsPut, with_member}
use Rattle.fa_map_calls.specs.Plain.{die_slots}
use Rattle.fa_map.specs.declared.entries.Entry.{Entry}
use Rattle.fa_map.specs.declared.entries.Entry.TheVariants.{Erased, Current}
use Rattle.fa_map.proofs.Chained.{same_page}
use Rattle.fa_map_calls.proofs.Changed.{place_cases}
use Rattle.fa_map.proofs.Counted.{bare, holds, no_copy}
use Rattle.fa_map_calls.proofs.Ranges.{bit, count_agree, count_changed, count_same, count_some, find_agree}
use Rattle.fa_map.proofs.Tabled.{bare_entry}
use Rattle.fa_map.proofs.Tallied.{entry_same, entry_other}

-- what is in a set after a number came in, or went
pub member_put : (m : Numbers) (n k : ℕ) (wanted : Bool) → contains_key (with_member n wanted m) k ≡ (if k == n then wanted else contains_key m k)
member_put m n k true =
    elim (cases_eq k n) [
      | inl same ↦
          ap (contains_key (insert m n tt)) same ∙ ap is_some (get-insert_same m n tt)
          ∙ sym (ap (λ (b : Bool). cond b true (contains_key m k)) (eq-eqb k n same))
      | inr apart ↦
          ap is_some (get-insert_other m n tt k apart) ∙ sym (ap (λ (b : Bool). cond b true (contains_key m k)) (ne_eqb k n apart))
    ]
member_put m n k false =
    elim (cases_eq k n) [
      | inl same ↦
          ap (contains_key (remove m n)) same ∙ ap is_some (get-remove_same m n)
          ∙ sym (ap (λ (b : Bool). cond b false (contains_key m k)) (eq-eqb k n same))
      | inr apart ↦
          ap is_some (get-remove_other m n k apart) ∙ sym (ap (λ (b : Bool). cond b false (contains_key m k)) (ne_eqb k n apart))
    ]

module _ (pages : ℕ) (copies : ℕ → ℕ) (few : Few) (are : AreFew pages copies few) where
  -- the lowest page with one copy, or with two
  pub few_found : (count from : ℕ) → 1 ≤ count → count ≤ 2
      → find (contains_key (if count == 1 then few.one else few.two)) (range_with_len from (few.bound - from))
      ≡ find (λ page. copies page == count) (range_with_len from (pages - from))
  few_found count from some small =
      ap (λ k. find (contains_key (if count == 1 then few.one else few.two)) (range_with_len from (k - from))) are.bound
      ∙ find_agree (contains_key (if count == 1 then few.one else few.two)) (λ page. copies page == count) from (pages - from)
      (λ k low high. elim (cases_eq count 1) [
        | inl is ↦
            ap (λ (b : Bool). contains_key (if b then few.one else few.two) k) (eq-eqb count 1 is)
            ∙ are.ones k (omega (arith, low, high)) ∙ ap (λ j. copies k == j) (sym is)
        | inr apart ↦
            let two : 2 ≡ count = omega (arith, some, small, apart) in
            ap (λ (b : Bool). contains_key (if b then few.one else few.two) k) (ne_eqb count 1 apart)
            ∙ are.twos k (omega (arith, low, high)) ∙ ap (λ j. copies k == j) two
      ])

  module _ (more : ℕ → ℕ) where
    -- as many copies of each page
    pub few_alike : ((page : ℕ) → more page ≡ copies page) → AreFew pages more few
    few_alike same = record {
      bound = are.bound;
      ones = λ page fits. are.ones page fits ∙ ap (λ k. k == 1) (sym (same page));
      twos = λ page fits. are.twos page fits ∙ ap (λ k. k == 2) (sym (same page));
    }

    -- one page has another number of copies
    pub few_put : (page n : ℕ) (new : Few) → IsPut few page n new → ((k : ℕ) → (k ≡ page → ⊥) → more k ≡ copies k)
        → (n == 1) ≡ (more page == 1) → (n == 2) ≡ (more page == 2) → AreFew pages more new
    few_put page n new put same is_one is_two = record {
      bound = put.bound ∙ are.bound;
      ones = λ k fits. ap (λ (m : Numbers). contains_key m k) put.one ∙ member_put few.one page k (n == 1) ∙ at 1 k (contains_key few.one k) is_one (are.ones k fits);
      twos = λ k fits. ap (λ (m : Numbers). contains_key m k) put.two ∙ member_put few.two page k (n == 2) ∙ at 2 k (contains_key few.two k) is_two (are.twos k fits);
    }
      where
        at : (count k : ℕ) (b : Bool) → (n == count) ≡ (more page == count) → b ≡ (copies k == count) → (if k == page then n == count else b) ≡ (more k == count)
        at count k b here was =
            elim (cases_eq k page) [
              | inl is ↦ ap (λ (c : Bool). cond c (n == count) b) (eq-eqb k page is) ∙ here ∙ ap (λ j. more j == count) (sym is)
              | inr apart ↦ ap (λ (c : Bool). cond c (n == count) b) (ne_eqb k page apart) ∙ was ∙ ap (λ j. j == count) (sym (same k apart))
            ]

-- two numbers of copies that are one, or more than two
same_few : (count n k : ℕ) → count ≤ 2 → (n ≡ k) ⊎ ((2 < n) × (2 < k)) → (n == count) ≡ (k == count)
same_few count n k small (inl same) = ap (λ j. j == count) same
same_few count n k small (inr more) =
    ne_eqb n count (λ is. omega (arith, is, small, more.0)) ∙ sym (ne_eqb k count (λ is. omega (arith, is, small, more.1)))

-- one copy less, or one more, where no more than four were counted
one_off : (total counted k : ℕ) → counted ≡ min 4 total → k + 1 ≡ total → (counted - 1 ≡ k) ⊎ ((2 < counted - 1) × (2 < k))
one_off total counted k is less =
    elim (cases_lt total 4) [
      | inl few ↦ inl (omega (arith, is, less, few))
      | inr many ↦ inr (omega (arith, is, less, many), omega (arith, is, less, many))
    ]

one_on : (total counted k : ℕ) → counted ≡ min 4 total → k ≡ total + 1 → (counted + 1 ≡ k) ⊎ ((2 < counted + 1) × (2 < k))
one_on total counted k is more =
    elim (cases_lt total 4) [
      | inl few ↦ inl (omega (arith, is, more, few))
      | inr many ↦ inr (omega (arith, is, more, many), omega (arith, is, more, many))
    ]

module _ (g : Geometry) (entries : List Entry) (die slot : ℕ) (low : die < g.dies) (within : slot < die_slots g)
    (fits : die * die_slots g + slot < length entries) (e : Entry) where
  abbrev n : ℕ
  n = die_slots g

  abbrev after : List Entry
  after = set entries (die * n + slot) e

  -- a page that the slot does not hold, before and after
  as_held : (page : ℕ) → (entry_of entries n die slot ≡ Current page → ⊥) → (e ≡ Current page → ⊥) → (d : ℕ) → die_holds after n page d ≡ die_holds entries n page d
  as_held page was is d =
      ap is_some (find_agree (λ s. is_copy_of page (entry_of after n d s)) (λ s. is_copy_of page (entry_of entries n d s)) 0 n
      (λ s from to. elim (place_cases d s die slot) [
        | inl at ↦
            ap (is_copy_of page) (entry_same entries n die slot d s e fits at.0 at.1) ∙ no_copy page e is
            ∙ sym (no_copy page (entry_of entries n die slot) was) ∙ (λ i. is_copy_of page (entry_of entries n (sym at.0 i) (sym at.1 i)))
        | inr apart ↦ ap (is_copy_of page) (entry_other entries n die slot d s e within (omega (arith, to)) apart)
      ]))

  as_many : (page : ℕ) → (entry_of entries n die slot ≡ Current page → ⊥) → (e ≡ Current page → ⊥) → copies_in after g page ≡ copies_in entries g page
  as_many page was is = count_agree (die_holds after n page) (die_holds entries n page) 0 g.dies (λ d from to. as_held page was is d)

  other_die : (page d : ℕ) → (d ≡ die → ⊥) → die_holds after n page d ≡ die_holds entries n page d
  other_die page d off =
      ap is_some (find_agree (λ s. is_copy_of page (entry_of after n d s)) (λ s. is_copy_of page (entry_of entries n d s)) 0 n
      (λ s from to. ap (is_copy_of page) (entry_other entries n die slot d s e within (omega (arith, to)) (λ a b. off a))))

  module _ (page : ℕ) where
    shifted : copies_in entries g page + bit (die_holds after n page die) ≡ copies_in after g page + bit (die_holds entries n page die)
    shifted = count_changed (die_holds entries n page) (die_holds after n page) 0 g.dies die (omega arith) (omega (arith, low)) (λ d from to off. sym (other_die page d off))

    one_more : e ≡ Current page → ((s : ℕ) → s < n → entry_of entries n die s ≡ Current page → ⊥) → copies_in after g page ≡ copies_in entries g page + 1
    one_more is none =
        let change = shifted in
        let was = ap bit (bare entries n page die none) in
        let now = ap bit (holds after n page die slot within (entry_same entries n die slot die slot e fits refl refl ∙ is)) in
        omega (arith, change, was, now)

    one_less : entry_of entries n die slot ≡ Current page → (e ≡ Current page → ⊥)
        → ((s : ℕ) → s < n → entry_of entries n die s ≡ Current page → s ≡ slot) → copies_in after g page + 1 ≡ copies_in entries g page
    one_less is gone once =
        let change = shifted in
        let was = ap bit (holds entries n page die slot within is) in
        let now = ap bit (bare after n page die (λ s inside k. elim (place_cases die s die slot) [
          | inl at ↦ gone (sym (entry_same entries n die slot die s e fits refl at.1) ∙ k)
          | inr apart ↦ apart refl (once s inside (sym (entry_other entries n die slot die s e within inside apart) ∙ k))
        ])) in
        omega (arith, change, was, now)

    pub some_copies : entry_of entries n die slot ≡ Current page → 1 ≤ copies_in entries g page
    some_copies is =
        let some = count_some (die_holds entries n page) 0 g.dies die (omega arith) (omega (arith, low)) (holds entries n page die slot within is) in
        omega (arith, some)

  module _ (few : Few) (are : IsCounted g entries few) where
    -- a slot that held no copy, and holds none
    pub few_plain : is_current_entry (entry_of entries n die slot) ≡ false → is_current_entry e ≡ false → IsCounted g after few
    unfolding IsCounted
    few_plain was is = few_alike g.pages (copies_in entries g) few are (copies_in after g)
        (λ page. as_many page (bare_entry (entry_of entries n die slot) page was) (bare_entry e page is))

    module _ (page counted : ℕ) (is_counted : counted ≡ min 4 (copies_in entries g page)) (new : Few) where
      pub few_removed : entry_of entries n die slot ≡ Current page → is_current_entry e ≡ false
          → ((s : ℕ) → s < n → entry_of entries n die s ≡ Current page → s ≡ slot)
          → IsPut few page (counted - 1) new → IsCounted g after new
      unfolding IsCounted
      few_removed was plain once put =
          let less = one_less page was (bare_entry e page plain) once in
          let off = one_off (copies_in entries g page) counted (copies_in after g page) is_counted less in
          few_put g.pages (copies_in entries g) few are (copies_in after g) page (counted - 1) new put
          (λ q apart. as_many q (λ k. apart (same_page q page (sym k ∙ was))) (bare_entry e q plain))
          (same_few 1 (counted - 1) (copies_in after g page) (omega arith) off) (same_few 2 (counted - 1) (copies_in after g page) (omega arith) off)

      pub few_added : is_current_entry (entry_of entries n die slot) ≡ false → e ≡ Current page
          → ((s : ℕ) → s < n → entry_of entries n die s ≡ Current page → ⊥)
          → IsPut few page (counted + 1) new → IsCounted g after new
      unfolding IsCounted
      few_added free is none put =
          let more = one_more page is none in
          let off = one_on (copies_in entries g page) counted (copies_in after g page) is_counted more in
          few_put g.pages (copies_in entries g) few are (copies_in after g) page (counted + 1) new put
          (λ q apart. as_many q (bare_entry (entry_of entries n die slot) q free) (λ k. apart (same_page q page (sym k ∙ is))))
          (same_few 1 (counted + 1) (copies_in after g page) (omega arith) off) (same_few 2 (counted + 1) (copies_in after g page) (omega arith) off)

module _ (g : Geometry) (entries : List Entry) (few : Few) where
  -- in new tables no page has a copy
  pub few_new : ((k : ℕ) → entry_at entries k ≡ Erased) → AreFew g.pages (λ page. 0) few → IsCounted g entries few
  unfolding IsCounted
  few_new erased are =
      few_alike g.pages (λ page. 0) few are (copies_in entries g)
      (λ page. count_same (die_holds entries (die_slots g) page) false 0 g.dies
      (λ d. bare entries (die_slots g) page d (λ s inside is. bare_entry Erased page refl (sym (erased (d * die_slots g + s)) ∙ is))))

  pub few_bound : IsCounted g entries few → few.bound ≡ g.pages
  unfolding IsCounted
  few_bound are = are.bound

  pub few_copies : IsCounted g entries few → AreFew g.pages (copies_in entries g) few
  unfolding IsCounted
  few_copies are = are
