-- The array of three dies on which eight pages were written in turn is a beginning.
use Rattle.fa_machine.proofs.Maps.{if_equal, nat_same, place_same}
use Rattle.fa_laws.proofs.ZeroPages.{has_zero_pages, zeros_at}
use Rattle.fa_laws.specs.EightPages.{cell_in, eight, held_slots, pages_on, write_of, written_in_turn}
use Rattle.fa_machine.specs.Beginning.{IsBeginning, IsPlainOf, StandsAt}
use Rattle.fa_machine.specs.Cells.{Sealed}
use Rattle.fa_machine.specs.Copies.{holds_last}
use Rattle.fa_machine.specs.Maps.{below, place_cmp}
use Rattle.fa_machine.specs.Reading.{is_data}
use Rattle.fa_machine.specs.State.{is_live, used_at}
use Rattle.fa_machine.specs.World.{World, plain_page}
use Rattle.fa_types.specs.declared.kind.Kind.{Kind}
use Rattle.fa_types.specs.declared.kind.Kind.TheVariants.{Data, Hole}
use Rattle.fa_machine.specs.declared.places.Used.{Used}
use Rattle.fa_machine.specs.declared.places.Used.TheVariants.{Held, Reserved, Stale}
use Rattle.fa_machine.specs.declared.places.Version.{Version}
use Rattle.fa_types.specs.Geometry.{IsGeometry}
use Rattle.fa_types.specs.declared.geometry.Geometry.{Geometry}
use Rattle.std.proofs.Common.{Bool, List, None, Option, Some, [], ap, arith, cond, eqb-true, false, inl, inr, length, map, refl, replicate, subst, sym, true}
use Rattle.std.proofs.Common.{ℕ, ◌+◌, ◌-◌, ◌<◌, ◌∙◌, ◌∷◌, ◌≡◌, ◌≤◌}
use Rattle.std.proofs.lemmas.Bool.{and_parts, cases_Bool, cases_eq, cases_lt, false≢true, ltb-true, ne_eqb}
use Rattle.std.proofs.lemmas.List.{get_or-append_right, length-replicate}
use Rattle.std.proofs.lemmas.Option.{none-some, same_Some}
use Rattle.std.specs.Cmp.{unsigned_tied}
use Rattle.std.specs.FinMap.{find as find_entry, get, get-empty, get-from_sorted}
use Rattle.std.specs.List.{list_all}
use Rattle.std.specs.Ordering.{eq_by_cmp, nat_cmp}
use Rattle.std.specs.Prelude.{find, is_some, nat_lt, option_map, slice_index_or, ◌&&◌, ◌==◌}
use Rattle.std.specs.declared.cmp.Ordering.{Ordering}
use Rattle.std.specs.declared.cmp.Ordering.TheVariants.{Equal}

-- what is found passes the test that each entry passes
pub found_passes : {K X : Type 0} (R : K → K → Ordering) → ((x y : K) → R x y ≡ Equal → x ≡ y) → (test : K → X → Bool) (es : List (K × X))
    → list_all (λ e. test e.0 e.1) es ≡ true → (q : K) (x : X) → find_entry R q es ≡ Some x → test q x ≡ true
found_passes R same test [] all q x e = absurd (none-some x e)
found_passes R same test (e ∷ es) all q x found =
    let parts = and_parts (test e.0 e.1) (list_all (λ e. test e.0 e.1) es) all in
    elim (cases_Bool (eq_by_cmp R q e.0)) [
      | inl tied ↦
          let is = same_Some e.1 x (sym (ap (λ b. cond b (Some e.1) (find_entry R q es)) tied) ∙ found) in
          ap (λ y. test q y) (sym is) ∙ ap (λ k. test k e.1) (same q e.0 (if_equal (R q e.0) tied)) ∙ parts.0
      | inr apart ↦ found_passes R same test es parts.1 q x (sym (ap (λ b. cond b (Some e.1) (find_entry R q es)) apart) ∙ found)
    ]

found_mapped : {X Y : Type 0} (f : X → Y) (q : ℕ) (es : List (ℕ × X)) → find_entry nat_cmp q (map (λ e. (e.0, f e.1)) es) ≡ option_map f (find_entry nat_cmp q es)
found_mapped f q [] = refl
found_mapped f q (e ∷ es) = branch (eq_by_cmp nat_cmp q e.0) (found_mapped f q es)
  where
    branch : (b : Bool) → find_entry nat_cmp q (map (λ e. (e.0, f e.1)) es) ≡ option_map f (find_entry nat_cmp q es)
        → cond b (Some (f e.1)) (find_entry nat_cmp q (map (λ e. (e.0, f e.1)) es)) ≡ option_map f (cond b (Some e.1) (find_entry nat_cmp q es))
    branch true rest = refl
    branch false rest = rest

-- a number above those of the entries is not found
pub missing : {X : Type 0} (n q : ℕ) (es : List (ℕ × X)) → list_all (λ e. nat_lt e.0 n) es ≡ true → n ≤ q → find_entry nat_cmp q es ≡ None
missing n q [] all high = refl
missing n q (e ∷ es) all high =
    let parts = and_parts (nat_lt e.0 n) (list_all (λ e. nat_lt e.0 n) es) all in
    let low = ltb-true e.0 n parts.0 in
    ap (λ b. cond b (Some e.1) (find_entry nat_cmp q es)) (unsigned_tied q e.0 ∙ ne_eqb q e.0 (λ is. absurd (omega (arith, is, low, high))))
    ∙ missing n q es parts.1 high

below_eight : (P : ℕ → Type 0) → P 0 → P 1 → P 2 → P 3 → P 4 → P 5 → P 6 → P 7 → (page : ℕ) → page < 8 → P page
below_eight P a b c d e f g h page low =
    elim (cases_eq 0 page) [
      | inl is ↦ subst P is a
      | inr not0 ↦
          elim (cases_eq 1 page) [
            | inl is ↦ subst P is b
            | inr not1 ↦
                elim (cases_eq 2 page) [
                  | inl is ↦ subst P is c
                  | inr not2 ↦
                      elim (cases_eq 3 page) [
                        | inl is ↦ subst P is d
                        | inr not3 ↦
                            elim (cases_eq 4 page) [
                              | inl is ↦ subst P is e
                              | inr not4 ↦
                                  elim (cases_eq 5 page) [
                                    | inl is ↦ subst P is f
                                    | inr not5 ↦
                                        elim (cases_eq 6 page) [
                                          | inl is ↦ subst P is g
                                          | inr not6 ↦
                                              elim (cases_eq 7 page) [
                                                | inl is ↦ subst P is h
                                                | inr not7 ↦
                                                    absurd (omega (arith, low, not0, not1, not2, not3, not4, not5, not6, not7))
                                              ]
                                        ]
                                  ]
                            ]
                      ]
                ]
          ]
    ]

-- the slot of a page on a die
abbrev slot_of : ℕ → ℕ → Option ℕ
slot_of die page = find (λ slot. slice_index_or (pages_on die) slot 64 == page) (below 8)

abbrev is_number : Option ℕ → ℕ → Bool
is_number None n = false
is_number (Some m) n = m == n

-- a slot that is used has one of the eight pages with its write, on one of the three dies
abbrev is_good : ℕ × ℕ → Used → Bool
is_good place (Held page version) =
    nat_lt place.0 3 && (nat_lt place.1 8 && (nat_lt page.0 8 && (version.seq.0 == page.0 + 1 && (is_data version.kind && is_number (slot_of place.0 page.0) place.1))))
is_good place used = false

record IsGood (place : ℕ × ℕ) (used : Used) : Type 0 where
  die : place.0 < 3
  slot : place.1 < 8
  page : ℕ
  low : page < 8
  holds : used ≡ Held (record { 0 = page }) (write_of page)
  alone : slot_of place.0 page ≡ Some place.1

it_is_data : (kind : Kind) → is_data kind ≡ true → kind ≡ Data
it_is_data Data e = refl
it_is_data Hole e = absurd (false≢true e)

number_is : (o : Option ℕ) (n : ℕ) → is_number o n ≡ true → o ≡ Some n
number_is None n e = absurd (false≢true e)
number_is (Some m) n e = ap Some (eqb-true m n e)

good : (place : ℕ × ℕ) (used : Used) → is_good place used ≡ true → IsGood place used
good place Reserved e = absurd (false≢true e)
good place Stale e = absurd (false≢true e)
good place (Held page version) e =
    let a = and_parts (nat_lt place.0 3) _ e in
    let b = and_parts (nat_lt place.1 8) _ a.1 in
    let c = and_parts (nat_lt page.0 8) _ b.1 in
    let d = and_parts (version.seq.0 == page.0 + 1) _ c.1 in
    let f = and_parts (is_data version.kind) (is_number (slot_of place.0 page.0) place.1) d.1 in
    let seq = eqb-true version.seq.0 (page.0 + 1) d.0 in
    let kind = it_is_data version.kind f.0 in
    record {
      die = ltb-true place.0 3 a.0;
      slot = ltb-true place.1 8 b.0;
      page = page.0;
      low = ltb-true page.0 8 c.0;
      holds = λ i. Held page (record { seq = record { 0 = seq i }; kind = kind i });
      alone = number_is (slot_of place.0 page.0) place.1 f.1;
    }

module _ (size : ℕ) (within : IsGeometry 3 0 16 8 size 64) (bytes : ℕ → List ℕ) (sized : (page : ℕ) → length (bytes page) ≡ size) where
  abbrev g : Geometry
  g = record { dies = 3; spares = 0; blocks = 16; slots = 8; page_bytes = size; pages = 64; within = within }

  abbrev w : World
  w = written_in_turn g bytes

  abbrev live_dies : List (ℕ × Unit {0})
  live_dies = (0, tt) ∷ (1, tt) ∷ (2, tt) ∷ []

  abbrev written : List (ℕ × Version)
  written = map (λ page. (page, write_of page)) eight

  number_at : (page : ℕ) → get w.core.page_map.versions page ≡ find_entry nat_cmp page written
  number_at page = get-from_sorted nat_cmp written page tt

  number_of : (page : ℕ) → page < 8 → find_entry nat_cmp page written ≡ Some (write_of page)
  number_of = below_eight (λ page. find_entry nat_cmp page written ≡ Some (write_of page)) refl refl refl refl refl refl refl refl

  plain_of : (page : ℕ) → page < 8 → bytes page ≡ plain_page w page
  plain_of = below_eight (λ page. bytes page ≡ plain_page w page) refl refl refl refl refl refl refl refl

  plain_above : (page : ℕ) → 8 ≤ page → page < 64 → plain_page w page ≡ replicate size 0
  plain_above page high low =
      get_or-append_right (map bytes eight) (replicate 56 (replicate size 0)) 8 page [] refl high
      ∙ zeros_at 56 (replicate size 0) (page - 8) (omega (arith, high, low))

  used_is : (die slot : ℕ) → used_at w.core.page_map die slot ≡ find_entry place_cmp (die, slot) held_slots
  used_is die slot = get-from_sorted place_cmp held_slots (die, slot) tt

  live_is : (die : ℕ) → is_live w.core.page_map die ≡ is_some (find_entry nat_cmp die live_dies)
  live_is die = ap is_some (get-from_sorted nat_cmp live_dies die tt)

  good_at : (die slot : ℕ) (used : Used) → used_at w.core.page_map die slot ≡ Some used → IsGood (die, slot) used
  good_at die slot used e =
      good (die, slot) used (found_passes place_cmp place_same is_good held_slots refl (die, slot) used (sym (used_is die slot) ∙ e))

  is_there : {X : Type 0} (o : Option X) → is_some o ≡ true → (x : X) × (o ≡ Some x)
  is_there None e = absurd (false≢true e)
  is_there (Some x) e = (x, refl)

  live_low : (die : ℕ) → is_live w.core.page_map die ≡ true → die < 3
  live_low die e =
      let found = is_there (find_entry nat_cmp die live_dies) (sym (live_is die) ∙ e) in
      ltb-true die 3 (found_passes nat_cmp nat_same (λ d _. nat_lt d 3) live_dies refl die found.0 found.1)

  low_live : (die : ℕ) → die < 3 → is_live w.core.page_map die ≡ true
  low_live die low = live_is die ∙ three die low
    where
      three : (die : ℕ) → die < 3 → is_some (find_entry nat_cmp die live_dies) ≡ true
      three die low =
          elim (cases_eq 0 die) [
            | inl is ↦ subst (λ d. is_some (find_entry nat_cmp d live_dies) ≡ true) is refl
            | inr not0 ↦
                elim (cases_eq 1 die) [
                  | inl is ↦ subst (λ d. is_some (find_entry nat_cmp d live_dies) ≡ true) is refl
                  | inr not1 ↦
                      elim (cases_eq 2 die) [
                        | inl is ↦ subst (λ d. is_some (find_entry nat_cmp d live_dies) ≡ true) is refl
                        | inr not2 ↦
                            absurd (omega (arith, low, not0, not1, not2))
                      ]
                ]
          ]

  held_good : (die slot : ℕ) (used : Used) → IsGood (die, slot) used → (w.images die).seen slot ≡ cell_in bytes die slot (Some used)
      → StandsAt w die slot (Some used)
  held_good die slot used is seen =
      subst (λ u. StandsAt w die slot (Some u)) (sym is.holds) (
        number_at is.page ∙ number_of is.page is.low,
        seen ∙ ap (λ u. cell_in bytes die slot (Some u)) is.holds ∙ ap (λ x. Sealed is.page (write_of is.page) die slot x) (plain_of is.page is.low),
      )

  stands_so : (die slot : ℕ) (o : Option Used) → used_at w.core.page_map die slot ≡ o → StandsAt w die slot o
  stands_so die slot None e = ap (cell_in bytes die slot) e
  stands_so die slot (Some used) e = held_good die slot used (good_at die slot used e) (ap (cell_in bytes die slot) e)

  -- the slot of a current copy
  alone_at : (page die slot : ℕ) (o : Option Used) → used_at w.core.page_map die slot ≡ o → holds_last page (get w.core.page_map.versions page) o ≡ true
      → slot_of die page ≡ Some slot
  alone_at page die slot o e h = held_at o e (get w.core.page_map.versions page) h
    where
      held_one : (used : Used) → IsGood (die, slot) used → (v : Version) → holds_last page (Some v) (Some used) ≡ true → slot_of die page ≡ Some slot
      held_one used is v h =
          let same = and_parts (is.page == page) _ (sym (ap (λ u. holds_last page (Some v) (Some u)) is.holds) ∙ h) in
          ap (slot_of die) (sym (eqb-true is.page page same.0)) ∙ is.alone

      held_at : (o : Option Used) → used_at w.core.page_map die slot ≡ o → (n : Option Version) → holds_last page n o ≡ true → slot_of die page ≡ Some slot
      held_at o e None h = absurd (false≢true h)
      held_at None e (Some v) h = absurd (false≢true h)
      held_at (Some used) e (Some v) h = held_one used (good_at die slot used e) v h

  plain_so : (page : ℕ) → page < 64 → IsPlainOf w page (get w.core.page_map.versions page)
  plain_so page low =
      elim (cases_lt page 8) [
        | inl written ↦ subst (IsPlainOf w page) (sym (number_at page ∙ number_of page written))
            (plain_of page written, λ hole. absurd (data_is_no_hole hole), omega arith, omega (arith, written))
        | inr never ↦ subst (IsPlainOf w page) (sym (number_at page ∙ missing 8 page written refl never)) (plain_above page never low)
      ]
    where
      data_is_no_hole : Data ≡ Hole → ⊥
      data_is_no_hole e = false≢true (sym (ap is_data e))

  pub begins : IsBeginning w
  begins = record {
    fresh = refl;
    copies = inl refl;
    enough = omega arith;
    based = λ page.
        get-from_sorted nat_cmp (map (λ page. (page, page + 1)) eight) page tt
        ∙ found_mapped (λ (v : Version). v.seq.0) page written ∙ sym (ap (option_map {T = Version} (λ version. version.seq.0)) (number_at page));
    last = omega arith;
    live = live_low;
    spares = λ die e. absurd (false≢true (sym (ap is_some (get-empty nat_cmp die)) ∙ e));
    used = λ die slot e.
        let there = is_there (used_at w.core.page_map die slot) e in
        let is = good_at die slot there.0 there.1 in
        (low_live die is.die, (let s = is.slot in omega (arith, s)));
    stands = λ die slot alive low. stands_so die slot (used_at w.core.page_map die slot) refl;
    once = λ page die slot other a b.
        let here = (and_parts (is_live w.core.page_map die) _ a).1 in
        let there = (and_parts (is_live w.core.page_map die) _ b).1 in
        same_Some slot other (sym (alone_at page die slot (used_at w.core.page_map die slot) refl here)
        ∙ alone_at page die other (used_at w.core.page_map die other) refl there);
    written = λ page e.
        let found = is_there (find_entry nat_cmp page written) (sym (ap is_some (number_at page)) ∙ e) in
        ltb-true page 64 (found_passes nat_cmp nat_same (λ p _. nat_lt p 64) written refl page found.0 found.1);
    plain = plain_so;
    pages = (
      refl,
      (
        sized 0,
        (
          sized 1,
          (
            sized 2,
            (
              sized 3,
              (
                sized 4,
                (
                  sized 5,
                  (
                    sized 6,
                    (
                      sized 7,
                      has_zero_pages 56 (replicate size 0) size (length-replicate size 0),
                    ),
                  ),
                ),
              ),
            ),
          ),
        ),
      ),
    );
    idle = λ die. refl;
    told = refl;
  }
