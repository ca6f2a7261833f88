-- What a request that is refused rests on.
use Rattle.fa_solo_laws.proofs.Going.{Laws, cause_kept}
use Rattle.fa_solo_laws.proofs.Gone.{done_live}
use Rattle.fa_solo_laws.proofs.RangePages.{page_met}
use Rattle.fa_solo_laws.proofs.ReadStages.{Fits}
use Rattle.fa_solo_laws.proofs.RestKept.{event_keeps}
use Rattle.fa_solo_laws.proofs.WriteWorlds.{Founds}
use Rattle.fa_solo_laws.specs.Asked.{IsNoSpare}
use Rattle.fa_solo_laws.specs.Shown.{is_crowded, roomy, store_of}
use Rattle.fa_laws.proofs.Ranged.{calls_core}
use Rattle.fa_laws.proofs.Runs.{run_keeps}
use Rattle.fa_laws.proofs.Within.{reached_inside}
use Rattle.fa_laws.specs.Reached.{IsReached}
use Rattle.fa_machine.proofs.Lists.{among-filter-intro, among-range, any_none}
use Rattle.fa_machine.specs.Among.{Among}
use Rattle.fa_machine.specs.Flushing.{flush_state, has_synced}
use Rattle.fa_machine.specs.Maps.{Numbers, is_one_of}
use Rattle.fa_machine.specs.Placement.{copies_asked, has_room, homes, order_of, targets}
use Rattle.fa_machine.specs.Run.{Event, Happening, Happens, HappensEvent, ImageCall}
use Rattle.fa_machine.specs.State.{Core, MapState, dies_of, is_live}
use Rattle.fa_machine.specs.Step.{Act, Done, FlushBegin, SpareIn, Step}
use Rattle.fa_machine.specs.World.{World}
use Rattle.fa_machine.specs.Writing.{reserve_refusal}
use Rattle.fa_machine.specs.declared.answers.Flush.{Flush}
use Rattle.fa_machine.specs.declared.answers.FlushState.{FlushState}
use Rattle.fa_machine.specs.declared.answers.FlushState.TheVariants.{NoDie as FlushNoDie, Synced, Waiting}
use Rattle.fa_machine.specs.declared.refusals.ReserveRefused.{ReserveRefused}
use Rattle.fa_machine.specs.declared.refusals.ReserveRefused.TheVariants.{NoDie as ReserveNoDie, NoRoom as ReserveNoRoom, Spent as NumbersSpent}
use Rattle.fa_machine.specs.declared.refusals.SpareRefused.TheVariants.{NotSpare}
use Rattle.fa_shared_lock.specs.Founded.{may_collect}
use Rattle.fa_shared_steps.specs.declared.range.Range.{Range}
use Rattle.fa_types.specs.Store.{HasCause, IsMet}
use Rattle.fa_types.specs.declared.blocks.BlockFault.{BlockFault}
use Rattle.fa_types.specs.declared.geometry.Geometry.{Geometry}
use Rattle.std.proofs.Common.{Bool, List, None, Some, [], ap, arith, cond, eq-eqb, eqb-true, false, inl, inr, length, not, refl, subst, sym}
use Rattle.std.proofs.Common.{suc, true, zero, ℕ, ◌+◌, ◌++◌, ◌-◌, ◌<◌, ◌∙◌, ◌∷◌, ◌≡◌, ◌≤◌}
use Rattle.std.proofs.lemmas.Bool.{and_from, cases_Bool, false≢true, lt-ltb, ltb-true, not_from_false, or_cases, or_left, or_right}
use Rattle.std.specs.Cmp.{unsigned_tied}
use Rattle.std.proofs.lemmas.List.{length-map, length-take, nil_from_length, reverse-append}
use Rattle.std.proofs.lemmas.List.FromFn.{get_or-map-range_with_len}
use Rattle.std.proofs.lemmas.Option.{none-some, same_Some}
use Rattle.std.specs.FinMap.{get, contains_key, contains_key-keys, entries, keys, len, len-entries}
use Rattle.std.specs.List.{list_all, list_any, range_with_len}
use Rattle.std.specs.Prelude.{Err, Ok, count_by, filter, if◌then◌else◌, min, nat_lt, reverse, slice_index_or, ◌&&◌, ◌==◌}
use Rattle.std.proofs.lemmas.List.Sums.{sum_by-cons}

-- a set without a number has none
pub none_of : (m : Numbers) → ((k : ℕ) → contains_key m k ≡ true → ⊥) → len m ≡ 0
none_of m none = by_keys (keys m) refl
  where
    by_keys : (ks : List ℕ) → keys m ≡ ks → len m ≡ 0
    by_keys [] e = len-entries m ∙ sym (length-map (entries m) (λ e. e.0)) ∙ ap length e
    by_keys (k ∷ ks) e =
        absurd (none k (contains_key-keys m k ∙ ap (list_any _) e ∙ or_left _ _ (unsigned_tied k k ∙ eq-eqb k k refl)))

among-left : {X : Type 0} (x : X) (xs ys : List X) → Among x xs → Among x (xs ++ ys)
among-left x [] ys i = absurd i
among-left x (y ∷ xs) ys (inl same) = inl same
among-left x (y ∷ xs) ys (inr rest) = inr (among-left x xs ys rest)

among-right : {X : Type 0} (x : X) (xs ys : List X) → Among x ys → Among x (xs ++ ys)
among-right x [] ys i = i
among-right x (y ∷ xs) ys i = inr (among-right x xs ys i)

among-reverse : {X : Type 0} (x : X) (xs : List X) → Among x xs → Among x (reverse xs)
among-reverse x [] i = absurd i
among-reverse x (y ∷ xs) (inl same) = subst (Among x) (sym (reverse-append (y ∷ []) xs)) (among-right x (reverse xs) (y ∷ []) (inl same))
among-reverse x (y ∷ xs) (inr rest) = subst (Among x) (sym (reverse-append (y ∷ []) xs)) (among-left x (reverse xs) (y ∷ []) (among-reverse x xs rest))

among-one : (n : ℕ) (xs : List ℕ) → is_one_of xs n ≡ true → Among n xs
among-one n [] e = absurd (false≢true e)
among-one n (x ∷ xs) e =
    elim (or_cases (x == n) (is_one_of xs n) e) [ inl here ↦ inl (eqb-true x n here) | inr rest ↦ inr (among-one n xs rest) ]

-- each die stands in the order of each page
in_order : (copies : ℕ) (m : MapState) (page die : ℕ) → die < m.geometry.dies → Among die (order_of copies m page)
in_order copies m page die low =
    let first = homes copies (m.geometry.dies - m.geometry.spares) page in
    let rest = filter (λ d. not (is_one_of first d)) (reverse (dies_of m)) in
    elim (cases_Bool (is_one_of first die)) [
      | inl home ↦ among-left die first rest (among-one die first home)
      | inr other ↦ among-right die first rest (among-filter-intro (λ d. not (is_one_of first d)) die (reverse (dies_of m))
          (among-reverse die (dies_of m) (among-range 0 m.geometry.dies die (omega arith) (omega (arith, low)))) (not_from_false _ other))
    ]

pub none_counted : (p : ℕ → Bool) (first n : ℕ) → ((x : ℕ) → first ≤ x → x < first + n → p x ≡ false) → count_by p (range_with_len first n) ≡ 0
none_counted p first zero none = refl
none_counted p first (suc n) none =
    let here : ◌≡◌ {A = ℕ} (cond (p first) 1 0) 0 = ap {B = ℕ} (λ b. cond b 1 0) (none first (omega arith) (omega arith)) in
    let sum = sum_by-cons (λ y. cond (p y) 1 0) first (range_with_len (first + 1) n) in
    let rest = none_counted p (first + 1) n (λ x from to. none x (omega (arith, from)) (omega (arith, to))) in omega (arith, here, sum, rest)

room_case : (a b c : Bool) → cond a (Some ReserveNoRoom) (cond b (Some ReserveNoDie) (cond c (Some NumbersSpent) None)) ≡ Some ReserveNoRoom → a ≡ true
room_case true b c e = refl
room_case false true c e = absurd (false≢true (ap is_room (same_Some ReserveNoDie ReserveNoRoom e)))
  where
    is_room : ReserveRefused → Bool
    is_room ReserveNoRoom = true
    is_room refused = false
room_case false false true e = absurd (false≢true (ap is_room (same_Some NumbersSpent ReserveNoRoom e)))
  where
    is_room : ReserveRefused → Bool
    is_room ReserveNoRoom = true
    is_room refused = false
room_case false false false e = absurd (none-some ReserveNoRoom e)

-- where not even one die has room, a write asks for more dies than have it
crowded : (core : Core) (page : ℕ) → reserve_refusal core page (min 1 (copies_asked core.copies core.page_map)) ≡ Some ReserveNoRoom
    → may_collect core.page_map ≡ false → is_crowded core ≡ true
crowded core page why none =
    let m = core.page_map in
    let asked : ℕ = copies_asked core.copies m in
    let some = filter (has_room m) (order_of core.copies m page) in
    let few = ltb-true (length (targets core.copies m page)) (min 1 asked) (room_case _ _ _ why) in
    let long = length-take asked some in
    let empty = nil_from_length some (omega (arith, few, long)) in
    let no_room = none_counted (has_room m) 0 m.geometry.dies (λ die from low.
    not_room m page die (omega (arith, low)) empty) in
    and_from (nat_lt (roomy m) asked) (not (may_collect m)) (lt-ltb (roomy m) asked (omega (arith, few, no_room))) (not_from_false (may_collect m) none)
  where
    not_room : (m : MapState) (page die : ℕ) → die < m.geometry.dies → filter (has_room m) (order_of core.copies m page) ≡ [] → has_room m die ≡ false
    not_room m page die low empty =
        elim (cases_Bool (has_room m die)) [
          | inr none ↦ none
          | inl room ↦ absurd (subst (Among die) empty (among-filter-intro (has_room m) die (order_of core.copies m page) (in_order core.copies m page die low) room))
        ]

-- copies are two or three in each world that runs lead to
some_copies : (w : World) → IsReached w → 1 ≤ w.core.copies
some_copies w r = run_keeps (λ (v : World). 1 ≤ v.core.copies) keeps r.first r.happenings w begins r.run
  where
    keeps : (before : World) (happening : Happening) (after : World) → 1 ≤ before.core.copies → Happens before happening after → 1 ≤ after.core.copies
    keeps before (Event act) after some happens = subst (λ n. 1 ≤ n) (sym (event_keeps before.core act after.core happens.step.does).0) some
    keeps before (ImageCall die gave) after some happens =
        subst (λ (c : Core). 1 ≤ c.copies) (sym (calls_core before after die (before.works die) gave happens)) some

    begins : 1 ≤ r.first.core.copies
    begins = elim (r.beginning.copies) [ inl two ↦ omega (arith, two) | inr three ↦ omega (arith, three) ]

-- the dies that are live were so as the flush was begun
abbrev pub KnowsLive : Flush → World → Type 0
KnowsLive flush w = (die : ℕ) → is_live w.core.page_map die ≡ true → slice_index_or flush.live die false ≡ true

no_die_case : (any all : Bool) → (if not any then FlushNoDie else (if all then Synced else Waiting)) ≡ FlushNoDie → any ≡ false
no_die_case false all e = refl
no_die_case true true e = absurd (false≢true (ap is_none e))
  where
    is_none : FlushState → Bool
    is_none FlushNoDie = true
    is_none state = false
no_die_case true false e = absurd (false≢true (ap is_none e))
  where
    is_none : FlushState → Bool
    is_none FlushNoDie = true
    is_none state = false

module _ (laws : Laws) (first : World) (r : Range) (f : Fits first r) where
  abbrev pub Cause : World → BlockFault → Type 0
  Cause w fault = HasCause (store_of w) r.from (r.to - r.from) fault

  begun_knows : (w after : World) (flush : Flush) → IsReached w → HappensEvent w (FlushBegin (Ok flush)) after → KnowsLive flush after
  begun_knows w after flush reached e die live =
      let was : is_live w.core.page_map die ≡ true = sym (ap (λ (c : Core). is_live c.page_map die) e.step.does.3) ∙ live in
      let low = reached_inside laws.lives laws.geometry w reached die was in
      let most = w.core.page_map.geometry.within.dies_fit.most in
      ap (λ (dies : List Bool). slice_index_or dies die false) e.step.does.2
      ∙ get_or-map-range_with_len (is_live w.core.page_map) 0 64 die die false (omega (arith, low, most)) (omega arith) ∙ was

  still_live : (w after : World) (act : Act) → IsNoSpare (Event act) → Step w.core act after.core → (die : ℕ) → is_live after.core.page_map die ≡ true
      → is_live w.core.page_map die ≡ true
  still_live w after (Done out outcome) none step die live = done_live laws.lives laws.spares w.core after.core out (get w.core.jobs out) outcome step.does die live
  still_live w after (SpareIn d (Ok made)) none step die live = absurd none
  still_live w after (SpareIn d (Err NotSpare)) none step die live = sym (ap (λ (c : Core). is_live c.page_map die) step.does.1) ∙ live
  still_live w after act none step die live = sym (ap (λ (m : Numbers). contains_key m die) (laws.lives w.core after.core act step)) ∙ live

  knows_on : (w after : World) (flush : Flush) (happening : Happening) → IsReached w → Happens w happening after → IsNoSpare happening → KnowsLive flush w
      → KnowsLive flush after
  knows_on w after flush (Event act) reached happens none knows die live = knows die (still_live w after act none happens.step die live)
  knows_on w after flush (ImageCall d gave) reached happens none knows die live =
      knows die (sym (ap (λ (c : Core). is_live c.page_map die) (calls_core w after d (w.works d) gave happens)) ∙ live)

  none_live : (w : World) (flush : Flush) → IsReached w → KnowsLive flush w → flush_state w.core flush ≡ FlushNoDie → (len w.core.page_map.live == 0) ≡ true
  none_live w flush reached knows none =
      let any = no_die_case (list_any (λ die. slice_index_or flush.live die false && is_live w.core.page_map die) (dies_of w.core.page_map))
      (list_all (has_synced w.core flush) (dies_of w.core.page_map)) none in
      eq-eqb (len w.core.page_map.live) 0 (none_of w.core.page_map.live (λ die live.
      let low = reached_inside laws.lives laws.geometry w reached die live in
      let dead = any_none (λ die. slice_index_or flush.live die false && is_live w.core.page_map die) (dies_of w.core.page_map) any die
      (among-range 0 w.core.page_map.geometry.dies die (omega arith) (omega (arith, low))) in
      false≢true (sym dead ∙ and_from (slice_index_or flush.live die false) (is_live w.core.page_map die) (knows die live) live)))

  pub cause_founds : Founds r first Cause KnowsLive
  cause_founds = record {
    no_memory = λ w. tt;
    kept = λ w after same fault cause. cause_kept w after same r.from (r.to - r.from) fault cause;
    lost_page = λ w same page of_range lost. inr (
      page,
      lost,
      subst (λ size. IsMet size r.from (r.to - r.from) page) (f.same ∙ ap (λ (g : Geometry). g.page_bytes) (sym same))
          (page_met first.core.page_map.geometry.pages r f.inside page of_range),
    );
    late = λ w late. or_left _ _ (or_right _ _ late);
    no_number = λ w none. or_left _ _ (or_left _ _ none);
    no_flush = λ w none. or_right _ _ none;
    no_room = λ w reached page why none. crowded w.core page why none;
    no_die = λ w reached none. inl (let some = some_copies w reached in let asked = eqb-true _ 0 none in
        eq-eqb (len w.core.page_map.live) 0 (omega (arith, some, asked)));
    begun = begun_knows;
    knows = knows_on;
    no_synced = λ w flush reached knows none. inl (none_live w flush reached knows none);
  }
