use Rattle.fa_laws.proofs.Invariant.{next}
use Rattle.fa_machine.proofs.Maps.{get-insert_same, nat_same}
use Rattle.fa_machine.proofs.Values.{get-insert_all_among}
use Rattle.fa_machine.specs.Among.{Among}
use Rattle.fa_laws.specs.Formatted.{admits_one, formatted, new_map}
use Rattle.fa_machine.specs.Copies.{holders}
use Rattle.fa_machine.specs.Maps.{insert_all, place_cmp}
use Rattle.fa_machine.specs.Reading.{IsPlanned, answered, at_once, booked, has_data, is_fresh, names_batch}
use Rattle.fa_machine.specs.Reading.{released, to_read, zeros}
use Rattle.fa_types.specs.Windows.{is_in_window}
use Rattle.fa_machine.specs.Run.{HappensEvent}
use Rattle.fa_machine.specs.State.{CalendarState, Core, MapState, OpenBatch}
use Rattle.fa_machine.specs.Step.{EndBatch}
use Rattle.fa_machine.specs.World.{World}
use Rattle.fa_machine.specs.declared.jobs.Flight.{Flight}
use Rattle.fa_machine.specs.declared.places.Booking.{Booking}
use Rattle.fa_machine.specs.declared.places.Version.{Version}
use Rattle.fa_types.specs.declared.window.Window.{Window as WindowOf}
use Rattle.fa_types.specs.Open.{FewClosed}
use Rattle.fa_closed.proofs.Windows.{rounds_that-none}
use Rattle.fa_machine.specs.Rounds.{is_taken_with}
use Rattle.fa_types.specs.declared.geometry.Geometry.{Geometry}
use Rattle.std.proofs.Common.{List, None, Some, [], ap, arith, cond, eq-eqb, false, inl, length, map, not, refl, subst, sym, true, ℕ, ◌<◌}
use Rattle.std.proofs.Common.{◌∙◌, ◌∷◌, ◌≡◌}
use Rattle.std.proofs.lemmas.Bool.{and_from, false≢true, lt-ltb, not_from_false, or_from}
use Rattle.std.proofs.lemmas.List.Elements.{All-nil}
use Rattle.std.specs.Cmp.{nat_cmp_total, unsigned_tied}
use Rattle.std.specs.FinMap.{empty, entries, get, get-empty, insert, len-empty, len-entries, remove}
use Rattle.std.specs.List.{cons_option, list_any}
use Rattle.std.specs.Ordering.{is_eq, nat_cmp}
use Rattle.std.specs.Prelude.{is_some, option_map, replicate, unwrap_or, ◌&&◌, ◌||◌, ◌==◌}
use Rattle.std.specs.declared.cmp.Ordering.{Ordering}
use Rattle.std.specs.declared.cmp.Ordering.TheVariants.{Equal, Greater, Less}
use Rattle.fa_laws.proofs.beginnings.a_new_page_is_answered_with_zeros.Goals as goal

no_entries : {K X : Type 0} (es : List (K × X)) → length es ≡ 0 → es ≡ []
no_entries [] e = refl
no_entries (x ∷ xs) e = absurd (omega (arith, e))

empty_entries : {X : Type 0} → entries (empty {X = X} {R = place_cmp}) ≡ []
empty_entries {X} = no_entries (entries (empty {X = X} {R = place_cmp})) (sym (len-entries (empty {X = X} {R = place_cmp})) ∙ len-empty place_cmp X)

empty_jobs : {X : Type 0} → entries (empty {X = X} {R = nat_cmp}) ≡ []
empty_jobs {X} = no_entries (entries (empty {X = X} {R = nat_cmp})) (sym (len-entries (empty {X = X} {R = nat_cmp})) ∙ len-empty nat_cmp X)

no_plan_needed : (m : MapState) (calendar : CalendarState) → IsPlanned m calendar [] (record { rounds = 0; places = []; shortage = [] })
no_plan_needed m calendar = record {
  certificate = record {
    plan = record {
      each = All-nil _;
      once = λ page. omega arith;
      held = All-nil _;
      opens = All-nil _;
      apart = λ die round. omega arith;
    };
    length_is = refl;
    least = refl;
  };
  first = All-nil _;
}

module _ (geometry : Geometry) (page : ℕ) (low : page < geometry.pages) where
  abbrev m : MapState
  m = new_map geometry

  abbrev w : World
  w = formatted geometry

  never : get (empty {X = Version} {R = nat_cmp}) page ≡ None
  never = get-empty nat_cmp page

  none_read : to_read m (page ∷ []) ≡ []
  none_read = ap (λ o. cond (has_data o) (page ∷ []) []) never

  one_at_once : at_once m (page ∷ []) ≡ page ∷ []
  one_at_once = ap (λ o. cond (not (has_data o)) (page ∷ []) []) never

  abbrev batch : OpenBatch
  batch = record { pages = page ∷ []; answers = insert_all (at_once m (page ∷ [])) (zeros m) empty }

  abbrev core_then : Core
  core_then = record (w.core) { calendar = booked (record { 0 = 0 }) [] w.core.calendar; batches = insert w.core.batches 0 batch }

  abbrev middle : World
  middle = next (admits_one geometry page) core_then w

  few : FewClosed 1 (is_taken_with w.core.calendar [])
  few die n =
      let none = rounds_that-none (is_taken_with w.core.calendar [] die) 1 n
      (λ r low high i. (is_some (get-empty {X = Booking} place_cmp (die, r) i) || is_in_window (get-empty {X = WindowOf} nat_cmp die i) r) || false) in
      omega (arith, none)

  fresh_id : is_fresh w.core 0 ≡ true
  fresh_id = not_from_false _ (or_from _ _ (or_from _ _ (ap is_some (get-empty {X = OpenBatch} nat_cmp 0))
      (ap (λ (es : List ((ℕ × ℕ) × Booking)). list_any (λ (b : Booking). b.batch.0 == 0) (map (λ e. e.1) es)) empty_entries))
      (ap (λ (es : List (ℕ × Flight)). list_any (names_batch 0) (map (λ e. e.1) es)) empty_jobs))

  admitted : HappensEvent w (admits_one geometry page) middle
  admitted = record {
    step = record {
      allows = and_from _ _ (and_from _ _ refl (and_from _ _ (lt-ltb page geometry.pages low) refl)) refl;
      does = (
        (
          ap (λ o. cond (is_some o && length (holders m page) == 0) (Some page) None) never,
          refl,
          subst (λ ps. IsPlanned m w.core.calendar ps (record { rounds = 0; places = []; shortage = [] })) (sym none_read) (no_plan_needed m w.core.calendar),
          few,
        ),
        fresh_id,
        refl,
      );
    };
    told = tt;
    follows = refl;
  }

  zeros_there : get batch.answers page ≡ Some (zeros m)
  zeros_there = get-insert_all_among nat_cmp_total nat_same (at_once m (page ∷ [])) (zeros m) empty page (same_cmp page)
      (subst (Among page) (sym one_at_once) (inl refl))
    where
      equal_of : (r : Ordering) → is_eq r ≡ true → r ≡ Equal
      equal_of Less h = absurd (false≢true h)
      equal_of Equal h = refl
      equal_of Greater h = absurd (false≢true h)

      same_cmp : (n : ℕ) → nat_cmp n n ≡ Equal
      same_cmp n = equal_of (nat_cmp n n) (unsigned_tied n n ∙ eq-eqb n n refl)

  there : get core_then.batches 0 ≡ Some batch
  there = get-insert_same (empty {X = OpenBatch} {R = nat_cmp}) 0 batch

  abbrev core_last : Core
  core_last = record core_then { calendar = released 0 core_then.calendar; batches = remove core_then.batches 0 }

  ended : HappensEvent middle (EndBatch 0 ((page, replicate geometry.page_bytes 0) ∷ [])) (next (EndBatch 0 ((page, replicate geometry.page_bytes 0) ∷ [])) core_last middle)
  ended = record {
    step = record {
      allows = ap is_some there;
      does = (sym (ap (λ o. answered (unwrap_or o (record { pages = []; answers = empty }))) there ∙ ap (λ o. cons_option (option_map (λ bytes. (page, bytes)) o) []) zeros_there), refl);
    };
    told = tt;
    follows = refl;
  }

pub returns : goal.returns
returns c geometry page low = (
  middle geometry page low,
  next (EndBatch 0 ((page, replicate geometry.page_bytes 0) ∷ [])) (core_last geometry page low) (middle geometry page low),
  admitted geometry page low,
  ended geometry page low,
)
