-- The collector's window and its moves, and flushes, of states that are told by lists.
use Rattle.fa_laws.proofs.Endings.{HasOutcome}
use Rattle.fa_laws.proofs.Listed.{insert_listed, inserts_listed, remove_listed}
use Rattle.fa_laws.proofs.Making.{ends, step_first, takes}
use Rattle.fa_machine.proofs.Maps.{nat_same, place_cmp_total, place_same}
use Rattle.fa_laws.proofs.Planning.{closed_in, closed_same}
use Rattle.fa_laws.proofs.Table.{Ordered, Table, core_of, in_order, is_ordered}
use Rattle.fa_laws.proofs.Tabled.{at, at_number, can_take, did, free_in, idle_in, is_none_there, took, with_number, without_number}
use Rattle.fa_machine.specs.Cells.{DidMove, DidSync}
use Rattle.fa_machine.specs.Collecting.{is_in_block, next_step, slots_in}
use Rattle.fa_machine.specs.Copies.{holds_last, is_current, is_held_slot, is_reserved_slot, is_stale_slot}
use Rattle.fa_machine.specs.Maps.{below, place_cmp}
use Rattle.fa_types.specs.Windows.{is_in_window, window_rounds}
use Rattle.fa_machine.specs.Run.{HappensEvent}
use Rattle.fa_machine.specs.State.{Core, MapState, slots_of, used_at}
use Rattle.fa_machine.specs.Step.{Done, FlushBegin, FlushState, Take, Window, is_die}
use Rattle.fa_machine.specs.Taking.{flight_of, handed, move_from}
use Rattle.fa_machine.specs.Turning.{MayHaveWindow}
use Rattle.fa_machine.specs.World.{World}
use Rattle.fa_machine.specs.Reading.{is_late}
use Rattle.fa_machine.specs.declared.answers.Flush.{Flush}
use Rattle.fa_machine.specs.declared.answers.FlushState.{FlushState as StateOfFlush}
use Rattle.fa_machine.specs.declared.answers.FlushState.TheVariants.{NoDie, Synced, Waiting}
use Rattle.fa_machine.specs.declared.jobs.CollectorStep.{CollectorStep}
use Rattle.fa_machine.specs.declared.jobs.CollectorStep.TheVariants.{EraseBlock, MoveSlot, Nothing}
use Rattle.fa_machine.specs.declared.jobs.Flight.{Flight}
use Rattle.fa_machine.specs.declared.jobs.Flight.TheVariants.{Erase, Move, Sync}
use Rattle.fa_machine.specs.declared.places.Used.{Used}
use Rattle.fa_machine.specs.declared.places.Used.TheVariants.{Held, Reserved, Stale}
use Rattle.fa_machine.specs.declared.places.Version.{Version}
use Rattle.fa_types.specs.Open.{max_closed, rounds_that}
use Rattle.fa_types.specs.declared.geometry.Geometry.{Geometry}
use Rattle.fa_types.specs.declared.numbers.Page.{Page}
use Rattle.fa_types.specs.declared.numbers.Round.{Round}
use Rattle.fa_types.specs.declared.numbers.Slot.{Slot}
use Rattle.std.proofs.Common.{Bool, List, None, Option, Some, ap, arith, false, length, map, not, refl, suc, sym, true, ℕ, ◌+◌, ◌-◌, ◌∙◌, ◌≡◌}
use Rattle.std.proofs.lemmas.Bool.{and_parts, leb-true, not-true}
use Rattle.fa_laws.proofs.Rounds.{taken_rounds}
use Rattle.fa_types.specs.Windows.{is_in_window, window_rounds}
use Rattle.fa_machine.specs.Rounds.{is_taken}
use Rattle.std.specs.FinMap.Entries.{is_sorted-put}
use Rattle.std.specs.Cmp.{nat_cmp_total}
use Rattle.std.specs.FinMap.{FinMap, entries-from_sorted, find as find_entry, from_sorted, get-from_sorted, insert, put, remove}
use Rattle.std.specs.List.{fold, list_all, list_any, range_with_len}
use Rattle.std.specs.Ordering.{nat_cmp}
use Rattle.std.specs.Option.{option_map_or}
use Rattle.std.specs.Prelude.{slice_index_or, T, count_by, find, if◌then◌else◌, is_none, is_some, nat_le, nat_lt, option_map, unwrap_or, Ok, ◌&&◌, ◌||◌, ◌/◌, ◌==◌, ◌^◌}

abbrev pub windowed : ℕ → Round → Round → Table → Table
windowed die first last t = record t { windows = with_number die (record { first = first; last = last }) t.windows }

abbrev pub move_taken : ℕ → Page → Version → Slot → Slot → Table → Table
move_taken die page version from to t = record t {
  jobs = with_number die (Move page version from to) t.jobs;
  used = put place_cmp (die, to.0) Reserved t.used;
}

abbrev pub move_done : ℕ → Page → Version → Slot → Slot → Table → Table
move_done die page version from to t = record t {
  jobs = without_number die t.jobs;
  used = put place_cmp (die, to.0) (Held page version) (put place_cmp (die, from.0) Stale t.used);
  stepped = with_number die tt t.stepped;
}

abbrev pub flush_begun : Table → Table
flush_begun t = record t {
  flushes = t.flushes + 1;
  asked = fold (λ es k. put nat_cmp k (t.flushes + 1) es) t.asked (map (λ e. e.0) t.live);
}

abbrev pub sync_done : ℕ → ℕ → Table → Table
sync_done die flushes t = record t { jobs = without_number die t.jobs; synced = with_number die flushes t.synced }

module _ (g : Geometry) where
  -- the collector's step, where the slots are in these states
  module _ (m : MapState) (u : ℕ → ℕ → Option Used) (die : ℕ) where
    abbrev count_with : ℕ → (Option Used → Bool) → ℕ
    count_with block test = count_by (λ slot. test (u die slot)) (slots_in m block)

    abbrev outside_with : ℕ → ℕ → Bool
    outside_with block slot = is_none (u die slot) && not (is_in_block m block slot)

    abbrev may_with : ℕ → Bool
    may_with block =
        nat_lt 0 (count_with block is_stale_slot) && count_with block is_reserved_slot == 0
        && nat_le (count_with block is_held_slot) (count_by (outside_with block) (slots_of m))

    abbrev no_better_with : ℕ → ℕ → Bool
    no_better_with b block = not (may_with block) || nat_le (count_with block is_stale_slot) (count_with b is_stale_slot)

    abbrev victim_with : Option ℕ
    victim_with = find (λ b. may_with b && list_all (no_better_with b) (below m.geometry.blocks)) (below m.geometry.blocks)

    abbrev step_with : ℕ → CollectorStep
    step_with block = option_map_or (λ slot. MoveSlot (record { 0 = slot }))
        (find (λ slot. is_held_slot (u die slot)) (slots_in m block)) (EraseBlock (record { 0 = block }))

    abbrev move_with : ℕ → Option Used → Option Flight
    move_with from (Some (Held page version)) =
        option_map (λ to. Move page version (record { 0 = from }) (record { 0 = to })) (find (outside_with (from / m.geometry.slots)) (slots_of m))
    move_with from used = None

    abbrev flight_with : CollectorStep → Option Flight
    flight_with (MoveSlot from) = move_with from.0 (u die from.0)
    flight_with (EraseBlock block) = Some (Erase block)
    flight_with Nothing = None

    abbrev collects_with : Option Flight
    collects_with = flight_with (option_map_or step_with victim_with Nothing)

  same_move : (m : MapState) (die from : ℕ) (o : Option Used) → move_from m die from o ≡ move_with m (used_at m) die from o
  same_move m die from None = refl
  same_move m die from (Some Reserved) = refl
  same_move m die from (Some Stale) = refl
  same_move m die from (Some (Held page version)) = refl

  same_flight : (m : MapState) (die : ℕ) (step : CollectorStep) → flight_of m die step ≡ flight_with m (used_at m) die step
  same_flight m die (MoveSlot from) = same_move m die from.0 (used_at m die from.0)
  same_flight m die (EraseBlock block) = refl
  same_flight m die Nothing = refl

  same_collects : (m : MapState) (die : ℕ) → flight_of m die (next_step m die) ≡ collects_with m (used_at m) die
  same_collects m die = same_flight m die (next_step m die)

  module _ (t : Table) (o : Ordered t) (die : ℕ) where
    abbrev core : Core
    core = core_of g t

    abbrev states : ℕ → ℕ → Option Used
    states d slot = find_entry place_cmp (d, slot) t.used

    states_same : used_at core.page_map ≡ states
    states_same = λ i d slot. get-from_sorted place_cmp t.used (d, slot) o.used i

    pub collects_same : flight_of core.page_map die (next_step core.page_map die) ≡ collects_with core.page_map states die
    collects_same = same_collects core.page_map die ∙ ap (λ u. collects_with core.page_map u die) states_same

    abbrev pub collects_in : Option Flight
    collects_in = collects_with core.page_map states die

    -- the die is live, rounds are left, and its calendar has room
    abbrev pub may_have : ℕ → Bool
    may_have count = is_some (at_number die t.live) && (not (is_late core.calendar)
        && nat_le (length t.bookings + window_rounds t.round (at_number die t.windows) + count) max_closed)

    may_take : (count : ℕ) → may_have count ≡ true → MayHaveWindow core die count
    may_take count e =
        let a = and_parts (is_some (at_number die t.live)) _ e in
        let b = and_parts (not (is_late core.calendar)) _ a.1 in
        record {
          live = ap is_some (get-from_sorted nat_cmp t.live die o.live) ∙ a.0;
          early = not-true (is_late core.calendar) b.0;
          room = λ n.
              let same : rounds_that (is_taken core.calendar die) t.round n
              ≡ rounds_that (λ r. is_some (find_entry place_cmp (die, r) t.bookings) || is_in_window (at_number die t.windows) r) t.round n =
              λ i. rounds_that (λ r. is_some (get-from_sorted place_cmp t.bookings (die, r) o.bookings i)
              || is_in_window (get-from_sorted nat_cmp t.windows die o.windows i) r) t.round n in
              let taken = taken_rounds t.bookings (at_number die t.windows) die t.round n in
              let few = leb-true _ _ b.1 in
              omega (arith, same, taken, few);
        }

    -- a window in the very next rounds
    pub takes_window : (v : World) (count : ℕ) (first last : Round) → (is_die core die && nat_le 1 count && nat_le count 64) ≡ true
        → may_have count ≡ true → is_some (at_number die t.windows) ≡ false → first.0 ≡ t.round + 1 → last.0 ≡ first.0 + count - 1
        → list_all (λ round. not (closed_in g t t.bookings die round)) (range_with_len first.0 count) ≡ true
        → HappensEvent (at g t v) (Window die count (Ok first)) (at g (windowed die first last t) (record v { moment = suc v.moment }))
    takes_window v count first last may room free next ends_at opens = record {
      step = record {
        allows = may;
        does = (
          may_take count room,
          ap is_some (get-from_sorted nat_cmp t.windows die o.windows) ∙ free,
          record {
            later = omega (arith, next);
            opens = (λ i. list_all (λ round. not (closed_same g t o t.bookings o.bookings i die round)) (range_with_len first.0 count)) ∙ opens;
            earliest = λ round low high. absurd (omega (arith, low, high, next));
          },
          (λ i. record core {
            calendar = record (core.calendar) {
              windows = sym (insert_listed nat_cmp_total nat_same t.windows die (record { first = first; last = last }) o.windows) i;
            };
          }) ∙ (λ i. record core {
            calendar = record (core.calendar) {
              windows = insert (from_sorted t.windows) die (record { first = first; last = record { 0 = ends_at i } });
            };
          }),
        );
      };
      told = tt;
      follows = refl;
    }

    pub takes_move : (v : World) (seat : ℕ) (page : Page) (version : Version) (from to : Slot) → can_take g t die ≡ true → free_in g t die ≡ true
        → not (is_some (at_number die t.behind)) ≡ true
        → (is_in_window (at_number die t.windows) t.round && not (is_some (at_number die t.stepped))) ≡ true
        → collects_in ≡ Some (Move page version from to)
        → HappensEvent (at g t v) (Take die seat (Some (handed (Move page version from to))))
        (at g (move_taken die page version from to t) (took die (handed (Move page version from to)) v))
    takes_move v seat page version from to can free ahead inside is =
        takes (at g t v) die seat (Move page version from to) (core_of g (move_taken die page version from to t)) can (idle_in g t o die free)
        (step_first core die (Move page version from to)
        (get-from_sorted nat_cmp t.behind die o.behind ∙ is_none_there (at_number die t.behind) ahead)
        ((λ i. is_in_window (get-from_sorted nat_cmp t.windows die o.windows i) t.round && not (is_some (get-from_sorted nat_cmp t.stepped die o.stepped i))) ∙ inside)
        (collects_same ∙ is))
        (λ i. record core {
          jobs = sym (insert_listed nat_cmp_total nat_same t.jobs die (Move page version from to) o.jobs) i;
          page_map = record (core.page_map) { used = sym (insert_listed place_cmp_total place_same t.used (die, to.0) Reserved o.used) i };
        })

    pub ends_move : (v : World) (page : Page) (version : Version) (from to : Slot) → at_number die t.jobs ≡ Some (Move page version from to)
        → HasOutcome die (v.works die) DidMove
        → (is_some (at_number die t.live) && holds_last page.0 (at_number page.0 t.versions) (states die from.0)) ≡ true
        → HappensEvent (at g t v) (Done die DidMove) (at g (move_done die page version from to t) (did die (Move page version from to) DidMove v))
    ends_move v page version from to there worked kept =
        let mid : List ((ℕ × ℕ) × Used) = put place_cmp (die, from.0) Stale t.used in
        let current : is_current core.page_map page.0 die from.0 ≡ true =
        (λ i. is_some (get-from_sorted nat_cmp t.live die o.live i)
        && holds_last page.0 (get-from_sorted nat_cmp t.versions page.0 o.versions i) (get-from_sorted place_cmp t.used (die, from.0) o.used i)) ∙ kept in
        ends (at g t v) die (Move page version from to) DidMove (core_of g (move_done die page version from to t))
        (get-from_sorted nat_cmp t.jobs die o.jobs ∙ there) refl worked
        ((λ i. record core {
          jobs = sym (remove_listed nat_cmp_total nat_same t.jobs die o.jobs) i;
          page_map = record (core.page_map) {
            used = sym (insert_listed place_cmp_total place_same mid (die, to.0) (Held page version)
                (is_sorted-put place_cmp place_cmp_total (die, from.0) Stale t.used o.used)) i;
          };
          stepped = sym (insert_listed nat_cmp_total nat_same t.stepped die tt o.stepped) i;
        }) ∙ (λ i. record core {
          jobs = remove (from_sorted t.jobs) die;
          page_map = record (core.page_map) {
            used = insert (sym (insert_listed place_cmp_total place_same t.used (die, from.0) Stale o.used) i) (die, to.0)
                (if sym current i then Held page version else Stale);
          };
          stepped = insert (from_sorted t.stepped) die tt;
        }))

    pub ends_sync : (v : World) (flushes : ℕ) → at_number die t.jobs ≡ Some (Sync flushes) → HasOutcome die (v.works die) DidSync
        → HappensEvent (at g t v) (Done die DidSync) (at g (sync_done die flushes t) (did die (Sync flushes) DidSync v))
    ends_sync v flushes there worked =
        ends (at g t v) die (Sync flushes) DidSync (core_of g (sync_done die flushes t)) (get-from_sorted nat_cmp t.jobs die o.jobs ∙ there) refl worked
        (λ i. record core {
          jobs = sym (remove_listed nat_cmp_total nat_same t.jobs die o.jobs) i;
          synced = sym (insert_listed nat_cmp_total nat_same t.synced die flushes o.synced) i;
        })

  pub begins_flush : (t : Table) (v : World) (flush : Flush) → T (is_ordered t) → (t.flushes == 2 ^ 62) ≡ false → flush.number ≡ t.flushes + 1
      → flush.live ≡ map (λ die. is_some (at_number die t.live)) (below 64)
      → HappensEvent (at g t v) (FlushBegin (Ok flush)) (at g (flush_begun t) (record v { moment = suc v.moment }))
  begins_flush t v flush ordered few number live =
      let o = in_order t ordered in
      let core : Core = core_of g t in
      record {
        step = record {
          allows = refl;
          does = (
            few,
            number,
            live ∙ (λ i. map (λ die. is_some (sym (get-from_sorted nat_cmp t.live die o.live) i)) (below 64)),
            (λ i. record core {
              flushes = t.flushes + 1;
              asked = sym (inserts_listed nat_cmp_total nat_same (λ (die : ℕ). die) (λ _. t.flushes + 1) (map (λ e. e.0) t.live) t.asked o.asked) i;
            }) ∙ (λ i. record core {
              flushes = t.flushes + 1;
              asked = fold (λ (m : FinMap nat_cmp ℕ) die. insert m die (t.flushes + 1)) (from_sorted t.asked)
                  (map (λ e. e.0) (sym (entries-from_sorted nat_cmp t.live o.live) i));
            }),
          );
        };
        told = tt;
        follows = refl;
      }

  abbrev pub state_in : Table → Flush → StateOfFlush
  state_in t flush =
      if not (list_any (λ die. slice_index_or flush.live die false && is_some (at_number die t.live)) (below g.dies)) then NoDie
      else (if list_all (λ die. not (slice_index_or flush.live die false) || not (is_some (at_number die t.live))
      || nat_le flush.number (unwrap_or (at_number die t.synced) 0)) (below g.dies) then Synced else Waiting)

  pub looks_at_flush : (t : Table) (v : World) (flush : Flush) (answer : StateOfFlush) → T (is_ordered t) → answer ≡ state_in t flush
      → HappensEvent (at g t v) (FlushState flush answer) (at g t (record v { moment = suc v.moment }))
  looks_at_flush t v flush answer ordered is =
      let o = in_order t ordered in
      record {
        step = record {
          allows = refl;
          does = (
            is ∙ sym (λ i.
                if not (list_any (λ die. slice_index_or flush.live die false && is_some (get-from_sorted nat_cmp t.live die o.live i)) (below g.dies)) then NoDie
                else (if list_all (λ die. not (slice_index_or flush.live die false) || not (is_some (get-from_sorted nat_cmp t.live die o.live i))
                || nat_le flush.number (unwrap_or (get-from_sorted nat_cmp t.synced die o.synced i) 0)) (below g.dies) then Synced else Waiting)),
            refl,
          );
        };
        told = tt;
        follows = refl;
      }
