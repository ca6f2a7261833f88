-- Spares that come in, copies, writes that are abandoned, erases and folds, of states that are told by lists.
use Rattle.fa_laws.proofs.Collects.{collects_in, collects_same}
use Rattle.fa_laws.proofs.Endings.{HasOutcome}
use Rattle.fa_laws.proofs.Listed.{insert_listed, inserts_listed, keep_listed, remove_listed}
use Rattle.fa_laws.proofs.Making.{ends, step_first, takes}
use Rattle.fa_laws.proofs.Placing.{asked_same, erased_same, room_in, room_same}
use Rattle.fa_laws.proofs.Planning.{copies_same, copy_in, holders_in, holders_same}
use Rattle.fa_laws.proofs.Table.{Ordered, Table, core_of, in_order, is_ordered}
use Rattle.fa_laws.proofs.Tabled.{at, at_number, can_take, did, free_in, idle_in, is_none_there, took, with_number, without_number}
use Rattle.fa_laws.proofs.Writes.{key_of, live_in, live_same, page_there, reserved_there, target_in, with_slots}
use Rattle.fa_machine.proofs.Maps.{nat_same, place_cmp_total, place_same}
use Rattle.fa_machine.specs.Cells.{DidErase}
use Rattle.fa_machine.specs.Conditions.{first_that}
use Rattle.fa_machine.specs.History.{is_commit, replay}
use Rattle.fa_machine.specs.Maps.{place_cmp}
use Rattle.fa_machine.specs.Placement.{copy_place, is_thin, order_of}
use Rattle.fa_machine.specs.Run.{HappensEvent}
use Rattle.fa_machine.specs.State.{Core, Reservation}
use Rattle.fa_machine.specs.Step.{Abandon, CommitCopy, Done, Fold, ReserveCopy, SpareIn, Take, is_die, is_page}
use Rattle.fa_machine.specs.Taking.{handed, stays}
use Rattle.fa_machine.specs.Turning.{CommitsCopy, copied_payload, copying_to, has_number, reserve_copy_refusal}
use Rattle.fa_machine.specs.World.{Told, World}
use Rattle.fa_machine.specs.Writing.{Abandons, is_programming, live_targets, program_at, target_on, with_targets}
use Rattle.fa_machine.specs.declared.answers.Copied.TheVariants.{Current}
use Rattle.fa_machine.specs.declared.answers.HistoryEntry.{HistoryEntry}
use Rattle.fa_machine.specs.declared.answers.HistoryEntry.TheVariants.{Commit as CommitEntry, Start}
use Rattle.fa_machine.specs.declared.ids.Block.{Block}
use Rattle.fa_machine.specs.declared.jobs.Flight.TheVariants.{Erase}
use Rattle.fa_machine.specs.declared.places.Copying.{Copying}
use Rattle.fa_machine.specs.declared.places.Target.{Target}
use Rattle.fa_machine.specs.declared.places.Used.TheVariants.{Held, Reserved, Stale}
use Rattle.fa_machine.specs.declared.places.Version.{Version}
use Rattle.fa_machine.specs.declared.refusals.AbandonRefused.{AbandonRefused}
use Rattle.fa_machine.specs.declared.refusals.AbandonRefused.TheVariants.{Pending as AbandonPending, Programmed}
use Rattle.fa_machine.specs.declared.refusals.CommitCopyRefused.{CommitCopyRefused}
use Rattle.fa_machine.specs.declared.refusals.CommitCopyRefused.TheVariants.{Pending as CopyPending, Failed}
use Rattle.fa_machine.specs.declared.refusals.ReserveCopyRefused.{ReserveCopyRefused}
use Rattle.fa_machine.specs.declared.refusals.ReserveCopyRefused.TheVariants.{Gone, NoRoom, Busy}
use Rattle.fa_types.specs.Windows.{is_in_window}
use Rattle.fa_types.specs.declared.geometry.Geometry.{Geometry}
use Rattle.std.proofs.Common.{Bool, List, None, Option, Some, [], ap, false, length, map, not, refl, subst, suc, sym, true, ℕ, ◌+◌, ◌++◌, ◌∙◌, ◌∷◌, ◌≡◌}
use Rattle.std.proofs.lemmas.Bool.{and_from}
use Rattle.std.specs.Cmp.{nat_cmp_total}
use Rattle.std.specs.FinMap.{FinMap, from_sorted, get, get-from_sorted, insert, is_sorted, put}
use Rattle.std.specs.FinMap.Entries.{is_sorted-put}
use Rattle.std.specs.List.{list_any}
use Rattle.std.specs.Ordering.{nat_cmp}
use Rattle.std.specs.Prelude.{Contains, Ok, T, unwrap_or, count_by, filter, find, is_none, is_some, min, nat_lt, ◌&&◌, ◌==◌}

abbrev pub brought : ℕ → Table → Table
brought die t = record t {
  live = with_number die tt t.live;
  epoch = t.epoch + 1;
  behind = with_number die tt t.live;
  spares = without_number die t.spares;
}

abbrev pub copy_committed : Copying → Table → Table
copy_committed c t = record t { copying = None; used = put place_cmp (key_of c.target) (Held c.page c.version) t.used }

abbrev pub abandoned_in : ℕ → ℕ → Reservation → Table → Table
abandoned_in id page r t = record t {
  used = with_slots Stale (map key_of (live_in t r.targets)) t.used;
  waiting = filter (λ p. not (list_any (λ x. x.die.0 == p.die && x.slot.0 == p.slot) r.targets)) t.waiting;
  claims = with_number id (record { page = page; reserved = None }) t.claims;
}

abbrev pub erase_taken : ℕ → Block → Table → Table
erase_taken die block t = record t { jobs = with_number die (Erase block) t.jobs }

-- the numbers of pages after some entries
abbrev pub replay_in : List (ℕ × ℕ) → List HistoryEntry → List (ℕ × ℕ)
replay_in numbers [] = numbers
replay_in numbers (CommitEntry seat page seq ∷ entries) = replay_in (with_number page.0 seq.0 numbers) entries
replay_in numbers (Start seat page seq ∷ entries) = replay_in numbers entries

abbrev pub folded_in : Table → Table
folded_in t = record t {
  based = replay_in t.based t.history;
  commits = t.commits + count_by is_commit t.history;
  starts = t.starts + count_by (λ entry. not (is_commit entry)) t.history;
  history = [];
}

replay_listed : (numbers : List (ℕ × ℕ)) (entries : List HistoryEntry) → T (is_sorted nat_cmp numbers)
    → replay (from_sorted numbers) entries ≡ from_sorted (replay_in numbers entries)
replay_listed numbers [] h = refl
replay_listed numbers (CommitEntry seat page seq ∷ entries) h =
    ap (λ (m : FinMap nat_cmp ℕ). replay m entries) (insert_listed nat_cmp_total nat_same numbers page.0 seq.0 h)
    ∙ replay_listed (with_number page.0 seq.0 numbers) entries (is_sorted-put nat_cmp nat_cmp_total page.0 seq.0 numbers h)
replay_listed numbers (Start seat page seq ∷ entries) h = replay_listed numbers entries h

module _ (g : Geometry) where
  pub folds : (t : Table) (v : World) → T (is_sorted nat_cmp t.based)
      → HappensEvent (at g t v) Fold (at g (folded_in t) (record v { moment = suc v.moment }))
  folds t v sorted = record {
    step = record {
      allows = refl;
      does = λ i. record (core_of g t) {
        base = record {
          numbers = sym (replay_listed t.based t.history sorted) i;
          commits = t.commits + count_by is_commit t.history;
          starts = t.starts + count_by (λ entry. not (is_commit entry)) t.history;
        };
        history = [];
      };
    };
    told = tt;
    follows = refl;
  }

  pub brings_in : (t : Table) (v : World) (die : ℕ) → T (is_ordered t) → T (is_sorted nat_cmp t.spares) → is_die (core_of g t) die ≡ true
      → is_some (at_number die t.spares) ≡ true
      → HappensEvent (at g t v) (SpareIn die (Ok tt)) (at g (brought die t) (record v { moment = suc v.moment }))
  brings_in t v die ordered sorted may spare =
      let o = in_order t ordered in
      record {
        step = record {
          allows = may;
          does = (
            ap is_some (get-from_sorted nat_cmp t.spares die sorted) ∙ spare,
            (λ i. record (core_of g t) {
              page_map = record ((core_of g t).page_map) { live = sym (insert_listed nat_cmp_total nat_same t.live die tt o.live) i };
              epoch = t.epoch + 1;
              behind = sym (insert_listed nat_cmp_total nat_same t.live die tt o.live) i;
              spares = sym (remove_listed nat_cmp_total nat_same t.spares die sorted) i;
            }),
          );
        };
        told = tt;
        follows = refl;
      }

  -- whether a page has fewer copies than it is to have, and where one more goes
  abbrev pub thin_in : Table → ℕ → Bool
  thin_in t page = let n = length (holders_in g t page) in nat_lt 0 n && nat_lt n (min t.copies (length t.live))

  abbrev pub place_in : Table → ℕ → Option ℕ
  place_in t page = find (λ die. room_in g t die && not (is_some (copy_in g t page die))) (order_of t.copies (core_of g t).page_map page)

  abbrev pub copy_refused : Table → ℕ → ℕ → Option ReserveCopyRefused
  copy_refused t page seq = first_that (
      (not (thin_in t page && has_number seq (at_number page t.versions)), Gone)
      ∷ (is_none (place_in t page), NoRoom) ∷ (is_some t.copying, Busy) ∷ [])

  abbrev pub copy_reserved : ℕ → List ℕ → Version → ℕ → Table → Table
  copy_reserved page payload version die t = record t {
    used = put place_cmp (key_of (target_in g t die)) Reserved t.used;
    waiting = t.waiting ++ program_at page version (copied_payload (core_of g t).page_map version.kind payload) (target_in g t die) ∷ [];
    copying = Some (record { page = record { 0 = page }; version = version; target = target_in g t die });
  }

  module _ (t : Table) (o : Ordered t) where
    abbrev core : Core
    core = core_of g t

    thin_same : (page : ℕ) → is_thin t.copies core.page_map page ≡ thin_in t page
    thin_same page = λ i. let n = length (holders_same g t o page i) in nat_lt 0 n && nat_lt n (asked_same g t o i)

    place_same_in : (page : ℕ) → copy_place t.copies core.page_map page ≡ place_in t page
    place_same_in page = λ i. find (λ die. room_same g t o die i && not (is_some (copies_same g t o page die i))) (order_of t.copies core.page_map page)

    refused_same : (page seq : ℕ) → reserve_copy_refusal core page seq ≡ copy_refused t page seq
    refused_same page seq = λ i. first_that {R = ReserveCopyRefused} (
        (not (thin_same page i && has_number seq (get-from_sorted nat_cmp t.versions page o.versions i)), Gone)
        ∷ (is_none (place_same_in page i), NoRoom) ∷ (is_some t.copying, Busy) ∷ [])

    -- the state with a copy under way to this target
    abbrev with_target : ℕ → List ℕ → Version → Target → Core
    with_target page payload version x = record core {
      page_map = with_targets Reserved (x ∷ []) core.page_map;
      waiting = t.waiting ++ program_at page version (copied_payload core.page_map version.kind payload) x ∷ [];
      copying = Some (record { page = record { 0 = page }; version = version; target = x });
    }

    copying_same : (page : ℕ) (payload : List ℕ) (version : Version) (die : ℕ) → at_number page t.versions ≡ Some version → place_in t page ≡ Some die
        → core_of g (copy_reserved page payload version die t) ≡ copying_to core page payload (get core.page_map.versions page) (copy_place t.copies core.page_map page)
    copying_same page payload version die number place =
        (λ i. record (with_target page payload version (target_in g t die)) {
          page_map = record (core.page_map) { used = sym (insert_listed place_cmp_total place_same t.used (key_of (target_in g t die)) Reserved o.used) i };
        })
        ∙ sym (ap (with_target page payload version) (target_same die))
        ∙ sym ((λ i. copying_to core page payload (get-from_sorted nat_cmp t.versions page o.versions i) (place_same_in page i))
        ∙ (λ i. copying_to core page payload (number i) (place i)))
      where
        target_same : (die : ℕ) → target_on core.page_map die ≡ target_in g t die
        target_same die = λ i. record { die = record { 0 = die }; slot = record { 0 = unwrap_or (erased_same g t o die i) 0 }; programmed = false }

    pub reserves_copy : (v : World) (page seq : ℕ) (payload : List ℕ) (version : Version) (die : ℕ) → is_page core page ≡ true
        → (length payload == g.page_bytes) ≡ true → copy_refused t page seq ≡ None → at_number page t.versions ≡ Some version
        → place_in t page ≡ Some die → Contains {X = Told} v.told (record { page = page; seq = seq; bytes = payload })
        → HappensEvent (at g t v) (ReserveCopy page seq payload (Ok tt)) (at g (copy_reserved page payload version die t) (record v { moment = suc v.moment }))
    reserves_copy v page seq payload version die inside sized free number place told = record {
      step = record {
        allows = and_from _ _ inside sized;
        does = (refused_same page seq ∙ free, copying_same page payload version die number place);
      };
      told = told;
      follows = refl;
    }

    pub commits_copy : (v : World) (c : Copying) → t.copying ≡ Some c → is_some (at_number c.target.die.0 t.live) ≡ true → c.target.programmed ≡ true
        → has_number c.version.seq.0 (at_number c.page.0 t.versions) ≡ true
        → HappensEvent (at g t v) (CommitCopy (Ok Current)) (at g (copy_committed c t) (record v { moment = suc v.moment }))
    commits_copy v c there alive done current =
        let live : is_some (get core.page_map.live c.target.die.0) ≡ true = ap is_some (get-from_sorted nat_cmp t.live c.target.die.0 o.live) ∙ alive in
        record {
          step = record {
            allows = ap is_some there;
            does = subst (λ x. CommitsCopy core x (Ok Current) (core_of g (copy_committed c t))) (sym there) (
              (λ i. first_that {R = CommitCopyRefused} ((live i && not (done i), CopyPending) ∷ (not (live i), Failed) ∷ [])),
              ap (has_number c.version.seq.0) (get-from_sorted nat_cmp t.versions c.page.0 o.versions) ∙ current,
              (λ i. record core {
                copying = None;
                page_map = record (core.page_map) { used = sym (insert_listed place_cmp_total place_same t.used (key_of c.target) (Held c.page c.version) o.used) i };
              }),
            );
          };
          told = tt;
          follows = refl;
        }

  abbrev pub erase_done : ℕ → Block → Table → Table
  erase_done die block t = record t {
    jobs = without_number die t.jobs;
    used = filter (λ e. stays (core_of g t).page_map die block.0 e.0 e.1) t.used;
    stepped = with_number die tt t.stepped;
  }

  pub takes_erase : (t : Table) (o : Ordered t) (die : ℕ) (v : World) (seat : ℕ) (block : Block) → can_take g t die ≡ true → free_in g t die ≡ true
      → not (is_some (at_number die t.behind)) ≡ true
      → (is_in_window (at_number die t.windows) t.round && not (is_some (at_number die t.stepped))) ≡ true
      → collects_in g t o die ≡ Some (Erase block)
      → HappensEvent (at g t v) (Take die seat (Some (handed (Erase block)))) (at g (erase_taken die block t) (took die (handed (Erase block)) v))
  takes_erase t o die v seat block can free ahead inside is =
      takes (at g t v) die seat (Erase block) (core_of g (erase_taken die block t)) can (idle_in g t o die free)
      (step_first (core_of g t) die (Erase block)
      (get-from_sorted nat_cmp t.behind die o.behind ∙ is_none_there (at_number die t.behind) ahead)
      ((λ i. is_in_window (get-from_sorted nat_cmp t.windows die o.windows i) t.round && not (is_some (get-from_sorted nat_cmp t.stepped die o.stepped i))) ∙ inside)
      (collects_same g t o die ∙ is))
      (λ i. record (core_of g t) { jobs = sym (insert_listed nat_cmp_total nat_same t.jobs die (Erase block) o.jobs) i })

  pub ends_erase : (t : Table) (v : World) (die : ℕ) (block : Block) → T (is_ordered t) → T (is_ordered (erase_done die block t))
      → at_number die t.jobs ≡ Some (Erase block) → HasOutcome die (v.works die) DidErase
      → HappensEvent (at g t v) (Done die DidErase) (at g (erase_done die block t) (did die (Erase block) DidErase v))
  ends_erase t v die block ordered then_ordered there worked =
      let o = in_order t ordered in
      let l = in_order (erase_done die block t) then_ordered in
      ends (at g t v) die (Erase block) DidErase (core_of g (erase_done die block t)) (get-from_sorted nat_cmp t.jobs die o.jobs ∙ there) refl worked
      (λ i. record (core_of g t) {
        jobs = sym (remove_listed nat_cmp_total nat_same t.jobs die o.jobs) i;
        page_map = record ((core_of g t).page_map) {
          used = sym (keep_listed place_cmp_total place_same (stays (core_of g t).page_map die block.0) t.used o.used l.used) i;
        };
        stepped = sym (insert_listed nat_cmp_total nat_same t.stepped die tt o.stepped) i;
      })

  abbrev pub abandon_refused : Table → List Target → Option AbandonRefused
  abandon_refused t places = first_that (
      (list_any (λ (x : Target). is_programming (at_number x.die.0 t.jobs) x.slot.0) places, AbandonPending)
      ∷ (list_any (λ (x : Target). x.programmed) (live_in t places), Programmed) ∷ [])

  module _ (t : Table) (o : Ordered t) (id page : ℕ) (r : Reservation) (there : at_number id t.claims ≡ Some (record { page = page; reserved = Some r })) where
    abbrev with_left : ℕ → List Target → Core
    with_left p places = record (core_of g t) {
      page_map = with_targets Stale places (core_of g t).page_map;
      waiting = filter (λ p. not (list_any (λ x. x.die.0 == p.die && x.slot.0 == p.slot) r.targets)) t.waiting;
      claims = insert (from_sorted t.claims) id (record { page = p; reserved = None });
    }

    left_live : live_targets (core_of g t) r.targets ≡ live_in t r.targets
    left_live = live_same g t o id 0 page r there

    pub abandons : (v : World) → abandon_refused t r.targets ≡ None
        → HappensEvent (at g t v) (Abandon id (Ok tt)) (at g (abandoned_in id page r t) (record v { moment = suc v.moment }))
    abandons v free = record {
      step = record {
        allows = ap is_some (reserved_there g t o id 0 page r there);
        does = subst (λ x. Abandons (core_of g t) id x (Ok tt) (core_of g (abandoned_in id page r t))) (sym (reserved_there g t o id 0 page r there)) (
          (λ i. first_that {R = AbandonRefused} (
              (list_any (λ (x : Target). is_programming (get-from_sorted nat_cmp t.jobs x.die.0 o.jobs i) x.slot.0) r.targets, AbandonPending)
              ∷ (list_any (λ (x : Target). x.programmed) (left_live i), Programmed) ∷ [])) ∙ free,
          (λ i. record (with_left page (live_in t r.targets)) {
            page_map = record ((core_of g t).page_map) {
              used = sym (inserts_listed place_cmp_total place_same (λ (place : ℕ × ℕ). place) (λ _. Stale) (map key_of (live_in t r.targets)) t.used o.used) i;
            };
            claims = sym (insert_listed nat_cmp_total nat_same t.claims id (record { page = page; reserved = None }) o.claims) i;
          })
              ∙ sym (ap (λ p. with_left p (live_targets (core_of g t) r.targets)) (page_there g t o id 0 page r there) ∙ ap (with_left page) left_live),
        );
      };
      told = tt;
      follows = refl;
    }
