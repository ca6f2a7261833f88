-- The events of a writer and the programs of dies, of states that are told by lists.
use Rattle.fa_laws.proofs.Endings.{HasOutcome}
use Rattle.std.specs.Option.{option_or}
use Rattle.fa_laws.proofs.Listed.{change_listed, insert_listed, inserts_listed, keep_listed, remove_listed}
use Rattle.fa_laws.proofs.Making.{called, calls, ends, none_first, takes_other}
use Rattle.fa_machine.proofs.Maps.{nat_same, place_cmp_total, place_same}
use Rattle.fa_laws.proofs.Placing.{asked_same, erased_in, erased_same, targets_in, targets_same}
use Rattle.fa_laws.proofs.Planning.{copies_same, copy_in}
use Rattle.fa_laws.proofs.Table.{Ordered, Table, core_of, in_order, is_ordered}
use Rattle.fa_laws.proofs.Tabled.{at, at_number, can_take, did, free_in, fresh, idle_in, is_none_there, took, with_number, without_number}
use Rattle.fa_machine.specs.Cells.{DidProgram, Sealed}
use Rattle.fa_machine.specs.Conditions.{claim_open, first_that, history_full, is_reserved, reserved_under}
use Rattle.fa_machine.specs.Maps.{change, keep, place_cmp}
use Rattle.fa_machine.specs.Placement.{copies_asked, targets}
use Rattle.fa_machine.specs.Run.{Happens, HappensEvent, ImageCall}
use Rattle.fa_machine.specs.State.{Core, OpenClaim, Reservation, WaitingProgram}
use Rattle.fa_machine.specs.Step.{Claim, Commit, Done, Release, Reserve, ReserveHole, Take, is_page}
use Rattle.fa_machine.specs.Taking.{Handed, handed, is_for, mark, mark_claim, program_of, read_of, other_job, urgent_job, without_stale_booking}
use Rattle.fa_machine.specs.World.{Accepted, ProgramsSlot, World, with_cell, with_value_at}
use Rattle.fa_machine.specs.Writing.{Commits, Reserves, claimed_page, committed, live_targets, program_at, reserve_refusal, reserved}
use Rattle.fa_machine.specs.Writing.{target_on, with_targets, without_page}
use Rattle.fa_machine.specs.declared.answers.HistoryEntry.TheVariants.{Commit as CommitEntry}
use Rattle.fa_machine.specs.declared.ids.ClaimId.{ClaimId}
use Rattle.fa_machine.specs.declared.jobs.Flight.TheVariants.{Program, Sync}
use Rattle.fa_types.specs.declared.kind.Kind.{Kind}
use Rattle.fa_types.specs.declared.kind.Kind.TheVariants.{Data, Hole}
use Rattle.fa_machine.specs.declared.places.Copying.{Copying}
use Rattle.fa_machine.specs.declared.places.Target.{Target}
use Rattle.fa_machine.specs.declared.places.Used.{Used}
use Rattle.fa_machine.specs.declared.places.Used.TheVariants.{Held, Reserved}
use Rattle.fa_machine.specs.declared.places.Version.{Version}
use Rattle.fa_machine.specs.declared.refusals.CommitRefused.{CommitRefused}
use Rattle.fa_machine.specs.declared.refusals.CommitRefused.TheVariants.{Pending as CommitPending, Failed}
use Rattle.fa_machine.specs.declared.refusals.ReserveRefused.{ReserveRefused}
use Rattle.fa_machine.specs.declared.refusals.ReserveRefused.TheVariants.{NoRoom, NoDie, Spent}
use Rattle.fa_types.specs.Plain.{put as put_page}
use Rattle.fa_types.specs.declared.geometry.Geometry.{Geometry}
use Rattle.fa_types.specs.declared.numbers.Page.{Page}
use Rattle.fa_types.specs.declared.numbers.Seq.{Seq}
use Rattle.fa_types.specs.declared.numbers.Slot.{Slot}
use Rattle.std.proofs.Common.{Bool, List, None, Option, Some, [], ap, false, length, map, not, refl, subst, suc, sym, true, ℕ, ◌+◌, ◌-◌, ◌++◌, ◌∙◌, ◌∷◌, ◌≡◌}
use Rattle.std.proofs.lemmas.Bool.{and_from, and_parts}
use Rattle.std.specs.Cmp.{nat_cmp_total}
use Rattle.std.specs.FinMap.{entries-from_sorted, find as find_entry, from_sorted, get, get-from_sorted, insert, is_sorted, put}
use Rattle.std.specs.List.{after_first, before_first, fold, list_any}
use Rattle.std.specs.Ordering.{nat_cmp}
use Rattle.std.specs.Prelude.{T, filter, find, if◌then◌else◌, is_some, min, nat_lt, option_and_then, option_map, replicate, unwrap_or, Ok, ◌&&◌, ◌||◌, ◌==◌, ◌^◌}

abbrev pub key_of : Target → ℕ × ℕ
key_of x = (x.die.0, x.slot.0)

-- many slots in one state
abbrev pub with_slots : Used → List (ℕ × ℕ) → List ((ℕ × ℕ) × Used) → List ((ℕ × ℕ) × Used)
with_slots state places used = fold (λ es place. put place_cmp place state es) used places

abbrev pub claimed_in : ℕ → ℕ → Table → Table
claimed_in id page t = record t { claims = with_number id (record { page = page; reserved = None }) t.claims }

abbrev pub released_claim : ℕ → Table → Table
released_claim id t = record t { claims = without_number id t.claims }

abbrev pub next_version : Kind → Table → Version
next_version kind t = record { seq = record { 0 = t.last + 1 }; kind = kind }

abbrev pub program_taken : ℕ → Handed → Table → Table
program_taken die job t = record t {
  jobs = with_number die job.flight t.jobs;
  bookings = filter (λ e. not ((e.0.0 == die && e.0.1 == t.round)) || e.1.started) t.bookings;
  waiting = before_first (is_for die) t.waiting ++ after_first (is_for die) t.waiting;
}

abbrev pub program_done : ℕ → ℕ → ℕ → Table → Table
program_done page die slot t = record t {
  jobs = without_number die t.jobs;
  claims = map (λ e. (e.0, if e.1.page == page then mark_claim die slot e.1 else e.1)) t.claims;
  copying = option_map {T = Copying} (λ c. record c { target = mark die slot c.target }) t.copying;
}

abbrev pub live_in : Table → List Target → List Target
live_in t places = filter (λ x. is_some (at_number x.die.0 t.live)) places

abbrev pub committed_in : ℕ → ℕ → ℕ → Reservation → Table → Table
committed_in id seat page r t = record t {
  versions = with_number page r.version t.versions;
  used = with_slots (Held (record { 0 = page }) r.version) (map key_of (live_in t r.targets)) (map (λ e. (e.0, without_page page e.1)) t.used);
  history = t.history ++ CommitEntry seat (record { 0 = page }) r.version.seq ∷ [];
  claims = with_number id (record { page = page; reserved = None }) t.claims;
}

-- what the world keeps beside the state, as a page is reserved and as it is committed
abbrev pub keeps_payload : ℕ → ℕ → List ℕ → World → World
keeps_payload page seq payload v = record v { payloads = with_value_at page seq payload v.payloads; moment = suc v.moment }

abbrev pub commits_beside : ℕ → ℕ → World → World
commits_beside page seq v = record v { plain = put_page page (v.payloads page seq) v.plain; moment = suc v.moment }

module _ (g : Geometry) where
  abbrev pub target_in : Table → ℕ → Target
  target_in t die = record { die = record { 0 = die }; slot = record { 0 = unwrap_or (erased_in g t die) 0 }; programmed = false }

  -- the slots that a write of a page takes
  abbrev pub places_in : Table → ℕ → List Target
  places_in t page = map (target_in t) (targets_in g t page)

  abbrev pub reserved_in : ℕ → ℕ → Kind → List ℕ → Table → Table
  reserved_in id page kind payload t = record t {
    used = with_slots Reserved (map key_of (places_in t page)) t.used;
    last = t.last + 1;
    waiting = t.waiting ++ map (program_at page (next_version kind t) payload) (places_in t page);
    claims = with_number id (record { page = page; reserved = Some (record { version = next_version kind t; targets = places_in t page }) }) t.claims;
  }

  pub claims_page : (t : Table) (v : World) (page : ℕ) (id : ClaimId) → T (is_ordered t) → is_page (core_of g t) page ≡ true
      → list_any (λ (c : OpenClaim). c.page == page) (map (λ e. e.1) t.claims) ≡ false → is_some (at_number id.0 t.claims) ≡ false
      → HappensEvent (at g t v) (Claim page (Ok id)) (at g (claimed_in id.0 page t) (record v { moment = suc v.moment }))
  claims_page t v page id ordered inside alone new =
      let o = in_order t ordered in
      record {
        step = record {
          allows = inside;
          does = (
            ap (λ (es : List (ℕ × OpenClaim)). list_any (λ (c : OpenClaim). c.page == page) (map (λ e. e.1) es)) (entries-from_sorted nat_cmp t.claims o.claims) ∙ alone,
            ap is_some (get-from_sorted nat_cmp t.claims id.0 o.claims) ∙ new,
            (λ i. record (core_of g t) { claims = sym (insert_listed nat_cmp_total nat_same t.claims id.0 (record { page = page; reserved = None }) o.claims) i }),
          );
        };
        told = tt;
        follows = refl;
      }

  pub releases : (t : Table) (v : World) (id page : ℕ) → T (is_ordered t) → at_number id t.claims ≡ Some (record { page = page; reserved = None })
      → HappensEvent (at g t v) (Release id) (at g (released_claim id t) (record v { moment = suc v.moment }))
  releases t v id page ordered there =
      let o = in_order t ordered in
      record {
        step = record {
          allows = ap (λ x. is_some x && not (is_some (option_and_then (λ (c : OpenClaim). c.reserved) x))) (get-from_sorted nat_cmp t.claims id o.claims ∙ there);
          does = λ i. record (core_of g t) { claims = sym (remove_listed nat_cmp_total nat_same t.claims id o.claims) i };
        };
        told = tt;
        follows = refl;
      }

  module _ (t : Table) (o : Ordered t) (id page : ℕ) (there : at_number id t.claims ≡ Some (record { page = page; reserved = None }))
      (kind : Kind) (payload : List ℕ) where
    abbrev core : Core
    core = core_of g t

    found : get core.claims id ≡ Some (record { page = page; reserved = None })
    found = get-from_sorted nat_cmp t.claims id o.claims ∙ there

    page_found : claimed_page core id ≡ page
    page_found = ap (λ x. unwrap_or (option_map (λ (c : OpenClaim). c.page) x) 0) found

    places_same : map (target_on core.page_map) (targets t.copies core.page_map page) ≡ places_in t page
    places_same = λ i. map (λ die. record { die = record { 0 = die }; slot = record { 0 = unwrap_or (erased_same g t o die i) 0 }; programmed = false })
        (targets_same g t o page i)

    -- the state after a reservation of this page at these places
    abbrev with_places : ℕ → List Target → Core
    with_places p places = record core {
      page_map = with_targets Reserved places core.page_map;
      last = core.last + 1;
      waiting = core.waiting ++ map (program_at p (next_version kind t) payload) places;
      claims = insert core.claims id (record { page = p; reserved = Some (record { version = next_version kind t; targets = places }) });
    }

    reserved_same : core_of g (reserved_in id page kind payload t) ≡ reserved id kind payload core
    reserved_same =
        (λ i. record (with_places page (places_in t page)) {
          page_map = record (core.page_map) {
            used = sym (inserts_listed place_cmp_total place_same (λ (place : ℕ × ℕ). place) (λ _. Reserved) (map key_of (places_in t page)) t.used o.used) i;
          };
          claims = sym (insert_listed nat_cmp_total nat_same t.claims id
              (record { page = page; reserved = Some (record { version = next_version kind t; targets = places_in t page }) }) o.claims) i;
        })
        ∙ sym (ap (λ p. with_places p (map (target_on core.page_map) (targets t.copies core.page_map p))) page_found ∙ ap (with_places page) places_same)

    reserves_at_least : (seq : Seq) → first_that {R = ReserveRefused} (
        (nat_lt (length (targets_in g t page)) (min t.copies (length t.live)), NoRoom) ∷ (min t.copies (length t.live) == 0, NoDie)
        ∷ (t.last == 2 ^ 62 - 1, Spent) ∷ []) ≡ None → seq.0 ≡ t.last + 1
        → Reserves core id (copies_asked t.copies core.page_map) kind payload (Ok seq) (core_of g (reserved_in id page kind payload t))
    reserves_at_least seq free is = (
      ap (λ p. reserve_refusal core p (copies_asked t.copies core.page_map)) page_found
          ∙ (λ i. first_that {R = ReserveRefused} (
          (nat_lt (length (targets_same g t o page i)) (asked_same g t o i), NoRoom) ∷ (asked_same g t o i == 0, NoDie)
          ∷ (t.last == 2 ^ 62 - 1, Spent) ∷ [])) ∙ free,
      is,
      reserved_same,
    )

    may_reserve : (claim_open core id && not (is_reserved core id)) ≡ true
    may_reserve = ap (λ x. is_some x && not (is_some (option_and_then (λ (c : OpenClaim). c.reserved) x))) found

  -- whether a reservation of a page is refused
  abbrev pub reserve_refused : Table → ℕ → Option ReserveRefused
  reserve_refused t page = first_that (
      (nat_lt (length (targets_in g t page)) (min t.copies (length t.live)), NoRoom) ∷ (min t.copies (length t.live) == 0, NoDie)
      ∷ (t.last == 2 ^ 62 - 1, Spent) ∷ [])

  pub reserves : (t : Table) (v : World) (id page : ℕ) (payload : List ℕ) (seq : Seq) → T (is_ordered t)
      → at_number id t.claims ≡ Some (record { page = page; reserved = None }) → reserve_refused t page ≡ None → seq.0 ≡ t.last + 1
      → (length payload == g.page_bytes) ≡ true
      → HappensEvent (at g t v) (Reserve id payload (Ok seq)) (at g (reserved_in id page Data payload t) (keeps_payload page seq.0 payload v))
  reserves t v id page payload seq ordered there free is sized =
      let o = in_order t ordered in
      record {
        step = record {
          allows = and_from _ _ (may_reserve t o id page there Data payload) sized;
          does = reserves_at_least t o id page there Data payload seq free is;
        };
        told = tt;
        follows = λ i. record v {
          core = core_of g (reserved_in id page Data payload t);
          payloads = with_value_at (sym (page_found t o id page there Data payload) i) seq.0 payload v.payloads;
          moment = suc v.moment;
        };
      }

  abbrev pub zero_bytes : List ℕ
  zero_bytes = replicate g.page_bytes 0

  pub reserves_hole : (t : Table) (v : World) (id page : ℕ) (seq : Seq) → T (is_ordered t)
      → at_number id t.claims ≡ Some (record { page = page; reserved = None }) → reserve_refused t page ≡ None → seq.0 ≡ t.last + 1
      → HappensEvent (at g t v) (ReserveHole id (Ok seq)) (at g (reserved_in id page Hole zero_bytes t) (keeps_payload page seq.0 zero_bytes v))
  reserves_hole t v id page seq ordered there free is =
      let o = in_order t ordered in
      record {
        step = record {
          allows = may_reserve t o id page there Hole zero_bytes;
          does = reserves_at_least t o id page there Hole zero_bytes seq free is;
        };
        told = tt;
        follows = λ i. record v {
          core = core_of g (reserved_in id page Hole zero_bytes t);
          payloads = with_value_at (sym (page_found t o id page there Hole zero_bytes) i) seq.0 zero_bytes v.payloads;
          moment = suc v.moment;
        };
      }

  -- a program that waited, as it is handed out
  abbrev program_in : Table → WaitingProgram → Handed
  program_in t p = record {
    flight = Program (record { 0 = p.page }) p.version (record { 0 = p.slot });
    payload = p.payload;
    lasting = is_some (at_number p.page t.versions) && not (is_some (copy_in g t p.page p.die));
  }

  -- the job behind the booked reads
  abbrev pub other_in : Table → ℕ → Option Handed
  other_in t die = option_or (option_map (program_in t) (find (is_for die) t.waiting))
      (option_map handed (if nat_lt (unwrap_or (at_number die t.synced) 0) (unwrap_or (at_number die t.asked) 0) then Some (Sync t.flushes) else None))

  -- nothing comes before a waiting program
  abbrev pub none_urgent : Table → ℕ → Bool
  none_urgent t die = not (is_some (at_number die t.behind)) && (not (is_some (at_number die t.windows))
      && not (is_some (option_and_then (read_of (core_of g t).page_map die) (find_entry place_cmp (die, t.round) t.bookings))))

  abbrev pub sync_taken : ℕ → ℕ → Table → Table
  sync_taken die flushes t = record t {
    jobs = with_number die (Sync flushes) t.jobs;
    bookings = filter (λ e. not ((e.0.0 == die && e.0.1 == t.round)) || e.1.started) t.bookings;
  }

  module _ (t : Table) (o : Ordered t) (die : ℕ) where
    nothing_first : none_urgent t die ≡ true → urgent_job (core_of g t) die ≡ None
    nothing_first e =
        let a = and_parts (not (is_some (at_number die t.behind))) _ e in
        let b = and_parts (not (is_some (at_number die t.windows))) _ a.1 in
        none_first (core_of g t) die
        (get-from_sorted nat_cmp t.behind die o.behind ∙ is_none_there (at_number die t.behind) a.0)
        (get-from_sorted nat_cmp t.windows die o.windows ∙ is_none_there (at_number die t.windows) b.0)
        (ap (option_and_then (read_of (core_of g t).page_map die)) (get-from_sorted place_cmp t.bookings (die, t.round) o.bookings) ∙ is_none_there _ b.1)

    program_same : program_of (core_of g t).page_map ≡ program_in t
    program_same = λ i p. record {
      flight = Program (record { 0 = p.page }) p.version (record { 0 = p.slot });
      payload = p.payload;
      lasting = is_some (get-from_sorted nat_cmp t.versions p.page o.versions i) && not (is_some (copies_same g t o p.page p.die i));
    }

    other_same : other_job (without_stale_booking die (core_of g t)) die ≡ other_in t die
    other_same = λ i. option_or (option_map (program_same i) (find (is_for die) t.waiting)) (option_map handed
        (if nat_lt (unwrap_or (get-from_sorted nat_cmp t.synced die o.synced i) 0) (unwrap_or (get-from_sorted nat_cmp t.asked die o.asked i) 0)
        then Some (Sync t.flushes) else None))

    bookings_same : T (is_sorted place_cmp (filter (λ e. not ((e.0.0 == die && e.0.1 == t.round)) || e.1.started) t.bookings))
        → keep (λ place b. not ((place.0 == die && place.1 == t.round)) || b.started) (from_sorted {R = place_cmp} t.bookings)
        ≡ from_sorted (filter (λ e. not ((e.0.0 == die && e.0.1 == t.round)) || e.1.started) t.bookings)
    bookings_same left = keep_listed place_cmp_total place_same (λ place b. not ((place.0 == die && place.1 == t.round)) || b.started) t.bookings o.bookings left

  pub takes_program : (t : Table) (v : World) (die seat : ℕ) (page : Page) (version : Version) (slot : Slot) (payload : List ℕ) (lasting : Bool)
      → T (is_ordered t) → T (is_ordered (program_taken die (record { flight = Program page version slot; payload = payload; lasting = lasting }) t))
      → can_take g t die ≡ true → free_in g t die ≡ true → none_urgent t die ≡ true
      → other_in t die ≡ Some (record { flight = Program page version slot; payload = payload; lasting = lasting })
      → HappensEvent (at g t v) (Take die seat (Some (record { flight = Program page version slot; payload = payload; lasting = lasting })))
      (at g (program_taken die (record { flight = Program page version slot; payload = payload; lasting = lasting }) t)
      (took die (record { flight = Program page version slot; payload = payload; lasting = lasting }) v))
  takes_program t v die seat page version slot payload lasting ordered then_ordered can free none other =
      let o = in_order t ordered in
      let l = in_order (program_taken die (record { flight = Program page version slot; payload = payload; lasting = lasting }) t) then_ordered in
      let job : Handed = record { flight = Program page version slot; payload = payload; lasting = lasting } in
      takes_other (at g t v) die seat job (core_of g (program_taken die job t)) can (idle_in g t o die free)
      (nothing_first t o die none) (other_same t o die ∙ other)
      (λ i. record (core_of g t) {
        jobs = sym (insert_listed nat_cmp_total nat_same t.jobs die job.flight o.jobs) i;
        calendar = record ((core_of g t).calendar) { bookings = sym (bookings_same t o die l.bookings) i };
        waiting = before_first (is_for die) t.waiting ++ after_first (is_for die) t.waiting;
      })

  pub takes_sync : (t : Table) (v : World) (die seat flushes : ℕ) → T (is_ordered t) → T (is_ordered (sync_taken die flushes t))
      → can_take g t die ≡ true → free_in g t die ≡ true → none_urgent t die ≡ true → other_in t die ≡ Some (handed (Sync flushes))
      → HappensEvent (at g t v) (Take die seat (Some (handed (Sync flushes)))) (at g (sync_taken die flushes t) (took die (handed (Sync flushes)) v))
  takes_sync t v die seat flushes ordered then_ordered can free none other =
      let o = in_order t ordered in
      let l = in_order (sync_taken die flushes t) then_ordered in
      takes_other (at g t v) die seat (handed (Sync flushes)) (core_of g (sync_taken die flushes t)) can (idle_in g t o die free)
      (nothing_first t o die none) (other_same t o die ∙ other)
      (λ i. record (core_of g t) {
        jobs = sym (insert_listed nat_cmp_total nat_same t.jobs die (Sync flushes) o.jobs) i;
        calendar = record ((core_of g t).calendar) { bookings = sym (bookings_same t o die l.bookings) i };
      })

  -- the image takes a program
  pub takes_cell : (t : Table) (v : World) (die : ℕ) (page : Page) (version : Version) (slot : Slot) (payload : List ℕ) (lasting : Bool)
      → v.works die ≡ Some (fresh g (record { flight = Program page version slot; payload = payload; lasting = lasting }))
      → Happens (at g t v) (ImageCall die Accepted)
      (at g t (called die Accepted (with_cell slot.0 (Sealed page.0 version die slot.0 payload) (v.images die))
      (fresh g (record { flight = Program page version slot; payload = payload; lasting = lasting })) v))
  takes_cell t v die page version slot payload lasting there =
      calls (at g t v) die Accepted (with_cell slot.0 (Sealed page.0 version die slot.0 payload) (v.images die))
      (fresh g (record { flight = Program page version slot; payload = payload; lasting = lasting }))
      (ProgramsSlot slot.0 (Sealed page.0 version die slot.0 payload)) there refl refl

  pub ends_program : (t : Table) (v : World) (die : ℕ) (page : Page) (version : Version) (slot : Slot) → T (is_ordered t)
      → T (is_ordered (program_done page.0 die slot.0 t)) → at_number die t.jobs ≡ Some (Program page version slot)
      → HasOutcome die (v.works die) DidProgram
      → HappensEvent (at g t v) (Done die DidProgram) (at g (program_done page.0 die slot.0 t) (did die (Program page version slot) DidProgram v))
  ends_program t v die page version slot ordered then_ordered there worked =
      let o = in_order t ordered in
      let l = in_order (program_done page.0 die slot.0 t) then_ordered in
      ends (at g t v) die (Program page version slot) DidProgram (core_of g (program_done page.0 die slot.0 t))
      (get-from_sorted nat_cmp t.jobs die o.jobs ∙ there) refl worked
      (λ i. record (core_of g t) {
        jobs = sym (remove_listed nat_cmp_total nat_same t.jobs die o.jobs) i;
        claims = sym (change_listed nat_cmp_total nat_same (λ id c. if c.page == page.0 then mark_claim die slot.0 c else c) t.claims o.claims l.claims) i;
        copying = option_map {T = Copying} (λ c. record c { target = mark die slot.0 c.target }) t.copying;
      })

  abbrev pub commit_refused : Table → List Target → Option CommitRefused
  commit_refused t places = first_that (
      (list_any (λ (x : Target). not x.programmed) (live_in t places), CommitPending)
      ∷ (not (list_any (λ (x : Target). x.programmed) (live_in t places)), Failed) ∷ [])

  module _ (t : Table) (o : Ordered t) (id seat page : ℕ) (r : Reservation)
      (there : at_number id t.claims ≡ Some (record { page = page; reserved = Some r })) where
    claim_there : get (core_of g t).claims id ≡ Some (record { page = page; reserved = Some r })
    claim_there = get-from_sorted nat_cmp t.claims id o.claims ∙ there

    pub page_there : claimed_page (core_of g t) id ≡ page
    page_there = ap (λ x. unwrap_or (option_map (λ (c : OpenClaim). c.page) x) 0) claim_there

    pub reserved_there : reserved_under (core_of g t) id ≡ Some r
    reserved_there = ap (option_and_then (λ (c : OpenClaim). c.reserved)) claim_there

    pub live_same : live_targets (core_of g t) r.targets ≡ live_in t r.targets
    live_same = λ i. filter (λ (x : Target). is_some (get-from_sorted nat_cmp t.live x.die.0 o.live i)) r.targets

    abbrev with_live : ℕ → List Target → Core
    with_live p places = record (core_of g t) {
      page_map = with_targets (Held (record { 0 = p }) r.version) places (record ((core_of g t).page_map) {
        versions = insert (from_sorted t.versions) p r.version;
        used = change (λ place used. without_page p used) (from_sorted t.used);
      });
      history = t.history ++ CommitEntry seat (record { 0 = p }) r.version.seq ∷ [];
      claims = insert (from_sorted t.claims) id (record { page = p; reserved = None });
    }

    committed_same : T (is_sorted place_cmp (map (λ e. (e.0, without_page page e.1)) t.used))
        → core_of g (committed_in id seat page r t) ≡ committed id seat r (core_of g t)
    committed_same sorted =
        (λ i. record (with_live page (live_in t r.targets)) {
          page_map = record ((core_of g t).page_map) {
            versions = sym (insert_listed nat_cmp_total nat_same t.versions page r.version o.versions) i;
            used = sym (inserts_listed place_cmp_total place_same (λ (place : ℕ × ℕ). place) (λ _. Held (record { 0 = page }) r.version)
                (map key_of (live_in t r.targets)) (map (λ e. (e.0, without_page page e.1)) t.used) sorted) i;
          };
          claims = sym (insert_listed nat_cmp_total nat_same t.claims id (record { page = page; reserved = None }) o.claims) i;
        })
        ∙ (λ i. record (with_live page (live_in t r.targets)) {
          page_map = with_targets (Held (record { 0 = page }) r.version) (live_in t r.targets) (record ((core_of g t).page_map) {
            versions = insert (from_sorted t.versions) page r.version;
            used = sym (change_listed place_cmp_total place_same (λ place used. without_page page used) t.used o.used sorted) i;
          });
        })
        ∙ sym (ap (λ p. with_live p (live_targets (core_of g t) r.targets)) page_there ∙ ap (with_live page) live_same)

    pub commits : (v : World) (seq : Seq) → T (is_sorted place_cmp (map (λ e. (e.0, without_page page e.1)) t.used))
        → not (history_full (core_of g t)) ≡ true → commit_refused t r.targets ≡ None → seq ≡ r.version.seq
        → HappensEvent (at g t v) (Commit id seat (Ok seq)) (at g (committed_in id seat page r t) (commits_beside page seq.0 v))
    commits v seq sorted room free is = record {
      step = record {
        allows = and_from _ _ (ap is_some reserved_there) room;
        does = subst (λ x. Commits (core_of g t) id seat x (Ok seq) (core_of g (committed_in id seat page r t))) (sym reserved_there) (
          (λ i. first_that {R = CommitRefused} (
              (list_any (λ (x : Target). not x.programmed) (live_same i), CommitPending)
              ∷ (not (list_any (λ (x : Target). x.programmed) (live_same i)), Failed) ∷ [])) ∙ free,
          is,
          committed_same sorted,
        );
      };
      told = tt;
      follows = λ i. record v {
        core = core_of g (committed_in id seat page r t);
        plain = put_page (sym page_there i) (v.payloads (sym page_there i) seq.0) v.plain;
        moment = suc v.moment;
      };
    }
