-- Events and image calls of states that are told by lists.
use Rattle.fa_laws.proofs.Endings.{HasOutcome, with_done}
use Rattle.fa_laws.proofs.Invariant.{next}
use Rattle.fa_laws.proofs.Listed.{empty_listed, insert_listed, keep_listed, len_listed, remove_listed, without_key}
use Rattle.fa_laws.proofs.Certified.{all_pass}
use Rattle.fa_laws.proofs.Making.{IsAtRest, called, calls, ends, header_first, may_advance, outside_no_step, read_first, step_was_done, takes}
use Rattle.fa_machine.proofs.Maps.{nat_same, place_cmp_total, place_same}
use Rattle.fa_laws.proofs.Table.{Ordered, Table, core_of, in_order, is_ordered}
use Rattle.fa_machine.specs.Cells.{Cell, DidRead, DidWriteHeader, Fault, Outcome, payload_of}
use Rattle.fa_machine.specs.Conditions.{history_full}
use Rattle.fa_machine.specs.Copies.{copy_on}
use Rattle.fa_machine.specs.Maps.{below, place_cmp}
use Rattle.fa_types.specs.Windows.{is_in_window}
use Rattle.fa_machine.specs.Run.{Happens, HappensEvent, ImageCall}
use Rattle.fa_machine.specs.State.{Core}
use Rattle.fa_machine.specs.Step.{Advance, Done, Take, is_die, is_sized_read}
use Rattle.fa_machine.specs.Taking.{Handed, handed, is_idle, mask_of, with_answer, read_ends}
use Rattle.fa_machine.specs.Turning.{is_read_pending}
use Rattle.fa_machine.specs.World.{DieImage, GaveCell, Accepted, Refused, Work, World, WritesHeader, ReadsSlot, with_due, with_told, with_value}
use Rattle.fa_machine.specs.declared.answers.HistoryEntry.TheVariants.{Start}
use Rattle.fa_machine.specs.declared.ids.BatchId.{BatchId}
use Rattle.fa_machine.specs.declared.jobs.Flight.{Flight}
use Rattle.fa_machine.specs.declared.jobs.Flight.TheVariants.{Header, Read}
use Rattle.fa_machine.specs.declared.places.Version.{Version}
use Rattle.fa_types.specs.declared.geometry.Geometry.{Geometry}
use Rattle.fa_types.specs.declared.numbers.Page.{Page}
use Rattle.fa_types.specs.declared.numbers.Round.{Round}
use Rattle.fa_types.specs.declared.numbers.Slot.{Slot}
use Rattle.std.proofs.Common.{Bool, List, None, Option, Some, [], ap, false, not, inl, inr, refl, subst, suc, sym, true, ℕ, ◌+◌, ◌++◌, ◌∙◌, ◌∷◌, ◌≡◌}
use Rattle.std.proofs.lemmas.Bool.{and_parts, false≢true, not-true, or_cases}
use Rattle.std.specs.List.{fold, list_all}
use Rattle.std.specs.Cmp.{nat_cmp_total}
use Rattle.std.specs.FinMap.{find as find_entry, from_sorted, get-from_sorted, insert, is_sorted, put, remove}
use Rattle.std.specs.FinMap.Entries.{is_sorted-where_key}
use Rattle.std.specs.Ordering.{eq_by_cmp, nat_cmp}
use Rattle.std.specs.Prelude.{T, filter, if◌then◌else◌, is_some, length, nat_lt, Ok, ◌&&◌, ◌||◌, ◌==◌, ◌^◌}

pub is_none_there : {X : Type 0} (o : Option X) → not (is_some o) ≡ true → o ≡ None
is_none_there None e = refl
is_none_there (Some x) e = absurd (false≢true e)

-- entries of numbers
abbrev pub at_number : {X : Type 0} → ℕ → List (ℕ × X) → Option X
at_number n es = find_entry nat_cmp n es

abbrev pub with_number : {X : Type 0} → ℕ → X → List (ℕ × X) → List (ℕ × X)
with_number n x es = put nat_cmp n x es

abbrev pub without_number : {X : Type 0} → ℕ → List (ℕ × X) → List (ℕ × X)
without_number n es = without_key nat_cmp_total nat_same n es

-- what the world keeps beside the state, as a job is handed out and as it ends
abbrev pub took : ℕ → Handed → World → World
took die job v = record (with_due die job.flight v) { works = with_value die (Some (record { job = job; gave = [] })) v.works; moment = suc v.moment }

abbrev pub did : ℕ → Flight → Outcome → World → World
did die flight outcome v = record (with_done die (Some flight) outcome v) { moment = suc v.moment }

abbrev pub did_read : ℕ → BatchId → Page → Version → List ℕ → World → World
did_read die batch page version bytes v = record (with_told die batch.0 page.0 version.seq.0 (Some bytes) v) {
  works = with_value die None v.works;
  moment = suc v.moment;
}

-- an image once a header was written
abbrev pub headed : ℕ → ℕ → DieImage → DieImage
headed epoch live image = record image { header = Some (record { epoch = epoch; live = live }) }

-- the lists after events
abbrev pub head_taken : ℕ → ℕ → Table → Table
head_taken die live t = record t { jobs = with_number die (Header t.epoch live) t.jobs }

abbrev pub head_done : ℕ → Table → Table
head_done die t = record t { jobs = without_number die t.jobs; behind = without_number die t.behind }

abbrev pub read_taken : ℕ → ℕ → BatchId → Page → Version → ℕ → Table → Table
read_taken die seat batch page version slot t = record t {
  jobs = with_number die (Read batch page version (record { 0 = slot })) t.jobs;
  bookings = put place_cmp (die, t.round) (record { batch = batch; page = page; started = true }) t.bookings;
  history = t.history ++ Start seat page version.seq ∷ [];
}

abbrev pub read_done : ℕ → ℕ → ℕ → List ℕ → List ℕ → List (ℕ × List ℕ) → Table → Table
read_done die batch page bytes pages answers t = record t {
  jobs = without_number die t.jobs;
  batches = with_number batch (record { pages = pages; answers = from_sorted (with_number page bytes answers) }) t.batches;
}

abbrev pub dropped : ℕ → Table → Table
dropped die t = record t {
  live = without_number die t.live;
  used = filter (λ e. not (e.0.0 == die)) t.used;
  bookings = filter (λ e. not (e.0.0 == die)) t.bookings;
  windows = without_number die t.windows;
  epoch = t.epoch + 1;
  behind = without_number die t.live;
  stepped = without_number die t.stepped;
  waiting = filter (λ program. not (program.die == die)) t.waiting;
  jobs = without_number die (without_number die t.jobs);
  asked = without_number die t.asked;
  synced = without_number die t.synced;
}

abbrev pub advanced : Table → Table
advanced t = record t {
  round = t.round + 1;
  bookings = filter (λ e. nat_lt t.round e.0.1) t.bookings;
  windows = filter (λ e. nat_lt t.round e.1.last.0) t.windows;
  stepped = [];
}

module _ (g : Geometry) where
  -- the world with this state
  abbrev pub at : Table → World → World
  at t v = record v { core = core_of g t }

  abbrev pub free_in : Table → ℕ → Bool
  free_in t die = is_some (at_number die t.live) && not (is_some (at_number die t.jobs))

  abbrev pub can_take : Table → ℕ → Bool
  can_take t die = is_die (core_of g t) die && not (history_full (core_of g t))

  pub idle_in : (t : Table) → Ordered t → (die : ℕ) → free_in t die ≡ true → is_idle (core_of g t) die ≡ true
  idle_in t o die free =
      (λ i. is_some (get-from_sorted nat_cmp t.live die o.live i) && not (is_some (get-from_sorted nat_cmp t.jobs die o.jobs i))) ∙ free

  -- the live dies as a header tells them
  abbrev pub mask_in : Table → ℕ
  mask_in t = fold (λ mask die. mask + 2 ^ die) 0 (filter (λ die. is_some (at_number die t.live)) (below g.dies))

  mask_same : (t : Table) → Ordered t → mask_of (core_of g t).page_map ≡ mask_in t
  mask_same t o = λ i. fold (λ mask die. mask + 2 ^ die) 0 (filter (λ die. is_some (get-from_sorted nat_cmp t.live die o.live i)) (below g.dies))

  pub takes_header : (t : Table) (v : World) (die seat live : ℕ) → T (is_ordered t) → can_take t die ≡ true → free_in t die ≡ true
      → is_some (at_number die t.behind) ≡ true → mask_in t ≡ live
      → HappensEvent (at t v) (Take die seat (Some (handed (Header t.epoch live)))) (at (head_taken die live t) (took die (handed (Header t.epoch live)) v))
  takes_header t v die seat live ordered can free behind mask =
      let o = in_order t ordered in
      takes (at t v) die seat (Header t.epoch live) (core_of g (head_taken die live t)) can (idle_in t o die free)
      (header_first (core_of g t) die (ap is_some (get-from_sorted nat_cmp t.behind die o.behind) ∙ behind)
      ∙ ap (λ n. Some (Header t.epoch n)) (mask_same t o ∙ mask))
      (λ i. record (core_of g t) { jobs = sym (insert_listed nat_cmp_total nat_same t.jobs die (Header t.epoch live) o.jobs) i })

  pub ends_header : (t : Table) (v : World) (die epoch live : ℕ) → T (is_ordered t) → at_number die t.jobs ≡ Some (Header epoch live)
      → (epoch == t.epoch) ≡ true → HasOutcome die (v.works die) DidWriteHeader
      → HappensEvent (at t v) (Done die DidWriteHeader) (at (head_done die t) (did die (Header epoch live) DidWriteHeader v))
  ends_header t v die epoch live ordered there current worked =
      let o = in_order t ordered in
      ends (at t v) die (Header epoch live) DidWriteHeader (core_of g (head_done die t)) (get-from_sorted nat_cmp t.jobs die o.jobs ∙ there) refl worked
      ((λ i. record (core_of g t) {
        jobs = sym (remove_listed nat_cmp_total nat_same t.jobs die o.jobs) i;
        behind = sym (remove_listed nat_cmp_total nat_same t.behind die o.behind) i;
      }) ∙ sym (ap (λ b. if b then record (core_of g t) {
        jobs = remove (from_sorted t.jobs) die;
        behind = remove (from_sorted t.behind) die;
      } else record (core_of g t) { jobs = remove (from_sorted t.jobs) die }) current))

  pub takes_read : (t : Table) (v : World) (die seat : ℕ) (batch : BatchId) (page : Page) (version : Version) (slot : ℕ) → T (is_ordered t)
      → can_take t die ≡ true → free_in t die ≡ true → at_number die t.behind ≡ None → at_number die t.windows ≡ None
      → find_entry place_cmp (die, t.round) t.bookings ≡ Some (record { batch = batch; page = page; started = false })
      → at_number page.0 t.versions ≡ Some version → copy_on (core_of g t).page_map page.0 die ≡ Some slot
      → HappensEvent (at t v) (Take die seat (Some (handed (Read batch page version (record { 0 = slot })))))
      (at (read_taken die seat batch page version slot t) (took die (handed (Read batch page version (record { 0 = slot }))) v))
  takes_read t v die seat batch page version slot ordered can free ahead none books number copy =
      let o = in_order t ordered in
      let flight : Flight = Read batch page version (record { 0 = slot }) in
      takes (at t v) die seat flight (core_of g (read_taken die seat batch page version slot t)) can (idle_in t o die free)
      (read_first (core_of g t) die batch page version slot
      (get-from_sorted nat_cmp t.behind die o.behind ∙ ahead)
      (get-from_sorted nat_cmp t.windows die o.windows ∙ none)
      (get-from_sorted place_cmp t.bookings (die, t.round) o.bookings ∙ books)
      (get-from_sorted nat_cmp t.versions page.0 o.versions ∙ number)
      copy)
      (λ i. record (core_of g t) {
        jobs = sym (insert_listed nat_cmp_total nat_same t.jobs die flight o.jobs) i;
        calendar = record ((core_of g t).calendar) {
          bookings = sym (insert_listed place_cmp_total place_same t.bookings (die, t.round) (record { batch = batch; page = page; started = true }) o.bookings) i;
        };
        history = t.history ++ Start seat page version.seq ∷ [];
      })

  -- a job that was handed out, and has made no call
  abbrev pub fresh : Handed → Work
  fresh job = record { job = job; gave = [] }

  pub gives_cell : (t : Table) (v : World) (die : ℕ) (batch : BatchId) (page : Page) (version : Version) (slot : Slot) (cell : Cell)
      → v.works die ≡ Some (fresh (handed (Read batch page version slot))) → cell ≡ (v.images die).seen slot.0
      → Happens (at t v) (ImageCall die (GaveCell cell))
      (at t (called die (GaveCell cell) (v.images die) (fresh (handed (Read batch page version slot))) v))
  gives_cell t v die batch page version slot cell there same =
      calls (at t v) die (GaveCell cell) (v.images die) (fresh (handed (Read batch page version slot))) (ReadsSlot slot.0) there refl (same, refl)

  pub refuses_read : (t : Table) (v : World) (die : ℕ) (batch : BatchId) (page : Page) (version : Version) (slot : Slot)
      → v.works die ≡ Some (fresh (handed (Read batch page version slot)))
      → Happens (at t v) (ImageCall die Refused)
      (at t (called die Refused (v.images die) (fresh (handed (Read batch page version slot))) v))
  refuses_read t v die batch page version slot there =
      calls (at t v) die Refused (v.images die) (fresh (handed (Read batch page version slot))) (ReadsSlot slot.0) there refl refl

  pub writes_header : (t : Table) (v : World) (die epoch live : ℕ) → v.works die ≡ Some (fresh (handed (Header epoch live)))
      → Happens (at t v) (ImageCall die Accepted) (at t (called die Accepted (headed epoch live (v.images die)) (fresh (handed (Header epoch live))) v))
  writes_header t v die epoch live there =
      calls (at t v) die Accepted (headed epoch live (v.images die)) (fresh (handed (Header epoch live))) (WritesHeader epoch live) there refl refl

  pub ends_read : (t : Table) (v : World) (die : ℕ) (batch : BatchId) (page : Page) (version : Version) (slot : Slot) (cell : Cell)
      (bytes : List ℕ) (pages : List ℕ) (answers : List (ℕ × List ℕ)) → T (is_ordered t) → T (is_sorted nat_cmp answers)
      → at_number die t.jobs ≡ Some (Read batch page version slot) → at_number batch.0 t.batches ≡ Some (record { pages = pages; answers = from_sorted answers })
      → payload_of page.0 version die slot.0 cell ≡ Some bytes → is_sized_read (core_of g t) (DidRead cell) ≡ true
      → HasOutcome die (v.works die) (DidRead cell)
      → HappensEvent (at t v) (Done die (DidRead cell))
      (at (read_done die batch.0 page.0 bytes pages answers t) (did_read die batch page version bytes v))
  ends_read t v die batch page version slot cell bytes pages answers ordered sorted there batch_there good sized worked =
      let o = in_order t ordered in
      let left : Core = record (core_of g t) { jobs = remove (from_sorted t.jobs) die } in
      subst (λ p. HappensEvent (at t v) (Done die (DidRead cell)) (record (with_told die batch.0 page.0 version.seq.0 p (at t v)) {
        core = core_of g (read_done die batch.0 page.0 bytes pages answers t);
        works = with_value die None v.works;
        moment = suc v.moment;
      })) good
      (ends (at t v) die (Read batch page version slot) (DidRead cell) (core_of g (read_done die batch.0 page.0 bytes pages answers t))
      (get-from_sorted nat_cmp t.jobs die o.jobs ∙ there) sized worked
      ((λ i. record (core_of g t) {
        jobs = sym (remove_listed nat_cmp_total nat_same t.jobs die o.jobs) i;
        batches = sym (insert_listed nat_cmp_total nat_same t.batches batch.0
            (record { pages = pages; answers = from_sorted (with_number page.0 bytes answers) }) o.batches) i;
      }) ∙ (λ i. record left {
        batches = insert (from_sorted t.batches) batch.0
            (record { pages = pages; answers = sym (insert_listed nat_cmp_total nat_same answers page.0 bytes sorted) i });
      }) ∙ sym (ap (λ o. with_answer batch.0 page.0 bytes o left) (get-from_sorted nat_cmp t.batches batch.0 o.batches ∙ batch_there))
      ∙ sym (ap (λ p. read_ends die batch.0 page.0 p left) good)))

  -- a read that meets a fault takes its die out
  pub ends_faulty : (t : Table) (v : World) (die : ℕ) (batch : BatchId) (page : Page) (version : Version) (slot : Slot) (call : ℕ)
      → T (is_ordered t) → T (is_ordered (dropped die t)) → at_number die t.jobs ≡ Some (Read batch page version slot)
      → HasOutcome die (v.works die) (Fault call)
      → HappensEvent (at t v) (Done die (Fault call)) (at (dropped die t) (did die (Read batch page version slot) (Fault call) v))
  ends_faulty t v die batch page version slot call ordered left there worked =
      let o = in_order t ordered in
      let l = in_order (dropped die t) left in
      let jobs : remove (remove (from_sorted t.jobs) die) die ≡ from_sorted (without_number die (without_number die t.jobs)) =
      ap (λ m. remove m die) (remove_listed nat_cmp_total nat_same t.jobs die o.jobs)
      ∙ remove_listed nat_cmp_total nat_same (without_number die t.jobs) die
      (is_sorted-where_key nat_cmp (λ x. not (eq_by_cmp nat_cmp die x)) t.jobs o.jobs) in
      ends (at t v) die (Read batch page version slot) (Fault call) (core_of g (dropped die t))
      (get-from_sorted nat_cmp t.jobs die o.jobs ∙ there) refl worked
      (λ i. record (core_of g t) {
        page_map = record ((core_of g t).page_map) {
          live = sym (remove_listed nat_cmp_total nat_same t.live die o.live) i;
          used = sym (keep_listed place_cmp_total place_same (λ place used. not (place.0 == die)) t.used o.used l.used) i;
        };
        calendar = record ((core_of g t).calendar) {
          bookings = sym (keep_listed place_cmp_total place_same (λ place booking. not (place.0 == die)) t.bookings o.bookings l.bookings) i;
          windows = sym (remove_listed nat_cmp_total nat_same t.windows die o.windows) i;
        };
        epoch = t.epoch + 1;
        behind = sym (remove_listed nat_cmp_total nat_same t.live die o.live) i;
        stepped = sym (remove_listed nat_cmp_total nat_same t.stepped die o.stepped) i;
        waiting = filter (λ program. not (program.die == die)) t.waiting;
        jobs = sym jobs i;
        asked = sym (remove_listed nat_cmp_total nat_same t.asked die o.asked) i;
        synced = sym (remove_listed nat_cmp_total nat_same t.synced die o.synced) i;
      })

  -- no read of the round is to be waited for at the die, and no step of its window
  abbrev pub rests : Table → ℕ → Bool
  rests t die =
      not (is_read_pending (at_number die t.jobs) (find_entry place_cmp (die, t.round) t.bookings))
      && (not (is_in_window (at_number die t.windows) t.round) || (not (is_some (at_number die t.jobs)) && is_some (at_number die t.stepped)))

  rests_at : (t : Table) → Ordered t → (die : ℕ) → rests t die ≡ true → IsAtRest (core_of g t) die
  rests_at t o die h =
      let parts = and_parts (not (is_read_pending (at_number die t.jobs) (find_entry place_cmp (die, t.round) t.bookings))) _ h in
      record {
        read = (λ i. is_read_pending (get-from_sorted nat_cmp t.jobs die o.jobs i) (get-from_sorted place_cmp t.bookings (die, t.round) o.bookings i))
            ∙ not-true _ parts.0;
        step = elim (or_cases (not (is_in_window (at_number die t.windows) t.round)) _ parts.1) [
          | inl outside ↦ outside_no_step (core_of g t) die
              (ap (λ x. is_in_window x t.round) (get-from_sorted nat_cmp t.windows die o.windows) ∙ not-true _ outside)
          | inr done ↦
              let both = and_parts (not (is_some (at_number die t.jobs))) (is_some (at_number die t.stepped)) done in
              step_was_done (core_of g t) die (get-from_sorted nat_cmp t.jobs die o.jobs ∙ is_none_there (at_number die t.jobs) both.0)
              (ap is_some (get-from_sorted nat_cmp t.stepped die o.stepped) ∙ both.1)
        ];
      }

  pub advances : (t : Table) (v : World) (round : Round) → T (is_ordered t) → T (is_ordered (advanced t))
      → list_all (rests t) (below g.dies) ≡ true → (length t.bookings == 0 && length t.windows == 0) ≡ false
      → (t.round == 2 ^ 56) ≡ false → round.0 ≡ t.round + 1
      → HappensEvent (at t v) (Advance (Ok round)) (at (advanced t) (record v { moment = suc v.moment }))
  advances t v round ordered then_ordered rest some early next =
      let o = in_order t ordered in
      let l = in_order (advanced t) then_ordered in
      record {
        step = record {
          allows = refl;
          does = (
            may_advance (core_of g t) (all_pass (rests t) (IsAtRest (core_of g t)) (rests_at t o) (below g.dies) rest)
                ((λ i. len_listed place_cmp_total place_same t.bookings o.bookings i == 0 && len_listed nat_cmp_total nat_same t.windows o.windows i == 0) ∙ some)
                early,
            next,
            (λ i. record (core_of g t) {
              calendar = record {
                round = t.round + 1;
                bookings = sym (keep_listed place_cmp_total place_same (λ place b. nat_lt t.round place.1) t.bookings o.bookings l.bookings) i;
                windows = sym (keep_listed nat_cmp_total nat_same (λ die window. nat_lt t.round window.last.0) t.windows o.windows l.windows) i;
              };
              stepped = empty_listed nat_cmp_total nat_same i;
            }),
          );
        };
        told = tt;
        follows = refl;
      }
