-- A die starts one booked read a round at most.
use Rattle.fa_laws.proofs.Booked.{booked_kept, opened_at}
use Rattle.fa_laws.proofs.Failing.{LiveLaw}
use Rattle.fa_laws.proofs.Growth.{step_counts}
use Rattle.fa_laws.proofs.Ranged.{calls_core}
use Rattle.fa_laws.proofs.Returning.{IsOut, SparesLaw, stays_out}
use Rattle.fa_laws.proofs.Runs.{run_keeps}
use Rattle.fa_laws.proofs.Within.{GeometryLaw}
use Rattle.fa_machine.proofs.Lists.{among-range}
use Rattle.fa_machine.proofs.Maps.{get-keep, get-place_other, get-place_same, get-remove_same, passed, place_cmp_total, place_same}
use Rattle.fa_machine.proofs.Takes.{IsOther, IsUrgent, take_cases}
use Rattle.fa_laws.specs.Counted.{is_read, starts_of}
use Rattle.fa_laws.specs.Kept.{KeepsRound}
use Rattle.fa_laws.specs.Reached.{IsReached}
use Rattle.fa_machine.specs.Among.{Among, tally}
use Rattle.fa_machine.specs.Beginning.{IsBeginning}
use Rattle.fa_machine.specs.Cells.{DidErase, DidMove, DidProgram, DidRead, DidSync, DidWriteHeader, Fault, Outcome, Wrong, payload_of}
use Rattle.fa_machine.specs.Conditions.{drop_die, reserved_under}
use Rattle.fa_machine.specs.Looks.{counts}
use Rattle.fa_machine.specs.Maps.{below, keep, place_cmp}
use Rattle.fa_machine.specs.Placement.{copy_place}
use Rattle.fa_machine.specs.Reading.{Planned, left_of, released, to_read}
use Rattle.fa_machine.specs.Run.{Event, Happening, Happens, ImageCall}
use Rattle.fa_machine.specs.State.{Core, OpenBatch, Reservation, dies_of, is_live}
use Rattle.fa_machine.specs.Step.{Abandon, Act, Admit, Advance, Claim, Commit, CommitCopy, Does, Done, EndBatch, FlushBegin}
use Rattle.fa_machine.specs.Step.{FlushState, Fold, Release, Replan, Reserve, ReserveCopy, ReserveFewer, ReserveHole, SpareIn, Step, Take}
use Rattle.fa_machine.specs.Step.{Window}
use Rattle.fa_machine.specs.Taking.{EndsJob, Handed, Takes, begins, begun, finished, handed, is_idle, read_ends, with_answer}
use Rattle.fa_machine.specs.Taking.{without_stale_booking}
use Rattle.fa_machine.specs.Turning.{CommitsCopy, copying_to}
use Rattle.fa_machine.specs.World.{World}
use Rattle.fa_machine.specs.Writing.{Abandons, Commits, Reserves}
use Rattle.fa_machine.specs.declared.answers.Copied.{Copied}
use Rattle.fa_machine.specs.declared.answers.Copied.TheVariants.{Current, Late}
use Rattle.fa_machine.specs.declared.jobs.Flight.{Flight}
use Rattle.fa_machine.specs.declared.jobs.Flight.TheVariants.{Erase, Header, Move, Program, Read, Sync}
use Rattle.fa_machine.specs.declared.places.Booking.{Booking}
use Rattle.fa_machine.specs.declared.places.Copying.{Copying}
use Rattle.fa_types.specs.declared.kind.Kind.{Kind}
use Rattle.fa_machine.specs.declared.places.Version.{Version}
use Rattle.fa_machine.specs.declared.refusals.AbandonRefused.{AbandonRefused}
use Rattle.fa_machine.specs.declared.refusals.ClaimRefused.TheVariants.{Claimed, NoMemory as ClaimNoMemory}
use Rattle.fa_machine.specs.declared.refusals.CommitCopyRefused.{CommitCopyRefused}
use Rattle.fa_machine.specs.declared.refusals.CommitCopyRefused.TheVariants.{Failed as CopyFailed, Pending as CopyPending}
use Rattle.fa_machine.specs.declared.refusals.CommitRefused.{CommitRefused}
use Rattle.fa_machine.specs.declared.refusals.FlushRefused.TheVariants.{Spent}
use Rattle.fa_machine.specs.declared.refusals.ReserveCopyRefused.TheVariants.{NoMemory as CopyNoMemory}
use Rattle.fa_machine.specs.declared.refusals.ReserveRefused.{ReserveRefused}
use Rattle.fa_machine.specs.declared.refusals.ReserveRefused.TheVariants.{NoMemory as ReserveNoMemory}
use Rattle.fa_machine.specs.declared.refusals.SpareRefused.TheVariants.{NotSpare}
use Rattle.fa_machine.specs.declared.refusals.WindowRefused.TheVariants.{Busy as WindowBusy, HasOne, NoMemory as WindowNoMemory}
use Rattle.fa_sound.specs.Sound.{IsSound}
use Rattle.fa_types.specs.declared.geometry.Geometry.{Geometry}
use Rattle.fa_types.specs.declared.numbers.Seq.{Seq}
use Rattle.std.proofs.Common.{Bool, List, None, Option, Some, [], add-one, ap, arith, false, inl, inr, length, not, refl, subst, suc, sym, true}
use Rattle.std.proofs.Common.{ℕ, ◌*◌, ◌+◌, ◌||◌, ◌∙◌, ◌∷◌, ◌≡◌, ◌≤◌, ◌⊎◌}
use Rattle.std.proofs.Math.Nat.{mul-suc}
use Rattle.std.proofs.lemmas.Bool.{and_parts, cases_Bool, cases_eq, false_from_ne_true, false≢true, ne_eqb, not_from_false, or_cases, or_left, or_right}
use Rattle.std.proofs.lemmas.List.FromFn.{length-range_with_len}
use Rattle.std.specs.FinMap.{FinMap, contains_key, get, insert, remove}
use Rattle.std.specs.Option.{option_map_or}
use Rattle.std.specs.Prelude.{Err, Ok, Result, if◌then◌else◌, is_some, ◌&&◌, ◌==◌}

-- whether the read that is booked for a die at a place was started
abbrev is_begun : Option Booking → Bool
is_begun booking = option_map_or {T = Booking} (λ b. b.started) booking false

abbrev begun_at : Core → ℕ → Bool
begun_at core d = is_begun (get core.calendar.bookings (d, core.calendar.round))

abbrev gone : Core → ℕ → Bool
gone core d = not (is_live core.page_map d || contains_key core.spares d)

-- a die that starts no read any more in this round
abbrev is_spent : Core → ℕ → Bool
is_spent core d = begun_at core d || gone core d

begun_some : (o : Option Booking) → is_begun o ≡ true → (b : Booking) × (o ≡ Some b) × (b.started ≡ true)
begun_some None e = absurd (false≢true e)
begun_some (Some b) e = (b, refl, e)

tally_le : (p q : ℕ → Bool) → ((d : ℕ) → p d ≡ true → q d ≡ true) → (xs : List ℕ) → tally p xs ≤ tally q xs
tally_le p q more [] = omega arith
tally_le p q more (x ∷ xs) = both (p x) (q x) (more x) (tally_le p q more xs)
  where
    both : (a b : Bool) → (a ≡ true → b ≡ true) → tally p xs ≤ tally q xs → (if a then 1 else 0) + tally p xs ≤ (if b then 1 else 0) + tally q xs
    both true true f h = omega arith
    both true false f h = absurd (false≢true (f refl))
    both false true f h = omega arith
    both false false f h = omega arith

tally_lt : (p q : ℕ → Bool) → ((d : ℕ) → p d ≡ true → q d ≡ true) → (one : ℕ) → p one ≡ false → q one ≡ true → (xs : List ℕ) → Among one xs
    → tally p xs + 1 ≤ tally q xs
tally_lt p q more one unmet met [] i = absurd i
tally_lt p q more one unmet met (x ∷ xs) (inl same) =
    let a : ◌≡◌ {A = ℕ} (if p x then 1 else 0) 0 = ap {B = ℕ} (λ b. if b then 1 else 0) (ap p same ∙ unmet) in
    let b : ◌≡◌ {A = ℕ} (if q x then 1 else 0) 1 = ap {B = ℕ} (λ b. if b then 1 else 0) (ap q same ∙ met) in
    let rest = tally_le p q more xs in
    omega (arith, a, b, rest)
tally_lt p q more one unmet met (x ∷ xs) (inr later) = both (p x) (q x) (more x) (tally_lt p q more one unmet met xs later)
  where
    both : (a b : Bool) → (a ≡ true → b ≡ true) → tally p xs + 1 ≤ tally q xs → (if a then 1 else 0) + tally p xs + 1 ≤ (if b then 1 else 0) + tally q xs
    both true true f h = omega arith
    both true false f h = absurd (false≢true (f refl))
    both false true f h = omega arith
    both false false f h = omega arith

tally_all : (p : ℕ → Bool) (xs : List ℕ) → tally p xs ≤ length xs
tally_all p [] = omega arith
tally_all p (x ∷ xs) = one (p x) (tally_all p xs)
  where
    one : (a : Bool) → tally p xs ≤ length xs → (if a then 1 else 0) + tally p xs ≤ suc (length xs)
    one true h = omega arith
    one false h = omega arith

-- the die has started a read in this round, or is out
abbrev LeftAt : ℕ → Core → Type 0
LeftAt d core = (begun_at core d ≡ true) ⊎ IsOut core d

-- Every event but Advance leaves a read that was started in this round, or takes its die out.
module _ (old : Core) (sound : IsSound old) (d : ℕ) (was : begun_at old d ≡ true) where
  abbrev Left : Core → Type 0
  Left core = LeftAt d core

  to_left : (x core : Core) → core ≡ x → Left x → Left core
  to_left x core e u = subst Left (sym e) u

  abbrev Begun_in : FinMap place_cmp Booking → Type 0
  Begun_in bookings = is_begun (get bookings (d, old.calendar.round)) ≡ true

  begun_kept : (test : ℕ × ℕ → Booking → Bool) → ((b : Booking) → b.started ≡ true → test (d, old.calendar.round) b ≡ true)
      → Begun_in (keep test old.calendar.bookings)
  begun_kept test keeps =
      let found = begun_some _ was in
      ap is_begun (get-keep place_cmp_total place_same test old.calendar.bookings (d, old.calendar.round)
      ∙ ap (passed (test (d, old.calendar.round))) found.1 ∙ ap (λ b. if b then Some found.0 else None) (keeps found.0 found.2)) ∙ found.2

  released_left : (batch : ℕ) → Begun_in (released batch old.calendar).bookings
  released_left batch = begun_kept (λ place booking. booking.started || not (booking.batch.0 == batch)) (λ b s. or_left b.started _ s)

  stale_left : (die : ℕ) → Begun_in (without_stale_booking die old).calendar.bookings
  stale_left die =
      begun_kept (λ place b. not (place.0 == die && place.1 == old.calendar.round) || b.started) (λ b s. or_right (not (d == die && old.calendar.round == old.calendar.round)) b.started s)

  begun_left : (die seat : ℕ) (flight : Flight) → IsUrgent old die flight → Left (begun die seat flight old)
  begun_left die seat (Header epoch live) u = inl was
  begun_left die seat (Move page version from to) u = inl was
  begun_left die seat (Erase block) u = inl was
  begun_left die seat (Read batch page version slot) u =
      elim (cases_eq d die) [
        | inl same ↦ inl (ap (λ (n : ℕ). is_begun (get (insert old.calendar.bookings (die, old.calendar.round) one) (n, old.calendar.round))) same
            ∙ ap is_begun (get-place_same old.calendar.bookings die old.calendar.round one))
        | inr apart ↦ inl (ap is_begun (get-place_other old.calendar.bookings die old.calendar.round one d old.calendar.round (λ e f. apart e)) ∙ was)
      ]
    where
      one : Booking
      one = record { batch = batch; page = page; started = true }
  begun_left die seat (Program page version slot) u = absurd u
  begun_left die seat (Sync flushes) u = absurd u

  other_left : (die seat : ℕ) (job : Option Handed) → IsOther (without_stale_booking die old) die job → Left (begins die seat (without_stale_booking die old) job).1
  other_left die seat None u = inl (stale_left die)
  other_left die seat (Some job) u =
      elim u [
        | inl p ↦ subst (λ j. Left (begins die seat (without_stale_booking die old) (Some j)).1) (sym p.2) (inl (stale_left die))
        | inr f ↦ subst (λ j. Left (begins die seat (without_stale_booking die old) (Some j)).1) (sym f.1) (inl (stale_left die))
      ]

  take_left : (die seat : ℕ) (answer : Option Handed) (core : Core) → Takes old die seat answer core → Left core
  take_left die seat answer core e =
      subst (λ (pair : Option Handed × Core). Left pair.1) (sym e)
      (take_cases old die seat (λ (pair : Option Handed × Core). Left pair.1) (inl was) (λ flight idle u. begun_left die seat flight u) (λ job idle u. other_left die seat job u))

  abbrev over : ℕ → Core
  over die = record old { jobs = remove old.jobs die }

  drop_left : (die : ℕ) → is_live old.page_map die ≡ true → Left (drop_die die (over die))
  drop_left die alive =
      elim (cases_eq d die) [
        | inl same ↦ inr (record {
          not_live = ap is_some (ap (get (remove old.page_map.live die)) same ∙ get-remove_same old.page_map.live die);
          no_spare = ap (contains_key old.spares) same
              ∙ false_from_ne_true (contains_key old.spares die) (λ spare. false≢true (sym (sound.dies.apart die spare) ∙ alive));
        })
        | inr apart ↦ inl (begun_kept (λ place b. not (place.0 == die)) (λ b s. not_from_false (d == die) (ne_eqb d die apart)))
      ]

  answer_left : (die batch page : ℕ) (bytes : List ℕ) (b : Option OpenBatch) → Left (with_answer batch page bytes b (over die))
  answer_left die batch page bytes None = inl was
  answer_left die batch page bytes (Some b) = inl was

  read_left : (die batch page : ℕ) (o : Option (List ℕ)) → is_live old.page_map die ≡ true → Left (read_ends die batch page o (over die))
  read_left die batch page None alive = drop_left die alive
  read_left die batch page (Some bytes) alive = answer_left die batch page bytes (get old.batches batch)

  header_left : (b : Bool) (die : ℕ) → Left (if b then record (over die) { behind = remove old.behind die } else over die)
  header_left true die = inl was
  header_left false die = inl was

  finished_left : (die : ℕ) (flight : Flight) (outcome : Outcome) → is_live old.page_map die ≡ true → Left (finished die flight outcome (over die))
  finished_left die (Read batch page version slot) (DidRead cell) alive = read_left die batch.0 page.0 (payload_of page.0 version die slot.0 cell) alive
  finished_left die (Program page version slot) DidProgram alive = inl was
  finished_left die (Move page version from to) DidMove alive = inl was
  finished_left die (Erase block) DidErase alive = inl was
  finished_left die (Header epoch live) DidWriteHeader alive = header_left (epoch == old.epoch) die
  finished_left die (Sync flushes) DidSync alive = inl was
  finished_left die flight (Fault call) alive = drop_left die alive
  finished_left die flight Wrong alive = drop_left die alive
  finished_left die flight outcome alive = inl was

  done_left : (die : ℕ) (flight : Option Flight) (outcome : Outcome) (core : Core) → get old.jobs die ≡ flight → EndsJob old die flight outcome core → Left core
  done_left die None outcome core job e = absurd e
  done_left die (Some flight) outcome core job e = to_left _ core e (finished_left die flight outcome (sound.jobs die flight job).on_live)

  reserve_left : (claim least : ℕ) (kind : Kind) (payload : List ℕ) (answer : Result Seq ReserveRefused) (core : Core)
      → Reserves old claim least kind payload answer core → Left core
  reserve_left claim least kind payload (Ok seq) core e = to_left _ core e.2 (inl was)
  reserve_left claim least kind payload (Err ReserveNoMemory) core e = to_left old core e.1 (inl was)
  reserve_left claim least kind payload (Err refused) core e = to_left old core e.1 (inl was)

  commit_left : (claim seat : ℕ) (o : Option Reservation) (answer : Result Seq CommitRefused) (core : Core) → Commits old claim seat o answer core → Left core
  commit_left claim seat None answer core e = absurd e
  commit_left claim seat (Some r) (Ok seq) core e = to_left _ core e.2 (inl was)
  commit_left claim seat (Some r) (Err refused) core e = to_left old core e.1 (inl was)

  abandon_left : (claim : ℕ) (o : Option Reservation) (answer : Result (Unit {0}) AbandonRefused) (core : Core) → Abandons old claim o answer core → Left core
  abandon_left claim None answer core e = absurd e
  abandon_left claim (Some r) (Ok made) core e = to_left _ core e.1 (inl was)
  abandon_left claim (Some r) (Err refused) core e = to_left old core e.1 (inl was)

  copying_left : (page : ℕ) (payload : List ℕ) (v : Option Version) (die : Option ℕ) → Left (copying_to old page payload v die)
  copying_left page payload (Some v) (Some die) = inl was
  copying_left page payload (Some v) None = inl was
  copying_left page payload None die = inl was

  copy_left : (o : Option Copying) (answer : Result Copied CommitCopyRefused) (core : Core) → CommitsCopy old o answer core → Left core
  copy_left None answer core e = absurd e
  copy_left (Some k) (Ok Current) core e = to_left _ core e.2 (inl was)
  copy_left (Some k) (Ok Late) core e = to_left _ core e.2 (inl was)
  copy_left (Some k) (Err CopyPending) core e = to_left old core e.1 (inl was)
  copy_left (Some k) (Err CopyFailed) core e = to_left _ core e.1 (inl was)

  admit_left : (pages : List ℕ) (admitted : _) (core : Core) → Does old (Admit pages (Ok admitted)) core → Left core
  admit_left pages admitted core e =
      let found = begun_some _ was in
      to_left _ core e.2 (inl (ap is_begun (booked_kept admitted.batch admitted.planned.places old.calendar.bookings d old.calendar.round found.0
      (λ x i f g. false≢true (sym (opened_at old.page_map old.calendar (to_read old.page_map pages) admitted.planned e.0.2 x i).1
      ∙ ap is_some ((λ k. get old.calendar.bookings (f k, g k)) ∙ found.1))) found.1) ∙ found.2))

  replan_left : (batch : ℕ) (planned : Planned) (core : Core) → Does old (Replan batch (Ok planned)) core → Left core
  replan_left batch planned core e =
      let found = begun_some _ (released_left batch) in
      to_left _ core e.1 (inl (ap is_begun (booked_kept (record { 0 = batch }) planned.places (released batch old.calendar).bookings d old.calendar.round found.0
      (λ x i f g. false≢true (sym (opened_at old.page_map (released batch old.calendar) (left_of old batch) planned e.0.2 x i).1
      ∙ ap is_some ((λ k. get (released batch old.calendar).bookings (f k, g k)) ∙ found.1))) found.1) ∙ found.2))

  abbrev Or_advances : Act → Core → Type 0
  Or_advances (Advance (Ok round)) core = Unit {0}
  Or_advances act core = Left core

  event_left : (act : Act) (core : Core) → Does old act core → Or_advances act core
  event_left (Claim page (Ok id)) core e = to_left _ core e.2 (inl was)
  event_left (Claim page (Err Claimed)) core e = to_left _ core e.1 (inl was)
  event_left (Claim page (Err ClaimNoMemory)) core e = to_left _ core e.1 (inl was)
  event_left (Release claim) core e = to_left _ core e (inl was)
  event_left (Reserve claim payload answer) core e = reserve_left claim _ _ payload answer core e
  event_left (ReserveHole claim answer) core e = reserve_left claim _ _ _ answer core e
  event_left (ReserveFewer claim payload answer) core e = reserve_left claim _ _ payload answer core e
  event_left (Commit claim seat answer) core e = commit_left claim seat (reserved_under old claim) answer core e
  event_left (Abandon claim answer) core e = abandon_left claim (reserved_under old claim) answer core e
  event_left (Admit pages (Ok admitted)) core e = admit_left pages admitted core e
  event_left (Admit pages (Err refused)) core e = to_left _ core e.1 (inl was)
  event_left (Replan batch (Ok planned)) core e = replan_left batch planned core e
  event_left (Replan batch (Err refused)) core e = to_left _ core e.1 (inl was)
  event_left (EndBatch batch answer) core e = to_left _ core e.1 (inl (released_left batch))
  event_left (Take die seat answer) core e = take_left die seat answer core e
  event_left (Done die outcome) core e = done_left die (get old.jobs die) outcome core refl e
  event_left (Window die count (Ok first)) core e = to_left _ core e.3 (inl was)
  event_left (Window die count (Err WindowBusy)) core e = to_left _ core e.1 (inl was)
  event_left (Window die count (Err HasOne)) core e = to_left _ core e.2 (inl was)
  event_left (Window die count (Err WindowNoMemory)) core e = to_left _ core e.2 (inl was)
  event_left (Advance (Ok round)) core e = tt
  event_left (Advance (Err refused)) core e = to_left _ core e.1 (inl was)
  event_left (SpareIn die (Ok made)) core e = to_left _ core e.1 (inl was)
  event_left (SpareIn die (Err NotSpare)) core e = to_left _ core e.1 (inl was)
  event_left (ReserveCopy page seq payload (Ok made)) core e =
      to_left _ core e.1 (copying_left page payload (get old.page_map.versions page) (copy_place old.copies old.page_map page))
  event_left (ReserveCopy page seq payload (Err CopyNoMemory)) core e = to_left _ core e.1 (inl was)
  event_left (ReserveCopy page seq payload (Err refused)) core e = to_left _ core e.1 (inl was)
  event_left (CommitCopy answer) core e = copy_left old.copying answer core e
  event_left (FlushBegin (Ok flush)) core e = to_left _ core e.3 (inl was)
  event_left (FlushBegin (Err Spent)) core e = to_left _ core e.1 (inl was)
  event_left (FlushState flush answer) core e = to_left _ core e.1 (inl was)
  event_left Fold core e = to_left _ core e (inl was)

-- a booked read is started on a live die that started none in this round
abbrev Starts : Core → ℕ → Option Handed → Core → Type 0
Starts old die None new = Unit {0}
Starts old die (Some job) new =
    is_read job.flight ≡ true → (is_live old.page_map die ≡ true) × (begun_at old die ≡ false) × (begun_at new die ≡ true)

urgent_starts : (old : Core) (die seat : ℕ) (flight : Flight) → is_idle old die ≡ true → IsUrgent old die flight
    → Starts old die (Some (handed flight)) (begun die seat flight old)
urgent_starts old die seat (Header epoch live) idle u e = absurd (false≢true e)
urgent_starts old die seat (Move page version from to) idle u e = absurd (false≢true e)
urgent_starts old die seat (Erase block) idle u e = absurd (false≢true e)
urgent_starts old die seat (Read batch page version slot) idle u e = (
  (and_parts (is_live old.page_map die) _ idle).0,
  ap is_begun u.booked ∙ u.waits,
  ap is_begun (get-place_same old.calendar.bookings die old.calendar.round (record { batch = batch; page = page; started = true })),
)
urgent_starts old die seat (Program page version slot) idle u e = absurd u
urgent_starts old die seat (Sync flushes) idle u e = absurd u

other_starts : (old left : Core) (die seat : ℕ) (job : Option Handed) → IsOther left die job → Starts old die job (begins die seat left job).1
other_starts old left die seat None u = tt
other_starts old left die seat (Some job) u =
    λ e. elim u [
      | inl p ↦ absurd (false≢true (ap (λ (j : Handed). is_read j.flight) (sym p.2) ∙ e))
      | inr f ↦ absurd (false≢true (ap (λ (j : Handed). is_read j.flight) (sym f.1) ∙ e))
    ]

take_starts : (old : Core) (die seat : ℕ) (answer : Option Handed) (new : Core) → Takes old die seat answer new → Starts old die answer new
take_starts old die seat answer new e =
    subst (λ (pair : Option Handed × Core). Starts old die pair.0 pair.1) (sym e)
    (take_cases old die seat (λ (pair : Option Handed × Core). Starts old die pair.0 pair.1) tt (λ flight idle u. urgent_starts old die seat flight idle u)
    (λ job idle u. other_starts old (without_stale_booking die old) die seat job u))

abbrev pub RoundLaw : Type 0
RoundLaw = (old new : Core) (act : Act) → Step old act new → KeepsRound old act new

abbrev pub BeginLaw : Type 0
BeginLaw = (w : World) → IsBeginning w → IsSound w.core

abbrev pub SoundLaw : Type 0
SoundLaw = (old new : Core) (act : Act) → Step old act new → IsSound old → IsSound new

abbrev spent : Core → ℕ
spent core = tally (is_spent core) (dies_of core.page_map)

record Few (core : Core) : Type 0 where
  sound : IsSound core
  few : (counts core).1 + core.page_map.geometry.dies ≤ core.page_map.geometry.dies * core.calendar.round + spent core

spent_most : (core : Core) → spent core ≤ core.page_map.geometry.dies
spent_most core =
    let most = tally_all (is_spent core) (dies_of core.page_map) in
    let long = length-range_with_len 0 core.page_map.geometry.dies in
    omega (arith, most, long)

out_of : (core : Core) (d : ℕ) → gone core d ≡ true → IsOut core d
out_of core d e = parts (is_live core.page_map d) (contains_key core.spares d) refl refl e
  where
    parts : (a b : Bool) → is_live core.page_map d ≡ a → contains_key core.spares d ≡ b → not (a || b) ≡ true → IsOut core d
    parts true b x y e = absurd (false≢true e)
    parts false true x y e = absurd (false≢true e)
    parts false false x y e = record { not_live = x; no_spare = y }

gone_from : (core : Core) (d : ℕ) → IsOut core d → gone core d ≡ true
gone_from core d out = λ i. not (out.not_live i || out.no_spare i)

module _ (lives : LiveLaw) (spares : SparesLaw) (geometry : GeometryLaw) (rounds : RoundLaw) (keeps : SoundLaw) where
  abbrev Spends : Act → Core → Core → Type 0
  Spends (Advance (Ok round)) old new = Unit {0}
  Spends act old new = (d : ℕ) → is_spent old d ≡ true → is_spent new d ≡ true

  spent_from : (new : Core) (d : ℕ) → LeftAt d new → is_spent new d ≡ true
  spent_from new d (inl on) = or_left (begun_at new d) (gone new d) on
  spent_from new d (inr out) = or_right (begun_at new d) (gone new d) (gone_from new d out)

  event_spends : (old new : Core) (act : Act) → Step old act new → IsSound old → Spends act old new
  event_spends old new (Advance (Ok round)) step sound = tt
  event_spends old new act step sound = λ d e. elim (or_cases (begun_at old d) (gone old d) e) [
    | inl on ↦ spent_from new d (event_left old sound d on act new step.does)
    | inr out ↦ spent_from new d (inr (stays_out lives spares old new act d step (out_of old d out)))
  ]

  more_few : (starts next dies many round later s t more : ℕ) → starts + dies ≤ dies * round + s → next ≡ starts + more → many ≡ dies → later ≡ round
      → s + more ≤ t → next + many ≤ many * later + t
  more_few starts next dies many round later s t more h a b c rise =
      let product : many * later ≡ dies * round = λ i. b i * c i in omega (arith, h, a, b, product, rise)

  passed_few : (starts next dies many round later s t : ℕ) → starts + dies ≤ dies * round + s → s ≤ dies → next ≡ starts + 0 → many ≡ dies → later ≡ round + 1
      → next + many ≤ many * later + t
  passed_few starts next dies many round later s t h most a b c =
      let product : many * later ≡ dies * suc round = λ i. b i * (c ∙ add-one round) i in
      let longer = mul-suc dies round in
      omega (arith, h, most, a, b, product, longer)

  -- the dies that are spent, counted before and after
  spent_after : (old new : Core) (act : Act) → Step old act new → (more : ℕ) → spent old + more ≤ tally (is_spent new) (dies_of old.page_map) → spent old + more ≤ spent new
  spent_after old new act step more h =
      subst (λ (n : ℕ). spent old + more ≤ n) (ap (λ (g : Geometry). tally (is_spent new) (below g.dies)) (sym (geometry old new act step))) h

  few_after : (old new : Core) (act : Act) → Step old act new → Few old → new.calendar.round ≡ old.calendar.round
      → spent old + starts_of (Event act) ≤ tally (is_spent new) (dies_of old.page_map)
      → (counts new).1 + new.page_map.geometry.dies ≤ new.page_map.geometry.dies * new.calendar.round + spent new
  few_after old new act step f same rise =
      more_few (counts old).1 (counts new).1 old.page_map.geometry.dies new.page_map.geometry.dies old.calendar.round new.calendar.round (spent old) (spent new)
      (starts_of (Event act)) f.few (ap (λ (p : ℕ × ℕ). p.1) (step_counts old new act step)) (ap (λ (g : Geometry). g.dies) (geometry old new act step)) same
      (spent_after old new act step (starts_of (Event act)) rise)

  not_spent : (old : Core) (d : ℕ) → is_live old.page_map d ≡ true → begun_at old d ≡ false → is_spent old d ≡ false
  not_spent old d alive none = λ i. none i || not (alive i || contains_key old.spares d)

  take_few : (old new : Core) (die seat : ℕ) (job : Handed) → Step old (Take die seat (Some job)) new → Few old
      → spent old + (if is_read job.flight then 1 else 0) ≤ tally (is_spent new) (dies_of old.page_map)
  take_few old new die seat job step f =
      let kept = event_spends old new (Take die seat (Some job)) step f.sound in
      elim (cases_Bool (is_read job.flight)) [
        | inr other ↦
            let none : ◌≡◌ {A = ℕ} (if is_read job.flight then 1 else 0) 0 = ap {B = ℕ} (λ b. if b then 1 else 0) other in
            let le = tally_le (is_spent old) (is_spent new) kept (dies_of old.page_map) in
            omega (arith, none, le)
        | inl read ↦
            let one : ◌≡◌ {A = ℕ} (if is_read job.flight then 1 else 0) 1 = ap {B = ℕ} (λ b. if b then 1 else 0) read in
            let starts = take_starts old die seat (Some job) new step.does read in
            let inside = f.sound.dies.live_inside die starts.0 in
            let lt = tally_lt (is_spent old) (is_spent new) kept die (not_spent old die starts.0 starts.1) (or_left (begun_at new die) (gone new die) starts.2)
            (dies_of old.page_map) (among-range 0 old.page_map.geometry.dies die (omega arith) (omega (arith, inside))) in
            omega (arith, one, lt)
      ]

  kept_few : (old new : Core) → ((d : ℕ) → is_spent old d ≡ true → is_spent new d ≡ true) → spent old + 0 ≤ tally (is_spent new) (dies_of old.page_map)
  kept_few old new kept = let le = tally_le (is_spent old) (is_spent new) kept (dies_of old.page_map) in omega (arith, le)

  event_few : (old new : Core) (act : Act) → Step old act new → Few old
      → (counts new).1 + new.page_map.geometry.dies ≤ new.page_map.geometry.dies * new.calendar.round + spent new
  event_few old new (Advance (Ok round)) step f =
      let r = rounds old new (Advance (Ok round)) step in
      passed_few (counts old).1 (counts new).1 old.page_map.geometry.dies new.page_map.geometry.dies old.calendar.round new.calendar.round (spent old) (spent new)
      f.few (spent_most old) (ap (λ (p : ℕ × ℕ). p.1) (step_counts old new (Advance (Ok round)) step))
      (ap (λ (g : Geometry). g.dies) (geometry old new (Advance (Ok round)) step)) (r.1 ∙ r.0)
  event_few old new (Take die seat (Some job)) step f =
      few_after old new (Take die seat (Some job)) step f (rounds old new (Take die seat (Some job)) step) (take_few old new die seat job step f)
  event_few old new act step f =
      few_after old new act step f (rounds old new act step) (kept_few old new (event_spends old new act step f.sound))

  happens_few : (before : World) (happening : Happening) (after : World) → Few before.core → Happens before happening after → Few after.core
  happens_few before (Event act) after f happens = record {
    sound = keeps before.core after.core act happens.step f.sound;
    few = event_few before.core after.core act happens.step f;
  }
  happens_few before (ImageCall d gave) after f happens = subst Few (sym (calls_core before after d (before.works d) gave happens)) f

begins_few : BeginLaw → (w : World) → IsBeginning w → Few w.core
begins_few sound w b = record {
  sound = sound w b;
  few =
      let none : (counts w.core).1 ≡ 0 = ap (λ (c : Core). (counts c).1) b.fresh in
      let first : w.core.calendar.round ≡ 1 = ap (λ (c : Core). c.calendar.round) b.fresh in
      let once : w.core.page_map.geometry.dies * w.core.calendar.round ≡ w.core.page_map.geometry.dies * 1 = ap (λ n. w.core.page_map.geometry.dies * n) first in
      omega (arith, none, once);
}

pub reached_few : BeginLaw → SoundLaw → LiveLaw → SparesLaw → GeometryLaw → RoundLaw → (w : World) → IsReached w
    → (counts w.core).1 ≤ w.core.page_map.geometry.dies * w.core.calendar.round
reached_few begins keeps lives spares geometry rounds w r =
    let all = run_keeps (λ (v : World). Few v.core) (happens_few lives spares geometry rounds keeps) r.first r.happenings w (begins_few begins r.first r.beginning) r.run in
    let few = all.few in
    let most = spent_most w.core in
    omega (arith, few, most)
