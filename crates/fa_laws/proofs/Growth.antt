-- Each event keeps the replay of the history, and counts.
use Rattle.fa_laws.proofs.Endings.{HappensCall}
use Rattle.fa_machine.proofs.Takes.{IsOther, IsUrgent, take_cases}
use Rattle.fa_laws.specs.Counted.{HasHistory, commits_of, commits_over, is_read, starts_of, starts_over}
use Rattle.fa_machine.specs.Beginning.{IsBeginning}
use Rattle.fa_machine.specs.Cells.{DidErase, DidMove, DidProgram, DidRead, DidSync, DidWriteHeader, Outcome}
use Rattle.fa_machine.specs.Conditions.{reserved_under}
use Rattle.fa_machine.specs.Flushing.{Folds}
use Rattle.fa_machine.specs.Looks.{counts}
use Rattle.fa_machine.specs.History.{folded, is_commit, is_legal, replay}
use Rattle.fa_machine.specs.Placement.{copy_place}
use Rattle.fa_machine.specs.Run.{CallsNext, Event, Happening, Happens, ImageCall, Run}
use Rattle.fa_machine.specs.State.{Base, Core, OpenBatch, Reservation}
use Rattle.fa_machine.specs.Step.{Abandon, Act, Admit, Advance, Claim, Commit, CommitCopy, Does, Done, EndBatch, FlushBegin, Step}
use Rattle.fa_machine.specs.Step.{FlushState, Fold, Release, Replan, Reserve, ReserveCopy, ReserveFewer, ReserveHole, SpareIn, Take}
use Rattle.fa_machine.specs.Step.{Window}
use Rattle.fa_machine.specs.Taking.{EndsJob, Handed, Takes, begins, begun, finished, handed, read_ends, with_answer}
use Rattle.fa_machine.specs.Taking.{without_stale_booking}
use Rattle.fa_machine.specs.Turning.{CommitsCopy, copying_to}
use Rattle.fa_machine.specs.World.{Gave, JobCall, Work, World, next_call}
use Rattle.fa_machine.specs.Writing.{Abandons, Commits, Reserves, claimed_page}
use Rattle.fa_machine.specs.declared.answers.Copied.{Copied}
use Rattle.fa_machine.specs.declared.answers.Copied.TheVariants.{Current, Late}
use Rattle.fa_machine.specs.declared.answers.HistoryEntry.{HistoryEntry}
use Rattle.fa_machine.specs.declared.answers.HistoryEntry.TheVariants.{Commit as CommitEntry, Start}
use Rattle.fa_machine.specs.declared.jobs.Flight.{Flight}
use Rattle.fa_machine.specs.declared.jobs.Flight.TheVariants.{Erase, Header, Move, Program, Read, Sync}
use Rattle.fa_machine.specs.declared.places.Copying.{Copying}
use Rattle.fa_types.specs.declared.kind.Kind.{Kind}
use Rattle.fa_machine.specs.declared.places.Version.{Version}
use Rattle.fa_machine.specs.declared.refusals.AbandonRefused.{AbandonRefused}
use Rattle.fa_machine.specs.declared.refusals.ClaimRefused.TheVariants.{Claimed, NoMemory as ClaimNoMemory}
use Rattle.fa_machine.specs.declared.refusals.CommitCopyRefused.{CommitCopyRefused}
use Rattle.fa_machine.specs.declared.refusals.CommitCopyRefused.TheVariants.{Failed as CopyFailed, Pending as CopyPending}
use Rattle.fa_machine.specs.declared.refusals.CommitRefused.{CommitRefused}
use Rattle.fa_machine.specs.declared.refusals.FlushRefused.TheVariants.{Spent}
use Rattle.fa_machine.specs.declared.refusals.ReserveCopyRefused.TheVariants.{NoMemory as CopyNoMemory}
use Rattle.fa_machine.specs.declared.refusals.ReserveRefused.{ReserveRefused}
use Rattle.fa_machine.specs.declared.refusals.ReserveRefused.TheVariants.{NoMemory as ReserveNoMemory}
use Rattle.fa_machine.specs.declared.refusals.SpareRefused.TheVariants.{NotSpare}
use Rattle.fa_machine.specs.declared.refusals.WindowRefused.TheVariants.{Busy as WindowBusy, HasOne, NoMemory as WindowNoMemory}
use Rattle.fa_types.specs.declared.numbers.Page.{Page}
use Rattle.fa_types.specs.declared.numbers.Seq.{Seq}
use Rattle.std.proofs.Common.{Bool, List, None, Option, Some, [], ap, arith, cond, eq-eqb, false, inl, inr, refl, subst, sym, true, ℕ}
use Rattle.std.proofs.Common.{◌++◌, ◌+◌, ◌∙◌, ◌∷◌, ◌≡◌}
use Rattle.std.proofs.lemmas.List.Sums.{sum_by-append, sum_by-cons}
use Rattle.std.specs.Cmp.{nat_cmp_total}
use Rattle.std.specs.FinMap.{FinMap, get, get-insert, insert}
use Rattle.std.specs.Ordering.{eq_by_cmp, nat_cmp}
use Rattle.std.specs.Option.{option_map_or}
use Rattle.std.specs.Prelude.{Err, Ok, Result, count_by, if◌then◌else◌, not, option_map, ◌&&◌, ◌==◌}

replay-append : (numbers : FinMap nat_cmp ℕ) (a b : List HistoryEntry) → replay numbers (a ++ b) ≡ replay (replay numbers a) b
replay-append numbers [] b = refl
replay-append numbers (CommitEntry seat page seq ∷ a) b = replay-append (insert numbers page.0 seq.0) a b
replay-append numbers (Start seat page seq ∷ a) b = replay-append numbers a b

and-assoc : (x y z : Bool) → (x && (y && z)) ≡ ((x && y) && z)
and-assoc true y z = refl
and-assoc false y z = refl

abbrev is_number : Option ℕ → ℕ → Bool
is_number number seq = option_map_or (λ n. n == seq) number false

legal-append : (numbers : FinMap nat_cmp ℕ) (a b : List HistoryEntry)
    → is_legal numbers (a ++ b) ≡ (is_legal numbers a && is_legal (replay numbers a) b)
legal-append numbers [] b = refl
legal-append numbers (CommitEntry seat page seq ∷ a) b = legal-append (insert numbers page.0 seq.0) a b
legal-append numbers (Start seat page seq ∷ a) b =
    ap (λ rest. is_number (get numbers page.0) seq.0 && rest) (legal-append numbers a b)
    ∙ and-assoc (is_number (get numbers page.0) seq.0) (is_legal numbers a) (is_legal (replay numbers a) b)

abbrev commits_in : List HistoryEntry → ℕ
commits_in entries = count_by is_commit entries

abbrev starts_in : List HistoryEntry → ℕ
starts_in entries = count_by (λ entry. not (is_commit entry)) entries

commits-append : (a b : List HistoryEntry) → commits_in (a ++ b) ≡ commits_in a + commits_in b
commits-append a b = sum_by-append (λ entry. cond (is_commit entry) 1 0) a b

starts-append : (a b : List HistoryEntry) → starts_in (a ++ b) ≡ starts_in a + starts_in b
starts-append a b = sum_by-append (λ entry. cond (not (is_commit entry)) 1 0) a b

-- the parts of a state that the history is of
abbrev pub Three : Type 0
Three = FinMap nat_cmp Version × Base × List HistoryEntry

abbrev pub three : Core → Three
three core = (core.page_map.versions, core.base, core.history)

pub record Has (t : Three) : Type 0 where
  pub replayed : (page : ℕ) → get (replay t.1.numbers t.2) page ≡ option_map (λ version. version.seq.0) (get t.0 page)
  pub legal : is_legal t.1.numbers t.2 ≡ true

-- what an event adds
pub record Grows (a b : Three) (commits starts : ℕ) : Type 0 where
  pub keeps : Has a → Has b
  pub commits_rise : b.1.commits + commits_in b.2 ≡ a.1.commits + commits_in a.2 + commits
  pub starts_rise : b.1.starts + starts_in b.2 ≡ a.1.starts + starts_in a.2 + starts

grows_same : (a : Three) → Grows a a 0 0
grows_same a = record { keeps = λ h. h; commits_rise = omega arith; starts_rise = omega arith }

grows_nothing : (a b : Three) → b ≡ a → Grows a b 0 0
grows_nothing a b e = subst (λ x. Grows a x 0 0) (sym e) (grows_same a)

number_after : (b : Bool) (v : Version) (o : Option Version)
    → cond b (Some v.seq.0) (option_map (λ version. version.seq.0) o) ≡ option_map {T = Version} (λ version. version.seq.0) (cond b (Some v) o)
number_after true v o = refl
number_after false v o = refl

commit_grows : (t : Three) (seat page : ℕ) (v : Version)
    → Grows t (insert t.0 page v, t.1, t.2 ++ CommitEntry seat (record { 0 = page }) v.seq ∷ []) 1 0
commit_grows t seat page v = record {
  keeps = λ h. record {
    replayed = λ p.
        ap (λ m. get m p) (replay-append t.1.numbers t.2 (CommitEntry seat (record { 0 = page }) v.seq ∷ []))
        ∙ get-insert nat_cmp_total (replay t.1.numbers t.2) page v.seq.0 p
        ∙ ap (cond (eq_by_cmp nat_cmp p page) (Some v.seq.0)) (h.replayed p)
        ∙ number_after (eq_by_cmp nat_cmp p page) v (get t.0 p)
        ∙ sym (ap (option_map (λ version. version.seq.0)) (get-insert nat_cmp_total t.0 page v p));
    legal = legal-append t.1.numbers t.2 (CommitEntry seat (record { 0 = page }) v.seq ∷ []) ∙ ap (λ b. b && true) h.legal;
  };
  commits_rise = let e = commits-append t.2 (CommitEntry seat (record { 0 = page }) v.seq ∷ []) in omega (arith, e);
  starts_rise = let e = starts-append t.2 (CommitEntry seat (record { 0 = page }) v.seq ∷ []) in omega (arith, e);
}

eqb_same : (n : ℕ) → (n == n) ≡ true
eqb_same n = eq-eqb n n refl

start_grows : (t : Three) (seat : ℕ) (page : Page) (v : Version) → get t.0 page.0 ≡ Some v
    → Grows t (t.0, t.1, t.2 ++ Start seat page v.seq ∷ []) 0 1
start_grows t seat page v is = record {
  keeps = λ h. record {
    replayed = λ p. ap (λ m. get m p) (replay-append t.1.numbers t.2 (Start seat page v.seq ∷ [])) ∙ h.replayed p;
    legal = legal-append t.1.numbers t.2 (Start seat page v.seq ∷ [])
        ∙ ap (λ b. b && (is_number (get (replay t.1.numbers t.2) page.0) v.seq.0 && true)) h.legal
        ∙ ap (λ o. is_number o v.seq.0 && true) (h.replayed page.0 ∙ ap (option_map (λ version. version.seq.0)) is)
        ∙ ap (λ b. b && true) (eqb_same v.seq.0);
  };
  commits_rise = let e = commits-append t.2 (Start seat page v.seq ∷ []) in omega (arith, e);
  starts_rise = let e = starts-append t.2 (Start seat page v.seq ∷ []) in omega (arith, e);
}

fold_grows : (t : Three) → Grows t (t.0, folded t.1 t.2, []) 0 0
fold_grows t = record {
  keeps = λ h. record { replayed = h.replayed; legal = refl };
  commits_rise = omega arith;
  starts_rise = omega arith;
}

-- an event that leaves the three parts
leaves : (old new x : Core) → new ≡ x → three x ≡ three old → Grows (three old) (three new) 0 0
leaves old new x e same = grows_nothing (three old) (three new) (ap three e ∙ same)

commit_reserved : (old new : Core) (claim seat : ℕ) (r : Option Reservation) (answer : Result Seq CommitRefused)
    → Commits old claim seat r answer new → Grows (three old) (three new) (commits_of (Event (Commit claim seat answer))) 0
commit_reserved old new claim seat None answer d = absurd d
commit_reserved old new claim seat (Some r) (Ok seq) d =
    subst (λ x. Grows (three old) x 1 0) (sym (ap three d.2)) (commit_grows (three old) seat (claimed_page old claim) r.version)
commit_reserved old new claim seat (Some r) (Err refused) d = leaves old new old d.1 refl

abandon_reserved : (old new : Core) (claim : ℕ) (r : Option Reservation) (answer : Result (Unit {0}) AbandonRefused)
    → Abandons old claim r answer new → Grows (three old) (three new) 0 0
abandon_reserved old new claim None answer d = absurd d
abandon_reserved old new claim (Some r) (Ok done) d = leaves old new _ d.1 refl
abandon_reserved old new claim (Some r) (Err refused) d = leaves old new old d.1 refl

reserve_at_least : (old new : Core) (claim least : ℕ) (kind : Kind) (payload : List ℕ) (answer : Result Seq ReserveRefused)
    → Reserves old claim least kind payload answer new → Grows (three old) (three new) 0 0
reserve_at_least old new claim least kind payload (Ok seq) d = leaves old new _ d.2 refl
reserve_at_least old new claim least kind payload (Err ReserveNoMemory) d = leaves old new old d.1 refl
reserve_at_least old new claim least kind payload (Err refused) d = leaves old new old d.1 refl

abbrev started_by : Option Handed → ℕ
started_by None = 0
started_by (Some job) = if is_read job.flight then 1 else 0

-- the parts of a state after a Take
abbrev TakeGrows : Core → Option Handed × Core → Type 0
TakeGrows old pair = Grows (three old) (three pair.1) 0 (started_by pair.0)

begun_urgent : (old : Core) (die seat : ℕ) (flight : Flight) → IsUrgent old die flight
    → TakeGrows old (Some (handed flight), begun die seat flight old)
begun_urgent old die seat (Header epoch live) u = grows_same (three old)
begun_urgent old die seat (Move page version from to) u = grows_same (three old)
begun_urgent old die seat (Erase block) u = grows_same (three old)
begun_urgent old die seat (Read batch page version slot) u = start_grows (three old) seat page version u.number
begun_urgent old die seat (Program page version slot) u = absurd u
begun_urgent old die seat (Sync flushes) u = absurd u

begun_other : (old : Core) (die seat : ℕ) (job : Option Handed) → IsOther (without_stale_booking die old) die job
    → TakeGrows old (begins die seat (without_stale_booking die old) job)
begun_other old die seat None u = grows_same (three old)
begun_other old die seat (Some job) u =
    elim u [
      | inl p ↦ subst (λ j. TakeGrows old (begins die seat (without_stale_booking die old) (Some j))) (sym p.2) (grows_same (three old))
      | inr f ↦ subst (λ j. TakeGrows old (begins die seat (without_stale_booking die old) (Some j))) (sym f.1) (grows_same (three old))
    ]

take : (old new : Core) (die seat : ℕ) (answer : Option Handed) → Takes old die seat answer new
    → Grows (three old) (three new) 0 (started_by answer)
take old new die seat answer e =
    subst (TakeGrows old) (sym e)
    (take_cases old die seat (TakeGrows old) (grows_same (three old)) (λ flight idle u. begun_urgent old die seat flight u)
    (λ job idle u. begun_other old die seat job u))

with_answer_three : (batch page : ℕ) (payload : List ℕ) (b : Option OpenBatch) (core : Core) → three (with_answer batch page payload b core) ≡ three core
with_answer_three batch page payload None core = refl
with_answer_three batch page payload (Some b) core = refl

read_ends_three : (die batch page : ℕ) (o : Option (List ℕ)) (core : Core) → three (read_ends die batch page o core) ≡ three core
read_ends_three die batch page None core = refl
read_ends_three die batch page (Some payload) core = with_answer_three batch page payload (get core.batches batch) core

header_ends_three : (b : Bool) (x core : Core) → three x ≡ three core → three (if b then x else core) ≡ three core
header_ends_three true x core e = e
header_ends_three false x core e = refl

finished_three : (die : ℕ) (flight : Flight) (outcome : Outcome) (core : Core) → three (finished die flight outcome core) ≡ three core
finished_three die (Read batch page version slot) (DidRead cell) core = read_ends_three die batch.0 page.0 _ core
finished_three die (Header epoch live) DidWriteHeader core = header_ends_three (epoch == core.epoch) _ core refl
finished_three die (Program page version slot) DidProgram core = refl
finished_three die (Move page version from to) DidMove core = refl
finished_three die (Erase block) DidErase core = refl
finished_three die (Sync flushes) DidSync core = refl
finished_three die flight outcome core = refl

done : (old new : Core) (die : ℕ) (flight : Option Flight) (outcome : Outcome) → EndsJob old die flight outcome new
    → Grows (three old) (three new) 0 0
done old new die None outcome d = absurd d
done old new die (Some flight) outcome d = leaves old new _ d (finished_three die flight outcome _)

copying_three : (core : Core) (page : ℕ) (payload : List ℕ) (v : Option Version) (die : Option ℕ) → three (copying_to core page payload v die) ≡ three core
copying_three core page payload (Some v) (Some die) = refl
copying_three core page payload v die = refl

commit_copy : (old new : Core) (c : Option Copying) (answer : Result Copied CommitCopyRefused) → CommitsCopy old c answer new
    → Grows (three old) (three new) 0 0
commit_copy old new None answer d = absurd d
commit_copy old new (Some c) (Ok Current) d = leaves old new _ d.2 refl
commit_copy old new (Some c) (Ok Late) d = leaves old new _ d.2 refl
commit_copy old new (Some c) (Err CopyPending) d = leaves old new _ d.1 refl
commit_copy old new (Some c) (Err CopyFailed) d = leaves old new _ d.1 refl

-- what each event adds
event_grows : (old : Core) (act : Act) (new : Core) → Does old act new
    → Grows (three old) (three new) (commits_of (Event act)) (starts_of (Event act))
event_grows old (Claim page (Ok id)) new d = leaves old new _ d.2 refl
event_grows old (Claim page (Err Claimed)) new d = leaves old new _ d.1 refl
event_grows old (Claim page (Err ClaimNoMemory)) new d = leaves old new _ d.1 refl
event_grows old (Release claim) new d = leaves old new _ d refl
event_grows old (Reserve claim payload answer) new d = reserve_at_least old new claim _ _ payload answer d
event_grows old (ReserveHole claim answer) new d = reserve_at_least old new claim _ _ _ answer d
event_grows old (ReserveFewer claim payload answer) new d = reserve_at_least old new claim _ _ payload answer d
event_grows old (Commit claim seat answer) new d = commit_reserved old new claim seat (reserved_under old claim) answer d
event_grows old (Abandon claim answer) new d = abandon_reserved old new claim (reserved_under old claim) answer d
event_grows old (Admit pages (Ok admitted)) new d = leaves old new _ d.2 refl
event_grows old (Admit pages (Err refused)) new d = leaves old new _ d.1 refl
event_grows old (Replan batch (Ok planned)) new d = leaves old new _ d.1 refl
event_grows old (Replan batch (Err refused)) new d = leaves old new _ d.1 refl
event_grows old (EndBatch batch answer) new d = leaves old new _ d.1 refl
event_grows old (Take die seat None) new d = take old new die seat None d
event_grows old (Take die seat (Some job)) new d = take old new die seat (Some job) d
event_grows old (Done die outcome) new d = done old new die (get old.jobs die) outcome d
event_grows old (Window die count (Ok first)) new d = leaves old new _ d.3 refl
event_grows old (Window die count (Err WindowBusy)) new d = leaves old new _ d.1 refl
event_grows old (Window die count (Err HasOne)) new d = leaves old new _ d.2 refl
event_grows old (Window die count (Err WindowNoMemory)) new d = leaves old new _ d.2 refl
event_grows old (Advance (Ok round)) new d = leaves old new _ d.2 refl
event_grows old (Advance (Err refused)) new d = leaves old new _ d.1 refl
event_grows old (SpareIn die (Ok in_it)) new d = leaves old new _ d.1 refl
event_grows old (SpareIn die (Err NotSpare)) new d = leaves old new _ d.1 refl
event_grows old (ReserveCopy page seq payload (Ok in_it)) new d =
    leaves old new _ d.1 (copying_three old page payload (get old.page_map.versions page) (copy_place old.copies old.page_map page))
event_grows old (ReserveCopy page seq payload (Err CopyNoMemory)) new d = leaves old new _ d.1 refl
event_grows old (ReserveCopy page seq payload (Err refused)) new d = leaves old new _ d.1 refl
event_grows old (CommitCopy answer) new d = commit_copy old new old.copying answer d
event_grows old (FlushBegin (Ok flush)) new d = leaves old new _ d.3 refl
event_grows old (FlushBegin (Err Spent)) new d = leaves old new _ d.1 refl
event_grows old (FlushState flush answer) new d = leaves old new _ d.1 refl
event_grows old Fold new d = subst (λ x. Grows (three old) x 0 0) (sym (ap three d)) (fold_grows (three old))

call_grows : (before after : World) (die : ℕ) (work : Option Work) (gave : Gave) → HappensCall before die work gave after
    → Grows (three before.core) (three after.core) 0 0
call_grows before after die None gave d = absurd d
call_grows before after die (Some work) gave d = next_grows (next_call die work.job work.gave) d
  where
    next_grows : (call : Option JobCall) → CallsNext before die (Some work) call gave after → Grows (three before.core) (three after.core) 0 0
    next_grows None d = absurd d
    next_grows (Some call) d = leaves before.core after.core _ (ap (λ (w : World). w.core) d.2) refl

grows : (before : World) (happening : Happening) (after : World) → Happens before happening after
    → Grows (three before.core) (three after.core) (commits_of happening) (starts_of happening)
grows before (Event act) after h = event_grows before.core act after.core h.step.does
grows before (ImageCall die gave) after h = call_grows before after die (before.works die) gave h

risen : (first middle last one more : ℕ) → middle ≡ first + one → last ≡ middle + more → last ≡ first + (one + more)
risen first middle last one more a b = omega arith

-- what a run adds
pub run_grows : (first : World) (happenings : List Happening) (last : World) → Run first happenings last
    → Grows (three first.core) (three last.core) (commits_over happenings) (starts_over happenings)
run_grows first [] last run = grows_nothing (three first.core) (three last.core) (ap (λ (w : World). three w.core) run)
run_grows first (happening ∷ happenings) last run =
    let a = grows first happening run.0 run.1 in
    let b = run_grows run.0 happenings last run.2 in
    record {
      keeps = λ h. b.keeps (a.keeps h);
      commits_rise = risen _ _ _ _ _ a.commits_rise b.commits_rise ∙ ap (λ n. first.core.base.commits + commits_in first.core.history + n) (sym (sum_by-cons commits_of happening happenings));
      starts_rise = risen _ _ _ _ _ a.starts_rise b.starts_rise ∙ ap (λ n. first.core.base.starts + starts_in first.core.history + n) (sym (sum_by-cons starts_of happening happenings));
    }

-- a beginning has an empty history over the numbers of the pages
pub begins_with : (first : World) → IsBeginning first → Has (three first.core)
begins_with first beginning = record {
  replayed = λ page. ap (λ entries. get (replay first.core.base.numbers entries) page) none ∙ beginning.based page;
  legal = ap (is_legal first.core.base.numbers) none;
}
  where
    none : first.core.history ≡ []
    none = ap (λ (c : Core). c.history) beginning.fresh

pub history_over : (first last : World) (happenings : List Happening) → IsBeginning first → Run first happenings last → HasHistory last.core
history_over first last happenings fresh run =
    let h = (run_grows first happenings last run).keeps (begins_with first fresh) in
    record { replayed = h.replayed; legal = h.legal }

from_none : (before more after : ℕ) → after ≡ before + more → before ≡ 0 → after ≡ more
from_none before more after e none = omega arith

pub counts_over : (first last : World) (happenings : List Happening) → IsBeginning first → Run first happenings last
    → counts last.core ≡ (commits_over happenings, starts_over happenings)
counts_over first last happenings fresh run =
    let g = run_grows first happenings last run in
    let none : first.core.base.commits + commits_in first.core.history ≡ 0 = ap (λ (c : Core). c.base.commits + commits_in c.history) fresh.fresh in
    let no : first.core.base.starts + starts_in first.core.history ≡ 0 = ap (λ (c : Core). c.base.starts + starts_in c.history) fresh.fresh in
    let c = from_none _ _ _ g.commits_rise none in
    let s = from_none _ _ _ g.starts_rise no in
    λ i. (c i, s i)

pub fold_keeps : (old new : Core) → Folds old new
    → (replay new.base.numbers new.history ≡ replay old.base.numbers old.history) × (counts new ≡ counts old)
fold_keeps old new e =
    let g = subst (λ x. Grows (three old) x 0 0) (sym (ap three e)) (fold_grows (three old)) in
    let c : new.base.commits + commits_in new.history ≡ old.base.commits + commits_in old.history = omega (arith, g.commits_rise) in
    let s : new.base.starts + starts_in new.history ≡ old.base.starts + starts_in old.history = omega (arith, g.starts_rise) in
    (ap (λ (x : Core). replay x.base.numbers x.history) e, λ i. (c i, s i))

-- what one event adds
pub step_history : (old new : Core) (act : Act) → Step old act new → HasHistory old → HasHistory new
step_history old new act step h =
    let after = (event_grows old act new step.does).keeps (record { replayed = h.replayed; legal = h.legal }) in
    record { replayed = after.replayed; legal = after.legal }

pub step_counts : (old new : Core) (act : Act) → Step old act new
    → counts new ≡ ((counts old).0 + commits_of (Event act), (counts old).1 + starts_of (Event act))
step_counts old new act step =
    let g = event_grows old act new step.does in
    λ i. (g.commits_rise i, g.starts_rise i)
