-- Done keeps what holds, for each job and each outcome that its calls may come to.
use Rattle.fa_laws.proofs.Endings.{HasOutcome, may_end, with_done}
use Rattle.fa_laws.proofs.Admitting.{one_value_same}
use Rattle.fa_laws.proofs.Collected.{erase_ends_holds, move_ends_holds, read_ends_holds}
use Rattle.fa_laws.proofs.Finishing.{drop_holds, ended, ended_holds, program_ends_holds}
use Rattle.fa_laws.proofs.Invariant.{Holds, next, scene_of}
use Rattle.fa_laws.proofs.Outcomes.{gave_move, gave_program, gave_read}
use Rattle.fa_laws.proofs.Parts.{waits_once, written_here}
use Rattle.fa_laws.proofs.Scene.{GaveFits, IsReading, JobFits, flight_writes, program_is_at, writes}
use Rattle.fa_machine.specs.Among.{tally}
use Rattle.fa_machine.specs.Cells.{Cell, DidErase, DidMove, DidProgram, DidRead, DidSync, DidWriteHeader, Fault, Outcome, Wrong}
use Rattle.fa_machine.specs.Cells.{is_of_kind, payload_of}
use Rattle.fa_machine.specs.Maps.{Numbers}
use Rattle.fa_machine.specs.State.{Core, OpenBatch}
use Rattle.fa_machine.specs.Step.{Done, allowed, is_sized_read}
use Rattle.fa_machine.specs.Taking.{EndsJob, finished, read_ends}
use Rattle.fa_machine.specs.World.{Gave, Work, World, outcome_of, with_end, with_told, with_value}
use Rattle.fa_machine.specs.declared.ids.BatchId.{BatchId}
use Rattle.fa_machine.specs.declared.jobs.Flight.{Flight}
use Rattle.fa_machine.specs.declared.jobs.Flight.TheVariants.{Erase, Header, Move, Program, Read, Sync}
use Rattle.fa_machine.specs.declared.places.Version.{Version}
use Rattle.fa_types.specs.declared.numbers.Page.{Page}
use Rattle.fa_types.specs.declared.numbers.Slot.{Slot}
use Rattle.std.proofs.Common.{Bool, List, None, Option, Some, ap, arith, false, refl, subst, suc, sym, true, ℕ, ◌+◌, ◌∙◌, ◌≡◌, ◌≤◌}
use Rattle.std.proofs.lemmas.Bool.{and_parts, false≢true}
use Rattle.std.proofs.lemmas.Option.{none-some, same_Some}
use Rattle.std.specs.FinMap.{FinMap, get, insert, remove}
use Rattle.std.specs.Ordering.{nat_cmp}
use Rattle.std.specs.Prelude.{if◌then◌else◌, option_map, ◌==◌}

pub is_over : (w : World) (die : ℕ) → (ended die w).works die ≡ None
is_over w die = one_value_same die None w.works die refl

-- what else of the state changes is nothing that anything rests on
aside : (v : World) → Holds v → (behind stepped : Numbers) (synced : FinMap nat_cmp ℕ)
    → Holds (record v { core = record (v.core) { behind = behind; stepped = stepped; synced = synced } })
aside v h behind stepped synced = record {
  sound = h.sound;
  jobs = h.jobs;
  claims = h.claims;
  told = h.told;
  ordered = h.ordered;
  plain = h.plain;
  unwritten = h.unwritten;
  answered = h.answered;
}

header_if : (v : World) → Holds v → (b : Bool) (die : ℕ)
    → Holds (record v { core = if b then record (v.core) { behind = remove v.core.behind die } else v.core })
header_if v h true die = aside v h (remove v.core.behind die) v.core.stepped v.core.synced
header_if v h false die = h

read_case : (w : World) (h : Holds w) (die batch page : ℕ) (version : Version) (slot : ℕ) (cell : Cell) (o : Option (List ℕ))
    → payload_of page version die slot cell ≡ o → cell ≡ (w.images die).seen slot
    → IsReading (scene_of w).bytes (w.due die).bytes die page version slot
    → ((b : OpenBatch) → get w.core.batches batch ≡ Some b → w.admitted batch ≤ (w.due die).since)
    → Holds (record (with_told die batch page version.seq.0 o w) {
      works = with_value die None w.works;
      core = read_ends die batch page o (record (w.core) { jobs = remove w.core.jobs die });
      moment = suc w.moment;
    })
read_case w h die batch page version slot cell None gives is fits since = drop_holds (ended die w) (ended_holds w h die) die (is_over w die)
read_case w h die batch page version slot cell (Some bytes) gives is fits since =
    let same : bytes ≡ (w.due die).bytes = same_Some bytes (w.due die).bytes (sym gives ∙ ap (payload_of page version die slot) is ∙ fits.cell) in
    read_ends_holds (ended die w) (ended_holds w h die) die batch page version bytes same (same ∙ fits.right) fits.below since

job_ends : (w : World) (h : Holds w) (die : ℕ) (flight : Flight) (payload : List ℕ) (lasting : Bool) (gave : List Gave) (outcome : Outcome)
    → JobFits (scene_of w).bytes (scene_of w).places (scene_of w).in_block (w.due die).bytes die flight payload
    → GaveFits (scene_of w).bytes die flight gave
    → outcome_of die (record { flight = flight; payload = payload; lasting = lasting }) gave ≡ Some outcome
    → is_of_kind flight outcome ≡ true
    → ((slot : ℕ) → tally (program_is_at die slot) w.core.waiting + flight_writes flight slot ≤ 1)
    → ((batch : BatchId) (page : Page) (version : Version) (slot : Slot) (b : OpenBatch) → flight ≡ Read batch page version slot
    → get w.core.batches batch.0 ≡ Some b → w.admitted batch.0 ≤ (w.due die).since)
    → Holds (record (with_end die (Some flight) outcome w) {
      works = with_value die None w.works;
      core = finished die flight outcome (record (w.core) { jobs = remove w.core.jobs die });
      moment = suc w.moment;
    })
job_ends w h die (Read batch page version slot) payload lasting gave (DidRead cell) fits g out kind once since =
    read_case w h die batch.0 page.0 version slot.0 cell (payload_of page.0 version die slot.0 cell) refl
    (gave_read (scene_of w).bytes die batch page version slot payload lasting gave cell out g) fits (λ b e. since batch page version slot b refl e)
job_ends w h die (Program page version slot) payload lasting gave DidProgram fits g out kind once since =
    program_ends_holds (ended die w) (ended_holds w h die) die slot.0 page.0 version (is_over w die) fits.place
    (gave_program (scene_of w).bytes die page version slot payload lasting gave out g)
    (λ p among e f. let n = waits_once die slot.0 w.core.waiting p among e f in let o = once slot.0 in let z = written_here slot.0 slot.0 refl in
    omega (arith, n, o, z))
job_ends w h die (Move page version from to) payload lasting gave DidMove fits g out kind once since =
    move_ends_holds (ended die w) (ended_holds w h die) die (is_over w die) page version from.0 to.0 fits
    (gave_move (scene_of w).bytes die page version from to payload lasting gave out g)
    (λ p among e f. let n = waits_once die to.0 w.core.waiting p among e f in let o = once to.0 in let z = written_here to.0 to.0 refl in
    omega (arith, n, o, z))
job_ends w h die (Erase block) payload lasting gave DidErase fits g out kind once since =
    erase_ends_holds (ended die w) (ended_holds w h die) die (is_over w die) block.0
job_ends w h die (Header epoch live) payload lasting gave DidWriteHeader fits g out kind once since =
    header_if (ended die w) (ended_holds w h die) (epoch == w.core.epoch) die
job_ends w h die (Sync flushes) payload lasting gave DidSync fits g out kind once since =
    aside (ended die w) (ended_holds w h die) w.core.behind w.core.stepped (insert w.core.synced die flushes)
job_ends w h die flight payload lasting gave (Fault call) fits g out kind once since =
    drop_holds (ended die w) (ended_holds w h die) die (is_over w die)
job_ends w h die flight payload lasting gave Wrong fits g out kind once since =
    drop_holds (ended die w) (ended_holds w h die) die (is_over w die)
job_ends w h die flight payload lasting gave outcome fits g out kind once since = absurd (false≢true kind)

-- the job of the state and that of the world are one
done_case : (w : World) (h : Holds w) (die : ℕ) (flight : Option Flight) (work : Option Work) (outcome : Outcome) (core : Core)
    → get w.core.jobs die ≡ flight → w.works die ≡ work → may_end w.core flight outcome ≡ true → HasOutcome die work outcome
    → EndsJob w.core die flight outcome core → Holds (record (with_done die flight outcome w) { core = core; moment = suc w.moment })
done_case w h die None work outcome core job works may worked ends = absurd ends
done_case w h die (Some flight) None outcome core job works may worked ends = absurd (none-some outcome worked)
done_case w h die (Some flight) (Some work) outcome core job works may worked ends =
    let is : work.job.flight ≡ flight = same_Some work.job.flight flight (sym (ap (option_map {T = Work} (λ k. k.job.flight)) works) ∙ sym (h.jobs die) ∙ job) in
    let fits = h.sound.works die work works in
    subst (λ (c : Core). Holds (record (with_done die (Some flight) outcome w) { core = c; moment = suc w.moment })) (sym ends)
    (job_ends w h die flight work.job.payload work.job.lasting work.gave outcome
    (subst (λ f. JobFits (scene_of w).bytes (scene_of w).places (scene_of w).in_block (w.due die).bytes die f work.job.payload) is fits.job)
    (subst (λ f. GaveFits (scene_of w).bytes die f work.gave) is fits.gave)
    (subst (λ f. outcome_of die (record (work.job) { flight = f }) work.gave ≡ Some outcome) is worked)
    (and_parts (is_of_kind flight outcome) (is_sized_read w.core outcome) may).0
    (λ slot. let n = h.sound.once die slot in let e = ap (λ o. writes o slot) works in let f = ap (λ k. flight_writes k slot) is in omega (arith, n, e, f))
    (λ batch page version slot b e o. h.answered.reading die work batch page version slot b works (is ∙ e) o))

pub done_holds : (w : World) → Holds w → (die : ℕ) (outcome : Outcome) (core : Core) → allowed w.core (Done die outcome) ≡ true
    → HasOutcome die (w.works die) outcome → EndsJob w.core die (get w.core.jobs die) outcome core → Holds (next (Done die outcome) core w)
done_holds w h die outcome core may worked ends =
    done_case w h die (get w.core.jobs die) (w.works die) outcome core refl refl may worked ends
