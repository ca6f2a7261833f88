-- What holds of the worlds of runs makes the answers right.
use Rattle.fa_laws.proofs.Endings.{HappensCall, with_done}
use Rattle.fa_laws.proofs.Events.{happens_holds}
use Rattle.fa_laws.proofs.Invariant.{Holds}
use Rattle.fa_laws.proofs.Runs.{run_keeps}
use Rattle.fa_laws.proofs.Starts.{beginning_holds}
use Rattle.fa_laws.specs.Plain.{ChangesPlain}
use Rattle.fa_laws.specs.Reached.{IsReached}
use Rattle.fa_machine.specs.Cells.{DidRead, Outcome}
use Rattle.fa_machine.specs.Reading.{answered}
use Rattle.fa_machine.specs.Run.{CallsNext, Event, Happening, Happens, ImageCall, IsRightAnswer, ReadsRight}
use Rattle.fa_machine.specs.State.{Core, OpenBatch}
use Rattle.fa_machine.specs.Step.{Act, Admit, Commit, Does, Done, EndBatch, Reserve, ReserveFewer, ReserveHole, Take, allowed}
use Rattle.fa_machine.specs.World.{Gave, JobCall, Work, World, followed, next_call, with_due, with_end, with_told}
use Rattle.fa_machine.specs.declared.jobs.Flight.{Flight}
use Rattle.fa_machine.specs.declared.jobs.Flight.TheVariants.{Read}
use Rattle.std.proofs.Common.{List, None, Option, Some, [], ap, refl, subst, sym, true, ℕ, ◌∙◌, ◌∷◌, ◌≡◌}
use Rattle.std.proofs.lemmas.Bool.{false≢true}
use Rattle.std.specs.FinMap.{empty, get}
use Rattle.std.specs.List.{AllByRecursion, cons_option}
use Rattle.std.specs.Prelude.{Err, Ok, filter_map, is_some, option_map, unwrap_or}

pub reached_holds : (w : World) → IsReached w → Holds w
reached_holds w r = run_keeps Holds (λ before happening after h happens. happens_holds before happening after h happens) r.first r.happenings w
    (beginning_holds r.first r.beginning) r.run

answer_right : (w : World) → Holds w → (batch : ℕ) (b : OpenBatch) → get w.core.batches batch ≡ Some b → (page : ℕ) (o : Option (List ℕ))
    → get b.answers page ≡ o → (rest : List (ℕ × List ℕ)) → AllByRecursion (IsRightAnswer w batch) rest
    → AllByRecursion (IsRightAnswer w batch) (cons_option (option_map (λ bytes. (page, bytes)) o) rest)
answer_right w h batch b opened page None is rest all = all
answer_right w h batch b opened page (Some bytes) is rest all = (h.answered.answers batch b page bytes opened is, all)

answers_right : (w : World) → Holds w → (batch : ℕ) (b : OpenBatch) → get w.core.batches batch ≡ Some b → (pages : List ℕ)
    → AllByRecursion (IsRightAnswer w batch) (filter_map (λ page. option_map (λ bytes. (page, bytes)) (get b.answers page)) pages)
answers_right w h batch b opened [] = tt
answers_right w h batch b opened (page ∷ pages) =
    answer_right w h batch b opened page (get b.answers page) refl _ (answers_right w h batch b opened pages)

end_right : (w : World) → Holds w → (batch : ℕ) (answer : List (ℕ × List ℕ)) (o : Option OpenBatch) → get w.core.batches batch ≡ o → is_some o ≡ true
    → answer ≡ answered (unwrap_or o (record { pages = []; answers = empty })) → AllByRecursion (IsRightAnswer w batch) answer
end_right w h batch answer None is opened e = absurd (false≢true opened)
end_right w h batch answer (Some b) is opened e = subst (AllByRecursion (IsRightAnswer w batch)) (sym e) (answers_right w h batch b is b.pages)

pub reads_right : (w : World) → Holds w → (act : Act) (core : Core) → allowed w.core act ≡ true → Does w.core act core → ReadsRight w act
reads_right w h (EndBatch batch answer) core may d = end_right w h batch answer (get w.core.batches batch) refl may d.0
reads_right w h act core may d = tt

with_due_plain : (die : ℕ) (flight : Flight) (w : World) → (with_due die flight w).plain ≡ w.plain
with_due_plain die (Read batch page version slot) w = refl
with_due_plain die flight w = refl

with_told_plain : (die batch page seq : ℕ) (o : Option (List ℕ)) (w : World) → (with_told die batch page seq o w).plain ≡ w.plain
with_told_plain die batch page seq None w = refl
with_told_plain die batch page seq (Some bytes) w = refl

with_end_plain : (die : ℕ) (flight : Flight) (outcome : Outcome) (w : World) → (with_end die (Some flight) outcome w).plain ≡ w.plain
with_end_plain die (Read batch page version slot) (DidRead cell) w = with_told_plain die batch.0 page.0 version.seq.0 _ w
with_end_plain die flight outcome w = refl

with_done_plain : (die : ℕ) (flight : Option Flight) (outcome : Outcome) (w : World) → (with_done die flight outcome w).plain ≡ w.plain
with_done_plain die None outcome w = refl
with_done_plain die (Some flight) outcome w = with_end_plain die flight outcome w

plain_followed : (w after : World) (act : Act) → after.plain ≡ (followed act w).plain → ChangesPlain w (Event act) after
plain_followed w after (Commit claim seat (Ok seq)) e = e
plain_followed w after (Commit claim seat (Err refused)) e = e
plain_followed w after (Reserve claim payload (Ok seq)) e = e
plain_followed w after (Reserve claim payload (Err refused)) e = e
plain_followed w after (ReserveHole claim (Ok seq)) e = e
plain_followed w after (ReserveHole claim (Err refused)) e = e
plain_followed w after (ReserveFewer claim payload (Ok seq)) e = e
plain_followed w after (ReserveFewer claim payload (Err refused)) e = e
plain_followed w after (Admit pages (Ok admitted)) e = e
plain_followed w after (Admit pages (Err refused)) e = e
plain_followed w after (Take die seat (Some job)) e = e ∙ with_due_plain die job.flight w
plain_followed w after (Take die seat None) e = e
plain_followed w after (Done die outcome) e = e ∙ with_done_plain die (get w.core.jobs die) outcome w
plain_followed w after act e = e

call_plain : (w after : World) (die : ℕ) (work : Work) (call : Option JobCall) (gave : Gave) → CallsNext w die (Some work) call gave after → after.plain ≡ w.plain
call_plain w after die work None gave c = absurd c
call_plain w after die work (Some call) gave c = ap (λ (v : World). v.plain) c.2

calls_plain : (w after : World) (die : ℕ) (work : Option Work) (gave : Gave) → HappensCall w die work gave after → after.plain ≡ w.plain
calls_plain w after die None gave c = absurd c
calls_plain w after die (Some work) gave c = call_plain w after die work (next_call die work.job work.gave) gave c

pub plain_changes : (w after : World) (happening : Happening) → Happens w happening after → ChangesPlain w happening after
plain_changes w after (Event act) happens = plain_followed w after act (ap (λ (v : World). v.plain) happens.follows)
plain_changes w after (ImageCall die gave) happens = calls_plain w after die (w.works die) gave happens
