-- What was written is read back while nothing else is written.
use Rattle.fa_solo_laws.proofs.Due.{run_plain}
use Rattle.fa_solo_laws.proofs.Given.{answers_give}
use Rattle.fa_solo_laws.specs.Unwritten.{GivesPlainPage, WritesNothing}
use Rattle.fa_laws.proofs.Runs.{runs_on}
use Rattle.fa_laws.specs.Reached.{IsReached}
use Rattle.fa_machine.proofs.Lists.{among-contains}
use Rattle.fa_machine.specs.Among.{Among}
use Rattle.fa_machine.specs.Reading.{Admitted}
use Rattle.fa_machine.specs.Run.{Event, Happening, HappensEvent, Run}
use Rattle.fa_machine.specs.Step.{Admit, Commit, EndBatch}
use Rattle.fa_machine.specs.World.{World, plain_page}
use Rattle.std.proofs.Common.{List, [], ap, inl, inr, subst, ℕ, ◌++◌, ◌∙◌, ◌∷◌, ◌≡◌}
use Rattle.std.specs.List.{AllByRecursion}
use Rattle.std.specs.Prelude.{Contains, Ok, slice_index_or}
use Rattle.fa_types.specs.declared.numbers.Seq.{Seq}

pub of_all : {X : Type 0} (P : X → Type 0) (xs : List X) → AllByRecursion P xs → (x : X) → Among x xs → P x
of_all P [] all x i = absurd i
of_all P (y ∷ ys) all x (inl same) = subst P same all.0
of_all P (y ∷ ys) all x (inr rest) = of_all P ys all.1 x rest

-- a world after one that runs lead to
pub reached_on : (w : World) → IsReached w → (happenings : List Happening) (last : World) → Run w happenings last → IsReached last
reached_on w r happenings last run = record {
  first = r.first;
  happenings = r.happenings ++ happenings;
  beginning = r.beginning;
  run = runs_on r.first r.happenings w happenings last r.run run;
}

-- what is answered of a page after a Commit is what the plain array has then
pub answered_page : (w written calm opened last after : World) (claim seat : ℕ) (seq : Seq) (before happenings : List Happening) (pages : List ℕ)
    (admitted : Admitted) (answer : List (ℕ × List ℕ)) (page : ℕ) (bytes : List ℕ) → IsReached w
    → HappensEvent w (Commit claim seat (Ok seq)) written → Run written before calm → AllByRecursion WritesNothing before
    → HappensEvent calm (Admit pages (Ok admitted)) opened → Run opened happenings last → AllByRecursion WritesNothing happenings
    → HappensEvent last (EndBatch admitted.batch.0 answer) after → Contains answer (page, bytes) → bytes ≡ plain_page written page
answered_page w written calm opened last after claim seat seq before happenings pages admitted answer page bytes reached commits run none opens
    then_run then_none ends has =
    let calm_reached = reached_on w reached (Event (Commit claim seat (Ok seq)) ∷ before) calm (written, commits, run) in
    of_all (GivesPlainPage calm) answer
    (answers_give calm opened last after pages admitted happenings answer calm_reached opens then_run then_none ends) (page, bytes)
    (among-contains (page, bytes) answer has.0 has.1 has.2)
    ∙ ap (λ (plain : List (List ℕ)). slice_index_or plain page []) (run_plain written before calm run none)
