-- What is due to the reads in flight of a batch while nothing is written, and the plain array meanwhile.
use Rattle.fa_laws.proofs.Admitting.{one_value_other, one_value_same}
use Rattle.fa_laws.proofs.Answering.{plain_changes}
use Rattle.fa_laws.specs.Plain.{ChangesPlain}
use Rattle.fa_solo_laws.specs.Unwritten.{WritesNothing}
use Rattle.fa_machine.specs.Cells.{DidRead, Outcome}
use Rattle.fa_machine.specs.Run.{Event, Happening, Happens, ImageCall, Run}
use Rattle.fa_machine.specs.Step.{Act, Admit, Commit, Done, Reserve, ReserveFewer, ReserveHole, Take}
use Rattle.fa_machine.specs.Taking.{Handed}
use Rattle.fa_machine.specs.World.{Due, Work, World, followed, plain_page, with_due, with_end, with_told, with_value}
use Rattle.fa_machine.specs.declared.ids.BatchId.{BatchId}
use Rattle.fa_machine.specs.declared.jobs.Flight.{Flight}
use Rattle.fa_machine.specs.declared.jobs.Flight.TheVariants.{Erase, Header, Move, Program, Read, Sync}
use Rattle.fa_machine.specs.declared.places.Version.{Version}
use Rattle.fa_types.specs.declared.numbers.Page.{Page}
use Rattle.fa_types.specs.declared.numbers.Slot.{Slot}
use Rattle.std.proofs.Common.{List, None, Option, Some, [], ap, inl, inr, refl, sym, ℕ, ◌∙◌, ◌∷◌, ◌≡◌}
use Rattle.std.proofs.lemmas.Bool.{cases_eq}
use Rattle.std.proofs.lemmas.Option.{none-some, same_Some}
use Rattle.std.specs.FinMap.{get}
use Rattle.std.specs.List.{AllByRecursion}
use Rattle.std.specs.Prelude.{Err, Ok, slice_index_or}

kept_plain : (w after : World) (happening : Happening) → WritesNothing happening → ChangesPlain w happening after → after.plain ≡ w.plain
kept_plain w after (Event (Commit claim seat (Ok seq))) none e = absurd none
kept_plain w after (Event (Commit claim seat (Err refused))) none e = e
kept_plain w after (Event act) none e = e
kept_plain w after (ImageCall die gave) none e = e

pub happens_plain : (w after : World) (happening : Happening) → WritesNothing happening → Happens w happening after → after.plain ≡ w.plain
happens_plain w after happening none happens = kept_plain w after happening none (plain_changes w after happening happens)

pub run_plain : (w : World) (happenings : List Happening) (last : World) → Run w happenings last → AllByRecursion WritesNothing happenings
    → last.plain ≡ w.plain
run_plain w [] last run none = ap (λ (v : World). v.plain) run
run_plain w (happening ∷ happenings) last run none =
    run_plain run.0 happenings last run.2 none.1 ∙ happens_plain w run.0 happening none.0 run.1

-- each read in flight of the batch is due this plain array's page
abbrev pub AreDue : ℕ → List (List ℕ) → (ℕ → Option Work) → (ℕ → Due) → Type 0
AreDue batch plain works due =
    (die : ℕ) (work : Work) (b : BatchId) (page : Page) (version : Version) (slot : Slot) → works die ≡ Some work
    → work.job.flight ≡ Read b page version slot → b.0 ≡ batch → (due die).bytes ≡ slice_index_or plain page.0 []

with_due_other : (die : ℕ) (flight : Flight) (w : World) (d : ℕ) → (d ≡ die → ⊥) → (with_due die flight w).due d ≡ w.due d
with_due_other die (Read batch page version slot) w d apart =
    one_value_other die (record { bytes = plain_page w page.0; since = w.moment }) w.due d apart
with_due_other die (Header epoch live) w d apart = refl
with_due_other die (Move page version from to) w d apart = refl
with_due_other die (Erase block) w d apart = refl
with_due_other die (Program page version slot) w d apart = refl
with_due_other die (Sync flushes) w d apart = refl

with_due_here : (die : ℕ) (w : World) (flight : Flight) (batch : BatchId) (page : Page) (version : Version) (slot : Slot)
    → flight ≡ Read batch page version slot → ((with_due die flight w).due die).bytes ≡ plain_page w page.0
with_due_here die w flight batch page version slot is =
    ap (λ (f : Flight). ((with_due die f w).due die).bytes) is
    ∙ ap (λ (d : Due). d.bytes) (one_value_same die (record { bytes = plain_page w page.0; since = w.moment }) w.due die refl)

-- a job that is over leaves what is due to the others
pub ended_due : (die : ℕ) (flight : Option Flight) (outcome : Outcome) (w : World) → (with_end die flight outcome w).due ≡ w.due
ended_due die None outcome w = refl
ended_due die (Some flight) outcome w = end_due flight outcome
  where
    told_due : (batch page seq : ℕ) (o : Option (List ℕ)) → (with_told die batch page seq o w).due ≡ w.due
    told_due batch page seq None = refl
    told_due batch page seq (Some bytes) = refl

    end_due : (flight : Flight) (outcome : Outcome) → (with_end die (Some flight) outcome w).due ≡ w.due
    end_due (Read batch page version slot) (DidRead cell) = told_due batch.0 page.0 version.seq.0 _
    end_due flight outcome = refl

module _ (batch : ℕ) (plain : List (List ℕ)) (w : World) (same : w.plain ≡ plain) (g : AreDue batch plain w.works w.due) where
  taken_due : (die : ℕ) (job : Handed)
      → AreDue batch plain (with_value die (Some (record { job = job; gave = [] })) w.works) (with_due die job.flight w).due
  taken_due die job d work b page version slot e flight of_batch =
      elim (cases_eq d die) [
        | inl here ↦
            let is = same_Some _ work (sym (one_value_same die (Some (record { job = job; gave = [] })) w.works d here) ∙ e) in
            ap (λ (n : ℕ). ((with_due die job.flight w).due n).bytes) here
            ∙ with_due_here die w job.flight b page version slot (ap (λ (k : Work). k.job.flight) is ∙ flight)
            ∙ ap (λ (pages : List (List ℕ)). slice_index_or pages page.0 []) same
        | inr apart ↦
            ap (λ (u : Due). u.bytes) (with_due_other die job.flight w d apart)
            ∙ g d work b page version slot (sym (one_value_other die (Some (record { job = job; gave = [] })) w.works d apart) ∙ e) flight of_batch
      ]

  done_due : (die : ℕ) (outcome : Outcome)
      → AreDue batch plain (with_value die None w.works) (with_end die (get w.core.jobs die) outcome w).due
  done_due die outcome d work b page version slot e flight of_batch =
      elim (cases_eq d die) [
        | inl here ↦ absurd (none-some work (sym (one_value_same die None w.works d here) ∙ e))
        | inr apart ↦
            ap (λ (due : ℕ → Due). (due d).bytes) (ended_due die (get w.core.jobs die) outcome w)
            ∙ g d work b page version slot (sym (one_value_other die None w.works d apart) ∙ e) flight of_batch
      ]

  -- each event leaves due to the reads of the batch what this plain array has
  pub followed_due : (act : Act) → AreDue batch plain (followed act w).works (followed act w).due
  followed_due (Reserve claim payload (Ok seq)) = g
  followed_due (Reserve claim payload (Err refused)) = g
  followed_due (ReserveHole claim (Ok seq)) = g
  followed_due (ReserveHole claim (Err refused)) = g
  followed_due (ReserveFewer claim payload (Ok seq)) = g
  followed_due (ReserveFewer claim payload (Err refused)) = g
  followed_due (Commit claim seat (Ok seq)) = g
  followed_due (Commit claim seat (Err refused)) = g
  followed_due (Admit pages (Ok admitted)) = g
  followed_due (Admit pages (Err refused)) = g
  followed_due (Take die seat None) = g
  followed_due (Take die seat (Some job)) = taken_due die job
  followed_due (Done die outcome) = done_due die outcome
  followed_due act = g
