-- A batch that is ready answers each page of its list, in the list's order.
use Rattle.fa_solo_job.proofs.Changes.{Batches, batches_after, batches_are, with_ended, with_one_more, with_read}
use Rattle.fa_solo_laws.proofs.Given.{Gives, last_gives, open_page}
use Rattle.fa_solo_laws.specs.Unwritten.{EndsNoBatch, WritesNothing}
use Rattle.fa_laws.proofs.Endings.{HappensCall}
use Rattle.fa_laws.proofs.Invariant.{Holds}
use Rattle.fa_laws.specs.Reached.{IsReached}
use Rattle.fa_machine.proofs.Maps.{get-insert_other, get-insert_same, get-remove_other}
use Rattle.fa_machine.specs.Cells.{DidRead, Outcome, payload_of}
use Rattle.fa_machine.specs.Reading.{Admitted, answered, batch_at, results}
use Rattle.fa_machine.specs.Run.{CallsNext, Event, Happening, HappensEvent, ImageCall, Run}
use Rattle.fa_machine.specs.State.{Core, OpenBatch}
use Rattle.fa_machine.specs.Step.{Act, Admit, Does, Done, EndBatch}
use Rattle.fa_machine.specs.World.{Gave, JobCall, Work, World, next_call, plain_page}
use Rattle.fa_machine.specs.declared.answers.ReadState.{ReadState}
use Rattle.fa_machine.specs.declared.answers.ReadState.TheVariants.{Ready, Torn, Waiting}
use Rattle.fa_machine.specs.declared.jobs.Flight.{Flight}
use Rattle.fa_machine.specs.declared.jobs.Flight.TheVariants.{Read}
use Rattle.std.proofs.Common.{Bool, List, None, Option, Some, [], ap, false, inl, inr, map, not, refl, subst, sym, true, ℕ, ◌||◌, ◌∙◌, ◌∷◌, ◌≡◌}
use Rattle.std.proofs.lemmas.Bool.{and_parts, cases_eq, false≢true, not-true, or_parts}
use Rattle.std.specs.FinMap.{FinMap, contains_key, empty, get, insert}
use Rattle.std.specs.List.{AllByRecursion, cons_option, list_all}
use Rattle.std.specs.Ordering.{nat_cmp}
use Rattle.std.specs.Prelude.{Err, Ok, filter_map, if◌then◌else◌, is_some, option_map, slice_index_or, unwrap_or}

-- the batch is open, with these pages
pub record IsOpen (batch : ℕ) (pages : List ℕ) (batches : Batches) : Type 0 where
  pub entry : OpenBatch
  pub found : get batches batch ≡ Some entry
  pub lists : entry.pages ≡ pages

module _ (batch : ℕ) (pages : List ℕ) where
  one_more_open : (batches : Batches) → IsOpen batch pages batches → (n page : ℕ) (bytes : List ℕ) (o : Option OpenBatch) → get batches n ≡ o
      → IsOpen batch pages (with_one_more n page bytes o batches)
  one_more_open batches k n page bytes None is = k
  one_more_open batches k n page bytes (Some b) is =
      let now : OpenBatch = record b { answers = insert b.answers page bytes } in
      elim (cases_eq batch n) [
        | inl same ↦ record {
          entry = now;
          found = ap (get (insert batches n now)) same ∙ get-insert_same batches n now;
          lists = ap (λ (o : Option OpenBatch). (unwrap_or o b).pages) (sym is ∙ ap (get batches) (sym same) ∙ k.found) ∙ k.lists;
        }
        | inr apart ↦ record {
          entry = k.entry;
          found = get-insert_other batches n now batch apart ∙ k.found;
          lists = k.lists;
        }
      ]

  read_open : (batches : Batches) → IsOpen batch pages batches → (n page : ℕ) (o : Option (List ℕ)) → IsOpen batch pages (with_read n page o batches)
  read_open batches k n page None = k
  read_open batches k n page (Some bytes) = one_more_open batches k n page bytes (get batches n) refl

  ended_open : (batches : Batches) → IsOpen batch pages batches → (die : ℕ) (flight : Option Flight) (outcome : Outcome)
      → IsOpen batch pages (with_ended die flight outcome batches)
  ended_open batches k die (Some (Read b page version slot)) (DidRead cell) =
      read_open batches k b.0 page.0 (payload_of page.0 version die slot.0 cell)
  ended_open batches k die flight outcome = k

  -- a batch that is open has an id that no new one gets
  not_fresh : (core : Core) → IsOpen batch pages core.batches → (n : ℕ) (booked named : Bool)
      → not (contains_key core.batches n || booked || named) ≡ true → batch ≡ n → ⊥
  not_fresh core k n booked named fresh same =
      false≢true (sym (or_parts (contains_key core.batches n) booked (or_parts (contains_key core.batches n || booked) named (not-true _ fresh)).0).0
      ∙ ap is_some (ap (get core.batches) (sym same) ∙ k.found))

  after_open : (core : Core) → IsOpen batch pages core.batches → (act : Act) (new : Core) → Does core act new → EndsNoBatch batch (Event act)
      → IsOpen batch pages (batches_after core act)
  after_open core k (Admit others (Ok admitted)) new d none = record {
    entry = k.entry;
    found = get-insert_other core.batches admitted.batch.0 _ batch (not_fresh core k admitted.batch.0 _ _ d.1) ∙ k.found;
    lists = k.lists;
  }
  after_open core k (Admit others (Err refused)) new d none = k
  after_open core k (EndBatch n answer) new d none = record {
    entry = k.entry;
    found = get-remove_other core.batches n batch (λ same. none (sym same)) ∙ k.found;
    lists = k.lists;
  }
  after_open core k (Done die outcome) new d none = ended_open core.batches k die (get core.jobs die) outcome
  after_open core k act new d none = k

  call_open : (w after : World) (die : ℕ) (work : Option Work) (gave : Gave) → HappensCall w die work gave after → IsOpen batch pages w.core.batches
      → IsOpen batch pages after.core.batches
  call_open w after die None gave c k = absurd c
  call_open w after die (Some work) gave c k = next_open (next_call die work.job work.gave) c
    where
      next_open : (call : Option JobCall) → CallsNext w die (Some work) call gave after → IsOpen batch pages after.core.batches
      next_open None c = absurd c
      next_open (Some call) c = subst (λ (v : World). IsOpen batch pages v.core.batches) (sym c.2) k

  pub run_open : (w : World) (happenings : List Happening) (last : World) → IsOpen batch pages w.core.batches → Run w happenings last
      → AllByRecursion (EndsNoBatch batch) happenings → IsOpen batch pages last.core.batches
  run_open w [] last k run none = subst (λ (v : World). IsOpen batch pages v.core.batches) (sym run) k
  run_open w (Event act ∷ happenings) last k run none =
      run_open run.0 happenings last
      (subst (IsOpen batch pages) (sym (batches_are w.core act run.0.core run.1.step.does)) (after_open w.core k act run.0.core run.1.step.does none.0))
      run.2 none.1
  run_open w (ImageCall die gave ∷ happenings) last k run none =
      run_open run.0 happenings last (call_open w run.0 die (w.works die) gave run.1 k) run.2 none.1

pub admitted_open : (w opened : World) (pages : List ℕ) (admitted : Admitted) → HappensEvent w (Admit pages (Ok admitted)) opened
    → IsOpen admitted.batch.0 pages opened.core.batches
admitted_open w opened pages admitted opens =
    subst (IsOpen admitted.batch.0 pages) (sym (batches_are w.core (Admit pages (Ok admitted)) opened.core opens.step.does))
    (record { entry = _; found = get-insert_same w.core.batches admitted.batch.0 _; lists = refl })

abbrev is_ready_state : ReadState → Bool
is_ready_state Ready = true
is_ready_state Torn = false
is_ready_state Waiting = false

if_ready : (torn whole : Bool) → (if torn then Torn else (if whole then Ready else Waiting)) ≡ Ready → whole ≡ true
if_ready true whole e = absurd (false≢true (ap is_ready_state e))
if_ready false true e = refl
if_ready false false e = absurd (false≢true (ap is_ready_state e))

one_given : (answers : FinMap nat_cmp (List ℕ)) (f : ℕ → List ℕ) (page : ℕ) (o : Option (List ℕ)) → get answers page ≡ o → is_some o ≡ true
    → ((page : ℕ) (bytes : List ℕ) → get answers page ≡ Some bytes → bytes ≡ f page) → (rest more : List (ℕ × List ℕ)) → rest ≡ more
    → cons_option (option_map (λ bytes. (page, bytes)) o) rest ≡ (page, f page) ∷ more
one_given answers f page None is there given rest more e = absurd (false≢true there)
one_given answers f page (Some bytes) is there given rest more e = λ i. (page, given page bytes is i) ∷ e i

all_given : (answers : FinMap nat_cmp (List ℕ)) (f : ℕ → List ℕ) (pages : List ℕ) → list_all (λ page. contains_key answers page) pages ≡ true
    → ((page : ℕ) (bytes : List ℕ) → get answers page ≡ Some bytes → bytes ≡ f page)
    → filter_map {Y = ℕ × List ℕ} (λ page. option_map (λ bytes. (page, bytes)) (get answers page)) pages ≡ map (λ page. (page, f page)) pages
all_given answers f [] all given = refl
all_given answers f (page ∷ pages) all given =
    let parts = and_parts (contains_key answers page) (list_all (λ page. contains_key answers page) pages) all in
    one_given answers f page (get answers page) refl parts.0 given _ _ (all_given answers f pages parts.1 given)

-- a batch with these pages that is ready is answered what it was given
pub open_gives : (batch : ℕ) (pages : List ℕ) (plain : List (List ℕ)) (last after : World) (answer : List (ℕ × List ℕ)) → Holds last
    → Gives batch plain last → IsOpen batch pages last.core.batches → results last.core batch ≡ Ready → HappensEvent last (EndBatch batch answer) after
    → answer ≡ map (λ page. (page, slice_index_or plain page [])) pages
open_gives batch pages plain last after answer h gives k ready ends =
    let here : batch_at last.core batch ≡ k.entry = ap (λ (o : Option OpenBatch). unwrap_or o (record { pages = []; answers = empty })) k.found in
    let whole = if_ready _ (list_all (λ page. contains_key (batch_at last.core batch).answers page) (batch_at last.core batch).pages) ready in
    ends.step.does.0
    ∙ ap answered here
    ∙ all_given k.entry.answers (λ page. slice_index_or plain page []) k.entry.pages
    (ap (λ (b : OpenBatch). list_all (λ page. contains_key b.answers page) b.pages) (sym here) ∙ whole)
    (λ page bytes e. open_page batch plain last h gives k.entry k.found page bytes e)
    ∙ ap (map (λ page. (page, slice_index_or plain page []))) k.lists

pub ready_gives : (w opened last after : World) (pages : List ℕ) (admitted : Admitted) (happenings : List Happening) (answer : List (ℕ × List ℕ))
    → IsReached w → HappensEvent w (Admit pages (Ok admitted)) opened → Run opened happenings last → AllByRecursion WritesNothing happenings
    → AllByRecursion (EndsNoBatch admitted.batch.0) happenings → results last.core admitted.batch.0 ≡ Ready
    → HappensEvent last (EndBatch admitted.batch.0 answer) after → answer ≡ map (λ page. (page, plain_page w page)) pages
ready_gives w opened last after pages admitted happenings answer reached opens run none unended ready ends =
    let batch = admitted.batch.0 in
    let found = last_gives w opened last pages admitted happenings reached opens run none in
    open_gives batch pages w.plain last after answer found.0 found.1
    (run_open batch pages opened happenings last (admitted_open w opened pages admitted opens) run unended) ready ends
