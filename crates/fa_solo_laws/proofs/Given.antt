-- A batch that is admitted and then answered while nothing is written gives the plain array's pages.
use Rattle.fa_solo_job.proofs.Changes.{Batches, batches_after, batches_are, with_ended, with_one_more, with_read}
use Rattle.fa_solo_laws.proofs.Due.{AreDue, followed_due, happens_plain}
use Rattle.fa_solo_laws.specs.Unwritten.{GivesPlainPage, WritesNothing}
use Rattle.fa_laws.proofs.Admitting.{one_value_other, one_value_same}
use Rattle.fa_laws.proofs.Answering.{reached_holds}
use Rattle.fa_laws.proofs.Claiming.{value_other, value_same}
use Rattle.fa_laws.proofs.Endings.{HappensCall}
use Rattle.fa_laws.proofs.Events.{happens_holds}
use Rattle.fa_laws.proofs.Invariant.{Holds}
use Rattle.fa_laws.specs.Reached.{IsReached}
use Rattle.fa_machine.proofs.Lists.{all_from_among, among-filter_map}
use Rattle.fa_machine.proofs.Maps.{get-insert_cases, get-remove_some, nat_same}
use Rattle.fa_machine.proofs.Values.{any_value, get-insert_all}
use Rattle.fa_machine.specs.Among.{Among}
use Rattle.fa_machine.specs.Cells.{DidRead, Outcome, payload_of}
use Rattle.fa_machine.specs.Maps.{insert_all}
use Rattle.fa_machine.specs.Reading.{Admitted, answered, at_once, is_fresh, names_batch, zeros}
use Rattle.fa_machine.specs.Run.{CallsNext, Event, Happening, Happens, HappensEvent, ImageCall, Run}
use Rattle.fa_machine.specs.State.{OpenBatch}
use Rattle.fa_machine.specs.Step.{Act, Admit, Commit, Done, EndBatch, Reserve, ReserveFewer, ReserveHole, Take}
use Rattle.fa_machine.specs.World.{Due, Gave, JobCall, Work, World, followed, next_call, plain_page, with_due, with_end, with_told, with_value}
use Rattle.fa_machine.specs.World.{with_value_at}
use Rattle.fa_machine.specs.declared.ids.BatchId.{BatchId}
use Rattle.fa_machine.specs.declared.jobs.Flight.{Flight}
use Rattle.fa_machine.specs.declared.jobs.Flight.TheVariants.{Erase, Header, Move, Program, Read, Sync}
use Rattle.fa_machine.specs.declared.places.Booking.{Booking}
use Rattle.fa_machine.specs.declared.places.Version.{Version}
use Rattle.fa_types.specs.declared.numbers.Page.{Page}
use Rattle.fa_types.specs.declared.numbers.Slot.{Slot}
use Rattle.std.proofs.Common.{List, None, Option, Some, [], ap, eq-eqb, false, inl, inr, refl, subst, sym, true, ℕ, ◌++◌}
use Rattle.std.proofs.Common.{◌||◌, ◌∙◌, ◌∷◌, ◌≡◌, ◌⊎◌}
use Rattle.std.proofs.lemmas.Bool.{cases_eq, false≢true, not-true, or_parts}
use Rattle.std.proofs.lemmas.Option.{none-some, same_Some}
use Rattle.std.specs.Cmp.{nat_cmp_total}
use Rattle.std.specs.FinMap.{contains_key, empty, get, get-empty, insert, values}
use Rattle.std.specs.List.{AllByRecursion, list_any}
use Rattle.std.specs.Ordering.{nat_cmp}
use Rattle.std.specs.Prelude.{Err, Ok, fold, is_some, option_map, slice_index_or, unwrap_or, ◌==◌}

-- what is due to each page of the batch that has an answer is this plain array's page
abbrev pub AreGiven : ℕ → List (List ℕ) → Batches → (ℕ → ℕ → Due) → Type 0
AreGiven batch plain batches values =
    (b : OpenBatch) (page : ℕ) (bytes : List ℕ) → get batches batch ≡ Some b → get b.answers page ≡ Some bytes
    → (values batch page).bytes ≡ slice_index_or plain page []

pub record Gives (batch : ℕ) (plain : List (List ℕ)) (w : World) : Type 0 where
  pub same : w.plain ≡ plain
  pub reads : AreDue batch plain w.works w.due
  pub given : AreGiven batch plain w.core.batches w.values

-- what is due to a page of a batch, once each of some pages of one batch is due something
due_in : (n : ℕ) (due : ℕ → Due) (pages : List ℕ) (values : ℕ → ℕ → Due) (m page : ℕ)
    → ((m ≡ n) × (fold (λ vs p. with_value_at n p (due p) vs) values pages m page ≡ due page))
    ⊎ ((fold (λ vs p. with_value_at n p (due p) vs) values pages m page ≡ values m page) × (m ≡ n → Among page pages → ⊥))
due_in n due [] values m page = inr (refl, λ e i. i)
due_in n due (p ∷ ps) values m page =
    elim (due_in n due ps (with_value_at n p (due p) values) m page) [
      | inl is ↦ inl is
      | inr was ↦ elim (cases_eq m n) [
        | inr apart ↦ inr (was.0 ∙ value_other n p (due p) values m page (λ e f. apart e), λ e i. apart e)
        | inl same ↦ elim (cases_eq page p) [
          | inl here ↦
              inl (same, was.0 ∙ (λ i. with_value_at n p (due p) values (same i) (here i)) ∙ value_same n p (due p) values ∙ ap due (sym here))
          | inr apart ↦ inr (was.0 ∙ value_other n p (due p) values m page (λ e f. apart f), λ e i. elsewhere apart (was.1 e) i)
        ]
      ]
    ]
  where
    elsewhere : (page ≡ p → ⊥) → (Among page ps → ⊥) → (p ≡ page) ⊎ Among page ps → ⊥
    elsewhere apart none (inl is) = apart (sym is)
    elsewhere apart none (inr rest) = none rest

with_due_values : (die : ℕ) (flight : Flight) (w : World) → (with_due die flight w).values ≡ w.values
with_due_values die (Read batch page version slot) w = refl
with_due_values die (Header epoch live) w = refl
with_due_values die (Move page version from to) w = refl
with_due_values die (Erase block) w = refl
with_due_values die (Program page version slot) w = refl
with_due_values die (Sync flushes) w = refl

-- the job of the state is one that the world is at
pub at_work : (o : Option Work) (flight : Flight) → option_map {T = Work} (λ k. k.job.flight) o ≡ Some flight
    → (work : Work) × (o ≡ Some work) × (work.job.flight ≡ flight)
at_work None flight e = absurd (none-some flight e)
at_work (Some work) flight e = (work, refl, same_Some work.job.flight flight e)

module _ (batch : ℕ) (plain : List (List ℕ)) where
  module _ (w : World) (h : Holds w) (g : Gives batch plain w) where
    -- a batch is admitted: what is answered at once is due the plain array's page
    admitted_given : (n : ℕ) (pages : List ℕ)
        → AreGiven batch plain
        (insert w.core.batches n (record { pages = pages; answers = insert_all (at_once w.core.page_map pages) (zeros w.core.page_map) empty }))
        (fold (λ vs p. with_value_at n p (record { bytes = plain_page w p; since = w.moment }) vs) w.values (at_once w.core.page_map pages))
    admitted_given n pages b page bytes e f =
        let due : ℕ → Due = λ p. record { bytes = plain_page w p; since = w.moment } in
        let now : OpenBatch = record { pages = pages; answers = insert_all (at_once w.core.page_map pages) (zeros w.core.page_map) empty } in
        elim (due_in n due (at_once w.core.page_map pages) w.values batch page) [
          | inl is ↦ ap (λ (d : Due). d.bytes) is.1 ∙ ap (λ (ps : List (List ℕ)). slice_index_or ps page []) g.same
          | inr was ↦ ap (λ (d : Due). d.bytes) was.0 ∙ elim (get-insert_cases w.core.batches n now batch b e) [
            | inr before ↦ g.given b page bytes before.0 f
            | inl made ↦ elim (get-insert_all nat_cmp_total nat_same (at_once w.core.page_map pages) (zeros w.core.page_map) empty page) [
              | inr found ↦ absurd (was.1 made.0 found.0)
              | inl nothing ↦
                  absurd (none-some bytes (sym (nothing ∙ get-empty nat_cmp page) ∙ ap (λ (k : OpenBatch). get k.answers page) made.1 ∙ f))
            ]
          ]
        ]

    -- a read answers a page of a batch: what was due to it is due to the page
    module _ (n p : ℕ) (read : List ℕ) (due : Due) (right : n ≡ batch → due.bytes ≡ slice_index_or plain p []) where
      abbrev then_values : ℕ → ℕ → Due
      then_values = with_value_at n p due w.values

      other_given : (b : OpenBatch) (page : ℕ) (bytes : List ℕ) → (batch ≡ n → page ≡ p → ⊥) → get w.core.batches batch ≡ Some b
          → get b.answers page ≡ Some bytes → (then_values batch page).bytes ≡ slice_index_or plain page []
      other_given b page bytes apart e f = ap (λ (d : Due). d.bytes) (value_other n p due w.values batch page apart) ∙ g.given b page bytes e f

      this_given : (page : ℕ) → batch ≡ n → page ≡ p → (then_values batch page).bytes ≡ slice_index_or plain page []
      this_given page this here =
          (λ i. (then_values (this i) (here i)).bytes) ∙ ap (λ (d : Due). d.bytes) (value_same n p due w.values) ∙ right (sym this)
          ∙ ap (λ (k : ℕ). slice_index_or plain k []) (sym here)

      more_given : (o : Option OpenBatch) → get w.core.batches n ≡ o → AreGiven batch plain (with_one_more n p read o w.core.batches) then_values
      more_given None is b page bytes e f = other_given b page bytes (λ this here. none-some b (sym is ∙ ap (get w.core.batches) (sym this) ∙ e)) e f
      more_given (Some c) is b page bytes e f =
          let now : OpenBatch = record c { answers = insert c.answers p read } in
          elim (get-insert_cases w.core.batches n now batch b e) [
            | inr before ↦ other_given b page bytes (λ this here. before.1 this) before.0 f
            | inl made ↦ elim (get-insert_cases c.answers p read page bytes (ap (λ (k : OpenBatch). get k.answers page) made.1 ∙ f)) [
              | inl new ↦ this_given page made.0 new.0
              | inr was ↦ other_given c page bytes (λ this here. was.1 here) (ap (get w.core.batches) made.0 ∙ is) was.0
            ]
          ]

    read_given : (die : ℕ) (b : BatchId) (page : Page) (version : Version) (slot : Slot) (o : Option (List ℕ))
        → get w.core.jobs die ≡ Some (Read b page version slot)
        → AreGiven batch plain (with_read b.0 page.0 o w.core.batches) (with_told die b.0 page.0 version.seq.0 o w).values
    read_given die b page version slot None job = g.given
    read_given die b page version slot (Some bytes) job =
        let at = at_work (w.works die) (Read b page version slot) (sym (h.jobs die) ∙ job) in
        more_given b.0 page.0 bytes (w.due die) (λ of_batch. g.reads die at.0 b page version slot at.1 at.2 of_batch) (get w.core.batches b.0) refl

    ended_given : (die : ℕ) (flight : Option Flight) (outcome : Outcome) → get w.core.jobs die ≡ flight
        → AreGiven batch plain (with_ended die flight outcome w.core.batches) (with_end die flight outcome w).values
    ended_given die (Some (Read b page version slot)) (DidRead cell) job =
        read_given die b page version slot (payload_of page.0 version die slot.0 cell) job
    ended_given die flight outcome job = g.given

    after_given : (act : Act) → AreGiven batch plain (batches_after w.core act) (followed act w).values
    after_given (Reserve claim payload (Ok seq)) = g.given
    after_given (Reserve claim payload (Err refused)) = g.given
    after_given (ReserveHole claim (Ok seq)) = g.given
    after_given (ReserveHole claim (Err refused)) = g.given
    after_given (ReserveFewer claim payload (Ok seq)) = g.given
    after_given (ReserveFewer claim payload (Err refused)) = g.given
    after_given (Commit claim seat (Ok seq)) = g.given
    after_given (Commit claim seat (Err refused)) = g.given
    after_given (Admit pages (Ok admitted)) = admitted_given admitted.batch.0 pages
    after_given (Admit pages (Err refused)) = g.given
    after_given (EndBatch n answer) =
        λ b page bytes e f. g.given b page bytes (get-remove_some w.core.batches n batch b e).0 f
    after_given (Take die seat None) = g.given
    after_given (Take die seat (Some job)) =
        subst (AreGiven batch plain w.core.batches) (sym (with_due_values die job.flight w)) g.given
    after_given (Done die outcome) = ended_given die (get w.core.jobs die) outcome refl
    after_given act = g.given

    event_gives : (act : Act) (after : World) → WritesNothing (Event act) → HappensEvent w act after → Gives batch plain after
    event_gives act after none happens = record {
      same = happens_plain w after (Event act) none happens ∙ g.same;
      reads = λ die work b page version slot e.
          let due = followed_due batch plain w g.same g.reads act die work b page version slot (sym (ap (λ (v : World). v.works die) happens.follows) ∙ e) in
          λ flight of_batch. ap (λ (v : World). (v.due die).bytes) happens.follows ∙ due flight of_batch;
      given = λ b page bytes e f.
          ap (λ (v : World). (v.values batch page).bytes) happens.follows
          ∙ after_given act b page bytes (sym (ap (λ (batches : Batches). get batches batch) (batches_are w.core act after.core happens.step.does)) ∙ e) f;
    }

    -- a call of an image changes neither jobs nor what is due
    called_due : (die : ℕ) (work : Work) (gave : Gave) → w.works die ≡ Some work
        → AreDue batch plain (with_value die (Some (record work { gave = work.gave ++ gave ∷ [] })) w.works) w.due
    called_due die work gave is d k b page version slot e flight of_batch =
        elim (cases_eq d die) [
          | inl here ↦
              let now = same_Some _ k (sym (one_value_same die (Some (record work { gave = work.gave ++ gave ∷ [] })) w.works d here) ∙ e) in
              g.reads d work b page version slot (ap w.works here ∙ is) (ap (λ (u : Work). u.job.flight) now ∙ flight) of_batch
          | inr apart ↦
              g.reads d k b page version slot (sym (one_value_other die (Some (record work { gave = work.gave ++ gave ∷ [] })) w.works d apart) ∙ e)
              flight of_batch
        ]

    call_gives : (after : World) (die : ℕ) (work : Option Work) (gave : Gave) → w.works die ≡ work → HappensCall w die work gave after
        → Gives batch plain after
    call_gives after die None gave is c = absurd c
    call_gives after die (Some work) gave is c = next_gives (next_call die work.job work.gave) c
      where
        next_gives : (call : Option JobCall) → CallsNext w die (Some work) call gave after → Gives batch plain after
        next_gives None c = absurd c
        next_gives (Some call) c =
            subst (Gives batch plain) (sym c.2) (record { same = g.same; reads = called_due die work gave is; given = g.given })

    happens_gives : (happening : Happening) (after : World) → WritesNothing happening → Happens w happening after → Gives batch plain after
    happens_gives (Event act) after none happens = event_gives act after none happens
    happens_gives (ImageCall die gave) after none happens = call_gives after die (w.works die) gave refl happens

  pub run_gives : (w : World) → Holds w → (happenings : List Happening) (last : World) → Gives batch plain w → Run w happenings last
      → AllByRecursion WritesNothing happenings → Holds last × Gives batch plain last
  run_gives w h [] last g run none = (subst Holds (sym run) h, subst (Gives batch plain) (sym run) g)
  run_gives w h (happening ∷ happenings) last g run none =
      run_gives run.0 (happens_holds w happening run.0 h run.1) happenings last (happens_gives w h g happening run.0 none.0 run.1) run.2 none.1

-- nothing is in flight for a batch, and it is not open
pub record IsUnbegun (w : World) (batch : ℕ) : Type 0 where
  pub no_read : (die : ℕ) (work : Work) (b : BatchId) (page : Page) (version : Version) (slot : Slot) → w.works die ≡ Some work
      → work.job.flight ≡ Read b page version slot → b.0 ≡ batch → ⊥
  pub not_open : (b : OpenBatch) → get w.core.batches batch ≡ Some b → ⊥

-- such is a batch that is yet to be admitted
pub unbegun : (w : World) → Holds w → (batch : ℕ) → is_fresh w.core batch ≡ true → IsUnbegun w batch
unbegun w h batch fresh = record {
  no_read = λ die work b page version slot e flight of_batch.
      let job : get w.core.jobs die ≡ Some (Read b page version slot) =
      h.jobs die ∙ ap (option_map {T = Work} (λ k. k.job.flight)) e ∙ ap Some flight in
      false≢true (sym named.1 ∙ any_value (names_batch batch) w.core.jobs die (Read b page version slot) job (eq-eqb b.0 batch of_batch));
  not_open = λ b e.
      false≢true (sym (or_parts (contains_key w.core.batches batch) (list_any (λ (k : Booking). k.batch.0 == batch) (values w.core.calendar.bookings)) named.0).0
      ∙ ap is_some e);
}
  where
    named : (contains_key w.core.batches batch || list_any (λ (k : Booking). k.batch.0 == batch) (values w.core.calendar.bookings) ≡ false)
        × (list_any (names_batch batch) (values w.core.jobs) ≡ false)
    named = or_parts (contains_key w.core.batches batch || list_any (λ (k : Booking). k.batch.0 == batch) (values w.core.calendar.bookings))
        (list_any (names_batch batch) (values w.core.jobs)) (not-true _ fresh)

pub fresh_gives : (w : World) → Holds w → (batch : ℕ) → is_fresh w.core batch ≡ true → Gives batch w.plain w
fresh_gives w h batch fresh =
    let none = unbegun w h batch fresh in record {
      same = refl;
      reads = λ die work b page version slot e flight of_batch. absurd (none.no_read die work b page version slot e flight of_batch);
      given = λ b page bytes e f. absurd (none.not_open b e);
    }

-- the world in which the batch ends, where what is due to its answers is what the plain array had at its admission
pub last_gives : (w opened last : World) (pages : List ℕ) (admitted : Admitted) (happenings : List Happening) → IsReached w
    → HappensEvent w (Admit pages (Ok admitted)) opened → Run opened happenings last → AllByRecursion WritesNothing happenings
    → Holds last × Gives admitted.batch.0 w.plain last
last_gives w opened last pages admitted happenings reached opens run none =
    let h = reached_holds w reached in
    run_gives admitted.batch.0 w.plain w h (Event (Admit pages (Ok admitted)) ∷ happenings) last
    (fresh_gives w h admitted.batch.0 opens.step.does.1) (opened, opens, run) (tt, none)

-- the bytes that an open batch has for a page are the plain array's
pub open_page : (batch : ℕ) (plain : List (List ℕ)) (w : World) → Holds w → Gives batch plain w → (b : OpenBatch) → get w.core.batches batch ≡ Some b
    → (page : ℕ) (bytes : List ℕ) → get b.answers page ≡ Some bytes → bytes ≡ slice_index_or plain page []
open_page batch plain w h g b is page bytes e = (h.answered.answers batch b page bytes is e).0 ∙ g.given b page bytes is e

pub paired : (page : ℕ) (o : Option (List ℕ)) (answer : ℕ × List ℕ) → option_map (λ bytes. (page, bytes)) o ≡ Some answer
    → (page ≡ answer.0) × (o ≡ Some answer.1)
paired page None answer e = absurd (none-some answer e)
paired page (Some bytes) answer e =
    let same = same_Some (page, bytes) answer e in
    (ap (λ (a : ℕ × List ℕ). a.0) same, ap (λ (a : ℕ × List ℕ). Some a.1) same)

answered_gives : (batch : ℕ) (w last : World) → Holds last → Gives batch w.plain last → (o : Option OpenBatch) → get last.core.batches batch ≡ o
    → AllByRecursion (GivesPlainPage w) (answered (unwrap_or o (record { pages = []; answers = empty })))
answered_gives batch w last h g None is = tt
answered_gives batch w last h g (Some b) is =
    all_from_among (GivesPlainPage w) (answered b) (λ answer i.
    let found = among-filter_map (λ page. option_map (λ bytes. (page, bytes)) (get b.answers page)) answer b.pages i in
    let parts = paired found.0 (get b.answers found.0) answer found.2 in
    open_page batch w.plain last h g b is found.0 answer.1 parts.1 ∙ ap (λ (page : ℕ). plain_page w page) parts.0)

pub answers_give : (w opened last after : World) (pages : List ℕ) (admitted : Admitted) (happenings : List Happening) (answer : List (ℕ × List ℕ))
    → IsReached w → HappensEvent w (Admit pages (Ok admitted)) opened → Run opened happenings last → AllByRecursion WritesNothing happenings
    → HappensEvent last (EndBatch admitted.batch.0 answer) after → AllByRecursion (GivesPlainPage w) answer
answers_give w opened last after pages admitted happenings answer reached opens run none ends =
    let found = last_gives w opened last pages admitted happenings reached opens run none in
    subst (AllByRecursion (GivesPlainPage w)) (sym ends.step.does.0)
    (answered_gives admitted.batch.0 w last found.0 found.1 (get last.core.batches admitted.batch.0) refl)
