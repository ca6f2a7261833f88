-- In every run, what an open batch has answered, and which reads are in flight for it, is told by what happened since its Admit.
use Rattle.fa_headline.proofs.Batches.{IsAdmittedBy, IsAnsweredBy, IsTakenBy, batch_was, job_was, opened_of}
use Rattle.fa_headline.proofs.Lists.{all_and_one, behind_one}
use Rattle.fa_headline.specs.Reads.{AnswersRight, IsAnswer, IsOpen, KeepsBatch, WasAtOnce, WasRead, up_to_admit}
use Rattle.fa_laws.proofs.Answering.{reached_holds}
use Rattle.fa_laws.proofs.Endings.{HappensCall}
use Rattle.fa_laws.proofs.Invariant.{Holds}
use Rattle.fa_laws.proofs.Pending.{read_gives}
use Rattle.fa_laws.proofs.Runs.{runs_on}
use Rattle.fa_laws.specs.Reached.{IsReached}
use Rattle.fa_laws.specs.Untouched.{EndsNoJob}
use Rattle.fa_machine.proofs.Lists.{among-filter}
use Rattle.fa_machine.proofs.Maps.{get-insert_cases, nat_same}
use Rattle.fa_machine.proofs.Values.{any_value, get-insert_all}
use Rattle.fa_machine.specs.Among.{Among}
use Rattle.fa_machine.specs.Beginning.{IsBeginning}
use Rattle.fa_machine.specs.Cells.{Cell, DidRead, payload_of}
use Rattle.fa_machine.specs.Reading.{Admitted, answered, at_once, has_data, is_data, is_fresh, names_batch, zeros}
use Rattle.fa_machine.specs.Run.{CallsNext, Event, Happening, Happens, HappensEvent, ImageCall, Run}
use Rattle.fa_machine.specs.State.{Core, OpenBatch}
use Rattle.fa_machine.specs.Step.{Act, Admit, Does, Done, EndBatch, Take, allowed, is_distinct, is_page}
use Rattle.fa_machine.specs.Taking.{Handed}
use Rattle.fa_machine.specs.World.{Gave, JobCall, Work, World, next_call, plain_page}
use Rattle.fa_machine.specs.declared.jobs.Flight.TheVariants.{Read}
use Rattle.fa_machine.specs.declared.places.Booking.{Booking}
use Rattle.fa_machine.specs.declared.places.Version.{Version}
use Rattle.fa_types.specs.declared.kind.Kind.{Kind}
use Rattle.fa_types.specs.declared.kind.Kind.TheVariants.{Data, Hole}
use Rattle.fa_types.specs.declared.numbers.Page.{Page}
use Rattle.fa_types.specs.declared.numbers.Slot.{Slot}
use Rattle.std.proofs.Common.{List, None, Option, Some, [], ap, append-nil, append_assoc, eq-eqb, false, inl, inr, not, refl, subst, sym, true, ℕ}
use Rattle.std.proofs.Common.{◌||◌, ◌<◌, ◌∙◌, ◌∷◌, ◌≡◌}
use Rattle.std.proofs.lemmas.Bool.{and_parts, false≢true, ltb-true, not-true, or_parts, true≢false}
use Rattle.std.proofs.lemmas.Option.{none-some, same_Some}
use Rattle.std.specs.Cmp.{nat_cmp_total}
use Rattle.std.specs.FinMap.{contains_key, empty, get, get-empty, values}
use Rattle.std.specs.List.{AllByRecursion, cons_option, list_all, list_any}
use Rattle.std.specs.Ordering.{nat_cmp}
use Rattle.std.specs.Prelude.{Ok, filter_map, is_some, option_and_then, option_map, unwrap_or, ◌&&◌, ◌++◌, ◌==◌}

-- a read in flight for a batch, since its Take
pub record IsReading (first : World) (admission since : List Happening) (last : World) (batch die : ℕ) (page : Page) (version : Version)
    (slot : Slot) : Type 0 where
  pub between : List Happening
  pub at : World
  pub seat : ℕ
  pub job : Handed
  pub during : List Happening
  pub taken : World
  pub order : since ≡ between ++ Event (Take die seat (Some job)) ∷ during
  pub led : Run first (admission ++ between) at
  pub event : HappensEvent at (Take die seat (Some job)) taken
  pub leads : Run taken during last
  pub read : job.flight ≡ Read (record { 0 = batch }) page version slot
  pub only : AllByRecursion (EndsNoJob die) during

-- What is known of an open batch.
pub record IsTraced (first : World) (happenings : List Happening) (last : World) (batch : ℕ) (b : OpenBatch) : Type 0 where
  pub opened : IsOpen happenings batch
  pub answers : (page : ℕ) (bytes : List ℕ) → get b.answers page ≡ Some bytes → IsAnswer first last opened page bytes
  pub reading : (die : ℕ) (page : Page) (version : Version) (slot : Slot)
      → get last.core.jobs die ≡ Some (Read (record { 0 = batch }) page version slot)
      → IsReading first (up_to_admit opened.before opened.pages opened.admitted) opened.since last batch die page version slot

abbrev pub AreTraced : World → List Happening → World → Type 0
AreTraced first happenings last = (batch : ℕ) (b : OpenBatch) → get last.core.batches batch ≡ Some b → IsTraced first happenings last batch b

-- one more happening
pub one_on : (last : World) (happening : Happening) (after : World) → Happens last happening after → Run last (happening ∷ []) after
one_on last happening after happens = (after, happens, refl)

module _ (first : World) (last : World) (happening : Happening) (after : World) (happens : Happens last happening after) where
  abbrev open_on : (happenings : List Happening) (batch : ℕ) → KeepsBatch batch happening → IsOpen happenings batch → IsOpen (happenings ++ happening ∷ []) batch
  open_on happenings batch kept o = record {
    before = o.before;
    pages = o.pages;
    admitted = o.admitted;
    since = o.since ++ happening ∷ [];
    order = ap (λ l. l ++ happening ∷ []) o.order ∙ append_assoc (up_to_admit o.before o.pages o.admitted) o.since (happening ∷ []);
    batch_is = o.batch_is;
    kept = all_and_one (KeepsBatch batch) o.since happening o.kept kept;
  }

  read_on : (admission since : List Happening) (batch page : ℕ) (bytes : List ℕ) → WasRead first admission since last batch page bytes
      → WasRead first admission (since ++ happening ∷ []) after batch page bytes
  read_on admission since batch page bytes r = record {
    between = r.between;
    at = r.at;
    die = r.die;
    seat = r.seat;
    job = r.job;
    version = r.version;
    slot = r.slot;
    during = r.during;
    cell = r.cell;
    behind = r.behind ++ happening ∷ [];
    order = ap (λ l. l ++ happening ∷ []) r.order
        ∙ behind_one (r.between ++ Event (Take r.die r.seat (Some r.job)) ∷ r.during) (Event (Done r.die (DidRead r.cell))) r.behind happening;
    led = r.led;
    leads = subst (λ (l : List Happening). Run r.at (Event (Take r.die r.seat (Some r.job)) ∷ l) after)
        (behind_one r.during (Event (Done r.die (DidRead r.cell))) r.behind happening)
        (runs_on r.at (Event (Take r.die r.seat (Some r.job)) ∷ r.during ++ Event (Done r.die (DidRead r.cell)) ∷ r.behind) last (happening ∷ []) after r.leads
        (one_on last happening after happens));
    read = r.read;
    only = r.only;
    gave = r.gave;
    plain = r.plain;
  }

  answer_on : (happenings : List Happening) (batch : ℕ) (kept : KeepsBatch batch happening) (o : IsOpen happenings batch) (page : ℕ) (bytes : List ℕ)
      → IsAnswer first last o page bytes → IsAnswer first after (open_on happenings batch kept o) page bytes
  answer_on happenings batch kept o page bytes (inl r) = inl (read_on (up_to_admit o.before o.pages o.admitted) o.since batch page bytes r)
  answer_on happenings batch kept o page bytes (inr a) = inr a

  reading_on : (admission since : List Happening) (batch die : ℕ) (page : Page) (version : Version) (slot : Slot) → EndsNoJob die happening
      → IsReading first admission since last batch die page version slot
      → IsReading first admission (since ++ happening ∷ []) after batch die page version slot
  reading_on admission since batch die page version slot ends r = record {
    between = r.between;
    at = r.at;
    seat = r.seat;
    job = r.job;
    during = r.during ++ happening ∷ [];
    taken = r.taken;
    order = ap (λ l. l ++ happening ∷ []) r.order ∙ behind_one r.between (Event (Take die r.seat (Some r.job))) r.during happening;
    led = r.led;
    event = r.event;
    leads = runs_on r.taken r.during last (happening ∷ []) after r.leads (one_on last happening after happens);
    read = r.read;
    only = all_and_one (EndsNoJob die) r.during happening r.only ends;
  }

module _ (first : World) (beginning : IsBeginning first) (happenings : List Happening) (last : World) (run : Run first happenings last) where
  reached : IsReached last
  reached = record { first = first; happenings = happenings; beginning = beginning; run = run }

  h : Holds last
  h = reached_holds last reached

  kind_hole : (k : Kind) → is_data k ≡ false → k ≡ Hole
  kind_hole Data e = absurd (true≢false e)
  kind_hole Hole e = refl

  -- what the plain array has of a page that needs no read is zeros
  plain_zeros : (page : ℕ) (o : Option Version) → get last.core.page_map.versions page ≡ o → page < last.core.page_map.geometry.pages
      → not (has_data o) ≡ true → plain_page last page ≡ zeros last.core.page_map
  plain_zeros page None is low no_data = h.unwritten page low is
  plain_zeros page (Some v) is low no_data =
      let number = h.sound.numbered page v is in
      sym number.right ∙ number.hole (kind_hole v.kind (not-true (is_data v.kind) no_data))

  module _ (act : Act) (after : World) (event : HappensEvent last act after) where
    abbrev then : List Happening
    then = happenings ++ Event act ∷ []

    -- a read that is taken now, for a batch that is open
    taken_now : (batch : ℕ) (o : IsOpen happenings batch) (die : ℕ) (page : Page) (version : Version) (slot : Slot)
        → IsTakenBy act die (Read (record { 0 = batch }) page version slot)
        → IsReading first (up_to_admit o.before o.pages o.admitted) (o.since ++ Event act ∷ []) after batch die page version slot
    taken_now batch o die page version slot t = record {
      between = o.since;
      at = last;
      seat = t.seat;
      job = t.job;
      during = [];
      taken = after;
      order = ap (λ a. o.since ++ Event a ∷ []) t.act_is;
      led = subst (λ (l : List Happening). Run first l last) o.order run;
      event = subst (λ (a : Act). HappensEvent last a after) t.act_is event;
      leads = refl;
      read = t.flight_is;
      only = tt;
    }

    reading_then : (batch : ℕ) (b : OpenBatch) (kept : KeepsBatch batch (Event act)) → (t : IsTraced first happenings last batch b)
        → (die : ℕ) (page : Page) (version : Version) (slot : Slot) → get after.core.jobs die ≡ Some (Read (record { 0 = batch }) page version slot)
        → IsReading first (up_to_admit t.opened.before t.opened.pages t.opened.admitted) (t.opened.since ++ Event act ∷ []) after batch die page version slot
    reading_then batch b kept t die page version slot is =
        elim (job_was last.core after.core act die (Read (record { 0 = batch }) page version slot) event.step is) [
          | inl was ↦
              reading_on first last (Event act) after event (up_to_admit t.opened.before t.opened.pages t.opened.admitted) t.opened.since batch die page version slot was.1
              (t.reading die page version slot was.0)
          | inr now ↦ taken_now batch t.opened die page version slot now
        ]

    stayed_then : (batch : ℕ) (b : OpenBatch) → KeepsBatch batch (Event act) → IsTraced first happenings last batch b → IsTraced first then after batch b
    stayed_then batch b kept t = record {
      opened = open_on first last (Event act) after event happenings batch kept t.opened;
      answers = λ page bytes is. answer_on first last (Event act) after event happenings batch kept t.opened page bytes (t.answers page bytes is);
      reading = λ die page version slot is. reading_then batch b kept t die page version slot is;
    }

    -- the read that ends now
    read_now : (die : ℕ) (cell : Cell) → act ≡ Done die (DidRead cell) → (admission since : List Happening) (batch : ℕ) (page : Page) (version : Version)
        (slot : Slot) (bytes : List ℕ) → payload_of page.0 version die slot.0 cell ≡ Some bytes
        → IsReading first admission since last batch die page version slot → WasRead first admission (since ++ Event act ∷ []) after batch page.0 bytes
    read_now die cell act_is admission since batch page version slot bytes gave r = record {
      between = r.between;
      at = r.at;
      die = die;
      seat = r.seat;
      job = r.job;
      version = version;
      slot = slot;
      during = r.during;
      cell = cell;
      behind = [];
      order = ap (λ l. l ++ Event act ∷ []) r.order
          ∙ ap (λ a. r.between ++ Event (Take die r.seat (Some r.job)) ∷ r.during ++ Event a ∷ []) act_is;
      led = r.led;
      leads = (
        r.taken,
        r.event,
        subst (λ (a : Act). Run r.taken (r.during ++ Event a ∷ []) after) act_is
            (runs_on r.taken r.during last (Event act ∷ []) after r.leads (one_on last (Event act) after event)),
      );
      read = r.read;
      only = r.only;
      gave = gave;
      plain = sym (same_Some bytes (plain_page r.at page.0) (sym gave
          ∙ read_gives r.at r.taken last after die r.seat r.job (record { 0 = batch }) page version slot r.during cell
          (record { first = first; happenings = admission ++ r.between; beginning = beginning; run = r.led }) r.event r.read r.leads r.only
          (subst (λ (a : Act). HappensEvent last a after) act_is event)));
    }

    answered_then : (batch : ℕ) (b : OpenBatch) → AreTraced first happenings last → IsAnsweredBy last.core act batch b → IsTraced first then after batch b
    answered_then batch b traced a =
        let t = traced batch a.was a.opened in
        let kept : KeepsBatch batch (Event act) = subst (λ (x : Act). KeepsBatch batch (Event x)) (sym a.act_is) tt in
        let admission = up_to_admit t.opened.before t.opened.pages t.opened.admitted in
        record {
          opened = open_on first last (Event act) after event happenings batch kept t.opened;
          answers = λ page bytes is. elim (get-insert_cases a.was.answers a.page.0 a.bytes page bytes (sym (ap (λ m. get m page) a.answers) ∙ is)) [
            | inl made ↦
                inl (subst (λ (x : ℕ × List ℕ). WasRead first admission (t.opened.since ++ Event act ∷ []) after batch x.0 x.1)
                {x = (a.page.0, a.bytes)} {y = (page, bytes)} (λ i. (sym made.0 i, made.1 i))
                (read_now a.die a.cell a.act_is admission t.opened.since batch a.page a.version a.slot a.bytes a.gave
                (t.reading a.die a.page a.version a.slot a.job)))
            | inr was ↦ answer_on first last (Event act) after event happenings batch kept t.opened page bytes (t.answers page bytes was.0)
          ];
          reading = λ die page version slot is. reading_then batch a.was kept t die page version slot is;
        }

    -- no read is in flight for a batch that is admitted now
    none_reads : (pages : List ℕ) (admitted : Admitted) → act ≡ Admit pages (Ok admitted) → is_fresh last.core admitted.batch.0 ≡ true → (die : ℕ)
        (page : Page) (version : Version) (slot : Slot) → get after.core.jobs die ≡ Some (Read admitted.batch page version slot) → ⊥
    none_reads pages admitted act_is fresh die page version slot is =
        elim (job_was last.core after.core act die (Read admitted.batch page version slot) event.step is) [
          | inl was ↦
              let none = (or_parts (contains_key last.core.batches admitted.batch.0 || list_any (λ (k : Booking). k.batch.0 == admitted.batch.0) (values last.core.calendar.bookings))
              (list_any (names_batch admitted.batch.0) (values last.core.jobs)) (not-true _ fresh)).1 in
              false≢true (sym none ∙ any_value (names_batch admitted.batch.0) last.core.jobs die (Read admitted.batch page version slot) was.0 (eq-eqb admitted.batch.0 admitted.batch.0 refl))
          | inr now ↦ no_take (sym act_is ∙ now.act_is)
        ]
      where
        is_take : Act → Type 0
        is_take (Take d seat answer) = ⊥
        is_take a = Unit {0}

        no_take : {d seat : ℕ} {answer : Option Handed} → Admit pages (Ok admitted) ≡ Take d seat answer → ⊥
        no_take e = subst is_take e tt

    at_once_now : (pages : List ℕ) → ((page : ℕ) → Among page pages → page < last.core.page_map.geometry.pages) → (page : ℕ) (bytes : List ℕ)
        → get (opened_of last.core pages).answers page ≡ Some bytes → WasAtOnce first happenings pages page bytes
    at_once_now pages inside page bytes is =
        elim (get-insert_all nat_cmp_total nat_same (at_once last.core.page_map pages) (zeros last.core.page_map) empty page) [
          | inl nothing ↦ absurd (none-some bytes (sym (nothing ∙ get-empty nat_cmp page) ∙ is))
          | inr found ↦
              let which = among-filter (λ page. not (has_data (get last.core.page_map.versions page))) page pages found.0 in
              record {
                at = last;
                led = run;
                among = found.0;
                plain = plain_zeros page (get last.core.page_map.versions page) refl (inside page which.0) which.1
                    ∙ sym (same_Some bytes (zeros last.core.page_map) (sym is ∙ found.1));
              }
        ]

    admitted_then : (batch : ℕ) (b : OpenBatch) → IsAdmittedBy last.core act batch b → IsTraced first then after batch b
    admitted_then batch b a = record {
      opened = record {
        before = happenings;
        pages = a.pages;
        admitted = a.admitted;
        since = [];
        order = ap (λ x. happenings ++ Event x ∷ []) a.act_is ∙ sym (append-nil (happenings ++ Event (Admit a.pages (Ok a.admitted)) ∷ []));
        batch_is = a.batch_is;
        kept = tt;
      };
      answers = λ page bytes is. inr (at_once_now a.pages inside page bytes (ap (λ (x : OpenBatch). get x.answers page) a.opened ∙ is));
      reading = λ die page version slot is.
          absurd (none_reads a.pages a.admitted a.act_is does.1 die page version slot
          (is ∙ ap (λ (n : ℕ). Some (Read (record { 0 = n }) page version slot)) (sym a.batch_is)));
    }
      where
        does : Does last.core (Admit a.pages (Ok a.admitted)) after.core
        does = subst (λ (x : Act). Does last.core x after.core) a.act_is event.step.does

        may : allowed last.core (Admit a.pages (Ok a.admitted)) ≡ true
        may = subst (λ (x : Act). allowed last.core x ≡ true) a.act_is event.step.allows

        all_inside : (pages : List ℕ) → list_all (is_page last.core) pages ≡ true → (page : ℕ) → Among page pages → page < last.core.page_map.geometry.pages
        all_inside [] e page i = absurd i
        all_inside (p ∷ ps) e page (inl is) =
            subst (λ n. n < last.core.page_map.geometry.pages) is (ltb-true p last.core.page_map.geometry.pages (and_parts (is_page last.core p) (list_all (is_page last.core) ps) e).0)
        all_inside (p ∷ ps) e page (inr rest) = all_inside ps (and_parts (is_page last.core p) (list_all (is_page last.core) ps) e).1 page rest

        inside : (page : ℕ) → Among page a.pages → page < last.core.page_map.geometry.pages
        inside = all_inside a.pages (and_parts (is_distinct a.pages) _ (and_parts (is_distinct a.pages && list_all (is_page last.core) a.pages) _ may).0).1

    event_traced : AreTraced first happenings last → AreTraced first then after
    event_traced traced batch b is =
        elim (batch_was last.core batch b act after.core event.step.does is) [
          | inl stayed ↦ stayed_then batch b stayed.0 (traced batch b stayed.1)
          | inr (inl a) ↦ admitted_then batch b a
          | inr (inr a) ↦ answered_then batch b traced a
        ]

  -- an image call changes nothing of the array's state
  module _ (die : ℕ) (gave : Gave) (after : World) (happens : Happens last (ImageCall die gave) after) where
    same_core : after.core ≡ last.core
    same_core = of_work (last.works die) happens
      where
        of_call : (work : Option Work) (call : Option JobCall) → CallsNext last die work call gave after → after.core ≡ last.core
        of_call work None c = absurd c
        of_call work (Some call) c = ap (λ (v : World). v.core) c.2

        of_work : (work : Option Work) → HappensCall last die work gave after → after.core ≡ last.core
        of_work work c = of_call work (option_and_then (λ k. next_call die k.job k.gave) work) c

    call_traced : AreTraced first happenings last → AreTraced first (happenings ++ ImageCall die gave ∷ []) after
    call_traced traced batch b is =
        let t = traced batch b (sym (ap (λ (c : Core). get c.batches batch) same_core) ∙ is) in record {
          opened = open_on first last (ImageCall die gave) after happens happenings batch tt t.opened;
          answers = λ page bytes e. answer_on first last (ImageCall die gave) after happens happenings batch tt t.opened page bytes (t.answers page bytes e);
          reading = λ d page version slot e.
              reading_on first last (ImageCall die gave) after happens (up_to_admit t.opened.before t.opened.pages t.opened.admitted) t.opened.since batch d page version slot tt
              (t.reading d page version slot (sym (ap (λ (c : Core). get c.jobs d) same_core) ∙ e));
        }

  pub happens_traced : (happening : Happening) (after : World) → Happens last happening after → AreTraced first happenings last
      → AreTraced first (happenings ++ happening ∷ []) after
  happens_traced (Event act) after happens traced = event_traced act after happens traced
  happens_traced (ImageCall die gave) after happens traced = call_traced die gave after happens traced

-- what one more happening keeps, a run keeps that begins behind some
pub keeps_behind : (P : List Happening → World → Type 0) (first : World)
    → ((happenings : List Happening) (last : World) (happening : Happening) (after : World) → Run first happenings last → Happens last happening after
    → P happenings last → P (happenings ++ happening ∷ []) after)
    → (before : List Happening) (at : World) → Run first before at → P before at → (rest : List Happening) (last : World) → Run at rest last
    → P (before ++ rest) last
keeps_behind P first step before at led p [] last run =
    subst (λ (x : List Happening × World). P x.0 x.1) {x = (before, at)} {y = (before ++ [], last)} (λ i. (sym (append-nil before) i, sym run i)) p
keeps_behind P first step before at led p (happening ∷ rest) last run =
    subst (λ (l : List Happening). P l last) (append_assoc before (happening ∷ []) rest)
    (keeps_behind P first step (before ++ happening ∷ []) run.0
    (runs_on first before at (happening ∷ []) run.0 led (one_on at happening run.0 run.1)) (step before at happening run.0 led run.1 p) rest last run.2)

pub run_traced : (first : World) → IsBeginning first → (happenings : List Happening) (last : World) → Run first happenings last → AreTraced first happenings last
run_traced first beginning happenings last run =
    keeps_behind (λ l w. AreTraced first l w) first
    (λ before at happening after led happens traced. happens_traced first beginning before at led happening after happens traced)
    [] first refl (λ batch b is. absurd (none-some b (sym (ap (λ (c : Core). get c.batches batch) beginning.fresh ∙ get-empty nat_cmp batch) ∙ is)))
    happenings last run

-- the answers of a batch, in the order of its pages
module _ (first last : World) (happenings : List Happening) (batch : ℕ) (b : OpenBatch) (t : IsTraced first happenings last batch b) where
  abbrev Answered : ℕ × List ℕ → Type 0
  Answered a = IsAnswer first last t.opened a.0 a.1

  answer_of : (page : ℕ) (o : Option (List ℕ)) → get b.answers page ≡ o → (rest : List (ℕ × List ℕ)) → AllByRecursion Answered rest
      → AllByRecursion Answered (cons_option (option_map (λ bytes. (page, bytes)) o) rest)
  answer_of page None is rest all = all
  answer_of page (Some bytes) is rest all = (t.answers page bytes is, all)

  answers_of : (pages : List ℕ)
      → AllByRecursion Answered (filter_map (λ page. option_map (λ bytes. (page, bytes)) (get b.answers page)) pages)
  answers_of [] = tt
  answers_of (page ∷ pages) = answer_of page (get b.answers page) refl _ (answers_of pages)

pub answers_right : (first : World) → IsBeginning first → (happenings : List Happening) (last after : World) → Run first happenings last
    → (batch : ℕ) (answer : List (ℕ × List ℕ)) → HappensEvent last (EndBatch batch answer) after → AnswersRight first happenings last batch answer
answers_right first beginning happenings last after run batch answer event = of_batch (get last.core.batches batch) refl event.step.allows event.step.does.0
  where
    of_batch : (o : Option OpenBatch) → get last.core.batches batch ≡ o → is_some o ≡ true
        → answer ≡ answered (unwrap_or o (record { pages = []; answers = empty })) → AnswersRight first happenings last batch answer
    of_batch None is may e = absurd (false≢true may)
    of_batch (Some b) is may e =
        let t = run_traced first beginning happenings last run batch b is in record {
          opened = t.opened;
          answers = subst (λ (l : List (ℕ × List ℕ)). AllByRecursion (λ (a : ℕ × List ℕ). IsAnswer first last t.opened a.0 a.1) l) (sym e) (answers_of first last happenings batch b t b.pages);
        }
