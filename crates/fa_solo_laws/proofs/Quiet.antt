-- What the store of one thread does besides its requests writes nothing.
use Rattle.fa_solo_laws.proofs.Listed.{ready_gives}
use Rattle.fa_solo_laws.proofs.ReadBack.{reached_on}
use Rattle.fa_solo_laws.proofs.Tells.{answers_told}
use Rattle.fa_solo_laws.specs.Unwritten.{EndsNoBatch, WritesNothing}
use Rattle.fa_solo_laws.proofs.Going.{Goes as GoesOn, Laws, goes_first, goes_on}
use Rattle.fa_solo_laws.proofs.Gone.{gone_lost}
use Rattle.fa_solo_laws.specs.Begun.{IsCalm}
use Rattle.fa_solo_laws.specs.Shown.{store_of}
use Rattle.fa_solo_laws.proofs.Asking.{requests_free, run_free}
use Rattle.fa_solo_laws.proofs.Led.{Led, Stands, deeds_led, fair_before, happens, next, stands_next}
use Rattle.fa_solo_laws.proofs.Around.{IsKept, kept_unwritten}
use Rattle.fa_solo_laws.proofs.DrivenDeeds.{copy_plain, dies_plain, order_plain, read_plain, reads_goes, requests_plain, settles_goes}
use Rattle.fa_solo_laws.specs.Driving.{IsDeedOf, IsForCopy, IsForRead, IsOfJob, IsPlain, image_on}
use Rattle.fa_solo_laws.specs.Standing.{IsWorldOf}
use Rattle.fa_mount_headers.specs.declared.judging.Standing.{Standing}
use Rattle.fa_image.specs.Image.{ImageAnswer, ImageCall, ImageMeets, ImageState, IsImage}
use Rattle.fa_laws.proofs.Runs.{runs_on}
use Rattle.fa_laws.specs.Kept.{KeepsNumbers}
use Rattle.fa_laws.specs.Reached.{IsReached}
use Rattle.fa_machine.specs.Reading.{results}
use Rattle.fa_machine.specs.Run.{Event, Happening, HappensEvent, ImageCall as CallsImage, Run}
use Rattle.fa_machine.specs.State.{Core}
use Rattle.fa_machine.specs.Step.{Act, Admit, Advance, CommitCopy, Done, EndBatch, Fold, ReserveCopy, SpareIn, Step, Take, Window}
use Rattle.fa_machine.specs.World.{World, plain_page}
use Rattle.fa_mount.specs.Standings.{AreApart}
use Rattle.fa_mount_close_laws.specs.Drives.{AreHonest, AreImages, events_of}
use Rattle.fa_solo_job.specs.Deeds.{Goes, IsForDies, IsForOrder, IsForRequests}
use Rattle.fa_solo_job.specs.House.{House}
use Rattle.fa_solo_job.specs.Orders.{Copies, CopiesPage, Deals, Orders, Reads, Rests}
use Rattle.fa_shared_lock.specs.Seats.{number_of}
use Rattle.fa_solo_job.specs.Inner.{Does, Tidies, house_of}
use Rattle.fa_solo_job.specs.declared.inner.Inner.{Inner}
use Rattle.fa_types.specs.Plain.{export}
use Rattle.fa_types.specs.Store.{IsUnwritten}
use Rattle.fa_types.specs.declared.geometry.Geometry.{Geometry}
use Rattle.std.proofs.Common.{Bool, List, None, Ok, Err, Some, [], ap, arith, inl, inr, refl, subst, suc, sym, ℕ}
use Rattle.std.proofs.Common.{◌*◌, ◌++◌, ◌∙◌, ◌∷◌, ◌≡◌}
use Rattle.std.specs.FinMap.{get}
use Rattle.std.specs.List.{AllByRecursion}
use Rattle.std.specs.Prelude.{Contains}

-- Events of these kinds write nothing, and end no batch.
dies_silent : (act : Act) → IsForDies act → WritesNothing (Event act)
dies_silent (Take die seat None) may = tt
dies_silent (Window die rounds answer) may = tt
dies_silent (Advance answer) may = tt
dies_silent Fold may = tt
dies_silent act may = absurd may

dies_unended : (batch : ℕ) (act : Act) → IsForDies act → EndsNoBatch batch (Event act)
dies_unended batch (Take die seat None) may = tt
dies_unended batch (Window die rounds answer) may = tt
dies_unended batch (Advance answer) may = tt
dies_unended batch Fold may = tt
dies_unended batch act may = absurd may

requests_silent : (act : Act) → IsForRequests act → WritesNothing (Event act)
requests_silent (Take die seat None) may = tt
requests_silent (Window die rounds answer) may = tt
requests_silent (Advance answer) may = tt
requests_silent (SpareIn die answer) may = tt
requests_silent Fold may = tt
requests_silent act may = absurd may

order_silent : (act : Act) → IsForOrder act → WritesNothing (Event act)
order_silent (Admit (page ∷ []) (Err refused)) may = tt
order_silent (ReserveCopy page seq payload (Err refused)) may = tt
order_silent (Take die seat None) may = tt
order_silent (Window die rounds answer) may = tt
order_silent (Advance answer) may = tt
order_silent (SpareIn die answer) may = tt
order_silent Fold may = tt
order_silent act may = absurd may

read_silent : (act : Act) → IsForRead act → WritesNothing (Event act)
read_silent (Admit (page ∷ []) answer) may = tt
read_silent (EndBatch batch answers) may = tt
read_silent (Take die seat None) may = tt
read_silent (Window die rounds answer) may = tt
read_silent (Advance answer) may = tt
read_silent Fold may = tt
read_silent act may = absurd may

copy_silent : (act : Act) → IsForCopy act → WritesNothing (Event act)
copy_silent (CommitCopy answer) may = tt
copy_silent (Take die seat None) may = tt
copy_silent (Window die rounds answer) may = tt
copy_silent (Advance answer) may = tt
copy_silent Fold may = tt
copy_silent act may = absurd may

job_silent : (act : Act) → IsOfJob act → WritesNothing (Event act)
job_silent (Take die seat (Some job)) is = tt
job_silent (Done die outcome) is = tt
job_silent act is = absurd is

job_unended : (batch : ℕ) (act : Act) → IsOfJob act → EndsNoBatch batch (Event act)
job_unended batch (Take die seat (Some job)) is = tt
job_unended batch (Done die outcome) is = tt
job_unended batch act is = absurd is

-- the same of a run of which the events are deeds
all_silent : (P : Act → Type 0) → ((act : Act) → P act → WritesNothing (Event act)) → (happenings : List Happening)
    → AllByRecursion (IsDeedOf P) (events_of happenings) → AllByRecursion WritesNothing happenings
all_silent P silent [] all = tt
all_silent P silent (Event act ∷ happenings) all =
    (elim (all.0) [ inl may ↦ silent act may | inr job ↦ job_silent act job ], all_silent P silent happenings all.1)
all_silent P silent (CallsImage die gave ∷ happenings) all = (tt, all_silent P silent happenings all)

all_unended : (batch : ℕ) (happenings : List Happening) → AllByRecursion (IsDeedOf IsForDies) (events_of happenings)
    → AllByRecursion (EndsNoBatch batch) happenings
all_unended batch [] all = tt
all_unended batch (Event act ∷ happenings) all =
    (elim (all.0) [ inl may ↦ dies_unended batch act may | inr job ↦ job_unended batch act job ], all_unended batch happenings all.1)
all_unended batch (CallsImage die gave ∷ happenings) all = (tt, all_unended batch happenings all)

both_silent : (one two : List Happening) → AllByRecursion WritesNothing one → AllByRecursion WritesNothing two
    → AllByRecursion WritesNothing (one ++ two)
both_silent [] two none more = more
both_silent (happening ∷ one) two none more = (none.0, both_silent one two none.1 more)

abbrev drop_one : {X : Type 0} → List X → List X
drop_one [] = []
drop_one (x ∷ xs) = xs

ends_not : {X : Type 0} (xs : List X) (y : X) → xs ++ y ∷ [] ≡ [] → ⊥
ends_not [] y e = cc
ends_not (x ∷ xs) y e = cc

last_of_one : {X : Type 0} (xs : List X) (y z : X) → xs ++ y ∷ [] ≡ z ∷ [] → y ≡ z
last_of_one [] y z e = let same : y ∷ [] ≡ z ∷ [] = e in cc
last_of_one {X} (x ∷ xs) y z e = absurd (ends_not xs y (ap (drop_one {X = X}) e))

module _ {I : Type 0} (view : I → ImageState) (dies : List Standing) where
  -- a run of what is none of a request's, that writes nothing
  pub record Quiet (w : World) (new : House I) : Type 0 where
    pub last : World
    pub happenings : List Happening
    pub run : Run w happenings last
    pub none : AllByRecursion WritesNothing happenings
    pub stands : Stands view dies new last

  quiet_on : (w : World) (middle new : House I) (one : Quiet w middle) → Quiet one.last new → Quiet w new
  quiet_on w middle new one two = record {
    last = two.last;
    happenings = one.happenings ++ two.happenings;
    run = runs_on w one.happenings one.last two.happenings two.last one.run two.run;
    none = both_silent one.happenings two.happenings one.none two.none;
    stands = two.stands;
  }

-- no event but a Commit changes the numbers of pages
abbrev NumbersLaw : Type 0
NumbersLaw = (old new : Core) (act : Act) → Step old act new → KeepsNumbers old act new

module _ {I : Type 0} (view : I → ImageState) (honest : I → Bool) (made : I → ImageCall → ImageAnswer → I → Type 0)
    (whole : (image : I) → IsImage (view image))
    (meets : (before after : I) (call : ImageCall) (answer : ImageAnswer) → made before call answer after
    → ImageMeets (view before) (honest before) call answer (view after) (honest after)) (array : List ℕ) (dies : List Standing) (seat : ℕ)
    (laws : Laws) (apart : AreApart dies) where
  -- deeds of which the events write nothing
  pub deeds_quiet : (P : Act → Type 0) → ((act : Act) → P act → IsPlain act) → ((act : Act) → P act → WritesNothing (Event act))
      → (old new : House I) → Goes made array dies seat P old new → AreHonest honest (image_on dies new.images) → (w : World)
      → Stands view dies old w → Quiet view dies w new
  deeds_quiet P plain silent old new goes fair w stands =
      let one = deeds_led view honest made whole meets array dies seat laws.geometry apart P plain old new goes fair w stands in
      record { last = one.last; happenings = one.happenings; run = one.run; none = all_silent P silent one.happenings one.events; stands = one.stands }

  -- one more copy of a page
  module _ (old new : House I) (c : CopiesPage made array dies seat old new) (fair : AreHonest honest (image_on dies new.images)) (w : World)
      (reached : IsReached w) (stands : Stands view dies old w) where
    abbrev admits : Act
    admits = Admit (c.page ∷ []) (Ok c.admitted)

    abbrev answer : List (ℕ × List ℕ)
    answer = c.others ++ (c.given, c.bytes) ∷ []

    abbrev ends : Act
    ends = EndBatch c.admitted.batch.0 answer

    abbrev reserves : Act
    reserves = ReserveCopy c.page c.version.seq.0 c.bytes (Ok tt)

    fair_waited : AreHonest honest (image_on dies c.waited.images)
    fair_waited = subst (λ (l : List I). AreHonest honest (image_on dies l)) (c.images.2 ∙ c.images.1) fair

    abbrev opened : World
    opened = next view dies laws.geometry w old c.asked admits stands c.asks c.images.0 tt refl

    opens : HappensEvent w admits opened
    opens = happens view dies laws.geometry w old c.asked admits stands c.asks c.images.0 tt refl

    waits : Led view honest made whole meets array dies seat laws.geometry apart IsForDies dies_plain opened c.waited
    waits = deeds_led view honest made whole meets array dies seat laws.geometry apart IsForDies dies_plain c.asked c.waited c.waits fair_waited opened
        (stands_next view dies laws.geometry w old c.asked admits stands c.asks c.images.0 tt refl)

    silent : AllByRecursion WritesNothing waits.happenings
    silent = all_silent IsForDies dies_silent waits.happenings waits.events

    abbrev ended : World
    ended = next view dies laws.geometry waits.last c.waited c.ended ends waits.stands c.ends c.images.1 tt refl

    its_end : HappensEvent waits.last ends ended
    its_end = happens view dies laws.geometry waits.last c.waited c.ended ends waits.stands c.ends c.images.1 tt refl

    stands_ended : Stands view dies c.ended ended
    stands_ended = stands_next view dies laws.geometry waits.last c.waited c.ended ends waits.stands c.ends c.images.1 tt refl

    -- the batch answers its page, and nothing else
    of_page : ◌≡◌ {A = ℕ × List ℕ} (c.given, c.bytes) (c.page, plain_page w c.page)
    of_page = last_of_one c.others (c.given, c.bytes) (c.page, plain_page w c.page)
        (ready_gives w opened waits.last ended (c.page ∷ []) c.admitted waits.happenings answer reached opens waits.run silent
        (all_unended c.admitted.batch.0 waits.happenings waits.events)
        (ap (λ (k : Core). results k c.admitted.batch.0) waits.stands.core ∙ c.ready) its_end)

    has_it : (xs : List (ℕ × List ℕ)) (y z : ℕ × List ℕ) → y ≡ z → Contains (xs ++ y ∷ []) z
    has_it [] y z is = (0, omega arith, is)
    has_it (x ∷ xs) y z is = let later = has_it xs y z is in (suc later.0, let n = later.1 in omega (arith, n), later.2)

    is_told : Contains ended.told (record { page = c.page; seq = c.version.seq.0; bytes = c.bytes })
    is_told = (answers_told laws.numbers w opened waits.last ended (c.page ∷ []) c.admitted waits.happenings answer c.page c.bytes c.version
        reached opens waits.run silent its_end
        (has_it c.others (c.given, c.bytes) (c.page, c.bytes) (ap (λ (a : ℕ × List ℕ). (a.0, c.bytes)) of_page))
        (ap (λ (k : Core). get k.page_map.versions c.page) stands.core ∙ c.last)).0

    pub copies_quiet : Quiet view dies w new
    copies_quiet = record {
      last = next view dies laws.geometry ended c.ended new reserves stands_ended c.reserves c.images.2 is_told refl;
      happenings = Event admits ∷ (waits.happenings ++ Event ends ∷ Event reserves ∷ []);
      run = (
        opened,
        opens,
        runs_on opened waits.happenings waits.last (Event ends ∷ Event reserves ∷ []) _ waits.run
            (ended, its_end, (_, happens view dies laws.geometry ended c.ended new reserves stands_ended c.reserves c.images.2 is_told refl, refl)),
      );
      none = (tt, both_silent waits.happenings (Event ends ∷ Event reserves ∷ []) silent (tt, (tt, tt)));
      stands = stands_next view dies laws.geometry ended c.ended new reserves stands_ended c.reserves c.images.2 is_told refl;
    }

  -- what is done for the array's order
  pub orders_fair : (old new : House I) → Orders made array dies seat old new → AreHonest honest (image_on dies new.images)
      → AreHonest honest (image_on dies old.images)
  orders_fair old new Rests fair = fair
  orders_fair old new (Deals middle here before goes) fair =
      orders_fair old middle before (fair_before view honest made whole meets array dies seat laws.geometry apart IsForOrder order_plain middle new goes fair)
  orders_fair old new (Reads middle here before reads) fair =
      orders_fair old middle before
      (fair_before view honest made whole meets array dies seat laws.geometry apart IsForRead read_plain middle new
      (reads_goes made array dies seat middle new reads) fair)
  orders_fair old new (Copies middle copied here before copy settles) fair =
      let there = fair_before view honest made whole meets array dies seat laws.geometry apart IsForCopy copy_plain copied new
      (settles_goes made array dies seat copied new settles) fair in
      let waited = subst (λ (l : List I). AreHonest honest (image_on dies l)) (copy.images.2 ∙ copy.images.1) there in
      orders_fair old middle before
      (subst (λ (l : List I). AreHonest honest (image_on dies l)) copy.images.0
      (fair_before view honest made whole meets array dies seat laws.geometry apart IsForDies dies_plain copy.asked copy.waited copy.waits waited))

  pub orders_quiet : (old : House I) (w : World) → IsReached w → Stands view dies old w → (new : House I) → Orders made array dies seat old new
      → AreHonest honest (image_on dies new.images) → Quiet view dies w new
  orders_quiet old w reached stands new Rests fair = record { last = w; happenings = []; run = refl; none = tt; stands = stands }
  orders_quiet old w reached stands new (Deals middle here before goes) fair =
      let one = orders_quiet old w reached stands middle before (fair_before view honest made whole meets array dies seat laws.geometry apart IsForOrder order_plain middle new goes fair) in
      quiet_on view dies w middle new one (deeds_quiet IsForOrder order_plain order_silent middle new goes fair one.last one.stands)
  orders_quiet old w reached stands new (Reads middle here before reads) fair =
      let goes = reads_goes made array dies seat middle new reads in
      let one = orders_quiet old w reached stands middle before (fair_before view honest made whole meets array dies seat laws.geometry apart IsForRead read_plain middle new goes fair) in
      quiet_on view dies w middle new one (deeds_quiet IsForRead read_plain read_silent middle new goes fair one.last one.stands)
  orders_quiet old w reached stands new (Copies middle copied here before copy settles) fair =
      let goes = settles_goes made array dies seat copied new settles in
      let there = fair_before view honest made whole meets array dies seat laws.geometry apart IsForCopy copy_plain copied new goes fair in
      let waited = subst (λ (l : List I). AreHonest honest (image_on dies l)) (copy.images.2 ∙ copy.images.1) there in
      let earlier = subst (λ (l : List I). AreHonest honest (image_on dies l)) copy.images.0
      (fair_before view honest made whole meets array dies seat laws.geometry apart IsForDies dies_plain copy.asked copy.waited copy.waits waited) in
      let one = orders_quiet old w reached stands middle before earlier in
      let two = quiet_on view dies w middle copied one
      (copies_quiet middle copied copy there one.last (reached_on w reached one.happenings one.last one.run) one.stands) in
      quiet_on view dies w copied new two (deeds_quiet IsForCopy copy_plain copy_silent copied new goes fair two.last two.stands)

  -- a store behind what writes nothing
  quiet_goes : (w : World) (happenings : List Happening) (v : World) (start : World) → GoesOn start w → Run w happenings v
      → AllByRecursion WritesNothing happenings → GoesOn start v
  quiet_goes w [] v start g run none = subst (GoesOn start) (sym run) g
  quiet_goes w (happening ∷ happenings) v start g run none =
      quiet_goes run.0 happenings v start (goes_on laws start w run.0 g happening run.1 none.0) run.2 none.1

  pub unwritten : (w : World) → IsReached w → IsCalm w → (new : House I) → (q : Quiet view dies w new)
      → IsReached q.last × IsKept (store_of w) (store_of q.last)
      × (q.last.core.page_map.geometry ≡ w.core.page_map.geometry)
  unwritten w reached calm new q =
      let g = quiet_goes w q.happenings q.last w (goes_first laws w reached calm) q.run q.none in (
        g.reached,
        record {
          size = ap (λ (s : Geometry). s.pages * s.page_bytes) g.geometry;
          page_bytes = ap (λ (s : Geometry). s.page_bytes) g.geometry;
          content = ap export g.plain;
          lost = λ page lost. gone_lost page q.last.core (g.gone page lost);
        },
        g.geometry,
      )

-- the same of what the store owns
module _ {L M I A : Type 0} (view : I → ImageState) (honest : I → Bool) (made : I → ImageCall → ImageAnswer → I → Type 0)
    (whole : (image : I) → IsImage (view image))
    (meets : (before after : I) (call : ImageCall) (answer : ImageAnswer) → made before call answer after
    → ImageMeets (view before) (honest before) call answer (view after) (honest after)) (laws : Laws) (old new : Inner L M I A) (w : World)
    (of_old : IsWorldOf view old w) (calm : IsCalm w) (apart : AreApart old.dies.items) where
  its_stand : Stands view old.dies.items (house_of old) w
  its_stand = record { core = of_old.core; images = of_old.images; idle = of_old.idle }

  of_quiet : new.dies.items ≡ old.dies.items → Quiet view old.dies.items w (house_of new)
      → (v : World) × IsWorldOf view new v × IsKept (store_of w) (store_of v)
  of_quiet dies q =
      let then = unwritten view honest made whole meets old.locked.number old.dies.items (number_of old.seat) laws apart w of_old.reached calm
      (house_of new) q in (
        q.last,
        record {
          reached = then.0;
          core = q.stands.core;
          images = subst (λ (d : List Standing). AreImages view q.last (image_on d new.images.items)) (sym dies) q.stands.images;
          idle = q.stands.idle;
        },
        then.1,
      )

  -- where no copy is under way none is before the request
  pub begun_inner : (does : Does made IsForRequests old new) → AreHonest honest (image_on new.dies.items new.images.items)
      → w.core.copying ≡ None → (v : World) × IsWorldOf view new v × IsKept (store_of w) (store_of v) × (v.core.copying ≡ None)
      × (v.core.page_map.geometry ≡ w.core.page_map.geometry)
  begun_inner does fair free =
      let one = deeds_led view honest made whole meets old.locked.number old.dies.items (number_of old.seat) laws.geometry apart IsForRequests requests_plain
      (house_of old) (house_of new) does.goes
      (subst (λ (d : List Standing). AreHonest honest (image_on d new.images.items)) does.dies fair) w its_stand in
      let q : Quiet view old.dies.items w (house_of new) = record {
        last = one.last;
        happenings = one.happenings;
        run = one.run;
        none = all_silent IsForRequests requests_silent one.happenings one.events;
        stands = one.stands;
      } in
      let then = unwritten view honest made whole meets old.locked.number old.dies.items (number_of old.seat) laws apart w of_old.reached calm
      (house_of new) q in (
        one.last,
        record {
          reached = then.0;
          core = one.stands.core;
          images = subst (λ (d : List Standing). AreImages view one.last (image_on d new.images.items)) (sym does.dies) one.stands.images;
          idle = one.stands.idle;
        },
        then.1,
        run_free IsForRequests requests_free w one.happenings one.last one.run one.events free,
        then.2,
      )

  fair_here : new.dies.items ≡ old.dies.items → AreHonest honest (image_on new.dies.items new.images.items)
      → AreHonest honest (image_on old.dies.items new.images.items)
  fair_here dies fair = subst (λ (d : List Standing). AreHonest honest (image_on d new.images.items)) dies fair

  pub before_inner : Does made IsForRequests old new → AreHonest honest (image_on new.dies.items new.images.items)
      → (v : World) × IsWorldOf view new v × IsKept (store_of w) (store_of v)
  before_inner does fair =
      of_quiet does.dies
      (deeds_quiet view honest made whole meets old.locked.number old.dies.items (number_of old.seat) laws apart IsForRequests requests_plain
      requests_silent (house_of old) (house_of new) does.goes (fair_here does.dies fair) w its_stand)

  pub behind_inner : Tidies made old new → AreHonest honest (image_on new.dies.items new.images.items)
      → (v : World) × IsWorldOf view new v × IsKept (store_of w) (store_of v)
  behind_inner tidies fair =
      of_quiet tidies.dies
      (orders_quiet view honest made whole meets old.locked.number old.dies.items (number_of old.seat) laws apart (house_of old) w of_old.reached
      its_stand (house_of new) tidies.orders (fair_here tidies.dies fair))

-- A world that runs lead to, behind deeds that come before a request, and behind what is done for the array's order. A lost page may be
-- copied meanwhile.
module _ {L M I A : Type 0} (view : I → ImageState) (honest : I → Bool) (made : I → ImageCall → ImageAnswer → I → Type 0)
    (whole : (image : I) → IsImage (view image))
    (meets : (before after : I) (call : ImageCall) (answer : ImageAnswer) → made before call answer after
    → ImageMeets (view before) (honest before) call answer (view after) (honest after)) (laws : Laws) (old new : Inner L M I A) (w : World)
    (of_old : IsWorldOf view old w) (apart : AreApart old.dies.items) where
  stands_on : Stands view old.dies.items (house_of old) w
  stands_on = record { core = of_old.core; images = of_old.images; idle = of_old.idle }

  leads_on : new.dies.items ≡ old.dies.items → Quiet view old.dies.items w (house_of new) → (v : World) × IsWorldOf view new v
  leads_on dies q = (
    q.last,
    record {
      reached = reached_on w of_old.reached q.happenings q.last q.run;
      core = q.stands.core;
      images = subst (λ (d : List Standing). AreImages view q.last (image_on d new.images.items)) (sym dies) q.stands.images;
      idle = q.stands.idle;
    },
  )

  pub leads_before : Does made IsForRequests old new → AreHonest honest (image_on new.dies.items new.images.items)
      → (v : World) × IsWorldOf view new v
  leads_before does fair =
      leads_on does.dies
      (deeds_quiet view honest made whole meets old.locked.number old.dies.items (number_of old.seat) laws apart IsForRequests requests_plain
      requests_silent (house_of old) (house_of new) does.goes
      (subst (λ (d : List Standing). AreHonest honest (image_on d new.images.items)) does.dies fair) w stands_on)

  pub leads_behind : Tidies made old new → AreHonest honest (image_on new.dies.items new.images.items) → (v : World) × IsWorldOf view new v
  leads_behind tidies fair =
      leads_on tidies.dies
      (orders_quiet view honest made whole meets old.locked.number old.dies.items (number_of old.seat) laws apart (house_of old) w of_old.reached
      stands_on (house_of new) tidies.orders
      (subst (λ (d : List Standing). AreHonest honest (image_on d new.images.items)) tidies.dies fair))

-- what is kept is not written
pub told : {L M I A : Type 0} (view : I → ImageState) (new : Inner L M I A) (w : World)
    → (v : World) × IsWorldOf view new v × IsKept (store_of w) (store_of v) → (v : World) × IsWorldOf view new v × IsUnwritten (store_of w) (store_of v)
told view new w (v, of_new, kept) = (v, of_new, kept_unwritten (store_of w) (store_of v) kept)
