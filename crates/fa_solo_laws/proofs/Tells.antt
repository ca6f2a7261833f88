-- What a batch has for its pages was told with the numbers that they have, while nothing is written.
use Rattle.fa_solo_job.proofs.Changes.{Batches, batches_after, batches_are, with_ended, with_one_more, with_read}
use Rattle.fa_solo_laws.proofs.Given.{at_work, paired, unbegun}
use Rattle.fa_solo_laws.specs.Unwritten.{WritesNothing}
use Rattle.fa_laws.proofs.Admitting.{one_value_other, one_value_same}
use Rattle.fa_laws.proofs.Answering.{reached_holds}
use Rattle.fa_laws.proofs.Endings.{HappensCall}
use Rattle.fa_laws.proofs.Events.{happens_holds}
use Rattle.fa_laws.proofs.Invariant.{Holds}
use Rattle.fa_laws.specs.Kept.{KeepsNumbers}
use Rattle.fa_laws.specs.Reached.{IsReached}
use Rattle.fa_machine.proofs.Lists.{among-contains, among-filter_map}
use Rattle.fa_machine.proofs.Maps.{get-insert_cases, get-remove_some, nat_same}
use Rattle.fa_machine.proofs.Takes.{IsOther, IsUrgent, take_cases}
use Rattle.fa_machine.proofs.Values.{get-insert_all}
use Rattle.fa_machine.specs.Among.{Among}
use Rattle.fa_machine.specs.Cells.{DidRead, Outcome, payload_of}
use Rattle.fa_machine.specs.Conditions.{reserved_under}
use Rattle.fa_machine.specs.Maps.{insert_all}
use Rattle.fa_machine.specs.Reading.{Admitted, answered, at_once, is_fresh, zeros}
use Rattle.fa_machine.specs.Run.{CallsNext, Event, Happening, Happens, HappensEvent, ImageCall, Run}
use Rattle.fa_machine.specs.State.{Core, OpenBatch, Reservation}
use Rattle.fa_machine.specs.Step.{Act, Admit, Commit, Done, EndBatch, Reserve, ReserveFewer, ReserveHole, Step, Take}
use Rattle.fa_machine.specs.Taking.{Handed, begins, handed, taken, without_stale_booking}
use Rattle.fa_machine.specs.Writing.{Commits}
use Rattle.fa_machine.specs.World.{Gave, JobCall, Told, Work, World, followed, next_call, told_at_once, with_due, with_end, with_told, with_value}
use Rattle.fa_machine.specs.declared.ids.BatchId.{BatchId}
use Rattle.fa_machine.specs.declared.jobs.Flight.{Flight}
use Rattle.fa_machine.specs.declared.jobs.Flight.TheVariants.{Erase, Header, Move, Program, Read, Sync}
use Rattle.fa_machine.specs.declared.places.Version.{Version}
use Rattle.fa_machine.specs.declared.refusals.CommitRefused.{CommitRefused}
use Rattle.fa_types.specs.declared.numbers.Page.{Page}
use Rattle.fa_types.specs.declared.numbers.Slot.{Slot}
use Rattle.std.proofs.Common.{Bool, List, None, Option, Some, [], ap, arith, false, inl, inr, refl, suc, subst, sym, true, ℕ}
use Rattle.std.proofs.Common.{◌++◌, ◌∙◌, ◌∷◌, ◌≡◌}
use Rattle.std.proofs.lemmas.Bool.{cases_eq, false≢true}
use Rattle.std.proofs.lemmas.Option.{none-some, same_Some}
use Rattle.std.specs.Cmp.{nat_cmp_total}
use Rattle.std.specs.FinMap.{FinMap, empty, get, get-empty, insert}
use Rattle.std.specs.List.{AllByRecursion, cons_option}
use Rattle.std.specs.Ordering.{nat_cmp}
use Rattle.std.specs.Prelude.{Contains, Err, Ok, filter_map, option_map, unwrap_or}

abbrev Versions : Type 0
Versions = FinMap nat_cmp Version

-- no event but a Commit changes the numbers of pages
abbrev NumbersLaw : Type 0
NumbersLaw = (old new : Core) (act : Act) → Step old act new → KeepsNumbers old act new

uncommitted : (old new : Core) (claim seat : ℕ) (r : Option Reservation) (refused : CommitRefused) → Commits old claim seat r (Err refused) new
    → new ≡ old
uncommitted old new claim seat None refused d = absurd d
uncommitted old new claim seat (Some r) refused d = d.1

-- each read in flight of the batch is of its page's last write
abbrev AreNow : ℕ → Versions → (ℕ → Option Work) → Type 0
AreNow batch versions works =
    (die : ℕ) (work : Work) (b : BatchId) (page : Page) (version : Version) (slot : Slot) → works die ≡ Some work
    → work.job.flight ≡ Read b page version slot → b.0 ≡ batch → get versions page.0 ≡ Some version

-- each answer of the batch was told with the number of its page's last write
abbrev AreTold : ℕ → Versions → Batches → List Told → Type 0
AreTold batch versions batches told =
    (b : OpenBatch) (page : ℕ) (bytes : List ℕ) (version : Version) → get batches batch ≡ Some b → get b.answers page ≡ Some bytes
    → get versions page ≡ Some version → Among (record { page = page; seq = version.seq.0; bytes = bytes }) told

pub record Tells (batch : ℕ) (versions : Versions) (w : World) : Type 0 where
  pub same : w.core.page_map.versions ≡ versions
  pub reads : AreNow batch versions w.works
  pub told : AreTold batch versions w.core.batches w.told

among_left : {X : Type 0} (x : X) (xs ys : List X) → Among x xs → Among x (xs ++ ys)
among_left x [] ys i = absurd i
among_left x (y ∷ xs) ys (inl is) = inl is
among_left x (y ∷ xs) ys (inr rest) = inr (among_left x xs ys rest)

among_right : {X : Type 0} (x : X) (xs ys : List X) → Among x ys → Among x (xs ++ ys)
among_right x [] ys i = i
among_right x (y ∷ xs) ys i = inr (among_right x xs ys i)

in_front : {Y : Type 0} (o : Option Y) (y : Y) (ys : List Y) → o ≡ Some y → Among y (cons_option o ys)
in_front None y ys e = absurd (none-some y e)
in_front (Some z) y ys e = inl (same_Some z y e)

behind_one : {Y : Type 0} (o : Option Y) (y : Y) (ys : List Y) → Among y ys → Among y (cons_option o ys)
behind_one None y ys i = i
behind_one (Some z) y ys i = inr i

among_mapped : {X Y : Type 0} (f : X → Option Y) (x : X) (y : Y) (xs : List X) → Among x xs → f x ≡ Some y → Among y (filter_map f xs)
among_mapped f x y [] i e = absurd i
among_mapped f x y (z ∷ zs) (inl is) e = in_front (f z) y (filter_map f zs) (ap f is ∙ e)
among_mapped f x y (z ∷ zs) (inr rest) e = behind_one (f z) y (filter_map f zs) (among_mapped f x y zs rest e)

contains_it : {X : Type 0} (x : X) (xs : List X) → Among x xs → Contains xs x
contains_it x [] i = absurd i
contains_it x (y ∷ xs) (inl is) = (0, omega arith, is)
contains_it x (y ∷ xs) (inr rest) = let later = contains_it x xs rest in (suc later.0, let n = later.1 in omega (arith, n), later.2)

-- A Take of a read is of the page's last write.
abbrev is_read : Flight → Bool
is_read (Read batch page version slot) = true
is_read flight = false

abbrev TakesNow : Core → Option Handed × Core → Type 0
TakesNow core given =
    (job : Handed) (b : BatchId) (page : Page) (version : Version) (slot : Slot) → given.0 ≡ Some job → job.flight ≡ Read b page version slot
    → get core.page_map.versions page.0 ≡ Some version

urgent_now : (core : Core) (die : ℕ) (flight : Flight) (b : BatchId) (page : Page) (version : Version) (slot : Slot) → IsUrgent core die flight
    → flight ≡ Read b page version slot → get core.page_map.versions page.0 ≡ Some version
urgent_now core die flight b page version slot u is = let read : IsUrgent core die (Read b page version slot) = subst (IsUrgent core die) is u in read.number

other_now : (core left : Core) (die seat : ℕ) (job : Option Handed) → IsOther left die job → TakesNow core (begins die seat left job)
other_now core left die seat None o job b page version slot e is = absurd (none-some job e)
other_now core left die seat (Some k) (inl p) job b page version slot e is =
    absurd (false≢true (ap (λ (h : Handed). is_read h.flight) (sym p.2 ∙ same_Some k job e) ∙ ap is_read is))
other_now core left die seat (Some k) (inr f) job b page version slot e is =
    absurd (false≢true (ap (λ (h : Handed). is_read h.flight) (sym f.1 ∙ same_Some k job e) ∙ ap is_read is))

takes_now : (core : Core) (die seat : ℕ) → TakesNow core (taken core die seat)
takes_now core die seat =
    take_cases core die seat (TakesNow core) (λ job b page version slot e is. absurd (none-some job e))
    (λ flight idle u job b page version slot e is.
    urgent_now core die flight b page version slot u (ap (λ (h : Handed). h.flight) (same_Some (handed flight) job e) ∙ is))
    (λ job idle o. other_now core (without_stale_booking die core) die seat job o)

with_due_told : (die : ℕ) (flight : Flight) (w : World) → (with_due die flight w).told ≡ w.told
with_due_told die (Read batch page version slot) w = refl
with_due_told die (Header epoch live) w = refl
with_due_told die (Move page version from to) w = refl
with_due_told die (Erase block) w = refl
with_due_told die (Program page version slot) w = refl
with_due_told die (Sync flushes) w = refl

module _ (batch : ℕ) (versions : Versions) where
  module _ (w : World) (h : Holds w) (g : Tells batch versions w) where
    taken_now : (die seat : ℕ) (job : Handed) (after : Core) → Step w.core (Take die seat (Some job)) after
        → AreNow batch versions (with_value die (Some (record { job = job; gave = [] })) w.works)
    taken_now die seat job after step d work b page version slot e flight of_batch =
        elim (cases_eq d die) [
          | inl here ↦
              let is = same_Some _ work (sym (one_value_same die (Some (record { job = job; gave = [] })) w.works d here) ∙ e) in
              elsewhere page.0 version (takes_now w.core die seat job b page version slot
              (sym (ap (λ (p : Option Handed × Core). p.0) step.does)) (ap (λ (k : Work). k.job.flight) is ∙ flight))
          | inr apart ↦
              g.reads d work b page version slot (sym (one_value_other die (Some (record { job = job; gave = [] })) w.works d apart) ∙ e) flight of_batch
        ]
      where
        elsewhere : (page : ℕ) (version : Version) → get w.core.page_map.versions page ≡ Some version → get versions page ≡ Some version
        elsewhere page version is = ap (λ (m : Versions). get m page) (sym g.same) ∙ is

    done_now : (die : ℕ) → AreNow batch versions (with_value die None w.works)
    done_now die d work b page version slot e flight of_batch =
        elim (cases_eq d die) [
          | inl here ↦ absurd (none-some work (sym (one_value_same die None w.works d here) ∙ e))
          | inr apart ↦ g.reads d work b page version slot (sym (one_value_other die None w.works d apart) ∙ e) flight of_batch
        ]

    followed_now : (act : Act) (after : Core) → Step w.core act after → AreNow batch versions (followed act w).works
    followed_now (Reserve claim payload (Ok seq)) after step = g.reads
    followed_now (Reserve claim payload (Err refused)) after step = g.reads
    followed_now (ReserveHole claim (Ok seq)) after step = g.reads
    followed_now (ReserveHole claim (Err refused)) after step = g.reads
    followed_now (ReserveFewer claim payload (Ok seq)) after step = g.reads
    followed_now (ReserveFewer claim payload (Err refused)) after step = g.reads
    followed_now (Commit claim seat (Ok seq)) after step = g.reads
    followed_now (Commit claim seat (Err refused)) after step = g.reads
    followed_now (Admit pages (Ok admitted)) after step = g.reads
    followed_now (Admit pages (Err refused)) after step = g.reads
    followed_now (Take die seat None) after step = g.reads
    followed_now (Take die seat (Some job)) after step = taken_now die seat job after step
    followed_now (Done die outcome) after step = done_now die
    followed_now act after step = g.reads

    -- a batch is admitted: what it answers at once is told
    admitted_told : (n : ℕ) (pages : List ℕ)
        → AreTold batch versions
        (insert w.core.batches n (record { pages = pages; answers = insert_all (at_once w.core.page_map pages) (zeros w.core.page_map) empty }))
        (w.told ++ told_at_once w.core pages)
    admitted_told n pages b page bytes version e f number =
        let now : OpenBatch = record { pages = pages; answers = insert_all (at_once w.core.page_map pages) (zeros w.core.page_map) empty } in
        let its : Told = record { page = page; seq = version.seq.0; bytes = bytes } in
        elim (get-insert_cases w.core.batches n now batch b e) [
          | inr before ↦ among_left its w.told (told_at_once w.core pages) (g.told b page bytes version before.0 f number)
          | inl made ↦
              let here : get now.answers page ≡ Some bytes = ap (λ (k : OpenBatch). get k.answers page) made.1 ∙ f in
              elim (get-insert_all nat_cmp_total nat_same (at_once w.core.page_map pages) (zeros w.core.page_map) empty page) [
                | inl nothing ↦ absurd (none-some bytes (sym (nothing ∙ get-empty nat_cmp page) ∙ here))
                | inr found ↦
                    among_right its w.told (told_at_once w.core pages)
                    (among_mapped
                    (λ p. option_map {T = Version} (λ v. record { page = p; seq = v.seq.0; bytes = zeros w.core.page_map }) (get w.core.page_map.versions p))
                    page its (at_once w.core.page_map pages) found.0
                    (ap (option_map {T = Version} (λ v. record { page = page; seq = v.seq.0; bytes = zeros w.core.page_map }))
                    (ap (λ (m : Versions). get m page) g.same ∙ number)
                    ∙ ap (λ (l : List ℕ). Some (record { page = page; seq = version.seq.0; bytes = l })) (same_Some _ bytes (sym found.1 ∙ here))))
              ]
        ]

    -- a read answers a page of a batch, and that is told
    module _ (n : ℕ) (p : Page) (seen : Version) (read : List ℕ) (right : n ≡ batch → get versions p.0 ≡ Some seen) where
      abbrev one : Told
      one = record { page = p.0; seq = seen.seq.0; bytes = read }

      before_told : (b : OpenBatch) (page : ℕ) (bytes : List ℕ) (version : Version) → get w.core.batches batch ≡ Some b
          → get b.answers page ≡ Some bytes → get versions page ≡ Some version
          → Among (record { page = page; seq = version.seq.0; bytes = bytes }) (w.told ++ one ∷ [])
      before_told b page bytes version e f number = among_left _ w.told (one ∷ []) (g.told b page bytes version e f number)

      this_told : (page : ℕ) (bytes : List ℕ) (version : Version) → batch ≡ n → page ≡ p.0 → read ≡ bytes → get versions page ≡ Some version
          → Among (record { page = page; seq = version.seq.0; bytes = bytes }) (w.told ++ one ∷ [])
      this_told page bytes version this here is number =
          let v : seen ≡ version = same_Some seen version (sym (right (sym this)) ∙ ap (get versions) (sym here) ∙ number) in
          among_right _ w.told (one ∷ []) (inl (λ i. record { page = sym here i; seq = (v i).seq.0; bytes = is i }))

      more_told : (o : Option OpenBatch) → get w.core.batches n ≡ o
          → AreTold batch versions (with_one_more n p.0 read o w.core.batches) (w.told ++ one ∷ [])
      more_told None is b page bytes version e f number = before_told b page bytes version e f number
      more_told (Some c) is b page bytes version e f number =
          let now : OpenBatch = record c { answers = insert c.answers p.0 read } in
          elim (get-insert_cases w.core.batches n now batch b e) [
            | inr before ↦ before_told b page bytes version before.0 f number
            | inl made ↦ elim (get-insert_cases c.answers p.0 read page bytes (ap (λ (k : OpenBatch). get k.answers page) made.1 ∙ f)) [
              | inl new ↦ this_told page bytes version made.0 new.0 new.1 number
              | inr was ↦ before_told c page bytes version (ap (get w.core.batches) made.0 ∙ is) was.0 number
            ]
          ]

    read_told : (die : ℕ) (b : BatchId) (page : Page) (version : Version) (slot : Slot) (o : Option (List ℕ))
        → get w.core.jobs die ≡ Some (Read b page version slot)
        → AreTold batch versions (with_read b.0 page.0 o w.core.batches) (with_told die b.0 page.0 version.seq.0 o w).told
    read_told die b page version slot None job = g.told
    read_told die b page version slot (Some bytes) job =
        let at = at_work (w.works die) (Read b page version slot) (sym (h.jobs die) ∙ job) in
        more_told b.0 page version bytes (λ of_batch. g.reads die at.0 b page version slot at.1 at.2 of_batch) (get w.core.batches b.0) refl

    ended_told : (die : ℕ) (flight : Option Flight) (outcome : Outcome) → get w.core.jobs die ≡ flight
        → AreTold batch versions (with_ended die flight outcome w.core.batches) (with_end die flight outcome w).told
    ended_told die (Some (Read b page version slot)) (DidRead cell) job =
        read_told die b page version slot (payload_of page.0 version die slot.0 cell) job
    ended_told die flight outcome job = g.told

    after_told : (act : Act) → AreTold batch versions (batches_after w.core act) (followed act w).told
    after_told (Reserve claim payload (Ok seq)) = g.told
    after_told (Reserve claim payload (Err refused)) = g.told
    after_told (ReserveHole claim (Ok seq)) = g.told
    after_told (ReserveHole claim (Err refused)) = g.told
    after_told (ReserveFewer claim payload (Ok seq)) = g.told
    after_told (ReserveFewer claim payload (Err refused)) = g.told
    after_told (Commit claim seat (Ok seq)) = g.told
    after_told (Commit claim seat (Err refused)) = g.told
    after_told (Admit pages (Ok admitted)) = admitted_told admitted.batch.0 pages
    after_told (Admit pages (Err refused)) = g.told
    after_told (EndBatch n answer) =
        λ b page bytes version e f number. g.told b page bytes version (get-remove_some w.core.batches n batch b e).0 f number
    after_told (Take die seat None) = g.told
    after_told (Take die seat (Some job)) =
        subst (AreTold batch versions w.core.batches) (sym (with_due_told die job.flight w)) g.told
    after_told (Done die outcome) = ended_told die (get w.core.jobs die) outcome refl
    after_told act = g.told

    numbers_same : (act : Act) (after : Core) → WritesNothing (Event act) → KeepsNumbers w.core act after → Step w.core act after
        → after.page_map.versions ≡ w.core.page_map.versions
    numbers_same (Commit claim seat (Ok seq)) after none kept step = absurd none
    numbers_same (Commit claim seat (Err refused)) after none kept step =
        ap (λ (c : Core). c.page_map.versions) (uncommitted w.core after claim seat (reserved_under w.core claim) refused step.does)
    numbers_same act after none kept step = kept

    event_tells : NumbersLaw → (act : Act) (after : World) → WritesNothing (Event act) → HappensEvent w act after → Tells batch versions after
    event_tells law act after none happens = record {
      same = numbers_same act after.core none (law w.core after.core act happens.step) happens.step ∙ g.same;
      reads = λ die work b page version slot e.
          followed_now act after.core happens.step die work b page version slot (sym (ap (λ (v : World). v.works die) happens.follows) ∙ e);
      told = λ b page bytes version e f number.
          subst (Among (record { page = page; seq = version.seq.0; bytes = bytes })) (sym (ap (λ (v : World). v.told) happens.follows))
          (after_told act b page bytes version
          (sym (ap (λ (batches : Batches). get batches batch) (batches_are w.core act after.core happens.step.does)) ∙ e) f number);
    }

    -- a call of an image changes neither jobs nor what is told
    called_now : (die : ℕ) (work : Work) (gave : Gave) → w.works die ≡ Some work
        → AreNow batch versions (with_value die (Some (record work { gave = work.gave ++ gave ∷ [] })) w.works)
    called_now die work gave is d k b page version slot e flight of_batch =
        elim (cases_eq d die) [
          | inl here ↦
              let now = same_Some _ k (sym (one_value_same die (Some (record work { gave = work.gave ++ gave ∷ [] })) w.works d here) ∙ e) in
              g.reads d work b page version slot (ap w.works here ∙ is) (ap (λ (u : Work). u.job.flight) now ∙ flight) of_batch
          | inr apart ↦
              g.reads d k b page version slot (sym (one_value_other die (Some (record work { gave = work.gave ++ gave ∷ [] })) w.works d apart) ∙ e)
              flight of_batch
        ]

    call_tells : (after : World) (die : ℕ) (work : Option Work) (gave : Gave) → w.works die ≡ work → HappensCall w die work gave after
        → Tells batch versions after
    call_tells after die None gave is c = absurd c
    call_tells after die (Some work) gave is c = next_tells (next_call die work.job work.gave) c
      where
        next_tells : (call : Option JobCall) → CallsNext w die (Some work) call gave after → Tells batch versions after
        next_tells None c = absurd c
        next_tells (Some call) c =
            subst (Tells batch versions) (sym c.2) (record { same = g.same; reads = called_now die work gave is; told = g.told })

    happens_tells : NumbersLaw → (happening : Happening) (after : World) → WritesNothing happening → Happens w happening after
        → Tells batch versions after
    happens_tells law (Event act) after none happens = event_tells law act after none happens
    happens_tells law (ImageCall die gave) after none happens = call_tells after die (w.works die) gave refl happens

  run_tells : NumbersLaw → (w : World) → Holds w → (happenings : List Happening) (last : World) → Tells batch versions w → Run w happenings last
      → AllByRecursion WritesNothing happenings → Tells batch versions last
  run_tells law w h [] last g run none = subst (Tells batch versions) (sym run) g
  run_tells law w h (happening ∷ happenings) last g run none =
      run_tells law run.0 (happens_holds w happening run.0 h run.1) happenings last (happens_tells w h g law happening run.0 none.0 run.1) run.2 none.1

fresh_tells : (w : World) → Holds w → (batch : ℕ) → is_fresh w.core batch ≡ true → Tells batch w.core.page_map.versions w
fresh_tells w h batch fresh =
    let none = unbegun w h batch fresh in record {
      same = refl;
      reads = λ die work b page version slot e flight of_batch. absurd (none.no_read die work b page version slot e flight of_batch);
      told = λ b page bytes version e f number. absurd (none.not_open b e);
    }

answered_told : (batch : ℕ) (versions : Versions) (last : World) → Tells batch versions last → (o : Option OpenBatch)
    → get last.core.batches batch ≡ o → (page : ℕ) (bytes : List ℕ) (version : Version)
    → Among (page, bytes) (answered (unwrap_or o (record { pages = []; answers = empty }))) → get versions page ≡ Some version
    → Among (record { page = page; seq = version.seq.0; bytes = bytes }) last.told
answered_told batch versions last g None is page bytes version i number = absurd i
answered_told batch versions last g (Some b) is page bytes version i number =
    let found = among-filter_map (λ page. option_map (λ bytes. (page, bytes)) (get b.answers page)) (page, bytes) b.pages i in
    let parts = paired found.0 (get b.answers found.0) (page, bytes) found.2 in
    g.told b page bytes version is (ap (get b.answers) (sym parts.0) ∙ parts.1) number

-- what a batch answers as it ends is told, with the numbers that its pages had at its admission and have still
pub answers_told : NumbersLaw → (w opened last after : World) (pages : List ℕ) (admitted : Admitted) (happenings : List Happening)
    (answer : List (ℕ × List ℕ)) (page : ℕ) (bytes : List ℕ) (version : Version) → IsReached w → HappensEvent w (Admit pages (Ok admitted)) opened
    → Run opened happenings last → AllByRecursion WritesNothing happenings → HappensEvent last (EndBatch admitted.batch.0 answer) after
    → Contains answer (page, bytes) → get w.core.page_map.versions page ≡ Some version
    → Contains after.told (record { page = page; seq = version.seq.0; bytes = bytes }) × (get after.core.page_map.versions page ≡ Some version)
answers_told law w opened last after pages admitted happenings answer page bytes version reached opens run none ends has number =
    let h = reached_holds w reached in
    let n = admitted.batch.0 in
    let g = run_tells n w.core.page_map.versions law w h (Event (Admit pages (Ok admitted)) ∷ happenings) last
    (fresh_tells w h n opens.step.does.1) (opened, opens, run) (tt, none) in
    let i = subst (Among (page, bytes)) ends.step.does.0 (among-contains (page, bytes) answer has.0 has.1 has.2) in
    let told = answered_told n w.core.page_map.versions last g (get last.core.batches n) refl page bytes version i number in (
      contains_it _ after.told (subst (Among _) (sym (ap (λ (v : World). v.told) ends.follows)) told),
      ap (λ (m : Versions). get m page) (law last.core after.core (EndBatch n answer) ends.step ∙ g.same) ∙ number,
    )
