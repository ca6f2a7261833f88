-- A request of the store of one thread is one that nobody else writes beside, over a world.
use Rattle.fa_solo_laws.specs.Unwritten.{EndsNoBatch, WritesNothing}
use Rattle.fa_solo_laws.proofs.OneTurn.{turn_asked}
use Rattle.fa_solo_laws.proofs.RestKept.{BeginsNoCopy, event_keeps}
use Rattle.fa_solo_laws.specs.Asked.{Asked, BringsNoSpare, GivesUp, IsAnothers, IsInTime, IsNoSpare, LeavesClaim, Meanwhile, Moment, OfOne, Readies, Turn}
use Rattle.fa_solo_laws.specs.Asked.{batch_at, claim_at}
use Rattle.fa_solo_laws.proofs.DrivenDeeds.{dies_plain, goes_shape, requests_plain}
use Rattle.fa_solo_laws.proofs.Led.{Stands, deeds_led, fair_before, images_kept}
use Rattle.fa_solo_laws.specs.Driving.{IsDeedOf, IsOfJob, IsPlain, image_on}
use Rattle.fa_mount_headers.specs.declared.judging.Standing.{Standing}
use Rattle.fa_image.specs.Image.{ImageAnswer, ImageCall, ImageMeets, ImageState, IsImage}
use Rattle.fa_laws.proofs.Ranged.{calls_core}
use Rattle.fa_laws.proofs.Within.{GeometryLaw}
use Rattle.fa_machine.specs.Run.{Event, Happening, ImageCall as CallsImage, Run}
use Rattle.fa_machine.specs.State.{Core}
use Rattle.fa_machine.specs.Step.{Act, Advance, Done, Fold, ReserveCopy, SpareIn, Take, Window}
use Rattle.fa_machine.specs.World.{Gave, Work, World}
use Rattle.fa_mount.specs.Standings.{AreApart}
use Rattle.fa_shared_lock.specs.Moves.{Folded, Moved, Moves, Rested, Strayed, Turned}
use Rattle.fa_shared_request.specs.Waiting.{HasNoWindow, awaits_flush, waits}
use Rattle.fa_shared_steps.specs.declared.request.Task.{Task}
use Rattle.fa_shared_steps.specs.declared.stage.Stage.{Stage}
use Rattle.fa_shared_steps.specs.declared.stage.Stage.TheVariants.{Flushing, Reserving}
use Rattle.fa_shared_steps.specs.declared.stage.Wish.TheVariants.{Data, Fewer, Hole}
use Rattle.fa_mount_close_laws.specs.Drives.{AreHonest, AreImages, events_of}
use Rattle.fa_shared_lock.specs.Seats.{number_of}
use Rattle.fa_shared_lock.specs.declared.seat.Seat.{Seat}
use Rattle.fa_solo_job.specs.Deeds.{IsForRequests, IsMeanwhile}
use Rattle.fa_solo_job.specs.House.{House}
use Rattle.fa_solo.specs.Turns.{Asking, Asks, Begins, GivesUp as IsGivenUp, MakesReady, MakesTurn, PassesTime, Readies as ReadiesIt, Refuses, Turns, Waits}
use Rattle.std.proofs.Common.{Bool, IsTrue, List, None, Ok, Option, Some, [], ap, false, inl, inr, map, refl, subst, sym, true, ℕ, ◌++◌, ◌∙◌, ◌∷◌, ◌≡◌}
use Rattle.std.specs.List.{AllByRecursion}

-- What is made meanwhile is none of the request's.
pub meanwhile_plain : (flush : Bool) (act : Act) → IsMeanwhile flush act → IsPlain act
meanwhile_plain true act may = dies_plain act may
meanwhile_plain false act may = requests_plain act may

abbrev IsQuiet : Bool → Act → Type 0
IsQuiet flush act = IsDeedOf (IsMeanwhile flush) act

requests_of : (flush : Bool) (act : Act) → IsMeanwhile flush act → IsForRequests act
requests_of true (Take die seat None) may = may
requests_of true (Window die rounds answer) may = may
requests_of true (Advance answer) may = may
requests_of true Fold may = may
requests_of true act may = absurd may
requests_of false act may = may

module _ (flush : Bool) where
  writes_none : (act : Act) → IsQuiet flush act → WritesNothing (Event act)
  writes_none act (inl may) = by act (requests_of flush act may)
    where
      by : (act : Act) → IsForRequests act → WritesNothing (Event act)
      by (Take die seat None) may = tt
      by (Window die rounds answer) may = tt
      by (Advance answer) may = tt
      by (SpareIn die answer) may = tt
      by Fold may = tt
      by act may = absurd may
  writes_none act (inr job) = by act job
    where
      by : (act : Act) → IsOfJob act → WritesNothing (Event act)
      by (Take die seat (Some handed)) job = tt
      by (Done die outcome) job = tt
      by act job = absurd job

  leaves_batch : (o : Option ℕ) (act : Act) → IsQuiet flush act → OfOne EndsNoBatch o (Event act)
  leaves_batch None act quiet = tt
  leaves_batch (Some batch) act (inl may) = by act (requests_of flush act may)
    where
      by : (act : Act) → IsForRequests act → EndsNoBatch batch (Event act)
      by (Take die seat None) may = tt
      by (Window die rounds answer) may = tt
      by (Advance answer) may = tt
      by (SpareIn die answer) may = tt
      by Fold may = tt
      by act may = absurd may
  leaves_batch (Some batch) act (inr job) = by act job
    where
      by : (act : Act) → IsOfJob act → EndsNoBatch batch (Event act)
      by (Take die seat (Some handed)) job = tt
      by (Done die outcome) job = tt
      by act job = absurd job

  leaves_claim : (o : Option ℕ) (act : Act) → IsQuiet flush act → OfOne LeavesClaim o (Event act)
  leaves_claim None act quiet = tt
  leaves_claim (Some claim) act (inl may) = by act (requests_of flush act may)
    where
      by : (act : Act) → IsForRequests act → LeavesClaim claim (Event act)
      by (Take die seat None) may = tt
      by (Window die rounds answer) may = tt
      by (Advance answer) may = tt
      by (SpareIn die answer) may = tt
      by Fold may = tt
      by act may = absurd may
  leaves_claim (Some claim) act (inr job) = by act job
    where
      by : (act : Act) → IsOfJob act → LeavesClaim claim (Event act)
      by (Take die seat (Some handed)) job = tt
      by (Done die outcome) job = tt
      by act job = absurd job

  in_time : {A : Type 0} (stage : Stage A) (act : Act) → IsTrue (waits stage) → IsInTime stage (Event act)
  in_time stage Fold is = tt
  in_time stage act is = is

no_spare : (act : Act) → IsQuiet true act → IsNoSpare (Event act)
no_spare (SpareIn die (Ok done)) (inl may) = may
no_spare (SpareIn die (Ok done)) (inr job) = job
no_spare act quiet = tt

brings_none : {A : Type 0} (stage : Stage A) (act : Act) → IsQuiet (awaits_flush stage) act → BringsNoSpare stage (Event act)
brings_none (Flushing flush) act quiet = no_spare act quiet
brings_none stage act quiet = tt

calls_none : {A : Type 0} (stage : Stage A) (die : ℕ) (gave : Gave) → BringsNoSpare stage (CallsImage die gave)
calls_none (Flushing flush) die gave = tt
calls_none stage die gave = tt

leaves_both : (o : Option ℕ) (die : ℕ) (gave : Gave) → OfOne EndsNoBatch o (CallsImage die gave) × OfOne LeavesClaim o (CallsImage die gave)
leaves_both None die gave = (tt, tt)
leaves_both (Some n) die gave = (tt, tt)

module _ {A : Type 0} (stage : Stage A) (is : IsTrue (waits stage)) where
  anothers : (happening : Happening) (rest : List Act)
      → AllByRecursion (IsQuiet (awaits_flush stage)) (events_of (happening ∷ []) ++ rest) → IsAnothers stage happening
  anothers (Event act) rest all = record {
    writes_nothing = writes_none (awaits_flush stage) act all.0;
    batch = leaves_batch (awaits_flush stage) (batch_at stage) act all.0;
    claim = leaves_claim (awaits_flush stage) (claim_at stage) act all.0;
    in_time = in_time (awaits_flush stage) stage act is;
    no_spare = brings_none stage act all.0;
  }
  anothers (CallsImage die gave) rest all = record {
    writes_nothing = tt;
    batch = (leaves_both (batch_at stage) die gave).0;
    claim = (leaves_both (claim_at stage) die gave).1;
    in_time = is;
    no_spare = calls_none stage die gave;
  }

  -- a run of these is what happens meanwhile
  run_asked : (t : Task) (seat : ℕ) (bytes answer : List ℕ) (w : World) (happenings : List Happening) (v : World) → Run w happenings v
      → AllByRecursion (IsQuiet (awaits_flush stage)) (events_of happenings)
      → Asked t seat bytes (record { world = w; stage = stage; answer = answer }) (map Meanwhile happenings)
      (record { world = v; stage = stage; answer = answer })
  run_asked t seat bytes answer w [] v run all = ap (λ (x : World). record { world = x; stage = stage; answer = answer }) run
  run_asked t seat bytes answer w (Event act ∷ happenings) v run all = (
    record { world = run.0; stage = stage; answer = answer },
    (run.1, anothers (Event act) (events_of happenings) all, refl, refl),
    run_asked t seat bytes answer run.0 happenings v run.2 all.1,
  )
  run_asked t seat bytes answer w (CallsImage die gave ∷ happenings) v run all = (
    record { world = run.0; stage = stage; answer = answer },
    (run.1, anothers (CallsImage die gave) (events_of happenings) all, refl, refl),
    run_asked t seat bytes answer run.0 happenings v run.2 all,
  )

-- turns one after the other
asked_both : {A : Type 0} (t : Task) (seat : ℕ) (bytes : List ℕ) (one two three : Moment A) (xs ys : List Turn) → Asked t seat bytes one xs two
    → Asked t seat bytes two ys three → Asked t seat bytes one (xs ++ ys) three
asked_both {A} t seat bytes one two three [] ys same more = subst (λ (m : Moment A). Asked t seat bytes m ys three) same more
asked_both t seat bytes one two three (x ∷ xs) ys asked more =
    (asked.0, asked.1, asked_both t seat bytes asked.0 two three xs ys asked.2 more)

-- No event of a request begins a copy of a page.
no_move : {A : Type 0} (t : Task) (seat : ℕ) (stage next : Stage A) (page seq : ℕ) (payload : List ℕ) (done : Unit {0})
    → Moves t seat stage (ReserveCopy page seq payload (Ok done)) next → ⊥
no_move t seat (Reserving held (Data bytes)) next page seq payload done moves = moves
no_move t seat (Reserving held (Fewer bytes)) next page seq payload done moves = moves
no_move t seat (Reserving held Hole) next page seq payload done moves = moves
no_move t seat stage next page seq payload done moves = moves

moves_free : {A : Type 0} (t : Task) (seat : ℕ) (stage : Stage A) (act : Act) (next : Stage A) → Moves t seat stage act next → BeginsNoCopy act
moves_free t seat stage (ReserveCopy page seq payload (Ok done)) next moves = no_move t seat stage next page seq payload done moves
moves_free t seat stage act next moves = tt

turn_free : {L A : Type 0} (t : Task) (before after : Seat L) (old : Core) (stage : Stage A) (new : Core) (next : Stage A)
    → Turned t before after old stage new next → old.copying ≡ None → new.copying ≡ None
turn_free t before after old stage new next (Rested same commits here) free = ap (λ (c : Core). c.copying) same ∙ free
turn_free t before after old stage new next (Moved act step commits moves founded) free =
    (event_keeps old act new step.does).1 (moves_free t (number_of before) stage act next moves) free
turn_free t before after old stage new next (Folded between act full fold step commits moves founded) free =
    (event_keeps between act new step.does).1 (moves_free t (number_of before) stage act next moves)
    ((event_keeps old Fold between fold.does).1 tt free)
turn_free t before after old stage new next (Strayed same commits strays barred) free = ap (λ (c : Core). c.copying) same ∙ free

-- nor does what is done meanwhile
pub requests_free : (act : Act) → IsForRequests act → BeginsNoCopy act
requests_free (ReserveCopy page seq payload (Ok done)) may = absurd may
requests_free act may = tt

job_free : (act : Act) → IsOfJob act → BeginsNoCopy act
job_free (ReserveCopy page seq payload (Ok done)) job = absurd job
job_free act job = tt

pub run_free : (P : Act → Type 0) → ((act : Act) → P act → BeginsNoCopy act) → (w : World) (happenings : List Happening) (v : World)
    → Run w happenings v → AllByRecursion (IsDeedOf P) (events_of happenings) → w.core.copying ≡ None → v.core.copying ≡ None
run_free P begins w [] v run all free = ap (λ (x : World). x.core.copying) run ∙ free
run_free P begins w (Event act ∷ happenings) v run all free =
    run_free P begins run.0 happenings v run.2 all.1
    ((event_keeps w.core act run.0.core run.1.step.does).1 (elim (all.0) [ inl may ↦ begins act may | inr job ↦ job_free act job ]) free)
run_free P begins w (CallsImage die gave ∷ happenings) v run all free =
    run_free P begins run.0 happenings v run.2 all
    (ap (λ (c : Core). c.copying) (calls_core w run.0 die (w.works die) gave run.1) ∙ free)

turn_shape : {L A : Type 0} → GeometryLaw → (t : Task) (before after : Seat L) (old : Core) (stage : Stage A) (new : Core) (next : Stage A)
    → Turned t before after old stage new next → new.page_map.geometry ≡ old.page_map.geometry
turn_shape law t before after old stage new next (Rested same commits here) = ap (λ (c : Core). c.page_map.geometry) same
turn_shape law t before after old stage new next (Moved act step commits moves founded) = law old new act step
turn_shape law t before after old stage new next (Folded between act full fold step commits moves founded) =
    law between new act step ∙ law old between Fold fold
turn_shape law t before after old stage new next (Strayed same commits strays barred) = ap (λ (c : Core). c.page_map.geometry) same

module _ {L I A : Type 0} (view : I → ImageState) (honest : I → Bool) (made : I → ImageCall → ImageAnswer → I → Type 0)
    (whole : (image : I) → IsImage (view image))
    (meets : (before after : I) (call : ImageCall) (answer : ImageAnswer) → made before call answer after
    → ImageMeets (view before) (honest before) call answer (view after) (honest after)) (array : List ℕ) (dies : List Standing) (seat : ℕ)
    (law : GeometryLaw) (apart : AreApart dies) (task : Task) (bytes : List ℕ) where
  abbrev pub at : World → Asking L I A → Moment A
  at w x = record { world = w; stage = x.stage; answer = x.answer }

  -- a request that went on so
  pub record Went (a : Asking L I A) (w : World) (b : Asking L I A) : Type 0 where
    pub last : World
    pub turns : List Turn
    pub asked : Asked task seat bytes (at w a) turns (at last b)
    pub stands : Stands view dies b.house last
    pub number : number_of b.seat ≡ seat
    pub free : w.core.copying ≡ None → last.core.copying ≡ None
    pub shape : last.core.page_map.geometry ≡ w.core.page_map.geometry

  went_on : (a middle b : Asking L I A) (w : World) (one : Went a w middle) → Went middle one.last b → Went a w b
  went_on a middle b w one two = record {
    last = two.last;
    turns = one.turns ++ two.turns;
    asked = asked_both task seat bytes (at w a) (at one.last middle) (at two.last b) one.turns two.turns one.asked two.asked;
    stands = two.stands;
    number = two.number;
    free = λ free. two.free (one.free free);
    shape = two.shape ∙ one.shape;
  }

  turn_went : (a b : Asking L I A) (w : World) → Stands view dies a.house w → number_of a.seat ≡ seat → MakesTurn made array dies seat task bytes a b
      → Went a w b
  turn_went a b w stands number turn =
      let was : Turned task a.seat b.seat w.core a.stage b.house.core b.stage =
      subst (λ (c : Core). Turned task a.seat b.seat c a.stage b.house.core b.stage) (sym stands.core) turn.turned in
      let one = turn_asked L A task bytes a.answer a.seat b.seat w b.house.core a.stage b.stage was in
      let v : World = one.0 in
      let shape : v.core.page_map.geometry ≡ w.core.page_map.geometry =
      ap (λ (c : Core). c.page_map.geometry) one.2 ∙ turn_shape law task a.seat b.seat w.core a.stage b.house.core b.stage was in
      record {
        last = v;
        turns = one.1;
        asked = subst (λ n. Asked task n bytes (at w a) one.1 (at v b)) number
            (subst (λ (l : List ℕ). Asked task (number_of a.seat) bytes (at w a) one.1 (record { world = v; stage = b.stage; answer = l }))
            (sym turn.answer) one.5);
        stands = record {
          core = one.2;
          images = subst (λ (l : List I). AreImages view v (image_on dies l)) (sym turn.images)
              (images_kept view w v (image_on dies a.house.images) one.3 shape stands.images);
          idle = λ die. ap (λ (f : ℕ → Option Work). f die) one.4 ∙ stands.idle die;
        };
        number = turn.number ∙ number;
        free = λ free. ap (λ (c : Core). c.copying) one.2 ∙ turn_free task a.seat b.seat w.core a.stage b.house.core b.stage was free;
        shape = shape;
      }

  ready_went : (a b : Asking L I A) (w : World) → Stands view dies a.house w → number_of a.seat ≡ seat → MakesReady made array dies seat task bytes a b
      → Went a w b
  ready_went a b w stands number ready = record {
    last = w;
    turns = Readies ∷ [];
    asked = (at w b, (refl, ready.prepares), refl);
    stands = subst (λ (h : House I). Stands view dies h w) (sym ready.same_house) stands;
    number = ap (λ (s : Seat L). number_of s) ready.same_seat ∙ number;
    free = λ free. free;
    shape = refl;
  }

  given_up_went : (a b : Asking L I A) (w : World) → Stands view dies a.house w → number_of a.seat ≡ seat → IsGivenUp made array dies seat task bytes a b
      → Went a w b
  given_up_went a b w stands number up = record {
    last = w;
    turns = GivesUp up.fault ∷ [];
    asked = (
      at w b,
      (refl, subst (λ (c : Core). HasNoWindow c up.fault) (sym stands.core) up.cause, up.stage, up.answer),
      refl,
    );
    stands = subst (λ (h : House I). Stands view dies h w) (sym up.same_house) stands;
    number = ap (λ (s : Seat L). number_of s) up.same_seat ∙ number;
    free = λ free. free;
    shape = refl;
  }

  time_went : (a b : Asking L I A) (w : World) → Stands view dies a.house w → number_of a.seat ≡ seat → PassesTime made array dies seat task bytes a b
      → AreHonest honest (image_on dies b.house.images) → Went a w b
  time_went a b w stands number time fair =
      let flush = awaits_flush a.stage in
      let one = deeds_led view honest made whole meets array dies seat law apart (IsMeanwhile flush) (meanwhile_plain flush) a.house b.house
      time.goes fair w stands in
      let v : World = one.last in
      record {
        last = v;
        turns = map Meanwhile one.happenings;
        asked = subst
            (λ (l : List ℕ). Asked task seat bytes (at w a) (map Meanwhile one.happenings) (record { world = v; stage = b.stage; answer = l }))
            (sym time.answer)
            (subst
            (λ (x : Stage A). Asked task seat bytes (at w a) (map Meanwhile one.happenings) (record { world = v; stage = x; answer = a.answer }))
            (sym time.stage)
            (run_asked a.stage time.in_time task seat bytes a.answer w one.happenings v one.run one.events));
        stands = one.stands;
        number = time.number ∙ number;
        free = run_free (IsMeanwhile flush) (λ act may. requests_free act (requests_of flush act may)) w one.happenings v one.run one.events;
        shape = ap (λ (c : Core). c.page_map.geometry) one.stands.core
            ∙ goes_shape made array dies seat (IsMeanwhile flush) law a.house b.house time.goes
            ∙ sym (ap (λ (c : Core). c.page_map.geometry) stands.core);
      }

  -- images that return what was written at the end did so before
  pub asks_fair : (a : Asking L I A) (n : ℕ) (b : Asking L I A) → Asks made array dies seat task bytes a n b
      → AreHonest honest (image_on dies b.house.images) → AreHonest honest (image_on dies a.house.images)
  asks_fair a n b Begins fair = fair
  asks_fair a n b (Turns turns middle new before turn) fair =
      asks_fair a turns middle before (subst (λ (l : List I). AreHonest honest (image_on dies l)) turn.images fair)
  asks_fair a n b (ReadiesIt turns middle new before ready) fair =
      asks_fair a turns middle before (subst (λ (h : House I). AreHonest honest (image_on dies h.images)) ready.same_house fair)
  asks_fair a n b (Waits turns middle new before time) fair =
      asks_fair a turns middle before
      (fair_before view honest made whole meets array dies seat law apart (IsMeanwhile (awaits_flush middle.stage))
      (meanwhile_plain (awaits_flush middle.stage)) middle.house b.house time.goes fair)
  asks_fair a n b (Refuses turns middle new before up) fair =
      asks_fair a turns middle before (subst (λ (h : House I). AreHonest honest (image_on dies h.images)) up.same_house fair)

  pub went : (a : Asking L I A) (n : ℕ) (b : Asking L I A) → Asks made array dies seat task bytes a n b → (w : World) → Stands view dies a.house w → number_of a.seat ≡ seat
      → AreHonest honest (image_on dies b.house.images) → Went a w b
  went a n b Begins w stands number fair = record { last = w; turns = []; asked = refl; stands = stands; number = number; free = λ free. free; shape = refl }
  went a n b (Turns turns middle new before turn) w stands number fair =
      let one = went a turns middle before w stands number (subst (λ (l : List I). AreHonest honest (image_on dies l)) turn.images fair) in
      went_on a middle b w one (turn_went middle b one.last one.stands one.number turn)
  went a n b (ReadiesIt turns middle new before ready) w stands number fair =
      let one = went a turns middle before w stands number
      (subst (λ (h : House I). AreHonest honest (image_on dies h.images)) ready.same_house fair) in
      went_on a middle b w one (ready_went middle b one.last one.stands one.number ready)
  went a n b (Waits turns middle new before time) w stands number fair =
      let one = went a turns middle before w stands number
      (fair_before view honest made whole meets array dies seat law apart (IsMeanwhile (awaits_flush middle.stage))
      (meanwhile_plain (awaits_flush middle.stage)) middle.house b.house time.goes fair) in
      went_on a middle b w one (time_went middle b one.last one.stands one.number time fair)
  went a n b (Refuses turns middle new before up) w stands number fair =
      let one = went a turns middle before w stands number
      (subst (λ (h : House I). AreHonest honest (image_on dies h.images)) up.same_house fair) in
      went_on a middle b w one (given_up_went middle b one.last one.stands one.number up)
