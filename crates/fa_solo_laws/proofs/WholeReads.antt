-- A call that reads, from its beginning to its end, over an array that is at rest as it begins.
use Rattle.fa_mount_headers.specs.declared.judging.Standing.{Standing}
use Rattle.fa_image.specs.Image.{ImageAnswer, ImageCall}
use Rattle.fa_machine.specs.Looks.{wants_window}
use Rattle.fa_machine.specs.Placement.{is_thin}
use Rattle.fa_machine.specs.State.{Core, MapState}
use Rattle.fa_machine.specs.Step.{Act, Admit, Advance, CommitCopy, Done, EndBatch, Fold, ReserveCopy, SpareIn, Step, Take, Window}
use Rattle.fa_machine.specs.declared.refusals.CommitCopyRefused.TheVariants.{Pending}
use Rattle.fa_machine.specs.declared.refusals.SpareRefused.TheVariants.{NotSpare}
use Rattle.fa_shared_request.specs.Ops.{ended, stage_of, task_in}
use Rattle.fa_shared_steps.specs.Stages.{beginning}
use Rattle.fa_shared_steps.specs.Ranges.{first_page, past_page}
use Rattle.fa_shared_steps.specs.Tasks.{bytes_from, task_of}
use Rattle.fa_shared_request.specs.Waiting.{awaits_flush, waits, without_room}
use Rattle.fa_shared_steps.specs.declared.range.Range.{Range}
use Rattle.fa_shared_steps.specs.declared.request.Request.TheVariants.{Read as ReadRequest}
use Rattle.fa_shared_steps.specs.declared.request.Task.{Task}
use Rattle.fa_shared_steps.specs.declared.stage.Purpose.TheVariants.{Answer as ForAnswer}
use Rattle.fa_shared_steps.specs.declared.stage.Stage.{Stage}
use Rattle.fa_shared_steps.specs.declared.stage.Stage.TheVariants.{Asking, Ended, Listing, Reading, Reserving, Sorting}
use Rattle.fa_solo_laws.proofs.ClosedRounds.{IsQuiet, Keeps, keeps_same, no_step_waits, nothing_waits, quiet_fold, quiet_job, quiet_no_job}
use Rattle.fa_solo_laws.proofs.ClosedRounds.{quiet_still}
use Rattle.fa_solo_laws.proofs.DrivenDeeds.{reads_goes}
use Rattle.fa_solo_laws.specs.Driving.{IsForRead}
use Rattle.fa_solo_laws.proofs.Epochs.{From, epoch_rises, from_step}
use Rattle.fa_solo_laws.proofs.Stages.{ArePlannedInTime, At, IsBefore, IsBehind, before_still, behind_still, ends_early, ready_at, turn_at}
use Rattle.fa_solo_laws.proofs.Waiting.{IsRead, read_advance, read_fold, read_job_ends, read_no_job}
use Rattle.fa_solo_laws.specs.Rest.{pages_of}
use Rattle.fa_shared_lock.specs.Seats.{number_of}
use Rattle.fa_solo.specs.Calls.{Made, MakesRequest, MakesWhole, NoMemory}
use Rattle.fa_solo_job.specs.Deeds.{ForReads, ForStep, Goes, IsDue, IsForOrder, IsForRequests, IsMeanwhile, Makes, MakesJob, Runs, Stays}
use Rattle.fa_solo_job.specs.House.{House}
use Rattle.fa_solo_job.specs.Orders.{Commits, Copies, CopiesPage, Deals, Endless, IsOver, Looks, NoLook, OneMore, Orders, Reads, Rests, Settles, looks_in}
use Rattle.fa_solo_job.specs.Inner.{house_of}
use Rattle.fa_solo.specs.Turns.{Asking as AskingHouse, Asks, Begins, Readies, Refuses, Turns, Waits, asking_of}
use Rattle.fa_solo_job.specs.declared.inner.Inner.{Inner}
use Rattle.fa_types.specs.Store.{Answer, Gave, Refused}
use Rattle.fa_types.specs.declared.blocks.BlockFault.{BlockFault}
use Rattle.std.proofs.Common.{Bool, List, None, Some, [], ap, arith, false, refl, subst, sym, true, ℕ, ◌+◌, ◌==◌, ◌∙◌, ◌∷◌}
use Rattle.std.proofs.Common.{◌≡◌, ◌≤◌}
use Rattle.std.proofs.lemmas.Bool.{false≢true}
use Rattle.std.proofs.lemmas.Option.{none-some}
use Rattle.std.specs.Prelude.{Err, IsTrue, Ok, if◌then◌else◌, ◌++◌}

requests_order : (act : Act) → IsForRequests act → IsForOrder act
requests_order (Admit pages answer) may = absurd may
requests_order (EndBatch batch answers) may = absurd may
requests_order (ReserveCopy page seq payload answer) may = absurd may
requests_order act may = may

module _ {I : Type 0} (made : I → ImageCall → ImageAnswer → I → Type 0) (array : List ℕ) (dies : List Standing) (seat : ℕ) where
  job_up : (die : ℕ) (old new : House I) → MakesJob made array dies seat die old new → old.core.epoch ≤ new.core.epoch
  job_up die old new job =
      let one = epoch_rises old.core (Take die seat (Some job.job)) job.taken job.takes.does in
      let two = epoch_rises job.taken (Done die job.outcome) new.core job.ends.does in
      omega (arith, one, two)

  goes_up : (P : Act → Type 0) (old new : House I) → Goes made array dies seat P old new → old.core.epoch ≤ new.core.epoch
  goes_up P old new Stays = omega arith
  goes_up P old new (Makes middle here act before may due step images) =
      let one = goes_up P old middle before in
      let two = epoch_rises middle.core act new.core step.does in
      omega (arith, one, two)
  goes_up P old new (Runs middle here die before job) =
      let one = goes_up P old middle before in
      let two = job_up die middle new job in
      omega (arith, one, two)

  looks_up : (old : House I) (looks : ℕ) (new : House I) → Looks made array dies seat old looks new → old.core.epoch ≤ new.core.epoch
  looks_up old looks new NoLook = omega arith
  looks_up old looks new (OneMore fewer middle looked here before step images goes) =
      let one = looks_up old fewer middle before in
      let two = epoch_rises middle.core (CommitCopy (Err Pending)) looked.core step.does in
      let three = goes_up _ looked new goes in
      omega (arith, one, two, three)

  settles_up : (old new : House I) → Settles made array dies seat old new → old.core.epoch ≤ new.core.epoch
  settles_up old new (Commits looks middle here answer looked ends step images) =
      let one = looks_up old looks middle looked in
      let two = epoch_rises middle.core (CommitCopy answer) new.core step.does in
      omega (arith, one, two)
  settles_up old new (IsOver looks here looked none) = looks_up old looks new looked
  settles_up old new (Endless looks here looked many) = looks_up old looks new looked

  copies_up : (old new : House I) → CopiesPage made array dies seat old new → old.core.epoch ≤ new.core.epoch
  copies_up old new c =
      let one = epoch_rises old.core (Admit (c.page ∷ []) (Ok c.admitted)) c.asked.core c.asks.does in
      let two = goes_up _ c.asked c.waited c.waits in
      let three = epoch_rises c.waited.core (EndBatch c.admitted.batch.0 (c.others ++ (c.given, c.bytes) ∷ [])) c.ended.core c.ends.does in
      let four = epoch_rises c.ended.core (ReserveCopy c.page c.version.seq.0 c.bytes (Ok tt)) new.core c.reserves.does in
      omega (arith, one, two, three, four)

  module _ (m : MapState) (copies : ℕ) (no_window : (die : ℕ) → wants_window m die ≡ false)
      (no_thin : (page : ℕ) → is_thin copies m page ≡ false) where
    -- Something that holds where nothing is under way, and goes on to hold.
    pub record IsStable (Q : Core → Type 0) : Type 0 where
      pub quiet : (core : Core) → Q core → IsQuiet m copies core
      pub still : (old new : Core) → Q old → IsQuiet m copies new × Keeps old new → Q new

    unwanted : (core : Core) → core.page_map ≡ m → (die : ℕ) → wants_window core.page_map die ≡ true → ⊥
    unwanted core map die wants = false≢true (sym (no_window die) ∙ sym (ap (λ (k : MapState). wants_window k die) map) ∙ wants)

    module _ (Q : Core → Type 0) (stable : IsStable Q) where
      order_event : (old new : Core) (act : Act) → Q old → Step old act new → IsForOrder act → IsDue old act → new.epoch ≡ old.epoch → Q new
      order_event old new (Take die by None) q step may due same =
          stable.still old new q (quiet_no_job m copies old new die by (stable.quiet old q) step)
      order_event old new (Window die rounds answer) q step may due same = absurd (unwanted old (stable.quiet old q).map die due)
      order_event old new (Advance answer) q step may due same = elim due [
        | ForReads batch waits ↦ absurd (nothing_waits m copies old (stable.quiet old q) batch waits)
        | ForStep die live has some ↦ absurd (no_step_waits old (stable.quiet old q).calm die live has some)
      ]
      order_event old new Fold q step may due same = stable.still old new q (quiet_fold m copies old new (stable.quiet old q) step)
      order_event old new (SpareIn die (Ok done)) q step may due same =
          absurd (let up = ap (λ (c : Core). c.epoch) step.does.1 in omega (arith, up, same))
      order_event old new (SpareIn die (Err NotSpare)) q step may due same =
          stable.still old new q (quiet_still m copies old new (stable.quiet old q) step.does.1)
      order_event old new (Admit (page ∷ []) (Err refused)) q step may due same =
          let quiet = stable.quiet old q in
          absurd (false≢true (sym (no_thin page) ∙ sym (λ i. is_thin (quiet.copies_are i) (quiet.map i) page) ∙ due))
      order_event old new (ReserveCopy page seq payload (Err refused)) q step may due same =
          stable.still old new q (quiet_still m copies old new (stable.quiet old q) step.does.1)
      order_event old new act q step may due same = absurd may

      order_job : (epoch die : ℕ) (old new : House I) → From epoch Q old.core → MakesJob made array dies seat die old new
          → From epoch Q new.core
      order_job epoch die old new from job =
          let one = epoch_rises old.core (Take die seat (Some job.job)) job.taken job.takes.does in
          let two = epoch_rises job.taken (Done die job.outcome) new.core job.ends.does in
          let low = from.0 in (
            omega (arith, one, two, low),
            λ is.
                let q = from.1 (omega (arith, one, two, low, is)) in
                stable.still old.core new.core q
                (quiet_job m copies old.core job.taken new.core die seat job.job job.outcome (stable.quiet old.core q) job.takes job.ends
                (omega (arith, one, two, low, is))),
          )

      order_goes : (P : Act → Type 0) → ((act : Act) → P act → IsForOrder act) → (epoch : ℕ) (old new : House I) → From epoch Q old.core
          → Goes made array dies seat P old new → From epoch Q new.core
      order_goes P for epoch old new from Stays = from
      order_goes P for epoch old new from (Makes middle here act before may due step images) =
          from_step epoch Q Q middle.core new.core act (order_goes P for epoch old middle from before) step
          (λ q same. order_event middle.core new.core act q step (for act may) due same)
      order_goes P for epoch old new from (Runs middle here die before job) =
          order_job epoch die middle new (order_goes P for epoch old middle from before) job

      pub order_from : (epoch : ℕ) (old new : House I) → From epoch Q old.core → Orders made array dies seat old new → From epoch Q new.core
      order_from epoch old new from Rests = from
      order_from epoch old new from (Deals middle here before goes) =
          order_goes IsForOrder (λ act may. may) epoch middle new (order_from epoch old middle from before) goes
      order_from epoch old new from (Reads middle here before reads) =
          let was = order_from epoch old middle from before in
          let one = goes_up IsForRead middle new (reads_goes made array dies seat middle new reads) in
          let low = was.0 in (
            omega (arith, one, low),
            λ is.
                let quiet = stable.quiet middle.core (was.1 (omega (arith, one, low, is))) in
                absurd (false≢true (sym (no_thin reads.page)
                ∙ sym (λ i. is_thin (quiet.copies_are i) (quiet.map i) reads.page) ∙ reads.due)),
          )
      order_from epoch old new from (Copies middle copied here before copies_page settles) =
          let was = order_from epoch old middle from before in
          let one = copies_up middle copied copies_page in
          let two = settles_up copied new settles in
          let low = was.0 in (
            omega (arith, one, two, low),
            λ is.
                let quiet = stable.quiet middle.core (was.1 (omega (arith, one, two, low, is))) in
                absurd (false≢true (sym (no_thin copies_page.page)
                ∙ sym (λ i. is_thin (quiet.copies_are i) (quiet.map i) copies_page.page) ∙ copies_page.due)),
          )

      -- no copy is made, where the epoch stays
      pub unlooked : (epoch : ℕ) (old new : House I) → From epoch Q old.core → (orders : Orders made array dies seat old new) → new.core.epoch ≡ epoch
          → looks_in made array dies seat old new orders ≡ 0
      unlooked epoch old new from Rests same = refl
      unlooked epoch old new from (Deals middle here before goes) same =
          let was = order_from epoch old middle from before in
          let low = was.0 in
          let one = goes_up IsForOrder middle new goes in
          unlooked epoch old middle from before (omega (arith, low, one, same))
      unlooked epoch old new from (Reads middle here before reads) same =
          let was = order_from epoch old middle from before in
          let low = was.0 in
          let one = goes_up IsForRead middle new (reads_goes made array dies seat middle new reads) in
          unlooked epoch old middle from before (omega (arith, low, one, same))
      unlooked epoch old new from (Copies middle copied here before copies_page settles) same =
          let was = order_from epoch old middle from before in
          let low = was.0 in
          let one = copies_up middle copied copies_page in
          let two = settles_up copied new settles in
          let quiet = stable.quiet middle.core (was.1 (omega (arith, one, two, low, same))) in
          absurd (false≢true (sym (no_thin copies_page.page)
          ∙ sym (λ i. is_thin (quiet.copies_are i) (quiet.map i) copies_page.page) ∙ copies_page.due))

    module _ (batch : ℕ) (in_time : ℕ → Type 0) where
      read_event : (old new : Core) (act : Act) → IsRead m copies batch in_time old → Step old act new → IsForRequests act → IsDue old act
          → new.epoch ≡ old.epoch → IsRead m copies batch in_time new
      read_event old new (Take die by None) read step may due same = read_no_job m copies batch in_time old read new die by step
      read_event old new (Window die rounds answer) read step may due same = absurd (unwanted old read.map die due)
      read_event old new (Advance answer) read step may due same = elim due [
        | ForReads b waits ↦ read_advance m copies batch in_time old read new answer step b waits
        | ForStep die live has some ↦ absurd (no_step_waits old read.calm die live has some)
      ]
      read_event old new Fold read step may due same = read_fold m copies batch in_time old read new step
      read_event old new (SpareIn die (Ok done)) read step may due same =
          absurd (let up = ap (λ (c : Core). c.epoch) step.does.1 in omega (arith, up, same))
      read_event old new (SpareIn die (Err NotSpare)) read step may due same = subst (IsRead m copies batch in_time) (sym step.does.1) read
      read_event old new act read step may due same = absurd may

      read_goes : (epoch : ℕ) (old new : House I) → From epoch (IsRead m copies batch in_time) old.core
          → Goes made array dies seat IsForRequests old new → From epoch (IsRead m copies batch in_time) new.core
      read_goes epoch old new from Stays = from
      read_goes epoch old new from (Makes middle here act before may due step images) =
          from_step epoch (IsRead m copies batch in_time) (IsRead m copies batch in_time) middle.core new.core act
          (read_goes epoch old middle from before) step
          (λ read same. read_event middle.core new.core act read step may due same)
      read_goes epoch old new from (Runs middle here die before job) =
          let was = read_goes epoch old middle from before in
          let one = epoch_rises middle.core (Take die seat (Some job.job)) job.taken job.takes.does in
          let two = epoch_rises job.taken (Done die job.outcome) new.core job.ends.does in
          let low = was.0 in (
            omega (arith, one, two, low),
            λ is. read_job_ends m copies batch in_time middle.core
                (was.1 (omega (arith, one, two, low, is))) job.taken new.core die seat job.job job.outcome
                job.takes job.ends (omega (arith, one, two, low, is)),
          )

  module _ (A : Type 0) (m : MapState) (copies : ℕ) (no_window : (die : ℕ) → wants_window m die ≡ false)
      (no_thin : (page : ℕ) → is_thin copies m page ≡ false) (first : Core) (in_time : ℕ → Type 0) (r : Range)
      (now : in_time first.calendar.round) (planned : ArePlannedInTime m copies first in_time (pages_of r))
      (short : past_page r ≤ first_page r + 1024) where
    -- what is known at a stage
    abbrev AtStage : Stage A → Core → Type 0
    AtStage stage core = At m copies in_time first A r core stage

    -- what is done while a request waits
    passes : (epoch : ℕ) (stage : Stage A) (old new : House I) → IsTrue (waits stage) → Goes made array dies seat
        (IsMeanwhile (awaits_flush stage)) old new
        → From epoch (AtStage stage) old.core → From epoch (AtStage stage) new.core
    passes epoch (Listing purpose) old new waiting goes from = absurd (false≢true waiting)
    passes epoch (Sorting purpose given) old new waiting goes from = absurd (false≢true waiting)
    passes epoch (Ended fault) old new waiting goes from = absurd (false≢true waiting)
    passes epoch (Asking (ForAnswer page) pages) old new waiting goes from =
        order_goes m copies no_window no_thin (AtStage (Asking (ForAnswer page) pages)) (record {
          quiet = λ core at. at.0.quiet;
          still = λ before after at kept. (before_still m copies first before after at.0 kept, at.1, at.2);
        }) IsForRequests requests_order epoch old new from goes
    passes epoch (Reading (ForAnswer page) batch) old new waiting goes from =
        let went = read_goes m copies no_window no_thin batch.0 in_time epoch old new (from.0, λ is. (from.1 is).0.read) goes in
        let rise = goes_up IsForRequests old new goes in
        let low = from.0 in (
          went.0,
          λ is. (record { read = went.1 is }, (from.1 (omega (arith, rise, low, is))).1),
        )
    passes epoch stage old new waiting goes from =
        let rise = goes_up (IsMeanwhile (awaits_flush stage)) old new goes in
        let low = from.0 in
        (omega (arith, rise, low), λ is. absurd (from.1 (omega (arith, rise, low, is))))

    gives_up : (core : Core) (fault : BlockFault) (stage : Stage A) → AtStage stage core → AtStage (without_room fault stage) core
    gives_up core fault (Reserving held wish) at = absurd at
    gives_up core fault stage at = at

    module _ (task : Task) (is : task.range ≡ r) (bytes : List ℕ) where
      pub asks_at : {L : Type 0} (epoch : ℕ) (old : AskingHouse L I A) (n : ℕ) (new : AskingHouse L I A)
          → Asks made array dies seat task bytes old n new
          → From epoch (AtStage old.stage) old.house.core → From epoch (AtStage new.stage) new.house.core
      asks_at epoch old n new Begins from = from
      asks_at epoch old n new (Turns turns middle here before turn) from =
          turn_at m copies in_time first A r now planned short epoch task middle.seat new.seat middle.house.core middle.stage
          new.house.core new.stage (asks_at epoch old turns middle before from) turn.turned
      asks_at epoch old n new (Readies turns middle here before ready) from =
          let was = asks_at epoch old turns middle before from in
          subst (λ (h : House I). From epoch (AtStage new.stage) h.core) (sym ready.same_house) (
            was.0,
            λ same. ready_at m copies in_time first A r now planned short task is bytes middle.house.core middle.stage
                middle.answer new.stage new.answer (was.1 same) ready.prepares,
          )
      asks_at epoch old n new (Waits turns middle here before time) from =
          subst (λ (s : Stage A). From epoch (AtStage s) new.house.core) (sym time.stage)
          (passes epoch middle.stage middle.house new.house time.in_time time.goes (asks_at epoch old turns middle before from))
      asks_at epoch old n new (Refuses turns middle here before refusal) from =
          let was = asks_at epoch old turns middle before from in
          subst (λ (s : Stage A). From epoch (AtStage s) new.house.core) (sym refusal.stage)
          (subst (λ (h : House I). From epoch (AtStage (without_room refusal.fault middle.stage)) h.core) (sym refusal.same_house)
          (was.0, λ same. gives_up middle.house.core refusal.fault middle.stage (was.1 same)))

ended_behind : (A : Type 0) (m : MapState) (copies : ℕ) (in_time : ℕ → Type 0) (first : Core) (r : Range) (core : Core) (stage : Stage A)
    → ended stage ≡ Some None → At m copies in_time first A r core stage → IsBehind m copies in_time core
ended_behind A m copies in_time first r core (Ended fault) e at = at
ended_behind A m copies in_time first r core stage e at = absurd (none-some None e)

abbrev is_refused : Answer → Bool
is_refused (Refused fault) = true
is_refused answer = false

module _ {L M I A : Type 0} (made : I → ImageCall → ImageAnswer → I → Type 0) (old new : Inner L M I A) (offset len : ℕ)
    (given : List ℕ) where
  abbrev first : Core
  first = old.locked.core

  abbrev m : MapState
  m = first.page_map

  abbrev range : Range
  range = bytes_from m.geometry.page_bytes offset len

  abbrev task : Task
  task = task_of m.geometry.page_bytes (ReadRequest offset len)

  module _ (quiet : IsQuiet m first.copies first) (no_window : (die : ℕ) → wants_window m die ≡ false)
      (no_thin : (page : ℕ) → is_thin first.copies m page ≡ false) (in_time : ℕ → Type 0) (now : in_time first.calendar.round)
      (planned : ArePlannedInTime m first.copies first in_time (pages_of range)) (short : past_page range ≤ first_page range + 1024) where
    begins_at : (core : Core) → IsBefore m first.copies first core → At m first.copies in_time first A range core (beginning task)
    begins_at core before = by_range (range.from == range.to)
      where
        by_range : (b : Bool) → At m first.copies in_time first A range core
            (if b then Ended None else Listing (ForAnswer (first_page range)))
        by_range true = ends_early m first.copies in_time first A range now planned short core before
        by_range false = (before, refl)

    request_at : (epoch : ℕ) (begun done : Inner L M I A) → From epoch (IsBefore m first.copies first) begun.locked.core
        → MakesRequest made task [] (Gave given) begun done → From epoch (IsBehind m first.copies in_time) done.locked.core
    request_at epoch begun done from (NoMemory is some same) = absurd (false≢true (ap is_refused is))
    request_at epoch begun done from (Made op next its_task stage none runs end) =
        let start : From epoch (λ core. At m first.copies in_time first A range core (stage_of op)) begun.locked.core = (
          from.0,
          λ same. subst (At m first.copies in_time first A range begun.locked.core) (sym stage) (begins_at begun.locked.core (from.1 same)),
        ) in
        let last = asks_at made begun.locked.number begun.dies.items
        (number_of begun.seat) A m first.copies no_window no_thin first in_time range now
        planned short (task_in op) (ap (λ (t : Task). t.range) its_task) [] epoch (asking_of begun op) runs.turns (asking_of done next)
        runs.asks start in
        (last.0, λ same. ended_behind A m first.copies in_time first range done.locked.core (stage_of next) end.0 (last.1 same))

    begun_at : (whole : MakesWhole made task [] (Gave given) old new) → From first.epoch (IsBefore m first.copies first) whole.begun.locked.core
    begun_at whole =
        order_goes made old.locked.number old.dies.items (number_of old.seat) m first.copies no_window no_thin (IsBefore m first.copies first)
        (record { quiet = λ core before. before.quiet; still = before_still m first.copies first })
        IsForRequests requests_order first.epoch (house_of old) (house_of whole.begun)
        (omega arith, λ is. record { quiet = quiet; keeps = keeps_same first }) whole.before.goes

    done_at : (whole : MakesWhole made task [] (Gave given) old new) → From first.epoch (IsBehind m first.copies in_time) whole.done.locked.core
    done_at whole = request_at first.epoch whole.begun whole.done (begun_at whole) whole.request

    pub whole_behind : MakesWhole made task [] (Gave given) old new → new.locked.core.epoch ≡ first.epoch
        → IsBehind m first.copies in_time new.locked.core
    whole_behind whole same =
        (order_from made whole.done.locked.number whole.done.dies.items (number_of whole.done.seat) m first.copies no_window no_thin
        (IsBehind m first.copies in_time)
        (record { quiet = λ core behind. behind.quiet; still = behind_still m first.copies in_time })
        first.epoch (house_of whole.done) (house_of new) (done_at whole) whole.behind.orders).1 same

    -- no copy of a page is made behind it
    pub whole_unlooked : (whole : MakesWhole made task [] (Gave given) old new) → new.locked.core.epoch ≡ first.epoch
        → looks_in made whole.done.locked.number whole.done.dies.items (number_of whole.done.seat) (house_of whole.done) (house_of new) whole.behind.orders
        ≡ 0
    whole_unlooked whole same =
        unlooked made whole.done.locked.number whole.done.dies.items (number_of whole.done.seat) m first.copies no_window no_thin
        (IsBehind m first.copies in_time)
        (record { quiet = λ core behind. behind.quiet; still = behind_still m first.copies in_time })
        first.epoch (house_of whole.done) (house_of new) (done_at whole) whole.behind.orders same
