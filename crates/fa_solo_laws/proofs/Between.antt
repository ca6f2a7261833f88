-- Between two calls of the store nothing is open, or it was given up.
use Rattle.fa_image.specs.Image.{ImageAnswer, ImageCall}
use Rattle.fa_machine.specs.State.{Core}
use Rattle.fa_machine.specs.Step.{Act, Fold}
use Rattle.fa_machine.specs.Step.{ReserveCopy}
use Rattle.fa_machine.specs.declared.jobs.Flight.{Flight}
use Rattle.fa_mount_headers.specs.declared.judging.Standing.{Standing}
use Rattle.fa_shared_lock.specs.Seats.{number_of}
use Rattle.fa_shared_lock.specs.declared.seat.Seat.{Seat}
use Rattle.fa_shared_lock.specs.Moves.{Folded, Moved, Moves, Rested, Strayed, Turned}
use Rattle.fa_shared_request.specs.Ops.{OpView, ended, stage_of, task_in}
use Rattle.fa_shared_request.specs.Waiting.{awaits_flush}
use Rattle.fa_shared_steps.specs.declared.request.Task.{Task}
use Rattle.fa_shared_steps.specs.declared.stage.Stage.{Stage}
use Rattle.fa_shared_steps.specs.declared.stage.Stage.TheVariants.{Ended}
use Rattle.fa_shared_steps.specs.declared.stage.Stage.TheVariants.{Reserving}
use Rattle.fa_shared_steps.specs.declared.stage.Wish.TheVariants.{Data, Fewer, Hole}
use Rattle.fa_solo.specs.Turns.{Asking as AskingHouse, Asks, Begins, Readies, Refuses, Turns, Waits}
use Rattle.fa_solo_job.proofs.Chains.{for_order, requests_for_order}
use Rattle.fa_solo_job.specs.Deeds.{IsForRequests, IsMeanwhile}
use Rattle.fa_solo_job.specs.House.{House}
use Rattle.fa_solo.specs.Calls.{Ended as EndedSo, Endless, EndsBy, Made, MakesRequest, MakesWhole, NoMemory as NoMemoryFor, OfOtherLength}
use Rattle.fa_solo.specs.Calls.{WithoutMemory, WithoutRoom}
use Rattle.fa_solo.specs.Turns.{asking_of}
use Rattle.fa_solo_job.specs.Inner.{house_of}
use Rattle.fa_solo_job.specs.declared.inner.Inner.{Inner}
use Rattle.fa_machine.specs.Beginning.{mounted}
use Rattle.fa_solo_laws.proofs.Behind.{goes_free, order_free, orders_free}
use Rattle.fa_solo_laws.proofs.RestKept.{BeginsNoCopy, event_keeps}
use Rattle.fa_solo_laws.proofs.Served.{ended_at}
use Rattle.fa_solo_laws.specs.Rest.{IsIdle}
use Rattle.fa_solo_laws.specs.Standing.{IsGivenUp, IsRequestGivenUp}
use Rattle.fa_types.specs.Store.{Answer as StoreAnswer, Done as Accepted, Gave, Refused}
use Rattle.fa_types.specs.declared.blocks.BlockFault.{BlockFault}
use Rattle.fa_types.specs.declared.blocks.BlockFault.TheVariants.{Lost, NoMemory, NoRoom}
use Rattle.std.proofs.Common.{Bool, List, None, Option, Some, ap, false, inl, inr, refl, subst, sym, true, ℕ, ◌-◌, ◌^◌, ◌∙◌, ◌≡◌, ◌≤◌, ◌⊎◌}
use Rattle.std.proofs.lemmas.Bool.{false≢true}
use Rattle.std.proofs.lemmas.Option.{none-some}
use Rattle.std.specs.Cmp.{nat_cmp_total}
use Rattle.std.specs.FinMap.{FinMap, empty, get, get-empty, nat_cmp-IsAntisymmetric, same_map}
use Rattle.std.specs.Ordering.{nat_cmp}
use Rattle.std.specs.Prelude.{Ok, is_some}
use Rattle.fa_solo_laws.proofs.Holding.{Has, Holds, Only, asks_hold, beginning_has, goes_hold, holds_at, orders_hold, requests_leave}

-- no event of a request begins a copy
moves_begin_none : {A : Type 0} (t : Task) (seat : ℕ) (stage : Stage A) (act : Act) (next : Stage A) → Moves t seat stage act next → BeginsNoCopy act
moves_begin_none t seat stage (ReserveCopy page seq payload (Ok made)) next moves = by stage next moves
  where
    by : {A : Type 0} (stage next : Stage A) → Moves t seat stage (ReserveCopy page seq payload (Ok made)) next → ⊥
    by (Reserving held (Data bytes)) next moves = moves
    by (Reserving held (Fewer bytes)) next moves = moves
    by (Reserving held Hole) next moves = moves
    by stage next moves = moves
moves_begin_none t seat stage act next moves = tt

turn_free : {L A : Type 0} (t : Task) (before after : Seat L) (old : Core) (stage : Stage A) (new : Core) (next : Stage A)
    → Turned t before after old stage new next → old.copying ≡ None → new.copying ≡ None
turn_free t before after old stage new next (Rested same commits here) free = ap (λ (c : Core). c.copying) same ∙ free
turn_free t before after old stage new next (Moved act step commits moves founded) free =
    (event_keeps old act new step.does).1 (moves_begin_none t (number_of before) stage act next moves) free
turn_free t before after old stage new next (Folded between act full fold step commits moves founded) free =
    (event_keeps between act new step.does).1 (moves_begin_none t (number_of before) stage act next moves)
    ((event_keeps old Fold between fold.does).1 tt free)
turn_free t before after old stage new next (Strayed same commits strays barred) free = ap (λ (c : Core). c.copying) same ∙ free

meanwhile_free : (flush : Bool) (act : Act) → IsMeanwhile flush act → BeginsNoCopy act
meanwhile_free true act may = order_free act (for_order act may)
meanwhile_free false act may = order_free act (requests_for_order act may)

asks_free : {L I A : Type 0} (made : I → ImageCall → ImageAnswer → I → Type 0) (array : List ℕ) (dies : List Standing) (seat : ℕ) (task : Task)
    (bytes : List ℕ) (a : AskingHouse L I A) (n : ℕ) (b : AskingHouse L I A) → Asks made array dies seat task bytes a n b
    → a.house.core.copying ≡ None → b.house.core.copying ≡ None
asks_free made array dies seat task bytes a n b Begins free = free
asks_free made array dies seat task bytes a n b (Turns turns middle here before turn) free =
    turn_free task middle.seat b.seat middle.house.core middle.stage b.house.core b.stage turn.turned
    (asks_free made array dies seat task bytes a turns middle before free)
asks_free {I = I} made array dies seat task bytes a n b (Readies turns middle here before ready) free =
    ap (λ (k : House I). k.core.copying) ready.same_house ∙ asks_free made array dies seat task bytes a turns middle before free
asks_free made array dies seat task bytes a n b (Waits turns middle here before time) free =
    goes_free made array dies seat (IsMeanwhile (awaits_flush middle.stage)) (meanwhile_free (awaits_flush middle.stage)) middle.house b.house time.goes
    (asks_free made array dies seat task bytes a turns middle before free)
asks_free {I = I} made array dies seat task bytes a n b (Refuses turns middle here before up) free =
    ap (λ (k : House I). k.core.copying) up.same_house ∙ asks_free made array dies seat task bytes a turns middle before free

-- nothing is open, as a whole
module _ {X : Type 0} where
  nothing_in : (m : FinMap nat_cmp X) → Only None m → m ≡ empty
  nothing_in m none =
      same_map nat_cmp_total nat_cmp-IsAntisymmetric m empty (λ n. by n (get m n) refl ∙ sym (get-empty nat_cmp n))
    where
      by : (n : ℕ) (o : Option X) → get m n ≡ o → get m n ≡ None
      by n None is = is
      by n (Some x) is = absurd (none-some n (none n (ap is_some is)))

  in_nothing : (m : FinMap nat_cmp X) → m ≡ empty → Only None m
  in_nothing m is n has = absurd (false≢true (sym (ap is_some (ap (λ (k : FinMap nat_cmp X). get k n) is ∙ get-empty nat_cmp n)) ∙ has))

idle_holds : {A : Type 0} (core : Core) → IsIdle core → Holds {A = A} (Ended None) core
idle_holds core idle = record {
  jobs = λ die. ap (λ (m : FinMap nat_cmp Flight). get m die) idle.jobs ∙ get-empty nat_cmp die;
  claims = in_nothing core.claims idle.claims;
  batches = in_nothing core.batches idle.batches;
}

holds_idle : {A : Type 0} (core : Core) → Holds {A = A} (Ended None) core → core.copying ≡ None → IsIdle core
holds_idle core h free = record {
  jobs = same_map nat_cmp_total nat_cmp-IsAntisymmetric core.jobs empty (λ die. h.jobs die ∙ sym (get-empty nat_cmp die));
  claims = nothing_in core.claims h.claims;
  batches = nothing_in core.batches h.batches;
  copying = free;
}

pub beginning_idle : (core : Core) → core ≡ mounted core → IsIdle core
beginning_idle core fresh = record {
  jobs = ap (λ (c : Core). c.jobs) fresh;
  claims = ap (λ (c : Core). c.claims) fresh;
  batches = ap (λ (c : Core). c.batches) fresh;
  copying = ap (λ (c : Core). c.copying) fresh;
}

-- A request that has ended has nothing open.
ended_holds : {A : Type 0} (core : Core) (stage : Stage A) (end : Option BlockFault) → ended stage ≡ Some end → Holds stage core
    → Holds {A = A} (Ended None) core
ended_holds {A = A} core stage end is h =
    let there = subst (λ (s : Stage A). Holds s core) (ended_at stage end is) h in
    record { jobs = there.jobs; claims = there.claims; batches = there.batches }

-- how a request ends, or that it is given up
ends_so : {A : Type 0} (answer : StoreAnswer) (turns : ℕ) (op : OpView A) → EndsBy answer turns op
    → ((end : Option BlockFault) × (ended (stage_of op) ≡ Some end)) ⊎ ((2 ^ 64 - 1 ≤ turns) × (answer ≡ Refused Lost))
ends_so (Gave bytes) turns op end = inl (None, end.0)
ends_so Accepted turns op end = inl (None, end)
ends_so (Refused fault) turns op (EndedSo is) = inl (Some fault, is)
ends_so (Refused fault) turns op (OfOtherLength is fill flush end other) = inl (None, end)
ends_so (Refused fault) turns op (WithoutRoom is fill end) = inl (Some NoRoom, end)
ends_so (Refused fault) turns op (WithoutMemory is fill flush end) = inl (Some NoMemory, end)
ends_so (Refused fault) turns op (Endless is most) = inr (most, ap Refused is)

module _ {L M I A : Type 0} (made : I → ImageCall → ImageAnswer → I → Type 0) where
  request_holds : (task : Task) (bytes : List ℕ) (answer : StoreAnswer) (old new : Inner L M I A) → (makes : MakesRequest made task bytes answer old new)
      → Holds {A = A} (Ended None) old.locked.core
      → Holds {A = A} (Ended None) new.locked.core ⊎ IsRequestGivenUp made task bytes answer old new makes
  request_holds task bytes answer old new (NoMemoryFor is some same) h =
      inl (subst (λ (r : Inner L M I A). Holds {A = A} (Ended None) r.locked.core) (sym same) h)
  request_holds task bytes answer old new (Made op next its_task stage none runs end) h =
      let has = subst (λ (s : Stage A). Has None None s) (sym stage) (beginning_has A task) in
      let first : Holds (stage_of op) old.locked.core =
      holds_at None None (stage_of op) old.locked.core h.jobs has h.claims h.batches in
      let last = asks_hold made old.locked.number old.dies.items (number_of old.seat) (task_in op) bytes (asking_of old op) runs.turns
      (asking_of new next) runs.asks first in
      elim (ends_so answer runs.turns next end) [
        | inl it ↦ inl (ended_holds new.locked.core (stage_of next) it.0 it.1 last)
        | inr given_up ↦ inr given_up
      ]

  request_free : (task : Task) (bytes : List ℕ) (answer : StoreAnswer) (old new : Inner L M I A) → MakesRequest made task bytes answer old new
      → old.locked.core.copying ≡ None → new.locked.core.copying ≡ None
  request_free task bytes answer old new (NoMemoryFor is some same) free = ap (λ (r : Inner L M I A). r.locked.core.copying) same ∙ free
  request_free task bytes answer old new (Made op next its_task stage none runs end) free =
      asks_free made old.locked.number old.dies.items (number_of old.seat) (task_in op) bytes (asking_of old op) runs.turns (asking_of new next)
      runs.asks free

  -- behind a whole call nothing is open, or it was given up
  pub call_idle : (task : Task) (bytes : List ℕ) (answer : StoreAnswer) (old new : Inner L M I A) → (call : MakesWhole made task bytes answer old new)
      → IsIdle old.locked.core → IsIdle new.locked.core ⊎ IsGivenUp made task bytes answer old new call
  call_idle task bytes answer old new call idle =
      let begun = goes_hold made old.locked.number old.dies.items (number_of old.seat) {A = A} IsForRequests requests_leave (Ended None) (house_of old)
      (house_of call.begun) call.before.goes (idle_holds old.locked.core idle) in
      let free = request_free task bytes answer call.begun call.done call.request
      (goes_free made old.locked.number old.dies.items (number_of old.seat) IsForRequests (λ act may. order_free act (requests_for_order act may))
      (house_of old) (house_of call.begun) call.before.goes idle.copying) in
      elim (request_holds task bytes answer call.begun call.done call.request begun) [
        | inr given_up ↦ inr (inl given_up)
        | inl done ↦ elim (orders_free made call.done.locked.number call.done.dies.items (number_of call.done.seat) (house_of call.done) (house_of new)
            call.behind.orders free) [
              | inr many ↦ inr (inr many)
              | inl none ↦ inl (holds_idle new.locked.core
                  (orders_hold made call.done.locked.number call.done.dies.items (number_of call.done.seat) A (house_of call.done) (house_of new)
                  call.behind.orders done) none)
            ]
      ]
