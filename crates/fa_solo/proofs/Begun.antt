-- Requests as they are made from their beginning on, and calls.
use Rattle.std.proofs.Common.{◌≡◌, ◌∙◌, ◌⊎◌, ◌-◌, ◌^◌, ◌<◌, ◌≤◌, ℕ, List, [], length, Result, Ok, Err, Some, None, Vec, ap, refl, subst, sym}
use Rattle.std.proofs.Common.{arith, inl, inr}
use Rattle.std.specs.Prelude.{IfOk, IfErr, OnOk}
use Rattle.fa_image.specs.Image.{ImageAnswer, ImageCall}
use Rattle.fa_shared_request.specs.Ops.{OpView, answer_of, ended, stage_of, task_in}
use Rattle.fa_shared_steps.specs.Stages.{beginning}
use Rattle.fa_shared_steps.specs.Tasks.{answered, task_of}
use Rattle.fa_shared_steps.specs.declared.request.Request.{Request}
use Rattle.fa_shared_steps.specs.declared.request.Request.TheVariants.{Flush, Read}
use Rattle.fa_shared_steps.specs.declared.request.Task.{Task}
use Rattle.fa_solo.specs.Calls.{Ended, EndsBy, answer_by, IsOfFlush, IsOfRead, IsRefused, Made, MakesRequest, MakesWhole, OfOtherLength, WithoutMemory, WithoutRoom}
use Rattle.fa_solo.specs.Calls.{Endless, NoMemory as NoMemoryFor}
use Rattle.fa_solo_job.specs.Deeds.{IsForRequests}
use Rattle.fa_solo_job.specs.Inner.{Does, PutsInOrder, Tidies, house_of}
use Rattle.fa_solo_job.specs.Orders.{IsDone}
use Rattle.fa_shared_lock.specs.Seats.{number_of}
use Rattle.fa_solo.specs.Turns.{RunsOn}
use Rattle.fa_solo_job.specs.declared.inner.Inner.{Inner}
use Rattle.fa_types.specs.Store.{Answer, Done, Gave, Refused}
use Rattle.fa_types.specs.declared.blocks.BlockFault.{BlockFault}
use Rattle.fa_types.specs.declared.blocks.BlockFault.TheVariants.{Lost, NoMemory, NoRoom}

-- A flush that was refused for room or memory is told as lost.
told : {A : Type 0} (own : BlockFault) (page_bytes turns : ℕ) (y : OpView A) → task_in y ≡ task_of page_bytes Flush
    → (own ≡ NoRoom) ⊎ (own ≡ NoMemory) → IsRefused own turns y → IsRefused Lost turns y
told own page_bytes turns y task (inl is) (Ended end) =
    WithoutRoom refl (ap (λ (t : Task). t.fill) task) (end ∙ ap (λ (f : BlockFault). Some (Some f)) is)
told own page_bytes turns y task (inr is) (Ended end) =
    WithoutMemory refl (ap (λ (t : Task). t.fill) task) (ap (λ (t : Task). t.flush) task) (end ∙ ap (λ (f : BlockFault). Some (Some f)) is)
told own page_bytes turns y task why (OfOtherLength is fill flush end other) = OfOtherLength refl fill flush end other
told own page_bytes turns y task why (WithoutRoom is fill end) = WithoutRoom refl fill end
told own page_bytes turns y task why (WithoutMemory is fill flush end) = WithoutMemory refl fill flush end
told own page_bytes turns y task why (Endless is most) = Endless refl most

module _ {L M I A : Type 0} (made : I → ImageCall → ImageAnswer → I → Type 0) where
  pub made_request : (a b : Inner L M I A) (x y : OpView A) (request : Request) (page_bytes same : ℕ) (bytes : List ℕ) (answer : Answer)
      → same ≡ page_bytes → task_in x ≡ task_of same request → stage_of x ≡ beginning (task_of same request) → answer_of x ≡ []
      → (runs : RunsOn made bytes a x b y) → EndsBy answer runs.turns y → MakesRequest made (task_of page_bytes request) bytes answer a b
  made_request a b x y request page_bytes same bytes answer e task stage none runs end =
      let P : ℕ → Type 0 = λ n. MakesRequest made (task_of n request) bytes answer a b in
      subst P e (Made x y task stage none runs end)

  -- one for whose answer there is no memory
  pub unmade_request : (a : Inner L M I A) (request : Request) (page_bytes same : ℕ) (bytes : List ℕ) → same ≡ page_bytes
      → 0 < answered (task_of same request) → MakesRequest made (task_of page_bytes request) bytes (Refused NoMemory) a a
  unmade_request a request page_bytes same bytes e some =
      let P : ℕ → Type 0 = λ n. MakesRequest made (task_of n request) bytes (Refused NoMemory) a a in
      subst P e (NoMemoryFor refl some refl)

  -- a read whose answer was handed out, or not
  module _ (a b : Inner L M I A) (x y : OpView A) (offset len page_bytes same : ℕ) (e : same ≡ page_bytes)
      (task : task_in x ≡ task_of same (Read offset len)) (stage : stage_of x ≡ beginning (task_of same (Read offset len)))
      (none : answer_of x ≡ []) (runs : RunsOn made [] a x b y) where
    its_task : task_in y ≡ task_of same (Read offset len)
    its_task = runs.counts.task ∙ task

    read_with : (answer : Answer) → EndsBy answer runs.turns y → MakesRequest made (task_of page_bytes (Read offset len)) [] answer a b
    read_with answer end = made_request a b x y (Read offset len) page_bytes same [] answer e task stage none runs end

    refused_with : (fault : BlockFault) → ended (stage_of y) ≡ Some None
        → (fault ≡ Lost) × (length (answer_of y) ≡ len → ⊥) → IsRefused fault runs.turns y
    refused_with fault end (is, other) =
        OfOtherLength is (ap (λ (t : Task). t.fill) its_task) (ap (λ (t : Task). t.flush) its_task) end (λ same_length.
        let all : answered (task_in y) ≡ len = omega (arith, ap answered its_task) in other (same_length ∙ all))

    pub gave_request : {B : Type 0} (result : Result (Vec ℕ B) BlockFault) → ended (stage_of y) ≡ Some None
        → IfOk result (λ answer. answer.items ≡ answer_of y)
        → IfOk result (λ answer. MakesRequest made (task_of page_bytes (Read offset len)) [] (Gave answer.items) a b)
    gave_request (Ok given) end is = read_with (Gave given.items) (end, sym is)
    gave_request (Err fault) end is = tt

    pub refused_request : {B : Type 0} (result : Result (Vec ℕ B) BlockFault) → ended (stage_of y) ≡ Some None
        → IfErr result (λ fault. (fault ≡ Lost) × (length (answer_of y) ≡ len → ⊥))
        → IfErr result (λ fault. MakesRequest made (task_of page_bytes (Read offset len)) [] (Refused fault) a b)
    refused_request (Ok given) end why = tt
    refused_request (Err fault) end why = read_with (Refused fault) (refused_with fault end why)

    -- one that has ended so
    pub ended_request : (own fault : BlockFault) → ended (stage_of y) ≡ Some (Some own) → IsOfRead own fault
        → MakesRequest made (task_of page_bytes (Read offset len)) [] (Refused fault) a b
    ended_request own fault end (other, inl is) =
        read_with (Refused fault) (Ended (end ∙ ap (λ (f : BlockFault). Some (Some f)) (sym is)))
    ended_request own fault end (other, inr (room, is)) =
        read_with (Refused fault) (WithoutRoom is (ap (λ (t : Task). t.fill) its_task) (end ∙ ap (λ (f : BlockFault). Some (Some f)) room))

    pub endless_request : 2 ^ 64 - 1 ≤ runs.turns → MakesRequest made (task_of page_bytes (Read offset len)) [] (Refused Lost) a b
    endless_request most = read_with (Refused Lost) (Endless refl most)

  -- how what is for the array's order ends
  abbrev pub Ends : (c d : Inner L M I A) → Tidies made c d → Type 0
  Ends c d behind = IsDone made c.locked.number c.dies.items (number_of c.seat) (house_of c) (house_of d) behind.orders

  -- what is done before a request and behind it
  pub whole : (a b c d : Inner L M I A) (task : Task) (bytes : List ℕ) (answer : Answer) → Does made IsForRequests a b
      → MakesRequest made task bytes answer b c → (behind : Tidies made c d) → (answer ≡ Refused NoRoom → d ≡ c)
      → ((answer ≡ Refused NoRoom → ⊥) → Ends c d behind) → MakesWhole made task bytes answer a d
  whole a b c d task bytes answer before request behind full ends =
      record { begun = b; done = c; before = before; request = request; behind = behind; full = full; in_order = ends }

  pub whole_done : (a b c d : Inner L M I A) (task : Task) (bytes : List ℕ) (result : Result (Unit {0}) BlockFault)
      → Does made IsForRequests a b → MakesRequest made task bytes (answer_by result) b c → (behind : Tidies made c d)
      → (answer_by result ≡ Refused NoRoom → d ≡ c) → ((answer_by result ≡ Refused NoRoom → ⊥) → Ends c d behind)
      → OnOk result (MakesWhole made task bytes Done a d)
  whole_done a b c d task bytes (Ok x) before request behind full ends = whole a b c d task bytes Done before request behind full ends
  whole_done a b c d task bytes (Err fault) before request behind full ends = tt

  pub whole_refused : (a b c d : Inner L M I A) (task : Task) (bytes : List ℕ) (result : Result (Unit {0}) BlockFault)
      → Does made IsForRequests a b → MakesRequest made task bytes (answer_by result) b c → (behind : Tidies made c d)
      → (answer_by result ≡ Refused NoRoom → d ≡ c) → ((answer_by result ≡ Refused NoRoom → ⊥) → Ends c d behind)
      → IfErr result (λ fault. MakesWhole made task bytes (Refused fault) a d)
  whole_refused a b c d task bytes (Ok x) before request behind full ends = tt
  whole_refused a b c d task bytes (Err fault) before request behind full ends =
      whole a b c d task bytes (Refused fault) before request behind full ends

  -- those that are never refused for want of room
  pub whole_ok : {X : Type 0} (a b c d : Inner L M I A) (task : Task) (bytes : List ℕ) (result : Result X BlockFault) (answer : X → Answer)
      → Does made IsForRequests a b → IfOk result (λ x. MakesRequest made task bytes (answer x) b c) → PutsInOrder made c d
      → ((x : X) → answer x ≡ Refused NoRoom → ⊥) → IfOk result (λ x. MakesWhole made task bytes (answer x) a d)
  whole_ok a b c d task bytes (Ok x) answer before request behind gives =
      whole a b c d task bytes (answer x) before request behind.tidies (λ is. absurd (gives x is)) (λ other. behind.done)
  whole_ok a b c d task bytes (Err fault) answer before request behind gives = tt

  pub whole_err : {X : Type 0} (a b c d : Inner L M I A) (task : Task) (bytes : List ℕ) (result : Result X BlockFault)
      → Does made IsForRequests a b → IfErr result (λ fault. MakesRequest made task bytes (Refused fault) b c) → PutsInOrder made c d
      → IfErr result (λ fault. fault ≡ NoRoom → ⊥) → IfErr result (λ fault. MakesWhole made task bytes (Refused fault) a d)
  whole_err a b c d task bytes (Ok x) before request behind room = tt
  whole_err a b c d task bytes (Err fault) before request behind room =
      whole a b c d task bytes (Refused fault) before request behind.tidies
      (λ is. absurd (room (let e : Refused fault ≡ Refused NoRoom = is in cc))) (λ other. behind.done)

  -- a flush
  pub flush_done : (a b c d : Inner L M I A) (page_bytes : ℕ) (result : Result (Unit {0}) BlockFault) → Does made IsForRequests a b
      → MakesRequest made (task_of page_bytes Flush) [] (answer_by result) b c → PutsInOrder made c d
      → IfErr result (λ fault. (fault ≡ NoRoom → ⊥) × (fault ≡ NoMemory → ⊥))
      → OnOk result (MakesWhole made (task_of page_bytes Flush) [] Done a d)
  flush_done a b c d page_bytes (Ok x) before request behind room =
      whole a b c d (task_of page_bytes Flush) [] Done before request behind.tidies
      (λ is. absurd (let e : Done ≡ Refused NoRoom = is in cc)) (λ other. behind.done)
  flush_done a b c d page_bytes (Err fault) before request behind room = tt

  pub flush_refused : (a b c d : Inner L M I A) (page_bytes : ℕ) (result : Result (Unit {0}) BlockFault) → Does made IsForRequests a b
      → MakesRequest made (task_of page_bytes Flush) [] (answer_by result) b c → PutsInOrder made c d
      → IfErr result (λ fault. (fault ≡ NoRoom → ⊥) × (fault ≡ NoMemory → ⊥))
      → IfErr result (λ fault. MakesWhole made (task_of page_bytes Flush) [] (Refused fault) a d)
  flush_refused a b c d page_bytes (Ok x) before request behind room = tt
  flush_refused a b c d page_bytes (Err fault) before request behind room =
      whole a b c d (task_of page_bytes Flush) [] (Refused fault) before request behind.tidies
      (λ is. absurd (room.0 (let e : Refused fault ≡ Refused NoRoom = is in cc))) (λ other. behind.done)

  told_request : (a b : Inner L M I A) (own : BlockFault) (page_bytes : ℕ) → (own ≡ NoRoom) ⊎ (own ≡ NoMemory)
      → MakesRequest made (task_of page_bytes Flush) [] (Refused own) a b → MakesRequest made (task_of page_bytes Flush) [] (Refused Lost) a b
  told_request a b own page_bytes why (NoMemoryFor is some same) = absurd (omega (arith, some))
  told_request a b own page_bytes why (Made x y task stage none runs end) =
      Made x y task stage none runs (told own page_bytes runs.turns y (runs.counts.task ∙ task) why end)

  pub flush_told : (a b : Inner L M I A) (own fault : BlockFault) (page_bytes : ℕ) → IsOfFlush own fault
      → MakesRequest made (task_of page_bytes Flush) [] (Refused own) a b → MakesRequest made (task_of page_bytes Flush) [] (Refused fault) a b
  flush_told a b own fault page_bytes (room, memory, inl is) request =
      subst (λ (f : BlockFault). MakesRequest made (task_of page_bytes Flush) [] (Refused f) a b) (sym is) request
  flush_told a b own fault page_bytes (room, memory, inr (why, is)) request =
      subst (λ (f : BlockFault). MakesRequest made (task_of page_bytes Flush) [] (Refused f) a b) (sym is) (told_request a b own page_bytes why request)
