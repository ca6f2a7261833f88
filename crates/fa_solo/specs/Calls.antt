-- What a call of the store of one thread does, from its beginning to its answer.
use Rattle.std.specs.Prelude.{◌≡◌, ◌⊎◌, ℕ, ◌-◌, ◌^◌, ◌<◌, ◌≤◌, true, false, List, [], length, Some, None, Result, Ok, Err}
use Rattle.fa_shared_request.specs.Counts.{request_of}
use Rattle.fa_image.specs.Image.{ImageAnswer, ImageCall}
use Rattle.fa_shared_request.specs.Ops.{OpView, answer_of, ended, stage_of, task_in}
use Rattle.fa_shared_steps.specs.Stages.{beginning}
use Rattle.fa_shared_steps.specs.Tasks.{answered, task_of}
use Rattle.fa_shared_steps.specs.declared.request.Task.{Task}
use Rattle.fa_solo_job.specs.Deeds.{IsForRequests}
use Rattle.fa_solo_job.specs.Inner.{Does, Tidies, house_of}
use Rattle.fa_solo_job.specs.Orders.{IsDone}
use Rattle.fa_shared_lock.specs.Seats.{number_of}
use Rattle.fa_solo.specs.Turns.{RunsOn}
use Rattle.fa_solo_job.specs.declared.inner.Inner.{Inner}
use Rattle.fa_types.specs.Store.{Call, Writing, Answer, Gave, Done, Refused}
use Rattle.fa_types.specs.declared.blocks.BlockFault.{BlockFault}
use Rattle.fa_types.specs.declared.blocks.BlockFault.TheVariants.{Lost, NoMemory as OutOfMemory, NoRoom}

-- the bytes that come with a call
abbrev pub bytes_of : Call → List ℕ
bytes_of (Writing offset bytes fua) = bytes
bytes_of call = []

-- the answer of a call that gives no bytes
abbrev pub answer_by : Result (Unit {0}) BlockFault → Answer
answer_by (Ok done) = Done
answer_by (Err fault) = Refused fault

-- how a read is refused that ended so: as it ended, or as lost where that was for room
abbrev pub IsOfRead : BlockFault → BlockFault → Type 0
IsOfRead own fault = (fault ≡ NoRoom → ⊥) × ((fault ≡ own) ⊎ ((own ≡ NoRoom) × (fault ≡ Lost)))

-- the same of a flush, for room or memory
abbrev pub IsOfFlush : BlockFault → BlockFault → Type 0
IsOfFlush own fault =
    (fault ≡ NoRoom → ⊥) × (fault ≡ OutOfMemory → ⊥)
    × ((fault ≡ own) ⊎ (((own ≡ NoRoom) ⊎ (own ≡ OutOfMemory)) × (fault ≡ Lost)))

module _ {A : Type 0} where
  -- Why a call is refused: its request has ended so; or a read has an answer of another length; or a read has ended for want of room, or a
  -- flush for want of room or memory, which are no answers of theirs; or it did not end within 2^64 - 1 turns.
  pub data IsRefused (fault : BlockFault) (turns : ℕ) (op : OpView A) : Type 0 where
    Ended : ended (stage_of op) ≡ Some (Some fault) → IsRefused fault turns op
    OfOtherLength : fault ≡ Lost → (task_in op).fill ≡ None → (task_in op).flush ≡ false → ended (stage_of op) ≡ Some None
        → (length (answer_of op) ≡ answered (task_in op) → ⊥) → IsRefused fault turns op
    WithoutRoom : fault ≡ Lost → (task_in op).fill ≡ None → ended (stage_of op) ≡ Some (Some NoRoom) → IsRefused fault turns op
    WithoutMemory : fault ≡ Lost → (task_in op).fill ≡ None → (task_in op).flush ≡ true → ended (stage_of op) ≡ Some (Some OutOfMemory)
        → IsRefused fault turns op
    Endless : fault ≡ Lost → 2 ^ 64 - 1 ≤ turns → IsRefused fault turns op

  -- How a request has ended behind so many turns, by the answer of its call. A read that was accepted has the answer that was given.
  abbrev pub EndsBy : Answer → ℕ → OpView A → Type 0
  EndsBy (Gave bytes) turns op = (ended (stage_of op) ≡ Some None) × (answer_of op ≡ bytes)
  EndsBy Done turns op = ended (stage_of op) ≡ Some None
  EndsBy (Refused fault) turns op = IsRefused fault turns op

module _ {L M I A : Type 0} (made : I → ImageCall → ImageAnswer → I → Type 0) where
  -- A request of this task was made with these bytes, from its beginning on; or it was refused, since there was no memory for what it is to
  -- answer.
  pub data MakesRequest (task : Task) (bytes : List ℕ) (answer : Answer) (old new : Inner L M I A) : Type 0 where
    NoMemory : answer ≡ Refused OutOfMemory → 0 < answered task → new ≡ old → MakesRequest task bytes answer old new
    Made : (op next : OpView A) → task_in op ≡ task → stage_of op ≡ beginning task → answer_of op ≡ []
        → (runs : RunsOn made bytes old op new next) → EndsBy answer runs.turns next → MakesRequest task bytes answer old new

  -- A call: spares that are brought in before it, the request, and what is for the array's order behind it. Nothing is where there was no
  -- room. Else that goes on until nothing is left to be done, or something stops it.
  pub record MakesWhole (task : Task) (bytes : List ℕ) (answer : Answer) (old new : Inner L M I A) : Type 0 where
    pub begun : Inner L M I A
    pub done : Inner L M I A
    pub before : Does made IsForRequests old begun
    pub request : MakesRequest task bytes answer begun done
    pub behind : Tidies made done new
    pub full : answer ≡ Refused NoRoom → new ≡ done
    pub in_order : (answer ≡ Refused NoRoom → ⊥)
        → IsDone made done.locked.number done.dies.items (number_of done.seat) (house_of done) (house_of new) behind.orders

  abbrev pub MakesCall : ℕ → Inner L M I A → Call → Answer → Inner L M I A → Type 0
  MakesCall page_bytes old call answer new = MakesWhole (task_of page_bytes (request_of call)) (bytes_of call) answer old new
