-- A request as a call of a block store, and how it ends as the call's answer.
use Rattle.std.specs.Prelude.{◌≡◌, ℕ, List, length, Option, Some, None}
use Rattle.fa_shared_steps.specs.declared.request.Request.{Request}
use Rattle.fa_shared_steps.specs.declared.request.Request.TheVariants.{Read, Write, Zero, Trim, Flush}
use Rattle.fa_types.specs.Store.{Call, Reading, Writing, Zeroing, Trimming, Flushing, Answer, Gave, Done, Refused}
use Rattle.fa_types.specs.declared.blocks.BlockFault.{BlockFault}

-- the call, with the bytes of a write
abbrev pub call_of : Request → List ℕ → Call
call_of (Read offset len) bytes = Reading offset len
call_of (Write offset len fua) bytes = Writing offset bytes fua
call_of (Zero offset len fua hole) bytes = Zeroing offset len fua hole
call_of (Trim offset len fua) bytes = Trimming offset len fua
call_of Flush bytes = Flushing

-- the answer of a request that ended so, with what a read gave
abbrev pub answer_of : Request → Option BlockFault → List ℕ → Answer
answer_of request (Some fault) given = Refused fault
answer_of (Read offset len) None given = Gave given
answer_of request None given = Done

-- a write comes with as many bytes as it says
abbrev pub HasBytes : Request → List ℕ → Type 0
HasBytes (Write offset len fua) bytes = length bytes ≡ len
HasBytes request bytes = Unit {0}
