-- What a store is asked for by a request.
-- NBD protocol text, "Request types" and "Command flags".
use Rattle.std.specs.Prelude.{◌≡◌, ℕ, not, List, Option, None, Some}
use Rattle.fa_types.specs.Store.{Call, Reading, Writing, Zeroing, Trimming, Flushing, Answer}
use Rattle.fa_cmds.specs.declared.request.Request.{Request}
use Rattle.fa_cmds.specs.declared.request.Command.{Command}
use Rattle.fa_cmds.specs.declared.request.Command.TheVariants.{Read, Write, Disconnect, Flush, Trim, WriteZeroes, Other}
use Rattle.fa_cmds.specs.Requests.{is_fua, is_no_hole}

-- The call that a command asks for, with the range and the data of its request. A FLUSH asks for all that was
-- answered before, whatever its range, and a WRITE_ZEROES for holes unless its flag says that it wants none.
abbrev pub call_of : Command → Request → List ℕ → Option Call
call_of Read r body = Some (Reading r.offset r.length)
call_of Write r body = Some (Writing r.offset body (is_fua r.flags))
call_of Flush r body = Some Flushing
call_of Trim r body = Some (Trimming r.offset r.length (is_fua r.flags))
call_of WriteZeroes r body = Some (Zeroing r.offset r.length (is_fua r.flags) (not (is_no_hole r.flags)))
call_of Disconnect r body = None
call_of (Other number) r body = None

-- The store was asked for what a request with this data wants, and this was its answer.
abbrev pub WasAsked : {S : Type 0} → (S → Call → Answer → S → Type 0) → Request → List ℕ → Answer → S → S → Type 0
WasAsked made r body answer before after = (call : Call) × (call_of r.command r body ≡ Some call) × made before call answer after
