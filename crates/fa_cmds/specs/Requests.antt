-- A request and its reply, as bytes, and what is decided of a request.
-- NBD protocol text, "Transmission phase": "Request message", "Simple reply message", "Command flags",
-- "Request types", "Error values". All numbers are big-endian.
use Rattle.std.specs.Prelude.{◌≡◌, ◌≢◌, ℕ, ◌+◌, ◌^◌, ◌<◌, ◌≤◌, Bool, true, false, ◌&&◌, not, ◌==◌, nat_lt, if◌then◌else◌, IsTrue, List, [], ◌∷◌, ◌++◌}
use Rattle.std.specs.Int.{bit_at}
use Rattle.byteorder.specs.Endian.{big_bytes}
use Rattle.fa_cmds.specs.declared.request.Request.{Request}
use Rattle.fa_cmds.specs.declared.request.Command.{Command}
use Rattle.fa_cmds.specs.declared.request.Command.TheVariants.{Read, Write, Disconnect, Flush, Trim, WriteZeroes, Other}
use Rattle.fa_cmds.specs.declared.decision.Decision.{Decision}
use Rattle.fa_cmds.specs.declared.decision.Decision.TheVariants.{Disconnect as Leave, Do, Refuse}
use Rattle.fa_cmds.specs.declared.reply.ReplyCode.{ReplyCode}
use Rattle.fa_cmds.specs.declared.reply.ReplyCode.TheVariants.{Success, Io, NoMemory, Invalid, NoSpace}

-- the number of a command
abbrev pub command_number : Command → ℕ
command_number Read = 0
command_number Write = 1
command_number Disconnect = 2
command_number Flush = 3
command_number Trim = 4
command_number WriteZeroes = 6
command_number (Other number) = number

-- a command under its own name, where it has one
abbrev pub IsNamed : Command → Type 0
IsNamed (Other number) = (4 < number) × (number ≢ 6)
IsNamed command = Unit {0}

-- what 28 bytes can spell
pub record IsRequest (r : Request) : Type 0 where
  pub flags : r.flags < 2 ^ 16
  pub named : IsNamed r.command
  pub number : command_number r.command < 2 ^ 16
  pub cookie : r.cookie < 2 ^ 64
  pub offset : r.offset < 2 ^ 64
  pub len : r.length < 2 ^ 32

-- What a command is like: a row of the table of the commands.
pub record CommandRow : Type 0 where
  -- the store can be asked for it
  pub is_served : Bool
  -- the flags that it may have, all of them set: FUA is bit 0, NO_HOLE bit 1
  pub flags : ℕ
  -- its length says how many bytes of data follow it
  pub has_data : Bool
  -- its offset and length name bytes of the store
  pub has_range : Bool
  -- its range is of 32 MiB at most, since its bytes are sent
  pub is_limited : Bool
  -- what a range with bytes past the end is answered with
  pub past_end : ReplyCode

-- a command that is not served
abbrev pub no_row : CommandRow
no_row = record { is_served = false; flags = 0; has_data = false; has_range = false; is_limited = false; past_end = Invalid }

-- the table of the commands
abbrev pub row_of : Command → CommandRow
row_of Read = record { is_served = true; flags = 1; has_data = false; has_range = true; is_limited = true; past_end = Invalid }
row_of Write = record { is_served = true; flags = 1; has_data = true; has_range = true; is_limited = true; past_end = NoSpace }
row_of Disconnect = no_row
row_of Flush = record { is_served = true; flags = 1; has_data = false; has_range = false; is_limited = false; past_end = Invalid }
row_of Trim = record { is_served = true; flags = 1; has_data = false; has_range = true; is_limited = false; past_end = Invalid }
row_of WriteZeroes = record { is_served = true; flags = 3; has_data = false; has_range = true; is_limited = false; past_end = NoSpace }
row_of (Other number) = no_row

abbrev pub is_disconnect : Command → Bool
is_disconnect Disconnect = true
is_disconnect command = false

-- the 28 bytes of a request
unfoldable pub request_bytes : Request → List ℕ
request_bytes r =
    big_bytes 4 0x25609513 ++ big_bytes 2 r.flags ++ big_bytes 2 (command_number r.command)
    ++ big_bytes 8 r.cookie ++ big_bytes 8 r.offset ++ big_bytes 4 r.length

-- how many bytes of data follow a request
abbrev pub body_length : Request → ℕ
body_length r = if (row_of r.command).has_data then r.length else 0

-- the number of a reply's error, 0 for none
abbrev pub code_number : ReplyCode → ℕ
code_number Success = 0
code_number Io = 5
code_number NoMemory = 12
code_number Invalid = 22
code_number NoSpace = 28

-- the 16 bytes of a reply
unfoldable pub reply_bytes : ReplyCode → ℕ → List ℕ
reply_bytes code cookie = big_bytes 4 0x67446698 ++ big_bytes 4 (code_number code) ++ big_bytes 8 cookie

-- the flag FUA: what is done is on its images before the reply
abbrev pub is_fua : ℕ → Bool
is_fua flags = bit_at flags 0 == 1

-- the flag NO_HOLE: the zeros keep bytes of their own
abbrev pub is_no_hole : ℕ → Bool
is_no_hole flags = bit_at flags 1 == 1

-- some flag that the command may not have: those that it may have are the lowest bits
abbrev pub has_unknown_flag : Request → Bool
has_unknown_flag r = nat_lt (row_of r.command).flags r.flags

-- 32 MiB, the longest READ or WRITE
abbrev pub max_length : ℕ
max_length = 33554432

-- more bytes than its command may send
abbrev pub is_too_long : Request → Bool
is_too_long r = (row_of r.command).is_limited && nat_lt max_length r.length

-- the range has bytes past the end of a store of this size
abbrev pub is_past_end : Request → ℕ → Bool
is_past_end r size = nat_lt size (r.offset + r.length)

-- a test of a request for a store of some size, and what is decided where it holds
abbrev pub Rule : Type 0
Rule = Bool × Decision

-- what is decided by the first rule that holds, and otherwise
abbrev pub first_of : List Rule → Decision → Decision
first_of [] otherwise = otherwise
first_of (rule ∷ rules) otherwise = if rule.0 then rule.1 else first_of rules otherwise

-- the rules for a request to a store of this size, in their order
abbrev pub rules_for : Request → ℕ → List Rule
rules_for r size =
    (is_disconnect r.command, Leave)
    ∷ (not (row_of r.command).is_served, Refuse Invalid)
    ∷ (has_unknown_flag r, Refuse Invalid)
    ∷ (not (row_of r.command).has_range, Do)
    ∷ (r.length == 0, Refuse Success)
    ∷ (is_too_long r, Refuse Invalid)
    ∷ (is_past_end r size, Refuse (row_of r.command).past_end)
    ∷ []

-- what is decided of a request to a store of this size
unfoldable pub decision : Request → ℕ → Decision
decision r size = first_of (rules_for r size) Do

-- what is known of the range of a request that is to be done
pub record IsRangeToDo (r : Request) (size : ℕ) : Type 0 where
  pub some : 0 < r.length
  pub not_long : IsTrue (row_of r.command).is_limited → r.length ≤ max_length
  pub within : r.offset + r.length ≤ size

-- what is known of a request that is to be done
pub record IsToDo (r : Request) (size : ℕ) : Type 0 where
  pub served : (row_of r.command).is_served ≡ true
  pub known_flags : r.flags ≤ (row_of r.command).flags
  pub ranged : (row_of r.command).has_range ≡ true → IsRangeToDo r size
