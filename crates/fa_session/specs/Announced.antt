-- What the transmission flags say that a client may ask for, and what may be done of it.
-- NBD protocol text, "Transmission flags" and "Command flags".
use Rattle.std.specs.Prelude.{◌≡◌, ℕ, ◌+◌, ◌*◌, ◌≤◌}
use Rattle.std.specs.Int.{bit_at}
use Rattle.fa_nego.specs.Negotiation.{transmission_flags}
use Rattle.fa_cmds.specs.declared.request.Request.{Request}
use Rattle.fa_cmds.specs.declared.request.Command.{Command}
use Rattle.fa_cmds.specs.declared.request.Command.TheVariants.{Read, Write, Disconnect, Flush, Trim, WriteZeroes, Other}
use Rattle.fa_cmds.specs.declared.decision.Decision.TheVariants.{Do}
use Rattle.fa_cmds.specs.Requests.{IsRequest, decision}

-- the bits of the transmission flags
abbrev pub send_flush : ℕ
send_flush = 2

abbrev pub send_fua : ℕ
send_fua = 3

abbrev pub send_trim : ℕ
send_trim = 5

abbrev pub send_write_zeroes : ℕ
send_write_zeroes = 6

-- the transmission flags have this bit
abbrev pub Announces : ℕ → Type 0
Announces bit = bit_at transmission_flags bit ≡ 1

-- The store may be asked for this command. READ and WRITE need no flag.
abbrev pub IsAnnounced : Command → Type 0
IsAnnounced Read = Unit {0}
IsAnnounced Write = Unit {0}
IsAnnounced Disconnect = ⊥
IsAnnounced Flush = Announces send_flush
IsAnnounced Trim = Announces send_trim
IsAnnounced WriteZeroes = Announces send_write_zeroes
IsAnnounced (Other number) = ⊥

-- how many of the flag NO_HOLE a command may have
abbrev pub max_no_hole : Command → ℕ
max_no_hole WriteZeroes = 1
max_no_hole command = 0

-- The command may have these flags: FUA where it is announced, NO_HOLE of a WRITE_ZEROES, and no other.
pub record MayHave (command : Command) (flags : ℕ) : Type 0 where
  pub fua : ℕ
  pub no_hole : ℕ
  pub fua_announced : fua ≤ bit_at transmission_flags send_fua
  pub no_hole_of_zeroes : no_hole ≤ max_no_hole command
  pub no_other : flags ≡ fua + 2 * no_hole

-- Some request of this command and with these flags is to be done.
pub record MayBeDone (command : Command) (flags : ℕ) : Type 0 where
  pub request : Request
  pub size : ℕ
  pub fits : IsRequest request
  pub same_command : request.command ≡ command
  pub same_flags : request.flags ≡ flags
  pub is_to_do : decision request size ≡ Do
