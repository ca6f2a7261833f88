-- How what is counted is told.
use Rattle.std.specs.Prelude.{ℕ, List, codes}
use Rattle.fa_prog_counts.specs.declared.commands.Command.{Command}
use Rattle.fa_prog_counts.specs.declared.commands.Command.TheVariants.{Read, Write, Flush, Trim, Zero}

-- what a command is called
abbrev pub command_name : Command → List ℕ
command_name Read = codes "read"
command_name Write = codes "write"
command_name Flush = codes "flush"
command_name Trim = codes "trim"
command_name Zero = codes "write_zeroes"

-- the place of a command in a list that has one for each
abbrev pub command_place : Command → ℕ
command_place Read = 0
command_place Write = 1
command_place Flush = 2
command_place Trim = 3
command_place Zero = 4
