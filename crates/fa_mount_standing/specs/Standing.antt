-- What is mounted of a die, by how it stands.
use Rattle.std.specs.Prelude.{Option, Some, None, Result, Ok}
use Rattle.fa_mount_headers.specs.declared.judging.Standing.{Standing}
use Rattle.fa_mount_headers.specs.declared.judging.Standing.TheVariants.{Live}

-- what was found on it, where it is live
abbrev pub found_where_live : {T E : Type 0} → Standing → Option (Result T E) → Option T
found_where_live (Live index) (Some (Ok found)) = Some found
found_where_live standing found = None
