-- How far the digest of a slot has come.
use Rattle.std.specs.Prelude.{ℕ, List}
use Rattle.sha2.specs.Hashers.{Holds256}
use Rattle.fa_lanes.specs.Beginning.{IsBegun}
use Rattle.fa_tag.specs.declared.payload_digest.State.{State}
use Rattle.fa_tag.specs.declared.payload_digest.State.TheVariants.{Alone, Among}

-- this payload was hashed, by itself or side by side with others
abbrev pub HasHashed : State → List ℕ → Type 0
HasHashed (Alone hasher) payload = Holds256 hasher payload
HasHashed (Among begun) payload = IsBegun begun payload
