-- What the tables keep of each slot and of each page, as a list of each part.
use Rattle.std.specs.Prelude.{List, Option, Some, None}
use Rattle.fa_types.specs.declared.kind.Kind.{Kind}
use Rattle.fa_types.specs.declared.numbers.Seq.{Seq}
use Rattle.fa_machine.specs.declared.places.Version.{Version}
use Rattle.fa_map.specs.declared.entries.Entry.{Entry}
use Rattle.fa_map.specs.declared.entries.Link.{Link}
use Rattle.fa_map.specs.declared.entries.Second.{Second}

-- a page's last write, from its number and its kind; none where there is no kind
abbrev pub last_write : Seq → Option Kind → Option Version
last_write seq None = None
last_write seq (Some kind) = Some (record { seq = seq; kind = kind })

-- The entry of each slot, and for each that holds a copy where the next copy of its page is. What is written of that in the
-- slot's row may be something else.
pub record SlotLists : Type 0 where
  pub entries : List Entry
  pub links : List Link
  pub written : List Link

-- the last write of each page, where its first copy is, and what is kept of its second
pub record PageLists : Type 0 where
  pub versions : List (Option Version)
  pub heads : List Link
  pub seconds : List Second
