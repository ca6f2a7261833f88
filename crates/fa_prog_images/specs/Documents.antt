-- The JSON documents of `check` and `dump`: one line each.
use Rattle.std.specs.Prelude.{ℕ, List, [], ◌∷◌, ◌++◌, map, codes, Option, Some, None, option_map}
use Rattle.serde.specs.Event.{Log, Logs, field_key}
use Rattle.serde.specs.declared.name.Case.TheVariants.{AsIs}
use Rattle.serde_json.specs.Data.{unsigned, Data, null, boolean, number, string, array, object}
use Rattle.serde_json.specs.Data.{Items, no_items, item, Members, no_members, member}
use Rattle.serde_json.specs.Written.{compact_text}
use Rattle.fa_types.specs.declared.kind.Kind.{Kind}
use Rattle.fa_types.specs.declared.kind.Kind.TheVariants.{Data as DataKind, Hole}
use Rattle.fa_types.specs.declared.numbers.Die.{Die}
use Rattle.fa_types.specs.declared.numbers.Slot.{Slot}
use Rattle.fa_mount_scan.specs.declared.mounted.Report.{Report}
use Rattle.fa_mount_scan.specs.Pages.{Written}
use Rattle.fa_prog_images.specs.declared.document.PageRow.{PageRow}
use Rattle.fa_prog_images.specs.declared.table.DieRow.{DieRow}

-- a list of members, in this order, and a list of items
abbrev pub members : List (List ℕ × Data) → Members
members [] = no_members
members ((name, value) ∷ rest) = member name value (members rest)

abbrev pub items_of : {A : Type 0} → (A → Data) → List A → Items
items_of value [] = no_items
items_of value (x ∷ xs) = item (value x) (items_of value xs)

-- a number, and what may not be known
abbrev pub whole : ℕ → Data
whole n = number (unsigned n)

abbrev pub or_null : {A : Type 0} → (A → Data) → Option A → Data
or_null value None = null
or_null value (Some x) = value x

-- the place of a copy
abbrev pub place_data : Die × Slot → Data
place_data place = object (members ((codes "die", whole place.0.0) ∷ (codes "slot", whole place.1.0) ∷ []))

abbrev pub kind_name : Kind → List ℕ
kind_name DataKind = codes "data"
kind_name Hole = codes "hole"

-- a page that was written
abbrev pub page_data : Written → Data
page_data page = object (members (
    (codes "page", whole page.page.0)
    ∷ (codes "seq", whole page.version.seq.0)
    ∷ (codes "kind", string (kind_name page.version.kind))
    ∷ (codes "copies", array (items_of place_data page.places))
    ∷ []
    ))

-- a row of the table of dies
abbrev pub row_data : DieRow → Data
row_data row = object (members (
    (codes "die", whole row.die.0)
    ∷ (codes "path", or_null (λ path. string path.now) row.path)
    ∷ (codes "state", string row.state.now)
    ∷ (codes "epoch", or_null whole (option_map (λ header. header.epoch) row.header))
    ∷ (codes "clean", or_null boolean (option_map (λ header. header.clean) row.header))
    ∷ (codes "erased", or_null whole (option_map (λ slots. slots.erased) row.slots))
    ∷ (codes "current", or_null whole (option_map (λ slots. slots.current) row.slots))
    ∷ (codes "stale", or_null whole (option_map (λ slots. slots.stale) row.slots))
    ∷ []
    ))

-- the document of `check`
abbrev pub check_data : Report → List DieRow → Data
check_data report rows = object (members (
    (codes "dies", whole report.dies)
    ∷ (codes "live", whole report.live)
    ∷ (codes "spare", whole report.spares)
    ∷ (codes "epoch", whole report.epoch)
    ∷ (codes "clean", boolean report.clean)
    ∷ (codes "written", whole report.written)
    ∷ (codes "thin", whole report.thin)
    ∷ (codes "table", array (items_of row_data rows))
    ∷ []
    ))

-- the document of `dump`
abbrev pub dump_data : List Written → List DieRow → Data
dump_data pages rows = object (members (
    (codes "pages", array (items_of page_data pages))
    ∷ (codes "table", array (items_of row_data rows))
    ∷ []
    ))

-- a document on a line of its own
abbrev pub document_line : Data → List ℕ
document_line document = compact_text document ++ 10 ∷ []

-- for private clauses: the page of a row, and a member that was written
abbrev pub written_of : PageRow → Written
written_of row = record { page = row.page; version = row.version; places = map (λ copy. (copy.die, copy.slot)) row.copies.items }

abbrev pub WritesMember : {A : Type 0} → (A → Log → Log → Type 0) → List ℕ → A → Log → Log → Type 0
WritesMember writes name value old new = (named : Log) × Logs old named (field_key name AsIs) × writes value named new
