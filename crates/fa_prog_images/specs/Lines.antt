-- What `check` and `dump` print of an array.
use Rattle.std.specs.Prelude.{ℕ, zero, suc, if◌then◌else◌, List, [], ◌∷◌, ◌++◌, codes, Option, Some, None}
use Rattle.std.specs.Fmt.{decimal}
use Rattle.std.specs.FinMap.{get}
use Rattle.std.specs.List.{flat_map}
use Rattle.fa_types.specs.declared.numbers.Die.{Die}
use Rattle.fa_types.specs.declared.numbers.Slot.{Slot}
use Rattle.fa_types.specs.declared.kind.Kind.{Kind}
use Rattle.fa_types.specs.declared.kind.Kind.TheVariants.{Data, Hole}
use Rattle.fa_machine.specs.declared.places.Version.{Version}
use Rattle.fa_mount_scan.specs.declared.mounted.Report.{Report}
use Rattle.fa_mount_scan.specs.Pages.{Written}
use Rattle.fa_machine.specs.Copies.{copy_on}
use Rattle.fa_machine.specs.State.{MapState}

-- the lines of `check`
abbrev pub dies_line : Report → List ℕ
dies_line r = codes "dies " ++ decimal r.dies ++ codes " live " ++ decimal r.live ++ codes " spare " ++ decimal r.spares ++ 10 ∷ []

abbrev pub epoch_line : Report → List ℕ
epoch_line r = codes "epoch " ++ decimal r.epoch ++ (if r.clean then codes " clean" ++ 10 ∷ [] else codes " unclean" ++ 10 ∷ [])

abbrev pub pages_line : Report → List ℕ
pages_line r = codes "written " ++ decimal r.written ++ codes " thin " ++ decimal r.thin ++ 10 ∷ []

abbrev pub check_text : Report → List ℕ
check_text report = dies_line report ++ epoch_line report ++ pages_line report

-- a space, a die, a colon and a slot, where there is one
abbrev pub place_text : ℕ → Option ℕ → List ℕ
place_text die None = []
place_text die (Some slot) = codes " " ++ decimal die ++ codes ":" ++ decimal slot

-- the texts of the numbers below n, one behind the other
abbrev pub texts_below : (ℕ → List ℕ) → ℕ → List ℕ
texts_below text zero = []
texts_below text (suc n) = texts_below text n ++ text n

-- the places of the current copies of a page, the dies rising
abbrev pub places_text : MapState → ℕ → List ℕ
places_text m page = texts_below (λ die. place_text die (copy_on m page die)) m.geometry.dies

abbrev pub kind_text : Kind → List ℕ
kind_text Data = codes " at"
kind_text Hole = codes " hole at"

-- the line of a page that was written: its number, that of its last write, and the places of its copies
abbrev pub head_text : ℕ → Version → List ℕ
head_text page version = codes "page " ++ decimal page ++ codes " seq " ++ decimal version.seq.0 ++ kind_text version.kind

abbrev pub written_text : MapState → ℕ → Version → List ℕ
written_text m page version = head_text page version ++ places_text m page ++ 10 ∷ []

abbrev pub page_text : MapState → ℕ → List ℕ
page_text m page = line_of (get m.versions page)
  where
    line_of : Option Version → List ℕ
    line_of None = []
    line_of (Some version) = written_text m page version

-- a line for each page that was written, the pages rising
abbrev pub dump_text : MapState → List ℕ
dump_text m = texts_below (page_text m) m.geometry.pages

-- the same line, of a page that is given with its places
abbrev pub copies_text : List (Die × Slot) → List ℕ
copies_text places = flat_map (λ place. place_text place.0.0 (Some place.1.0)) places

abbrev pub line_text : Written → List ℕ
line_text page = head_text page.page.0 page.version ++ copies_text page.places ++ 10 ∷ []
