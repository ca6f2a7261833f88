-- What is written of a document is what its value sends.
use Rattle.std.proofs.Common.{◌≡◌, ℕ, suc, Bool, false, List, [], ◌∷◌, ◌++◌, map, length, Option, Some, None, option_map, refl, sym, ap, ◌∙◌, subst}
use Rattle.serde.specs.Event as event
use Rattle.serde.specs.Event.{Log, Logs, WritesEach, WritesOption, WritesSeq}
use Rattle.serde_json.specs.Data.{Data, boolean, string, array, item}
use Rattle.serde_json.specs.Events.{SendsValue, SendsItems, items_len}
use Rattle.serde_json.specs.Sent.{IsTextOf}
use Rattle.serde_json.specs.Written.{has_float, items_have_float}
use Rattle.serde_json.proofs.FreeTexts.{text_of_value}
use Rattle.fa_mount_scan.specs.declared.mounted.Report.{Report}
use Rattle.fa_mount_scan.specs.Pages.{Written}
use Rattle.fa_prog_images.specs.declared.table.DieRow.{DieRow}
use Rattle.fa_prog_images.specs.Documents.{items_of, or_null, whole, row_data, page_data, place_data, check_data, dump_data, document_line}

-- what may not be known
pub sends_option : {A : Type 0} (writes : A → Log → Log → Type 0) (value : A → Data) → ((x : A) (old new : Log) → writes x old new → SendsValue (value x) old new)
    → (o : Option A) (old new : Log) → WritesOption writes o old new → SendsValue (or_null value o) old new
sends_option writes value each None old new wrote = wrote
sends_option writes value each (Some x) old new wrote = each x old new wrote

pub sends_known : {A : Type 0} (writes : A → Log → Log → Type 0) (value : A → Data) → ((x : A) (old new : Log) → writes x old new → SendsValue (value x) old new)
    → (found o : Option A) → found ≡ o → (old new : Log) → WritesOption writes found old new → SendsValue (or_null value o) old new
sends_known writes value each found o is old new wrote =
    subst (λ x. SendsValue (or_null value x) old new) is (sends_option writes value each found old new wrote)

-- a list
len_of : {A : Type 0} (value : A → Data) (xs : List A) → items_len (items_of value xs) ≡ length xs
len_of value [] = refl
len_of value (x ∷ xs) = ap suc (len_of value xs)

sends_items : {A : Type 0} (value : A → Data) (xs : List A) (old mid new : Log) → WritesEach (λ x. SendsValue (value x)) xs old mid
    → Logs mid new event.seq_ends → SendsItems (items_of value xs) old new
sends_items value [] old mid new wrote ended = subst (λ l. Logs l new event.seq_ends) wrote ended
sends_items value (x ∷ xs) old mid new wrote ended = (wrote.0, wrote.1, sends_items value xs wrote.0 mid new wrote.2 ended)

pub sends_list : {A : Type 0} (value : A → Data) (xs : List A) (old new : Log) → WritesSeq (λ x. SendsValue (value x)) xs old new
    → SendsValue (array (items_of value xs)) old new
sends_list value xs old new wrote =
    (wrote.0, subst (λ n. Logs old wrote.0 (event.seq_begins (Some n))) (sym (len_of value xs)) wrote.2, sends_items value xs wrote.0 wrote.1 new wrote.3 wrote.4)

-- the items of a list that is mapped
items_map : {A B : Type 0} (value : B → Data) (f : A → B) (xs : List A) → items_of (λ x. value (f x)) xs ≡ items_of value (map f xs)
items_map value f [] = refl
items_map value f (x ∷ xs) = ap (λ items. item (value (f x)) items) (items_map value f xs)

pub sends_mapped : {A B : Type 0} (value : B → Data) (f : A → B) (xs : List A) (old new : Log) → WritesSeq (λ x. SendsValue (value (f x))) xs old new
    → SendsValue (array (items_of value (map f xs))) old new
sends_mapped value f xs old new wrote =
    subst (λ items. SendsValue (array items) old new) (items_map value f xs) (sends_list (λ x. value (f x)) xs old new wrote)

-- no document has a float
null_whole : (o : Option ℕ) → has_float (or_null whole o) ≡ false
null_whole None = refl
null_whole (Some n) = refl

null_boolean : (o : Option Bool) → has_float (or_null boolean o) ≡ false
null_boolean None = refl
null_boolean (Some b) = refl

null_text : {A : Type 0} (text : A → List ℕ) (o : Option A) → has_float (or_null (λ x. string (text x)) o) ≡ false
null_text text None = refl
null_text text (Some x) = refl

whole_items : {A : Type 0} (value : A → Data) → ((x : A) → has_float (value x) ≡ false) → (xs : List A) → items_have_float (items_of value xs) ≡ false
whole_items value each [] = refl
whole_items value each (x ∷ xs) = rw (each x, whole_items value each xs) refl

whole_row : (row : DieRow) → has_float (row_data row) ≡ false
whole_row row =
    rw (
      null_text (λ path. path.now) row.path,
      null_whole (option_map (λ header. header.epoch) row.header),
      null_boolean (option_map (λ header. header.clean) row.header),
      null_whole (option_map (λ slots. slots.erased) row.slots),
      null_whole (option_map (λ slots. slots.current) row.slots),
      null_whole (option_map (λ slots. slots.stale) row.slots),
    ) refl

whole_page : (page : Written) → has_float (page_data page) ≡ false
whole_page page = rw (whole_items place_data (λ place. refl) page.places) refl

whole_check : (report : Report) (rows : List DieRow) → has_float (check_data report rows) ≡ false
whole_check report rows = rw (whole_items row_data whole_row rows) refl

whole_dump : (pages : List Written) (rows : List DieRow) → has_float (dump_data pages rows) ≡ false
whole_dump pages rows = rw (whole_items page_data whole_page pages, whole_items row_data whole_row rows) refl

-- the line of a document that was sent
line_of : (d : Data) (line : List ℕ) → has_float d ≡ false
    → (log : Log) × (text : List ℕ) × SendsValue d (Some []) log × IsTextOf log text × (line ≡ text ++ 10 ∷ []) → line ≡ document_line d
line_of d line none sent = sent.4 ∙ ap (λ text. text ++ 10 ∷ []) (text_of_value d sent.0 sent.1 sent.2 sent.3 none)

pub check_line : (report : Report) (rows : List DieRow) (line : List ℕ)
    → (log : Log) × (text : List ℕ) × SendsValue (check_data report rows) (Some []) log × IsTextOf log text × (line ≡ text ++ 10 ∷ [])
    → line ≡ document_line (check_data report rows)
check_line report rows line sent = line_of (check_data report rows) line (whole_check report rows) sent

pub dump_line : (pages : List Written) (rows : List DieRow) (line : List ℕ)
    → (log : Log) × (text : List ℕ) × SendsValue (dump_data pages rows) (Some []) log × IsTextOf log text × (line ≡ text ++ 10 ∷ [])
    → line ≡ document_line (dump_data pages rows)
dump_line pages rows line sent = line_of (dump_data pages rows) line (whole_dump pages rows) sent
