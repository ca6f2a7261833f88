-- The keys of the settings.
use Rattle.std.specs.Prelude.{ℕ, Bool, true, false, List, [], ◌∷◌, codes, bytes_eq}
use Rattle.std.specs.List.{list_any}
use Rattle.fa_settings.specs.declared.key.Key.{Key}
use Rattle.fa_settings.specs.declared.key.Key.TheVariants.{Array, Images, Dies, Spares, Blocks, Slots, PageBytes, Pages}
use Rattle.fa_settings.specs.declared.key.Key.TheVariants.{WindowRounds, Listen, Export, Sessions, Copies}

-- the keys, in the order in which they are judged
abbrev pub keys : List Key
keys = Array ∷ Images ∷ Dies ∷ Spares ∷ Blocks ∷ Slots ∷ PageBytes ∷ Pages
    ∷ WindowRounds ∷ Listen ∷ Export ∷ Sessions ∷ Copies ∷ []

-- how each is written
abbrev pub name_of : Key → List ℕ
name_of Array = codes "array"
name_of Images = codes "images"
name_of Dies = codes "dies"
name_of Spares = codes "spares"
name_of Blocks = codes "blocks"
name_of Slots = codes "slots"
name_of PageBytes = codes "page_bytes"
name_of Pages = codes "pages"
name_of WindowRounds = codes "window_rounds"
name_of Listen = codes "listen"
name_of Export = codes "export"
name_of Sessions = codes "sessions"
name_of Copies = codes "copies"

-- all but one have to be there
abbrev pub is_required : Key → Bool
is_required Copies = false
is_required _ = true

-- the name is that of a key
abbrev pub is_known : List ℕ → Bool
is_known name = list_any (λ key. bytes_eq (name_of key) name) keys
