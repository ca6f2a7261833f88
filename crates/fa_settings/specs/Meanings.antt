-- What each key may hold: its type, and its limits.
use Rattle.std.specs.Prelude.{◌≡◌, ℕ, ◌≤◌, pos, Bool, false, ◌&&◌, ◌==◌, nat_lt, nat_le, List, [], ◌∷◌, length, slice_index}
use Rattle.std.specs.Prelude.{Option, Some, None, is_some, option_map, option_and_then, IsTrue}
use Rattle.std.specs.List.{AllPass, after_first}
use Rattle.std.specs.Net.Grammar.{IsSocketV4Text}
use Rattle.std.specs.declared.net.socket_addr.SocketAddrV4.{SocketAddrV4}
use Rattle.hex.specs.Hex.{is_hex_digit}
use Rattle.toml.specs.Data.{Data, string, Items, no_items, item, as_str, as_integer, as_array}
use Rattle.fa_types.specs.Geometry.{is_page_size}
use Rattle.fa_settings.specs.declared.key.Key.{Key}
use Rattle.fa_settings.specs.declared.key.Key.TheVariants.{Array, Images, Dies, Spares, Blocks, Slots, PageBytes, Pages}
use Rattle.fa_settings.specs.declared.key.Key.TheVariants.{WindowRounds, Listen, Export, Sessions, Copies}

-- what a key is about
pub data Meaning : Type 0 where
  Identity : Meaning
  Paths : Meaning
  Number : (least most : ℕ) → Meaning
  PageSize : Meaning
  Address : Meaning
  Name : Meaning

-- the table of the keys
abbrev pub meaning : Key → Meaning
meaning Array = Identity
meaning Images = Paths
meaning Dies = Number 2 64
meaning Spares = Number 0 62
meaning Blocks = Number 4 4096
meaning Slots = Number 4 256
meaning PageBytes = PageSize
meaning Pages = Number 1 1048576
meaning WindowRounds = Number 1 64
meaning Listen = Address
meaning Export = Name
meaning Sessions = Number 1 16
meaning Copies = Number 2 3

-- the texts of an array of strings
abbrev pub texts_of : Items → Option (List (List ℕ))
texts_of no_items = Some []
texts_of (item (string text) rest) = option_map (λ texts. text ∷ texts) (texts_of rest)
texts_of (item _ rest) = None

abbrev pub as_texts : Data → Option (List (List ℕ))
as_texts value = option_and_then texts_of (as_array value)

-- the type: paths are an array of strings, numbers are integers, and the rest is a string
abbrev pub has_type : Meaning → Data → Bool
has_type Identity value = is_some (as_str value)
has_type Paths value = is_some (as_texts value)
has_type (Number least most) value = is_some (as_integer value)
has_type PageSize value = is_some (as_integer value)
has_type Address value = is_some (as_str value)
has_type Name value = is_some (as_str value)

-- an array's identity is 32 hexadecimal digits, of either case
abbrev pub IsIdentity : List ℕ → Type 0
IsIdentity text = (length text ≡ 32) × AllPass is_hex_digit text

-- the name of an export is 1 to 64 printable characters of ASCII, of which the space is one
abbrev pub IsExportName : List ℕ → Type 0
IsExportName text = (1 ≤ length text) × (length text ≤ 64) × AllPass (λ c. nat_le 32 c && nat_le c 126) text

-- what stands behind the first colon begins with a zero and goes on
abbrev pub has_leading_zero : List ℕ → Bool
has_leading_zero text =
    let port = after_first (λ c. c == 58) text in
    nat_lt 1 (length port) && (slice_index port 0 == 48)

-- an IPv4 address, a colon and a port; no number has leading zeros
abbrev pub IsAddressText : List ℕ → SocketAddrV4 → Type 0
IsAddressText text address = IsSocketV4Text text address × (has_leading_zero text ≡ false)

-- within the limits of the key, which only a value of its type can be
abbrev pub IsWithin : Meaning → Data → Type 0
IsWithin Identity value = (text : List ℕ) × (as_str value ≡ Some text) × IsIdentity text
IsWithin Paths value = (texts : List (List ℕ)) × (as_texts value ≡ Some texts) × (1 ≤ length texts) × (length texts ≤ 64)
IsWithin (Number least most) value = (n : ℕ) × (as_integer value ≡ Some (pos n)) × (least ≤ n) × (n ≤ most)
IsWithin PageSize value = (n : ℕ) × (as_integer value ≡ Some (pos n)) × IsTrue (is_page_size n)
IsWithin Address value = (text : List ℕ) × (as_str value ≡ Some text) × (address : SocketAddrV4) × IsAddressText text address
IsWithin Name value = (text : List ℕ) × (as_str value ≡ Some text) × IsExportName text
