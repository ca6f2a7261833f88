-- What stands before an option's data, and what is held of an option.
-- NBD protocol text, "Newstyle negotiation". All numbers are big-endian.
use Rattle.std.specs.Prelude.{◌≡◌, ◌≢◌, ℕ, ◌^◌, ◌<◌, ◌≤◌, ◌⊎◌, List, ◌++◌, length, take, drop}
use Rattle.byteorder.specs.Endian.{big_bytes}
use Rattle.fa_nego_head.specs.declared.option.Head.{Head}
use Rattle.fa_nego_head.specs.declared.option.Head.TheVariants.{WrongMagic, TooLong, Good}
use Rattle.fa_nego_head.specs.declared.option.Heard.{Heard}
use Rattle.fa_nego_head.specs.declared.option.Heard.TheVariants as heard_as

-- what stands before an option's data
unfoldable pub head_bytes : ℕ → ℕ → List ℕ
head_bytes option len = big_bytes 8 0x49484156454f5054 ++ big_bytes 4 option ++ big_bytes 4 len

-- the longest data of an option
abbrev pub max_data : ℕ
max_data = 65536

-- less than a whole option, and nothing wrong in what has come of it
abbrev pub IsPart : List ℕ → Type 0
IsPart rest =
    (length rest < 16)
    ⊎ ((option len : ℕ) × (more : List ℕ) × (option < 2 ^ 32) × (len ≤ max_data) × (length more < len)
    × (rest ≡ head_bytes option len ++ more))

-- what 16 bytes before an option's data say
abbrev pub IsHead : List ℕ → Head → Type 0
IsHead bytes WrongMagic = take 8 bytes ≢ big_bytes 8 0x49484156454f5054
IsHead bytes TooLong =
    (option len : ℕ) × (option < 2 ^ 32) × (max_data < len) × (len < 2 ^ 32) × (bytes ≡ head_bytes option len)
IsHead bytes (Good option len) = (option < 2 ^ 32) × (len ≤ max_data) × (bytes ≡ head_bytes option len)

-- What is held of an option. One is whole once it has as much data as its head says.
abbrev pub IsOptionIn : List ℕ → Heard → Type 0
IsOptionIn held heard_as.Waits = IsPart held
IsOptionIn held heard_as.WrongMagic = (16 ≤ length held) × IsHead (take 16 held) WrongMagic
IsOptionIn held heard_as.TooLong = (16 ≤ length held) × IsHead (take 16 held) TooLong
IsOptionIn held (heard_as.Whole option given) =
    (len : ℕ) × IsHead (take 16 held) (Good option len) × (given.now ≡ drop 16 held) × (len ≤ length given.now)
