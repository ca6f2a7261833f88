-- The handshake: what the server says and does, given the bytes of the client.
-- NBD protocol text, "Newstyle negotiation", "Fixed newstyle negotiation" and "Option types". All numbers are
-- big-endian, and have names in Numbers.antt.
use Rattle.std.specs.Prelude.{◌≡◌, ◌≢◌, ℕ, ◌^◌, ◌<◌, ◌≤◌, ◌==◌, ◌⊎◌, Bool, if◌then◌else◌, bit_and, List, [], ◌++◌, length, take, replicate}
use Rattle.std.specs.List.{flat_map, list_any, AllByRecursion}
use Rattle.byteorder.specs.Endian.{big_bytes}
use Rattle.fa_nego_head.specs.Heads.{head_bytes, max_data, IsPart}
use Rattle.fa_nego.specs.Numbers.{flag_no_zeroes, opt_export_name, opt_abort, opt_list, opt_info, opt_go, rep_ack, rep_server, rep_info, rep_err_unsup, rep_err_invalid, rep_err_unknown, info_export, info_name, info_block_size}
use Rattle.fa_nego.specs.declared.step.Step.{Step}
use Rattle.fa_nego.specs.declared.step.Step.TheVariants.{More, Go, Aborted, Closed}
use Rattle.fa_nego.specs.declared.step.CloseCause.TheVariants.{UnknownFlag, WrongMagic, TooLong, UnknownName}

-- the first words of the server: two magic numbers, and its flags FIXED_NEWSTYLE and NO_ZEROES
unfoldable pub greeting_bytes : List ℕ
greeting_bytes = big_bytes 8 0x4e42444d41474943 ++ big_bytes 8 0x49484156454f5054 ++ big_bytes 2 3

-- An option as the client sends it: its number, and its bytes of data.
pub record Sent : Type 0 where
  pub option : ℕ
  pub given : List ℕ

abbrev pub option_bytes : Sent → List ℕ
option_bytes sent = head_bytes sent.option (length sent.given) ++ sent.given

-- an option that the server hears to its end
pub record IsOption (sent : Sent) : Type 0 where
  pub number : sent.option < 2 ^ 32
  pub not_long : length sent.given ≤ max_data

-- what stands before the data of a reply, of which there are so many bytes
abbrev pub reply_head_bytes : ℕ → ℕ → ℕ → List ℕ
reply_head_bytes option type len = big_bytes 8 0x0003e889045565a9 ++ big_bytes 4 option ++ big_bytes 4 type ++ big_bytes 4 len

-- a reply to an option, of some type and with some data
unfoldable pub option_reply : ℕ → ℕ → List ℕ → List ℕ
option_reply option type given = reply_head_bytes option type (length given) ++ given

-- the transmission flags HAS_FLAGS, SEND_FLUSH, SEND_FUA, SEND_TRIM, SEND_WRITE_ZEROES and CAN_MULTI_CONN
abbrev pub transmission_flags : ℕ
transmission_flags = 0x016d

-- the data of each kind of information: its number, and what is told

unfoldable pub export_info : ℕ → List ℕ
export_info size = big_bytes 2 info_export ++ big_bytes 8 size ++ big_bytes 2 transmission_flags

unfoldable pub name_info : List ℕ → List ℕ
name_info export = big_bytes 2 info_name ++ export

-- any range is served, 4,096 bytes at once are preferred, and a READ or WRITE has at most 32 MiB
unfoldable pub block_size_info : List ℕ
block_size_info = big_bytes 2 info_block_size ++ big_bytes 4 1 ++ big_bytes 4 4096 ++ big_bytes 4 33554432

-- What INFO and GO ask for: an export by its name, and some kinds of information.
pub record Asked : Type 0 where
  pub name : List ℕ
  pub kinds : List ℕ

abbrev pub kinds_bytes : List ℕ → List ℕ
kinds_bytes kinds = flat_map (λ kind. big_bytes 2 kind) kinds

-- the data that asks for this
unfoldable pub asked_bytes : Asked → List ℕ
asked_bytes asked = big_bytes 4 (length asked.name) ++ asked.name ++ big_bytes 2 (length asked.kinds) ++ kinds_bytes asked.kinds

-- what is asked can be spelled
pub record IsAsked (asked : Asked) : Type 0 where
  pub name : length asked.name < 2 ^ 32
  pub kinds : length asked.kinds < 2 ^ 16
  pub each : AllByRecursion (λ kind. kind < 2 ^ 16) asked.kinds

-- the data asks for this
abbrev pub AsksFor : List ℕ → Asked → Type 0
AsksFor given asked = IsAsked asked × (given ≡ asked_bytes asked)

-- a kind of information is among those that are asked for, however often
abbrev pub is_among : ℕ → List ℕ → Bool
is_among kind kinds = list_any (λ one. one == kind) kinds

-- an INFO reply with this data, if its kind was asked for
abbrev pub told_if_asked : ℕ → ℕ → List ℕ → List ℕ → List ℕ
told_if_asked option kind given kinds = if is_among kind kinds then option_reply option rep_info given else []

-- What the server tells of the export: INFO_EXPORT, then what else was asked for, each once and in this order.
unfoldable pub told : List ℕ → ℕ → ℕ → List ℕ → List ℕ
told export size option kinds =
    option_reply option rep_info (export_info size)
    ++ told_if_asked option info_name (name_info export) kinds
    ++ told_if_asked option info_block_size block_size_info kinds
    ++ option_reply option rep_ack []

-- what the server says to EXPORT_NAME: zeros at the end, unless both sides set NO_ZEROES, as the server does
unfoldable pub export_bytes : ℕ → ℕ → List ℕ
export_bytes size flags =
    big_bytes 8 size ++ big_bytes 2 transmission_flags ++ (if bit_and flags flag_no_zeroes == 0 then replicate 124 0 else [])

-- the data of a SERVER reply
unfoldable pub server_bytes : List ℕ → List ℕ
server_bytes export = big_bytes 4 (length export) ++ export

-- What an option comes to: what the server says to it, and how the negotiation stands after it.
pub record Come : Type 0 where
  pub said : List ℕ
  pub next : Step

-- a reply with an error, after which the negotiation goes on
abbrev pub refusal : ℕ → ℕ → Come
refusal option type = record { said = option_reply option type []; next = More }

-- The name is the export's, or left out.
abbrev pub IsKnown : List ℕ → List ℕ → Type 0
IsKnown export name = (name ≡ []) ⊎ (name ≡ export)

-- What an EXPORT_NAME with this name comes to. It has no replies.
pub data NameComesTo (export : List ℕ) (size flags : ℕ) (name : List ℕ) (come : Come) : Type 0 where
  unknown_name : (IsKnown export name → ⊥)
      → come ≡ record { said = []; next = Closed UnknownName }
      → NameComesTo export size flags name come
  known_name : IsKnown export name
      → come ≡ record { said = export_bytes size flags; next = Go }
      → NameComesTo export size flags name come

-- What a LIST with this data comes to.
pub data ListComesTo (export given : List ℕ) (come : Come) : Type 0 where
  listed : given ≡ []
      → come ≡ record { said = option_reply opt_list rep_server (server_bytes export) ++ option_reply opt_list rep_ack []; next = More }
      → ListComesTo export given come
  with_data : given ≢ [] → come ≡ refusal opt_list rep_err_invalid → ListComesTo export given come

-- What an INFO or GO with this data comes to. They differ in how matters stand where the export is known.
pub data InfoComesTo (export : List ℕ) (size option : ℕ) (given : List ℕ) (next : Step) (come : Come) : Type 0 where
  -- the data asks for nothing
  invalid : ((asked : Asked) → AsksFor given asked → ⊥)
      → come ≡ refusal option rep_err_invalid
      → InfoComesTo export size option given next come
  unknown : (asked : Asked) → AsksFor given asked → (IsKnown export asked.name → ⊥)
      → come ≡ refusal option rep_err_unknown
      → InfoComesTo export size option given next come
  known : (asked : Asked) → AsksFor given asked → IsKnown export asked.name
      → come ≡ record { said = told export size option asked.kinds; next = next }
      → InfoComesTo export size option given next come

-- an option that the server does not know
pub record IsUnsupported (option : ℕ) : Type 0 where
  pub not_export_name : option ≢ opt_export_name
  pub not_abort : option ≢ opt_abort
  pub not_list : option ≢ opt_list
  pub not_info : option ≢ opt_info
  pub not_go : option ≢ opt_go

-- What an option comes to, by its number, for a client with these flags. The data of ABORT means nothing.
pub data ComesTo (export : List ℕ) (size flags : ℕ) (sent : Sent) (come : Come) : Type 0 where
  export_name : sent.option ≡ opt_export_name → NameComesTo export size flags sent.given come → ComesTo export size flags sent come
  abort : sent.option ≡ opt_abort
      → come ≡ record { said = option_reply opt_abort rep_ack []; next = Aborted }
      → ComesTo export size flags sent come
  list : sent.option ≡ opt_list → ListComesTo export sent.given come → ComesTo export size flags sent come
  info : sent.option ≡ opt_info → InfoComesTo export size opt_info sent.given More come → ComesTo export size flags sent come
  go : sent.option ≡ opt_go → InfoComesTo export size opt_go sent.given Go come → ComesTo export size flags sent come
  unsupported : IsUnsupported sent.option → come ≡ refusal sent.option rep_err_unsup → ComesTo export size flags sent come

-- An option with what it came to.
pub record Turn : Type 0 where
  pub sent : Sent
  pub come : Come

pub record IsTurn (export : List ℕ) (size flags : ℕ) (turn : Turn) : Type 0 where
  pub option : IsOption turn.sent
  pub comes : ComesTo export size flags turn.sent turn.come

-- a turn after which the negotiation goes on
pub record IsPassed (export : List ℕ) (size flags : ℕ) (turn : Turn) : Type 0 where
  pub turn_taken : IsTurn export size flags turn
  pub goes_on : turn.come.next ≡ More

abbrev pub turns_heard : List Turn → List ℕ
turns_heard turns = flat_map (λ turn. option_bytes turn.sent) turns

abbrev pub turns_said : List Turn → List ℕ
turns_said turns = flat_map (λ turn. turn.come.said) turns

-- flags of a client with no other bit than 0 and 1
abbrev pub AreKnown : ℕ → Type 0
AreKnown flags = flags < 4

-- Flags that are known, and turns after which the negotiation goes on, in bytes of the client and the server.
pub record Opens (export : List ℕ) (size flags : ℕ) (turns : List Turn) (heard said : List ℕ) : Type 0 where
  pub known : AreKnown flags
  pub passed : AllByRecursion (IsPassed export size flags) turns
  pub from_client : heard ≡ big_bytes 4 flags ++ turns_heard turns
  pub from_server : said ≡ turns_said turns

-- The bytes of a client, what the server has said to them behind its greeting, and how the negotiation
-- stands: the client sends flags, and then options.
pub data Negotiates (export : List ℕ) (size : ℕ) (heard said : List ℕ) (next : Step) : Type 0 where
  hears_flags : length heard < 4 → said ≡ [] → next ≡ More → Negotiates export size heard said next
  -- a flag that the server doesn't know
  refuses_flags : (flags : ℕ) → flags < 2 ^ 32 → (AreKnown flags → ⊥) → heard ≡ big_bytes 4 flags → said ≡ []
      → next ≡ Closed UnknownFlag → Negotiates export size heard said next
  hears_options : (flags : ℕ) (turns : List Turn) (front rest : List ℕ) → Opens export size flags turns front said
      → IsPart rest → heard ≡ front ++ rest → next ≡ More → Negotiates export size heard said next
  -- the last option begins transmission, or ends the connection
  ends : (flags : ℕ) (turns : List Turn) (front before : List ℕ) (last : Turn) → Opens export size flags turns front before
      → IsTurn export size flags last → last.come.next ≢ More → heard ≡ front ++ option_bytes last.sent
      → said ≡ before ++ last.come.said → next ≡ last.come.next → Negotiates export size heard said next
  -- 16 bytes that don't begin as an option does
  refuses_magic : (flags : ℕ) (turns : List Turn) (front head : List ℕ) → Opens export size flags turns front said
      → length head ≡ 16 → take 8 head ≢ big_bytes 8 0x49484156454f5054 → heard ≡ front ++ head → next ≡ Closed WrongMagic
      → Negotiates export size heard said next
  -- 16 bytes that announce too much data
  refuses_length : (flags : ℕ) (turns : List Turn) (front : List ℕ) (option len : ℕ)
      → Opens export size flags turns front said → option < 2 ^ 32 → max_data < len → len < 2 ^ 32
      → heard ≡ front ++ head_bytes option len → next ≡ Closed TooLong → Negotiates export size heard said next
