-- Transmission: the requests of a client, the calls of the store that they ask for, and the replies.
-- NBD protocol text, "Transmission phase".
use Rattle.std.specs.Prelude.{◌≡◌, ◌≢◌, ℕ, ◌<◌, ◌≤◌, ◌⊎◌, List, [], ◌∷◌, ◌++◌, length, take, Option, Some}
use Rattle.std.specs.List.{flat_map, AllByRecursion}
use Rattle.std.specs.Io.KnownBytes.{IsAtEnd}
use Rattle.byteorder.specs.Endian.{big_bytes}
use Rattle.fa_io.specs.Streams.{Streams, Reads, Writes}
use Rattle.fa_types.specs.Store.{Call, Answer, Gave, Done, Refused}
use Rattle.fa_types.specs.declared.blocks.BlockFault.{BlockFault}
use Rattle.fa_types.specs.declared.blocks.BlockFault.TheVariants.{Lost, NoRoom, NoMemory, Spent}
use Rattle.fa_cmds.specs.declared.request.Request.{Request}
use Rattle.fa_cmds.specs.declared.request.Command.TheVariants.{Write}
use Rattle.fa_cmds.specs.declared.decision.Decision.TheVariants.{Disconnect as Leave, Do, Refuse}
use Rattle.fa_cmds.specs.declared.reply.ReplyCode.{ReplyCode}
use Rattle.fa_cmds.specs.declared.reply.ReplyCode.TheVariants.{Success, Io, NoMemory as OutOfMemory, NoSpace}
use Rattle.fa_cmds.specs.Requests.{IsRequest, request_bytes, body_length, reply_bytes, decision}
use Rattle.fa_session_asking.specs.Asking.{call_of}
use Rattle.fa_session.specs.declared.session_end.SessionEnd.{SessionEnd}
use Rattle.fa_session.specs.declared.session_end.SessionEnd.TheVariants.{Disconnected, Aborted, Closed}
use Rattle.fa_session.specs.declared.session_end.SessionEnd.TheVariants.{InputEnded, ReadFailed, WriteFailed}
use Rattle.fa_session.specs.declared.session_end.SessionEnd.TheVariants.{NoMemory as NegotiationNoMemory}

-- what a refusal of the store is answered with
abbrev pub code_of : BlockFault → ReplyCode
code_of Lost = Io
code_of NoRoom = NoSpace
code_of NoMemory = OutOfMemory
code_of Spent = Io

-- What came of a request: the store was asked, and answered; or it was not asked, and the reply has a
-- code; or there was no memory for the data of a WRITE.
pub data Outcome : Type 0 where
  Asked : (call : Call) (answer : Answer) → Outcome
  NotAsked : (code : ReplyCode) → Outcome
  NoneForData : Outcome

-- A request with the data that followed it, and what came of it.
pub record Exchange : Type 0 where
  pub request : Request
  pub body : List ℕ
  pub outcome : Outcome

-- what may come of a request to a store of this size
abbrev pub MayCome : ℕ → Request → List ℕ → Outcome → Type 0
MayCome size r body (Asked call answer) = (decision r size ≡ Do) × (call_of r.command r body ≡ Some call)
MayCome size r body (NotAsked code) = decision r size ≡ Refuse code
MayCome size r body NoneForData = (decision r size ≡ Do) × (r.command ≡ Write)

-- a whole exchange, over a store of this size
pub record IsExchange (size : ℕ) (e : Exchange) : Type 0 where
  pub request_fits : IsRequest e.request
  pub whole_body : length e.body ≡ body_length e.request
  pub right : MayCome size e.request e.body e.outcome

-- the bytes of it that the client sends
abbrev pub heard_of : Exchange → List ℕ
heard_of e = request_bytes e.request ++ e.body

-- the reply
abbrev pub reply_of : ℕ → Outcome → List ℕ
reply_of cookie (Asked call (Gave bytes)) = reply_bytes Success cookie ++ bytes
reply_of cookie (Asked call Done) = reply_bytes Success cookie
reply_of cookie (Asked call (Refused fault)) = reply_bytes (code_of fault) cookie
reply_of cookie (NotAsked code) = reply_bytes code cookie
reply_of cookie NoneForData = reply_bytes OutOfMemory cookie

abbrev pub reply_to : Exchange → List ℕ
reply_to e = reply_of e.request.cookie e.outcome

-- what the client asks for in it
abbrev pub asked_of : Exchange → Request × List ℕ
asked_of e = (e.request, e.body)

-- From a store to a store by the call of one exchange, if it has one.
abbrev pub Makes : {S : Type 0} → (S → Call → Answer → S → Type 0) → S → Outcome → S → Type 0
Makes made before (Asked call answer) after = made before call answer after
Makes made before (NotAsked code) after = after ≡ before
Makes made before NoneForData after = after ≡ before

-- From a store to a store by the calls of the exchanges, these and no others, in this order.
abbrev pub Chain : {S : Type 0} → (S → Call → Answer → S → Type 0) → S → List Exchange → S → Type 0
Chain made before [] after = after ≡ before
Chain {S = S} made before (e ∷ es) after = (middle : S) × Makes made before e.outcome middle × Chain made middle es after

-- less than a whole request with its data
abbrev pub IsPartOfRequest : List ℕ → Type 0
IsPartOfRequest last =
    (length last < 28)
    ⊎ ((r : Request) × (more : List ℕ) × IsRequest r × (length more < body_length r) × (last ≡ request_bytes r ++ more))

-- the 28 bytes of a request that ends the connection
abbrev pub IsGoodbye : ℕ → List ℕ → Type 0
IsGoodbye size last = (r : Request) × IsRequest r × (last ≡ request_bytes r) × (decision r size ≡ Leave)

-- 28 bytes that don't begin as a request does
abbrev pub IsWrongMagic : List ℕ → Type 0
IsWrongMagic last = (length last ≡ 28) × (take 4 last ≢ big_bytes 4 0x25609513)

-- what a client may have sent behind its last whole exchange
abbrev pub IsRest : ℕ → List ℕ → Type 0
IsRest size last = IsPartOfRequest last ⊎ (IsGoodbye size last ⊎ IsWrongMagic last)

-- How transmission ends: what the client sent last, how much of the last reply is missing, and what the
-- reader has left.
abbrev pub EndsTransmission : ℕ → List Exchange → List ℕ → List ℕ → Option (List ℕ) → SessionEnd → Type 0
EndsTransmission size es last missing left Disconnected =
    (missing ≡ []) × IsGoodbye size last
EndsTransmission size es last missing left Aborted = ⊥
EndsTransmission size es last missing left Closed =
    (missing ≡ []) × IsWrongMagic last
EndsTransmission size es last missing left InputEnded = (missing ≡ []) × IsPartOfRequest last × IsAtEnd left
EndsTransmission size es last missing left ReadFailed = (missing ≡ []) × IsPartOfRequest last
EndsTransmission size es last missing left WriteFailed =
    (last ≡ []) × (missing ≢ [])
    × ((front : List Exchange) × (e : Exchange) × (es ≡ front ++ e ∷ []) × (length missing ≤ length (reply_to e)))
EndsTransmission size es last missing left NegotiationNoMemory = ⊥

-- Transmission over a store of this size: what the streams did, the store before and after, and the end.
pub record Transmitted {S : Type 0} (made : S → Call → Answer → S → Type 0) (size : ℕ) (streams : Streams)
    (before after : S) (end : SessionEnd) : Type 0 where
  pub exchanges : List Exchange
  pub last : List ℕ
  pub written : List ℕ
  pub missing : List ℕ
  pub was_read : Reads streams (flat_map heard_of exchanges ++ last)
  pub was_written : Writes streams written
  pub output : written ++ missing ≡ flat_map reply_to exchanges
  pub right : AllByRecursion (IsExchange size) exchanges
  pub asked : Chain made before exchanges after
  pub ends : EndsTransmission size exchanges last missing streams.left_after end
