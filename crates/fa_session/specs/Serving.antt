-- What the parts of one exchange come to: what the streams did, and the store where it is asked.
use Rattle.std.specs.Prelude.{◌≡◌, ℕ, ◌<◌, List, [], length, Option, Result, Ok, Err}
use Rattle.fa_io.specs.Streams.{Streams, Reads, Writes, WritesPart, Sends, EndsReading}
use Rattle.fa_io.specs.declared.reading.ReadEnd.{ReadEnd}
use Rattle.fa_io.specs.declared.sending.SendFailed.{SendFailed}
use Rattle.fa_types.specs.Store.{Call, Answer}
use Rattle.fa_cmds.specs.declared.request.Request.{Request}
use Rattle.fa_cmds.specs.declared.reply.ReplyCode.{ReplyCode}
use Rattle.fa_cmds.specs.Requests.{body_length, reply_bytes}
use Rattle.fa_session.specs.Exchanges.{Outcome, Exchange, MayCome, IsExchange, heard_of, reply_of, reply_to, Makes, Transmitted}
use Rattle.fa_session.specs.declared.stream_end.StreamEnd.{StreamEnd}
use Rattle.fa_session.specs.declared.stream_end.StreamEnd.TheVariants.{Unread, Unsent}
use Rattle.fa_session.specs.declared.session_end.SessionEnd.{SessionEnd}

-- the whole of a request's data was read
abbrev pub ReadsBody : Request → Streams → List ℕ → Type 0
ReadsBody r streams body = (length body ≡ body_length r) × Reads streams body

-- A part of a request's data was read, and then no byte came; nothing was written.
abbrev pub StopsInBody : Request → Streams → ReadEnd → Type 0
StopsInBody r streams end =
    ((more : List ℕ) × (length more < body_length r) × Reads streams more)
    × EndsReading end streams.left_after × Writes streams []

-- The data was read and the reply has this code, and the store was not asked.
abbrev pub Declines : Request → ReplyCode → Streams → Result (Unit {0}) StreamEnd → Type 0
Declines r code streams (Ok done) = ((body : List ℕ) × ReadsBody r streams body) × Writes streams (reply_bytes code r.cookie)
Declines r code streams (Err (Unsent failed)) =
    ((body : List ℕ) × ReadsBody r streams body) × WritesPart streams (reply_bytes code r.cookie)
Declines r code streams (Err (Unread end)) = StopsInBody r streams end

-- What follows a request's 28 bytes: its data, the store's call if there is one, and the reply.
pub record Follows {S : Type 0} (made : S → Call → Answer → S → Type 0) (size : ℕ) (r : Request) (streams : Streams)
    (before after : S) (reply : List ℕ → Type 0) : Type 0 where
  pub body : List ℕ
  pub outcome : Outcome
  pub whole : ReadsBody r streams body
  pub right : MayCome size r body outcome
  pub asked : Makes made before outcome after
  pub replied : reply (reply_of r.cookie outcome)

abbrev pub AnswersRequest : {S : Type 0} → (S → Call → Answer → S → Type 0) → ℕ → Request → Streams → S → S
    → Result (Unit {0}) StreamEnd → Type 0
AnswersRequest made size r streams before after (Ok done) = Follows made size r streams before after (Writes streams)
AnswersRequest made size r streams before after (Err (Unsent failed)) =
    Follows made size r streams before after (WritesPart streams)
AnswersRequest made size r streams before after (Err (Unread end)) = StopsInBody r streams end × (after ≡ before)

-- The store was asked for what a request with this data wants, and the reply was sent.
pub record AsksStore {S : Type 0} (made : S → Call → Answer → S → Type 0) (size : ℕ) (r : Request) (body : List ℕ)
    (held_before held_after : Option (List ℕ)) (before after : S) (result : Result (Unit {0}) SendFailed) : Type 0 where
  pub outcome : Outcome
  pub right : MayCome size r body outcome
  pub asked : Makes made before outcome after
  pub replied : Sends held_before held_after (reply_of r.cookie outcome) result

-- One whole exchange.
pub record IsServed {S : Type 0} (made : S → Call → Answer → S → Type 0) (size : ℕ) (streams : Streams)
    (before after : S) : Type 0 where
  pub exchange : Exchange
  pub right : IsExchange size exchange
  pub was_read : Reads streams (heard_of exchange)
  pub was_written : Writes streams (reply_to exchange)
  pub asked : Makes made before (exchange.outcome) after

-- One request was served, or transmission ends with it.
abbrev pub ServesOne : {S : Type 0} → (S → Call → Answer → S → Type 0) → ℕ → Streams → S → S
    → Result (Unit {0}) SessionEnd → Type 0
ServesOne made size streams before after (Ok done) = IsServed made size streams before after
ServesOne made size streams before after (Err end) = Transmitted made size streams before after end
