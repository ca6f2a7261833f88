-- One connection: the bytes in, the calls of the store, the bytes out, and the end.
-- NBD protocol text, "Fixed newstyle negotiation" and "Transmission phase".
use Rattle.std.specs.Prelude.{◌≡◌, ◌≢◌, ℕ, ◌≤◌, ◌⊎◌, List, [], ◌++◌, length}
use Rattle.std.specs.List.{flat_map, AllByRecursion}
use Rattle.std.specs.Io.KnownBytes.{IsAtEnd}
use Rattle.fa_io.specs.Streams.{Streams, Reads, Writes}
use Rattle.fa_types.specs.Store.{Call, Answer}
use Rattle.fa_nego.specs.Negotiation.{greeting_bytes, Negotiates}
use Rattle.fa_nego.specs.NegoState.{NegoState, IsAt, wanted}
use Rattle.fa_nego.specs.declared.step.Step.{Step}
use Rattle.fa_nego.specs.declared.step.Step.TheVariants.{More, Go, Aborted as AbortedByClient, Closed as ClosedByServer}
use Rattle.fa_nego.specs.declared.step.CloseCause.{CloseCause}
use Rattle.fa_session.specs.Exchanges.{Exchange, IsExchange, heard_of, reply_to, Chain, EndsTransmission}
use Rattle.fa_session.specs.declared.session_end.SessionEnd.{SessionEnd}
use Rattle.fa_session.specs.declared.session_end.SessionEnd.TheVariants.{Disconnected, Aborted, Closed}
use Rattle.fa_session.specs.declared.session_end.SessionEnd.TheVariants.{InputEnded, ReadFailed, WriteFailed, NoMemory}

-- A negotiation that has heard and said these bytes needs at least n more for the flags or the option that
-- comes.
abbrev pub NeedsAtLeast : List ℕ → ℕ → List ℕ → List ℕ → ℕ → Type 0
NeedsAtLeast export size heard said n =
    (state : NegoState) × (state.export ≡ export) × (state.size ≡ size) × IsAt state heard said × (n ≤ wanted state.stage)

-- What is missing is of the greeting, or of the answer to the last bytes heard, which were not more than the
-- item that came then needed.
abbrev pub IsOfLatest : List ℕ → ℕ → List ℕ → List ℕ → List ℕ → Type 0
IsOfLatest export size heard said missing =
    ((heard ≡ []) × (said ≡ []))
    ⊎ ((earlier : List ℕ) × (piece : List ℕ) × (before : List ℕ) × (latest : List ℕ)
    × NeedsAtLeast export size earlier before (length piece)
    × (heard ≡ earlier ++ piece) × (said ≡ before ++ latest) × (length missing ≤ length latest))

-- A handshake in which the connection ends. The server had heard and said these bytes when it ended; more
-- may have been read for which there was no memory, and what was said may not have been written to its end.
pub record Moment (export : List ℕ) (size : ℕ) (streams : Streams) : Type 0 where
  pub heard : List ℕ
  pub said : List ℕ
  pub next : Step
  pub unheard : List ℕ
  pub written : List ℕ
  pub missing : List ℕ
  pub negotiates : Negotiates export size heard said next
  pub was_read : Reads streams (heard ++ unheard)
  pub was_written : Writes streams written
  pub output : written ++ missing ≡ greeting_bytes ++ said

-- how it ends there
abbrev pub EndsHandshake : (export : List ℕ) (size : ℕ) (streams : Streams) → Moment export size streams → SessionEnd → Type 0
EndsHandshake export size streams m Disconnected = ⊥
EndsHandshake export size streams m Aborted =
    (m.unheard ≡ []) × (m.missing ≡ []) × (m.next ≡ AbortedByClient)
EndsHandshake export size streams m Closed =
    (m.unheard ≡ []) × (m.missing ≡ []) × ((cause : CloseCause) × (m.next ≡ ClosedByServer cause))
EndsHandshake export size streams m InputEnded =
    (m.unheard ≡ []) × (m.missing ≡ []) × (m.next ≡ More) × IsAtEnd streams.left_after
EndsHandshake export size streams m ReadFailed =
    (m.unheard ≡ []) × (m.missing ≡ []) × (m.next ≡ More)
EndsHandshake export size streams m WriteFailed =
    (m.unheard ≡ []) × (m.missing ≢ []) × IsOfLatest export size m.heard m.said m.missing
EndsHandshake export size streams m NoMemory =
    (m.missing ≡ []) × (m.next ≡ More) × NeedsAtLeast export size m.heard m.said (length m.unheard)

-- A connection that ends in the handshake.
abbrev pub EndsEarly : List ℕ → ℕ → Streams → SessionEnd → Type 0
EndsEarly export size streams end = (m : Moment export size streams) × EndsHandshake export size streams m end

-- A handshake after which transmission begins.
pub record Greets (export : List ℕ) (size : ℕ) (streams : Streams) : Type 0 where
  pub heard : List ℕ
  pub said : List ℕ
  pub negotiates : Negotiates export size heard said Go
  pub was_read : Reads streams heard
  pub was_written : Writes streams (greeting_bytes ++ said)

-- A connection that comes to transmission: the handshake, and then the requests.
pub record Transmits {S : Type 0} (made : S → Call → Answer → S → Type 0) (export : List ℕ) (size : ℕ) (streams : Streams)
    (before after : S) (end : SessionEnd) : Type 0 where
  pub heard : List ℕ
  pub said : List ℕ
  pub exchanges : List Exchange
  pub last : List ℕ
  pub written : List ℕ
  pub missing : List ℕ
  pub negotiates : Negotiates export size heard said Go
  pub was_read : Reads streams (heard ++ (flat_map heard_of exchanges ++ last))
  pub was_written : Writes streams written
  pub output : written ++ missing ≡ greeting_bytes ++ said ++ flat_map reply_to exchanges
  pub right : AllByRecursion (IsExchange size) exchanges
  pub asked : Chain made before exchanges after
  pub ends : EndsTransmission size exchanges last missing streams.left_after end

-- The connection of a client to a store: what the streams did, the store before and after, and the end.
-- A handshake asks the store for nothing.
abbrev pub Session : {S : Type 0} → (S → Call → Answer → S → Type 0) → List ℕ → ℕ → Streams → S → S → SessionEnd → Type 0
Session made export size streams before after end =
    (EndsEarly export size streams end × (after ≡ before))
    ⊎ Transmits made export size streams before after end
