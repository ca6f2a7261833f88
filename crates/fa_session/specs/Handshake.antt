-- What the parts of a handshake come to.
use Rattle.std.specs.Prelude.{◌≡◌, ℕ, ◌≤◌, List, [], ◌++◌, length, Result, Ok, Err}
use Rattle.fa_io.specs.Streams.{Streams, Reads, Writes, WritesPart, EndsReading}
use Rattle.fa_nego.specs.NegoState.{NegoState, IsAt, wanted, step_of}
use Rattle.fa_nego.specs.declared.step.Step.{Step}
use Rattle.fa_session.specs.Session.{EndsEarly, Greets}
use Rattle.fa_session.specs.declared.stream_end.HearEnd.{HearEnd}
use Rattle.fa_session.specs.declared.stream_end.HearEnd.TheVariants.{Unread, Unsent, NoMemory}
use Rattle.fa_session.specs.declared.session_end.SessionEnd.{SessionEnd}

-- A piece of the client's bytes, no longer than was wanted, that was heard, and the answer to it.
pub record HearsPiece (streams : Streams) (old new : NegoState) (sent : List ℕ → Type 0) : Type 0 where
  pub piece : List ℕ
  pub latest : List ℕ
  pub not_long : length piece ≤ wanted old.stage
  pub was_read : Reads streams piece
  pub answered : (heard said : List ℕ) → IsAt old heard said → IsAt new (heard ++ piece) (said ++ latest)
  pub replied : sent latest

-- what hearing once came to
abbrev pub HearsOnce : Streams → NegoState → NegoState → Result Step HearEnd → Type 0
HearsOnce streams old new (Ok step) = HearsPiece streams old new (Writes streams) × (step ≡ step_of new.stage)
HearsOnce streams old new (Err (Unsent failed)) = HearsPiece streams old new (WritesPart streams)
HearsOnce streams old new (Err (Unread end)) =
    Reads streams [] × EndsReading end streams.left_after × Writes streams [] × (new ≡ old)
HearsOnce streams old new (Err NoMemory) =
    ((piece : List ℕ) × (length piece ≤ wanted old.stage) × Reads streams piece) × Writes streams [] × (new ≡ old)

-- what the handshake came to
abbrev pub Negotiated : List ℕ → ℕ → Streams → Result (Unit {0}) SessionEnd → Type 0
Negotiated export size streams (Ok done) = Greets export size streams
Negotiated export size streams (Err end) = EndsEarly export size streams end
