-- The numbers of the ends of a connection, and which end comes of a stream that ends or fails.
use Rattle.std.specs.Prelude.{ℕ}
use Rattle.fa_io.specs.declared.reading.ReadEnd.{ReadEnd}
use Rattle.fa_io.specs.declared.reading.ReadEnd.TheVariants.{EndOfInput, Failed, TooManyReads}
use Rattle.fa_session.specs.declared.stream_end.StreamEnd.{StreamEnd}
use Rattle.fa_session.specs.declared.stream_end.StreamEnd.TheVariants.{Unread, Unsent}
use Rattle.fa_session.specs.declared.stream_end.HearEnd.{HearEnd}
use Rattle.fa_session.specs.declared.stream_end.HearEnd.TheVariants.{Unread as Unheard, Unsent as Unanswered, NoMemory as HearNoMemory}
use Rattle.fa_session.specs.declared.session_end.SessionEnd.{SessionEnd}
use Rattle.fa_session.specs.declared.session_end.SessionEnd.TheVariants.{Disconnected, Aborted, Closed}
use Rattle.fa_session.specs.declared.session_end.SessionEnd.TheVariants.{InputEnded, ReadFailed, WriteFailed, NoMemory}

abbrev pub end_number : SessionEnd → ℕ
end_number Disconnected = 1
end_number Aborted = 2
end_number Closed = 3
end_number InputEnded = 4
end_number ReadFailed = 5
end_number WriteFailed = 6
end_number NoMemory = 7

-- how the connection ends where no byte comes
abbrev pub end_of_read : ReadEnd → SessionEnd
end_of_read EndOfInput = InputEnded
end_of_read (Failed fault) = ReadFailed
end_of_read TooManyReads = ReadFailed

-- how it ends in an exchange
abbrev pub end_of_stream : StreamEnd → SessionEnd
end_of_stream (Unread end) = end_of_read end
end_of_stream (Unsent failed) = WriteFailed

-- how it ends in a piece of a handshake
abbrev pub end_of_hearing : HearEnd → SessionEnd
end_of_hearing (Unheard end) = end_of_read end
end_of_hearing (Unanswered failed) = WriteFailed
end_of_hearing HearNoMemory = NoMemory
