-- What one answer of a reader or a writer means.
use Rattle.std.specs.Prelude.{ℕ, ◌==◌, if◌then◌else◌, Option, Some, None, Result, Ok, Err}
use Rattle.std.specs.IoError.{error_kind}
use Rattle.std.specs.declared.io.Error.{Error}
use Rattle.std.specs.declared.io.ErrorKind.{ErrorKind}
use Rattle.std.specs.declared.io.ErrorKind.TheVariants.{Interrupted, WriteZero}
use Rattle.fa_io.specs.declared.answers.CallFault.{CallFault}
use Rattle.fa_io.specs.declared.answers.ReadMeaning.{ReadMeaning}
use Rattle.fa_io.specs.declared.answers.ReadMeaning.TheVariants.{Bytes as Came, EndOfInput, Again as ReadAgain, Failed as ReadFailed}
use Rattle.fa_io.specs.declared.answers.WriteMeaning.{WriteMeaning}
use Rattle.fa_io.specs.declared.answers.WriteMeaning.TheVariants.{Bytes as Taken, Again as WriteAgain, Failed as WriteFailed}

-- the kind of a fault
abbrev pub kind_of : CallFault → ErrorKind
kind_of fault = fault.kind

-- the fault that an error of a kind is: none where the call was interrupted
abbrev pub fault_of_kind : ErrorKind → Option CallFault
fault_of_kind Interrupted = None
fault_of_kind kind = Some (record { kind = kind })

-- what an error of a reader means
abbrev pub read_fault : Option CallFault → ReadMeaning
read_fault None = ReadAgain
read_fault (Some fault) = ReadFailed fault

-- what an answer of a reader to a buffer with room means
abbrev pub meaning_of_read : Result ℕ Error → ReadMeaning
meaning_of_read (Ok n) = if n == 0 then EndOfInput else Came n
meaning_of_read (Err e) = read_fault (fault_of_kind (error_kind e))

-- what an error of a writer means
abbrev pub write_fault : Option CallFault → WriteMeaning
write_fault None = WriteAgain
write_fault (Some fault) = WriteFailed fault

-- what an answer of a writer to some bytes means
abbrev pub meaning_of_write : Result ℕ Error → WriteMeaning
meaning_of_write (Ok n) = if n == 0 then WriteFailed (record { kind = WriteZero }) else Taken n
meaning_of_write (Err e) = write_fault (fault_of_kind (error_kind e))
