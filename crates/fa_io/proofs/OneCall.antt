-- What one read and one write did, by what their answer means.
use Rattle.std.proofs.Common.{◌≢◌, ℕ, zero, suc, ◌<◌, arith, List, length, Option, Some, None, Result, Ok, Err, refl}
use Rattle.std.specs.Option.{IfSome}
use Rattle.std.specs.Io.{ReadsAtMost, WritesAtMost}
use Rattle.std.specs.Io.KnownBytes.{Keeps, ReadConsumes, WriteAppends}
use Rattle.std.proofs.lemmas.Bool.{ne_eqb}
use Rattle.std.proofs.KnownBytes.{Consumes-nil, Consumes-kept, Appends-nil, Appends-kept}
use Rattle.std.specs.IoError.{error_kind}
use Rattle.std.specs.declared.io.Error.{Error}
use Rattle.std.specs.declared.io.ErrorKind.{ErrorKind}
use Rattle.std.specs.declared.io.ErrorKind.TheVariants.{Interrupted}
use Rattle.fa_io.specs.declared.answers.CallFault.{CallFault}
use Rattle.fa_io.specs.Answers.{kind_of, fault_of_kind, read_fault, meaning_of_read, write_fault, meaning_of_write}
use Rattle.fa_io.specs.Streams.{ReadsOnce, WritesOnce}

-- the fault of an error is no interruption
fault-kind : (kind : ErrorKind) → IfSome (fault_of_kind kind) (λ fault. kind_of fault ≢ Interrupted)
fault-kind Interrupted = tt
fault-kind kind = λ same. cc

module _ (old new : Option (List ℕ)) (buffer : List ℕ) where
  ReadsOnce-fault : (fault : Option CallFault) → IfSome fault (λ f. kind_of f ≢ Interrupted) → Keeps old new → ReadsOnce old new buffer (read_fault fault)
  ReadsOnce-fault None known kept = Consumes-kept old old new _ (Consumes-nil old) kept
  ReadsOnce-fault (Some fault) known kept = (Consumes-kept old old new _ (Consumes-nil old) kept, known)

  pub ReadsOnce-meaning : (answer : Result ℕ Error) → 0 < length buffer → ReadsAtMost answer buffer → ReadConsumes old new answer buffer → ReadsOnce old new buffer (meaning_of_read answer)
  ReadsOnce-meaning (Ok zero) room most consumed = (consumed.1 refl room, consumed.0)
  ReadsOnce-meaning (Ok (suc n)) room most consumed =
      let some = ne_eqb (suc n) 0 (λ none. omega (arith, none)) in
      rw some (omega arith, most.0, consumed.0)
  ReadsOnce-meaning (Err e) room most kept = ReadsOnce-fault (fault_of_kind (error_kind e)) (fault-kind (error_kind e)) kept

  WritesOnce-fault : (fault : Option CallFault) → IfSome fault (λ f. kind_of f ≢ Interrupted) → Keeps old new → WritesOnce old new buffer (write_fault fault)
  WritesOnce-fault None known kept = Appends-kept old old new _ (Appends-nil old) kept
  WritesOnce-fault (Some fault) known kept = (Appends-kept old old new _ (Appends-nil old) kept, known)

  pub WritesOnce-meaning : (answer : Result ℕ Error) → WritesAtMost answer buffer → WriteAppends old new answer buffer → WritesOnce old new buffer (meaning_of_write answer)
  WritesOnce-meaning (Ok zero) most appended = (appended, λ same. cc)
  WritesOnce-meaning (Ok (suc n)) most appended =
      let some = ne_eqb (suc n) 0 (λ none. omega (arith, none)) in
      rw some (omega arith, most, appended)
  WritesOnce-meaning (Err e) most kept = WritesOnce-fault (fault_of_kind (error_kind e)) (fault-kind (error_kind e)) kept
