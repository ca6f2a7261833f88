use Rattle.std.proofs.Common.{◌≡◌, ℕ, ◌+◌, ◌-◌, ◌<◌, ◌≤◌, List, ◌++◌, Option, Ok, Err, arith, length, take, drop, length-append, length-take-le}
use Rattle.std.specs.Io.KnownBytes.{Consumes}
use Rattle.std.proofs.KnownBytes.{Consumes-trans}
use Rattle.std.proofs.lemmas.Grind.{common_steps}
use Rattle.std.proofs.lemmas.Result.{err_from_is_err_and}
use Rattle.fa_io.specs.Streams.{EndsReading, Skips}
use Rattle.fa_io.specs.declared.reading.ReadEnd.{ReadEnd}
use Rattle.fa_session_memory.specs.Memory.{IsModest, Receives}
use Rattle.fa_session_memory.specs.declared.memory.Received.TheVariants.{Dropped}
use Rattle.fa_session_memory.proofs.memory.DataMemory.receive.Goals as goal

-- modest in two steps, and where more came
modest-more : (before middle after at came : ℕ) → at ≤ came → IsModest before middle at → IsModest middle after at → IsModest before after came
modest-more before middle after at came more first second = omega (arith, more, first, second)

module _ (a b e : Option (List ℕ)) (count before at : ℕ) (memory after : List ℕ) where
  -- what came first stood in the memory, and the rest was dropped
  dropped : at ≤ count → at ≤ length memory → IsModest before (length after) at → Consumes a b (take at memory) → Skips b e (count - at) (Ok tt) → Receives a e count before after (Ok Dropped)
  dropped needed within modest first rest =
      let front = length-take-le at memory within in
      (take at memory ++ rest.0, simp length-append (omega (arith, front, rest.1, needed)), Consumes-trans a b e (take at memory) rest.0 first rest.2, modest-more before (length after) (length after) at count needed modest (omega arith))

  -- or stopped coming
  stopped : (fault : ReadEnd) (more : List ℕ) → at + length more < count → at ≤ length memory → IsModest before (length after) at → Consumes a b (take at memory) → Consumes b e more → EndsReading fault e → Receives a e count before after (Err fault)
  stopped fault more short within modest first rest ends =
      let front = length-take-le at memory within in
      let came : length (take at memory ++ more) ≡ at + length more = simp length-append (omega (arith, front)) in (
        (
          take at memory ++ more,
          omega (arith, came, short),
          Consumes-trans a b e (take at memory) more first rest,
          modest-more before (length after) (length after) at (length (take at memory ++ more)) (omega (arith, came)) modest (omega arith),
        ),
        ends,
      )

pub returns-in_err-drop_data-clause-received : goal.returns-in_err-drop_data-clause-received
returns-in_err-drop_data-clause-received g c =
    let kept = c.parts.invariant in
    let passed = err_from_is_err_and c.from_residual.result c.from_residual.ensures.1 in
    let skipped = c.in_err-drop_data.ensures.skipped in
    rw (passed.1, passed.2)
    (stopped _ _ _ c.args.count _ c.parts.at c.parts.self.bytes.items _ c.in_err-drop_data.field-0.0 skipped.0.0 (omega (arith, skipped.0.1)) kept.within
    (modest-more _ _ _ c.parts.at c.parts.at (omega arith) kept.modest (omega (arith, c.room.ensures.modest, c.drop_data.ensures.modest))) kept.consumed skipped.0.2 skipped.1)

pub returns-in_default-clause-received : goal.returns-in_default-clause-received
returns-in_default-clause-received g c =
    let kept = c.parts.invariant in
    dropped _ _ _ c.args.count _ c.parts.at c.parts.self.bytes.items _ kept.needed kept.within
    (modest-more _ _ _ c.parts.at c.parts.at (omega arith) kept.modest (omega (arith, c.room.ensures.modest, c.drop_data.ensures.modest))) kept.consumed c.in_ok-drop_data.ensures.skipped

pub returns-in_err-fill_part-clause-received : goal.returns-in_err-fill_part-clause-received
returns-in_err-fill_part-clause-received g c =
    let kept = c.parts.invariant in
    let passed = err_from_is_err_and c.from_residual-in_err-fill_part.result c.from_residual-in_err-fill_part.ensures.1 in
    let filled = c.in_err-fill_part.ensures.filled in
    let long : length (take c.room.new.self.bytes.len (c.fill_part.new.buffer ++ drop (length c.fill_part.new.buffer) c.room.new.self.bytes.items)) ≤ length c.room.new.self.bytes.items = grind (arith, common_steps) in
    rw (passed.1, passed.2)
    (stopped _ _ _ c.args.count _ c.parts.at c.parts.self.bytes.items _ c.in_err-fill_part.field-0.0 filled.0.0 (omega (arith, filled.0.1, c.in-Ok.ensures.needed)) kept.within
    (modest-more _ _ _ c.parts.at c.parts.at (omega arith) kept.modest (omega (arith, c.room.ensures.modest, long))) kept.consumed filled.0.2 filled.1)
