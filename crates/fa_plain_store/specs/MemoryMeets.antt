-- The plain store is a block store: each call that it makes is one, and all of its bytes are seen.
use Rattle.std.proofs.Common.{lit≤, ◌≡◌, ℕ, ◌+◌, ◌≤◌, List, length, replicate, slice_index, refl, ap, ◌∙◌, arith}
use Rattle.std.proofs.Common.{length-append, length-take, length-drop}
use Rattle.std.proofs.lemmas.List.{length-replicate}
use Rattle.std.proofs.lemmas.Bool.{false≢true}
use Rattle.fa_types.proofs.Lengths.{length-with_bytes, length-bytes_at}
use Rattle.fa_types.specs.Store.{Call, Reading, Writing, Zeroing, Trimming, Flushing, Answer, Gave, Done, Refused}
use Rattle.fa_types.specs.Store.{Meets, IsUnwritten, IsWritten, IsWhole, with_bytes, bytes_at, whole_offset, whole_length}
use Rattle.fa_plain_store.specs.Memory.{memory_view, MemoryMade, without_pages}
use Rattle.fa_types.specs.declared.blocks.BlockFault.TheVariants.{Lost, NoRoom, NoMemory, Spent}

-- a trim keeps the length
length-without_pages : (offset len : ℕ) (content : List ℕ) → offset + len ≤ length content
    → length (without_pages offset len content) ≡ length content
length-without_pages offset len content fits = simp (length-append, length-take, length-drop, length-replicate) (omega arith)

-- the same bytes after as before
unwritten : (before after : List ℕ) → after ≡ before → IsUnwritten (memory_view before) (memory_view after)
unwritten before after same = record {
  content = λ i below kept. ap (λ bytes. slice_index bytes i) same;
  lost = λ page was. absurd (false≢true was);
}

-- the bytes of a write
written : (before after : List ℕ) (offset : ℕ) (bytes : List ℕ) → after ≡ with_bytes offset bytes before
    → IsWritten (memory_view before) (memory_view after) offset bytes
written before after offset bytes put = record {
  content = λ i below kept. ap (λ content. slice_index content i) put;
  lost = λ page was. absurd (false≢true was);
  whole = λ page was met. absurd (false≢true was);
}

pub memory_meets : (before after : List ℕ) (call : Call) (answer : Answer) → MemoryMade before call answer after
    → Meets (memory_view before) call answer (memory_view after)
memory_meets before after (Reading offset len) (Gave bytes) made = record {
  size = ap length made.2;
  page_bytes = refl;
  alone = refl;
  gives = ap length made.1 ∙ length-bytes_at offset len before made.0;
  served = λ alone. (made.1, (λ page was met. absurd (false≢true was)), unwritten before after made.2);
}
memory_meets before after (Reading offset len) (Refused NoMemory) made = record {
  size = ap length made;
  page_bytes = refl;
  alone = refl;
  gives = tt;
  served = λ alone. (tt, unwritten before after made);
}
memory_meets before after (Writing offset bytes fua) Done made = record {
  size = ap length made.1 ∙ length-with_bytes offset bytes before made.0;
  page_bytes = refl;
  alone = refl;
  gives = tt;
  served = λ alone. written before after offset bytes made.1;
}
memory_meets before after (Zeroing offset len fua hole) Done made = record {
  size = ap length made.1 ∙ length-with_bytes offset (replicate len 0) before (rw length-replicate made.0);
  page_bytes = refl;
  alone = refl;
  gives = tt;
  served = λ alone. written before after offset (replicate len 0) made.1;
}
memory_meets before after (Trimming offset len fua) Done made = record {
  size = ap length made.1 ∙ length-without_pages offset len before made.0;
  page_bytes = refl;
  alone = refl;
  gives = tt;
  served = λ alone. written before after (whole_offset 512 offset) (replicate (whole_length 512 offset len) 0) made.1;
}
memory_meets before after Flushing Done made = record {
  size = ap length made;
  page_bytes = refl;
  alone = refl;
  gives = tt;
  served = λ alone. unwritten before after made;
}
memory_meets before after (Reading offset len) Done made = absurd made
memory_meets before after (Reading offset len) (Refused Lost) made = absurd made
memory_meets before after (Reading offset len) (Refused NoRoom) made = absurd made
memory_meets before after (Reading offset len) (Refused Spent) made = absurd made
memory_meets before after (Writing offset bytes fua) (Gave given) made = absurd made
memory_meets before after (Writing offset bytes fua) (Refused fault) made = absurd made
memory_meets before after (Zeroing offset len fua hole) (Gave given) made = absurd made
memory_meets before after (Zeroing offset len fua hole) (Refused fault) made = absurd made
memory_meets before after (Trimming offset len fua) (Gave given) made = absurd made
memory_meets before after (Trimming offset len fua) (Refused fault) made = absurd made
memory_meets before after Flushing (Gave given) made = absurd made
memory_meets before after Flushing (Refused fault) made = absurd made

pub memory_whole : (bytes : List ℕ) → IsWhole (memory_view bytes)
memory_whole bytes = record { some_bytes = lit≤ tt; sized = λ alone. refl }
