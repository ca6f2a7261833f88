-- Each request serves, from its beginning to its end.
use Rattle.fa_solo_laws.proofs.ReadBack.{reached_on}
use Rattle.fa_solo_laws.proofs.Causes.{Cause, KnowsLive, cause_founds}
use Rattle.fa_solo_laws.proofs.Going.{Laws, geometry_kept}
use Rattle.fa_solo_laws.proofs.PlainBytes.{export_long}
use Rattle.fa_solo_laws.proofs.PutBytes.{with_none}
use Rattle.fa_solo_laws.proofs.PutPage.{bytes_for}
use Rattle.fa_solo_laws.proofs.RangePages.{page_of, upto, upto_first, upto_past}
use Rattle.fa_solo_laws.proofs.ReadServes.{read_fits, read_gives, read_may, read_on_end, read_refused}
use Rattle.fa_solo_laws.proofs.ReadStages.{Fits, no_stray as no_stray_read}
use Rattle.fa_solo_laws.proofs.Sized.{page_some, reached_sized}
use Rattle.fa_solo_laws.proofs.WriteServes.{begins, first_past, wrote_all, wrote_is, wrote_none}
use Rattle.fa_solo_laws.proofs.WriteEvents.{EndsAt, WritesAt, from_on}
use Rattle.fa_solo_laws.proofs.WriteStages.{no_stray, writes_on}
use Rattle.fa_solo_laws.proofs.WriteWorlds.{IsAt}
use Rattle.fa_solo_laws.specs.Asked.{Asked, GivesUp, Makes, Meanwhile, Moment, Readies, Strayed, Turn, TurnsTo}
use Rattle.fa_solo_laws.specs.Begun.{HasBegun, IsCalm}
use Rattle.fa_solo_laws.specs.Calls.{HasBytes, answer_of, call_of}
use Rattle.fa_solo_laws.specs.Shown.{store_of}
use Rattle.fa_laws.proofs.Answering.{reached_holds}
use Rattle.fa_laws.specs.Reached.{IsReached}
use Rattle.fa_machine.specs.Run.{Event}
use Rattle.fa_machine.specs.World.{World}
use Rattle.fa_shared_steps.specs.Stages.{from_page}
use Rattle.fa_shared_steps.specs.Ranges.{first_page, past_page}
use Rattle.fa_shared_steps.specs.Tasks.{task_of, whole_range, zeros_as}
use Rattle.fa_shared_steps.specs.declared.range.Range.{Range}
use Rattle.fa_shared_steps.specs.declared.request.Request.{Request}
use Rattle.fa_shared_steps.specs.declared.request.Request.TheVariants.{Flush, Read, Trim, Write, Zero}
use Rattle.fa_shared_steps.specs.declared.request.Task.{Task}
use Rattle.fa_shared_steps.specs.declared.stage.Stage.{Stage}
use Rattle.fa_shared_steps.specs.declared.stage.Stage.TheVariants.{Ended}
use Rattle.fa_types.specs.Plain.{export}
use Rattle.fa_types.proofs.Lengths.{length-bytes_at}
use Rattle.fa_types.specs.Store.{Answer, Done, Flushing, IsAnswer, Meets, Reading, HasCause, IsCutShort, IsUnwritten, IsWritten, IsZeroed, Refused, Serves}
use Rattle.fa_types.specs.Store.{StopsAfter, Store, Trimming, Zeroing, first_whole, whole_length, whole_offset}
use Rattle.fa_types.specs.declared.blocks.BlockFault.{BlockFault}
use Rattle.fa_types.specs.declared.geometry.Geometry.{Geometry}
use Rattle.fa_types.specs.declared.blocks.BlockFault.TheVariants.{Lost, NoMemory, NoRoom, Spent}
use Rattle.std.proofs.Common.{Bool, List, None, Option, Some, [], ap, arith, false, inl, inr, length, refl, replicate, subst, suc, sym, true, ℕ}
use Rattle.std.proofs.Common.{◌*◌, ◌+◌, ◌-◌, ◌/◌, ◌<◌, ◌∙◌, ◌∷◌, ◌≡◌, ◌≤◌, ◌⊎◌}
use Rattle.std.proofs.Math.Nat.{add-mul, div-mul-le_self, lt-div-mul-add, mul-le-mul_right, mul-mod_left, suc-mul, zero-mul}
use Rattle.std.proofs.lemmas.Bool.{cases_Bool, cases_eq, cases_lt, false≢true, leb-false, leb-true}
use Rattle.std.proofs.lemmas.List.{length-replicate}
use Rattle.std.specs.Prelude.{if◌then◌else◌, nat_le, slice_index, ◌%◌}

module _ (A : Type 0) (laws : Laws) (t : Task) (seat : ℕ) (bytes : List ℕ) (first : World) (f : Fits first t.range)
    (long : length (bytes_for t.fill t.range bytes) ≡ t.range.to - t.range.from) where
  abbrev all : List ℕ
  all = bytes_for t.fill t.range bytes

  abbrev pub At : World → Stage A → Type 0
  At = WritesAt A laws t seat bytes first f long (Cause laws first t.range f) KnowsLive (cause_founds laws first t.range f)

  -- where a request that is refused stops
  stops : (page : ℕ) (fault : BlockFault)
      → EndsAt A laws t seat bytes first f long (Cause laws first t.range f) KnowsLive (cause_founds laws first t.range f) page fault
      → StopsAfter first.core.page_map.geometry.page_bytes t.range.from (length all) t.flush fault (upto t.range page)
  stops page fault (inr behind) = inr (inr (
    ap (upto t.range) behind.0 ∙ upto_past first.core.page_map.geometry.pages t.range f.inside (past_page t.range) (omega arith) ∙ sym long,
    behind.1,
    behind.2,
  ))
  stops page fault (inl at) =
      let size : ℕ = t.range.page_bytes in
      let some : 0 < size = let n = f.inside.some_bytes in omega (arith, n) in
      elim (cases_eq page (first_page t.range)) [
        | inl same ↦ inl (ap (upto t.range) same ∙ upto_first first.core.page_map.geometry.pages t.range f.inside)
        | inr apart ↦
            let from = at.from in
            let up : t.range.from < t.range.from / size * size + size = lt-div-mul-add some in
            let next = suc-mul (t.range.from / size) size in
            let further : suc (t.range.from / size) * size ≤ page * size =
            mul-le-mul_right size (let above : suc (t.range.from / size) ≤ page = omega (arith, from, apart) in above) in
            let below = before page at in
            let whole : t.range.from + upto t.range page ≡ page * size = omega (arith, up, next, further, below) in
            inr (inl (
              omega (arith, up, next, further, below, long),
              ap (λ n. (t.range.from + upto t.range page) % n) (sym f.same) ∙ ap (λ n. n % size) whole ∙ mul-mod_left page size,
            ))
      ]
    where
      before : (page : ℕ) → IsAt t.range first all page → page * t.range.page_bytes < t.range.to
      before page at = (page_of first.core.page_map.geometry.pages t.range f.inside page at.from at.past).begins

  -- a write that was refused was cut short for a cause
  pub cut_short : (w : World) (fault : BlockFault) → At w (Ended (Some fault)) → IsCutShort (store_of first) t.range.from all t.flush fault (store_of w)
  cut_short w fault k = (
    subst (λ n. HasCause (store_of w) t.range.from n fault) (sym long) k.0,
    (
      upto t.range k.1.0,
      stops k.1.0 fault k.1.2,
      wrote_is t.range first f all long k.1.0 w k.1.1,
    ),
  )

  pub done : (w : World) → At w (Ended None) → IsWritten (store_of first) (store_of w) t.range.from all
  done w k = wrote_all t.range first f all long w k

-- nothing is written where no byte is
unwritten_none : (before after : Store) (offset : ℕ) → IsUnwritten before after → IsWritten before after offset []
unwritten_none before after offset u = record {
  content = λ i low lost. u.content i low lost ∙ ap (λ bytes. slice_index bytes i) (sym (with_none offset before.content));
  lost = λ page was. inl (u.lost page was);
  whole = λ page was met. absurd (let from = met.2.0 in let to = met.2.1 in omega (arith, from, to));
}

-- of no bytes none is met
no_bytes_cause : (after : Store) (one two : ℕ) (fault : BlockFault) → HasCause after one 0 fault → HasCause after two 0 fault
no_bytes_cause after one two Lost (inl none) = inl none
no_bytes_cause after one two Lost (inr lost) = absurd (let from = lost.2.2.0 in let to = lost.2.2.1 in omega (arith, from, to))
no_bytes_cause after one two NoRoom cause = cause
no_bytes_cause after one two NoMemory cause = tt
no_bytes_cause after one two Spent cause = cause

zeros_for : (hole : Bool) (r : Range) (bytes : List ℕ) → bytes_for (Some (zeros_as hole)) r bytes ≡ replicate (r.to - r.from) 0
zeros_for true r bytes = refl
zeros_for false r bytes = refl

abbrev pub zero_answer : Option BlockFault → Answer
zero_answer None = Done
zero_answer (Some fault) = Refused fault

-- the whole pages of a range that has one
whole_from : (page_bytes offset count : ℕ) → nat_le (whole_offset page_bytes offset) ((offset + count) / page_bytes * page_bytes) ≡ true
    → (whole_range page_bytes offset count).from ≡ whole_offset page_bytes offset
whole_from page_bytes offset count is =
    ap (λ b. if b then whole_offset page_bytes offset else (offset + count) / page_bytes * page_bytes) is

whole_empty : (page_bytes offset count : ℕ) → nat_le (whole_offset page_bytes offset) ((offset + count) / page_bytes * page_bytes) ≡ false
    → (whole_range page_bytes offset count).from ≡ (offset + count) / page_bytes * page_bytes
whole_empty page_bytes offset count is =
    ap (λ b. if b then whole_offset page_bytes offset else (offset + count) / page_bytes * page_bytes) is

sub-mul : (a b n : ℕ) → (a - b) * n ≡ a * n - b * n
sub-mul a b n =
    elim (cases_le b a) [
      | inl low ↦
          let sum = add-mul (a - b) b n in let same : a - b + b ≡ a = omega (arith, low) in
          let whole : (a - b + b) * n ≡ a * n = ap (λ k. k * n) same in omega (arith, sum, whole)
      | inr high ↦
          let none : (a - b) * n ≡ 0 = ap (λ k. k * n) (let zero_is : a - b ≡ 0 = omega (arith, high) in zero_is) ∙ zero-mul n in
          let more : a * n ≤ b * n = mul-le-mul_right n high in omega (arith, none, more)
    ]
  where
    cases_le : (x y : ℕ) → (x ≤ y) ⊎ (y ≤ x)
    cases_le x y = elim (cases_lt x y) [ inl low ↦ inl (omega (arith, low)) | inr high ↦ inr high ]

whole_count : (page_bytes offset count : ℕ) → (offset + count) / page_bytes * page_bytes - whole_offset page_bytes offset ≡ whole_length page_bytes offset count
whole_count page_bytes offset count = sym (sub-mul ((offset + count) / page_bytes) (first_whole page_bytes offset) page_bytes)

module _ (A : Type 0) (laws : Laws) (before : Moment A) where
  abbrev start : World
  start = before.world

  abbrev size : ℕ
  size = start.core.page_map.geometry.page_bytes

  -- a request that writes, from its first page on
  goes_at : (t : Task) (f : Fits start t.range) (seat : ℕ) (bytes : List ℕ) (long : length (bytes_for t.fill t.range bytes) ≡ t.range.to - t.range.from)
      → IsReached start → IsCalm start → before.stage ≡ from_page t (first_page t.range) → (turns : List Turn) (after : Moment A)
      → Asked t seat bytes before turns after → At A laws t seat bytes start f long after.world after.stage
  goes_at t f seat bytes long reached calm begun turns after asked =
      writes_on A laws t seat bytes start f long (Cause laws start t.range f) KnowsLive (cause_founds laws start t.range f) before turns after
      (subst (At A laws t seat bytes start f long start) (sym begun)
      (from_on A laws t seat bytes start f long (Cause laws start t.range f) KnowsLive (cause_founds laws start t.range f) start (first_page t.range) (omega arith)
      (first_past t.range start f (bytes_for t.fill t.range bytes) long) (begins t.range start f (bytes_for t.fill t.range bytes) long laws reached calm))) asked

  ends_at : (t : Task) (f : Fits start t.range) (seat : ℕ) (bytes : List ℕ) (long : length (bytes_for t.fill t.range bytes) ≡ t.range.to - t.range.from)
      → IsReached start → IsCalm start → before.stage ≡ from_page t (first_page t.range) → (turns : List Turn) (after : Moment A)
      → Asked t seat bytes before turns after → (end : Option BlockFault) → after.stage ≡ Ended end → At A laws t seat bytes start f long after.world (Ended end)
  ends_at t f seat bytes long reached calm begun turns after asked end ended =
      subst (At A laws t seat bytes start f long after.world) ended (goes_at t f seat bytes long reached calm begun turns after asked)

  write_fits : (offset count : ℕ) (fua : Bool) → HasBegun (Write offset count fua) before → Fits start (task_of size (Write offset count fua)).range
  write_fits offset count fua h = record {
    same = refl;
    inside = record { some_bytes = page_some start.core.page_map.geometry; ordered = omega arith; inside = h.inside };
    sized = reached_sized laws.geometry start h.reached;
    many = (reached_holds start h.reached).plain;
  }

  write_long : (offset count : ℕ) (bytes : List ℕ) → length bytes ≡ count → length bytes ≡ offset + count - offset
  write_long offset count bytes many = omega (arith, many)

  pub write_serves : (offset count : ℕ) (fua : Bool) → HasBegun (Write offset count fua) before → (seat : ℕ) (bytes : List ℕ) → length bytes ≡ count
      → (turns : List Turn) (after : Moment A) → Asked (task_of size (Write offset count fua)) seat bytes before turns after
      → (end : Option BlockFault) → after.stage ≡ Ended end
      → Serves (store_of start) (call_of (Write offset count fua) bytes) (answer_of (Write offset count fua) end after.answer) (store_of after.world)
  write_serves offset count fua h seat bytes many turns after asked end ended =
      by_end end (ends_at (task_of size (Write offset count fua)) (write_fits offset count fua h) seat bytes (write_long offset count bytes many)
      h.reached h.calm h.stage turns after asked end ended)
    where
      by_end : (end : Option BlockFault)
          → At A laws (task_of size (Write offset count fua)) seat bytes start (write_fits offset count fua h) (write_long offset count bytes many) after.world (Ended end)
          → Serves (store_of start) (call_of (Write offset count fua) bytes) (answer_of (Write offset count fua) end after.answer) (store_of after.world)
      by_end None k =
          done A laws (task_of size (Write offset count fua)) seat bytes start (write_fits offset count fua h) (write_long offset count bytes many) after.world k
      by_end (Some fault) k =
          cut_short A laws (task_of size (Write offset count fua)) seat bytes start (write_fits offset count fua h) (write_long offset count bytes many) after.world fault k

  -- zeros over a range of bytes
  zeroed : (t : Task) (f : Fits start t.range) (seat : ℕ) (bytes : List ℕ) (long : length (bytes_for t.fill t.range bytes) ≡ t.range.to - t.range.from)
      → bytes_for t.fill t.range bytes ≡ replicate (t.range.to - t.range.from) 0 → (w : World) (end : Option BlockFault)
      → At A laws t seat bytes start f long w (Ended end)
      → IsZeroed (store_of start) t.range.from (t.range.to - t.range.from) t.flush (zero_answer end) (store_of w)
  zeroed t f seat bytes long zeros w None k =
      subst (IsWritten (store_of start) (store_of w) t.range.from) zeros (done A laws t seat bytes start f long w k)
  zeroed t f seat bytes long zeros w (Some fault) k =
      subst (λ all. IsCutShort (store_of start) t.range.from all t.flush fault (store_of w)) zeros (cut_short A laws t seat bytes start f long w fault k)

  zero_fits : (offset count : ℕ) (fua hole : Bool) → HasBegun (Zero offset count fua hole) before → Fits start (task_of size (Zero offset count fua hole)).range
  zero_fits offset count fua hole h = record {
    same = refl;
    inside = record { some_bytes = page_some start.core.page_map.geometry; ordered = omega arith; inside = h.inside };
    sized = reached_sized laws.geometry start h.reached;
    many = (reached_holds start h.reached).plain;
  }

  zero_long : (r : Range) (hole : Bool) (bytes : List ℕ) → length (bytes_for (Some (zeros_as hole)) r bytes) ≡ r.to - r.from
  zero_long r hole bytes = ap length (zeros_for hole r bytes) ∙ length-replicate (r.to - r.from) 0

  pub zero_serves : (offset count : ℕ) (fua hole : Bool) → HasBegun (Zero offset count fua hole) before → (seat : ℕ) (bytes : List ℕ)
      → (turns : List Turn) (after : Moment A) → Asked (task_of size (Zero offset count fua hole)) seat bytes before turns after
      → (end : Option BlockFault) → after.stage ≡ Ended end
      → IsZeroed (store_of start) offset count fua (zero_answer end) (store_of after.world)
  zero_serves offset count fua hole h seat bytes turns after asked end ended =
      let t = task_of size (Zero offset count fua hole) in
      let long = zero_long t.range hole bytes in
      subst (λ n. IsZeroed (store_of start) offset n fua (zero_answer end) (store_of after.world)) (let same : offset + count - offset ≡ count = omega arith in same)
      (zeroed t (zero_fits offset count fua hole h) seat bytes long (zeros_for hole t.range bytes) after.world end
      (ends_at t (zero_fits offset count fua hole h) seat bytes long h.reached h.calm h.stage turns after asked end ended))

  trim_fits : (offset count : ℕ) (fua : Bool) → HasBegun (Trim offset count fua) before → Fits start (task_of size (Trim offset count fua)).range
  trim_fits offset count fua h = record {
    same = refl;
    inside = record {
      some_bytes = page_some start.core.page_map.geometry;
      ordered = elim (cases_Bool (nat_le (whole_offset size offset) ((offset + count) / size * size))) [
        | inl is ↦ let from = whole_from size offset count is in let low = leb-true _ _ is in omega (arith, from, low)
        | inr is ↦ let from = whole_empty size offset count is in omega (arith, from)
      ];
      inside = let down : (offset + count) / size * size ≤ offset + count = div-mul-le_self (offset + count) size in let inside = h.inside in omega (arith, down, inside);
    };
    sized = reached_sized laws.geometry start h.reached;
    many = (reached_holds start h.reached).plain;
  }

  -- of no bytes the zeros are nowhere
  no_zeros : (t : Task) (f : Fits start t.range) (seat : ℕ) (bytes : List ℕ) (long : length (bytes_for t.fill t.range bytes) ≡ t.range.to - t.range.from)
      → t.range.from ≡ t.range.to → (offset : ℕ) (w : World) (end : Option BlockFault) → At A laws t seat bytes start f long w (Ended end)
      → IsZeroed (store_of start) offset 0 t.flush (zero_answer end) (store_of w)
  no_zeros t f seat bytes long empty offset w None k =
      unwritten_none (store_of start) (store_of w) offset (wrote_none t.range start f (bytes_for t.fill t.range bytes) long (past_page t.range) w k empty)
  no_zeros t f seat bytes long empty offset w (Some fault) k = (
    no_bytes_cause (store_of w) t.range.from offset fault
        (subst (λ n. HasCause (store_of w) t.range.from n fault) (let none : t.range.to - t.range.from ≡ 0 = omega (arith, empty) in none) k.0),
    (0, inl refl, unwritten_none (store_of start) (store_of w) offset (wrote_none t.range start f (bytes_for t.fill t.range bytes) long k.1.0 w k.1.1 empty)),
  )

  pub trim_serves : (offset count : ℕ) (fua : Bool) → HasBegun (Trim offset count fua) before → (seat : ℕ) (bytes : List ℕ)
      → (turns : List Turn) (after : Moment A) → Asked (task_of size (Trim offset count fua)) seat bytes before turns after
      → (end : Option BlockFault) → after.stage ≡ Ended end
      → IsZeroed (store_of start) (whole_offset size offset) (whole_length size offset count) fua (zero_answer end) (store_of after.world)
  trim_serves offset count fua h seat bytes turns after asked end ended =
      let t = task_of size (Trim offset count fua) in
      let f = trim_fits offset count fua h in
      let long : length (bytes_for t.fill t.range bytes) ≡ t.range.to - t.range.from = length-replicate (t.range.to - t.range.from) 0 in
      let k = ends_at t f seat bytes long h.reached h.calm h.stage turns after asked end ended in
      elim (cases_Bool (nat_le (whole_offset size offset) ((offset + count) / size * size))) [
        | inl is ↦
            let from = whole_from size offset count is in
            subst (λ n. IsZeroed (store_of start) (whole_offset size offset) n fua (zero_answer end) (store_of after.world)) (whole_count size offset count)
            (subst (λ o. IsZeroed (store_of start) o ((offset + count) / size * size - o) fua (zero_answer end) (store_of after.world)) from
            (zeroed t f seat bytes long refl after.world end k))
        | inr is ↦
            let high = leb-false _ _ is in
            subst (λ n. IsZeroed (store_of start) (whole_offset size offset) n fua (zero_answer end) (store_of after.world))
            (let same : (offset + count) / size * size - whole_offset size offset ≡ 0 = omega (arith, high) in sym same ∙ whole_count size offset count)
            (no_zeros t f seat bytes long (whole_empty size offset count is) (whole_offset size offset) after.world end k)
      ]

  flush_fits : HasBegun Flush before → Fits start (task_of size Flush).range
  flush_fits h = record {
    same = refl;
    inside = record { some_bytes = page_some start.core.page_map.geometry; ordered = omega arith; inside = omega arith };
    sized = reached_sized laws.geometry start h.reached;
    many = (reached_holds start h.reached).plain;
  }

  flush_long : (bytes : List ℕ) → length (bytes_for None (task_of size Flush).range bytes) ≡ 0
  flush_long bytes = refl

  flush_goes : (h : HasBegun Flush before) (seat : ℕ) (bytes : List ℕ) (turns : List Turn) (after : Moment A)
      → Asked (task_of size Flush) seat bytes before turns after
      → At A laws (task_of size Flush) seat bytes start (flush_fits h) (flush_long bytes) after.world after.stage
  flush_goes h seat bytes turns after asked =
      writes_on A laws (task_of size Flush) seat bytes start (flush_fits h) (flush_long bytes) (Cause laws start (task_of size Flush).range (flush_fits h)) KnowsLive
      (cause_founds laws start (task_of size Flush).range (flush_fits h)) before turns after
      (subst (At A laws (task_of size Flush) seat bytes start (flush_fits h) (flush_long bytes) start) (sym h.stage)
      (begins (task_of size Flush).range start (flush_fits h) [] (flush_long bytes) laws h.reached h.calm, refl)) asked

  flush_end : (h : HasBegun Flush before) (seat : ℕ) (bytes : List ℕ) (turns : List Turn) (after : Moment A)
      → Asked (task_of size Flush) seat bytes before turns after → (end : Option BlockFault) → after.stage ≡ Ended end
      → At A laws (task_of size Flush) seat bytes start (flush_fits h) (flush_long bytes) after.world (Ended end)
  flush_end h seat bytes turns after asked end ended =
      subst (At A laws (task_of size Flush) seat bytes start (flush_fits h) (flush_long bytes) after.world) ended (flush_goes h seat bytes turns after asked)

  pub flush_serves : HasBegun Flush before → (seat : ℕ) (bytes : List ℕ) (turns : List Turn) (after : Moment A)
      → Asked (task_of size Flush) seat bytes before turns after → (end : Option BlockFault) → after.stage ≡ Ended end
      → Serves (store_of start) (call_of Flush bytes) (answer_of Flush end after.answer) (store_of after.world)
  flush_serves h seat bytes turns after asked end ended = by_end end (flush_end h seat bytes turns after asked end ended)
    where
      by_end : (end : Option BlockFault) → At A laws (task_of size Flush) seat bytes start (flush_fits h) (flush_long bytes) after.world (Ended end)
          → Serves (store_of start) (call_of Flush bytes) (answer_of Flush end after.answer) (store_of after.world)
      by_end None k = wrote_none (task_of size Flush).range start (flush_fits h) [] (flush_long bytes) (past_page (task_of size Flush).range) after.world k refl
      by_end (Some fault) k = (k.0, wrote_none (task_of size Flush).range start (flush_fits h) [] (flush_long bytes) k.1.0 after.world k.1.1 refl)

  zero_answers : (request : Request) (end : Option BlockFault) (given : List ℕ) → answer_of request None given ≡ Done → answer_of request end given ≡ zero_answer end
  zero_answers request None given none = none
  zero_answers request (Some fault) given none = refl

  read_serves : (offset count : ℕ) → HasBegun (Read offset count) before → (seat : ℕ) (bytes : List ℕ) (turns : List Turn) (after : Moment A)
      → Asked (task_of size (Read offset count)) seat bytes before turns after → (end : Option BlockFault) → after.stage ≡ Ended end
      → Serves (store_of start) (call_of (Read offset count) bytes) (answer_of (Read offset count) end after.answer) (store_of after.world)
  read_serves offset count h seat bytes turns after asked None ended = read_gives A laws offset count before h seat bytes turns after asked ended
  read_serves offset count h seat bytes turns after asked (Some fault) ended =
      read_refused A laws offset count before h seat bytes turns after asked fault ended

  -- each request serves
  pub request_serves : (request : Request) → HasBegun request before → (seat : ℕ) (bytes : List ℕ) → HasBytes request bytes → (turns : List Turn)
      (after : Moment A) → Asked (task_of size request) seat bytes before turns after → (end : Option BlockFault) → after.stage ≡ Ended end
      → Serves (store_of start) (call_of request bytes) (answer_of request end after.answer) (store_of after.world)
  request_serves (Read offset count) h seat bytes many turns after asked end ended = read_serves offset count h seat bytes turns after asked end ended
  request_serves (Write offset count fua) h seat bytes many turns after asked end ended =
      write_serves offset count fua h seat bytes many turns after asked end ended
  request_serves (Zero offset count fua hole) h seat bytes many turns after asked end ended =
      subst (λ answer. Serves (store_of start) (Zeroing offset count fua hole) answer (store_of after.world))
      (sym (zero_answers (Zero offset count fua hole) end after.answer refl)) (zero_serves offset count fua hole h seat bytes turns after asked end ended)
  request_serves (Trim offset count fua) h seat bytes many turns after asked end ended =
      subst (λ answer. Serves (store_of start) (Trimming offset count fua) answer (store_of after.world))
      (sym (zero_answers (Trim offset count fua) end after.answer refl)) (trim_serves offset count fua h seat bytes turns after asked end ended)
  request_serves Flush h seat bytes many turns after asked end ended = flush_serves h seat bytes turns after asked end ended

  -- a flush wants neither room nor memory
  flush_answer : (h : HasBegun Flush before) (seat : ℕ) (bytes : List ℕ) (w : World) (fault : BlockFault) (page : ℕ)
      → EndsAt A laws (task_of size Flush) seat bytes start (flush_fits h) (flush_long bytes) (Cause laws start (task_of size Flush).range (flush_fits h)) KnowsLive
      (cause_founds laws start (task_of size Flush).range (flush_fits h)) page fault → IsAnswer Flushing (Refused fault)
  flush_answer h seat bytes w fault page (inl at) = absurd (let from = at.from in let past = at.past in omega (arith, from, past))
  flush_answer h seat bytes w fault page (inr behind) = of_two fault behind.2
    where
      is_lost_fault : BlockFault → Bool
      is_lost_fault Lost = true
      is_lost_fault fault = false

      is_spent_fault : BlockFault → Bool
      is_spent_fault Spent = true
      is_spent_fault fault = false

      of_two : (fault : BlockFault) → (fault ≡ Lost) ⊎ (fault ≡ Spent) → IsAnswer Flushing (Refused fault)
      of_two Lost either = tt
      of_two Spent either = tt
      of_two NoRoom (inl same) = absurd (false≢true (ap is_lost_fault same))
      of_two NoRoom (inr same) = absurd (false≢true (ap is_spent_fault same))
      of_two NoMemory (inl same) = absurd (false≢true (ap is_lost_fault same))
      of_two NoMemory (inr same) = absurd (false≢true (ap is_spent_fault same))

  read_answer : (offset count : ℕ) → HasBegun (Read offset count) before → (seat : ℕ) (bytes : List ℕ) (turns : List Turn) (after : Moment A)
      → Asked (task_of size (Read offset count)) seat bytes before turns after → (end : Option BlockFault) → after.stage ≡ Ended end
      → IsAnswer (Reading offset count) (answer_of (Read offset count) end after.answer)
  read_answer offset count h seat bytes turns after asked None ended =
      let inside = h.inside in
      let exported = export_long size start.plain (reached_sized laws.geometry start h.reached) in
      let many = ap (λ n. n * size) (reached_holds start h.reached).plain in
      ap length (read_gives A laws offset count before h seat bytes turns after asked ended).0
      ∙ length-bytes_at offset count (export start.plain) (omega (arith, inside, exported, many))
  read_answer offset count h seat bytes turns after asked (Some Lost) ended = tt
  read_answer offset count h seat bytes turns after asked (Some NoRoom) ended = read_may A laws offset count before h seat bytes turns after asked NoRoom ended
  read_answer offset count h seat bytes turns after asked (Some NoMemory) ended = tt
  read_answer offset count h seat bytes turns after asked (Some Spent) ended = tt

  request_answer : (request : Request) → HasBegun request before → (seat : ℕ) (bytes : List ℕ) (turns : List Turn) (after : Moment A)
      → Asked (task_of size request) seat bytes before turns after → (end : Option BlockFault) → after.stage ≡ Ended end
      → IsAnswer (call_of request bytes) (answer_of request end after.answer)
  request_answer (Read offset count) h seat bytes turns after asked end ended = read_answer offset count h seat bytes turns after asked end ended
  request_answer (Write offset count fua) h seat bytes turns after asked None ended = tt
  request_answer (Write offset count fua) h seat bytes turns after asked (Some fault) ended = tt
  request_answer (Zero offset count fua hole) h seat bytes turns after asked None ended = tt
  request_answer (Zero offset count fua hole) h seat bytes turns after asked (Some fault) ended = tt
  request_answer (Trim offset count fua) h seat bytes turns after asked None ended = tt
  request_answer (Trim offset count fua) h seat bytes turns after asked (Some fault) ended = tt
  request_answer Flush h seat bytes turns after asked None ended = tt
  request_answer Flush h seat bytes turns after asked (Some fault) ended =
      let k = flush_end h seat bytes turns after asked (Some fault) ended in flush_answer h seat bytes after.world fault k.1.0 k.1.2

  -- a request leaves the shape of the array
  asked_geometry : (t : Task) (seat : ℕ) (bytes : List ℕ) (one : Moment A) (turns : List Turn) (two : Moment A) → Asked t seat bytes one turns two
      → two.world.core.page_map.geometry ≡ one.world.core.page_map.geometry
  asked_geometry t seat bytes one [] two asked = ap (λ (m : Moment A). m.world.core.page_map.geometry) asked
  asked_geometry t seat bytes one (turn ∷ turns) two asked = asked_geometry t seat bytes asked.0 turns two asked.2 ∙ by_turn turn asked.0 asked.1
    where
      by_turn : (turn : Turn) (middle : Moment A) → TurnsTo t seat bytes one turn middle
          → middle.world.core.page_map.geometry ≡ one.world.core.page_map.geometry
      by_turn (Makes act) middle made = laws.geometry one.world.core middle.world.core act made.0.step
      by_turn Readies middle made = ap (λ (w : World). w.core.page_map.geometry) made.0
      by_turn Strayed middle made = ap (λ (w : World). w.core.page_map.geometry) made.0
      by_turn (GivesUp fault) middle made = ap (λ (w : World). w.core.page_map.geometry) made.0
      by_turn (Meanwhile happening) middle made = geometry_kept laws.geometry one.world middle.world happening made.0

  -- runs lead from where a request begins to where it goes
  pub asked_reached : (t : Task) (seat : ℕ) (bytes : List ℕ) (one : Moment A) (turns : List Turn) (two : Moment A) → IsReached one.world
      → Asked t seat bytes one turns two → IsReached two.world
  asked_reached t seat bytes one [] two reached asked = subst (λ (m : Moment A). IsReached m.world) (sym asked) reached
  asked_reached t seat bytes one (turn ∷ turns) two reached asked = asked_reached t seat bytes asked.0 turns two (by_turn turn asked.0 asked.1) asked.2
    where
      by_turn : (turn : Turn) (middle : Moment A) → TurnsTo t seat bytes one turn middle → IsReached middle.world
      by_turn (Makes act) middle made = reached_on one.world reached (Event act ∷ []) middle.world (middle.world, made.0, refl)
      by_turn Readies middle made = subst IsReached (sym made.0) reached
      by_turn Strayed middle made = subst IsReached (sym made.0) reached
      by_turn (GivesUp fault) middle made = subst IsReached (sym made.0) reached
      by_turn (Meanwhile happening) middle made = reached_on one.world reached (happening ∷ []) middle.world (middle.world, made.0, refl)

  -- each request is a call of a store
  pub request_meets : (request : Request) → HasBegun request before → (seat : ℕ) (bytes : List ℕ) → HasBytes request bytes → (turns : List Turn)
      (after : Moment A) → Asked (task_of size request) seat bytes before turns after → (end : Option BlockFault) → after.stage ≡ Ended end
      → Meets (store_of start) (call_of request bytes) (answer_of request end after.answer) (store_of after.world)
  request_meets request h seat bytes many turns after asked end ended =
      let same = asked_geometry (task_of size request) seat bytes before turns after asked in
      record {
        size = ap (λ (g : Geometry). g.pages * g.page_bytes) same;
        page_bytes = ap (λ (g : Geometry). g.page_bytes) same;
        alone = refl;
        gives = request_answer request h seat bytes turns after asked end ended;
        served = λ alone. request_serves request h seat bytes many turns after asked end ended;
      }

  -- no request strays
  stray : (t : Task) (f : Fits start t.range) (seat : ℕ) (bytes : List ℕ) (long : length (bytes_for t.fill t.range bytes) ≡ t.range.to - t.range.from)
      → (middle after : Moment A) → At A laws t seat bytes start f long middle.world middle.stage → TurnsTo t seat bytes middle Strayed after → ⊥
  stray t f seat bytes long middle after k strays =
      no_stray A laws t seat bytes start f long (Cause laws start t.range f) KnowsLive (cause_founds laws start t.range f) middle.world middle.stage after.stage k
      strays.1 strays.2

  pub request_strays : (request : Request) → HasBegun request before → (seat : ℕ) (bytes : List ℕ) → HasBytes request bytes → (turns : List Turn)
      (middle after : Moment A) → Asked (task_of size request) seat bytes before turns middle → TurnsTo (task_of size request) seat bytes middle Strayed after → ⊥
  request_strays (Read offset count) h seat bytes many turns middle after asked strays =
      let at = read_on_end A laws offset count before h seat bytes turns middle asked in
      no_stray_read A laws (task_of size (Read offset count)) seat bytes start (read_fits A laws offset count before h) middle.world middle.answer middle.stage
      after.stage at.goes at.at strays.1 strays.2
  request_strays (Write offset count fua) h seat bytes many turns middle after asked strays =
      let t = task_of size (Write offset count fua) in
      let f = write_fits offset count fua h in
      let long = write_long offset count bytes many in
      stray t f seat bytes long middle after (goes_at t f seat bytes long h.reached h.calm h.stage turns middle asked) strays
  request_strays (Zero offset count fua hole) h seat bytes many turns middle after asked strays =
      let t = task_of size (Zero offset count fua hole) in
      let f = zero_fits offset count fua hole h in
      let long = zero_long t.range hole bytes in
      stray t f seat bytes long middle after (goes_at t f seat bytes long h.reached h.calm h.stage turns middle asked) strays
  request_strays (Trim offset count fua) h seat bytes many turns middle after asked strays =
      let t = task_of size (Trim offset count fua) in
      let f = trim_fits offset count fua h in
      let long : length (bytes_for t.fill t.range bytes) ≡ t.range.to - t.range.from = length-replicate (t.range.to - t.range.from) 0 in
      stray t f seat bytes long middle after (goes_at t f seat bytes long h.reached h.calm h.stage turns middle asked) strays
  request_strays Flush h seat bytes many turns middle after asked strays =
      stray (task_of size Flush) (flush_fits h) seat bytes (flush_long bytes) middle after (flush_goes h seat bytes turns middle asked) strays
