-- An image in a file is an image: each call that it makes is one, and it has the slots of its geometry.
use Rattle.std.proofs.Common.{◌≡◌, ℕ, ◌+◌, ◌-◌, ◌*◌, ◌≤◌, ◌<◌, Bool, true, false, ◌&&◌, IsTrue, List, [], ◌++◌}
use Rattle.std.proofs.Common.{length, take, drop, replicate}
use Rattle.std.proofs.Common.{slice_index_or, bytes_eq, refl, ap, sym, ◌∙◌, arith, append_assoc, length-append, length-take, length-drop}
use Rattle.std.proofs.lemmas.List.{take-append-le, drop-append-le, drop-drop, take-take, drop-take, take_at, drop_at, length-replicate}
use Rattle.std.proofs.lemmas.Bool.{false≢true}
use Rattle.std.proofs.lemmas.Slice.Eq.{bytes_eq-Decides}
use Rattle.std.proofs.Math.Seq.{take-append-add}
use Rattle.fa_types.specs.Store.{with_bytes, bytes_at}
use Rattle.fa_types.proofs.Lengths.{length-bytes_at}
use Rattle.fa_types.specs.declared.geometry.Geometry.{Geometry}
use Rattle.fa_ghost.specs.Contents.{Contents, fitted, next_left}
use Rattle.fa_image.specs.Cut.{cut, AreSlots-cut}
use Rattle.fa_image.specs.File.{slots_in, state_in, slot_offset, file_bytes, after_call}
use Rattle.fa_image.specs.FileMade.{file_view, file_is_honest, FileMade}
use Rattle.fa_image.specs.Image.{ImageState, IsImage, with_slots, slot_bytes, slot_count}
use Rattle.fa_image.specs.Image.{ImageCall, ReadingSlot, Programming, Erasing, ReadingHeader, WritingHeader, Syncing}
use Rattle.fa_image.specs.Image.{ImageAnswer, Gave, Done, Refused, IsCallOf, IsAnswerTo, LeadsTo, IsTrueAnswer, StaysHonest}
use Rattle.fa_image.specs.Image.{ImageMeets, syncs_after, faults_after, one_more}
use Rattle.fa_image.specs.Untouched.{block_fits}
use Rattle.fa_image.specs.declared.file_image.FileImage.{FileImage}
use Rattle.fa_image.specs.Cuts.{cut-with_bytes, cut-one, cut-replicate, slot-cut, part_fits}

-- a write within a part, seen in that part
bytes_at-with_bytes : (start n offset : ℕ) (bytes all : List ℕ) → offset + length bytes ≤ n → start + n ≤ length all
    → bytes_at start n (with_bytes (start + offset) bytes all) ≡ with_bytes offset bytes (bytes_at start n all)
bytes_at-with_bytes start n offset bytes all inside fits =
    let m = offset + length bytes in
    let front = take (start + offset) all in
    let back = drop (start + offset + length bytes) all in
    let part = drop start all in
    let written = take offset part ++ bytes in
    let front_len : length front ≡ start + offset = length-take (start + offset) all ∙ omega arith in
    let written_len : length written ≡ m =
    length-append (take offset part) bytes ∙ omega (arith, length-take offset part, length-drop start all) in
    let rest : m + (n - m) ≡ n = omega arith in
    let sum : start + m ≡ start + offset + length bytes = omega arith in
    let dropped : drop start ((front ++ bytes) ++ back) ≡ written ++ back =
    drop-append-le start (front ++ bytes) back (omega (arith, length-append front bytes))
    ∙ ap (λ (l : List ℕ). l ++ back) (drop-append-le start front bytes (omega arith))
    ∙ ap (λ (l : List ℕ). (l ++ bytes) ++ back) (drop-take start offset all) in
    let taken : take n (written ++ back) ≡ written ++ take (n - m) back =
    ap (λ (k : ℕ). take k (written ++ back)) (omega arith) ∙ take-append-add written back (n - m) in
    let behind : drop m (take n part) ≡ take (n - m) back =
    ap (λ (k : ℕ). drop m (take k part)) (sym rest) ∙ drop-take m (n - m) part
    ∙ ap (λ (l : List ℕ). take (n - m) l) (drop-drop m start all ∙ ap (λ (k : ℕ). drop k all) sum) in
    ap (λ (l : List ℕ). take n l) dropped ∙ taken
    ∙ ap (λ (l : List ℕ). written ++ l) (sym behind)
    ∙ ap (λ (l : List ℕ). (l ++ bytes) ++ drop m (take n part)) (sym (take-take offset n part (omega arith)))

-- a write behind the header leaves it
header_kept : (n offset : ℕ) (bytes all : List ℕ) → n ≤ offset → offset ≤ length all → take n (with_bytes offset bytes all) ≡ take n all
header_kept n offset bytes all behind fits =
    let front = take offset all in
    let rest = drop (offset + length bytes) all in
    ap (λ (l : List ℕ). take n l) (append_assoc front bytes rest)
    ∙ take-append-le n front (bytes ++ rest) (omega (arith, length-take offset all))
    ∙ take-take n offset all behind

-- a write of the header
header_written : (n : ℕ) (bytes all : List ℕ) → length bytes ≡ n → take n (with_bytes 0 bytes all) ≡ bytes
header_written n bytes all is = take_at bytes (drop (0 + length bytes) all) n is

-- leaves what is behind it
behind_kept : (start n k : ℕ) (bytes all : List ℕ) → length bytes + k ≡ start
    → bytes_at start n (with_bytes 0 bytes all) ≡ bytes_at start n all
behind_kept start n k bytes all sum =
    let rest = drop (0 + length bytes) all in
    let first : drop start (bytes ++ rest) ≡ drop k rest =
    ap (λ (i : ℕ). drop i (bytes ++ rest)) (sym sum) ∙ sym (drop-drop k (length bytes) (bytes ++ rest))
    ∙ ap (λ (l : List ℕ). drop k l) (drop_at bytes rest (length bytes) refl) in
    let second : drop k rest ≡ drop start all = drop-drop k (0 + length bytes) all ∙ ap (λ (i : ℕ). drop i all) (omega arith) in
    ap (λ (l : List ℕ). take n l) (first ∙ second)

-- a slot among bytes
slot_read : (start count size slot : ℕ) (all : List ℕ) → slot < count
    → bytes_at (start + slot * size) size all ≡ slice_index_or (cut count size (bytes_at start (count * size) all)) slot []
slot_read start count size slot all below =
    let n = count * size in
    let offset = slot * size in
    let part = drop start all in
    let room : slot * size + 1 * size ≤ count * size = part_fits slot 1 count size (omega arith) in
    let rest : offset + (n - offset) ≡ n = omega arith in
    let whole : drop offset (take n part) ≡ take (n - offset) (drop (start + offset) all) =
    ap (λ (k : ℕ). drop offset (take k part)) (sym rest) ∙ drop-take offset (n - offset) part
    ∙ ap (λ (l : List ℕ). take (n - offset) l) (drop-drop offset start all) in
    sym (slot-cut count size slot (bytes_at start n all) below
    ∙ ap (λ (l : List ℕ). take size l) whole ∙ take-take size (n - offset) (drop (start + offset) all) (omega arith))

length-fitted : (n : ℕ) (bytes : List ℕ) → length (fitted n bytes) ≡ n
length-fitted n bytes =
    length-take n (bytes ++ replicate n 0) ∙ omega (arith, length-append bytes (replicate n 0), length-replicate {A = ℕ} n 0)

both : (a b : Bool) → IsTrue (a && b) → IsTrue a × IsTrue b
both true b h = (refl, h)
both false b h = absurd (false≢true h)

same_bytes : (x y : List ℕ) → IsTrue (bytes_eq x y) → x ≡ y
same_bytes x y h = (bytes_eq-Decides x y).0 h

slots_written : (g : Geometry) (first k : ℕ) (bytes all : List ℕ) → first + k ≤ slot_count g → length bytes ≡ k * slot_bytes g
    → file_bytes g ≤ length all
    → slots_in g (with_bytes (slot_offset g first) bytes all) ≡ with_slots first (cut k (slot_bytes g) bytes) (slots_in g all)
slots_written g first k bytes all fits is sized =
    let count = slot_count g in
    let size = slot_bytes g in
    let n = count * size in
    let room = part_fits first k count size fits in
    ap (λ (l : List ℕ). cut count size l) (bytes_at-with_bytes 4096 n (first * size) bytes all (omega arith) sized)
    ∙ cut-with_bytes count size first k bytes (bytes_at 4096 n all) fits is (length-bytes_at 4096 n all sized)

module _ (g : Geometry) (file : Contents) (syncs faults : ℕ) (sized : file_bytes g ≤ length file.bytes) where
  abbrev seen : ℕ → ℕ → List ℕ → ImageState
  seen s f bytes = state_in g bytes s f

  -- a write of slots
  put_slots : (first k f : ℕ) (bytes : List ℕ) → first + k ≤ slot_count g → length bytes ≡ k * slot_bytes g
      → seen syncs f (with_bytes (slot_offset g first) bytes file.bytes)
      ≡ record (seen syncs f file.bytes) { slots = with_slots first (cut k (slot_bytes g) bytes) (slots_in g file.bytes) }
  put_slots first k f bytes fits is =
      let room = part_fits first k (slot_count g) (slot_bytes g) fits in
      let of : List (List ℕ) → List ℕ → ImageState =
      λ slots header. record { geometry = g; slots = slots; header = header; syncs = syncs; faults = f } in
      ap (λ (l : List (List ℕ)). of l (take 112 (with_bytes (slot_offset g first) bytes file.bytes)))
      (slots_written g first k bytes file.bytes fits is sized)
      ∙ ap (of (with_slots first (cut k (slot_bytes g) bytes) (slots_in g file.bytes)))
      (header_kept 112 (slot_offset g first) bytes file.bytes (omega arith) (omega (arith, sized)))

  -- a write of the header
  put_header : (f : ℕ) (bytes : List ℕ) → length bytes ≡ 112
      → seen syncs f (with_bytes 0 bytes file.bytes) ≡ record (seen syncs f file.bytes) { header = bytes }
  put_header f bytes is =
      let size = slot_count g * slot_bytes g in
      let of : List ℕ → List ℕ → ImageState =
      λ flat header. record { geometry = g; slots = cut (slot_count g) (slot_bytes g) flat; header = header; syncs = syncs; faults = f } in
      ap (λ (l : List ℕ). of l (take 112 (with_bytes 0 bytes file.bytes))) (behind_kept 4096 size 3984 bytes file.bytes (omega arith))
      ∙ ap (of (bytes_at 4096 size file.bytes)) (header_written 112 bytes file.bytes is)

  after : ImageCall → ImageAnswer → ImageState
  after call answer = seen (syncs_after call answer syncs) (faults_after answer faults) (after_call g call answer file).bytes

  one : (bytes : List ℕ) → length bytes ≡ slot_bytes g → length bytes ≡ 1 * slot_bytes g
  one bytes is = omega arith

  leads : (call : ImageCall) (answer : ImageAnswer) → IsCallOf g call → IsAnswerTo g call answer
      → LeadsTo call answer (seen syncs faults file.bytes) (after call answer)
  unfolding after
  leads (ReadingSlot slot) (Gave bytes) of is = refl
  leads (ReadingSlot slot) (Refused fault) of is = refl
  leads ReadingHeader (Gave bytes) of is = refl
  leads ReadingHeader (Refused fault) of is = refl
  leads (Programming slot bytes) Done of is =
      put_slots slot 1 faults bytes (omega (arith, of.0)) (one bytes of.1)
      ∙ ap (λ (l : List (List ℕ)). record (seen syncs faults file.bytes) { slots = with_slots slot l (slots_in g file.bytes) })
      (cut-one (slot_bytes g) bytes of.1)
  leads (Programming slot bytes) (Refused fault) of is =
      let left = fitted (slot_bytes g) (next_left file) in
      let left_is : length left ≡ 1 * slot_bytes g = one left (length-fitted (slot_bytes g) (next_left file)) in
      let room : slot + 1 ≤ slot_count g = omega (arith, of.0) in
      (cut 1 (slot_bytes g) left, AreSlots-cut 1 (slot_bytes g) left left_is, put_slots slot 1 (one_more faults) left room left_is)
  leads (Erasing block) Done of is =
      let erased = replicate (g.slots * slot_bytes g) 0xff in
      let fits = block_fits block g.slots g.blocks of in
      put_slots (block * g.slots) g.slots faults erased fits (length-replicate (g.slots * slot_bytes g) 0xff)
      ∙ ap (λ (l : List (List ℕ)). record (seen syncs faults file.bytes) { slots = with_slots (block * g.slots) l (slots_in g file.bytes) })
      (cut-replicate g.slots (slot_bytes g) 0xff)
  leads (Erasing block) (Refused fault) of is =
      let left = fitted (g.slots * slot_bytes g) (next_left file) in
      let left_is = length-fitted (g.slots * slot_bytes g) (next_left file) in (
        cut g.slots (slot_bytes g) left,
        AreSlots-cut g.slots (slot_bytes g) left left_is,
        put_slots (block * g.slots) g.slots (one_more faults) left (block_fits block g.slots g.blocks of) left_is,
      )
  leads (WritingHeader bytes) Done of is = put_header faults bytes of
  leads (WritingHeader bytes) (Refused fault) of is =
      let left = fitted 112 (next_left file) in
      (left, length-fitted 112 (next_left file), put_header (one_more faults) left (length-fitted 112 (next_left file)))
  leads Syncing Done of is = refl
  leads Syncing (Refused fault) of is = refl
  leads (ReadingSlot slot) Done of is = absurd is
  leads ReadingHeader Done of is = absurd is
  leads (Programming slot bytes) (Gave given) of is = absurd is
  leads (Erasing block) (Gave given) of is = absurd is
  leads (WritingHeader bytes) (Gave given) of is = absurd is
  leads Syncing (Gave given) of is = absurd is

  told : (call : ImageCall) (answer : ImageAnswer) → IsCallOf g call → IsAnswerTo g call answer
      → IsTrue (after_call g call answer file).honest → IsTrueAnswer call answer (seen syncs faults file.bytes)
  told (ReadingSlot slot) (Gave bytes) of is honest =
      same_bytes bytes (bytes_at (slot_offset g slot) (length bytes) file.bytes) (both file.honest _ honest).1
      ∙ ap (λ (n : ℕ). bytes_at (slot_offset g slot) n file.bytes) is
      ∙ slot_read 4096 (slot_count g) (slot_bytes g) slot file.bytes of
  told ReadingHeader (Gave bytes) of is honest =
      same_bytes bytes (bytes_at 0 (length bytes) file.bytes) (both file.honest _ honest).1
      ∙ ap (λ (n : ℕ). bytes_at 0 n file.bytes) is
  told (ReadingSlot slot) Done of is honest = tt
  told (ReadingSlot slot) (Refused fault) of is honest = tt
  told ReadingHeader Done of is honest = tt
  told ReadingHeader (Refused fault) of is honest = tt
  told (Programming slot bytes) answer of is honest = tt
  told (Erasing block) answer of is honest = tt
  told (WritingHeader bytes) answer of is honest = tt
  told Syncing answer of is honest = tt

  stays : (call : ImageCall) (answer : ImageAnswer) → StaysHonest call file.honest (after_call g call answer file).honest
  stays (ReadingSlot slot) (Gave bytes) = λ h. (both file.honest _ h).0
  stays (ReadingSlot slot) Done = λ h. h
  stays (ReadingSlot slot) (Refused fault) = λ h. h
  stays ReadingHeader (Gave bytes) = λ h. (both file.honest _ h).0
  stays ReadingHeader Done = λ h. h
  stays ReadingHeader (Refused fault) = λ h. h
  stays (Programming slot bytes) (Gave given) = refl
  stays (Programming slot bytes) Done = refl
  stays (Programming slot bytes) (Refused fault) = refl
  stays (Erasing block) (Gave given) = refl
  stays (Erasing block) Done = refl
  stays (Erasing block) (Refused fault) = refl
  stays (WritingHeader bytes) (Gave given) = refl
  stays (WritingHeader bytes) Done = refl
  stays (WritingHeader bytes) (Refused fault) = refl
  stays Syncing (Gave given) = refl
  stays Syncing Done = refl
  stays Syncing (Refused fault) = refl

  pub met : (call : ImageCall) (answer : ImageAnswer) → IsCallOf g call → IsAnswerTo g call answer
      → ImageMeets (seen syncs faults file.bytes) file.honest call answer
      (seen (syncs_after call answer syncs) (faults_after answer faults) (after_call g call answer file).bytes)
      (after_call g call answer file).honest
  unfolding after
  met call answer of is = record {
    allowed = of;
    answers = is;
    leads = leads call answer of is;
    told = told call answer of is;
    honest = stays call answer;
  }

-- the same, where what follows is told by equations
led : (before : ImageState) (was : Bool) (call : ImageCall) (answer : ImageAnswer) (g g' : Geometry) (file file' : Contents) (s s' f f' : ℕ)
    → g' ≡ g → file' ≡ file → s' ≡ s → f' ≡ f → ImageMeets before was call answer (state_in g file.bytes s f) file.honest
    → ImageMeets before was call answer (state_in g' file'.bytes s' f') file'.honest
led before was call answer g g' file file' s s' f f' geometry contents syncs faults meets = rw (geometry, contents, syncs, faults) meets

pub file_meets : (before after : FileImage) (call : ImageCall) (answer : ImageAnswer) → FileMade before call answer after
    → ImageMeets (file_view before) (file_is_honest before) call answer (file_view after) (file_is_honest after)
file_meets before later call answer made =
    let g = before.geometry in
    let file = before.held.shown in
    led (file_view before) (file_is_honest before) call answer g later.geometry (after_call g call answer file) later.held.shown
    (syncs_after call answer before.syncs) later.syncs (faults_after answer before.faults) later.faults
    made.geometry made.contents made.syncs made.faults
    (met g file before.syncs before.faults before.sized call answer made.allowed made.answers)

pub file_whole : (image : FileImage) → IsImage (file_view image)
file_whole image =
    let g = image.geometry in
    let n = slot_count g * slot_bytes g in
    let bytes = image.held.shown.bytes in record {
      whole = AreSlots-cut (slot_count g) (slot_bytes g) (bytes_at 4096 n bytes) (length-bytes_at 4096 n bytes image.sized);
      headed = length-take 112 bytes ∙ omega (arith, image.sized);
    }
