-- What was programmed, synced and left is what an image that is honest reads again.
use Rattle.std.proofs.Common.{◌≡◌, ℕ, ◌+◌, ◌≤◌, IsTrue, List, [], ◌∷◌, length, replicate, ap, ◌∙◌, arith}
use Rattle.std.proofs.lemmas.List.{length-replicate}
use Rattle.fa_image.specs.File.{Start, opened, file_of}
use Rattle.fa_image.specs.FileMade.{file_view, file_is_honest, FileMade}
use Rattle.fa_image.specs.FileMeets.{file_meets, file_whole}
use Rattle.fa_image.specs.Image.{ImageState, ReadingSlot, Programming, Syncing, Gave, Done, slot_at, with_written}
use Rattle.fa_image.specs.declared.file_image.FileImage.{FileImage}
use Rattle.fa_image.specs.Opened.{reopened}
use Rattle.fa_image.specs.Slots.{inside}

-- a file with what is seen of an image, and nothing else
abbrev pub left_by : ImageState → Start
left_by image = record { bytes = file_of image (replicate 3984 0) []; lefts = [] }

pub read_back : (new written left again last : FileImage) (slot : ℕ) (bytes found : List ℕ)
    → FileMade new (Programming slot bytes) Done written → FileMade written Syncing Done left
    → file_view again ≡ opened (file_view left).geometry (left_by (file_view left))
    → FileMade again (ReadingSlot slot) (Gave found) last → IsTrue (file_is_honest last) → found ≡ bytes
read_back new written left again last slot bytes found programmed synced opens reads honest =
    let program = file_meets new written (Programming slot bytes) Done programmed in
    let sync = file_meets written left Syncing Done synced in
    let read = file_meets again last (ReadingSlot slot) (Gave found) reads in
    let state = file_view new in
    let same : file_view again ≡ record (file_view left) { syncs = 0; faults = 0 } =
    opens ∙ reopened (file_view left) (replicate 3984 0) [] [] (file_whole left) (length-replicate {A = ℕ} 3984 0) in
    let room : slot + 1 ≤ length state.slots = omega (arith, (file_whole new).whole.0, program.allowed.0) in
    read.told honest
    ∙ ap (λ (image : ImageState). slot_at slot image) same
    ∙ ap (λ (image : ImageState). slot_at slot image) sync.leads
    ∙ ap (λ (image : ImageState). slot_at slot image) program.leads
    ∙ ap (λ (i : ℕ). slot_at i (with_written slot (bytes ∷ []) state)) (omega arith)
    ∙ inside state slot (bytes ∷ []) room 0 (omega arith)
