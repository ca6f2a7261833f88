-- Bytes that are all zeros give slots of zeros.
use Rattle.std.proofs.Common.{◌≡◌, ◌∙◌, ap, ℕ, ◌+◌, ◌*◌, List, take, replicate, arith}
use Rattle.std.proofs.lemmas.List.{take-replicate, drop-replicate, take_all, length-replicate}
use Rattle.fa_types.specs.declared.geometry.Geometry.{Geometry}
use Rattle.fa_types.specs.Store.{bytes_at}
use Rattle.fa_ghost.specs.Contents.{Contents}
use Rattle.fa_image.specs.Cut.{cut}
use Rattle.fa_image.specs.Cuts.{cut-replicate}
use Rattle.fa_image.specs.File.{state_in, of_zeros, file_bytes}
use Rattle.fa_image.specs.Image.{ImageState, slot_bytes, slot_count}
use Rattle.fa_image.proofs.file_image.FileImage.empty.Goals as goal

zeros_at : (start n : ℕ) → bytes_at start n (replicate (start + n) 0) ≡ replicate n 0
zeros_at start n =
    ap (λ (l : List ℕ). take n l) (drop-replicate start (start + n) 0 ∙ ap (λ (k : ℕ). replicate k 0) (omega arith))
    ∙ take_all n (replicate n 0) (omega (arith, length-replicate {A = ℕ} n 0))

zeros : (g : Geometry) → state_in g (replicate (file_bytes g) 0) 0 0 ≡ of_zeros g
zeros g =
    let n = slot_count g * slot_bytes g in
    let of : List (List ℕ) → List ℕ → ImageState =
    λ slots header. record { geometry = g; slots = slots; header = header; syncs = 0; faults = 0 } in
    ap (λ (l : List ℕ). of (cut (slot_count g) (slot_bytes g) l) (take 112 (replicate (file_bytes g) 0))) (zeros_at 4096 n)
    ∙ ap (λ (l : List (List ℕ)). of l (take 112 (replicate (file_bytes g) 0))) (cut-replicate (slot_count g) (slot_bytes g) 0)
    ∙ ap (of (replicate (slot_count g) (replicate (slot_bytes g) 0))) (take-replicate 112 (file_bytes g) 0 (omega arith))

pub returns-clause-view : goal.returns-clause-view
returns-clause-view g c =
    let g' = c.args.self.now.geometry in
    ap (λ (held : Contents). state_in g' held.bytes 0 0) c.begin-self.ensures ∙ zeros g'
