use Rattle.std.proofs.Common.{◌≡◌, ℕ, List, [], ◌∷◌, ◌++◌, map, slice_index_or, take, ap, arith, sym, ◌∙◌}
use Rattle.std.proofs.lemmas.List.{get_or-map, length-map, length-set, take_more, take_more_set}
use Rattle.std.specs.Borrow.{Bor}
use Rattle.fa_tag.proofs.payload_digest.begin_eight.Goals as goal

pub payloads-preserved : goal.payloads-preserved
payloads-preserved c =
    let payloads = c.args.payloads.now in
    let hashed : List (List ℕ) = map (λ payload. payload.now) payloads in
    let none : Bor (List ℕ) = record { ref_ptr = (0, 0); now = [] } in
    let i : ℕ = c.payloads.i in
    let one : c.among.result ≡ slice_index_or hashed i [] = c.among.ensures ∙ sym (get_or-map (λ payload. payload.now) payloads i none [] (omega arith)) in (
      length-set c.payloads.digests i c.among.result ∙ c.payloads.invariant.0,
      take_more_set c.payloads.digests i c.among.result (omega arith)
          ∙ ap (λ (l : List (List ℕ)). l ++ c.among.result ∷ []) c.payloads.invariant.1
          ∙ ap (λ (d : List ℕ). take i hashed ++ d ∷ []) one
          ∙ sym (take_more hashed i [] (omega (arith, length-map payloads (λ payload. payload.now)))),
    )
