use Rattle.std.proofs.Common.{rules, ◌≡◌, ℕ, List, [], ◌∷◌, ◌+◌, ◌-◌, ◌*◌, ◌++◌, length, map, slice_index_or, take, drop, ap, arith, sym, ◌∙◌, length-drop}
use Rattle.std.proofs.lemmas.List.{drop-map, get_or-map, length-map, length-set, length-take-le, take-map, take_more, take_more_set}
use Rattle.std.proofs.lemmas.Slice.{overwrites}
use Rattle.std.specs.Borrow.{Bor}
use Rattle.fa_tag.proofs.ByEights.{eight_more, eight_put}
use Rattle.fa_tag.proofs.payload_digest.PayloadDigest.begin_all.Goals as goal

pub eights-preserved : goal.eights-preserved
eights-preserved c =
    let payloads = c.args.payloads.now in
    let hashed : List (List ℕ) = map (λ payload. payload.now) payloads in
    let new : List (List ℕ) = c.begin_eight.new.digests in
    let from : ℕ = 8 * c.eights.i in
    let found : new ≡ take (from + 8 - from) (drop from hashed) =
    c.begin_eight.ensures ∙ sym (ap (take (from + 8 - from)) (drop-map (λ payload. payload.now) from payloads)
    ∙ take-map (λ payload. payload.now) (from + 8 - from) (drop from payloads)) in
    let size : length new ≡ 8 =
    ap length found ∙ length-take-le (from + 8 - from) (drop from hashed) (omega (arith, length-drop from hashed, length-map payloads (λ payload. payload.now))) ∙ omega arith in (
      search (rules, overwrites),
      eight_put c.eights.digests new c.eights.i _ size (omega arith) ∙ ap (λ (l : List (List ℕ)). l ++ new) c.eights.invariant.1
          ∙ ap (λ (l : List (List ℕ)). take from hashed ++ l) found ∙ sym (eight_more hashed c.eights.i),
    )

pub rest-preserved : goal.rest-preserved
rest-preserved c =
    let payloads = c.args.payloads.now in
    let hashed : List (List ℕ) = map (λ payload. payload.now) payloads in
    let none : Bor (List ℕ) = record { ref_ptr = (0, 0); now = [] } in
    let i : ℕ = c.rest.i in
    let one : c.begin.result ≡ slice_index_or hashed i [] = c.begin.ensures ∙ sym (get_or-map (λ payload. payload.now) payloads i none [] (omega arith)) in (
      length-set c.rest.digests i c.begin.result ∙ c.rest.invariant.0,
      take_more_set c.rest.digests i c.begin.result (omega arith)
          ∙ ap (λ (l : List (List ℕ)). l ++ c.begin.result ∷ []) c.rest.invariant.1
          ∙ ap (λ (d : List ℕ). take i hashed ++ d ∷ []) one
          ∙ sym (take_more hashed i [] (omega (arith, length-map payloads (λ payload. payload.now)))),
    )
