use Rattle.std.proofs.Common.{rules, ◌≡◌, ℕ, List, [], ◌∷◌, ◌+◌, ◌-◌, ◌*◌, ◌++◌, length, map, take, drop, ap, arith, slice_index_or, sym, ◌∙◌}
use Rattle.std.proofs.Math.Seq.{take-add}
use Rattle.std.proofs.lemmas.List.{drop-map, get_or-map, length-drop, length-map, length-take-le, length-set, take-map, take_more, take_more_set}
use Rattle.std.proofs.lemmas.Slice.{overwrites, take-put_mid}
use Rattle.std.specs.Borrow.{Bor}
use Rattle.sha2.specs.Sha256.{sha256}
use Rattle.fa_lanes.proofs.messages.digest_all.Goals as goal

pub eights-preserved : goal.eights-preserved
eights-preserved c =
    let digests : List (List ℕ) = map (λ m. sha256 m.now) c.args.messages.now in
    let from : ℕ = 8 * c.eights.i in
    let next : 8 * (c.eights.i + 1) ≡ from + 8 = omega arith in
    let eight : from + 8 - from ≡ 8 = omega arith in
    let found : c.copy_from_slice.new.self ≡ take 8 (drop from digests) =
    c.copy_from_slice.ensures.after ∙ c.digests-found.ensures ∙ sym (ap (λ (n : ℕ). take n (drop from digests)) (sym eight)
    ∙ ap (take (from + 8 - from)) (drop-map (λ m. sha256 m.now) from c.args.messages.now)
    ∙ take-map (λ m. sha256 m.now) (from + 8 - from) (drop from c.args.messages.now)) in
    let size : length c.copy_from_slice.new.self ≡ 8 =
    ap length found ∙ length-take-le 8 (drop from digests) (omega (arith, length-drop from digests, length-map c.args.messages.now (λ m. sha256 m.now))) in (
      search (rules, overwrites),
      take-put_mid from _ c.eights.out c.copy_from_slice.new.self (8 * (c.eights.i + 1)) (omega arith) (omega arith)
          ∙ ap (λ (l : List (List ℕ)). l ++ c.copy_from_slice.new.self) c.eights.invariant.1
          ∙ ap (λ (l : List (List ℕ)). take from digests ++ l) found ∙ sym (take-add from 8 digests) ∙ ap (λ (n : ℕ). take n digests) (sym next),
    )

pub rest-preserved : goal.rest-preserved
rest-preserved c =
    let messages = c.args.messages.now in
    let digests : List (List ℕ) = map (λ m. sha256 m.now) messages in
    let none : Bor (List ℕ) = record { ref_ptr = (0, 0); now = [] } in
    let one : c.digest.result ≡ slice_index_or digests c.rest.i [] = c.digest.ensures ∙ sym (get_or-map (λ m. sha256 m.now) messages c.rest.i none [] (omega arith)) in (
      length-set c.rest.out c.rest.i c.digest.result ∙ c.rest.invariant.0,
      take_more_set c.rest.out c.rest.i c.digest.result (omega arith)
          ∙ ap (λ (l : List (List ℕ)). l ++ c.digest.result ∷ []) c.rest.invariant.1
          ∙ ap (λ (d : List ℕ). take c.rest.i digests ++ d ∷ []) one
          ∙ sym (take_more digests c.rest.i [] (omega (arith, length-map messages (λ m. sha256 m.now)))),
    )
