use Rattle.std.proofs.Common.{◌≡◌, ◌-◌, ◌*◌, ◌/◌, All, ℕ, length, ap, arith, subst, sym, ◌∙◌}
use Rattle.std.proofs.lemmas.Simd.{get_or-replicate}
use Rattle.flasharr_lab_calls.proofs.Parts.{eight_of}
use Rattle.flasharr_lab_calls.proofs.digests.begun_and_finished.Goals as goal

pub begin-begun-requires-clause-whole : goal.begin-begun-requires-clause-whole
begin-begun-requires-clause-whole c =
    let bytes : ℕ = 64 * (c.args.bytes / 64) - 0 in
    let all = subst (All (λ part. length part.now ≡ bytes)) (sym c.deref.ensures.value) c.in_ok-payloads.ensures in
    (bytes, omega arith, eight_of bytes (8 * c.eights.i) _ all)

pub begin-begun-requires-in-rest-clause-whole : goal.begin-begun-requires-in-rest-clause-whole
begin-begun-requires-in-rest-clause-whole c =
    let part = c.index.result.now in
    let bytes : ℕ = 64 * (c.args.bytes / 64) - 0 in
    let size : length part.now ≡ bytes = ap (λ m. length m.now) c.index.ensures ∙ c.in_ok-payloads.ensures c.rest.i part (omega arith) in
    (length part.now, omega (arith, size), λ k d lt. ap (λ t. length t.now) (get_or-replicate 8 k part d lt))
