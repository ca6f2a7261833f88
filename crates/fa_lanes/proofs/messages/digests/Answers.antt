use Rattle.std.proofs.Common.{◌≡◌, ℕ, List, [], ◌+◌, ◌-◌, ◌*◌, ◌/◌, ◌<◌, length, map, ap, arith, subst, sym, ◌∙◌, length-drop}
use Rattle.std.proofs.lemmas.List.{ext_get_or, get_or-map, length-map}
use Rattle.std.proofs.lemmas.List.Elements.{All-get_or, All-from_get_or}
use Rattle.std.specs.Borrow.{Bor}
use Rattle.sha2.specs.Sha256.{sha256}
use Rattle.fa_lanes.specs.Hashing.{IsPadding}
use Rattle.fa_lanes.specs.Lanes.{message}
use Rattle.fa_lanes.proofs.Chaining.{digest_of_lane}
use Rattle.fa_lanes.proofs.messages.digests.Goals as goal

pub returns : goal.returns
returns c =
    let messages = c.args.messages.now in
    let none : Bor (List ℕ) = record { ref_ptr = (0, 0); now = [] } in
    let bytes : ℕ = c.length_of-bytes.result in
    let same_size = λ (l : ℕ) (lt : l < 8). All-get_or (λ m. length m.now ≡ c.requires.one_length.0) messages l none (omega arith) c.requires.one_length.1 in
    let size = λ (l : ℕ) (lt : l < 8). same_size l lt ∙ sym (same_size 0 (omega arith)) ∙ sym c.length_of-bytes.ensures.length in
    let from : ℕ = 64 * (bytes / 64) in
    let whole : from + (bytes - from) ≡ bytes = omega arith in
    let left = λ (l : ℕ) (lt : l < 8).
    let long : bytes - from ≡ length (message c.tails.result l) =
    ap (λ (n : ℕ). n - from) (sym (size l lt)) ∙ sym (length-drop from (message messages l)) ∙ ap length (sym (c.tails.ensures.tails l lt)) in
    subst (IsPadding c.new-padding.result (from + (bytes - from))) long c.new-padding.ensures in
    let padded = All-from_get_or (λ tail. IsPadding c.new-padding.result (from + (bytes - from)) (length tail.now)) c.tails.result none (λ l lt. left l (omega (arith, c.tails.ensures.size))) in
    let each = c.finish_states.ensures.digests (from + (bytes - from)) padded in
    ext_get_or [] c.finish_states.result (map (λ m. sha256 m.now) messages) (c.finish_states.ensures.size ∙ sym (length-map messages _ ∙ c.requires.eight))
    (λ l lt.
    let in_lanes : l < 8 = omega (arith, c.finish_states.ensures.size) in
    digest_of_lane (message messages l) (message c.tails.result l) _ _ (bytes / 64) from (from + (bytes - from)) (omega arith) (omega (arith, size l in_lanes))
    (whole ∙ sym (size l in_lanes)) (c.take_blocks-state.ensures l in_lanes) (c.tails.ensures.tails l in_lanes) (each l in_lanes)
    ∙ sym (get_or-map (λ m. sha256 m.now) messages l none [] (omega (arith, c.requires.eight))))
